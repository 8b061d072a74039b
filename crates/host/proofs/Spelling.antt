-- Digits written from the last to the first, before those that stand there, spell the number.
use Rattle.std.proofs.Common.{◌≡◌, ℕ, suc, ◌+◌, ◌-◌, ◌/◌, ◌%◌, ◌^◌, ◌<◌, ◌≤◌, false, List, [], ◌∷◌, ◌++◌, length, drop, set, ℤ, pos, negsuc, nat_abs, decimal, sym, ap, ◌∙◌, append_assoc, append-nil, arith, length-append, length-drop, drop_of_length-le, rules, le-leb}
use borrow.Author.Tests.{clash}
use lib.Signed.{le_z}
use Rattle.std.proofs.lemmas.List.{drop-set}
use Rattle.std.proofs.lemmas.Fmt.{AppendsLastDigit, decimal_from_appends, decimal_digit, decimal_step, decimal_nonempty, length-decimal-le}
use Rattle.host.specs.Lines.{tens, in_tens}

tens_spell : AppendsLastDigit tens
unfolding tens
tens_spell = search rules

few : (n : ℕ) → n < 2 ^ 32 → length (decimal n) ≤ 10
few n h = length-decimal-le 10 n (omega arith) (omega arith) (omega arith)

decimal_tens : (n : ℕ) → n < 2 ^ 32 → decimal n ≡ tens 10 n
decimal_tens n h = sym (decimal_from_appends tens tens_spell 10 n (omega arith) (few n h))

pub nothing_written : (n start : ℕ) (out : List ℕ) → length out ≤ start → decimal n ≡ decimal n ++ drop start out
nothing_written n start out h = sym (ap (λ r. decimal n ++ r) (drop_of_length-le out h) ∙ append-nil (decimal n))

pub two_more : (n left start : ℕ) (out : List ℕ) → n < 2 ^ 32 → left < 2 ^ 32 → length out ≡ 11 → start ≤ 11 →
    decimal n ≡ decimal left ++ drop start out → 2 ≤ start
two_more n left start out hn hl size le e =
    let l = simp (length-append, length-drop) at (ap length e) in
    let f = few n hn in
    let s = decimal_nonempty left (omega arith) in
    omega arith

put_before : (start digit : ℕ) (out : List ℕ) → 0 < start → start ≤ length out → drop (start - 1) (set out (start - 1) digit) ≡ digit ∷ drop start out
put_before start digit out p h =
    let e : (start - 1) + 1 ≡ start = omega arith in
    drop-set out (start - 1) digit (omega arith) ∙ ap (λ k. digit ∷ drop k out) e

pub digit_more : (n left start : ℕ) (out : List ℕ) → 10 ≤ left → left < 2 ^ 32 → 0 < start → start ≤ length out →
    decimal n ≡ decimal left ++ drop start out → decimal n ≡ decimal (left / 10) ++ drop (start - 1) (set out (start - 1) (48 + left % 10))
digit_more n left start out ten hl p h e =
    e ∙ ap (λ r. r ++ drop start out) (decimal_step left ten (omega arith)) ∙ append_assoc (decimal (left / 10)) ((48 + left % 10) ∷ []) (drop start out)
    ∙ ap (λ r. decimal (left / 10) ++ r) (sym (put_before start (48 + left % 10) out p h))

pub all_written : (n left start : ℕ) (out : List ℕ) → n < 2 ^ 32 → left < 10 → 0 < start → start ≤ length out →
    decimal n ≡ decimal left ++ drop start out → drop (start - 1) (set out (start - 1) (48 + left)) ≡ tens 10 n
all_written n left start out hn small p h e =
    put_before start (48 + left) out p h ∙ ap (λ r. r ++ drop start out) (sym (decimal_digit left small)) ∙ sym e ∙ decimal_tens n hn

pub sign_before : (z : ℤ) (start : ℕ) (out : List ℕ) → le_z (pos 0) z ≡ false → 0 < start → start ≤ length out →
    drop start out ≡ tens 10 (nat_abs z) → drop (start - 1) (set out (start - 1) 0x2D) ≡ in_tens z
sign_before (pos n) start out neg p h e = absurd (clash (sym neg ∙ le-leb 0 n (omega arith)))
sign_before (negsuc n) start out neg p h e =
    let s : suc n ≡ n + 1 = omega arith in
    put_before start 0x2D out p h ∙ ap (λ r. 0x2D ∷ r) (e ∙ ap (tens 10) s)

-- what a turn of the loop that writes digits keeps, and what it leaves
pub ruleset spelling = (nothing_written, two_more, all_written)
