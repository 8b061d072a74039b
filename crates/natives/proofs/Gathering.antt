-- Kinds and arguments one after the other: what a loop's turn adds.
use Rattle.std.proofs.Common.{◌≡◌, ℕ, zero, suc, ◌+◌, ◌<◌, ◌≤◌, Bool, true, false, ◌&&◌, List, [], ◌∷◌, ◌++◌, length, map, cond, Some, None, Option, get_or, take, drop, set, sym, refl, ap, ◌∙◌, ap₂, zero-add, arith}
use Rattle.std.proofs.lemmas.List.{take_more, take_more_set, take_all, length-take-le, at_drop_more, at_drop_all}
use Rattle.std.proofs.ByRecursion.{All-get_or}
use Rattle.std.specs.List.{list_all, enumerate_from, filter}
use Rattle.std.specs.Option.{option_map}
use Rattle.reader.specs.View.{program_of, NativeFormed, no_native}
use Rattle.reader.proofs.Fits.{fitting_of}
use Rattle.natives.specs.declared.Callee.{Callee}
use Rattle.natives.specs.Calls.{native_of}
use Rattle.bytecode.specs.declared.kind.Kind.{Kind}
use Rattle.bytecode.specs.declared.kind.Kind.TheVariants.{Unknown, Word, Reference}
use Rattle.host.specs.declared.call.Argument.{Argument}
use Rattle.plan.specs.Shapes.{eq_kind, eq_kinds}
use Rattle.runtime.specs.Runtime.{argument_of, arguments_from, number_if, numbers_from}

-- a native takes four arguments at most
pub few_arguments : (c : Callee) → length (native_of c).signature.arguments ≤ 4
few_arguments c =
    let p = c.program.now in
    (All-get_or NativeFormed (program_of p).natives c.native no_native c.there (fitting_of p).natives_formed).few

-- the first of the told are as many as the slots
pub told_length : (c : Callee) (slots : List ℕ) (told : List Argument) → length slots ≡ length (native_of c).signature.arguments → length told ≡ 4
    → length slots ≡ length (take (length slots) told)
told_length c slots told all four = sym (length-take-le (length slots) told (omega (arith, few_arguments c)))

pub lengths_differ : (ks ls : List Kind) → (length ls ≡ length ks → ⊥) → eq_kinds ks ls ≡ false
lengths_differ [] [] ne = absurd (ne refl)
lengths_differ [] (l ∷ ls) ne = refl
lengths_differ (k ∷ ks) [] ne = refl
lengths_differ (k ∷ ks) (l ∷ ls) ne = pick (eq_kind k l) (lengths_differ ks ls (λ e. ne (ap suc e)))
  where
    pick : (b : Bool) → eq_kinds ks ls ≡ false → (b && eq_kinds ks ls) ≡ false
    pick true e = e
    pick false e = refl

-- the same kinds, each with its number
pub kinds_counted : (ks ls : List Kind) (i : ℕ) → i + length ls ≡ length ks
    → list_all (λ p. eq_kind (get_or ks p.0 Unknown) p.1) (enumerate_from i ls) ≡ eq_kinds (drop i ks) ls
kinds_counted ks [] i e = sym (at_drop_all (λ xs. eq_kinds xs []) ks i (omega arith))
kinds_counted ks (l ∷ ls) i e =
    ap (λ b. eq_kind (get_or ks i Unknown) l && b) (kinds_counted ks ls (i + 1) (omega arith))
    ∙ sym (at_drop_more (λ xs. eq_kinds xs (l ∷ ls)) ks i Unknown (omega arith))

pub option_map_same : (o : Option ℕ) → option_map (λ n. n) o ≡ o
option_map_same None = refl
option_map_same (Some n) = refl

kept_or_not : (k : Kind) (p : ℕ × ℕ) (m : ℕ) (ps : List (ℕ × ℕ)) (ns : List ℕ) → p.1 ≡ m → map (λ p. p.1) ps ≡ ns
    → map (λ p. p.1) (cond (eq_kind k Reference) (p ∷ ps) ps) ≡ number_if k m ns
kept_or_not Unknown p m ps ns e r = r
kept_or_not Word p m ps ns e r = r
kept_or_not Reference p m ps ns e r = ap₂ (λ x xs. x ∷ xs) e r

-- the numbers of references, each slot with its number
pub numbers_counted : (ks rs : List Kind) (mem ls : List ℕ) (i : ℕ) → length rs ≡ length ls
    → ((j : ℕ) → j < length rs → eq_kind (get_or rs j Unknown) Reference ≡ eq_kind (get_or ks (i + j) Unknown) Reference)
    → ((j : ℕ) → get_or ls j 0 ≡ get_or mem (i + j) 0)
    → map (λ p. p.1) (filter (λ p. eq_kind (get_or ks p.0 Unknown) Reference) (enumerate_from i ls)) ≡ numbers_from rs mem i
numbers_counted ks [] mem [] i e f g = refl
numbers_counted ks [] mem (l ∷ ls) i e f g = absurd (omega arith)
numbers_counted ks (k ∷ rs) mem [] i e f g = absurd (omega arith)
numbers_counted ks (k ∷ rs) mem (l ∷ ls) i e f g =
    let rest = numbers_counted ks rs mem ls (i + 1) (omega arith)
    (λ j l. f (suc j) (omega arith) ∙ ap (λ n. eq_kind (get_or ks n Unknown) Reference) (let z : i + suc j ≡ i + 1 + j = omega arith in z))
    (λ j. g (suc j) ∙ ap (λ n. get_or mem n 0) (let z : i + suc j ≡ i + 1 + j = omega arith in z)) in
    let here : eq_kind k Reference ≡ eq_kind (get_or ks i Unknown) Reference =
    f 0 (omega arith) ∙ ap (λ n. eq_kind (get_or ks n Unknown) Reference) (let z : i + 0 ≡ i = omega arith in z) in
    let slot : l ≡ get_or mem i 0 = g 0 ∙ ap (λ n. get_or mem n 0) (let z : i + 0 ≡ i = omega arith in z) in
    let ps : List (ℕ × ℕ) = filter (λ p. eq_kind (get_or ks p.0 Unknown) Reference) (enumerate_from (i + 1) ls) in
    ap (λ b. map (λ p. p.1) (cond b ((i, l) ∷ ps) ps)) (sym here)
    ∙ kept_or_not k (i, l) (get_or mem i 0) ps (numbers_from rs mem (i + 1)) slot rest
    ∙ ap (λ n. number_if k (get_or mem i 0) (numbers_from rs mem n)) (let z : i + 1 ≡ suc i = omega arith in z)

arguments_drop : (ks : List Kind) (mem : List ℕ) (i j : ℕ) → j < length ks
    → get_or (arguments_from ks mem i) j (Argument.Word 0) ≡ argument_of (get_or ks j Unknown) (get_or mem (i + j) 0)
arguments_drop [] mem i j lt = absurd (let b : ⊥ = omega arith in b)
arguments_drop (k ∷ ks) mem i zero lt = ap (λ n. argument_of k (get_or mem n 0)) (let e : i ≡ i + 0 = omega arith in e)
arguments_drop (k ∷ ks) mem i (suc j) lt =
    arguments_drop ks mem (suc i) j (omega arith) ∙ ap (λ n. argument_of (get_or ks j Unknown) (get_or mem n 0)) (let e : suc i + j ≡ i + suc j = omega arith in e)

arguments_length : (ks : List Kind) (mem : List ℕ) (i : ℕ) → length (arguments_from ks mem i) ≡ length ks
arguments_length [] mem i = refl
arguments_length (k ∷ ks) mem i = ap suc (arguments_length ks mem (suc i))

pub arguments_turn : (ks : List Kind) (mem : List ℕ) (told : List Argument) (i : ℕ) (a : Argument) → i < length ks → i < length told
    → take i told ≡ take i (arguments_from ks mem 0) → a ≡ argument_of (get_or ks i Unknown) (get_or mem i 0)
    → take (i + 1) (set told i a) ≡ take (i + 1) (arguments_from ks mem 0)
arguments_turn ks mem told i a lt room e is =
    let n = arguments_length ks mem 0 in
    take_more_set told i a room
    ∙ ap₂ (λ xs x. xs ++ (x ∷ [])) e (is ∙ ap (λ n. argument_of (get_or ks i Unknown) (get_or mem n 0)) (sym (zero-add i)) ∙ sym (arguments_drop ks mem 0 i lt))
    ∙ sym (take_more (arguments_from ks mem 0) i (Argument.Word 0) (omega arith))

pub arguments_all : (ks : List Kind) (mem : List ℕ) (told : List Argument) (i n : ℕ) → n ≡ i → n ≡ length ks → take i told ≡ take i (arguments_from ks mem 0)
    → take n told ≡ arguments_from ks mem 0
arguments_all ks mem told i n e q h =
    ap (λ m. take m told) e ∙ h ∙ take_all i (arguments_from ks mem 0) (let a = arguments_length ks mem 0 in omega arith)
