-- Numbers and the references that they stand for: each number is one reference's, and a number in eight bytes is read back.
use Rattle.std.proofs.Common.{◌≡◌, ℕ, ◌+◌, ◌-◌, ◌*◌, ◌^◌, ◌<◌, Bool, true, false, cond, eqb, ltb, List, sym, refl, ap, ◌∙◌, ap₂, arith, ltb-false, le-ltb, lt-ltb, ne_eqb, eqb-true}
use Rattle.std.proofs.lemmas.Bool.Decides.{nat_tests}
use borrow.Author.Tests.{eqb-false}
use Rattle.heap.specs.Checked.{null, text, block, all_zero}
use Rattle.heap.specs.Storage.{reference_of, number_of, block_of, offset_of, from_bytes, to_bytes}

-- bytes make 0 exactly when all of them are 0
pub from_bytes-zero : (bs : List ℕ) → eqb (from_bytes bs) 0 ≡ all_zero 8 bs
from_bytes-zero bs = grind (arith, nat_tests)

pub from_bytes-to_bytes : (v : ℕ) → v < 2 ^ 64 → from_bytes (to_bytes v) ≡ v
from_bytes-to_bytes v h = omega arith

pub number_of-reference_of : (n : ℕ) → number_of (reference_of n) ≡ n
number_of-reference_of n = go (eqb n 0) (ltb n (2 ^ 32)) refl refl
  where
    go : (e f : Bool) → eqb n 0 ≡ e → ltb n (2 ^ 32) ≡ f
        → number_of (cond e null (cond f (text (n - 1)) (block (block_of n) (offset_of n)))) ≡ n
    go true f p q = sym (eqb-true n 0 p)
    go false true p q = let z = eqb-false n 0 p in omega arith
    go false false p q = let h = ltb-false n (2 ^ 32) q in omega arith

pub reference_of-text : (p : ℕ) → p + 1 < 2 ^ 32 → reference_of (p + 1) ≡ text p
reference_of-text p h =
    let n = p + 1 in
    let e : eqb n 0 ≡ false = ne_eqb n 0 (omega arith) in
    let f : ltb n (2 ^ 32) ≡ true = lt-ltb n (2 ^ 32) h in
    let q : n - 1 ≡ p = omega arith in
    ap₂ (λ (x y : Bool). cond x null (cond y (text (n - 1)) (block (block_of n) (offset_of n)))) e f ∙ ap text q

pub reference_of-block : (b o : ℕ) → o < 2 ^ 32 → reference_of ((b + 1) * 2 ^ 32 + o) ≡ block b o
reference_of-block b o h =
    let n = (b + 1) * 2 ^ 32 + o in
    let e : eqb n 0 ≡ false = ne_eqb n 0 (omega arith) in
    let f : ltb n (2 ^ 32) ≡ false = le-ltb n (2 ^ 32) (omega arith) in
    let p : block_of n ≡ b = omega arith in
    let q : offset_of n ≡ o = omega arith in
    ap₂ (λ (x y : Bool). cond x null (cond y (text (n - 1)) (block (block_of n) (offset_of n)))) e f ∙ ap₂ block p q
