-- Decoding one function after another.
use Rattle.std.proofs.Common.{◌≡◌, ℕ, zero, suc, ◌+◌, ◌-◌, ◌<◌, ◌≤◌, Bool, false, List, ◌∷◌, map, length, take, drop, replicate, refl, ap, ◌∙◌, subst, arith}
use Rattle.std.proofs.lemmas.List.{length-map, take-replicate}
use Rattle.bytecode.specs.Instructions.{starts_of}
use Rattle.bytecode.specs.Outcome.{Fault, Out, bad, good, bind}
use Rattle.bytecode.specs.Program.{Program}
use Rattle.plan.specs.Programs.{code_at}
use Rattle.plan.specs.Plans.{marks_in, starts_at}
use Rattle.plan.specs.Sweep.{decode_from}
use Rattle.plan.proofs.Judging.{starts_stand}
use Rattle.shapes.specs.declared.table.ShapeRecord.{ShapeRecord}
use Rattle.shapes.specs.Records.{blank_record}
use Rattle.verifier.specs.Fresh.{fresh_record, fresh_part, starts_from}

-- ## A part of the table

blank_fresh : (n : ℕ) → replicate n blank_record ≡ map fresh_record (replicate n false)
blank_fresh zero = refl
blank_fresh (suc n) = ap (λ rs. blank_record ∷ rs) (blank_fresh n)

pub part_blank : (T : List ShapeRecord) (a k n : ℕ) → k ≡ n → a + n ≤ length T → drop a T ≡ replicate (length T - a) blank_record
    → take k (drop a T) ≡ map fresh_record (replicate n false)
part_blank T a k n e h d =
    ap (λ m. take m (drop a T)) e ∙ ap (take n) d ∙ take-replicate n (length T - a) blank_record (omega arith) ∙ blank_fresh n

pub starts_are : (P : Program) (f : ℕ) (marks : List Bool) → starts_of f (code_at P f) ≡ good marks → starts_at P f ≡ marks
starts_are P f marks e = ap marks_in e

pub fresh_long : (P : Program) (f : ℕ) → starts_of f (code_at P f) ≡ good (starts_at P f) → length (fresh_part P f) ≡ length (code_at P f)
fresh_long P f e = length-map (starts_at P f) fresh_record ∙ (starts_stand f (code_at P f) (starts_at P f) e).size

-- ## All functions

module _ (P : Program) where
  decode_head : (n f : ℕ) (r : Out (List (List Bool))) → starts_of f (code_at P f) ≡ good (starts_at P f) → decode_from P n (suc f) ≡ r
      → decode_from P (suc n) f ≡ bind r (λ rest. good (starts_at P f ∷ rest))
  unfolding decode_from
  decode_head n f r e h =
      ap (λ o. bind o (λ marks. bind (decode_from P n (suc f)) (λ rest. good (marks ∷ rest)))) e ∙ ap (λ o. bind o (λ rest. good (starts_at P f ∷ rest))) h

  fault_from : (n f i : ℕ) (e : Fault) → i < n → ((g : ℕ) → g < i → starts_of (f + g) (code_at P (f + g)) ≡ good (starts_at P (f + g)))
      → starts_of (f + i) (code_at P (f + i)) ≡ bad e → decode_from P n f ≡ bad e
  unfolding decode_from
  fault_from zero f i e h d b = absurd (omega arith)
  fault_from (suc n) f zero e h d b =
      let z : f + 0 ≡ f = omega arith in
      ap (λ o. bind o (λ marks. bind (decode_from P n (suc f)) (λ rest. good (marks ∷ rest)))) (subst (λ g. starts_of g (code_at P g) ≡ bad e) z b)
  fault_from (suc n) f (suc i) e h d b =
      let z : f + 0 ≡ f = omega arith in
      let y : f + suc i ≡ suc f + i = omega arith in
      decode_head n f (bad e) (subst (λ g. starts_of g (code_at P g) ≡ good (starts_at P g)) z (d 0 (omega arith)))
      (fault_from n (suc f) i e (omega arith)
      (λ g l. let x : f + suc g ≡ suc f + g = omega arith in subst (λ j. starts_of j (code_at P j) ≡ good (starts_at P j)) x (d (suc g) (omega arith)))
      (subst (λ j. starts_of j (code_at P j) ≡ bad e) y b))

  done_from : (n f : ℕ) → ((g : ℕ) → g < n → starts_of (f + g) (code_at P (f + g)) ≡ good (starts_at P (f + g))) → decode_from P n f ≡ good (starts_from P n f)
  unfolding decode_from
  done_from zero f d = refl
  done_from (suc n) f d =
      let z : f + 0 ≡ f = omega arith in
      decode_head n f (good (starts_from P n (suc f))) (subst (λ g. starts_of g (code_at P g) ≡ good (starts_at P g)) z (d 0 (omega arith)))
      (done_from n (suc f)
      (λ g l. let x : f + suc g ≡ suc f + g = omega arith in subst (λ j. starts_of j (code_at P j) ≡ good (starts_at P j)) x (d (suc g) (omega arith))))

  pub decode_fault : (n i : ℕ) (e : Fault) → i < n → ((g : ℕ) → g < i → starts_of g (code_at P g) ≡ good (starts_at P g)) → starts_of i (code_at P i) ≡ bad e
      → decode_from P n 0 ≡ bad e
  decode_fault n i e h d b =
      let y : i ≡ 0 + i = omega arith in
      fault_from n 0 i e h (λ g l. let x : g ≡ 0 + g = omega arith in subst (λ j. starts_of j (code_at P j) ≡ good (starts_at P j)) x (d g l))
      (subst (λ j. starts_of j (code_at P j) ≡ bad e) y b)

  pub decode_done : (n : ℕ) → ((g : ℕ) → g < n → starts_of g (code_at P g) ≡ good (starts_at P g)) → decode_from P n 0 ≡ good (starts_from P n 0)
  decode_done n d = done_from n 0 (λ g l. let x : g ≡ 0 + g = omega arith in subst (λ j. starts_of j (code_at P j) ≡ good (starts_at P j)) x (d g l))
