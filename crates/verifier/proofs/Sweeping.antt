-- Sweeping one function after another.
use Rattle.std.proofs.Common.{◌≡◌, ℕ, zero, suc, ◌+◌, ◌<◌, List, ◌++◌, map, length, IfOk, Ok, Err, Result, sym, refl, ap, ◌∙◌, subst, add-one, arith}
use Rattle.std.proofs.lemmas.List.{length-map}
use Rattle.bytecode.specs.declared.refusal.Refusal.{Refusal}
use Rattle.bytecode.specs.Outcome.{Fault, bad, good, bind, told}
use Rattle.bytecode.specs.Program.{Program}
use Rattle.plan.specs.Programs.{code_at, WellFormed}
use Rattle.plan.specs.Sweep.{Table, Answer, sweep_function, Judgement, after, sweep_from}
use Rattle.plan.specs.Judgement.{Swept}
use Rattle.plan.proofs.Judging.{sweep_swept}
use Rattle.shapes.specs.declared.table.ShapeRecord.{ShapeRecord}
use Rattle.shapes.specs.Records.{cell_of, working_record, Neat}
use Rattle.shapes.proofs.Stacks.{neat_is}
use Rattle.verifier.specs.Fresh.{joined_from}
use Rattle.verifier.specs.Swept.{table_in, swept_table, tables_from, working_records}

-- ## A part of the table

pub table_is : (P : Program) (f : ℕ) (T : Table) (t : ℕ) → sweep_function P f ≡ good (T, t) → swept_table P f ≡ T
table_is P f T t e = ap table_in e

pub working_is : (P : Program) (f : ℕ) (rs : List ShapeRecord) (t : ℕ) → sweep_function P f ≡ good (map cell_of rs, t) → Neat rs → rs ≡ map working_record (swept_table P f)
working_is P f rs t e n = neat_is rs n ∙ ap (map working_record) (sym (table_is P f (map cell_of rs) t e))

pub swept_long : (P : Program) → WellFormed P → (f t : ℕ) → sweep_function P f ≡ good (swept_table P f, t) → length (map working_record (swept_table P f)) ≡ length (code_at P f)
swept_long P formed f t e = length-map (swept_table P f) working_record ∙ (subst (Swept P f) e (sweep_swept P formed f)).0.size

-- ## All functions

-- the takes of the sweep of a function
pub takes_in : Answer → ℕ
takes_in (bad e) = 0
takes_in (good r) = r.1

pub swept_takes : Program → ℕ → ℕ
swept_takes P f = takes_in (sweep_function P f)

pub takes_from : Program → ℕ → ℕ → ℕ
takes_from P zero f = 0
takes_from P (suc n) f = swept_takes P f + takes_from P n (suc f)

pub takes_are : (P : Program) (f : ℕ) (T : Table) (t : ℕ) → sweep_function P f ≡ good (T, t) → swept_takes P f ≡ t
unfolding takes_in swept_takes
takes_are P f T t e = ap takes_in e

pub swept_is : (P : Program) (f t : ℕ) → sweep_function P f ≡ good (swept_table P f, t) → sweep_function P f ≡ good (swept_table P f, swept_takes P f)
swept_is P f t e = e ∙ ap (λ k. good (swept_table P f, k)) (sym (takes_are P f (swept_table P f) t e))

module _ (P : Program) where
  takes_next : (n f : ℕ) → takes_from P (suc n) f ≡ takes_from P n f + swept_takes P (f + n)
  unfolding takes_from
  takes_next zero f = let z : f + 0 ≡ f = omega arith in omega (arith, ap (swept_takes P) z)
  takes_next (suc n) f = let z : f + suc n ≡ suc f + n = omega arith in omega (arith, takes_next n (suc f), ap (swept_takes P) z)

  pub takes_more : (i t : ℕ) → sweep_function P i ≡ good (swept_table P i, t) → takes_from P (i + 1) 0 ≡ takes_from P i 0 + t
  takes_more i t e =
      let z : 0 + i ≡ i = omega arith in
      ap (λ n. takes_from P n 0) (add-one i) ∙ takes_next i 0 ∙ ap (λ g. takes_from P i 0 + swept_takes P g) z ∙ ap (λ k. takes_from P i 0 + k) (takes_are P i (swept_table P i) t e)

  pub takes_none : takes_from P 0 0 ≡ 0
  unfolding takes_from
  takes_none = refl

  sweep_head : (n f : ℕ) (r : Judgement) → sweep_function P f ≡ good (swept_table P f, swept_takes P f) → sweep_from P n (suc f) ≡ r
      → sweep_from P (suc n) f ≡ after (swept_table P f, swept_takes P f) r
  unfolding sweep_from
  sweep_head n f r e h = ap (λ o. bind o (λ r. after r (sweep_from P n (suc f)))) e ∙ ap (after (swept_table P f, swept_takes P f)) h

  fault_from : (n f i : ℕ) (e : Fault) → i < n → ((g : ℕ) → g < i → sweep_function P (f + g) ≡ good (swept_table P (f + g), swept_takes P (f + g)))
      → sweep_function P (f + i) ≡ bad e → sweep_from P n f ≡ bad e
  unfolding sweep_from
  fault_from zero f i e h d b = absurd (omega arith)
  fault_from (suc n) f zero e h d b =
      let z : f + 0 ≡ f = omega arith in
      ap (λ o. bind o (λ r. after r (sweep_from P n (suc f)))) (subst (λ g. sweep_function P g ≡ bad e) z b)
  fault_from (suc n) f (suc i) e h d b =
      let z : f + 0 ≡ f = omega arith in
      let y : f + suc i ≡ suc f + i = omega arith in
      sweep_head n f (bad e) (subst (λ g. sweep_function P g ≡ good (swept_table P g, swept_takes P g)) z (d 0 (omega arith)))
      (fault_from n (suc f) i e (omega arith)
      (λ g l. let x : f + suc g ≡ suc f + g = omega arith in subst (λ j. sweep_function P j ≡ good (swept_table P j, swept_takes P j)) x (d (suc g) (omega arith)))
      (subst (λ j. sweep_function P j ≡ bad e) y b))

  done_from : (n f : ℕ) → ((g : ℕ) → g < n → sweep_function P (f + g) ≡ good (swept_table P (f + g), swept_takes P (f + g)))
      → sweep_from P n f ≡ good (tables_from P n f, takes_from P n f)
  unfolding sweep_from takes_from
  done_from zero f d = refl
  done_from (suc n) f d =
      let z : f + 0 ≡ f = omega arith in
      sweep_head n f (good (tables_from P n (suc f), takes_from P n (suc f))) (subst (λ g. sweep_function P g ≡ good (swept_table P g, swept_takes P g)) z (d 0 (omega arith)))
      (done_from n (suc f)
      (λ g l. let x : f + suc g ≡ suc f + g = omega arith in subst (λ j. sweep_function P j ≡ good (swept_table P j, swept_takes P j)) x (d (suc g) (omega arith))))

  pub sweep_fault : (n i : ℕ) (e : Fault) → i < n → ((g : ℕ) → g < i → sweep_function P g ≡ good (swept_table P g, swept_takes P g)) → sweep_function P i ≡ bad e
      → sweep_from P n 0 ≡ bad e
  sweep_fault n i e h d b =
      let y : i ≡ 0 + i = omega arith in
      fault_from n 0 i e h (λ g l. let x : g ≡ 0 + g = omega arith in subst (λ j. sweep_function P j ≡ good (swept_table P j, swept_takes P j)) x (d g l))
      (subst (λ j. sweep_function P j ≡ bad e) y b)

  pub sweep_done : (n t : ℕ) → ((g : ℕ) → g < n → sweep_function P g ≡ good (swept_table P g, swept_takes P g)) → t ≡ takes_from P n 0
      → sweep_from P n 0 ≡ good (tables_from P n 0, t)
  sweep_done n t d e =
      done_from n 0 (λ g l. let x : g ≡ 0 + g = omega arith in subst (λ j. sweep_function P j ≡ good (swept_table P j, swept_takes P j)) x (d g l)) ∙
      ap (λ k. good (tables_from P n 0, k)) (sym e)

-- the records of all tables are the parts joined
pub working_joined : (P : Program) (n f : ℕ) → working_records (tables_from P n f) ≡ joined_from (λ g. map working_record (swept_table P g)) n f
working_joined P zero f = refl
working_joined P (suc n) f = ap (λ rs. map working_record (swept_table P f) ++ rs) (working_joined P n (suc f))

-- ## What the sweep of a part leaves

module _ (P : Program) (f : ℕ) (rs : List ShapeRecord) where
  pub told_swept : (r : Result ℕ Refusal) → sweep_function P f ≡ told (λ t. (map cell_of rs, t)) r → sweep_function P f ≡ told (λ t. (swept_table P f, t)) r
  told_swept (Ok t) e = e ∙ ap (λ T. good (T, t)) (sym (table_is P f (map cell_of rs) t e))
  told_swept (Err x) e = e

  pub made_working : (us : List ShapeRecord) (r : Result ℕ Refusal) → us ≡ rs → sweep_function P f ≡ told (λ t. (map cell_of rs, t)) r → Neat rs
      → IfOk r (λ t. us ≡ map working_record (swept_table P f))
  made_working us (Ok t) d e n = d ∙ working_is P f rs t e n
  made_working us (Err x) d e n = tt
