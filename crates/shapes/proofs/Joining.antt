-- A record that a shape meets, by its mark.
use Rattle.std.proofs.Common.{◌≡◌, ℕ, Bool, true, false, not, List, reverse, take, sym, refl, ap, ◌∙◌, arith}
use Rattle.bytecode.specs.declared.kind.Kind.{Kind}
use Rattle.bytecode.specs.Outcome.{bad, good}
use Rattle.plan.specs.Shapes.{Shape, eq_kinds, meet, clash, narrowed, merge_if, merge}
use Rattle.plan.specs.Sweep.{marked, merged, join}
use Rattle.plan.proofs.Reaching.{eq_kinds-is, length_meet}
use Rattle.shapes.proofs.Comparing.{entries_eq, all_same, differ, agree}
use Rattle.shapes.proofs.Stacks.{stack_taken, has_shape, tidy_variables}
use Rattle.shapes.specs.declared.table.ShapeMark.{ShapeMark}
use Rattle.shapes.specs.declared.table.ShapeMark.TheVariants.{Blank, Start, Due, Shaped}
use Rattle.shapes.specs.Stacks.{stack_of, Stacked}
use Rattle.shapes.specs.Records.{cell_as}

-- the stack of a record, and another's entries
stacks_told : (d : ℕ) (xs ts st : List Kind) → Stacked d xs → st ≡ reverse ts → eq_kinds (stack_of d xs) st ≡ entries_eq (take d xs) ts
stacks_told d xs ts st f e = all_same (stack_of d xs) st (take d xs) ts (stack_taken d xs (let z = f.low in omega (arith, f.long))) e

module _ (d : ℕ) (xs ts st : List Kind) (f : Stacked d xs) (e : st ≡ reverse ts) (r : Bool) (is : r ≡ not (entries_eq (take d xs) ts)) where
  pub stacks_differ : r ≡ true → eq_kinds (stack_of d xs) st ≡ false
  stacks_differ h = stacks_told d xs ts st f e ∙ differ (entries_eq (take d xs) ts) r is h

  pub stacks_agree : r ≡ false → true ≡ eq_kinds (stack_of d xs) st
  stacks_agree h = agree (entries_eq (take d xs) ts) r is h ∙ sym (stacks_told d xs ts st f e)

merge_clash : (s x : Shape) → eq_kinds s.stack x.stack ≡ false → merge s x ≡ clash
unfolding merge
merge_clash s x e = ap (merge_if s x) e

merge_narrowed : (s x : Shape) (b : Bool) → eq_kinds s.stack x.stack ≡ true → eq_kinds (meet s.variables x.variables) s.variables ≡ b
    → merge s x ≡ narrowed s (meet s.variables x.variables) b
unfolding merge
merge_narrowed s x b e d = ap (merge_if s x) e ∙ ap (narrowed s (meet s.variables x.variables)) d

module _ (f p q : ℕ) (m : ShapeMark) (s x : Shape) where
  pub join_blank : m ≡ Blank → join f p q (cell_as m s) x ≡ bad (23, f, p)
  unfolding join
  join_blank e = rw e

  pub join_start : m ≡ Start → join f p q (cell_as m s) x ≡ good (marked x)
  unfolding join
  join_start e = rw e

  module _ (n : m ≡ Blank → ⊥) (u : m ≡ Start → ⊥) where
    shaped : join f p q (cell_as m s) x ≡ merged f q (cell_as m s) (merge s x)
    unfolding join
    shaped = go m n u
      where
        go : (m : ShapeMark) → (m ≡ Blank → ⊥) → (m ≡ Start → ⊥) → join f p q (cell_as m s) x ≡ merged f q (cell_as m s) (merge s x)
        go Blank n u = absurd (n refl)
        go Start n u = absurd (u refl)
        go Due n u = refl
        go Shaped n u = refl

    pub join_clash : eq_kinds s.stack x.stack ≡ false → join f p q (cell_as m s) x ≡ bad (24, f, q)
    join_clash e = shaped ∙ ap (merged f q (cell_as m s)) (merge_clash s x e)

    -- the variables v that are left
    module _ (v : List Kind) (h : v ≡ meet s.variables x.variables) (e : true ≡ eq_kinds s.stack x.stack) where
      pub join_same : true ≡ eq_kinds v s.variables → join f p q (cell_as m s) x ≡ good (cell_as m (record { stack = s.stack; variables = v }))
      join_same d =
          shaped ∙ ap (merged f q (cell_as m s)) (merge_narrowed s x true (sym e) (rw (← h) (sym d))) ∙
          ap (λ w. good (cell_as m (record { stack = s.stack; variables = w }))) (sym (eq_kinds-is _ _ (sym d)))

      pub join_less : false ≡ eq_kinds v s.variables → join f p q (cell_as m s) x ≡ good (marked (record { stack = s.stack; variables = v }))
      join_less d =
          shaped ∙ ap (merged f q (cell_as m s)) (merge_narrowed s x false (sym e) (rw (← h) (sym d))) ∙
          ap (λ w. good (marked (record { stack = s.stack; variables = w }))) (sym h)

pub ruleset joining = (join_blank, join_start, join_clash, join_same, join_less, has_shape, tidy_variables, length_meet)
