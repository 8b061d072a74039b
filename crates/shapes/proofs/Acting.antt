-- What an act makes of a stack and of a shape, case by case.
use Rattle.std.proofs.Common.{◌≡◌, ℕ, zero, suc, ◌+◌, ◌-◌, ◌<◌, ◌≤◌, Bool, true, false, leb, List, ◌∷◌, ◌++◌, length, get_or, take, drop, set, Ok, Err, Result, sym, ap, ◌∙◌, add-one, arith, length-set, get_or-set_other, get_or-set_same, length-drop, le-leb}
use borrow.Author.Tests.{lt-leb}
use Rattle.std.specs.List.{swap as exchanged}
use Rattle.std.proofs.lemmas.List.Edits.{swap_is}
use Rattle.bytecode.specs.declared.kind.Kind.{Kind}
use Rattle.bytecode.specs.declared.kind.Kind.TheVariants.{Unknown}
use Rattle.bytecode.specs.declared.refusal.CodeFault.{CodeFault}
use Rattle.bytecode.specs.Outcome.{Out, bad, good}
use Rattle.plan.specs.Shapes.{eq_kinds}
use Rattle.plan.specs.Effects.{check, room, replace, doubled, swapped, keeping}
use Rattle.shapes.specs.Stacks.{stack_of}
use Rattle.shapes.specs.Acts.{told_at}
use Rattle.shapes.specs.Entries.{length-stack}
use Rattle.shapes.proofs.Stacks.{stack_top, stack_set, stack_same, stack_long, stack_lowered}
use Rattle.shapes.proofs.Comparing.{on_top}

module _ (f p : ℕ) where
  -- another stack, the same variables
  pub kept : {A : Type 0} (vs : List Kind) (st : List Kind) (o : Out (List Kind)) (r : Result A CodeFault) → o ≡ told_at f p (λ _. st) r
      → keeping f p vs o ≡ told_at f p (λ _. record { stack = st; variables = vs }) r
  kept vs st o (Ok a) e = ap (keeping f p vs) e
  kept vs st o (Err x) e = ap (keeping f p vs) e

  -- ## One entry more

  room_fine : (st : List Kind) → length st ≤ 32 → room f p st ≡ good st
  room_fine st h =
      let t : leb (length st) 32 ≡ true = le-leb _ _ h in
      ap (λ b. check b (19, f, p) (good st)) t

  pub push_fine : (k : Kind) (n : ℕ) (xs : List Kind) (st : List Kind) → stack_of n xs ≡ st → n < 32 → length xs ≡ 32 → room f p (k ∷ st) ≡ good (stack_of (n + 1) (set xs n k))
  push_fine k n xs st e h l =
      let s : stack_of (n + 1) (set xs n k) ≡ k ∷ stack_of n xs =
      ap (λ m. stack_of m (set xs n k)) (add-one n) ∙ (let a = get_or-set_same xs n k Unknown (omega arith) in let b = stack_set n xs k in rw (a, b)) in
      room_fine (k ∷ st) (omega (arith, length-stack n xs, ap length e)) ∙ ap good (sym (s ∙ ap (λ z. k ∷ z) e))

  pub doubled_top : (n : ℕ) (xs : List Kind) → (n ≡ 0 → ⊥) → doubled f p (stack_of n xs) ≡ room f p (get_or xs (n - 1) Unknown ∷ stack_of n xs)
  doubled_top n xs h =
      let t : stack_of n xs ≡ get_or xs (n - 1) Unknown ∷ stack_of (n - 1) xs = stack_top n xs h in
      ap (doubled f p) t ∙ ap (λ st. room f p (get_or xs (n - 1) Unknown ∷ st)) (sym t)

  -- ## Some kinds taken, some left

  module _ (taken left st : List Kind) where
    pub replace_few : length st < length taken → replace f p taken left st ≡ bad (18, f, p)
    replace_few h =
        ap (λ b. check b (18, f, p) (check (eq_kinds (take (length taken) st) taken) (20, f, p) (room f p (left ++ drop (length taken) st)))) (lt-leb _ _ h)

    replace_case : (b : Bool) → length taken ≤ length st → eq_kinds (take (length taken) st) taken ≡ b
        → replace f p taken left st ≡ check b (20, f, p) (room f p (left ++ drop (length taken) st))
    replace_case b h e =
        ap (λ b. check b (18, f, p) (check (eq_kinds (take (length taken) st) taken) (20, f, p) (room f p (left ++ drop (length taken) st)))) (le-leb _ _ h) ∙
        ap (λ b. check b (20, f, p) (room f p (left ++ drop (length taken) st))) e

    pub replace_wrong : length taken ≤ length st → eq_kinds (take (length taken) st) taken ≡ false → replace f p taken left st ≡ bad (20, f, p)
    replace_wrong h e = replace_case false h e

    pub replace_right : length taken ≤ length st → eq_kinds (take (length taken) st) taken ≡ true
        → replace f p taken left st ≡ room f p (left ++ drop (length taken) st)
    replace_right h e = replace_case true h e

  pub room_lowered : (st : List Kind) (n : ℕ) → length st ≤ 32 → room f p (drop n st) ≡ good (drop n st)
  room_lowered st n h = room_fine (drop n st) (omega (arith, length-drop n st))

  -- ## The two uppermost

  pub swap_fine : (d : ℕ) (xs : List Kind) (st : List Kind) → stack_of d xs ≡ st → 2 ≤ d → d ≤ length xs → swapped f p st ≡ good (stack_of d (exchanged xs (d - 1) (d - 2)))
  swap_fine d xs st e h l =
      ap (swapped f p) (sym e) ∙ go d h l ∙
      ap (λ ys. good (stack_of d ys)) (swap_is xs (d - 1) (d - 2) Unknown (omega arith) (omega arith))
    where
      go : (d : ℕ) → 2 ≤ d → d ≤ length xs → swapped f p (stack_of d xs) ≡
          good (stack_of d (set (set xs (d - 1) (get_or xs (d - 2) Unknown)) (d - 2) (get_or xs (d - 1) Unknown)))
      go zero h l = absurd (omega arith)
      go (suc zero) h l = absurd (omega arith)
      go (suc (suc n)) h l =
          let i : suc (suc n) - 1 ≡ suc n = omega arith in
          let j : suc (suc n) - 2 ≡ n = omega arith in
          let m = length-set xs (suc n) (get_or xs n Unknown) in
          let a = get_or-set_other (set xs (suc n) (get_or xs n Unknown)) n (suc n) (get_or xs (suc n) Unknown) Unknown (omega arith) in
          let b = get_or-set_same xs (suc n) (get_or xs n Unknown) Unknown (omega arith) in
          let c = get_or-set_same (set xs (suc n) (get_or xs n Unknown)) n (get_or xs (suc n) Unknown) Unknown (omega arith) in
          let e = stack_set n (set xs (suc n) (get_or xs n Unknown)) (get_or xs (suc n) Unknown) in
          let g = stack_same n (set xs (suc n) (get_or xs n Unknown)) xs (λ k o. get_or-set_other xs (suc n) k (get_or xs n Unknown) Unknown (omega arith)) in
          rw (i, j) (rw (a, b, c, e, g))

-- what the refusals of a replacement need, and a replacement by nothing
pub ruleset replacing = (replace_few, replace_wrong, replace_right, room_lowered, on_top, stack_long, stack_lowered)
