-- Faults that are given their place.
use Rattle.std.proofs.Common.{◌≡◌, ℕ, Ok, Err, Result, ap, ◌∙◌}
use Rattle.std.specs.Result.{MatchResult}
use Rattle.bytecode.specs.declared.refusal.CodeFault.{CodeFault}
use Rattle.bytecode.specs.declared.refusal.Refusal.{Refusal}
use Rattle.bytecode.specs.declared.refusal.Refusal.TheVariants.{Code}
use Rattle.bytecode.specs.Outcome.{Out, bad, good, shown, code_number}

-- a fault of function f, where e is one of place (w e)
abbrev placed : {A B : Type 0} → ℕ → (CodeFault → ℕ) → (A → B) → Result A CodeFault → Out B
placed f w g (Ok a) = good (g a)
placed f w g (Err e) = bad (code_number e, f, w e)

module _ {A B : Type 0} (f : ℕ) (w : CodeFault → ℕ) (g : A → B) (o : Out B) (r : Result A CodeFault) (s : Result A Refusal) (h : o ≡ placed f w g r)
    (m : MatchResult r (λ a. s ≡ Ok a) (λ e. s ≡ Err (Code e f (w e)))) where
  pub told_fault : (x : Refusal) → s ≡ Err x → o ≡ bad (shown x)
  told_fault x d = h ∙ go r m
    where
      go : (r : Result A CodeFault) → MatchResult r (λ a. s ≡ Ok a) (λ e. s ≡ Err (Code e f (w e))) → placed f w g r ≡ bad (shown x)
      go (Ok a) m = absurd (cc)
      go (Err e) m =
          let z : Code e f (w e) ≡ x = cc in
          ap (λ x. bad (shown x)) z

  pub told_fine : (a : A) → s ≡ Ok a → o ≡ good (g a)
  told_fine a d = h ∙ go r m
    where
      go : (r : Result A CodeFault) → MatchResult r (λ a. s ≡ Ok a) (λ e. s ≡ Err (Code e f (w e))) → placed f w g r ≡ good (g a)
      go (Ok b) m =
          let z : b ≡ a = cc in
          ap (λ a. good (g a)) z
      go (Err e) m = absurd (cc)

pub ruleset placing = (told_fault, told_fine)
