-- An instruction applied at a place: it passes exactly if it can be applied, and keeps the order of shapes and their sizes.
use Rattle.std.proofs.Common.{◌≡◌, ℕ, List, [], ◌∷◌, Some, None, Option, sym, refl, ap, ◌∙◌, subst}
use Rattle.bytecode.specs.declared.instruction.Instruction.{Instruction}
use Rattle.bytecode.specs.Instructions.{decode_at}
use Rattle.bytecode.specs.Outcome.{Out, bad, good, bind}
use Rattle.bytecode.specs.Program.{Program}
use Rattle.plan.specs.Programs.{code_at, variables_at, KnownSignatures}
use Rattle.plan.specs.Shapes.{Shape, Reach, Sized}
use Rattle.plan.specs.Effects.{effect}
use Rattle.plan.specs.Plans.{Plan, successors, shape_at, Hits, Lands, Passes}
use Rattle.plan.specs.Sweep.{applied, apply}
use Rattle.plan.proofs.Outcomes.{On, on_bind}
use Rattle.plan.proofs.Reaching.{reach_trans}
use Rattle.plan.proofs.Acting.{Finer, effect_mono, effect_keeps}

pub hits_trans : (x y : Shape) (d : Option Shape) → Reach x y → Hits y d → Hits x d
hits_trans x y None r h = h
hits_trans x y (Some t) r h = reach_trans x y t r h

pub lands_trans : (x y : Shape) (plan : Plan) (qs : List (Option ℕ)) → Reach x y → Lands y plan qs → Lands x plan qs
lands_trans x y plan [] r h = tt
lands_trans x y plan (q ∷ qs) r h = (hits_trans x y (shape_at plan q) r h.0, lands_trans x y plan qs r h.1)

-- the results of an application reach every place that they go on to
abbrev pub LandsIn : Plan → Shape × List (Option ℕ) → Type 0
LandsIn plan r = Lands r.0 plan r.1

module _ (P : Program) (f : ℕ) where
  pub passes_on : (plan : Plan) (p : ℕ) (s : Shape) → Passes P f plan p s → On ⊥ (LandsIn plan) (apply P f p s)
  unfolding apply
  passes_on plan p s h =
      let e : applied P f p s (decode_at (code_at P f) p) ≡ good (h.result, successors p h.instruction) =
      ap (applied P f p s) h.decoded ∙ ap (λ r. bind r (λ u. good (u, successors p h.instruction))) h.passed in
      subst (On ⊥ (LandsIn plan)) (sym e) h.lands

  pub on_passes : (plan : Plan) (p : ℕ) (s : Shape) → On ⊥ (LandsIn plan) (apply P f p s) → Passes P f plan p s
  unfolding apply
  on_passes plan p s h = go (decode_at (code_at P f) p) refl h
    where
      went : (i : Instruction) → decode_at (code_at P f) p ≡ Some i → (r : Out Shape) → effect P f p i s ≡ r
          → On ⊥ (LandsIn plan) (bind r (λ u. good (u, successors p i))) → Passes P f plan p s
      went i d (bad e) g h = absurd h
      went i d (good u) g h = record { instruction = i; decoded = d; result = u; passed = g; lands = h }

      go : (o : Option Instruction) → decode_at (code_at P f) p ≡ o → On ⊥ (LandsIn plan) (applied P f p s o) → Passes P f plan p s
      go None d h = absurd h
      go (Some i) d h = went i d (effect P f p i s) refl h

  finer_lands : (r o : Out Shape) (qs : List (Option ℕ)) (plan : Plan) → Finer r o
      → On ⊥ (LandsIn plan) (bind o (λ u. good (u, qs))) → On ⊥ (LandsIn plan) (bind r (λ u. good (u, qs)))
  finer_lands r (bad e) qs plan k h = absurd h
  finer_lands (bad e) (good y) qs plan k h = absurd k
  finer_lands (good x) (good y) qs plan k h = lands_trans x y plan qs k h

  -- where a shape's results land, there land those of each shape that reaches it
  pub apply_mono : (p : ℕ) (s t : Shape) → Reach s t → (plan : Plan) → On ⊥ (LandsIn plan) (apply P f p t) → On ⊥ (LandsIn plan) (apply P f p s)
  unfolding apply
  apply_mono p s t r plan h = go (decode_at (code_at P f) p) h
    where
      go : (o : Option Instruction) → On ⊥ (LandsIn plan) (applied P f p t o) → On ⊥ (LandsIn plan) (applied P f p s o)
      go None h = h
      go (Some i) h = finer_lands (effect P f p i s) (effect P f p i t) (successors p i) plan (effect_mono P f p i s t r) h

  pub apply_keeps : KnownSignatures P → (p : ℕ) (s : Shape) → Sized (variables_at P f) s → On (Unit {0}) (λ r. Sized (variables_at P f) r.0) (apply P f p s)
  unfolding apply
  apply_keeps known p s h = go (decode_at (code_at P f) p)
    where
      go : (o : Option Instruction) → On (Unit {0}) (λ r. Sized (variables_at P f) r.0) (applied P f p s o)
      go None = tt
      go (Some i) = on_bind _ (Sized (variables_at P f)) _ (effect P f p i s) _ (effect_keeps P known f p i s h) (λ u g. g)
