-- A look at a machine that has frames.
use Rattle.std.proofs.Common.{◌≡◌, ℕ, ◌⊎◌, inl, inr, Some, None, Option, sym, refl, ap, ◌∙◌, subst}
use Rattle.std.specs.Option.{option_map, ok_or}
use Rattle.bytecode.specs.declared.stop.Stop.{Stop}
use Rattle.checked.specs.Runs.{Answer, shown, looked, refusal}
use Rattle.runtime.specs.Runtime.{frame_at, runtime_machine}
use Rattle.execution.specs.declared.FrameView.{FrameView}
use Rattle.execution.specs.declared.Execution.{Execution}
use Rattle.execution.specs.View as execution
use Rattle.execution.specs.View.{view_in}
use Rattle.ready.specs.Ready.{Ready}
use Rattle.machine.specs.declared.Machine.{Machine}
use Rattle.machine.specs.declared.Condition.{Condition}
use Rattle.machine.specs.declared.NoFrame.{NoFrame}
use Rattle.machine.specs.View.{program_in, state_of, status_as, status_of, saw, fault_in, no_frame_fault}

-- machines are the same if their parts are, since a ghost field has one proof at most
pub same_machine : (m : Machine) (e : Execution) (r : ∥ Ready (program_in m) (execution.state_of e) ∥₁) → e ≡ m.execution
    → ◌≡◌ {A = Machine} (record { program = m.program; execution = e; condition = m.condition; ready = r }) m
same_machine m e r same =
    subst (λ x. (h : ∥ Ready (program_in m) (execution.state_of x) ∥₁) → ◌≡◌ {A = Machine} (record { program = m.program; execution = x; condition = m.condition; ready = h }) m)
    (sym same) (λ h i. record { program = m.program; execution = m.execution; condition = m.condition; ready = squash₁ h m.ready i }) r

-- a machine that lives or has stopped
abbrev Standing : Condition → Type 0
Standing x = (x ≡ Condition.Live) ⊎ ((b : Stop) × x ≡ Condition.Stopped b)

module _ (m : Machine) (j n : ℕ) where
  abbrev look_at : Condition → Answer
  look_at x = looked (runtime_machine {S = ℕ} (program_in m)) j (status_as x n (state_of m))

  looked_as : Standing m.condition → look_at m.condition ≡ shown (frame_at (program_in m) (state_of m) j)
  looked_as (inl is) = ap look_at is
  looked_as (inr (b, is)) = ap look_at is

saw_shown : (v : Option FrameView) (e : NoFrame) → saw (ok_or v e) ≡ shown (option_map view_in v)
saw_shown None e = refl
saw_shown (Some v) e = refl

fault_shown : (v : Option FrameView) (e : NoFrame) → fault_in no_frame_fault (ok_or v e) ≡ refusal (shown (option_map view_in v))
fault_shown None e = refl
fault_shown (Some v) e = refl

pub saw_looked : (m : Machine) (j n : ℕ) (v : Option FrameView) (e : NoFrame) → Standing m.condition → option_map view_in v ≡ frame_at (program_in m) (state_of m) j
    → saw (ok_or v e) ≡ looked (runtime_machine {S = ℕ} (program_in m)) j (status_of n m)
saw_looked m j n v e is seen = saw_shown v e ∙ ap shown seen ∙ sym (looked_as m j n is)

pub fault_looked : (m : Machine) (j n : ℕ) (v : Option FrameView) (e : NoFrame) → Standing m.condition → option_map view_in v ≡ frame_at (program_in m) (state_of m) j
    → fault_in no_frame_fault (ok_or v e) ≡ refusal (looked (runtime_machine {S = ℕ} (program_in m)) j (status_of n m))
fault_looked m j n v e is seen = fault_shown v e ∙ ap (λ o. refusal (shown o)) seen ∙ sym (ap refusal (looked_as m j n is))
