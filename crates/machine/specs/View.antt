-- What a machine and its answers stand for.
use Rattle.std.specs.Prelude.{ℕ, Some, None, Ok, Err, Option, Result}
use Rattle.bytecode.specs.Outcome.{Fault}
use Rattle.bytecode.specs.Program.{Program}
use Rattle.reader.specs.View.{program_of}
use Rattle.checked.specs.Machine as checked
use Rattle.checked.specs.Runs.{Status, live, ended, stopped, Answer, continues, ends, stops, over, sees, unseen}
use Rattle.runtime.specs.Runtime.{State}
use Rattle.runtime.specs.Law.{Memory}
use Rattle.execution.specs.declared.FrameView.{FrameView}
use Rattle.execution.specs.declared.Lent.{Lent}
use Rattle.execution.specs.View as execution
use Rattle.execution.specs.View.{view_in}
use Rattle.machine.specs.declared.Machine.{Machine}
use Rattle.machine.specs.declared.sizes.Sizes.{Sizes}
use Rattle.machine.specs.declared.Condition.{Condition}
use Rattle.machine.specs.declared.Outcome.{Outcome}
use Rattle.machine.specs.declared.Over.{Over}
use Rattle.machine.specs.declared.NoFrame.{NoFrame}
use Rattle.machine.specs.declared.SizesRefused.{SizesRefused}

-- ## The machine

abbrev pub program_in : Machine → Program
program_in m = program_of m.program

abbrev pub state_of : Machine → State
state_of m = execution.state_of m.execution

abbrev pub status_as : Condition → ℕ → State → Status State
status_as Condition.Live n l = live n l
status_as (Condition.Ended w) n l = ended n w l
status_as (Condition.Stopped e) n l = stopped n e l

-- the machine between calls, after n steps
abbrev pub status_of : ℕ → Machine → Status State
status_of n m = status_as m.condition n (state_of m)

-- memory as it is lent to a machine, none of it in use
abbrev pub memory_in : Lent → Memory
memory_in m =
    record { slots = m.slots.now; frames = m.frames.now; storage = record { cells = m.cells.now; used = 0; records = m.records.now; count = 0 } }

abbrev pub sizes_in : Sizes → checked.Sizes
sizes_in s = record { slots = s.slots; frames = s.frames; cells = s.cells; records = s.records }

-- ## Answers

abbrev pub told : Result Outcome Over → Answer
told (Ok (Outcome.Continues k)) = continues k
told (Ok (Outcome.Ended w k)) = ends w k
told (Ok (Outcome.Stopped e f p k)) = stops e f p k
told (Err e) = over

-- the steps that a run used
abbrev pub used_of : Result Outcome Over → ℕ
used_of (Ok (Outcome.Continues k)) = k
used_of (Ok (Outcome.Ended w k)) = k
used_of (Ok (Outcome.Stopped e f p k)) = k
used_of (Err e) = 0

abbrev pub saw : Result FrameView NoFrame → Answer
saw (Ok v) = sees (view_in v)
saw (Err e) = unseen

-- ## The number and the place of each refusal

abbrev pub sizes_fault : SizesRefused → Fault
sizes_fault e = (30, 0, 0)

abbrev pub over_fault : Over → Fault
over_fault e = (32, 0, 0)

abbrev pub no_frame_fault : NoFrame → Fault
no_frame_fault e = (33, 0, 0)

-- the refusal in a call's answer, if it is one
abbrev pub fault_in : {A E : Type 0} → (E → Fault) → Result A E → Option Fault
fault_in f (Ok a) = None
fault_in f (Err e) = Some (f e)
