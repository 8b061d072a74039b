-- The state that an execution is in, and what an instruction comes to.
use Rattle.std.specs.Prelude.{◌≡◌, ℕ, ◌+◌, Some, None, Ok, Err, Option, Result}
use Rattle.bytecode.specs.declared.stop.Stop.{Stop}
use Rattle.bytecode.specs.declared.instruction.Instruction.{Instruction}
use Rattle.bytecode.specs.declared.instruction.Instruction.TheVariants.{Invokenative}
use Rattle.stack.specs.Stacks.{entries}
use Rattle.cells.specs.View.{storage_of}
use Rattle.checked.specs.Runs.{View}
use Rattle.runtime.specs.Runtime.{State, Came, went, gave, halted}
use Rattle.execution.specs.declared.Execution.{Execution}
use Rattle.execution.specs.declared.FrameView.{FrameView}
use Rattle.execution.specs.declared.Lent.{Lent}

abbrev pub state_of : Execution → State
state_of e =
    record {
      function = e.frame.function;
      place = e.frame.place;
      base = e.frame.base;
      slots = entries e.slots;
      top = e.slots.len;
      frames = entries e.frames;
      callers = e.frames.len;
      reserved = e.reserved;
      storage = storage_of e.memory;
    }

-- main's frame alone, with so many variables, over this memory, and no block
abbrev pub beginning : ℕ → Lent → State
beginning variables memory =
    record {
      function = 0;
      place = 0;
      base = 0;
      slots = memory.slots.now;
      top = variables;
      frames = memory.frames.now;
      callers = 0;
      reserved = variables + 32;
      storage = record { cells = memory.cells.now; used = 0; records = memory.records.now; count = 0 };
    }

abbrev pub view_in : FrameView → View
view_in v = record { function = v.function; place = v.place; depth = v.depth }

-- the result of an instruction that cannot end the program
abbrev pub going : {A : Type 0} → Result A Stop → Result (Option ℕ) Stop
going (Ok a) = Ok None
going (Err e) = Err e

-- an instruction came to c: by its result it went on to the state m that it left, gave main's word, or stopped; the last two left
-- the state l as it was
abbrev pub Comes : Result (Option ℕ) Stop → State → State → Came → Type 0
Comes (Ok None) l m c = went m ≡ c
Comes (Ok (Some w)) l m c = (gave w ≡ c) × (m ≡ l)
Comes (Err e) l m c = (halted e ≡ c) × (m ≡ l)

-- an instruction that calls no host
abbrev pub Plain : Instruction → Type 0
Plain (Invokenative c) = ⊥
Plain _ = Unit {0}
