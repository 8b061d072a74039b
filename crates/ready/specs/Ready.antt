-- A state from which a program may be run, and what the code of each instruction relies on.
use Rattle.std.specs.Prelude.{◌≡◌, ℕ, ◌+◌, ◌-◌, ◌^◌, ◌<◌, ◌≤◌, true, [], length, ℤ, is_some, Some, slice_index_or}
use Rattle.bytecode.specs.declared.kind.Kind.TheVariants.{Word}
use Rattle.bytecode.specs.declared.instruction.Instruction.{Instruction}
use Rattle.bytecode.specs.declared.instruction.Instruction.TheVariants.{Nop, Pop, Dup, Swap, AconstNull, Aldc, Bipush, Ildc, Vload, Vstore, Binary, IfCmpeq, IfCmpne, IfIcmp, Goto, Invokestatic, Invokenative, Return, New, Newarray, Arraylength, Aaddf, Aadds, Imload, Cmload, Amload, Imstore, Cmstore, Amstore}
use Rattle.bytecode.specs.Instructions.{size_of, decode_at, target}
use Rattle.bytecode.specs.Program.{Program, Function, Native}
use Rattle.plan.specs.Programs.{nth, function_at, variables_at}
use Rattle.heap.specs.Storage.{Known, Sound as SoundStorage}
use Rattle.checked.specs.Runs.{Next, breaks}
use Rattle.checked.specs.Machine.{Conf, Sizes}
use Rattle.checked.specs.Law.{Plans, Accepted}
use Rattle.checked.specs.Sound.{Sound}
use Rattle.runtime.specs.Runtime.{State, slot, first_argument, caller_at, end_of}
use Rattle.runtime.specs.Relation.{Small, Represented}

-- no code has more than 4,096 bytes
abbrev pub Short : Program → Type 0
Short P = (f : ℕ) (g : Function) → nth P.functions f ≡ Some g → length g.code ≤ 4096

-- an accepted program's state: it represents a configuration of the checked machine that is as the plans say
pub record Ready (P : Program) (l : State) : Type 0 where
  pub plans : Plans
  pub accepted : Accepted P plans
  pub small : Small P
  pub short : Short P
  pub sizes : Sizes
  pub checked : Conf
  pub sound : Sound P plans checked
  pub represented : Represented P sizes checked l
  pub few_slots : length l.slots < 2 ^ 32
  pub few_frames : length l.frames < 2 ^ 32

-- ## What the code relies on

-- of every state: all that is in use lies inside the lent memory, and sums of places and slots fit
pub record Bounds (l : State) : Type 0 where
  pub few_slots : length l.slots < 2 ^ 32
  pub few_frames : length l.frames < 2 ^ 32
  pub place : l.place < 2 ^ 32
  pub top : l.top ≤ l.reserved
  pub callers : l.callers < length l.frames
  pub reserved : l.reserved ≤ length l.slots
  pub storage : SoundStorage l.storage

-- room for one more value
abbrev pub Room : State → Type 0
Room l = l.top < length l.slots

-- a branch has a target
abbrev pub Lands : State → ℤ → Type 0
Lands l o = is_some (target l.place o) ≡ true

-- the number in a slot names null, a text, or a block that there is
abbrev pub KnownIn : State → ℕ → Type 0
KnownIn l i = Known l.storage.count (slot l i)

-- the native with this number; past the end of the pool stands one with nothing in it
abbrev pub no_native : Native
no_native = record { signature = record { arguments = []; result = Word }; index = 0 }

abbrev pub native_at : Program → ℕ → Native
native_at P c = slice_index_or P.natives c no_native

-- a step that does not break
abbrev pub Whole : {S : Type 0} → Next State S → Type 0
Whole (breaks s) = ⊥
Whole x = Unit {0}

-- of the state before an instruction: values and variables that it takes are there, and so is the room for what it gives
abbrev pub Safe : Program → Instruction → State → Type 0
Safe P Nop l = Unit {0}
Safe P Pop l = 1 ≤ l.top
Safe P Dup l = (1 ≤ l.top) × Room l
Safe P Swap l = 2 ≤ l.top
Safe P AconstNull l = Room l
Safe P (Aldc c) l = Room l
Safe P (Bipush b) l = Room l
Safe P (Ildc c) l = Room l × (c < length P.integers)
Safe P (Vload i) l = Room l × (l.base + i < length l.slots)
Safe P (Vstore i) l = (1 ≤ l.top) × (l.base + i < length l.slots)
Safe P (Binary op) l = 2 ≤ l.top
Safe P (IfCmpeq o) l = (2 ≤ l.top) × Lands l o
Safe P (IfCmpne o) l = (2 ≤ l.top) × Lands l o
Safe P (IfIcmp order o) l = (2 ≤ l.top) × Lands l o
Safe P (Goto o) l = Lands l o
Safe P (Invokestatic c) l =
    (c < length P.functions) × (length (function_at P c).signature.arguments ≤ l.top) × (variables_at P c ≤ 32)
Safe P (Invokenative c) l =
    (c < length P.natives) × (length (native_at P c).signature.arguments ≤ l.top) × (first_argument l (native_at P c) < length l.slots)
Safe P Return l =
    (1 ≤ l.top) × (l.base < length l.slots) × (l.function < length P.functions) × (variables_at P l.function + 32 ≤ l.reserved)
    × (l.callers ≡ 0 → slot l (l.top - 1) < 2 ^ 32)
Safe P (New s) l = Room l
Safe P (Newarray s) l = 1 ≤ l.top
Safe P Arraylength l = (1 ≤ l.top) × KnownIn l (l.top - 1)
Safe P (Aaddf f) l = (1 ≤ l.top) × KnownIn l (l.top - 1)
Safe P Aadds l = (2 ≤ l.top) × KnownIn l (l.top - 2)
Safe P Imload l = (1 ≤ l.top) × KnownIn l (l.top - 1)
Safe P Cmload l = (1 ≤ l.top) × KnownIn l (l.top - 1)
Safe P Amload l = (1 ≤ l.top) × KnownIn l (l.top - 1)
Safe P Imstore l = (2 ≤ l.top) × KnownIn l (l.top - 2)
Safe P Cmstore l = (2 ≤ l.top) × KnownIn l (l.top - 2)
Safe P Amstore l = (2 ≤ l.top) × KnownIn l (l.top - 2) × KnownIn l (l.top - 1)

-- ## The next instruction

-- a state's next instruction is there, and whatever it relies on
pub record Fetched (P : Program) (l : State) : Type 0 where
  pub function : l.function < length P.functions
  pub instruction : Instruction
  pub decoded : decode_at (function_at P l.function).code l.place ≡ Some instruction
  pub inside : l.place < length (function_at P l.function).code
  pub whole : l.place + size_of instruction ≤ length (function_at P l.function).code
  pub short : length (function_at P l.function).code ≤ 4096
  pub bounds : Bounds l
  pub safe : Safe P instruction l

-- ## What can be seen

-- the function of every frame is there, and its variables lie before the frame's end
abbrev pub FrameInside : Program → ℕ → ℕ → ℕ → Type 0
FrameInside P f base end = (f < length P.functions) × (base + variables_at P f ≤ end)

pub record Framed (P : Program) (l : State) : Type 0 where
  pub inside : l.callers ≤ length l.frames
  pub few : length l.frames < 2 ^ 32
  pub newest : FrameInside P l.function l.base l.top
  pub callers : (j : ℕ) → j < l.callers → FrameInside P (caller_at l j).function (caller_at l j).base (end_of l j)
