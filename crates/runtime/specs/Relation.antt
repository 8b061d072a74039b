-- When a state of the running machine represents a configuration of the checked machine.
use Rattle.std.specs.Prelude.{◌≡◌, ℕ, ◌^◌, ◌<◌, ◌≤◌, List, [], ◌∷◌, ◌++◌, map, reverse, length, Some, None, Option, slice_index, slice_index_or}
use Rattle.bytecode.specs.declared.stop.Stop.{Stop}
use Rattle.bytecode.specs.Program.{Program}
use Rattle.plan.specs.Programs.{nth}
use Rattle.heap.specs.Checked.{Heap}
use Rattle.heap.specs.Storage.{Storage, Known, reference_of, cell_in, record_in}
use Rattle.heap.specs.Relation.{Match}
use Rattle.checked.specs.Runs.{Next, goes, ends, stops, Status, live, ended, stopped}
use Rattle.checked.specs.Machine.{Value, word, reference, Frame, frame, Conf, conf, Sizes, reserved}
use Rattle.runtime.specs.declared.FrameRecord.{FrameRecord}
use Rattle.runtime.specs.Runtime.{State, no_frame}

-- the integers of a program are words, and its strings are few enough for every position to be told from a block
pub record Small (P : Program) : Type 0 where
  pub integers : (c n : ℕ) → nth P.integers c ≡ Some n → n < 2 ^ 32
  pub strings : length P.strings < 2 ^ 32

-- ## Slots

-- a number that stands for a value, with so many blocks: a word's 32 bits, or the number of a reference to something that there is
abbrev pub Stands : ℕ → Value → ℕ → Type 0
Stands count (word w) n = (n ≡ w) × (w < 2 ^ 32)
Stands count (reference r) n = (r ≡ reference_of n) × Known count n

-- an unset variable may have any number
abbrev pub Holds : ℕ → Option Value → ℕ → Type 0
Holds count None n = Unit {0}
Holds count (Some v) n = Stands count v n

-- what a frame has in its slots: its variables, then its operand stack, the top last
abbrev pub slots_of : Frame → List (Option Value)
slots_of (frame f p vs st) = vs ++ map Some (reverse st)

-- the frames lie one behind the other, the oldest first; here the newest is given first
abbrev pub flat : List Frame → List (Option Value)
flat [] = []
flat (f ∷ fs) = flat fs ++ slots_of f

-- the slots hold these values, from the first on
abbrev pub Lays : ℕ → List (Option Value) → List ℕ → Type 0
Lays count xs mem = (i : ℕ) → Holds count (slice_index_or xs i None) (slice_index mem i)

-- ## Frames

-- the records of calling frames, the newest given first
abbrev pub Records : List FrameRecord → List Frame → Type 0
Records recs [] = Unit {0}
Records recs (frame f p vs st ∷ fs) =
    (slice_index_or recs (length fs) no_frame ≡ record { function = f; place = p; base = length (flat fs) }) × Records recs fs

-- ## Storage

-- the bytes of cells in use are bytes, and the lengths of arrays are words
pub record Sized (l : Storage) : Type 0 where
  pub bytes : (j : ℕ) → j < l.used → (k : ℕ) → slice_index (cell_in l j).bytes k < 256
  pub counts : (b : ℕ) → b < l.count → (record_in l b).count < 2 ^ 32

-- ## The whole

pub record Represents (P : Program) (sizes : Sizes) (f p : ℕ) (vs : List (Option Value)) (st : List Value) (rest : List Frame) (h : Heap) (l : State) : Type 0 where
  pub function : l.function ≡ f
  pub place : l.place ≡ p
  pub base : l.base ≡ length (flat rest)
  pub top : l.top ≡ length (flat (frame f p vs st ∷ rest))
  pub lays : Lays l.storage.count (flat (frame f p vs st ∷ rest)) l.slots
  pub records : Records l.frames rest
  pub callers : l.callers ≡ length rest
  pub reserves : l.reserved ≡ reserved P (frame f p vs st ∷ rest)
  pub slot_count : length l.slots ≡ sizes.slots
  pub frame_count : length l.frames ≡ sizes.frames
  pub roomy : reserved P (frame f p vs st ∷ rest) ≤ sizes.slots
  pub free : length rest < sizes.frames
  pub heap : Match sizes.cells sizes.records h l.storage
  pub sized : Sized l.storage

abbrev pub Represented : Program → Sizes → Conf → State → Type 0
Represented P sizes (conf (frame f p vs st) rest h) l = Represents P sizes f p vs st rest h l

-- steps of two machines that come to the same, neither breaking
pub data Same {C D S : Type 0} (R : C → D → Type 0) : Next C S → Next D S → Type 0 where
  go : {c : C} {d : D} {s : S} → R c d → Same R (goes c s) (goes d s)
  end : {w : ℕ} {s : S} → Same R (ends w s) (ends w s)
  stop : {e : Stop} {s : S} → Same R (stops e s) (stops e s)

-- machines between requests that are the same: both go on, both have ended, or both stopped; none is broken
pub data Alike {C D : Type 0} (R : C → D → Type 0) : Status C → Status D → Type 0 where
  lives : {n : ℕ} {c : C} {d : D} → R c d → Alike R (live n c) (live n d)
  done : {n w : ℕ} {c : C} {d : D} → R c d → Alike R (ended n w c) (ended n w d)
  halts : {n : ℕ} {e : Stop} {c : C} {d : D} → R c d → Alike R (stopped n e c) (stopped n e d)
