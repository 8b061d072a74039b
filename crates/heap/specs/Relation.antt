-- When storage represents the checked machine's heap, and when two attempts agree.
use Rattle.std.specs.Prelude.{◌≡◌, ℕ, ◌+◌, ◌<◌, ◌≤◌, cond, List, length, slice_index_or}
use Rattle.bytecode.specs.declared.stop.Stop.{Stop}
use Rattle.bytecode.specs.Stops.{Attempt, gives, stops}
use Rattle.heap.specs.declared.Cell.{Cell}
use Rattle.heap.specs.declared.BlockRecord.{BlockRecord}
use Rattle.heap.specs.Checked.{Reference, Content, plain, marked, Block, Heap, room, zeros, block_at, total, Allocation}
use Rattle.heap.specs.Storage.{Storage, Placement, Sound, Known, no_cell, record_in, record_of, reference_of, from_bytes}

-- a marked cell holds its reference's number, any other its bytes
abbrev pub content_of : Cell → Content
content_of c = cond c.mark (marked (reference_of (from_bytes c.bytes))) (plain c.bytes)

-- a block lies where its record says
pub record Lies (mem : List Cell) (used : ℕ) (r : BlockRecord) (b : Block) : Type 0 where
  pub record_is : r ≡ record_of r.start b.layout
  pub size : length b.cells ≡ room b.layout
  pub ends : r.start + room b.layout ≤ used
  pub same : (j : ℕ) → j < room b.layout → slice_index_or b.cells j (plain zeros) ≡ content_of (slice_index_or mem (r.start + j) no_cell)

-- storage with so many cells and block records in all represents the heap: it is as the code relies on, each block lies in
-- its record's cells, none overlaps another, and as many cells are used as the blocks take
pub record Match (cells records : ℕ) (h : Heap) (l : Storage) : Type 0 where
  pub cells_are : length l.cells ≡ cells
  pub records_are : length l.records ≡ records
  pub sound : Sound l
  pub blocks : length h ≡ l.count
  pub all : total h ≡ l.used
  pub lies : (b : ℕ) → b < l.count → Lies l.cells l.used (record_in l b) (block_at h b)
  pub apart : (b c : ℕ) → b < c → c < l.count → (record_in l b).start + room (block_at h b).layout ≤ (record_in l c).start

-- the same stop, or answers that belong together
pub data Same {A B : Type 0} (R : A → B → Type 0) : Attempt A → Attempt B → Type 0 where
  give : {a : A} {b : B} → R a b → Same R (gives a) (gives b)
  stop : {e : Stop} → Same R (stops e) (stops e)

-- a number given as the reference that it is the number of
abbrev pub references : Attempt ℕ → Attempt Reference
references (gives n) = gives (reference_of n)
references (stops e) = stops e

-- a number given names null, a text or a block that there is
abbrev pub Names : ℕ → Attempt ℕ → Type 0
Names count (gives n) = Known count n
Names count (stops e) = Unit {0}

-- an allocation on both sides: heaps that match, and one reference
pub record Allocated (cells records : ℕ) (x : Allocation) (y : Placement) : Type 0 where
  pub match : Match cells records x.heap y.storage
  pub same : x.reference ≡ reference_of y.number
  pub known : Known y.storage.count y.number
