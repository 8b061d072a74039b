-- A memory seen as storage, and a call's result seen as an attempt.
use Rattle.std.specs.Prelude.{◌≡◌, ℕ, ◌%◌, true, ◌≤◌, length, Ok, Err, Result}
use Rattle.bytecode.specs.declared.stop.Stop.{Stop}
use Rattle.bytecode.specs.Stops.{Attempt, gives, stops, and_then}
use Rattle.heap.specs.declared.Cell.{Cell}
use Rattle.heap.specs.Storage.{Storage, Placement, Known, from_bytes, locate, cell_in, stored_in}
use Rattle.cells.specs.declared.memory.Memory.{Memory}

abbrev pub storage_of : Memory → Storage
storage_of m = record { cells = m.cells.now; used = m.used; records = m.records.now; count = m.count }

abbrev pub attempt_of : {A : Type 0} → Result A Stop → Attempt A
attempt_of (Ok v) = gives v
attempt_of (Err e) = stops e

-- a call that gives nothing but what it leaves
abbrev pub leaves : {A B : Type 0} → Result A Stop → B → Attempt B
leaves (Ok v) after = gives after
leaves (Err e) after = stops e

-- a call that gives a reference's number and leaves storage
abbrev pub allocates : Result ℕ Stop → Storage → Attempt Placement
allocates (Ok v) after = gives (record { storage = after; number = v })
allocates (Err e) after = stops e

-- a stop leaves what was there before
abbrev pub Unchanged : {A B : Type 0} → Result A Stop → B → B → Type 0
Unchanged (Ok v) before after = Unit {0}
Unchanged (Err e) before after = after ≡ before

-- a value given is as the fact says
abbrev pub Given : {A : Type 0} → (A → Type 0) → Attempt A → Type 0
Given P (gives v) = P v
Given P (stops e) = Unit {0}

-- a marked cell's number names a block that there is
abbrev pub Naming : ℕ → Cell → Type 0
Naming count c = c.mark ≡ true → Known count (from_bytes c.bytes)

-- a load of so many bytes, by what it reads in a cell
abbrev pub load : {A : Type 0} → ℕ → (Cell → ℕ → Attempt A) → Storage → ℕ → Attempt A
load size reads l n = and_then (locate l n size) (λ j. reads (cell_in l j) (n % 8))

-- a store of so many bytes, by what it writes in a cell
abbrev pub store : ℕ → (Cell → ℕ → Attempt Cell) → Storage → ℕ → Attempt Storage
store size writes l n = and_then (locate l n size) (λ j. stored_in l j (writes (cell_in l j) (n % 8)))

-- what every call that may change memory keeps: a stop leaves all as it was, as many cells and block records are lent, and no block goes
pub record Kept {A : Type 0} (answer : Result A Stop) (before after : Storage) : Type 0 where
  pub stop : Unchanged answer before after
  pub cells : length after.cells ≡ length before.cells
  pub records : length after.records ≡ length before.records
  pub blocks : before.count ≤ after.count
