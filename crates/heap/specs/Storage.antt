-- The memory as it is built: lent cells and block records, of which the first `used` and `count` are in use, and references that are numbers.
use Rattle.std.specs.Prelude.{◌≡◌, ℕ, zero, suc, ◌+◌, ◌-◌, ◌*◌, ◌/◌, ◌%◌, ◌^◌, ◌<◌, ◌≤◌, Bool, true, false, cond, List, [], ◌∷◌, length, ◌==◌, nat_le, nat_lt, slice_index, slice_index_or, slice_set}
use Rattle.bytecode.specs.Stops.{Attempt, gives, stops, and_then}
use Rattle.bytecode.specs.declared.stop.Stop.TheVariants.{Null, Bounds, Array, Text, Alignment, Mark, Length, Cells}
use Rattle.heap.specs.declared.Cell.{Cell}
use Rattle.heap.specs.declared.BlockRecord.{BlockRecord}
use Rattle.heap.specs.Checked.{Reference, null, text, block, Layout, single, array, room, zeros, header, word_at, put_word}

pub record Storage : Type 0 where
  pub cells : List Cell
  pub used : ℕ
  pub records : List BlockRecord
  pub count : ℕ

-- a reference's number: 0 is null, p + 1 is text p, (b + 1) × 2 ^ 32 + o is offset o of block b
abbrev pub number_of : Reference → ℕ
number_of null = 0
number_of (text p) = p + 1
number_of (block b o) = (b + 1) * 2 ^ 32 + o

abbrev pub block_of : ℕ → ℕ
block_of n = n / 2 ^ 32 - 1

abbrev pub offset_of : ℕ → ℕ
offset_of n = n % 2 ^ 32

-- every number is the number of one reference
abbrev pub reference_of : ℕ → Reference
reference_of n = cond (n == 0) null (cond (nat_lt n (2 ^ 32)) (text (n - 1)) (block (block_of n) (offset_of n)))

-- one of three attempts, as n is null's number, a text's or a block's
abbrev pub by_sort : {A : Type 0} → ℕ → Attempt A → Attempt A → Attempt A → Attempt A
by_sort n x y z = cond (n == 0) x (cond (nat_lt n (2 ^ 32)) y z)

-- a number in eight bytes, the most significant first
abbrev pub from_bytes : List ℕ → ℕ
from_bytes bs =
    ((((((slice_index bs 0 * 72057594037927936 + slice_index bs 1 * 281474976710656) + slice_index bs 2 * 1099511627776) + slice_index bs 3 * 4294967296)
    + slice_index bs 4 * 16777216) + slice_index bs 5 * 65536) + slice_index bs 6 * 256) + slice_index bs 7

abbrev pub to_bytes : ℕ → List ℕ
to_bytes n =
    (n / 72057594037927936 % 256) ∷ (n / 281474976710656 % 256) ∷ (n / 1099511627776 % 256) ∷ (n / 4294967296 % 256) ∷
    (n / 16777216 % 256) ∷ (n / 65536 % 256) ∷ (n / 256 % 256) ∷ (n % 256) ∷ []

abbrev pub unmarked : List ℕ → Cell
unmarked bs = record { bytes = bs; mark = false }

abbrev pub holding : ℕ → Cell
holding v = record { bytes = to_bytes v; mark = true }

-- what a list of cells or records has past its end
abbrev pub no_cell : Cell
no_cell = unmarked []

abbrev pub no_record : BlockRecord
no_record = record { start = 0; from = 0; end = 0; count = 0; size = 0 }

abbrev pub cell_in : Storage → ℕ → Cell
cell_in l j = slice_index_or l.cells j no_cell

abbrev pub record_in : Storage → ℕ → BlockRecord
record_in l b = slice_index_or l.records b no_record

abbrev pub with_cell : Storage → ℕ → Cell → Storage
with_cell l j c = record { cells = slice_set l.cells j c; used = l.used; records = l.records; count = l.count }

-- the record of a block that begins at cell i
abbrev pub record_of : ℕ → Layout → BlockRecord
record_of i (single s) = record { start = i; from = 0; end = s; count = 0; size = s }
record_of i (array n s) = record { start = i; from = 8; end = 8 + n * s; count = n; size = s }

-- n cells from i on made zero
abbrev pub clear : List Cell → ℕ → ℕ → List Cell
clear mem i zero = mem
clear mem i (suc n) = clear (slice_set mem i (unmarked zeros)) (suc i) n

abbrev pub laid : List Cell → ℕ → Layout → List Cell
laid mem i (single s) = clear mem i (room (single s))
laid mem i (array n s) = slice_set (clear mem i (room (array n s))) i (unmarked (header n s))

-- one block more, in the next cells and the next record
abbrev pub placed : Storage → Layout → Storage
placed l how =
    record {
      cells = laid l.cells l.used how;
      used = l.used + room how;
      records = slice_set l.records l.count (record_of l.used how);
      count = l.count + 1;
    }

-- the next `need` cells made zero, and r in the next record
abbrev pub taken : Storage → ℕ → BlockRecord → Storage
taken l need r =
    record {
      cells = clear l.cells l.used need;
      used = l.used + need;
      records = slice_set l.records l.count r;
      count = l.count + 1;
    }

abbrev pub has_room : Storage → ℕ → Bool
has_room l need = cond (nat_le (l.used + need) (length l.cells)) (nat_lt l.count (length l.records)) false

-- what an allocation gives: the storage afterwards, and the new reference's number
pub record Placement : Type 0 where
  pub storage : Storage
  pub number : ℕ

abbrev pub place : Storage → Layout → Attempt Placement
place l how =
    cond (has_room l (room how)) (gives (record { storage = placed l how; number = (l.count + 1) * 2 ^ 32 })) (stops Cells)

abbrev pub new_single : Storage → ℕ → Attempt Placement
new_single l s = place l (single s)

abbrev pub new_array : Storage → ℕ → ℕ → Attempt Placement
new_array l s n = cond (nat_lt n (2 ^ 31)) (place l (array n s)) (stops Length)

-- the record of an array, from the number of its reference at offset 0
abbrev pub array_at : Storage → ℕ → Attempt BlockRecord
array_at l n =
    by_sort n (stops Null) (stops Array)
    (cond (nat_lt 0 (record_in l (block_of n)).from) (cond (offset_of n == 0) (gives (record_in l (block_of n))) (stops Array)) (stops Array))

abbrev pub array_length : Storage → ℕ → Attempt ℕ
array_length l n = and_then (array_at l n) (λ r. gives r.count)

abbrev pub add_index : Storage → ℕ → ℕ → Attempt ℕ
add_index l n i = and_then (array_at l n) (λ r. cond (nat_lt i r.count) (gives (n + (8 + i * r.size))) (stops Bounds))

abbrev pub add_field : Storage → ℕ → ℕ → Attempt ℕ
add_field l n f =
    by_sort n (stops Null) (stops Text) (cond (nat_le (offset_of n + f) (record_in l (block_of n)).end) (gives (n + f)) (stops Bounds))

-- the index of the cell that an access to k bytes goes to
abbrev pub locate_in : BlockRecord → ℕ → ℕ → Attempt ℕ
locate_in r o k =
    cond (nat_lt o r.from) (stops Bounds)
    (cond (nat_lt r.end (o + k)) (stops Bounds) (cond (o % k == 0) (gives (r.start + o / 8)) (stops Alignment)))

abbrev pub locate : Storage → ℕ → ℕ → Attempt ℕ
locate l n k = by_sort n (stops Null) (stops Text) (locate_in (record_in l (block_of n)) (offset_of n) k)

-- a cell read and written as a word, a byte, or a reference's number
abbrev pub word_in : Cell → ℕ → Attempt ℕ
word_in c i = cond c.mark (stops Mark) (gives (word_at c.bytes i))

abbrev pub byte_in : Cell → ℕ → Attempt ℕ
byte_in c i = cond c.mark (stops Mark) (gives (slice_index c.bytes i))

abbrev pub number_in : Cell → Attempt ℕ
number_in c = cond c.mark (gives (from_bytes c.bytes)) (cond (from_bytes c.bytes == 0) (gives 0) (stops Mark))

abbrev pub word_into : Cell → ℕ → ℕ → Attempt Cell
word_into c i w = cond c.mark (stops Mark) (gives (unmarked (put_word c.bytes i w)))

abbrev pub byte_into : Cell → ℕ → ℕ → Attempt Cell
byte_into c i w = cond c.mark (stops Mark) (gives (unmarked (slice_set c.bytes i (w % 128))))

abbrev pub number_into : Cell → ℕ → Attempt Cell
number_into c v = cond c.mark (gives (holding v)) (cond (from_bytes c.bytes == 0) (gives (holding v)) (stops Mark))

abbrev pub load_word : Storage → ℕ → Attempt ℕ
load_word l n = and_then (locate l n 4) (λ j. word_in (cell_in l j) (n % 8))

abbrev pub load_byte : Storage → ℕ → Attempt ℕ
load_byte l n = and_then (locate l n 1) (λ j. byte_in (cell_in l j) (n % 8))

abbrev pub load_reference : Storage → ℕ → Attempt ℕ
load_reference l n = and_then (locate l n 8) (λ j. number_in (cell_in l j))

abbrev pub stored_in : Storage → ℕ → Attempt Cell → Attempt Storage
stored_in l j (gives c) = gives (with_cell l j c)
stored_in l j (stops e) = stops e

abbrev pub store_word : Storage → ℕ → ℕ → Attempt Storage
store_word l n w = and_then (locate l n 4) (λ j. stored_in l j (word_into (cell_in l j) (n % 8) w))

abbrev pub store_byte : Storage → ℕ → ℕ → Attempt Storage
store_byte l n w = and_then (locate l n 1) (λ j. stored_in l j (byte_into (cell_in l j) (n % 8) w))

abbrev pub store_reference : Storage → ℕ → ℕ → Attempt Storage
store_reference l n v = and_then (locate l n 8) (λ j. stored_in l j (number_into (cell_in l j) v))

-- a number that names null, a text, or a block below count
abbrev pub Known : ℕ → ℕ → Type 0
Known count n = 2 ^ 32 ≤ n → block_of n < count

-- a block's record: its cells are in use, and an array's elements lie before the end of its data
pub record Bounded (used : ℕ) (r : BlockRecord) : Type 0 where
  pub cells_used : r.start + (r.end + 7) / 8 ≤ used
  pub elements : 0 < r.from → 8 + r.count * r.size ≤ r.end

-- what the code relies on; the bounds on the lent lists keep every index and every number in its type
pub record Sound (l : Storage) : Type 0 where
  pub cells_fit : l.used ≤ length l.cells
  pub records_fit : l.count ≤ length l.records
  pub few_cells : length l.cells < 2 ^ 28
  pub few_records : length l.records < 2 ^ 31
  pub bounded : (b : ℕ) → b < l.count → Bounded l.used (record_in l b)
  pub names : (j : ℕ) → j < l.used → (cell_in l j).mark ≡ true → Known l.count (from_bytes (cell_in l j).bytes)
