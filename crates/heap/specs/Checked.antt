-- The checked machine's memory: blocks of cells, each cell eight bytes or a reference, and what each memory instruction does there.
-- A word is its 32 bits as a number below 2 ^ 32. Assumes nothing of the code.
use Rattle.std.specs.Prelude.{ℕ, zero, suc, ◌+◌, ◌*◌, ◌/◌, ◌%◌, ◌^◌, Bool, true, false, cond, List, [], ◌∷◌, ◌++◌, length, replicate, ◌==◌, nat_le, nat_lt, slice_index, slice_index_or, slice_set}
use Rattle.bytecode.specs.Stops.{Attempt, gives, stops, and_then}
use Rattle.bytecode.specs.declared.stop.Stop.TheVariants.{Null, Bounds, Array, Text, Alignment, Mark, Length, Cells}

-- null, a text by its position in the string pool, or a block by its number with an offset in bytes
pub data Reference : Type 0 where
  null : Reference
  text : ℕ → Reference
  block : ℕ → ℕ → Reference

-- what a cell holds: eight bytes, or, if it is marked, a reference
pub data Content : Type 0 where
  plain : List ℕ → Content
  marked : Reference → Content

-- how a block was made: by new s (single s), or by newarray s with length n (array n s)
pub data Layout : Type 0 where
  single : ℕ → Layout
  array : ℕ → ℕ → Layout

pub record Block : Type 0 where
  pub layout : Layout
  pub cells : List Content

-- the blocks made so far, the oldest first: a block's number is its place here
abbrev pub Heap : Type 0
Heap = List Block

-- the data lie from 0 to s, or, behind an array's first cell, from 8 to 8 + n × s
abbrev pub data_start : Layout → ℕ
data_start (single s) = 0
data_start (array n s) = 8

abbrev pub data_end : Layout → ℕ
data_end (single s) = s
data_end (array n s) = 8 + n * s

-- the whole cells that a block takes
abbrev pub room : Layout → ℕ
room how = (data_end how + 7) / 8

abbrev pub zeros : List ℕ
zeros = 0 ∷ 0 ∷ 0 ∷ 0 ∷ 0 ∷ 0 ∷ 0 ∷ 0 ∷ []

-- an array's first cell: n and then s in four bytes each, the most significant first
abbrev pub header : ℕ → ℕ → List ℕ
header n s =
    (n / 16777216 % 256) ∷ (n / 65536 % 256) ∷ (n / 256 % 256) ∷ (n % 256) ∷
    (s / 16777216 % 256) ∷ (s / 65536 % 256) ∷ (s / 256 % 256) ∷ (s % 256) ∷ []

-- the cells of a new block: all zero but for an array's first
abbrev pub fresh : Layout → List Content
fresh (single s) = replicate (room (single s)) (plain zeros)
fresh (array n s) = slice_set (replicate (room (array n s)) (plain zeros)) 0 (plain (header n s))

abbrev pub fresh_block : Layout → Block
fresh_block how = record { layout = how; cells = fresh how }

-- the cells of all blocks together
abbrev pub total : Heap → ℕ
total [] = 0
total (b ∷ bs) = length b.cells + total bs

-- what new and newarray give: the heap with the new block, and a reference to that
pub record Allocation : Type 0 where
  pub heap : Heap
  pub reference : Reference

-- with so many cells and block records in all: stop 9 exactly when cells or records do not suffice
abbrev pub allocate : ℕ → ℕ → Heap → Layout → Attempt Allocation
allocate cells records h how =
    cond (nat_le (total h + room how) cells)
    (cond (nat_lt (length h) records)
    (gives (record { heap = h ++ (fresh_block how ∷ []); reference = block (length h) 0 }))
    (stops Cells))
    (stops Cells)

abbrev pub new : ℕ → ℕ → Heap → ℕ → Attempt Allocation
new cells records h s = allocate cells records h (single s)

-- a length below 0 has bits from 2 ^ 31 on: stop 8
abbrev pub newarray : ℕ → ℕ → Heap → ℕ → ℕ → Attempt Allocation
newarray cells records h s n = cond (nat_lt n (2 ^ 31)) (allocate cells records h (array n s)) (stops Length)

-- what a number stands for that no block has: a block without data
abbrev pub no_block : Block
no_block = record { layout = single 0; cells = [] }

abbrev pub block_at : Heap → ℕ → Block
block_at h b = slice_index_or h b no_block

-- arraylength and aadds take a reference to an array's own offset 0
abbrev pub length_of : Layout → ℕ → Attempt ℕ
length_of (single s) o = stops Array
length_of (array n s) o = cond (o == 0) (gives n) (stops Array)

abbrev pub arraylength : Heap → Reference → Attempt ℕ
arraylength h null = stops Null
arraylength h (text p) = stops Array
arraylength h (block b o) = length_of (block_at h b).layout o

-- element i of block b; an index below 0 has bits from 2 ^ 31 on, and no array is as long as that
abbrev pub element : Layout → ℕ → ℕ → ℕ → Attempt Reference
element (single s) b o i = stops Array
element (array n s) b o i = cond (o == 0) (cond (nat_lt i n) (gives (block b (8 + i * s))) (stops Bounds)) (stops Array)

abbrev pub aadds : Heap → Reference → ℕ → Attempt Reference
aadds h null i = stops Null
aadds h (text p) i = stops Array
aadds h (block b o) i = element (block_at h b).layout b o i

-- the end of the data may be reached and not be passed
abbrev pub aaddf : Heap → Reference → ℕ → Attempt Reference
aaddf h null f = stops Null
aaddf h (text p) f = stops Text
aaddf h (block b o) f = cond (nat_le (o + f) (data_end (block_at h b).layout)) (gives (block b (o + f))) (stops Bounds)

-- where an access goes: a block, a cell of it, and a byte of the cell
pub record Spot : Type 0 where
  pub block : ℕ
  pub cell : ℕ
  pub byte : ℕ

-- an access to k bytes (1, 4 or 8) at offset o of block b: inside the data, then at a multiple of k
abbrev pub within : Layout → ℕ → ℕ → ℕ → Attempt Spot
within how b o k =
    cond (nat_lt o (data_start how)) (stops Bounds)
    (cond (nat_lt (data_end how) (o + k)) (stops Bounds)
    (cond (o % k == 0) (gives (record { block = b; cell = o / 8; byte = o % 8 })) (stops Alignment)))

abbrev pub reach : Heap → Reference → ℕ → Attempt Spot
reach h null k = stops Null
reach h (text p) k = stops Text
reach h (block b o) k = within (block_at h b).layout b o k

abbrev pub cell_at : Heap → Spot → Content
cell_at h p = slice_index_or (block_at h p.block).cells p.cell (plain zeros)

abbrev pub put_at : Heap → Spot → Content → Heap
put_at h p c =
    slice_set h p.block (record { layout = (block_at h p.block).layout; cells = slice_set (block_at h p.block).cells p.cell c })

-- the word at byte i, the most significant byte first
abbrev pub word_at : List ℕ → ℕ → ℕ
word_at bs i = ((slice_index bs i * 16777216 + slice_index bs (i + 1) * 65536) + slice_index bs (i + 2) * 256) + slice_index bs (i + 3)

abbrev pub put_word : List ℕ → ℕ → ℕ → List ℕ
put_word bs i w =
    slice_set (slice_set (slice_set (slice_set bs i (w / 16777216 % 256)) (i + 1) (w / 65536 % 256)) (i + 2) (w / 256 % 256)) (i + 3) (w % 256)

-- the first k bytes are all zero
abbrev pub all_zero : ℕ → List ℕ → Bool
all_zero zero bs = true
all_zero (suc k) bs = cond (slice_index bs k == 0) (all_zero k bs) false

-- stop 7: a word or a byte of a marked cell, or a reference in an unmarked cell that is not all zero
abbrev pub read_word : Content → ℕ → Attempt ℕ
read_word (plain bs) i = gives (word_at bs i)
read_word (marked r) i = stops Mark

abbrev pub read_byte : Content → ℕ → Attempt ℕ
read_byte (plain bs) i = gives (slice_index bs i)
read_byte (marked r) i = stops Mark

abbrev pub read_reference : Content → Attempt Reference
read_reference (plain bs) = cond (all_zero 8 bs) (gives null) (stops Mark)
read_reference (marked r) = gives r

abbrev pub write_word : Content → ℕ → ℕ → Attempt Content
write_word (plain bs) i w = gives (plain (put_word bs i w))
write_word (marked r) i w = stops Mark

-- a byte takes the low seven bits of the word
abbrev pub write_byte : Content → ℕ → ℕ → Attempt Content
write_byte (plain bs) i w = gives (plain (slice_set bs i (w % 128)))
write_byte (marked r) i w = stops Mark

-- the mark is set for every reference, null too, and no instruction takes it away
abbrev pub write_reference : Content → Reference → Attempt Content
write_reference (plain bs) v = cond (all_zero 8 bs) (gives (marked v)) (stops Mark)
write_reference (marked r) v = gives (marked v)

abbrev pub imload : Heap → Reference → Attempt ℕ
imload h r = and_then (reach h r 4) (λ p. read_word (cell_at h p) p.byte)

-- the byte extended with zeros
abbrev pub cmload : Heap → Reference → Attempt ℕ
cmload h r = and_then (reach h r 1) (λ p. read_byte (cell_at h p) p.byte)

abbrev pub amload : Heap → Reference → Attempt Reference
amload h r = and_then (reach h r 8) (λ p. read_reference (cell_at h p))

-- a store leaves the heap with the one cell changed
abbrev pub stored : Heap → Spot → Attempt Content → Attempt Heap
stored h p (gives c) = gives (put_at h p c)
stored h p (stops e) = stops e

abbrev pub imstore : Heap → Reference → ℕ → Attempt Heap
imstore h r w = and_then (reach h r 4) (λ p. stored h p (write_word (cell_at h p) p.byte w))

abbrev pub cmstore : Heap → Reference → ℕ → Attempt Heap
cmstore h r w = and_then (reach h r 1) (λ p. stored h p (write_byte (cell_at h p) p.byte w))

abbrev pub amstore : Heap → Reference → Reference → Attempt Heap
amstore h r v = and_then (reach h r 8) (λ p. stored h p (write_reference (cell_at h p) v))
