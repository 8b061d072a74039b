-- A cell read and written as a word, a byte or a reference answers and stops as its content does.
use Rattle.std.proofs.Common.{◌≡◌, ℕ, ◌%◌, ◌^◌, ◌<◌, Bool, true, false, cond, eqb, get_or, set, sym, refl, ap, ◌∙◌}
use Rattle.bytecode.specs.Stops.{Attempt, gives, stops}
use Rattle.bytecode.specs.declared.stop.Stop.TheVariants.{Mark}
use Rattle.heap.specs.declared.Cell.{Cell}
use Rattle.heap.specs.Checked.{null, Content, plain, marked, word_at, put_word, read_word, read_byte, read_reference, write_word, write_byte, write_reference}
use Rattle.heap.specs.Storage.{reference_of, from_bytes, unmarked, holding, word_in, byte_in, number_in, word_into, byte_into, number_into}
use Rattle.heap.specs.Relation.{content_of, references}
use Rattle.heap.proofs.Numbering.{from_bytes-zero, from_bytes-to_bytes}

-- a cell given as what it holds
abbrev pub contents : Attempt Cell → Attempt Content
contents (gives c) = gives (content_of c)
contents (stops e) = stops e

-- the content of a cell with the bytes of c and mark m
abbrev held_by : Cell → Bool → Content
held_by c m = cond m (marked (reference_of (from_bytes c.bytes))) (plain c.bytes)

pub read_word-content_of : (c : Cell) (i : ℕ) → read_word (content_of c) i ≡ word_in c i
read_word-content_of c i =
    elim c.mark as (λ m. read_word (held_by c m) i ≡ cond m (stops Mark) (gives (word_at c.bytes i)))
    [ true ↦ refl | false ↦ refl ]

pub read_byte-content_of : (c : Cell) (i : ℕ) → read_byte (content_of c) i ≡ byte_in c i
read_byte-content_of c i =
    elim c.mark as (λ m. read_byte (held_by c m) i ≡ cond m (stops Mark) (gives (get_or c.bytes i 0)))
    [ true ↦ refl | false ↦ refl ]

null_or_stop : (b : Bool) → cond b (gives null) (stops Mark) ≡ references (cond b (gives 0) (stops Mark))
null_or_stop true = refl
null_or_stop false = refl

pub read_reference-content_of : (c : Cell) → read_reference (content_of c) ≡ references (number_in c)
read_reference-content_of c =
    elim c.mark as (λ m. read_reference (held_by c m)
    ≡ references (cond m (gives (from_bytes c.bytes)) (cond (eqb (from_bytes c.bytes) 0) (gives 0) (stops Mark)))) [
      | true ↦ refl
      | false ↦ ap (λ b. cond b (gives null) (stops Mark)) (sym (from_bytes-zero c.bytes)) ∙ null_or_stop (eqb (from_bytes c.bytes) 0)
    ]

pub write_word-content_of : (c : Cell) (i w : ℕ) → write_word (content_of c) i w ≡ contents (word_into c i w)
write_word-content_of c i w =
    elim c.mark as (λ m. write_word (held_by c m) i w ≡ contents (cond m (stops Mark) (gives (unmarked (put_word c.bytes i w)))))
    [ true ↦ refl | false ↦ refl ]

pub write_byte-content_of : (c : Cell) (i w : ℕ) → write_byte (content_of c) i w ≡ contents (byte_into c i w)
write_byte-content_of c i w =
    elim c.mark as (λ m. write_byte (held_by c m) i w ≡ contents (cond m (stops Mark) (gives (unmarked (set c.bytes i (w % 128))))))
    [ true ↦ refl | false ↦ refl ]

module _ (v : ℕ) (small : v < 2 ^ 64) where
  content_of-holding : gives (marked (reference_of v)) ≡ contents (gives (holding v))
  content_of-holding = ap (λ n. gives (marked (reference_of n))) (sym (from_bytes-to_bytes v small))

  held_or_stop : (b : Bool) → cond b (gives (marked (reference_of v))) (stops Mark) ≡ contents (cond b (gives (holding v)) (stops Mark))
  held_or_stop true = content_of-holding
  held_or_stop false = refl

  pub write_reference-content_of : (c : Cell) → write_reference (content_of c) (reference_of v) ≡ contents (number_into c v)
  write_reference-content_of c =
      elim c.mark as (λ m. write_reference (held_by c m) (reference_of v)
      ≡ contents (cond m (gives (holding v)) (cond (eqb (from_bytes c.bytes) 0) (gives (holding v)) (stops Mark)))) [
        | true ↦ content_of-holding
        | false ↦ ap (λ b. cond b (gives (marked (reference_of v))) (stops Mark)) (sym (from_bytes-zero c.bytes))
            ∙ held_or_stop (eqb (from_bytes c.bytes) 0)
      ]
