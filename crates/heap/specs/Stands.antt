-- Storage that represents a heap goes on doing so: every memory instruction answers, stops and leaves alike in both.
use Rattle.std.specs.Prelude.{◌≡◌, ℕ, ◌^◌, ◌<◌, [], length}
use Rattle.heap.specs.Checked.{Heap, new, newarray, arraylength, aadds, aaddf, imload, cmload, amload, imstore, cmstore, amstore}
use Rattle.heap.specs.Storage.{Storage, Known, reference_of, number_of, new_single, new_array, array_length, add_index, add_field, load_word, load_byte, load_reference, store_word, store_byte, store_reference}
use Rattle.heap.specs.Relation.{Match, Same, Allocated, Names, references}

-- cells and records: how many of each are lent
pub record Allocates (cells records : ℕ) (h : Heap) (l : Storage) : Type 0 where
  pub news : (s : ℕ) → Same (Allocated cells records) (new cells records h s) (new_single l s)
  pub newarrays : (s n : ℕ) → Same (Allocated cells records) (newarray cells records h s n) (new_array l s n)

-- the instructions at the reference of number n
pub record Answers (cells records : ℕ) (h : Heap) (l : Storage) (n : ℕ) : Type 0 where
  pub arraylengths : arraylength h (reference_of n) ≡ array_length l n
  pub aaddss : (i : ℕ) → (aadds h (reference_of n) i ≡ references (add_index l n i)) × Names l.count (add_index l n i)
  pub aaddfs : (f : ℕ) → (aaddf h (reference_of n) f ≡ references (add_field l n f)) × Names l.count (add_field l n f)
  pub imloads : imload h (reference_of n) ≡ load_word l n
  pub cmloads : cmload h (reference_of n) ≡ load_byte l n
  pub amloads : (amload h (reference_of n) ≡ references (load_reference l n)) × Names l.count (load_reference l n)
  pub imstores : (w : ℕ) → Same (Match cells records) (imstore h (reference_of n) w) (store_word l n w)
  pub cmstores : (w : ℕ) → Same (Match cells records) (cmstore h (reference_of n) w) (store_byte l n w)
  pub amstores : (v : ℕ) → Known l.count v → Same (Match cells records) (amstore h (reference_of n) (reference_of v)) (store_reference l n v)

pub record Stands : Type 0 where
  -- storage of which nothing is used represents the empty heap
  pub begins : (l : Storage) → l.used ≡ 0 → l.count ≡ 0 → length l.cells < 2 ^ 28 → length l.records < 2 ^ 31 → Match (length l.cells) (length l.records) [] l
  pub allocates : (cells records : ℕ) (h : Heap) (l : Storage) → Match cells records h l → Allocates cells records h l
  pub answers : (cells records : ℕ) (h : Heap) (l : Storage) → Match cells records h l → (n : ℕ) → Known l.count n → Answers cells records h l n
  -- references are equal exactly when their numbers are
  pub numbers : (n : ℕ) → number_of (reference_of n) ≡ n
