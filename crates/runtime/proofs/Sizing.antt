-- Storage holds bytes and array lengths that are words: what is read is a word, and every memory instruction keeps it so.
use Rattle.std.proofs.Common.{◌≡◌, ℕ, zero, suc, ◌+◌, ◌*◌, ◌/◌, ◌%◌, ◌^◌, ◌<◌, ◌≤◌, Bool, true, false, cond, eqb, ltb, leb, ◌⊎◌, List, [], ◌∷◌, length, get_or, set, ℤ, pos, negsuc, sym, refl, ap, ◌∙◌, subst, inl, inr, arith, length-set, get_or-set_other, get_or-set_same, ltb-false, ltb-true, eqb-true, leb-true}
use lib.Bits.{and_lt, or_lt, xor_lt}
use borrow.Author.Tests.{eqb-false}
use Rattle.bytecode.specs.Stops.{Attempt, gives, stops, and_then}
use Rattle.bytecode.specs.declared.stop.Stop.TheVariants.{Null, Bounds, Array, Text, Alignment, Mark, Length, Cells}
use Rattle.bytecode.specs.declared.instruction.Operation.{Operation}
use Rattle.bytecode.specs.declared.instruction.Operation.TheVariants.{Add, Sub, Mul, Div, Rem, And, Or, Xor, Shl, Shr}
use Rattle.heap.specs.declared.Cell.{Cell}
use Rattle.heap.specs.declared.BlockRecord.{BlockRecord}
use Rattle.heap.specs.Checked.{Layout, single, array, room, zeros, header, word_at, put_word}
use Rattle.heap.specs.Storage.{Storage, Sound, Known, block_of, offset_of, no_cell, no_record, cell_in, record_in, record_of, unmarked, holding, from_bytes, to_bytes, with_cell, clear, laid, placed, Placement, place, new_single, new_array, array_length, locate_in, locate, word_in, byte_in, word_into, byte_into, number_into, stored_in, load_word, load_byte, store_word, store_byte, store_reference}
use Rattle.word.specs.Words.{compute, wrap, undivided}
use Rattle.runtime.specs.Relation.{Sized}

-- ## Words

abbrev pub Word32 : Attempt ℕ → Type 0
Word32 (gives n) = n < 2 ^ 32
Word32 (stops e) = Unit {0}

pub wrap_word : (z : ℤ) → wrap z < 2 ^ 32
wrap_word (pos n) = omega arith
wrap_word (negsuc n) = omega arith

word_unless : (b : Bool) (x : Attempt ℕ) (e : Rattle.bytecode.specs.declared.stop.Stop.Stop) → Word32 x → Word32 (cond b (stops e) x)
word_unless true x e h = tt
word_unless false x e h = h

pub compute_word : (op : Operation) (x y : ℕ) → x < 2 ^ 32 → y < 2 ^ 32 → Word32 (compute op x y)
compute_word Add x y p q = wrap_word _
compute_word Sub x y p q = wrap_word _
compute_word Mul x y p q = wrap_word _
compute_word Div x y p q = word_unless (undivided x y) _ _ (wrap_word _)
compute_word Rem x y p q = word_unless (undivided x y) _ _ (wrap_word _)
compute_word And x y p q = and_lt 32 x y p q
compute_word Or x y p q = or_lt 32 x y p q
compute_word Xor x y p q = xor_lt 32 x y p q
compute_word Shl x y p q = let n : ℕ = x * 2 ^ (y % 32) in let r : n % 2 ^ 32 < 2 ^ 32 = omega arith in r
compute_word Shr x y p q = wrap_word _

-- ## Bytes

abbrev Bytes : List ℕ → Type 0
Bytes bs = (k : ℕ) → get_or bs k 0 < 256

abbrev AllBytes : List ℕ → Type 0
AllBytes [] = Unit {0}
AllBytes (x ∷ xs) = (x < 256) × AllBytes xs

bytes_all : (xs : List ℕ) → AllBytes xs → Bytes xs
bytes_all [] h k = omega arith
bytes_all (x ∷ xs) h zero = h.0
bytes_all (x ∷ xs) h (suc k) = bytes_all xs h.1 k

set_either : {A : Type 0} (xs : List A) (j i : ℕ) (a d : A) → (get_or (set xs j a) i d ≡ a) ⊎ (get_or (set xs j a) i d ≡ get_or xs i d)
set_either [] j i a d = inr refl
set_either (x ∷ xs) zero zero a d = inl refl
set_either (x ∷ xs) zero (suc i) a d = inr refl
set_either (x ∷ xs) (suc j) zero a d = inr refl
set_either (x ∷ xs) (suc j) (suc i) a d = set_either xs j i a d

bytes_set : (bs : List ℕ) (j x : ℕ) → Bytes bs → x < 256 → Bytes (set bs j x)
bytes_set bs j x h lt k =
    elim (set_either bs j k x 0) [ inl e ↦ subst (λ n. n < 256) (sym e) lt | inr e ↦ subst (λ n. n < 256) (sym e) (h k) ]

bytes_zeros : Bytes zeros
bytes_zeros = bytes_all zeros (omega arith, (omega arith, (omega arith, (omega arith, (omega arith, (omega arith, (omega arith, (omega arith, tt))))))))

bytes_header : (n s : ℕ) → Bytes (header n s)
bytes_header n s = bytes_all (header n s) (omega arith, (omega arith, (omega arith, (omega arith, (omega arith, (omega arith, (omega arith, (omega arith, tt))))))))

bytes_number : (v : ℕ) → Bytes (to_bytes v)
bytes_number v = bytes_all (to_bytes v) (omega arith, (omega arith, (omega arith, (omega arith, (omega arith, (omega arith, (omega arith, (omega arith, tt))))))))

bytes_word : (bs : List ℕ) (i w : ℕ) → Bytes bs → Bytes (put_word bs i w)
bytes_word bs i w h =
    bytes_set _ (i + 3) _ (bytes_set _ (i + 2) _ (bytes_set _ (i + 1) _ (bytes_set bs i _ h (omega arith)) (omega arith)) (omega arith)) (omega arith)

word_of_bytes : (bs : List ℕ) (i : ℕ) → Bytes bs → word_at bs i < 2 ^ 32
word_of_bytes bs i h =
    let a = h i in let b = h (i + 1) in let c = h (i + 2) in let d = h (i + 3) in omega arith

-- ## Cells

-- the first n cells hold bytes
abbrev Cells256 : List Cell → ℕ → Type 0
Cells256 mem n = (j : ℕ) → j < n → Bytes (get_or mem j no_cell).bytes

cells_set : (mem : List Cell) (n j : ℕ) (c : Cell) → Cells256 mem n → Bytes c.bytes → Cells256 (set mem j c) n
cells_set mem n j c h b i lt =
    elim (set_either mem j i c no_cell) [
      | inl e ↦ subst (λ (x : Cell). Bytes x.bytes) (sym e) b
      | inr e ↦ subst (λ (x : Cell). Bytes x.bytes) (sym e) (h i lt)
    ]

cells_next : (mem : List Cell) (n : ℕ) (c : Cell) → Cells256 mem n → Bytes c.bytes → n < length mem → Cells256 (set mem n c) (suc n)
cells_next mem n c h b inside i lt = go (eqb i n) refl
  where
    go : (t : Bool) → eqb i n ≡ t → Bytes (get_or (set mem n c) i no_cell).bytes
    go true q =
        let e : get_or (set mem n c) i no_cell ≡ c = ap (λ k. get_or (set mem n c) k no_cell) (eqb-true i n q) ∙ get_or-set_same mem n c no_cell inside in
        subst (λ (x : Cell). Bytes x.bytes) (sym e) b
    go false q =
        let ne = eqb-false i n q in
        subst (λ (x : Cell). Bytes x.bytes) (sym (get_or-set_other mem n i c no_cell ne)) (h i (below i n lt ne))
      where
        below : (a b : ℕ) → a < suc b → (a ≡ b → ⊥) → a < b
        below a b lt ne = omega arith

cells_clear : (mem : List Cell) (i n : ℕ) → Cells256 mem i → i + n ≤ length mem → Cells256 (clear mem i n) (i + n)
cells_clear mem i zero h le = subst (Cells256 mem) (let e : i ≡ i + 0 = omega arith in e) h
cells_clear mem i (suc n) h le =
    let e : suc i + n ≡ i + suc n = omega arith in
    let l = length-set mem i (unmarked zeros) in
    subst (Cells256 (clear (set mem i (unmarked zeros)) (suc i) n)) e
    (cells_clear (set mem i (unmarked zeros)) (suc i) n (cells_next mem i (unmarked zeros) h bytes_zeros (omega arith)) (omega arith))

cells_laid : (mem : List Cell) (i : ℕ) (how : Layout) → Cells256 mem i → i + room how ≤ length mem → Cells256 (laid mem i how) (i + room how)
cells_laid mem i (single s) h le = cells_clear mem i (room (single s)) h le
cells_laid mem i (array n s) h le =
    cells_set (clear mem i (room (array n s))) (i + room (array n s)) i (unmarked (header n s)) (cells_clear mem i (room (array n s)) h le) (bytes_header n s)

-- ## Storage

-- storage after an instruction: sized, with no fewer blocks
pub record Kept (l m : Storage) : Type 0 where
  pub sized : Sized m
  pub more : l.count ≤ m.count

abbrev pub KeptIf : Storage → Attempt Storage → Type 0
KeptIf l (gives m) = Kept l m
KeptIf l (stops e) = Unit {0}

abbrev pub KeptPlacement : Storage → Attempt Placement → Type 0
KeptPlacement l (gives a) = Kept l a.storage
KeptPlacement l (stops e) = Unit {0}

-- what an access goes to is in use
abbrev Inside : ℕ → Attempt ℕ → Type 0
Inside used (gives j) = j < used
Inside used (stops e) = Unit {0}

module _ (l : Storage) (sound : Sound l) (n : ℕ) (known : Known l.count n) where
  located : (k : ℕ) → 0 < k → Inside l.used (locate l n k)
  located k some = go (eqb n 0) (ltb n (2 ^ 32)) refl
    where
      deep : 2 ^ 32 ≤ n → Inside l.used (locate_in (record_in l (block_of n)) (offset_of n) k)
      deep big = pick (ltb (offset_of n) (record_in l (block_of n)).from) (ltb (record_in l (block_of n)).end (offset_of n + k)) refl (eqb (offset_of n % k) 0)
        where
          pick : (a b : Bool) → ltb (record_in l (block_of n)).end (offset_of n + k) ≡ b → (c : Bool)
              → Inside l.used (cond a (stops Bounds) (cond b (stops Bounds) (cond c (gives ((record_in l (block_of n)).start + offset_of n / 8)) (stops Alignment))))
          pick true b e c = tt
          pick false true e c = tt
          pick false false e false = tt
          pick false false e true =
              let u = (sound.bounded (block_of n) (known big)).cells_used in
              let v = ltb-false (record_in l (block_of n)).end (offset_of n + k) e in
              fits (record_in l (block_of n)).start (offset_of n) (record_in l (block_of n)).end k l.used u v some
            where
              fits : (s o e k u : ℕ) → s + (e + 7) / 8 ≤ u → o + k ≤ e → 0 < k → s + o / 8 < u
              fits s o e k u a b c = omega arith

      go : (a b : Bool) → ltb n (2 ^ 32) ≡ b → Inside l.used (cond a (stops Null) (cond b (stops Text) (locate_in (record_in l (block_of n)) (offset_of n) k)))
      go true b e = tt
      go false true e = tt
      go false false e = deep (ltb-false n (2 ^ 32) e)

  module _ (sized : Sized l) where
    pub load_word_lem : Word32 (load_word l n)
    load_word_lem = go (locate l n 4) (located 4 (omega arith))
      where
        go : (x : Attempt ℕ) → Inside l.used x → Word32 (and_then x (λ j. word_in (cell_in l j) (n % 8)))
        go (stops e) h = tt
        go (gives j) h = word_unless (cell_in l j).mark _ _ (word_of_bytes (cell_in l j).bytes (n % 8) (sized.bytes j h))

    pub load_byte_lem : Word32 (load_byte l n)
    load_byte_lem = go (locate l n 1) (located 1 (omega arith))
      where
        go : (x : Attempt ℕ) → Inside l.used x → Word32 (and_then x (λ j. byte_in (cell_in l j) (n % 8)))
        go (stops e) h = tt
        go (gives j) h = word_unless (cell_in l j).mark _ _ (let b = sized.bytes j h (n % 8) in let c : get_or (cell_in l j).bytes (n % 8) 0 < 2 ^ 32 = omega arith in c)

    pub length-word : Word32 (array_length l n)
    length-word = go (eqb n 0) (ltb n (2 ^ 32)) refl (ltb 0 (record_in l (block_of n)).from) (eqb (offset_of n) 0)
      where
        go : (a b : Bool) → ltb n (2 ^ 32) ≡ b → (c d : Bool)
            → Word32 (and_then (cond a (stops Null) (cond b (stops Array) (cond c (cond d (gives (record_in l (block_of n))) (stops Array)) (stops Array)))) (λ r. gives r.count))
        go true b e c d = tt
        go false true e c d = tt
        go false false e false d = tt
        go false false e true false = tt
        go false false e true true = sized.counts (block_of n) (known (ltb-false n (2 ^ 32) e))

    -- a cell that a store puts holds bytes
    sized_cell : (j : ℕ) (c : Cell) → Bytes c.bytes → Kept l (with_cell l j c)
    sized_cell j c b =
        record {
          sized = record { bytes = cells_set l.cells l.used j c sized.bytes b; counts = sized.counts };
          more = omega arith;
        }

    into : (j : ℕ) (b : Bool) (c : Cell) → Bytes c.bytes → KeptIf l (stored_in l j (cond b (stops Mark) (gives c)))
    into j true c h = tt
    into j false c h = sized_cell j c h

    pub kept_store_word : (w : ℕ) → KeptIf l (store_word l n w)
    kept_store_word w = go (locate l n 4) (located 4 (omega arith))
      where
        go : (x : Attempt ℕ) → Inside l.used x → KeptIf l (and_then x (λ j. stored_in l j (word_into (cell_in l j) (n % 8) w)))
        go (stops e) h = tt
        go (gives j) h = into j (cell_in l j).mark (unmarked (put_word (cell_in l j).bytes (n % 8) w)) (bytes_word (cell_in l j).bytes (n % 8) w (sized.bytes j h))

    pub kept_store_byte : (w : ℕ) → KeptIf l (store_byte l n w)
    kept_store_byte w = go (locate l n 1) (located 1 (omega arith))
      where
        go : (x : Attempt ℕ) → Inside l.used x → KeptIf l (and_then x (λ j. stored_in l j (byte_into (cell_in l j) (n % 8) w)))
        go (stops e) h = tt
        go (gives j) h =
            into j (cell_in l j).mark (unmarked (set (cell_in l j).bytes (n % 8) (w % 128))) (bytes_set (cell_in l j).bytes (n % 8) (w % 128) (sized.bytes j h) (omega arith))

    pub kept_store_reference : (v : ℕ) → KeptIf l (store_reference l n v)
    kept_store_reference v = go (locate l n 8)
      where
        put : (j : ℕ) (a b : Bool) → KeptIf l (stored_in l j (cond a (gives (holding v)) (cond b (gives (holding v)) (stops Mark))))
        put j true b = sized_cell j (holding v) (bytes_number v)
        put j false true = sized_cell j (holding v) (bytes_number v)
        put j false false = tt

        go : (x : Attempt ℕ) → KeptIf l (and_then x (λ j. stored_in l j (number_into (cell_in l j) v)))
        go (stops e) = tt
        go (gives j) = put j (cell_in l j).mark (eqb (from_bytes (cell_in l j).bytes) 0)

-- ## Allocation

abbrev Counted : Layout → Type 0
Counted (single s) = Unit {0}
Counted (array n s) = n < 2 ^ 32

count_of : (i : ℕ) (how : Layout) → Counted how → (record_of i how).count < 2 ^ 32
count_of i (single s) h = omega arith
count_of i (array n s) h = h

sized_placed : (l : Storage) → Sized l → (how : Layout) → Counted how → l.used + room how ≤ length l.cells → l.count < length l.records → Sized (placed l how)
sized_placed l sized how c room_left record-left =
    record {
      bytes = cells_laid l.cells l.used how sized.bytes room_left;
      counts = λ b lt. go b lt (eqb b l.count) refl;
    }
  where
    go : (b : ℕ) → b < l.count + 1 → (t : Bool) → eqb b l.count ≡ t → (get_or (set l.records l.count (record_of l.used how)) b no_record).count < 2 ^ 32
    go b lt true q =
        let e : get_or (set l.records l.count (record_of l.used how)) b no_record ≡ record_of l.used how =
        ap (λ k. get_or (set l.records l.count (record_of l.used how)) k no_record) (eqb-true b l.count q)
        ∙ get_or-set_same l.records l.count (record_of l.used how) no_record record-left in
        subst (λ (r : BlockRecord). r.count < 2 ^ 32) (sym e) (count_of l.used how c)
    go b lt false q =
        let ne = eqb-false b l.count q in
        subst (λ (r : BlockRecord). r.count < 2 ^ 32) (sym (get_or-set_other l.records l.count b (record_of l.used how) no_record ne))
        (sized.counts b (below b l.count lt ne))
      where
        below : (a b : ℕ) → a < b + 1 → (a ≡ b → ⊥) → a < b
        below a b lt ne = omega arith

sized_place : (l : Storage) → Sized l → (how : Layout) → Counted how → KeptPlacement l (place l how)
sized_place l sized how c = go (leb (l.used + room how) (length l.cells)) refl (ltb l.count (length l.records)) refl
  where
    go : (a : Bool) → leb (l.used + room how) (length l.cells) ≡ a → (b : Bool) → ltb l.count (length l.records) ≡ b
        → KeptPlacement l (cond (cond a b false) (gives (record { storage = placed l how; number = (l.count + 1) * 2 ^ 32 })) (stops Cells))
    go false p b q = tt
    go true p false q = tt
    go true p true q =
        record {
          sized = sized_placed l sized how c (leb-true (l.used + room how) (length l.cells) p) (ltb-true l.count (length l.records) q);
          more = omega arith;
        }

pub kept_new : (l : Storage) → Sized l → (s : ℕ) → KeptPlacement l (new_single l s)
kept_new l sized s = sized_place l sized (single s) tt

pub kept_newarray : (l : Storage) → Sized l → (s n : ℕ) → KeptPlacement l (new_array l s n)
kept_newarray l sized s n = go (ltb n (2 ^ 31)) refl
  where
    go : (b : Bool) → ltb n (2 ^ 31) ≡ b → KeptPlacement l (cond b (place l (array n s)) (stops Length))
    go false q = tt
    go true q = let k = ltb-true n (2 ^ 31) q in sized_place l sized (array n s) (omega arith)
