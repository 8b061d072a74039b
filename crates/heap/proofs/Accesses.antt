-- Loads and stores: storage answers, stops and is left as the heap that it represents.
use Rattle.std.proofs.Common.{◌≡◌, ℕ, ◌+◌, ◌-◌, ◌*◌, ◌/◌, ◌%◌, ◌^◌, ◌<◌, Bool, true, false, cond, eqb, ltb, sym, refl, ap, ◌∙◌, subst, ap₂, subst₂, arith, ltb-false}
use Rattle.bytecode.specs.Stops.{Attempt, gives, stops, and_then}
use Rattle.bytecode.specs.declared.stop.Stop.TheVariants.{Null, Bounds, Text, Alignment, Mark}
use Rattle.heap.specs.declared.Cell.{Cell}
use Rattle.heap.specs.Checked.{null, text, block, Content, Layout, single, array, Heap, data_end, room, block_at, Spot, within, reach, cell_at, put_at, stored, read_word, read_byte, read_reference, write_word, write_byte, write_reference, imload, cmload, amload, imstore, cmstore, amstore}
use Rattle.heap.specs.Storage.{Storage, Known, reference_of, block_of, offset_of, from_bytes, cell_in, record_in, with_cell, record_of, locate_in, locate, word_in, byte_in, number_in, word_into, byte_into, number_into, stored_in, load_word, load_byte, load_reference, store_word, store_byte, store_reference}
use Rattle.heap.specs.Relation.{content_of, references, Names, Match, Same, give, stop}
use Rattle.heap.proofs.Contents.{contents, read_word-content_of, read_byte-content_of, read_reference-content_of, write_word-content_of, write_byte-content_of, write_reference-content_of}
use Rattle.heap.proofs.Soundness.{Naming, Puts, puts-word_into, puts-byte_into, puts-number_into, known_small}
use Rattle.heap.proofs.Writes.{match-with_cell}

-- the spot in a block that begins at cell `start`, and the index of its cell
record Found (how : Layout) (b o start : ℕ) (p : Spot) (j : ℕ) : Type 0 where
  in_block : p.block ≡ b
  in_cell : p.cell ≡ o / 8
  in_byte : p.byte ≡ o % 8
  index : j ≡ start + o / 8
  inside : o / 8 < room how

within_tests : (how : Layout) (start b o k : ℕ) → 0 < k → (x y z : Bool) → ltb (data_end how) (o + k) ≡ y
    → Same (Found how b o start)
    (cond x (stops Bounds) (cond y (stops Bounds) (cond z (gives (record { block = b; cell = o / 8; byte = o % 8 })) (stops Alignment))))
    (cond x (stops Bounds) (cond y (stops Bounds) (cond z (gives (start + o / 8)) (stops Alignment))))
within_tests how start b o k pos true y z e = stop
within_tests how start b o k pos false true z e = stop
within_tests how start b o k pos false false false e = stop
within_tests how start b o k pos false false true e =
    let f = ltb-false (data_end how) (o + k) e in
    give (record { in_block = refl; in_cell = refl; in_byte = refl; index = refl; inside = omega arith })

within_same : (how : Layout) (start b o k : ℕ) → 0 < k → Same (Found how b o start) (within how b o k) (locate_in (record_of start how) o k)
within_same (single s) start b o k pos = within_tests (single s) start b o k pos (ltb o 0) (ltb s (o + k)) (eqb (o % k) 0) refl
within_same (array n s) start b o k pos = within_tests (array n s) start b o k pos (ltb o 8) (ltb (8 + n * s) (o + k)) (eqb (o % k) 0) refl

module _ (cells records : ℕ) (h : Heap) (l : Storage) (m : Match cells records h l) (n : ℕ) (known : Known l.count n) where
  -- the spot of a reference, and the index of the cell that its number leads to
  record Here (p : Spot) (j : ℕ) : Type 0 where
    there : p.block < l.count
    short : p.cell < room (block_at h p.block).layout
    byte_is : p.byte ≡ n % 8
    index_is : j ≡ (record_in l p.block).start + p.cell

  reach_same : (k : ℕ) → 0 < k → Same Here (reach h (reference_of n) k) (locate l n k)
  reach_same k pos = go (eqb n 0) (ltb n (2 ^ 32)) refl
    where
      here : {p : Spot} {j : ℕ} → block_of n < l.count
          → Found (block_at h (block_of n)).layout (block_of n) (offset_of n) (record_in l (block_of n)).start p j → Here p j
      here {p} {j} lt s =
          record {
            there = subst (λ x. x < l.count) (sym s.in_block) lt;
            short = subst₂ (λ x y. x < room (block_at h y).layout) (sym s.in_cell) (sym s.in_block) s.inside;
            byte_is = let e = s.in_byte in omega arith;
            index_is = s.index ∙ ap₂ (λ x y. (record_in l x).start + y) (sym s.in_block) (sym s.in_cell);
          }

      widen : {x : Attempt Spot} {y : Attempt ℕ} → block_of n < l.count
          → Same (Found (block_at h (block_of n)).layout (block_of n) (offset_of n) (record_in l (block_of n)).start) x y → Same Here x y
      widen lt (give r) = give (here lt r)
      widen lt stop = stop

      go : (e f : Bool) → ltb n (2 ^ 32) ≡ f
          → Same Here (reach h (cond e null (cond f (text (n - 1)) (block (block_of n) (offset_of n)))) k)
          (cond e (stops Null) (cond f (stops Text) (locate_in (record_in l (block_of n)) (offset_of n) k)))
      go true f q = stop
      go false true q = stop
      go false false q =
          let lt = known (ltb-false n (2 ^ 32) q) in
          let how = (block_at h (block_of n)).layout in
          let e = (m.lies (block_of n) lt).record_is in
          subst (λ r. Same Here (within how (block_of n) (offset_of n) k) (locate_in r (offset_of n) k)) (sym e)
          (widen lt (within_same how (record_in l (block_of n)).start (block_of n) (offset_of n) k pos))

  cell_at-content_of : (p : Spot) (j : ℕ) → Here p j → cell_at h p ≡ content_of (cell_in l j)
  cell_at-content_of p j r =
      (m.lies p.block r.there).same p.cell r.short ∙ ap (λ i. content_of (cell_in l i)) (sym r.index_is)

  loads : {A : Type 0} {x : Attempt Spot} {y : Attempt ℕ} (f : Spot → Attempt A) (g : ℕ → Attempt A)
      → ((p : Spot) (j : ℕ) → Here p j → f p ≡ g j) → Same Here x y → and_then x f ≡ and_then y g
  loads f g w (give {a} {b} r) = w a b r
  loads f g w stop = refl

  pub imload_same : imload h (reference_of n) ≡ load_word l n
  imload_same =
      loads (λ p. read_word (cell_at h p) p.byte) (λ j. word_in (cell_in l j) (n % 8))
      (λ p j r. ap₂ read_word (cell_at-content_of p j r) r.byte_is ∙ read_word-content_of (cell_in l j) (n % 8)) (reach_same 4 (omega arith))

  pub cmload_same : cmload h (reference_of n) ≡ load_byte l n
  cmload_same =
      loads (λ p. read_byte (cell_at h p) p.byte) (λ j. byte_in (cell_in l j) (n % 8))
      (λ p j r. ap₂ read_byte (cell_at-content_of p j r) r.byte_is ∙ read_byte-content_of (cell_in l j) (n % 8)) (reach_same 1 (omega arith))

  references-and_then : (x : Attempt ℕ) (g : ℕ → Attempt ℕ) → and_then x (λ j. references (g j)) ≡ references (and_then x g)
  references-and_then (gives a) g = refl
  references-and_then (stops e) g = refl

  pub amload_same : amload h (reference_of n) ≡ references (load_reference l n)
  amload_same =
      loads (λ p. read_reference (cell_at h p)) (λ j. references (number_in (cell_in l j)))
      (λ p j r. ap read_reference (cell_at-content_of p j r) ∙ read_reference-content_of (cell_in l j)) (reach_same 8 (omega arith))
      ∙ references-and_then (locate l n 8) (λ j. number_in (cell_in l j))

  names-number_in : (c : Cell) → Naming l.count c → Names l.count (number_in c)
  names-number_in c k = go c.mark (eqb (from_bytes c.bytes) 0) refl
    where
      go : (t u : Bool) → c.mark ≡ t → Names l.count (cond t (gives (from_bytes c.bytes)) (cond u (gives 0) (stops Mark)))
      go true u e = k e
      go false true e = λ big. let f : ⊥ = omega arith in absurd f
      go false false e = tt

  -- a reference that is read names what there is
  pub amload_names : Names l.count (load_reference l n)
  amload_names = go (reach_same 8 (omega arith))
    where
      go : {x : Attempt Spot} {y : Attempt ℕ} → Same Here x y → Names l.count (and_then y (λ j. number_in (cell_in l j)))
      go (give {a} {b} r) =
          let e = (m.lies a.block r.there).ends in
          let s = r.short in
          let i = r.index_is in
          let lt : b < l.used = omega arith in
          names-number_in (cell_in l b) (m.sound.names b lt)
      go stop = tt

  put_same : (p : Spot) (j : ℕ) → Here p j → (o : Attempt Cell) → Puts l.count o → Same (Match cells records) (stored h p (contents o)) (stored_in l j o)
  put_same p j r (gives c) ok =
      give (subst (λ i. Match cells records (put_at h p (content_of c)) (with_cell l i c)) (sym r.index_is)
      (match-with_cell cells records h l m p.block p.cell r.there r.short c ok))
  put_same p j r (stops e) ok = stop

  stores : {x : Attempt Spot} {y : Attempt ℕ} (f : Spot → Attempt Content) (g : ℕ → Attempt Cell)
      → ((p : Spot) (j : ℕ) → Here p j → f p ≡ contents (g j)) → ((j : ℕ) → Puts l.count (g j)) → Same Here x y
      → Same (Match cells records) (and_then x (λ p. stored h p (f p))) (and_then y (λ j. stored_in l j (g j)))
  stores f g w k (give {a} {b} r) =
      subst (λ o. Same (Match cells records) (stored h a o) (stored_in l b (g b))) (sym (w a b r)) (put_same a b r (g b) (k b))
  stores f g w k stop = stop

  pub imstore_same : (w : ℕ) → Same (Match cells records) (imstore h (reference_of n) w) (store_word l n w)
  imstore_same w =
      stores (λ p. write_word (cell_at h p) p.byte w) (λ j. word_into (cell_in l j) (n % 8) w)
      (λ p j r. ap₂ (λ x y. write_word x y w) (cell_at-content_of p j r) r.byte_is ∙ write_word-content_of (cell_in l j) (n % 8) w)
      (λ j. puts-word_into l.count (cell_in l j) (n % 8) w) (reach_same 4 (omega arith))

  pub cmstore_same : (w : ℕ) → Same (Match cells records) (cmstore h (reference_of n) w) (store_byte l n w)
  cmstore_same w =
      stores (λ p. write_byte (cell_at h p) p.byte w) (λ j. byte_into (cell_in l j) (n % 8) w)
      (λ p j r. ap₂ (λ x y. write_byte x y w) (cell_at-content_of p j r) r.byte_is ∙ write_byte-content_of (cell_in l j) (n % 8) w)
      (λ j. puts-byte_into l.count (cell_in l j) (n % 8) w) (reach_same 1 (omega arith))

  pub amstore_same : (v : ℕ) → Known l.count v → Same (Match cells records) (amstore h (reference_of n) (reference_of v)) (store_reference l n v)
  amstore_same v kv =
      let small = known_small l m.sound v kv in
      stores (λ p. write_reference (cell_at h p) (reference_of v)) (λ j. number_into (cell_in l j) v)
      (λ p j r. ap (λ x. write_reference x (reference_of v)) (cell_at-content_of p j r) ∙ write_reference-content_of v small (cell_in l j))
      (λ j. puts-number_into l.count (cell_in l j) v kv small) (reach_same 8 (omega arith))
