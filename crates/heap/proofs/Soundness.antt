-- Storage stays sound: at its beginning, with one cell written, and with one block more.
use Rattle.std.proofs.Common.{◌≡◌, ℕ, ◌+◌, ◌-◌, ◌%◌, ◌^◌, ◌<◌, ◌≤◌, Bool, true, false, cond, eqb, ltb, leb, ◌≢◌, List, length, get_or, set, sym, refl, ap, ◌∙◌, subst, arith, length-set, get_or-set_other, get_or-set_same, ltb-false, ltb-true, eqb-true, leb-false, leb-true}
use borrow.Author.Tests.{eqb-false}
use Rattle.bytecode.specs.Stops.{Attempt, gives, stops}
use Rattle.bytecode.specs.declared.stop.Stop.TheVariants.{Mark}
use Rattle.heap.specs.declared.Cell.{Cell}
use Rattle.heap.specs.Checked.{Layout, single, array, room, put_word}
use Rattle.heap.specs.Storage.{Storage, Sound, Bounded, Known, no_cell, no_record, cell_in, record_in, record_of, with_cell, placed, from_bytes, unmarked, holding, word_into, byte_into, number_into}
use Rattle.heap.proofs.Numbering.{from_bytes-to_bytes}
use Rattle.heap.proofs.Clearing.{length-laid, laid_below, laid_in}

pub sound_empty : (l : Storage) → l.used ≡ 0 → l.count ≡ 0 → length l.cells < 2 ^ 28 → length l.records < 2 ^ 31 → Sound l
sound_empty l u c k r =
    record {
      cells_fit = omega arith;
      records_fit = omega arith;
      few_cells = k;
      few_records = r;
      bounded = λ b w. absurd (let f : ⊥ = omega arith in f);
      names = λ j w. absurd (let f : ⊥ = omega arith in f);
    }

-- a marked cell's number names a block that there is
abbrev pub Naming : ℕ → Cell → Type 0
Naming count c = c.mark ≡ true → Known count (from_bytes c.bytes)

pub sound-with_cell : (l : Storage) (j : ℕ) (c : Cell) → Sound l → Naming l.count c → Sound (with_cell l j c)
sound-with_cell l j c s ok =
    record {
      cells_fit = rw length-set s.cells_fit;
      records_fit = s.records_fit;
      few_cells = rw length-set s.few_cells;
      few_records = s.few_records;
      bounded = s.bounded;
      names = λ i w. go i w (eqb i j) refl;
    }
  where
    go : (i : ℕ) → i < l.used → (t : Bool) → eqb i j ≡ t → Naming l.count (get_or (set l.cells j c) i no_cell)
    go i w true p =
        let q = eqb-true i j p in
        let f = s.cells_fit in
        let lt : j < length l.cells = omega arith in
        let e : get_or (set l.cells j c) i no_cell ≡ c = ap (λ y. get_or (set l.cells j c) y no_cell) q ∙ get_or-set_same l.cells j c no_cell lt in
        subst (Naming l.count) (sym e) ok
    go i w false p =
        let e : get_or (set l.cells j c) i no_cell ≡ cell_in l i = get_or-set_other l.cells j i c no_cell (eqb-false i j p) in
        subst (Naming l.count) (sym e) (s.names i w)

-- the cell that a store puts, if any, names what there is
abbrev pub Puts : ℕ → Attempt Cell → Type 0
Puts count (gives c) = Naming count c
Puts count (stops e) = Unit {0}

puts_unmarked : (count : ℕ) (t : Bool) (bs : List ℕ) → Puts count (cond t (stops Mark) (gives (unmarked bs)))
puts_unmarked count true bs = tt
puts_unmarked count false bs = λ e. let z : ◌≡◌ {A = ℕ} 0 1 = cc in absurd (let f : ⊥ = omega arith in f)

pub puts-word_into : (count : ℕ) (c : Cell) (i w : ℕ) → Puts count (word_into c i w)
puts-word_into count c i w = puts_unmarked count c.mark (put_word c.bytes i w)

pub puts-byte_into : (count : ℕ) (c : Cell) (i w : ℕ) → Puts count (byte_into c i w)
puts-byte_into count c i w = puts_unmarked count c.mark (set c.bytes i (w % 128))

pub puts-number_into : (count : ℕ) (c : Cell) (v : ℕ) → Known count v → v < 2 ^ 64 → Puts count (number_into c v)
puts-number_into count c v kv small = go c.mark (eqb (from_bytes c.bytes) 0)
  where
    go : (t u : Bool) → Puts count (cond t (gives (holding v)) (cond u (gives (holding v)) (stops Mark)))
    go true u = λ _. subst (Known count) (sym (from_bytes-to_bytes v small)) kv
    go false true = λ _. subst (Known count) (sym (from_bytes-to_bytes v small)) kv
    go false false = tt

-- the number of a reference takes eight bytes
pub known_small : (l : Storage) → Sound l → (v : ℕ) → Known l.count v → v < 2 ^ 64
known_small l s v kv = go (leb (2 ^ 32) v) refl
  where
    go : (t : Bool) → leb (2 ^ 32) v ≡ t → v < 2 ^ 64
    go true e = let a = kv (leb-true (2 ^ 32) v e) in let b = s.few_records in let r = s.records_fit in omega arith
    go false e = let a = leb-false (2 ^ 32) v e in omega arith

bounded-record_of : (i used : ℕ) (how : Layout) → i + room how ≤ used → Bounded used (record_of i how)
bounded-record_of i used (single s) h = record { cells_used = h; elements = λ z. absurd (let f : ⊥ = omega arith in f) }
bounded-record_of i used (array n s) h = record { cells_used = h; elements = λ z. omega arith }

module _ (l : Storage) (how : Layout) (s : Sound l) (fits : l.used + room how ≤ length l.cells) (free : l.count < length l.records) where
  abbrev after : Storage
  after = placed l how

  bounded_placed : (b : ℕ) → b < l.count + 1 → (t : Bool) → ltb b l.count ≡ t → Bounded after.used (record_in after b)
  bounded_placed b w true p =
      let lt = ltb-true b l.count p in
      let ne : b ≢ l.count = omega arith in
      let d = s.bounded b lt in
      subst (Bounded after.used) (sym (get_or-set_other l.records l.count b (record_of l.used how) no_record ne))
      (record { cells_used = let u = d.cells_used in omega arith; elements = d.elements })
  bounded_placed b w false p =
      let ge = ltb-false b l.count p in
      let q : b ≡ l.count = omega arith in
      subst (Bounded after.used)
      (sym (ap (λ x. record_in after x) q ∙ get_or-set_same l.records l.count (record_of l.used how) no_record free))
      (bounded-record_of l.used after.used how (omega arith))

  names_placed : (j : ℕ) → j < l.used + room how → (t : Bool) → ltb j l.used ≡ t → Naming (l.count + 1) (cell_in after j)
  names_placed j w true e k =
      let lt = ltb-true j l.used e in
      let q = laid_below l.cells l.used how j lt in
      subst (λ (c : Cell). Known (l.count + 1) (from_bytes c.bytes)) (sym q)
      (λ big. let a = s.names j lt (ap (λ (c : Cell). c.mark) (sym q) ∙ k) big in omega arith)
  names_placed j w false e k =
      let f = ltb-false j l.used e in
      let q = (laid_in l.cells l.used how (j - l.used) (omega arith) fits).1 in
      let p : l.used + (j - l.used) ≡ j = omega arith in
      let r = ap (λ i. (cell_in after i).mark) p in
      let z : true ≡ false = sym k ∙ sym r ∙ q in
      let y : ◌≡◌ {A = ℕ} 0 1 = cc in absurd (let x : ⊥ = omega arith in x)

  pub sound_placed : Sound after
  sound_placed =
      record {
        cells_fit = let e = length-laid l.cells l.used how in omega arith;
        records_fit = let e = length-set l.records l.count (record_of l.used how) in omega arith;
        few_cells = let e = length-laid l.cells l.used how in let f = s.few_cells in omega arith;
        few_records = rw length-set s.few_records;
        bounded = λ b w. bounded_placed b w (ltb b l.count) refl;
        names = λ j w. names_placed j w (ltb j l.used) refl;
      }
