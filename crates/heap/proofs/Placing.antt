-- new and newarray: storage and heap take the same block, or stop alike.
use Rattle.std.proofs.Common.{◌≡◌, ℕ, ◌+◌, ◌*◌, ◌^◌, ◌<◌, ◌≤◌, Bool, true, false, cond, ltb, leb, ◌≢◌, [], ◌∷◌, ◌++◌, length, get_or, sym, refl, ap, ◌∙◌, subst, subst₂, arith, length-append, length-set, get_or-set_other, get_or-set_same, ltb-false, ltb-true, leb-true}
use lib.ListN.{get_or-append}
use lib.Seq.{get_or-append_seam}
use Rattle.bytecode.specs.Stops.{gives, stops}
use Rattle.bytecode.specs.declared.stop.Stop.TheVariants.{Cells, Length}
use Rattle.heap.specs.declared.BlockRecord.{BlockRecord}
use Rattle.heap.specs.Checked.{block, Layout, single, array, Block, Heap, room, fresh_block, no_block, block_at, total, allocate, newarray}
use Rattle.heap.specs.Storage.{Storage, no_cell, no_record, record_in, record_of, reference_of, placed, place, new_array}
use Rattle.heap.specs.Relation.{content_of, Lies, Match, Same, give, stop, Allocated}
use Rattle.heap.proofs.Numbering.{reference_of-block}
use Rattle.heap.proofs.Clearing.{length-laid, laid_below, laid_in, length-fresh}
use Rattle.heap.proofs.Soundness.{sound_placed}

total_append : (h : Heap) (x : Block) → total (h ++ (x ∷ [])) ≡ total h + length x.cells
total_append [] x = omega arith
total_append (y ∷ h) x = let e = total_append h x in omega arith

start-record_of : (how : Layout) (i : ℕ) → (record_of i how).start ≡ i
start-record_of (single s) i = refl
start-record_of (array n s) i = refl

module _ (cells records : ℕ) (h : Heap) (l : Storage) (m : Match cells records h l) (how : Layout)
    (fits : l.used + room how ≤ length l.cells) (free : l.count < length l.records) where
  abbrev after : Heap
  after = h ++ (fresh_block how ∷ [])

  abbrev built : Storage
  built = placed l how

  old_block : (b : ℕ) → b < l.count → block_at after b ≡ block_at h b
  old_block b lt = let e = m.blocks in let w : b < length h = omega arith in get_or-append h (fresh_block how ∷ []) no_block b w

  new_block : block_at after l.count ≡ fresh_block how
  new_block = ap (block_at after) (sym m.blocks) ∙ get_or-append_seam h (fresh_block how) [] no_block

  old_record : (b : ℕ) → b < l.count → record_in built b ≡ record_in l b
  old_record b lt = let ne : b ≢ l.count = omega arith in get_or-set_other l.records l.count b (record_of l.used how) no_record ne

  new_record : record_in built l.count ≡ record_of l.used how
  new_record = get_or-set_same l.records l.count (record_of l.used how) no_record free

  new_start : (record_in built l.count).start ≡ l.used
  new_start = ap (λ (r : BlockRecord). r.start) new_record ∙ start-record_of how l.used

  old_lies : (b : ℕ) → b < l.count → Lies built.cells built.used (record_in built b) (block_at after b)
  old_lies b lt =
      let d = m.lies b lt in
      subst₂ (Lies built.cells built.used) (sym (old_record b lt)) (sym (old_block b lt))
      (record {
        record_is = d.record_is;
        size = d.size;
        ends = let e = d.ends in omega arith;
        same = λ j w. d.same j w
            ∙ ap content_of (sym (laid_below l.cells l.used how ((record_in l b).start + j) (let e = d.ends in omega arith)));
      })

  new_lies : Lies built.cells built.used (record_in built l.count) (block_at after l.count)
  new_lies =
      subst₂ (Lies built.cells built.used) (sym new_record) (sym new_block)
      (record {
        record_is = ap (λ i. record_of i how) (sym (start-record_of how l.used));
        size = length-fresh how;
        ends = let e = start-record_of how l.used in omega arith;
        same = λ j w. (laid_in l.cells l.used how j w fits).0
            ∙ ap (λ i. content_of (get_or built.cells (i + j) no_cell)) (sym (start-record_of how l.used));
      })

  -- a number below count + 1 is an old block's or the new one's
  old_or_new : (P : ℕ → Type 0) → ((b : ℕ) → b < l.count → P b) → P l.count → (b : ℕ) → b < l.count + 1 → P b
  old_or_new P old new b lt = go (ltb b l.count) refl
    where
      go : (t : Bool) → ltb b l.count ≡ t → P b
      go true e = old b (ltb-true b l.count e)
      go false e = let f = ltb-false b l.count e in let q : l.count ≡ b = omega arith in subst P q new

  old_apart : (b c : ℕ) → b < c → c < l.count → (record_in built b).start + room (block_at after b).layout ≤ (record_in built c).start
  old_apart b c bc lt =
      let bl : b < l.count = omega arith in
      subst₂ (λ (x : BlockRecord) (y : Block). x.start + room y.layout ≤ (record_in built c).start) (sym (old_record b bl)) (sym (old_block b bl))
      (subst (λ (x : BlockRecord). (record_in l b).start + room (block_at h b).layout ≤ x.start) (sym (old_record c lt)) (m.apart b c bc lt))

  new_apart : (b : ℕ) → b < l.count → (record_in built b).start + room (block_at after b).layout ≤ (record_in built l.count).start
  new_apart b bl =
      subst₂ (λ (x : BlockRecord) (y : Block). x.start + room y.layout ≤ (record_in built l.count).start)
      (sym (old_record b bl)) (sym (old_block b bl))
      (subst (λ x. (record_in l b).start + room (block_at h b).layout ≤ x) (sym new_start) (m.lies b bl).ends)

  match_placed : Match cells records after built
  match_placed =
      record {
        cells_are = length-laid l.cells l.used how ∙ m.cells_are;
        records_are = length-set l.records l.count (record_of l.used how) ∙ m.records_are;
        sound = sound_placed l how m.sound fits free;
        blocks = length-append h (fresh_block how ∷ []) ∙ ap (λ n. n + 1) m.blocks;
        all = let e = total_append h (fresh_block how) in let f = length-fresh how in let g = m.all in omega arith;
        lies = old_or_new (λ b. Lies built.cells built.used (record_in built b) (block_at after b)) old_lies new_lies;
        apart = λ b c bc cl.
            old_or_new (λ x. b < x → (record_in built b).start + room (block_at after b).layout ≤ (record_in built x).start)
            (λ x xl bx. old_apart b x bx xl) (λ bx. new_apart b bx) c cl bc;
      }

  pub allocated_placed : Allocated cells records (record { heap = after; reference = block (length h) 0 }) (record { storage = built; number = (l.count + 1) * 2 ^ 32 })
  allocated_placed =
      record {
        match = match_placed;
        same =
            let e : (l.count + 1) * 2 ^ 32 ≡ (l.count + 1) * 2 ^ 32 + 0 = omega arith in
            ap (λ b. block b 0) m.blocks ∙ sym (reference_of-block l.count 0 (omega arith)) ∙ ap reference_of (sym e);
        known = λ _. omega arith;
      }

module _ (cells records : ℕ) (h : Heap) (l : Storage) (m : Match cells records h l) where
  allocate_lent : (how : Layout) → Same (Allocated cells records) (allocate (length l.cells) (length l.records) h how) (place l how)
  allocate_lent how =
      subst₂ (λ x y. Same (Allocated cells records)
      (cond (leb (x + room how) (length l.cells))
      (cond (ltb y (length l.records)) (gives (record { heap = h ++ (fresh_block how ∷ []); reference = block (length h) 0 })) (stops Cells))
      (stops Cells))
      (place l how)) (sym m.all) (sym m.blocks)
      (go (leb (l.used + room how) (length l.cells)) (ltb l.count (length l.records)) refl refl)
    where
      go : (t u : Bool) → leb (l.used + room how) (length l.cells) ≡ t → ltb l.count (length l.records) ≡ u
          → Same (Allocated cells records)
          (cond t (cond u (gives (record { heap = h ++ (fresh_block how ∷ []); reference = block (length h) 0 })) (stops Cells)) (stops Cells))
          (cond (cond t u false) (gives (record { storage = placed l how; number = (l.count + 1) * 2 ^ 32 })) (stops Cells))
      go true true e f =
          give (allocated_placed cells records h l m how (leb-true (l.used + room how) (length l.cells) e)
          (ltb-true l.count (length l.records) f))
      go true false e f = stop
      go false u e f = stop

  pub allocate_same : (how : Layout) → Same (Allocated cells records) (allocate cells records h how) (place l how)
  allocate_same how =
      subst₂ (λ x y. Same (Allocated cells records) (allocate x y h how) (place l how)) m.cells_are m.records_are (allocate_lent how)

  pub newarray_same : (s n : ℕ) → Same (Allocated cells records) (newarray cells records h s n) (new_array l s n)
  newarray_same s n = go (ltb n (2 ^ 31))
    where
      go : (t : Bool)
          → Same (Allocated cells records) (cond t (allocate cells records h (array n s)) (stops Length)) (cond t (place l (array n s)) (stops Length))
      go true = allocate_same (array n s)
      go false = stop
