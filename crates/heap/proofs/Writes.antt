-- A cell written in a block and where the block lies: storage and heap still match.
use Rattle.std.proofs.Common.{◌≡◌, ℕ, zero, suc, ◌+◌, ◌<◌, ◌≤◌, Bool, true, false, eqb, ltb, ◌≢◌, List, [], ◌∷◌, length, get_or, set, sym, refl, ap, ◌∙◌, subst, arith, length-set, get_or-set_other, get_or-set_same, ltb-false, ltb-true, eqb-true}
use borrow.Author.Tests.{eqb-false}
use Rattle.heap.specs.declared.Cell.{Cell}
use Rattle.heap.specs.Checked.{plain, Block, Heap, room, zeros, no_block, block_at, total}
use Rattle.heap.specs.Storage.{Storage, no_cell, record_in, with_cell}
use Rattle.heap.specs.Relation.{content_of, Lies, Match}
use Rattle.heap.proofs.Soundness.{Naming, sound-with_cell}

total_set : (h : Heap) (b : ℕ) (x : Block) → length x.cells ≡ length (block_at h b).cells → b < length h → total (set h b x) ≡ total h
total_set [] b x e lt = refl
total_set (y ∷ h) zero x e lt = ap (λ n. n + total h) e
total_set (y ∷ h) (suc b) x e lt = ap (λ n. length y.cells + n) (total_set h b x e (omega arith))

module _ (cells records : ℕ) (h : Heap) (l : Storage) (m : Match cells records h l) (b j : ℕ) (lt : b < l.count) (short : j < room (block_at h b).layout)
    (c : Cell) (ok : Naming l.count c) where
  abbrev block : Block
  block = record { layout = (block_at h b).layout; cells = set (block_at h b).cells j (content_of c) }

  abbrev spot : ℕ
  spot = (record_in l b).start + j

  in_blocks : b < length h
  in_blocks = let e = m.blocks in omega arith

  in_cells : spot < length l.cells
  in_cells = let e = (m.lies b lt).ends in let f = m.sound.cells_fit in omega arith

  at_same : block_at (set h b block) b ≡ block
  at_same = get_or-set_same h b block no_block in_blocks

  at_other : (x : ℕ) → x ≢ b → block_at (set h b block) x ≡ block_at h x
  at_other x ne = get_or-set_other h b x block no_block ne

  layout_same : (x : ℕ) → (block_at (set h b block) x).layout ≡ (block_at h x).layout
  layout_same x = go (eqb x b) refl
    where
      go : (e : Bool) → eqb x b ≡ e → (block_at (set h b block) x).layout ≡ (block_at h x).layout
      go true p = let e = eqb-true x b p in ap (λ y. (block_at (set h b block) y).layout) e ∙ ap (λ (y : Block). y.layout) at_same ∙ ap (λ y. (block_at h y).layout) (sym e)
      go false p = ap (λ (y : Block). y.layout) (at_other x (eqb-false x b p))

  abbrev mem : List Cell
  mem = set l.cells spot c

  lies_here : Lies mem l.used (record_in l b) block
  lies_here =
      let d = m.lies b lt in
      record { record_is = d.record_is; size = length-set (block_at h b).cells j (content_of c) ∙ d.size; ends = d.ends; same = λ i w. go i w (eqb i j) refl }
    where
      go : (i : ℕ) → i < room (block_at h b).layout → (e : Bool) → eqb i j ≡ e
          → get_or (set (block_at h b).cells j (content_of c)) i (plain zeros) ≡ content_of (get_or mem ((record_in l b).start + i) no_cell)
      go i w true p =
          let e = eqb-true i j p in
          let s = (m.lies b lt).size in
          let q : j < length (block_at h b).cells = omega arith in
          ap (λ y. get_or (set (block_at h b).cells j (content_of c)) y (plain zeros)) e ∙ get_or-set_same (block_at h b).cells j (content_of c) (plain zeros) q
          ∙ ap content_of (sym (get_or-set_same l.cells spot c no_cell in_cells)) ∙ ap (λ y. content_of (get_or mem ((record_in l b).start + y) no_cell)) (sym e)
      go i w false p =
          let ne : i ≢ j = eqb-false i j p in
          let nf : (record_in l b).start + i ≢ spot = λ e. ne (omega arith) in
          get_or-set_other (block_at h b).cells j i (content_of c) (plain zeros) ne ∙ (m.lies b lt).same i w
          ∙ ap content_of (sym (get_or-set_other l.cells spot ((record_in l b).start + i) c no_cell nf))

  away : (x i : ℕ) → x < l.count → x ≢ b → i < room (block_at h x).layout → (record_in l x).start + i ≢ spot
  away x i xl ne w e = go (ltb x b) refl
    where
      go : (t : Bool) → ltb x b ≡ t → ⊥
      go true p = let q = m.apart x b (ltb-true x b p) lt in omega arith
      go false p =
          let f = ltb-false x b p in
          let g : b < x = go' (eqb x b) refl f in
          let q = m.apart b x g xl in omega arith
        where
          go' : (t : Bool) → eqb x b ≡ t → b ≤ x → b < x
          go' true p f = absurd (ne (eqb-true x b p))
          go' false p f = let u = eqb-false x b p in omega arith

  pub match-with_cell : Match cells records (set h b block) (with_cell l spot c)
  match-with_cell =
      record {
        cells_are = length-set l.cells spot c ∙ m.cells_are;
        records_are = m.records_are;
        sound = sound-with_cell l spot c m.sound ok;
        blocks = length-set h b block ∙ m.blocks;
        all = total_set h b block (length-set (block_at h b).cells j (content_of c)) in_blocks ∙ m.all;
        lies = λ x w. go x w (eqb x b) refl;
        apart = λ x y xy yl. subst (λ s. (record_in l x).start + room s ≤ (record_in l y).start) (sym (layout_same x)) (m.apart x y xy yl);
      }
    where
      go : (x : ℕ) → x < l.count → (e : Bool) → eqb x b ≡ e → Lies mem l.used (record_in l x) (block_at (set h b block) x)
      go x w true p =
          let e = eqb-true x b p in
          subst (λ y. Lies mem l.used (record_in l y) (block_at (set h b block) y)) (sym e)
          (subst (λ y. Lies mem l.used (record_in l b) y) (sym at_same) lies_here)
      go x w false p =
          let ne : x ≢ b = eqb-false x b p in
          let d = m.lies x w in
          subst (λ y. Lies mem l.used (record_in l x) y) (sym (at_other x ne))
          (record {
            record_is = d.record_is;
            size = d.size;
            ends = d.ends;
            same = λ i v. d.same i v ∙ ap content_of (sym (get_or-set_other l.cells spot ((record_in l x).start + i) c no_cell (away x i w ne v)));
          })
