-- arraylength, aadds and aaddf: storage answers and stops as the heap that it represents, and a new address names what there is.
use Rattle.std.proofs.Common.{◌≡◌, ℕ, ◌+◌, ◌-◌, ◌*◌, ◌^◌, ◌<◌, ◌≤◌, Bool, true, false, cond, eqb, ltb, leb, sym, refl, ap, ◌∙◌, subst, mul-le-mul_right, arith, ltb-false, ltb-true, eqb-true, leb-true}
use Rattle.bytecode.specs.Stops.{Attempt, gives, stops, and_then}
use Rattle.bytecode.specs.declared.stop.Stop.TheVariants.{Null, Bounds, Array, Text}
use Rattle.heap.specs.declared.BlockRecord.{BlockRecord}
use Rattle.heap.specs.Checked.{Reference, null, text, block, Layout, single, array, Heap, data_end, block_at, length_of, element, arraylength, aadds, aaddf}
use Rattle.heap.specs.Storage.{Storage, Known, reference_of, block_of, offset_of, record_in, record_of, array_length, add_index, add_field}
use Rattle.heap.specs.Relation.{references, Names, Match}
use Rattle.heap.proofs.Numbering.{reference_of-block}

module _ (cells records : ℕ) (h : Heap) (l : Storage) (m : Match cells records h l) (n : ℕ) (known : Known l.count n) where
  abbrev by_sorts : Bool → Bool → Reference
  by_sorts e f = cond e null (cond f (text (n - 1)) (block (block_of n) (offset_of n)))

  -- the array whose record is r, if n has offset 0 there
  abbrev array_of : BlockRecord → Attempt BlockRecord
  array_of r = cond (ltb 0 r.from) (cond (eqb (offset_of n) 0) (gives r) (stops Array)) (stops Array)

  pub arraylength_same : arraylength h (reference_of n) ≡ array_length l n
  arraylength_same = go (eqb n 0) (ltb n (2 ^ 32)) refl
    where
      counts : (t : Bool) (r : BlockRecord) → cond t (gives r.count) (stops Array) ≡ and_then (cond t (gives r) (stops Array)) (λ (x : BlockRecord). gives x.count)
      counts true r = refl
      counts false r = refl

      inner : (how : Layout) (start : ℕ) → length_of how (offset_of n) ≡ and_then (array_of (record_of start how)) (λ (x : BlockRecord). gives x.count)
      inner (single s) start = refl
      inner (array k s) start = counts (eqb (offset_of n) 0) (record_of start (array k s))

      go : (e f : Bool) → ltb n (2 ^ 32) ≡ f → arraylength h (by_sorts e f)
          ≡ and_then (cond e (stops Null) (cond f (stops Array) (array_of (record_in l (block_of n))))) (λ (x : BlockRecord). gives x.count)
      go true f q = refl
      go false true q = refl
      go false false q =
          let lt = known (ltb-false n (2 ^ 32) q) in
          let e = (m.lies (block_of n) lt).record_is in
          inner (block_at h (block_of n)).layout (record_in l (block_of n)).start
          ∙ ap (λ (r : BlockRecord). and_then (array_of r) (λ (x : BlockRecord). gives x.count)) (sym e)

  -- data end where offsets still fit beside a block's number
  ends_low : (b : ℕ) → b < l.count → data_end (block_at h b).layout < 2 ^ 32
  ends_low b lt = let e = (m.lies b lt).ends in let f = m.sound.cells_fit in let g = m.sound.few_cells in omega arith

  -- n moved on by d, within its block
  moved : (d : ℕ) → 2 ^ 32 ≤ n → offset_of n + d < 2 ^ 32 → (reference_of (n + d) ≡ block (block_of n) (offset_of n + d)) × Known l.count (n + d)
  moved d big fits =
      let b = block_of n in
      let e : n + d ≡ (b + 1) * 2 ^ 32 + (offset_of n + d) = omega arith in
      (ap reference_of e ∙ reference_of-block b (offset_of n + d) fits, λ _. let k = known big in omega arith)

  pub aaddf_same : (f : ℕ) → (aaddf h (reference_of n) f ≡ references (add_field l n f)) × Names l.count (add_field l n f)
  aaddf_same f = go (eqb n 0) (ltb n (2 ^ 32)) refl
    where
      inner : (how : Layout) → 2 ^ 32 ≤ n → data_end how < 2 ^ 32 → (t : Bool) → leb (offset_of n + f) (data_end how) ≡ t
          → (cond t (gives (block (block_of n) (offset_of n + f))) (stops Bounds) ≡ references (cond t (gives (n + f)) (stops Bounds)))
          × Names l.count (cond t (gives (n + f)) (stops Bounds))
      inner how big low true e =
          let x = leb-true (offset_of n + f) (data_end how) e in
          let y = moved f big (omega arith) in (ap gives (sym y.0), y.1)
      inner how big low false e = (refl, tt)

      end_is : (how : Layout) (start : ℕ) → data_end how ≡ (record_of start how).end
      end_is (single s) start = refl
      end_is (array k s) start = refl

      go : (e g : Bool) → ltb n (2 ^ 32) ≡ g
          → (aaddf h (by_sorts e g) f
          ≡ references (cond e (stops Null) (cond g (stops Text) (cond (leb (offset_of n + f) (record_in l (block_of n)).end) (gives (n + f)) (stops Bounds)))))
          × Names l.count (cond e (stops Null) (cond g (stops Text) (cond (leb (offset_of n + f) (record_in l (block_of n)).end) (gives (n + f)) (stops Bounds))))
      go true g q = (refl, tt)
      go false true q = (refl, tt)
      go false false q =
          let big = ltb-false n (2 ^ 32) q in
          let b = block_of n in
          let lt = known big in
          let how = (block_at h b).layout in
          let e : data_end how ≡ (record_in l b).end
          = end_is how (record_in l b).start ∙ ap (λ (r : BlockRecord). r.end) (sym (m.lies b lt).record_is) in
          subst (λ x.
          (cond (leb (offset_of n + f) (data_end how)) (gives (block b (offset_of n + f))) (stops Bounds)
          ≡ references (cond (leb (offset_of n + f) x) (gives (n + f)) (stops Bounds)))
          × Names l.count (cond (leb (offset_of n + f) x) (gives (n + f)) (stops Bounds))) e
          (inner how big (ends_low b lt) (leb (offset_of n + f) (data_end how)) refl)

  -- the address of element i, from an array's record
  abbrev element_of : ℕ → BlockRecord → Attempt ℕ
  element_of i r = cond (ltb i r.count) (gives (n + (8 + i * r.size))) (stops Bounds)

  pub aadds_same : (i : ℕ) → (aadds h (reference_of n) i ≡ references (add_index l n i)) × Names l.count (add_index l n i)
  aadds_same i = go (eqb n 0) (ltb n (2 ^ 32)) refl
    where
      step : (start k s : ℕ) → 2 ^ 32 ≤ n → 8 + k * s < 2 ^ 32 → (t u : Bool) → eqb (offset_of n) 0 ≡ t → ltb i k ≡ u
          → (cond t (cond u (gives (block (block_of n) (8 + i * s))) (stops Bounds)) (stops Array)
          ≡ references (and_then (cond t (gives (record_of start (array k s))) (stops Array))
          (λ (r : BlockRecord). cond u (gives (n + (8 + i * r.size))) (stops Bounds))))
          × Names l.count (and_then (cond t (gives (record_of start (array k s))) (stops Array))
          (λ (r : BlockRecord). cond u (gives (n + (8 + i * r.size))) (stops Bounds)))
      step start k s big low false u p q = (refl, tt)
      step start k s big low true false p q = (refl, tt)
      step start k s big low true true p q =
          let z = eqb-true (offset_of n) 0 p in
          let w = ltb-true i k q in
          let le : i ≤ k = omega arith in
          let x = mul-le-mul_right {m = i} {n = k} s le in
          let y = moved (8 + i * s) big (omega arith) in
          let e : offset_of n + (8 + i * s) ≡ 8 + i * s = omega arith in
          (ap gives (ap (block (block_of n)) (sym e) ∙ sym y.0), y.1)

      tested : (start k s : ℕ) (t : Bool)
          → and_then (cond t (gives (record_of start (array k s))) (stops Array)) (λ (r : BlockRecord). cond (ltb i k) (gives (n + (8 + i * r.size))) (stops Bounds))
          ≡ and_then (cond t (gives (record_of start (array k s))) (stops Array)) (element_of i)
      tested start k s true = refl
      tested start k s false = refl

      inner : (how : Layout) (start : ℕ) → 2 ^ 32 ≤ n → data_end how < 2 ^ 32
          → (element how (block_of n) (offset_of n) i ≡ references (and_then (array_of (record_of start how)) (element_of i)))
          × Names l.count (and_then (array_of (record_of start how)) (element_of i))
      inner (single s) start big low = (refl, tt)
      inner (array k s) start big low =
          subst (λ x. (element (array k s) (block_of n) (offset_of n) i ≡ references x) × Names l.count x) (tested start k s (eqb (offset_of n) 0))
          (step start k s big low (eqb (offset_of n) 0) (ltb i k) refl refl)

      go : (e g : Bool) → ltb n (2 ^ 32) ≡ g
          → (aadds h (by_sorts e g) i ≡ references (and_then (cond e (stops Null) (cond g (stops Array) (array_of (record_in l (block_of n))))) (element_of i)))
          × Names l.count (and_then (cond e (stops Null) (cond g (stops Array) (array_of (record_in l (block_of n))))) (element_of i))
      go true g q = (refl, tt)
      go false true q = (refl, tt)
      go false false q =
          let big = ltb-false n (2 ^ 32) q in
          let b = block_of n in
          let lt = known big in
          let how = (block_at h b).layout in
          subst (λ r. (element how b (offset_of n) i ≡ references (and_then (array_of r) (element_of i))) × Names l.count (and_then (array_of r) (element_of i)))
          (sym (m.lies b lt).record_is)
          (inner how (record_in l b).start big (ends_low b lt))
