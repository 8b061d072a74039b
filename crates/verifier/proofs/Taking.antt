-- One take, and the sweep from its first take on, over records.
use Rattle.std.proofs.Common.{◌≡◌, ℕ, zero, suc, ◌+◌, ◌-◌, ◌<◌, ◌≤◌, Bool, true, false, List, [], ◌∷◌, map, length, get_or, set, Some, None, Option, sym, refl, ap, ◌∙◌, subst, inl, add-one, arith}
use Rattle.std.proofs.lemmas.List.{length-map, map-set, get_or-set_same}
use Rattle.bytecode.specs.declared.instruction.Instruction.{Instruction}
use Rattle.bytecode.specs.Instructions.{decode_at, starts_of}
use Rattle.bytecode.specs.Outcome.{Fault, Out, bad, good, bind}
use Rattle.bytecode.specs.Program.{Program}
use Rattle.plan.specs.Programs.{function_at, code_at, variables_at, KnownSignatures, WellFormed}
use Rattle.plan.specs.Shapes.{Shape}
use Rattle.plan.specs.Effects.{effect}
use Rattle.plan.specs.Plans.{successors, starts_at, entry_of}
use Rattle.plan.specs.Sweep.{Cell, off, blank, marked, settled, Table, at, fresh, put, spread, lowest, applied, apply, visit, turn, run, most, sweep_within, sweep_marks, sweep_function}
use Rattle.plan.proofs.Outcomes.{on_good}
use Rattle.plan.proofs.Weighing.{weigh, total, total_at, total_fresh, SizedAll, put_steps}
use Rattle.plan.proofs.Sweeping.{visit_lighter}
use Rattle.plan.proofs.Judging.{entry_sized, formed_at, starts_stand}
use Rattle.shapes.specs.declared.table.ShapeMark.{ShapeMark}
use Rattle.shapes.specs.declared.table.ShapeMark.TheVariants.{Blank, Start, Due, Shaped}
use Rattle.shapes.specs.declared.table.ShapeRecord.{ShapeRecord}
use Rattle.shapes.specs.Records.{cell_as, cell_of, shape_in, no_record, Tidy, Whole, Neat}
use Rattle.shapes.proofs.Stacks.{tidy_mark, whole_empty}
use Rattle.verifier.specs.Fresh.{fresh_record}
use Rattle.verifier.proofs.Searching.{low_taken}
use Rattle.verifier.proofs.Spreading.{at_map, past}

-- a record of the table with its mark taken away
abbrev pub settled_record : ShapeRecord → ShapeRecord
settled_record r = record { mark = Shaped; depth = r.depth; stack = r.stack; variables = r.variables }

-- ## One take

module _ (P : Program) (f : ℕ) (rs : List ShapeRecord) (p : ℕ) where
  visit_applied : (o : Option Instruction) (r : Out (Shape × List (Option ℕ))) → decode_at (code_at P f) p ≡ o → applied P f p (shape_in (get_or rs p no_record)) o ≡ r
      → visit P f (map cell_of rs) p (shape_in (get_or rs p no_record)) ≡
      bind r (λ r. spread f p r.0 r.1 (map cell_of (set rs p (settled_record (get_or rs p no_record)))))
  unfolding visit apply
  visit_applied o r d h =
      ap (λ a. bind a (λ r. spread f p r.0 r.1 (set (map cell_of rs) p (settled (shape_in (get_or rs p no_record))))))
      (ap (applied P f p (shape_in (get_or rs p no_record))) d ∙ h) ∙
      ap (λ T. bind r (λ r. spread f p r.0 r.1 T)) (sym (map-set cell_of rs p (settled_record (get_or rs p no_record))))

  pub visit_undecoded : decode_at (code_at P f) p ≡ None → visit P f (map cell_of rs) p (shape_in (get_or rs p no_record)) ≡ bad (17, f, p)
  visit_undecoded d = visit_applied None (bad (17, f, p)) d refl

  pub visit_refused : (i : Instruction) (e : Fault) → decode_at (code_at P f) p ≡ Some i → effect P f p i (shape_in (get_or rs p no_record)) ≡ bad e
      → visit P f (map cell_of rs) p (shape_in (get_or rs p no_record)) ≡ bad e
  visit_refused i e d h = visit_applied (Some i) (bad e) d (ap (λ r. bind r (λ u. good (u, successors p i))) h)

  pub visit_spread : (i : Instruction) (u : Shape) → decode_at (code_at P f) p ≡ Some i → effect P f p i (shape_in (get_or rs p no_record)) ≡ good u
      → visit P f (map cell_of rs) p (shape_in (get_or rs p no_record)) ≡ spread f p u (successors p i) (map cell_of (set rs p (settled_record (get_or rs p no_record))))
  visit_spread i u d h = visit_applied (Some i) (good (u, successors p i)) d (ap (λ r. bind r (λ u. good (u, successors p i))) h)

pub settled_shape : (rs : List ShapeRecord) (p : ℕ) → p < length rs → shape_in (get_or (set rs p (settled_record (get_or rs p no_record))) p no_record) ≡ shape_in (get_or rs p no_record)
settled_shape rs p l = ap shape_in (get_or-set_same rs p (settled_record (get_or rs p no_record)) no_record l)

pub settled_tidy : (rs : List ShapeRecord) (p : ℕ) → p < length rs → Tidy (get_or rs p no_record) → Tidy (get_or (set rs p (settled_record (get_or rs p no_record))) p no_record)
settled_tidy rs p l t =
    subst Tidy (sym (get_or-set_same rs p (settled_record (get_or rs p no_record)) no_record l)) (tidy_mark Shaped (get_or rs p no_record) t)

pub whole_settled : (r : ShapeRecord) → Tidy r → Whole (settled_record r)
whole_settled r t = record { tidy = tidy_mark Shaped r t; vacant = inl tt }

pub low_settled : (rs : List ShapeRecord) (p : ℕ) → p ≡ lowest (map cell_of rs) → p < length rs → p + 1 ≤ lowest (map cell_of (set rs p (settled_record (get_or rs p no_record))))
low_settled rs p e l =
    let n = length-map rs cell_of in
    let P : Table → Type 0 = λ T. p + 1 ≤ lowest T in
    subst P (sym (map-set cell_of rs p (settled_record (get_or rs p no_record)))) (low_taken (map cell_of rs) p (shape_in (get_or rs p no_record)) e (omega arith))

-- ## The lowest place is marked

abbrev IsMarked : Cell → Type 0
IsMarked off = ⊥
IsMarked blank = ⊥
IsMarked (marked s) = Unit {0}
IsMarked (settled s) = ⊥

lowest_in : (T : Table) → lowest T < length T → IsMarked (at T (lowest T))
unfolding lowest
lowest_in [] h = absurd (omega arith)
lowest_in (off ∷ T) h = lowest_in T (omega arith)
lowest_in (blank ∷ T) h = lowest_in T (omega arith)
lowest_in (marked s ∷ T) h = tt
lowest_in (settled s ∷ T) h = lowest_in T (omega arith)

is_due : (m : ShapeMark) (s : Shape) → IsMarked (cell_as m s) → cell_as m s ≡ marked s
is_due Blank s h = absurd h
is_due Start s h = absurd h
is_due Due s h = refl
is_due Shaped s h = absurd h

lowest_due : (rs : List ShapeRecord) (p : ℕ) → p ≡ lowest (map cell_of rs) → p < length rs → at (map cell_of rs) p ≡ marked (shape_in (get_or rs p no_record))
lowest_due rs p e h = at_map rs p ∙ is_due _ _ due
  where
    due : IsMarked (cell_of (get_or rs p no_record))
    due =
        let l = length-map rs cell_of in
        subst IsMarked (ap (at (map cell_of rs)) (sym e) ∙ at_map rs p) (lowest_in (map cell_of rs) (omega arith))

-- ## Take after take

module _ (P : Program) (f : ℕ) (rs : List ShapeRecord) (p : ℕ) (e : p ≡ lowest (map cell_of rs)) where
  -- nothing is marked
  pub run_stop : (k t : ℕ) → length rs ≤ p → run P f k t (map cell_of rs) ≡ good (map cell_of rs, t)
  unfolding run turn
  run_stop zero t h = refl
  run_stop (suc k) t h = ap (turn P f t (map cell_of rs) (run P f k (suc t))) (ap (at (map cell_of rs)) (sym e) ∙ past rs p h)

  module _ (h : p < length rs) where
    pub some_left : (V : ℕ) → 0 < total V (map cell_of rs)
    some_left V = omega (arith, total_at V (map cell_of rs) p, ap (weigh V) (lowest_due rs p e h))

    pub run_more : (k t : ℕ) (r : Out Table) → 0 < k → visit P f (map cell_of rs) p (shape_in (get_or rs p no_record)) ≡ r
        → run P f k t (map cell_of rs) ≡ bind r (run P f (k - 1) (t + 1))
    unfolding run turn
    run_more zero t r m v = absurd (omega arith)
    run_more (suc k) t r m v =
        let a : suc k - 1 ≡ k = omega arith in
        let b = add-one t in
        ap (turn P f t (map cell_of rs) (run P f k (suc t))) (ap (at (map cell_of rs)) (sym e) ∙ lowest_due rs p e h) ∙
        ap (λ n. bind (visit P f (map cell_of rs) n (shape_in (get_or rs p no_record))) (run P f k (suc t))) (sym e) ∙
        ap (λ r. bind r (run P f k (suc t))) v ∙
        (rw (a, b))

    -- a take leaves less
    pub take_less : KnownSignatures P → (us : List ShapeRecord) → SizedAll (variables_at P f) (map cell_of rs)
        → visit P f (map cell_of rs) p (shape_in (get_or rs p no_record)) ≡ good (map cell_of us)
        → SizedAll (variables_at P f) (map cell_of us) × (total (variables_at P f) (map cell_of us) < total (variables_at P f) (map cell_of rs))
    take_less known us z v =
        on_good (Unit {0}) (λ U. SizedAll (variables_at P f) U × (total (variables_at P f) U < total (variables_at P f) (map cell_of rs)))
        (visit P f (map cell_of rs) p (shape_in (get_or rs p no_record))) (map cell_of us) v
        (visit_lighter P known f [] (map cell_of rs) p (shape_in (get_or rs p no_record)) (lowest_due rs p e h) z)

-- ## The table before the first take

fresh_cell : (b : Bool) → cell_of (fresh_record b) ≡ fresh b
fresh_cell true = refl
fresh_cell false = refl

fresh_cells : (bs : List Bool) → map cell_of (map fresh_record bs) ≡ map fresh bs
fresh_cells [] = refl
fresh_cells (b ∷ bs) = λ i. fresh_cell b i ∷ fresh_cells bs i

fresh_whole : (b : Bool) → Whole (fresh_record b)
fresh_whole true = whole_empty Start
fresh_whole false = whole_empty Blank

fresh_neat : (bs : List Bool) → Neat (map fresh_record bs)
fresh_neat [] k h = absurd (omega arith)
fresh_neat (b ∷ bs) zero h = fresh_whole b
fresh_neat (b ∷ bs) (suc k) h = fresh_neat bs k (omega arith)

fresh_sized : (V : ℕ) (bs : List Bool) → SizedAll V (map fresh bs)
fresh_sized V [] q = tt
fresh_sized V (true ∷ bs) zero = tt
fresh_sized V (false ∷ bs) zero = tt
fresh_sized V (b ∷ bs) (suc q) = fresh_sized V bs q

module _ (P : Program) (f : ℕ) (rs : List ShapeRecord) (e : rs ≡ map fresh_record (starts_at P f)) where
  pub neat_fresh : Neat rs
  neat_fresh = subst Neat (sym e) (fresh_neat (starts_at P f))

  pub fresh_size : starts_of f (code_at P f) ≡ good (starts_at P f) → length rs ≡ length (code_at P f)
  fresh_size d = ap length e ∙ length-map (starts_at P f) fresh_record ∙ (starts_stand f (code_at P f) (starts_at P f) d).size

  cells : map cell_of rs ≡ map fresh (starts_at P f)
  cells = ap (map cell_of) e ∙ fresh_cells (starts_at P f)

  module _ (d : starts_of f (code_at P f) ≡ good (starts_at P f)) (x : Shape) (g : x ≡ entry_of (function_at P f)) where
    met : (r : Out Table) → put f 0 (map cell_of rs) (Some 0) x ≡ r → put f 0 (map fresh (starts_at P f)) (Some 0) (entry_of (function_at P f)) ≡ r
    met r h = ap (λ T. put f 0 T (Some 0) (entry_of (function_at P f))) (sym cells) ∙ ap (put f 0 (map cell_of rs) (Some 0)) (sym g) ∙ h

    begun : (r : Out Table) → put f 0 (map cell_of rs) (Some 0) x ≡ r → sweep_function P f ≡ bind r (run P f (most P f (starts_at P f)) 0)
    unfolding sweep_function sweep_within
    begun r h = ap (λ o. bind o (sweep_marks P f)) d ∙ ap (λ r. bind r (run P f (most P f (starts_at P f)) 0)) (met r h)

    pub sweep_refused : (e : Fault) → put f 0 (map cell_of rs) (Some 0) x ≡ bad e → sweep_function P f ≡ bad e
    sweep_refused e h = begun (bad e) h

    pub sweep_begun : (U : Table) → put f 0 (map cell_of rs) (Some 0) x ≡ good U → sweep_function P f ≡ run P f (most P f (starts_at P f)) 0 U
    sweep_begun U h = begun (good U) h

    pub sweep_left : (U : Table) → WellFormed P → put f 0 (map cell_of rs) (Some 0) x ≡ good U
        → SizedAll (variables_at P f) U × (total (variables_at P f) U ≤ most P f (starts_at P f))
    sweep_left U formed h =
        let V : ℕ = variables_at P f in
        let z : SizedAll V (map fresh (starts_at P f)) = fresh_sized V (starts_at P f) in
        let k = put_steps V f 0 (map fresh (starts_at P f)) (Some 0) (entry_of (function_at P f)) z (entry_sized (function_at P f) (formed_at P formed f)) in
        let j = on_good (Unit {0}) _ _ U (met (good U) h) k in
        (λ q. (j.0.moves q).sized (z q), omega (arith, j.0.lighter, total_fresh V (starts_at P f)))

pub ruleset visiting = (visit_undecoded, visit_refused, visit_spread, whole_settled, low_settled, settled_shape, settled_tidy)
