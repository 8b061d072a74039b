-- The table when the sweep is over: the starts without a shape become blank, and the rest are the records of the shapes.
use Rattle.std.proofs.Common.{◌≡◌, ℕ, zero, suc, ◌+◌, ◌-◌, ◌<◌, ◌≤◌, List, [], ◌∷◌, ◌++◌, map, length, get_or, take, drop, set, replicate, sym, refl, ap, ◌∙◌, append-nil, arith}
use Rattle.std.proofs.lemmas.List.{length-map, map-append, get_or_default, take_all, drop_all}
use Rattle.std.proofs.lemmas.List.Edits.{map_over_more}
use Rattle.plan.specs.Shapes.{Shape}
use Rattle.plan.specs.Sweep.{Cell, off, blank, marked, settled, Table, at, shape_of}
use Rattle.shapes.specs.declared.table.ShapeMark.{ShapeMark}
use Rattle.shapes.specs.declared.table.ShapeMark.TheVariants.{Blank, Start, Due, Shaped}
use Rattle.shapes.specs.declared.table.ShapeRecord.{ShapeRecord}
use Rattle.shapes.specs.Records.{no_record, blank_record, working_record, record_of}
use Rattle.verifier.specs.Fresh.{filled}
use Rattle.verifier.specs.Swept.{finished_mark, finished, working_records, working_all}
use Rattle.verifier.specs.Checking.{records, all_records}

-- ## One record after another

other_mark : (m : ShapeMark) → (m ≡ Start → ⊥) → finished_mark m ≡ m
other_mark Blank n = refl
other_mark Start n = absurd (n refl)
other_mark Due n = refl
other_mark Shaped n = refl

module _ (rs us : List ShapeRecord) (i : ℕ) (l : i < length rs) (k : i < length us) (e : us ≡ map finished (take i rs) ++ drop i rs) where
  next : set us i (finished (get_or us i no_record)) ≡ map finished (take (i + 1) rs) ++ drop (i + 1) rs
  next = map_over_more finished rs us i (get_or us i no_record) l e (get_or_default us i no_record (get_or us i no_record) k)

  pub finish_start : (get_or us i no_record).mark ≡ Start
      → set us i (record { mark = Blank; depth = (get_or us i no_record).depth; stack = (get_or us i no_record).stack; variables = (get_or us i no_record).variables }) ≡
      map finished (take (i + 1) rs) ++ drop (i + 1) rs
  finish_start h =
      ap (λ m. set us i (record { mark = m; depth = (get_or us i no_record).depth; stack = (get_or us i no_record).stack; variables = (get_or us i no_record).variables })) (sym (ap finished_mark h)) ∙ next

  pub finish_kept : ((get_or us i no_record).mark ≡ Start → ⊥) → set us i (get_or us i no_record) ≡ map finished (take (i + 1) rs) ++ drop (i + 1) rs
  finish_kept n =
      ap (λ m. set us i (record { mark = m; depth = (get_or us i no_record).depth; stack = (get_or us i no_record).stack; variables = (get_or us i no_record).variables })) (sym (other_mark (get_or us i no_record).mark n)) ∙
      next

pub finish_all : (rs : List ShapeRecord) (i : ℕ) → length rs ≤ i → map finished (take i rs) ++ drop i rs ≡ map finished rs
finish_all rs i l = ap (λ xs. map finished (take i rs) ++ xs) (drop_all i rs l) ∙ append-nil (map finished (take i rs)) ∙ ap (map finished) (take_all i rs l)

-- ## The records of the shapes

finished_cell : (c : Cell) → ((s : Shape) → c ≡ marked s → ⊥) → finished (working_record c) ≡ record_of (shape_of c)
finished_cell off n = refl
finished_cell blank n = refl
finished_cell (marked s) n = absurd (n s refl)
finished_cell (settled s) n = refl

finished_table : (T : Table) → ((q : ℕ) (s : Shape) → at T q ≡ marked s → ⊥) → map finished (map working_record T) ≡ records T
finished_table [] n = refl
finished_table (c ∷ T) n =
    let a : finished (working_record c) ≡ record_of (shape_of c) = finished_cell c (n 0) in
    let b : map finished (map working_record T) ≡ records T = finished_table T (λ q s e. n (suc q) s e) in
    λ i. a i ∷ b i

finished_tables : (Ts : List Table) → ((f : ℕ) → f < length Ts → (q : ℕ) (s : Shape) → at (get_or Ts f []) q ≡ marked s → ⊥)
    → map finished (working_records Ts) ≡ all_records Ts
finished_tables [] n = refl
finished_tables (T ∷ Ts) n =
    map-append finished (map working_record T) (working_records Ts) ∙
    (let a : map finished (map working_record T) ≡ records T = finished_table T (n 0 (omega arith)) in
    let b : map finished (working_records Ts) ≡ all_records Ts = finished_tables Ts (λ f l. n (suc f) (omega arith)) in
    λ i. a i ++ b i)

finished_blank : (n : ℕ) → map finished (replicate n blank_record) ≡ replicate n blank_record
finished_blank zero = refl
finished_blank (suc n) = ap (λ rs. blank_record ∷ rs) (finished_blank n)

pub finished_all : (room : ℕ) (Ts : List Table) → ((f : ℕ) → f < length Ts → (q : ℕ) (s : Shape) → at (get_or Ts f []) q ≡ marked s → ⊥)
    → map finished (working_all room Ts) ≡ filled room (all_records Ts)
finished_all room Ts n =
    let e : map finished (working_records Ts) ≡ all_records Ts = finished_tables Ts n in
    let l : length (working_records Ts) ≡ length (all_records Ts) = sym (length-map (working_records Ts) finished) ∙ ap length e in
    map-append finished (working_records Ts) (replicate (room - length (working_records Ts)) blank_record) ∙
    ap (λ rs. rs ++ map finished (replicate (room - length (working_records Ts)) blank_record)) e ∙
    ap (λ rs. all_records Ts ++ rs) (finished_blank (room - length (working_records Ts))) ∙
    ap (λ k. all_records Ts ++ replicate (room - k) blank_record) l

pub ruleset finishing = (finish_start, finish_kept, finish_all)
