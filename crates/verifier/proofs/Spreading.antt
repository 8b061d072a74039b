-- A shape goes on from a place: over records, one successor after another.
use Rattle.std.proofs.Common.{◌≡◌, ℕ, zero, suc, ◌+◌, ◌<◌, ◌≤◌, List, [], ◌∷◌, map, length, get_or, set, Some, None, Option, sym, refl, ap, ◌∙◌, subst, arith}
use Rattle.std.proofs.lemmas.List.{map-set, get_or-set_same}
use Rattle.bytecode.specs.Outcome.{Fault, Out, bad, good, bind}
use Rattle.plan.specs.Shapes.{Shape}
use Rattle.plan.specs.Sweep.{Cell, off, marked, Table, at, join, put, spread, lowest}
use Rattle.shapes.specs.declared.table.ShapeMark.{ShapeMark}
use Rattle.shapes.specs.declared.table.ShapeMark.TheVariants.{Blank, Start, Due, Shaped}
use Rattle.shapes.specs.declared.table.ShapeRecord.{ShapeRecord}
use Rattle.shapes.specs.Records.{cell_as, cell_of, shape_in, no_record, Whole, Neat}
use Rattle.verifier.proofs.Searching.{low_set, low_unmarked}

-- ## Cells of records

pub at_map : (rs : List ShapeRecord) (q : ℕ) → at (map cell_of rs) q ≡ cell_of (get_or rs q no_record)
at_map [] q = refl
at_map (r ∷ rs) zero = refl
at_map (r ∷ rs) (suc q) = at_map rs q

pub past : (rs : List ShapeRecord) (q : ℕ) → length rs ≤ q → at (map cell_of rs) q ≡ off
past [] q h = refl
past (r ∷ rs) zero h = absurd (omega arith)
past (r ∷ rs) (suc q) h = past rs q (omega arith)

pub neat_set : (rs : List ShapeRecord) (q : ℕ) (r : ShapeRecord) → Neat rs → Whole r → Neat (set rs q r)
neat_set [] q r h d k l = h k l
neat_set (x ∷ rs) zero r h d zero l = d
neat_set (x ∷ rs) zero r h d (suc k) l = h (suc k) (omega arith)
neat_set (x ∷ rs) (suc q) r h d zero l = h zero (omega arith)
neat_set (x ∷ rs) (suc q) r h d (suc k) l = neat_set rs q r (λ i j. h (suc i) (omega arith)) d k (omega arith)

-- ## One place met

module _ (f p : ℕ) (rs : List ShapeRecord) (o : Option ℕ) (x : Shape) where
  pub put_nowhere : o ≡ None → put f p (map cell_of rs) o x ≡ bad (23, f, p)
  unfolding put
  put_nowhere e = ap (λ o. put f p (map cell_of rs) o x) e

  pub put_past : (q : ℕ) → o ≡ Some q → length rs ≤ q → put f p (map cell_of rs) o x ≡ bad (23, f, p)
  unfolding put join
  put_past q e h = ap (λ o. put f p (map cell_of rs) o x) e ∙ ap (λ c. bind (join f p q c x) (λ c. good (set (map cell_of rs) q c))) (past rs q h)

  put_join : (q : ℕ) (r : Out Cell) → o ≡ Some q → join f p q (cell_of (get_or rs q no_record)) x ≡ r → put f p (map cell_of rs) o x ≡ bind r (λ c. good (set (map cell_of rs) q c))
  unfolding put
  put_join q r e h =
      ap (λ o. put f p (map cell_of rs) o x) e ∙ ap (λ c. bind (join f p q c x) (λ c. good (set (map cell_of rs) q c))) (at_map rs q) ∙
      ap (λ u. bind u (λ c. good (set (map cell_of rs) q c))) h

  pub put_fault : (q : ℕ) (e : Fault) → o ≡ Some q → join f p q (cell_of (get_or rs q no_record)) x ≡ bad e → put f p (map cell_of rs) o x ≡ bad e
  put_fault q e d h = put_join q (bad e) d h

  pub put_fine : (q : ℕ) (r : ShapeRecord) → o ≡ Some q → join f p q (cell_of (get_or rs q no_record)) x ≡ good (cell_of r)
      → put f p (map cell_of rs) o x ≡ good (map cell_of (set rs q r))
  put_fine q r d h = put_join q (good (cell_of r)) d h ∙ ap good (sym (map-set cell_of rs q r))

not_marked : (m : ShapeMark) (s t : Shape) → (m ≡ Due → ⊥) → cell_as m s ≡ marked t → ⊥
not_marked Blank s t n e = absurd (let z : ◌≡◌ {A = ℕ} 0 1 = cc in omega arith)
not_marked Start s t n e = absurd (let z : ◌≡◌ {A = ℕ} 0 1 = cc in omega arith)
not_marked Due s t n e = n refl
not_marked Shaped s t n e = absurd (let z : ◌≡◌ {A = ℕ} 0 1 = cc in omega arith)

-- the bound on the lowest mark after the record r is written at q
module _ (rs : List ShapeRecord) (n q : ℕ) (r : ShapeRecord) (h : n ≤ lowest (map cell_of rs)) where
  pub bound_marked : (k : ℕ) → k ≤ n → k ≤ q → k ≤ lowest (map cell_of (set rs q r))
  bound_marked k a b =
      let i : k ≤ lowest (map cell_of rs) = omega arith in
      let P : Table → Type 0 = λ T. k ≤ lowest T in
      subst P (sym (map-set cell_of rs q r)) (low_set (map cell_of rs) k q (cell_of r) i b)

  pub bound_unmarked : (d : ShapeRecord) → q < length rs → ((get_or (set rs q r) q d).mark ≡ Due → ⊥) → n ≤ lowest (map cell_of (set rs q r))
  bound_unmarked d l u =
      let P : Table → Type 0 = λ T. n ≤ lowest T in
      subst P (sym (map-set cell_of rs q r))
      (low_unmarked (map cell_of rs) n q (cell_of r) h (λ s e. not_marked r.mark (shape_in r) s (λ z. u (ap (λ (v : ShapeRecord). v.mark) (get_or-set_same rs q r d l) ∙ z)) e))

-- ## One place after another

spread_one : (f p : ℕ) (x : Shape) (q : Option ℕ) (T : Table) → spread f p x (q ∷ []) T ≡ put f p T q x
unfolding spread
spread_one f p x q T = go (put f p T q x)
  where
    go : (r : Out Table) → bind r (spread f p x []) ≡ r
    go (bad e) = refl
    go (good U) = refl

-- what follows the instruction at p, as a list of known places
module _ (f p : ℕ) (x : Shape) (qs : List (Option ℕ)) (T : Table) where
  pub spread_end : qs ≡ [] → spread f p x qs T ≡ good T
  unfolding spread
  spread_end e = ap (λ qs. spread f p x qs T) e

  pub spread_only : (q : Option ℕ) (r : Out Table) → qs ≡ q ∷ [] → put f p T q x ≡ r → spread f p x qs T ≡ r
  spread_only q r e h = ap (λ qs. spread f p x qs T) e ∙ spread_one f p x q T ∙ h

  both : (q o : Option ℕ) (r : Out Table) → qs ≡ q ∷ o ∷ [] → put f p T q x ≡ r → spread f p x qs T ≡ bind r (spread f p x (o ∷ []))
  unfolding spread
  both q o r e h = ap (λ qs. spread f p x qs T) e ∙ ap (λ r. bind r (spread f p x (o ∷ []))) h

  pub spread_fault : (q o : Option ℕ) (e : Fault) → qs ≡ q ∷ o ∷ [] → put f p T q x ≡ bad e → spread f p x qs T ≡ bad e
  spread_fault q o e d h = both q o (bad e) d h

  pub spread_both : (q o : Option ℕ) (U : Table) (r : Out Table) → qs ≡ q ∷ o ∷ [] → put f p T q x ≡ good U → put f p U o x ≡ r → spread f p x qs T ≡ r
  spread_both q o U r d h k = both q o (good U) d h ∙ spread_one f p x o U ∙ k

-- the next place, by the size of the instruction
pub next_only : (qs : List (Option ℕ)) (p n m : ℕ) → n ≡ m → qs ≡ Some (p + m) ∷ [] → qs ≡ Some (p + n) ∷ []
next_only qs p n m e d = d ∙ ap (λ k. Some (p + k) ∷ []) (sym e)

pub next_and : (qs : List (Option ℕ)) (p n m : ℕ) (o q : Option ℕ) → n ≡ m → q ≡ o → qs ≡ Some (p + m) ∷ o ∷ [] → qs ≡ Some (p + n) ∷ q ∷ []
next_and qs p n m o q e g d = d ∙ (λ i. Some (p + sym e i) ∷ sym g i ∷ [])

pub target_only : (qs : List (Option ℕ)) (o q : Option ℕ) → q ≡ o → qs ≡ o ∷ [] → qs ≡ q ∷ []
target_only qs o q g d = d ∙ ap (λ q. q ∷ []) (sym g)

pub ruleset spreading = (spread_end, spread_only, spread_fault, spread_both, next_only, next_and, target_only)

pub ruleset going = (put_nowhere, put_past, put_fault, put_fine, neat_set, bound_marked, bound_unmarked)
