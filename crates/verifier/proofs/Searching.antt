-- The search for the lowest mark, from a place below which nothing is marked.
use Rattle.std.proofs.Common.{◌≡◌, ℕ, zero, suc, ◌+◌, ◌-◌, ◌<◌, ◌≤◌, Bool, true, false, not, cond, ltb, ltb-true, Some, None, length-drop, take, List, [], ◌∷◌, map, length, drop, set, sym, refl, ap, ◌∙◌, arith}
use Rattle.std.proofs.lemmas.Bool.{ltb-false}
use Rattle.std.proofs.lemmas.List.{length-map, take_all, drop-map}
use Rattle.std.specs.List.{position, position_or_len}
use Rattle.plan.specs.Shapes.{Shape}
use Rattle.plan.specs.Sweep.{Cell, off, blank, marked, settled, Table, lowest}
use Rattle.shapes.specs.declared.table.ShapeMark.{ShapeMark}
use Rattle.shapes.specs.declared.table.ShapeMark.TheVariants.{Blank, Start, Due, Shaped}
use Rattle.shapes.specs.declared.table.ShapeRecord.{ShapeRecord}
use Rattle.shapes.specs.Records.{cell_of, cell_as, shape_in}
use Rattle.verifier.specs.Swept.{is_due_mark, is_due}

-- ## One place after another

first_mark : (m : ShapeMark) (s : Shape) (T : Table) (n : ℕ) → lowest T ≡ n → lowest (cell_as m s ∷ T) ≡ cond (not (is_due_mark m)) (1 + n) 0
unfolding lowest
first_mark Blank s T n e = omega (arith, e)
first_mark Start s T n e = omega (arith, e)
first_mark Due s T n e = refl
first_mark Shaped s T n e = omega (arith, e)

lowest_is : (rs : List ShapeRecord) → lowest (map cell_of rs) ≡ position_or_len is_due rs
unfolding lowest
lowest_is [] = refl
lowest_is (r ∷ rs) = first_mark r.mark (shape_in r) (map cell_of rs) (position_or_len is_due rs) (lowest_is rs)

found : (n m k : ℕ) → Some k ≡ cond (ltb n m) (Some n) None → (k ≡ n) × (k < m)
found n m k e = go (ltb n m) refl e
  where
    go : (b : Bool) → ltb n m ≡ b → Some k ≡ cond b (Some n) None → (k ≡ n) × (k < m)
    go true l e = let z : k ≡ n = cc in (z, omega (arith, ltb-true n m l, z))
    go false l e = absurd (cc)

missing : (b : Bool) (n : ℕ) → None ≡ cond b (Some n) None → b ≡ false
missing true n e = absurd (cc)
missing false n e = refl

at_most_all : (T : Table) → lowest T ≤ length T
unfolding lowest
at_most_all [] = omega arith
at_most_all (off ∷ T) = let h = at_most_all T in omega arith
at_most_all (blank ∷ T) = let h = at_most_all T in omega arith
at_most_all (marked s ∷ T) = omega arith
at_most_all (settled s ∷ T) = let h = at_most_all T in omega arith

pub lowest_within : (rs : List ShapeRecord) → lowest (map cell_of rs) ≤ length rs
lowest_within rs = omega (arith, at_most_all (map cell_of rs), length-map rs cell_of)

-- nothing is marked below n
lowest_rest : (T : Table) (n : ℕ) → n ≤ lowest T → n + lowest (drop n T) ≡ lowest T
unfolding lowest
lowest_rest [] zero h = omega arith
lowest_rest [] (suc n) h = absurd (omega arith)
lowest_rest (c ∷ T) zero h = omega arith
lowest_rest (off ∷ T) (suc n) h = let ih = lowest_rest T n (omega arith) in omega arith
lowest_rest (blank ∷ T) (suc n) h = let ih = lowest_rest T n (omega arith) in omega arith
lowest_rest (marked s ∷ T) (suc n) h = absurd (omega arith)
lowest_rest (settled s ∷ T) (suc n) h = let ih = lowest_rest T n (omega arith) in omega arith

pub lowest_from : (rs : List ShapeRecord) (n : ℕ) → n ≤ lowest (map cell_of rs) → n + lowest (map cell_of (drop n rs)) ≡ lowest (map cell_of rs)
lowest_from rs n h = ap (λ T. n + lowest T) (sym (drop-map cell_of n rs)) ∙ lowest_rest (map cell_of rs) n h

-- the part from n on is searched
module _ (rs : List ShapeRecord) (n : ℕ) (h : n ≤ lowest (map cell_of rs)) where
  rest_all : take (length rs - n) (drop n rs) ≡ drop n rs
  rest_all = take_all (length rs - n) (drop n rs) (omega (arith, length-drop n rs))

  pub lowest_found : (k : ℕ) → Some k ≡ position is_due (take (length rs - n) (drop n rs)) → (n + k ≡ lowest (map cell_of rs)) × (n + k < length rs)
  lowest_found k e =
      let d : (k ≡ position_or_len is_due (drop n rs)) × (k < length (drop n rs)) = found _ _ k (e ∙ ap (position is_due) rest_all) in
      (omega (arith, d.0, lowest_is (drop n rs), lowest_from rs n h), omega (arith, d.1, length-drop n rs))

  pub lowest_missing : None ≡ position is_due (take (length rs - n) (drop n rs)) → length rs ≤ lowest (map cell_of rs)
  lowest_missing e =
      let d = missing _ _ (e ∙ ap (position is_due) rest_all) in
      omega (arith, ltb-false _ _ d, lowest_is (drop n rs), lowest_from rs n h, length-drop n rs)

-- ## After a write

first_at_most : (c : Cell) (T : Table) → lowest (c ∷ T) ≤ suc (lowest T)
unfolding lowest
first_at_most off T = omega arith
first_at_most blank T = omega arith
first_at_most (marked s) T = omega arith
first_at_most (settled s) T = omega arith

first_unmarked : (c : Cell) (T : Table) → ((s : Shape) → c ≡ marked s → ⊥) → lowest (c ∷ T) ≡ suc (lowest T)
unfolding lowest
first_unmarked off T n = refl
first_unmarked blank T n = refl
first_unmarked (marked s) T n = absurd (n s refl)
first_unmarked (settled s) T n = refl

-- the rest of a table changed: its lowest mark is no lower
first_rest : (c : Cell) (T U : Table) (n : ℕ) → suc n ≤ lowest (c ∷ T) → (n ≤ lowest T → n ≤ lowest U) → suc n ≤ lowest (c ∷ U)
unfolding lowest
first_rest off T U n h k = let j = k (omega arith) in omega arith
first_rest blank T U n h k = let j = k (omega arith) in omega arith
first_rest (marked s) T U n h k = absurd (omega arith)
first_rest (settled s) T U n h k = let j = k (omega arith) in omega arith

pub low_set : (T : Table) (n q : ℕ) (c : Cell) → n ≤ lowest T → n ≤ q → n ≤ lowest (set T q c)
low_set [] n q c h l = h
low_set (d ∷ T) zero q c h l = omega arith
low_set (d ∷ T) (suc n) zero c h l = absurd (omega arith)
low_set (d ∷ T) (suc n) (suc q) c h l = first_rest d T (set T q c) n h (λ j. low_set T n q c j (omega arith))

pub low_unmarked : (T : Table) (n q : ℕ) (c : Cell) → n ≤ lowest T → ((s : Shape) → c ≡ marked s → ⊥) → n ≤ lowest (set T q c)
low_unmarked [] n q c h u = h
low_unmarked (d ∷ T) zero q c h u = omega arith
low_unmarked (d ∷ T) (suc n) zero c h u = omega (arith, first_at_most d T, first_unmarked c T u)
low_unmarked (d ∷ T) (suc n) (suc q) c h u = first_rest d T (set T q c) n h (λ j. low_unmarked T n q c j u)

-- the lowest mark taken away
taken_first : (c : Cell) (T : Table) (q : ℕ) (s : Shape) → suc q ≡ lowest (c ∷ T) → (q ≡ lowest T → q + 1 ≤ lowest (set T q (settled s)))
    → suc q + 1 ≤ lowest (c ∷ set T q (settled s))
unfolding lowest
taken_first off T q s e k = let j = k (omega arith) in omega arith
taken_first blank T q s e k = let j = k (omega arith) in omega arith
taken_first (marked t) T q s e k = absurd (omega arith)
taken_first (settled t) T q s e k = let j = k (omega arith) in omega arith

pub low_taken : (T : Table) (p : ℕ) (s : Shape) → p ≡ lowest T → p < length T → p + 1 ≤ lowest (set T p (settled s))
low_taken [] p s e h = absurd (omega arith)
low_taken (c ∷ T) zero s e h = omega (arith, first_unmarked (settled s) T (λ t d. absurd (let z : ◌≡◌ {A = ℕ} 0 1 = cc in omega arith)))
low_taken (c ∷ T) (suc p) s e h = taken_first c T p s e (λ d. low_taken T p s d (omega arith))

pub ruleset searching = (lowest_within, lowest_found, lowest_missing)
