-- Slots that hold a list of values: read, written at the end, written inside, cut, and lengthened by unset ones.
use Rattle.std.proofs.Common.{◌≡◌, ℕ, zero, suc, ◌+◌, ◌-◌, ◌<◌, ◌≤◌, Bool, true, false, eqb, ltb, List, [], ◌∷◌, ◌++◌, length, get_or, set, replicate, Some, None, Option, sym, refl, ap, ◌∙◌, subst, subst₂, arith, length-append, get_or-set_other, get_or-set_same, ltb-false, ltb-true, eqb-true}
use borrow.Author.Tests.{eqb-false}
use Rattle.checked.specs.Machine.{Value, word, reference}
use Rattle.runtime.specs.Relation.{Stands, Holds, Lays}

-- ## Lists by their places

module _ {A : Type 0} where
  pub get_d_front : (xs ys : List A) (i : ℕ) (d : A) → i < length xs → get_or (xs ++ ys) i d ≡ get_or xs i d
  get_d_front [] ys i d lt = absurd (omega arith)
  get_d_front (x ∷ xs) ys zero d lt = refl
  get_d_front (x ∷ xs) ys (suc i) d lt = get_d_front xs ys i d (omega arith)

  pub get_or-behind : (xs ys : List A) (i : ℕ) (d : A) → get_or (xs ++ ys) (length xs + i) d ≡ get_or ys i d
  get_or-behind [] ys i d = ap (λ n. get_or ys n d) (let e : 0 + i ≡ i = omega arith in e)
  get_or-behind (x ∷ xs) ys i d =
      let e : suc (length xs) + i ≡ suc (length xs + i) = omega arith in
      ap (λ n. get_or (x ∷ (xs ++ ys)) n d) e ∙ get_or-behind xs ys i d

  pub get_or-last : (xs : List A) (x d : A) → get_or (xs ++ (x ∷ [])) (length xs) d ≡ x
  get_or-last xs x d = let e : length xs ≡ length xs + 0 = omega arith in ap (λ n. get_or (xs ++ (x ∷ [])) n d) e ∙ get_or-behind xs (x ∷ []) 0 d

  pub get_d_beyond : (xs : List A) (i : ℕ) (d : A) → length xs ≤ i → get_or xs i d ≡ d
  get_d_beyond [] i d le = refl
  get_d_beyond (x ∷ xs) zero d le = absurd (omega arith)
  get_d_beyond (x ∷ xs) (suc i) d le = get_d_beyond xs i d (omega arith)

  pub set_behind : (xs ys : List A) (i : ℕ) (a : A) → set (xs ++ ys) (length xs + i) a ≡ xs ++ set ys i a
  set_behind [] ys i a = ap (λ n. set ys n a) (let e : 0 + i ≡ i = omega arith in e)
  set_behind (x ∷ xs) ys i a =
      let e : suc (length xs) + i ≡ suc (length xs + i) = omega arith in
      ap (λ n. set (x ∷ (xs ++ ys)) n a) e ∙ ap (λ zs. x ∷ zs) (set_behind xs ys i a)

  pub set_front : (xs ys : List A) (i : ℕ) (a : A) → i < length xs → set (xs ++ ys) i a ≡ set xs i a ++ ys
  set_front [] ys i a lt = absurd (omega arith)
  set_front (x ∷ xs) ys zero a lt = refl
  set_front (x ∷ xs) ys (suc i) a lt = ap (λ zs. x ∷ zs) (set_front xs ys i a (omega arith))

  pub length_more : (xs : List A) (x : A) → length (xs ++ (x ∷ [])) ≡ suc (length xs)
  length_more xs x = let e = length-append xs (x ∷ []) in omega arith

-- by a case on whether an index lies before a length
pub by_side : (n i : ℕ) {R : Type 0} → (i < n → R) → (n ≤ i → R) → R
by_side n i {R} before behind = pick (ltb i n) refl
  where
    pick : (b : Bool) → ltb i n ≡ b → R
    pick true e = before (ltb-true i n e)
    pick false e = behind (ltb-false i n e)

-- ## Slots

module _ (count : ℕ) where
  -- the front of what is held
  pub lays_front : (xs ys : List (Option Value)) (mem : List ℕ) → Lays count (xs ++ ys) mem → Lays count xs mem
  lays_front xs ys mem h i =
      by_side (length xs) i
      (λ lt. subst (λ o. Holds count o (get_or mem i 0)) (get_d_front xs ys i None lt) (h i))
      (λ le. subst (λ o. Holds count o (get_or mem i 0)) (sym (get_d_beyond xs i None le)) tt)

  -- the last value that is held
  pub lays_last : (xs : List (Option Value)) (v : Value) (mem : List ℕ) → Lays count (xs ++ (Some v ∷ [])) mem → Stands count v (get_or mem (length xs) 0)
  lays_last xs v mem h = subst (λ o. Holds count o (get_or mem (length xs) 0)) (get_or-last xs (Some v) None) (h (length xs))

  -- one inside
  pub lays_at : (xs : List (Option Value)) (i : ℕ) (v : Value) (mem : List ℕ) → Lays count xs mem → get_or xs i None ≡ Some v → Stands count v (get_or mem i 0)
  lays_at xs i v mem h e = subst (λ o. Holds count o (get_or mem i 0)) e (h i)

  -- one value more
  pub lays_more : (xs : List (Option Value)) (v : Value) (mem : List ℕ) (n : ℕ) → length xs < length mem → Lays count xs mem → Stands count v n
      → Lays count (xs ++ (Some v ∷ [])) (set mem (length xs) n)
  lays_more xs v mem n lt h r i = go (eqb i (length xs)) refl
    where
      go : (b : Bool) → eqb i (length xs) ≡ b → Holds count (get_or (xs ++ (Some v ∷ [])) i None) (get_or (set mem (length xs) n) i 0)
      go true q =
          let e = eqb-true i (length xs) q in
          subst (λ j. Holds count (get_or (xs ++ (Some v ∷ [])) j None) (get_or (set mem (length xs) n) j 0)) (sym e)
          (subst₂ (Holds count) (sym (get_or-last xs (Some v) None)) (sym (get_or-set_same mem (length xs) n 0 lt)) r)
      go false q =
          let ne = eqb-false i (length xs) q in
          subst (λ m. Holds count (get_or (xs ++ (Some v ∷ [])) i None) m) (sym (get_or-set_other mem (length xs) i n 0 ne))
          (by_side (length xs) i
          (λ before. subst (λ o. Holds count o (get_or mem i 0)) (sym (get_d_front xs (Some v ∷ []) i None before)) (h i))
          (λ le. subst (λ o. Holds count o (get_or mem i 0))
          (sym (get_d_beyond (xs ++ (Some v ∷ [])) i None (let m = length_more xs (Some v) in
          let s : suc (length xs) ≤ i = after (length xs) i le ne in omega arith))) tt))
        where
          after : (a b : ℕ) → a ≤ b → (b ≡ a → ⊥) → suc a ≤ b
          after a b le ne = omega arith

  -- a value written inside
  pub lays_set : (xs : List (Option Value)) (j : ℕ) (v : Value) (mem : List ℕ) (n : ℕ) → j < length xs → j < length mem → Lays count xs mem → Stands count v n
      → Lays count (set xs j (Some v)) (set mem j n)
  lays_set xs j v mem n lx lm h r i = go (eqb i j) refl
    where
      go : (b : Bool) → eqb i j ≡ b → Holds count (get_or (set xs j (Some v)) i None) (get_or (set mem j n) i 0)
      go true q =
          let e = eqb-true i j q in
          subst (λ k. Holds count (get_or (set xs j (Some v)) k None) (get_or (set mem j n) k 0)) (sym e)
          (subst₂ (Holds count) (sym (get_or-set_same xs j (Some v) None lx)) (sym (get_or-set_same mem j n 0 lm)) r)
      go false q =
          let ne = eqb-false i j q in
          subst₂ (Holds count) (sym (get_or-set_other xs j i (Some v) None ne)) (sym (get_or-set_other mem j i n 0 ne)) (h i)

  none_past : (k i : ℕ) → get_or {A = Option Value} (replicate k None) i None ≡ None
  none_past zero i = refl
  none_past (suc k) zero = refl
  none_past (suc k) (suc i) = none_past k i

  -- unset variables behind need nothing
  pub lays_unset : (xs : List (Option Value)) (k : ℕ) (mem : List ℕ) → Lays count xs mem → Lays count (xs ++ replicate k None) mem
  lays_unset xs k mem h i =
      by_side (length xs) i
      (λ lt. subst (λ o. Holds count o (get_or mem i 0)) (sym (get_d_front xs (replicate k None) i None lt)) (h i))
      (λ le.
      let e : length xs + (i - length xs) ≡ i = omega arith in
      subst (λ o. Holds count o (get_or mem i 0))
      (sym (ap (λ j. get_or (xs ++ replicate k None) j None) (sym e) ∙ get_or-behind xs (replicate k None) (i - length xs) None ∙ none_past k (i - length xs))) tt)

-- what stands for a value goes on standing for it as blocks are added
pub stands_more : (a b : ℕ) → a ≤ b → (v : Value) (n : ℕ) → Stands a v n → Stands b v n
stands_more a b le (word w) n h = h
stands_more a b le (reference r) n h = (h.0, λ big. let k = h.1 big in omega arith)

holds_more : (a b : ℕ) → a ≤ b → (o : Option Value) (n : ℕ) → Holds a o n → Holds b o n
holds_more a b le None n h = tt
holds_more a b le (Some v) n h = stands_more a b le v n h

pub lays_later : (a b : ℕ) → a ≤ b → (xs : List (Option Value)) (mem : List ℕ) → Lays a xs mem → Lays b xs mem
lays_later a b le xs mem h i = holds_more a b le (get_or xs i None) (get_or mem i 0) (h i)
