-- Tables by their cells: what is left to take in them, and what becomes of them where shapes are met.
use Rattle.std.proofs.Common.{◌≡◌, ℕ, zero, suc, ◌+◌, ◌*◌, ◌<◌, ◌≤◌, Bool, true, false, ◌⊎◌, List, [], ◌∷◌, map, length, set, Some, None, Option, sym, refl, ap, ◌∙◌, inl, inr, arith, length-set, get_or-set_same}
use Rattle.plan.specs.Shapes.{Shape, Merged, same, changed, clash, merge, Sized}
use Rattle.plan.specs.Plans.{shape_at, Hits, Lands}
use Rattle.plan.specs.Sweep.{Cell, off, blank, marked, settled, Table, at, shape_of, plan_of, fresh, count_true, merged, join, put, spread, lowest}
use Rattle.plan.proofs.Outcomes.{On, on_bind, on_map}
use Rattle.plan.proofs.Reaching.{known_count, reach_refl, reach_trans, known_sized, reach_sized, Met, met}

-- ## Tables

-- what holds of each cell, also after a write
pub over_set : (Q : ℕ → Cell → Type 0) (T : Table) (q : ℕ) (c : Cell) → Q q c → ((r : ℕ) → Q r (at T r)) → (r : ℕ) → Q r (at (set T q c) r)
over_set Q [] q c h k r = k r
over_set Q (d ∷ T) zero c h k zero = h
over_set Q (d ∷ T) zero c h k (suc r) = k (suc r)
over_set Q (d ∷ T) (suc q) c h k zero = k zero
over_set Q (d ∷ T) (suc q) c h k (suc r) = over_set (λ i. Q (suc i)) T q c h (λ i. k (suc i)) r

pub not_off_within : (T : Table) (q : ℕ) → (at T q ≡ off → ⊥) → q < length T
not_off_within [] q h = absurd (h refl)
not_off_within (c ∷ T) zero h = omega arith
not_off_within (c ∷ T) (suc q) h = let ih = not_off_within T q h in omega arith

-- nothing is marked
abbrev pub Unmarked : Table → Type 0
Unmarked T = (q : ℕ) (s : Shape) → at T q ≡ marked s → ⊥

pub lowest_only : (T : Table) → ((s : Shape) → at T (lowest T) ≡ marked s → ⊥) → Unmarked T
unfolding lowest
lowest_only [] h q s e = h s e
lowest_only (off ∷ T) h zero s e = cc
lowest_only (blank ∷ T) h zero s e = cc
lowest_only (marked t ∷ T) h zero s e = h s e
lowest_only (settled t ∷ T) h zero s e = cc
lowest_only (off ∷ T) h (suc q) s e = lowest_only T h q s e
lowest_only (blank ∷ T) h (suc q) s e = lowest_only T h q s e
lowest_only (marked t ∷ T) h (suc q) s e = absurd (h t refl)
lowest_only (settled t ∷ T) h (suc q) s e = lowest_only T h q s e

-- ## What is left to take

-- the takes that a cell can still have: its known variables, and one if it is marked; V + 1 without a shape
abbrev pub weigh : ℕ → Cell → ℕ
weigh V off = 0
weigh V blank = suc V
weigh V (marked s) = suc (known_count s.variables)
weigh V (settled s) = known_count s.variables

abbrev pub total : ℕ → Table → ℕ
total V [] = 0
total V (c ∷ T) = weigh V c + total V T

pub total_set : (V : ℕ) (T : Table) (q : ℕ) (c : Cell) → q < length T → total V (set T q c) + weigh V (at T q) ≡ total V T + weigh V c
total_set V [] q c h = omega arith
total_set V (d ∷ T) zero c h = omega arith
total_set V (d ∷ T) (suc q) c h = let g : q < length T = omega arith in let ih = total_set V T q c g in omega arith

pub total_at : (V : ℕ) (T : Table) (q : ℕ) → weigh V (at T q) ≤ total V T
total_at V [] q = omega arith
total_at V (d ∷ T) zero = omega arith
total_at V (d ∷ T) (suc q) = let ih = total_at V T q in omega arith

pub total_fresh : (V : ℕ) (bs : List Bool) → total V (map fresh bs) ≡ count_true bs * (V + 1)
total_fresh V [] = omega arith
total_fresh V (true ∷ bs) = let ih = total_fresh V bs in omega arith
total_fresh V (false ∷ bs) = let ih = total_fresh V bs in omega arith

-- ## Sizes of the shapes in a table

abbrev pub SizedAt : ℕ → Cell → Type 0
SizedAt V off = Unit {0}
SizedAt V blank = Unit {0}
SizedAt V (marked s) = Sized V s
SizedAt V (settled s) = Sized V s

abbrev pub SizedAll : ℕ → Table → Type 0
SizedAll V T = (q : ℕ) → SizedAt V (at T q)

-- ## One cell met

-- what is kept where a cell becomes another
pub record Moved (V : ℕ) (c d : Cell) : Type 0 where
  pub hits : (x : Shape) → Hits x (shape_of c) → Hits x (shape_of d)
  pub outside : c ≡ off → d ≡ off
  pub sized : SizedAt V c → SizedAt V d

pub moved_refl : (V : ℕ) (c : Cell) → Moved V c c
moved_refl V c = record { hits = λ x h. h; outside = λ e. e; sized = λ h. h }

pub moved_trans : (V : ℕ) (a b c : Cell) → Moved V a b → Moved V b c → Moved V a c
moved_trans V a b c p q = record { hits = λ x h. q.hits x (p.hits x h); outside = λ e. q.outside (p.outside e); sized = λ h. q.sized (p.sized h) }

-- the cell c, met by x, becomes d
pub record Joined (V : ℕ) (c : Cell) (x : Shape) (d : Cell) : Type 0 where
  pub moved : Moved V c d
  pub stays : (s : Shape) → d ≡ settled s → c ≡ settled s
  pub lighter : weigh V d ≤ weigh V c
  pub hit : Hits x (shape_of d)
  pub inside : c ≡ off → ⊥

-- a cell with a shape stays, or has a narrower one
module _ (V : ℕ) (s x : Shape) (c : Cell) (is : shape_of c ≡ Some s) (cases : (c ≡ marked s) ⊎ (c ≡ settled s)) where
  kept_joined : Met s x same → Joined V c x c
  kept_joined i =
      record {
        moved = moved_refl V c;
        stays = λ t e. e;
        lighter = omega arith;
        hit = rw is i;
        inside = λ e. go cases e;
      }
    where
      go : (c ≡ marked s) ⊎ (c ≡ settled s) → c ≡ off → ⊥
      go (inl d) e = cc
      go (inr d) e = cc

  narrowed_joined : (u : Shape) → Met s x (changed u) → Joined V c x (marked u)
  narrowed_joined u i = go cases
    where
      go : (c ≡ marked s) ⊎ (c ≡ settled s) → Joined V c x (marked u)
      go (inl d) =
          record {
            moved = record { hits = λ y j. reach_trans y s u (rw is at j) i.0; outside = λ e. cc; sized = λ j. reach_sized V s u i.0 (rw d at j) };
            stays = λ t e. cc;
            lighter = omega (arith, ap (weigh V) d, i.2);
            hit = i.1;
            inside = λ e. cc;
          }
      go (inr d) =
          record {
            moved = record { hits = λ y j. reach_trans y s u (rw is at j) i.0; outside = λ e. cc; sized = λ j. reach_sized V s u i.0 (rw d at j) };
            stays = λ t e. cc;
            lighter = omega (arith, ap (weigh V) d, i.2);
            hit = i.1;
            inside = λ e. cc;
          }

  merged_joined : (f q : ℕ) (m : Merged) → Met s x m → On (Unit {0}) (Joined V c x) (merged f q c m)
  merged_joined f q same i = kept_joined i
  merged_joined f q (changed u) i = narrowed_joined u i
  merged_joined f q clash i = tt

joined : (V f p q : ℕ) (c : Cell) (x : Shape) → SizedAt V c → Sized V x → On (Unit {0}) (Joined V c x) (join f p q c x)
unfolding join
joined V f p q off x n h = tt
joined V f p q blank x n h =
    record {
      moved = record { hits = λ y i. absurd i; outside = λ e. cc; sized = λ i. h };
      stays = λ s e. cc;
      lighter = omega (arith, known_sized V x h);
      hit = reach_refl x;
      inside = λ e. cc;
    }
joined V f p q (marked s) x n h = merged_joined V s x (marked s) refl (inl refl) f q (merge s x) (met s x (n.long ∙ sym h.long))
joined V f p q (settled s) x n h = merged_joined V s x (settled s) refl (inr refl) f q (merge s x) (met s x (n.long ∙ sym h.long))

-- ## Tables met

-- the table T becomes U
pub record Step (V : ℕ) (T U : Table) : Type 0 where
  pub moves : (q : ℕ) → Moved V (at T q) (at U q)
  pub stays : (q : ℕ) (s : Shape) → at U q ≡ settled s → at T q ≡ settled s
  pub lighter : total V U ≤ total V T
  pub size : length U ≡ length T

pub put_steps : (V f p : ℕ) (T : Table) (q : Option ℕ) (x : Shape) → SizedAll V T → Sized V x
    → On (Unit {0}) (λ U. Step V T U × Hits x (shape_at (plan_of U) q)) (put f p T q x)
unfolding put
put_steps V f p T None x n h = tt
put_steps V f p T (Some q) x n h = on_bind _ (Joined V (at T q) x) _ (join f p q (at T q) x) _ (joined V f p q (at T q) x (n q) h)
    (λ c j. let g : q < length T = not_off_within T q j.inside in (
      record {
        moves = over_set (λ r d. Moved V (at T r) d) T q c j.moved (λ r. moved_refl V (at T r));
        stays = over_set (λ r d. (s : Shape) → d ≡ settled s → at T r ≡ settled s) T q c j.stays (λ r s e. e);
        lighter = omega (arith, total_set V T q c g, j.lighter);
        size = length-set T q c;
      },
      rw get_or-set_same j.hit,
    ))

hits_moved : (V : ℕ) (T U : Table) (q : Option ℕ) (x : Shape) → ((r : ℕ) → Moved V (at T r) (at U r)) → Hits x (shape_at (plan_of T) q) → Hits x (shape_at (plan_of U) q)
hits_moved V T U None x m h = h
hits_moved V T U (Some q) x m h = (m q).hits x h

pub lands_moved : (V : ℕ) (T U : Table) (x : Shape) (qs : List (Option ℕ)) → ((r : ℕ) → Moved V (at T r) (at U r)) → Lands x (plan_of T) qs → Lands x (plan_of U) qs
lands_moved V T U x [] m h = tt
lands_moved V T U x (q ∷ qs) m h = (hits_moved V T U q x m h.0, lands_moved V T U x qs m h.1)

pub spread_steps : (V f p : ℕ) (x : Shape) (qs : List (Option ℕ)) (T : Table) → SizedAll V T → Sized V x
    → On (Unit {0}) (λ U. Step V T U × Lands x (plan_of U) qs) (spread f p x qs T)
unfolding spread
spread_steps V f p x [] T n h = (record { moves = λ q. moved_refl V (at T q); stays = λ q s e. e; lighter = omega arith; size = refl }, tt)
spread_steps V f p x (q ∷ qs) T n h =
    on_bind _ (λ U. Step V T U × Hits x (shape_at (plan_of U) q)) _ (put f p T q x) (spread f p x qs) (put_steps V f p T q x n h)
    (λ U j. on_map _ (λ W. Step V U W × Lands x (plan_of W) qs) _ (spread f p x qs U)
    (λ W k. (
      record {
        moves = λ r. moved_trans V _ _ _ (j.0.moves r) (k.0.moves r);
        stays = λ r s e. j.0.stays r s (k.0.stays r s e);
        lighter = omega arith;
        size = k.0.size ∙ j.0.size;
      },
      (hits_moved V U W q x k.0.moves j.1, k.1),
    ))
    (spread_steps V f p x qs U (λ r. (j.0.moves r).sized (n r)) h))
