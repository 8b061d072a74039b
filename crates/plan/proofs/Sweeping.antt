-- The sweep of a function ends within its takes; its table is the fullest plan, or there is no good plan.
use Rattle.std.proofs.Common.{◌≡◌, ℕ, zero, suc, ◌+◌, ◌<◌, ◌≤◌, Bool, true, false, ◌⊎◌, List, [], ◌∷◌, map, length, get_or, set, Some, None, Option, sym, refl, ap, ◌∙◌, inl, inr, true≢false, arith, length-set}
use lib.ListN.{length-map}
use Rattle.bytecode.specs.Outcome.{Out, bad, good, bind}
use Rattle.bytecode.specs.Program.{Program}
use Rattle.plan.specs.Programs.{function_at, variables_at, KnownSignatures}
use Rattle.plan.specs.Shapes.{Shape, Reach, Merged, same, changed, clash, merge, Sized}
use Rattle.plan.specs.Plans.{Plan, starts_at, shape_at, Hits, Lands, entry_of, Good, Fullest}
use Rattle.plan.specs.Sweep.{Cell, off, blank, marked, settled, Table, at, shape_of, plan_of, fresh, merged, join, put, spread, lowest, apply, visit, Answer, turn, run, most, sweep_within, sweep_marks}
use Rattle.plan.proofs.Outcomes.{On, on_bind, on_map}
use Rattle.plan.proofs.Reaching.{reach_both, Met, met}
use Rattle.plan.proofs.Applying.{LandsIn, passes_on, on_passes, apply_mono, apply_keeps}
use Rattle.plan.proofs.Weighing.{over_set, not_off_within, Unmarked, lowest_only, weigh, total, total_set, total_at, total_fresh, SizedAt, SizedAll, Moved, moved_refl, moved_trans, Step, put_steps, lands_moved, spread_steps}

-- ## Takes

module _ (P : Program) (known : KnownSignatures P) (f : ℕ) (marks : List Bool) where
  -- what holds of the table from the first take on
  record Inv (T : Table) : Type 0 where
    sized : SizedAll (variables_at P f) T
    sound : (p : ℕ) (s : Shape) → at T p ≡ settled s → On ⊥ (LandsIn (plan_of T)) (apply P f p s)
    begins : Hits (entry_of (function_at P f)) (plan_of T 0)
    onto : (p : ℕ) → get_or marks p false ≡ false → at T p ≡ off
    size : length T ≡ length marks

  -- what holds of the answer of a run from T after t takes
  record Ended (t : ℕ) (T : Table) (r : Table × ℕ) : Type 0 where
    inv : Inv r.0
    unmarked : Unmarked r.0
    takes : r.1 ≤ t + total (variables_at P f) T

  pub visit_lighter : (T : Table) (p : ℕ) (s : Shape) → at T p ≡ marked s → SizedAll (variables_at P f) T
      → On (Unit {0}) (λ U. SizedAll (variables_at P f) U × (total (variables_at P f) U < total (variables_at P f) T)) (visit P f T p s)
  unfolding visit
  visit_lighter T p s e z =
      on_bind _ (λ r. Sized (variables_at P f) r.0) _ (apply P f p s) _ (apply_keeps P f known p s (rw e at (z p)))
      (λ r h. on_map _ (λ U. Step (variables_at P f) (set T p (settled s)) U × Lands r.0 (plan_of U) r.1) _ (spread f p r.0 r.1 (set T p (settled s)))
      (λ U j. (λ q. (j.0.moves q).sized (sized q), omega (arith, total_set (variables_at P f) T p (settled s) lt, j.0.lighter, ap (weigh (variables_at P f)) e)))
      (spread_steps (variables_at P f) f p r.0 r.1 (set T p (settled s)) sized h))
    where
      lt : p < length T
      lt = not_off_within T p (λ d. cc)

      sized : SizedAll (variables_at P f) (set T p (settled s))
      sized = over_set (λ r d. SizedAt (variables_at P f) d) T p (settled s) (rw e at (z p)) z

  visit_inv : (T : Table) (p : ℕ) (s : Shape) → at T p ≡ marked s → Inv T
      → On (Unit {0}) (λ U. Inv U × (total (variables_at P f) U < total (variables_at P f) T)) (visit P f T p s)
  unfolding visit
  visit_inv T p s e v = go (apply P f p s) refl (apply_keeps P f known p s (rw e at (v.sized p)))
    where
      V : ℕ
      V = variables_at P f

      T₁ : Table
      T₁ = set T p (settled s)

      lt : p < length T
      lt = not_off_within T p (λ d. cc)

      same_plan : (q : ℕ) → Moved V (at T q) (at T₁ q)
      same_plan =
          over_set (λ r d. Moved V (at T r) d) T p (settled s) (rw e (record { hits = λ x h. h; outside = λ d. cc; sized = λ h. h })) (λ r. moved_refl V (at T r))

      go : (r : Out (Shape × List (Option ℕ))) → apply P f p s ≡ r → On (Unit {0}) (λ r. Sized V r.0) r
          → On (Unit {0}) (λ U. Inv U × (total V U < total V T)) (bind r (λ r. spread f p r.0 r.1 T₁))
      go (bad x) d h = tt
      go (good r) d h = on_map _ (λ U. Step V T₁ U × Lands r.0 (plan_of U) r.1) _ (spread f p r.0 r.1 T₁)
          (λ U j.
          let m : (q : ℕ) → Moved V (at T q) (at U q) = λ q. moved_trans V _ _ _ (same_plan q) (j.0.moves q) in (
            record {
              sized = λ q. (m q).sized (v.sized q);
              sound = λ n u i.
                  over_set (λ n d. (u : Shape) → d ≡ settled u → On ⊥ (LandsIn (plan_of U)) (apply P f n u)) T p (settled s)
                  (λ u k. let g : s ≡ u = cc in rw (← g, d) j.1)
                  (λ n u k. on_map _ (LandsIn (plan_of T)) _ (apply P f n u) (λ q h. lands_moved V T U q.0 q.1 m h) (v.sound n u k))
                  n u (j.0.stays n u i);
              begins = (m 0).hits (entry_of (function_at P f)) v.begins;
              onto = λ q k. (m q).outside (v.onto q k);
              size = j.0.size ∙ length-set T p (settled s) ∙ v.size;
            },
            omega (arith, total_set V T p (settled s) lt, j.0.lighter, ap (weigh V) e),
          ))
          (spread_steps V f p r.0 r.1 T₁ (λ q. (same_plan q).sized (v.sized q)) h)

  run_ends : (k t : ℕ) (T : Table) → Inv T → total (variables_at P f) T ≤ k → On (Unit {0}) (Ended t T) (run P f k t T)
  unfolding run turn
  run_ends zero t T v h =
      record { inv = v; unmarked = λ q s e. omega (arith, total_at (variables_at P f) T q, ap (weigh (variables_at P f)) e); takes = omega arith }
  run_ends (suc k) t T v h = go (at T (lowest T)) refl (run_ends k (suc t))
    where
      V : ℕ
      V = variables_at P f

      ends : ((s : Shape) → at T (lowest T) ≡ marked s → ⊥) → Ended t T (T, t)
      ends n = record { inv = v; unmarked = lowest_only T n; takes = omega arith }

      go : (c : Cell) → at T (lowest T) ≡ c → ((U : Table) → Inv U → total V U ≤ k → On (Unit {0}) (Ended (suc t) U) (run P f k (suc t) U))
          → On (Unit {0}) (Ended t T) (turn P f t T (run P f k (suc t)) c)
      go off e ih = ends (λ s d. cc)
      go blank e ih = ends (λ s d. cc)
      go (settled s) e ih = ends (λ t d. cc)
      go (marked s) e ih =
          on_bind _ (λ U. Inv U × (total V U < total V T)) _ (visit P f T (lowest T) s) (run P f k (suc t)) (visit_inv T (lowest T) s e v)
          (λ U j. on_map _ (Ended (suc t) U) _ (run P f k (suc t) U)
          (λ r w. record { inv = w.inv; unmarked = w.unmarked; takes = omega (arith, w.takes, j.1) })
          (ih U j.0 (omega (arith, j.1, h))))

  -- the fuel does not matter, as long as it suffices
  pub run_fuel : (j k t : ℕ) (T : Table) → SizedAll (variables_at P f) T → total (variables_at P f) T ≤ j → total (variables_at P f) T ≤ k
      → run P f j t T ≡ run P f k t T
  unfolding run turn
  run_fuel zero zero t T z h i = refl
  run_fuel zero (suc k) t T z h i = go (at T (lowest T)) refl
    where
      go : (c : Cell) → at T (lowest T) ≡ c → good (T, t) ≡ turn P f t T (run P f k (suc t)) c
      go off e = refl
      go blank e = refl
      go (settled s) e = refl
      go (marked s) e = absurd (omega (arith, total_at (variables_at P f) T (lowest T), ap (weigh (variables_at P f)) e))
  run_fuel (suc j) zero t T z h i = go (at T (lowest T)) refl
    where
      go : (c : Cell) → at T (lowest T) ≡ c → turn P f t T (run P f j (suc t)) c ≡ good (T, t)
      go off e = refl
      go blank e = refl
      go (settled s) e = refl
      go (marked s) e = absurd (omega (arith, total_at (variables_at P f) T (lowest T), ap (weigh (variables_at P f)) e))
  run_fuel (suc j) (suc k) t T z h i = go (at T (lowest T)) refl (run_fuel j k (suc t))
    where
      V : ℕ
      V = variables_at P f

      go : (c : Cell) → at T (lowest T) ≡ c → ((U : Table) → SizedAll V U → total V U ≤ j → total V U ≤ k → run P f j (suc t) U ≡ run P f k (suc t) U)
          → turn P f t T (run P f j (suc t)) c ≡ turn P f t T (run P f k (suc t)) c
      go off e ih = refl
      go blank e ih = refl
      go (settled s) e ih = refl
      go (marked s) e ih = bound (visit P f T (lowest T) s) (visit_lighter T (lowest T) s e z)
        where
          bound : (r : Out Table) → On (Unit {0}) (λ U. SizedAll V U × (total V U < total V T)) r → bind r (run P f j (suc t)) ≡ bind r (run P f k (suc t))
          bound (bad x) l = refl
          bound (good U) l = ih U l.0 (omega (arith, l.1)) (omega (arith, l.1))

-- ## Every good plan lies above the table

abbrev Below : Cell → Option Shape → Type 0
Below off d = d ≡ None
Below blank d = Unit {0}
Below (marked s) d = Hits s d
Below (settled s) d = Hits s d

hits_least : (s x u : Shape) (d : Option Shape) → ((t : Shape) → Reach s t → Reach x t → Reach u t) → Hits s d → Hits x d → Hits u d
hits_least s x u None k h i = h
hits_least s x u (Some t) k h i = k t h i

hits_size : (s x : Shape) (d : Option Shape) → Hits s d → Hits x d → length s.variables ≡ length x.variables
hits_size s x None h i = absurd h
hits_size s x (Some t) h i = h.size ∙ sym i.size

hits_never : (s x : Shape) (d : Option Shape) → ((t : Shape) → Reach s t → Reach x t → ⊥) → Hits s d → Hits x d → ⊥
hits_never s x None k h i = h
hits_never s x (Some t) k h i = k t h i

merged_below : (f q : ℕ) (c : Cell) (s x : Shape) (d : Option Shape) → Below c d → Hits s d → Hits x d → (m : Merged) → Met s x m → On ⊥ (λ c'. Below c' d) (merged f q c m)
merged_below f q c s x d b h k same i = b
merged_below f q c s x d b h k (changed u) i = hits_least s x u d i.3 h k
merged_below f q c s x d b h k clash i = hits_never s x d i h k

join_below : (f p q : ℕ) (c : Cell) (x : Shape) (d : Option Shape) → Below c d → Hits x d → On ⊥ (λ c'. Below c' d) (join f p q c x)
unfolding join
join_below f p q off x d h k = rw h at k
join_below f p q blank x d h k = k
join_below f p q (marked s) x d h k = merged_below f q (marked s) s x d h h k (merge s x) (met s x (hits_size s x d h k))
join_below f p q (settled s) x d h k = merged_below f q (settled s) s x d h h k (merge s x) (met s x (hits_size s x d h k))

abbrev AllBelow : Table → Plan → Type 0
AllBelow T Q = (q : ℕ) → Below (at T q) (Q q)

put_below : (f p : ℕ) (T : Table) (q : Option ℕ) (x : Shape) (Q : Plan) → AllBelow T Q → Hits x (shape_at Q q) → On ⊥ (λ U. AllBelow U Q) (put f p T q x)
unfolding put
put_below f p T None x Q b h = h
put_below f p T (Some q) x Q b h =
    on_bind _ (λ c. Below c (Q q)) _ (join f p q (at T q) x) _ (join_below f p q (at T q) x (Q q) (b q) h) (λ c g. over_set (λ r d. Below d (Q r)) T q c g b)

spread_below : (f p : ℕ) (x : Shape) (qs : List (Option ℕ)) (T : Table) (Q : Plan) → AllBelow T Q → Lands x Q qs → On ⊥ (λ U. AllBelow U Q) (spread f p x qs T)
unfolding spread
spread_below f p x [] T Q b h = b
spread_below f p x (q ∷ qs) T Q b h =
    on_bind _ (λ U. AllBelow U Q) _ (put f p T q x) (spread f p x qs) (put_below f p T q x Q b h.0) (λ U c. spread_below f p x qs U Q c h.1)

fresh_below : (bs : List Bool) (Q : Plan) → ((p : ℕ) → get_or bs p false ≡ false → Q p ≡ None) → AllBelow (map fresh bs) Q
fresh_below [] Q h q = h q refl
fresh_below (true ∷ bs) Q h zero = tt
fresh_below (false ∷ bs) Q h zero = h zero refl
fresh_below (true ∷ bs) Q h (suc q) = fresh_below bs (λ i. Q (suc i)) (λ i. h (suc i)) q
fresh_below (false ∷ bs) Q h (suc q) = fresh_below bs (λ i. Q (suc i)) (λ i. h (suc i)) q

module _ (P : Program) (f : ℕ) (Q : Plan) (ok : Good P f Q) where
  visit_below : (T : Table) (p : ℕ) (s : Shape) → at T p ≡ marked s → AllBelow T Q → On ⊥ (λ U. AllBelow U Q) (visit P f T p s)
  unfolding visit
  visit_below T p s e b =
      on_bind _ (LandsIn Q) _ (apply P f p s) _ (passing (Q p) refl hit)
      (λ r h. spread_below f p r.0 r.1 _ Q (over_set (λ r d. Below d (Q r)) T p (settled s) hit b) h)
    where
      hit : Hits s (Q p)
      hit = rw e at (b p)

      passing : (d : Option Shape) → Q p ≡ d → Hits s d → On ⊥ (LandsIn Q) (apply P f p s)
      passing None e h = absurd h
      passing (Some t) e h = apply_mono P f p s t h Q (passes_on P f Q p t (ok.passes p t e))

  run_below : (k t : ℕ) (T : Table) → AllBelow T Q → On ⊥ (λ r. AllBelow r.0 Q) (run P f k t T)
  unfolding run turn
  run_below zero t T b = b
  run_below (suc k) t T b = go (at T (lowest T)) refl (run_below k (suc t))
    where
      go : (c : Cell) → at T (lowest T) ≡ c → ((U : Table) → AllBelow U Q → On ⊥ (λ r. AllBelow r.0 Q) (run P f k (suc t) U))
          → On ⊥ (λ r. AllBelow r.0 Q) (turn P f t T (run P f k (suc t)) c)
      go off e ih = b
      go blank e ih = b
      go (settled s) e ih = b
      go (marked s) e ih = on_bind _ (λ U. AllBelow U Q) _ (visit P f T (lowest T) s) _ (visit_below T (lowest T) s e b) ih

  -- off the starts a good plan has no shape
  off_starts : (marks : List Bool) → starts_at P f ≡ marks → (p : ℕ) → get_or marks p false ≡ false → Q p ≡ None
  off_starts marks there p h = go (Q p) refl
    where
      go : (d : Option Shape) → Q p ≡ d → d ≡ None
      go None e = refl
      go (Some s) e =
          let a : get_or (starts_at P f) p false ≡ true = ok.starts p s e in
          absurd (true≢false (sym a ∙ ap (λ m. get_or m p false) there ∙ h))

  sweep_below : (marks : List Bool) → starts_at P f ≡ marks → On ⊥ (λ r. AllBelow r.0 Q) (sweep_marks P f marks)
  unfolding sweep_within
  sweep_below marks there =
      on_bind _ (λ U. AllBelow U Q) _ (put f 0 (map fresh marks) (Some 0) (entry_of (function_at P f))) _
      (put_below f 0 _ (Some 0) (entry_of (function_at P f)) Q (fresh_below marks Q (off_starts marks there)) ok.begins) (run_below _ 0)

-- ## The sweep

fresh_off : (bs : List Bool) (p : ℕ) → get_or bs p false ≡ false → at (map fresh bs) p ≡ off
fresh_off [] p h = refl
fresh_off (true ∷ bs) zero h = cc
fresh_off (false ∷ bs) zero h = refl
fresh_off (true ∷ bs) (suc p) h = fresh_off bs p h
fresh_off (false ∷ bs) (suc p) h = fresh_off bs p h

fresh_cell : (bs : List Bool) (p : ℕ) → (at (map fresh bs) p ≡ off) ⊎ (at (map fresh bs) p ≡ blank)
fresh_cell [] p = inl refl
fresh_cell (true ∷ bs) zero = inr refl
fresh_cell (false ∷ bs) zero = inl refl
fresh_cell (true ∷ bs) (suc p) = fresh_cell bs p
fresh_cell (false ∷ bs) (suc p) = fresh_cell bs p

below_full : (T : Table) (Q : Plan) → AllBelow T Q → (p : ℕ) (s : Shape) → plan_of T p ≡ Some s → Hits s (Q p)
below_full T Q b p s e = go (at T p) e (b p)
  where
    go : (c : Cell) → shape_of c ≡ Some s → Below c (Q p) → Hits s (Q p)
    go off e h = cc
    go blank e h = cc
    go (marked t) e h = let d : t ≡ s = cc in rw d at h
    go (settled t) e h = let d : t ≡ s = cc in rw d at h

-- what the sweep of a function leaves: no mark, and a cell for each byte of the code
pub record Finished (marks : List Bool) (T : Table) : Type 0 where
  pub unmarked : Unmarked T
  pub size : length T ≡ length marks

module _ (P : Program) (known : KnownSignatures P) (f : ℕ) (marks : List Bool) (there : starts_at P f ≡ marks) where
  inv_good : (T : Table) → Inv P known f marks T → Unmarked T → Good P f (plan_of T)
  inv_good T v n =
      record {
        begins = v.begins;
        starts = λ p s e. starting p s e (get_or marks p false) refl;
        sized = λ p s. size p s (at T p) refl;
        passes = λ p s e. on_passes P f (plan_of T) p s (go p s (at T p) refl e);
      }
    where
      starting : (p : ℕ) (s : Shape) → shape_of (at T p) ≡ Some s → (b : Bool) → get_or marks p false ≡ b → get_or (starts_at P f) p false ≡ true
      starting p s e true h = ap (λ m. get_or m p false) there ∙ h
      starting p s e false h = let d = v.onto p h in let g : shape_of (at T p) ≡ None = ap shape_of d in cc

      size : (p : ℕ) (s : Shape) (c : Cell) → at T p ≡ c → shape_of c ≡ Some s → Sized (variables_at P f) s
      size p s off e h = cc
      size p s blank e h = cc
      size p s (marked t) e h = let d : t ≡ s = cc in rw d at (rw e at (v.sized p))
      size p s (settled t) e h = let d : t ≡ s = cc in rw d at (rw e at (v.sized p))

      go : (p : ℕ) (s : Shape) (c : Cell) → at T p ≡ c → shape_of c ≡ Some s → On ⊥ (LandsIn (plan_of T)) (apply P f p s)
      go p s off e h = cc
      go p s blank e h = cc
      go p s (marked t) e h = absurd (n p t e)
      go p s (settled t) e h = v.sound p s (let d : t ≡ s = cc in cc)

  module _ (entry : Sized (variables_at P f) (entry_of (function_at P f))) where
    first_inv : On (Unit {0}) (λ U. Inv P known f marks U × (total (variables_at P f) U ≤ most P f marks))
        (put f 0 (map fresh marks) (Some 0) (entry_of (function_at P f)))
    first_inv = on_map _ (λ U. Step (variables_at P f) (map fresh marks) U × Hits (entry_of (function_at P f)) (plan_of U 0)) _
        (put f 0 (map fresh marks) (Some 0) (entry_of (function_at P f)))
        (λ U j. (
          record {
            sized = λ q. (j.0.moves q).sized (sized q (fresh_cell marks q));
            sound = λ p s e. absurd (unsettled p s (fresh_cell marks p) (j.0.stays p s e));
            begins = j.1;
            onto = λ p h. (j.0.moves p).outside (fresh_off marks p h);
            size = j.0.size ∙ length-map marks fresh;
          },
          omega (arith, total_fresh (variables_at P f) marks, j.0.lighter),
        ))
        (put_steps (variables_at P f) f 0 (map fresh marks) (Some 0) (entry_of (function_at P f)) (λ q. sized q (fresh_cell marks q)) entry)
      where
        sized : (q : ℕ) → (at (map fresh marks) q ≡ off) ⊎ (at (map fresh marks) q ≡ blank) → SizedAt (variables_at P f) (at (map fresh marks) q)
        sized q (inl e) = rw e tt
        sized q (inr e) = rw e tt

        unsettled : (p : ℕ) (s : Shape) → (at (map fresh marks) p ≡ off) ⊎ (at (map fresh marks) p ≡ blank) → at (map fresh marks) p ≡ settled s → ⊥
        unsettled p s (inl e) d = cc
        unsettled p s (inr e) d = cc

    sweep_ends : On (Unit {0}) (λ r. Inv P known f marks r.0 × Unmarked r.0 × (r.1 ≤ most P f marks)) (sweep_marks P f marks)
    unfolding sweep_within
    sweep_ends =
        on_bind _ (λ U. Inv P known f marks U × (total (variables_at P f) U ≤ most P f marks)) _ (put f 0 (map fresh marks) (Some 0) (entry_of (function_at P f))) _ first_inv
        (λ U j. on_map _ (Ended P known f marks 0 U) _ (run P f (most P f marks) 0 U)
        (λ r w. (w.inv, w.unmarked, omega (arith, w.takes, j.1)))
        (run_ends P known f marks (most P f marks) 0 U j.0 j.1))

    pub sweep_fuel : (k : ℕ) → most P f marks ≤ k → sweep_within P f k marks ≡ sweep_marks P f marks
    unfolding sweep_within
    sweep_fuel k l = go (put f 0 (map fresh marks) (Some 0) (entry_of (function_at P f))) first_inv
      where
        go : (r : Out Table) → On (Unit {0}) (λ U. Inv P known f marks U × (total (variables_at P f) U ≤ most P f marks)) r
            → bind r (run P f k 0) ≡ bind r (run P f (most P f marks) 0)
        go (bad x) h = refl
        go (good U) h = run_fuel P known f marks k (most P f marks) 0 U h.0.sized (omega (arith, h.1, l)) h.1

    pub sweep_fullest : On ((Q : Plan) → Good P f Q → ⊥)
        (λ r. Fullest P f (plan_of r.0) × Finished marks r.0 × (r.1 ≤ most P f marks)) (sweep_marks P f marks)
    sweep_fullest = go (sweep_marks P f marks) sweep_ends (λ Q g. sweep_below P f Q g marks there)
      where
        go : (r : Answer) → On (Unit {0}) (λ r. Inv P known f marks r.0 × Unmarked r.0 × (r.1 ≤ most P f marks)) r
            → ((Q : Plan) → Good P f Q → On ⊥ (λ r. AllBelow r.0 Q) r)
            → On ((Q : Plan) → Good P f Q → ⊥) (λ r. Fullest P f (plan_of r.0) × Finished marks r.0 × (r.1 ≤ most P f marks)) r
        go (bad x) h k = k
        go (good r) h k = (
          record { sound = inv_good r.0 h.0 h.1; full = λ Q g. below_full r.0 Q (k Q g) },
          record { unmarked = h.1; size = h.0.size },
          h.2,
        )

-- ## There is one fullest plan

pub fullest_one : (P : Program) (f : ℕ) (Q R : Plan) → Fullest P f Q → Fullest P f R → (p : ℕ) → Q p ≡ R p
fullest_one P f Q R h k p = go (Q p) (R p) (λ s e. h.full R k.sound p s e) (λ s e. k.full Q h.sound p s e) refl refl
  where
    go : (d e : Option Shape) → ((s : Shape) → Q p ≡ Some s → Hits s (R p)) → ((s : Shape) → R p ≡ Some s → Hits s (Q p)) → Q p ≡ d → R p ≡ e → d ≡ e
    go None None h k a b = refl
    go None (Some t) h k a b = absurd (rw a at (k t b))
    go (Some s) None h k a b = absurd (rw b at (h s a))
    go (Some s) (Some t) h k a b = ap Some (reach_both s t (rw b at (h s a)) (rw a at (k t b)))
