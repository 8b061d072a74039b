-- Every fault of a function's decoding or sweep carries the function's number.
use Rattle.std.proofs.Common.{◌≡◌, ℕ, zero, suc, ◌+◌, Bool, true, false, cond, ltb, leb, List, [], ◌∷◌, ◌++◌, map, length, get_or, take, drop, set, replicate, Some, None, Option, refl}
use Rattle.bytecode.specs.declared.kind.Kind.{Kind}
use Rattle.bytecode.specs.declared.kind.Kind.TheVariants.{Unknown, Word, Reference}
use Rattle.bytecode.specs.declared.instruction.Instruction.{Instruction}
use Rattle.bytecode.specs.Instructions.{size_of, decode_at, onward, walk, starts_of}
use Rattle.bytecode.specs.Outcome.{Out, bad, good, bind}
use Rattle.bytecode.specs.Program.{Program}
use Rattle.plan.specs.Programs.{function_at, code_at, variables_at}
use Rattle.plan.specs.Shapes.{Shape, Merged, same, changed, clash, merge, eq_kind, eq_kinds}
use Rattle.plan.specs.Effects.{Act, fixed, load, store, pop, dup, swap, alike, give, act_of, check, room, replace, popped, doubled, swapped, compared, returned, loaded, stored, keeping, perform, performed, effect}
use Rattle.plan.specs.Plans.{successors, entry_of}
use Rattle.plan.specs.Sweep.{Cell, off, blank, marked, settled, Table, at, fresh, merged, join, put, spread, lowest, applied, apply, visit, turn, run, most, sweep_within, sweep_marks, sweep_function}

module _ (f : ℕ) where
  -- a fault, if there is one, is of function f
  abbrev pub InFunction : {A : Type 0} → Out A → Type 0
  InFunction (bad e) = e.1 ≡ f
  InFunction (good a) = Unit {0}

  in_bind : {A B : Type 0} (r : Out A) (k : A → Out B) → InFunction r → ((a : A) → InFunction (k a)) → InFunction (bind r k)
  in_bind (bad e) k h g = h
  in_bind (good a) k h g = g a

  in_check : {A : Type 0} (b : Bool) (n p : ℕ) (r : Out A) → InFunction r → InFunction (check b (n, f, p) r)
  in_check true n p r h = h
  in_check false n p r h = refl

  module _ (p : ℕ) where
    in_room : (st : List Kind) → InFunction (room f p st)
    in_room st = in_check (leb (length st) 32) 19 p (good st) tt

    in_popped : (st : List Kind) → InFunction (popped f p st)
    in_popped [] = refl
    in_popped (k ∷ st) = tt

    in_doubled : (st : List Kind) → InFunction (doubled f p st)
    in_doubled [] = refl
    in_doubled (k ∷ st) = in_room (k ∷ k ∷ st)

    in_swapped : (st : List Kind) → InFunction (swapped f p st)
    in_swapped [] = refl
    in_swapped (k ∷ []) = refl
    in_swapped (k ∷ l ∷ st) = tt

    in_compared : (st : List Kind) → InFunction (compared f p st)
    in_compared [] = refl
    in_compared (k ∷ []) = refl
    in_compared (k ∷ l ∷ st) = in_check (eq_kind k l) 20 p (good st) tt

    in_returned : (k : Kind) (st : List Kind) → InFunction (returned f p k st)
    in_returned k [] = refl
    in_returned k (l ∷ []) = in_check (eq_kind l k) 20 p (good []) tt
    in_returned k (l ∷ m ∷ st) = refl

    in_loaded : (k : Kind) (st : List Kind) → InFunction (loaded f p k st)
    in_loaded Unknown st = refl
    in_loaded Word st = in_room (Word ∷ st)
    in_loaded Reference st = in_room (Reference ∷ st)

    in_stored : (i : ℕ) (vs st : List Kind) → InFunction (stored f p i vs st)
    in_stored i vs [] = refl
    in_stored i vs (k ∷ st) = tt

    in_keeping : (vs : List Kind) (r : Out (List Kind)) → InFunction r → InFunction (keeping f p vs r)
    in_keeping vs r h = in_bind r (λ st. good (record { stack = st; variables = vs })) h (λ st. tt)

    in_replace : (taken left st : List Kind) → InFunction (replace f p taken left st)
    in_replace taken left st =
        in_check (leb (length taken) (length st)) 18 p (check (eq_kinds (take (length taken) st) taken) (20, f, p) (room f p (left ++ drop (length taken) st)))
        (in_check (eq_kinds (take (length taken) st) taken) 20 p (room f p (left ++ drop (length taken) st)) (in_room (left ++ drop (length taken) st)))

    in_perform : (V : ℕ) (a : Act) (s : Shape) → InFunction (perform f p V a s)
    unfolding perform
    in_perform V (fixed taken left) s = in_keeping s.variables (replace f p taken left s.stack) (in_replace taken left s.stack)
    in_perform V (load i) s =
        in_check (ltb i V) 21 p (keeping f p s.variables (loaded f p (get_or s.variables i Unknown) s.stack))
        (in_keeping s.variables (loaded f p (get_or s.variables i Unknown) s.stack) (in_loaded (get_or s.variables i Unknown) s.stack))
    in_perform V (store i) s = in_check (ltb i V) 21 p (stored f p i s.variables s.stack) (in_stored i s.variables s.stack)
    in_perform V pop s = in_keeping s.variables (popped f p s.stack) (in_popped s.stack)
    in_perform V dup s = in_keeping s.variables (doubled f p s.stack) (in_doubled s.stack)
    in_perform V swap s = in_keeping s.variables (swapped f p s.stack) (in_swapped s.stack)
    in_perform V alike s = in_keeping s.variables (compared f p s.stack) (in_compared s.stack)
    in_perform V (give k) s = in_keeping s.variables (returned f p k s.stack) (in_returned k s.stack)

    in_performed : (V : ℕ) (s : Shape) (o : Option Act) → InFunction (performed f p V s o)
    in_performed V s None = refl
    in_performed V s (Some a) = in_perform V a s

    in_merged : (q : ℕ) (c : Cell) (m : Merged) → InFunction (merged f q c m)
    in_merged q c same = tt
    in_merged q c (changed u) = tt
    in_merged q c clash = refl

    in_join : (q : ℕ) (c : Cell) (x : Shape) → InFunction (join f p q c x)
    unfolding join
    in_join q off x = refl
    in_join q blank x = tt
    in_join q (marked s) x = in_merged q (marked s) (merge s x)
    in_join q (settled s) x = in_merged q (settled s) (merge s x)

    in_put : (T : Table) (q : Option ℕ) (x : Shape) → InFunction (put f p T q x)
    unfolding put
    in_put T None x = refl
    in_put T (Some q) x = in_bind (join f p q (at T q) x) (λ c. good (set T q c)) (in_join q (at T q) x) (λ c. tt)

    in_spread : (x : Shape) (qs : List (Option ℕ)) (T : Table) → InFunction (spread f p x qs T)
    unfolding spread
    in_spread x [] T = tt
    in_spread x (q ∷ qs) T = in_bind (put f p T q x) (spread f p x qs) (in_put T q x) (λ U. in_spread x qs U)

  in_onward : (p : ℕ) (next : ℕ → Out (List Bool)) (o : Option Instruction) → ((q : ℕ) → InFunction (next q)) → InFunction (onward f p next o)
  in_onward p next None h = refl
  in_onward p next (Some i) h = h (p + size_of i)

  in_cond : {A : Type 0} (b : Bool) (x y : Out A) → InFunction x → InFunction y → InFunction (cond b x y)
  in_cond true x y h k = h
  in_cond false x y h k = k

  in_walk : (code : List ℕ) (k p : ℕ) (marks : List Bool) → InFunction (walk f code k p marks)
  unfolding walk
  in_walk code zero p marks = tt
  in_walk code (suc k) p marks =
      in_cond (ltb p (length code)) (onward f p (λ q. walk f code k q (set marks p true)) (decode_at code p)) (good marks)
      (in_onward p (λ q. walk f code k q (set marks p true)) (decode_at code p) (λ q. in_walk code k q (set marks p true))) tt

  pub starts_in_function : (code : List ℕ) → InFunction (starts_of f code)
  starts_in_function code = in_walk code (length code) 0 (replicate (length code) false)

  module _ (P : Program) where
    in_apply : (p : ℕ) (s : Shape) → InFunction (apply P f p s)
    unfolding apply
    in_apply p s = go (decode_at (code_at P f) p)
      where
        go : (o : Option Instruction) → InFunction (applied P f p s o)
        go None = refl
        go (Some i) =
            in_bind (effect P f p i s) (λ u. good (u, successors p i)) (in_performed p (variables_at P f) s (act_of P (function_at P f) i)) (λ u. tt)

    in_visit : (T : Table) (p : ℕ) (s : Shape) → InFunction (visit P f T p s)
    unfolding visit
    in_visit T p s = in_bind (apply P f p s) (λ r. spread f p r.0 r.1 (set T p (settled s))) (in_apply p s) (λ r. in_spread p r.0 r.1 (set T p (settled s)))

    in_run : (k t : ℕ) (T : Table) → InFunction (run P f k t T)
    unfolding run turn
    in_run zero t T = tt
    in_run (suc k) t T = go (at T (lowest T)) (in_run k (suc t))
      where
        go : (c : Cell) → ((U : Table) → InFunction (run P f k (suc t) U)) → InFunction (turn P f t T (run P f k (suc t)) c)
        go off ih = tt
        go blank ih = tt
        go (settled s) ih = tt
        go (marked s) ih = in_bind (visit P f T (lowest T) s) (run P f k (suc t)) (in_visit T (lowest T) s) ih

    pub sweep_in_function : InFunction (sweep_function P f)
    unfolding sweep_function sweep_within
    sweep_in_function =
        in_bind (starts_of f (code_at P f)) (sweep_marks P f) (starts_in_function (code_at P f))
        (λ marks. in_bind (put f 0 (map fresh marks) (Some 0) (entry_of (function_at P f))) (run P f (most P f marks) 0)
        (in_put 0 (map fresh marks) (Some 0) (entry_of (function_at P f))) (λ U. in_run (most P f marks) 0 U))
