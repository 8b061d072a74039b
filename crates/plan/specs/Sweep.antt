-- The sweep: a table of shapes for each function, filled from the entry on until nothing changes, or the first fault.
use Rattle.std.specs.Prelude.{ℕ, zero, suc, ◌+◌, ◌*◌, Bool, true, false, List, [], ◌∷◌, map, length, Some, None, Option, slice_index_or, slice_set}
use Rattle.bytecode.specs.declared.instruction.Instruction.{Instruction}
use Rattle.bytecode.specs.Instructions.{decode_at, starts_of}
use Rattle.bytecode.specs.Outcome.{Out, bad, good, bind}
use Rattle.bytecode.specs.Program.{Program}
use Rattle.plan.specs.Programs.{function_at, code_at, variables_at}
use Rattle.plan.specs.Shapes.{Shape, Merged, same, changed, clash, merge}
use Rattle.plan.specs.Effects.{effect}
use Rattle.plan.specs.Plans.{Plan, successors, entry_of}

-- ## The table

-- a place of the code: no start; a start without a shape; a start with a shape, marked to be taken, or not
pub data Cell : Type 0 where
  off : Cell
  blank : Cell
  marked : Shape → Cell
  settled : Shape → Cell

-- a cell for each byte of a function's code
abbrev pub Table : Type 0
Table = List Cell

-- past the code there is no start
abbrev pub at : Table → ℕ → Cell
at T q = slice_index_or T q off

abbrev pub shape_of : Cell → Option Shape
shape_of (marked s) = Some s
shape_of (settled s) = Some s
shape_of c = None

-- the plan that a table holds
abbrev pub plan_of : Table → Plan
plan_of T q = shape_of (at T q)

-- the table before the sweep, from the marks of the starts
abbrev pub fresh : Bool → Cell
fresh true = blank
fresh false = off

abbrev pub count_true : List Bool → ℕ
count_true [] = 0
count_true (true ∷ bs) = suc (count_true bs)
count_true (false ∷ bs) = count_true bs

-- ## Going on to a place

-- a changed shape is marked; stacks that differ are fault 24 at the place met
abbrev pub merged : ℕ → ℕ → Cell → Merged → Out Cell
merged f q c same = good c
merged f q c (changed u) = good (marked u)
merged f q c clash = bad (24, f, q)

-- the cell of place q met by the shape x, which comes from p; a place that is no start is fault 23 at p
unfoldable pub join : ℕ → ℕ → ℕ → Cell → Shape → Out Cell
join f p q off x = bad (23, f, p)
join f p q blank x = good (marked x)
join f p q (marked s) x = merged f q (marked s) (merge s x)
join f p q (settled s) x = merged f q (settled s) (merge s x)

unfoldable pub put : ℕ → ℕ → Table → Option ℕ → Shape → Out Table
put f p T None x = bad (23, f, p)
put f p T (Some q) x = bind (join f p q (at T q) x) (λ c. good (slice_set T q c))

-- one place after another
unfoldable pub spread : ℕ → ℕ → Shape → List (Option ℕ) → Table → Out Table
spread f p x [] T = good T
spread f p x (q ∷ qs) T = bind (put f p T q x) (spread f p x qs)

-- ## One take

-- the lowest marked place; past the table if nothing is marked
unfoldable pub lowest : Table → ℕ
lowest [] = 0
lowest (marked s ∷ T) = 0
lowest (c ∷ T) = suc (lowest T)

-- the shape s with its instruction applied, and the places to go on to
abbrev pub applied : Program → ℕ → ℕ → Shape → Option Instruction → Out (Shape × List (Option ℕ))
applied P f p s None = bad (17, f, p)
applied P f p s (Some i) = bind (effect P f p i s) (λ u. good (u, successors p i))

unfoldable pub apply : Program → ℕ → ℕ → Shape → Out (Shape × List (Option ℕ))
apply P f p s = applied P f p s (decode_at (code_at P f) p)

-- the place p, with the shape s, is unmarked and its instruction applied
unfoldable pub visit : Program → ℕ → Table → ℕ → Shape → Out Table
visit P f T p s = bind (apply P f p s) (λ r. spread f p r.0 r.1 (slice_set T p (settled s)))

-- ## The sweep of one function

-- the table, and how many takes there were
abbrev pub Answer : Type 0
Answer = Out (Table × ℕ)

-- the lowest place taken if it is marked, after t takes
unfoldable pub turn : Program → ℕ → ℕ → Table → (Table → Answer) → Cell → Answer
turn P f t T continue (marked s) = bind (visit P f T (lowest T) s) continue
turn P f t T continue c = good (T, t)

-- at most k takes more
unfoldable pub run : Program → ℕ → ℕ → ℕ → Table → Answer
run P f zero t T = good (T, t)
run P f (suc k) t T = turn P f t T (run P f k (suc t)) (at T (lowest T))

-- a function of S starts and V variables has at most S × (V + 1) takes; more would change nothing
abbrev pub most : Program → ℕ → List Bool → ℕ
most P f marks = count_true marks * (variables_at P f + 1)

-- place 0 is given the entry shape and marked; then at most k takes
unfoldable pub sweep_within : Program → ℕ → ℕ → List Bool → Answer
sweep_within P f k marks = bind (put f 0 (map fresh marks) (Some 0) (entry_of (function_at P f))) (run P f k 0)

abbrev pub sweep_marks : Program → ℕ → List Bool → Answer
sweep_marks P f marks = sweep_within P f (most P f marks) marks

unfoldable pub sweep_function : Program → ℕ → Answer
sweep_function P f = bind (starts_of f (code_at P f)) (sweep_marks P f)

-- ## All functions, in pool order

-- the starts of n functions, from number f on
unfoldable pub decode_from : Program → ℕ → ℕ → Out (List (List Bool))
decode_from P zero f = good []
decode_from P (suc n) f = bind (starts_of f (code_at P f)) (λ marks. bind (decode_from P n (suc f)) (λ rest. good (marks ∷ rest)))

abbrev pub decode_all : Program → Out (List (List Bool))
decode_all P = decode_from P (length P.functions) 0

-- a table for each function, and the takes of all
abbrev pub Judgement : Type 0
Judgement = Out (List Table × ℕ)

abbrev pub after : Table × ℕ → Judgement → Judgement
after r rest = bind rest (λ s. good (r.0 ∷ s.0, r.1 + s.1))

unfoldable pub sweep_from : Program → ℕ → ℕ → Judgement
sweep_from P zero f = good ([], 0)
sweep_from P (suc n) f = bind (sweep_function P f) (λ r. after r (sweep_from P n (suc f)))

abbrev pub sweep_all : Program → Judgement
sweep_all P = sweep_from P (length P.functions) 0

-- all functions are decoded before the first is swept
unfoldable pub judge : Program → Judgement
judge P = bind (decode_all P) (λ starts. sweep_all P)
