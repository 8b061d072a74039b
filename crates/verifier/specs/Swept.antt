-- The table after the sweep, before and after its starts without a shape are made blank.
use Rattle.std.specs.Prelude.{ℕ, zero, suc, Bool, true, false, List, [], ◌∷◌, ◌++◌, map, length}
use Rattle.bytecode.specs.Outcome.{bad, good}
use Rattle.bytecode.specs.Program.{Program}
use Rattle.plan.specs.Sweep.{Table, Answer, sweep_function}
use Rattle.shapes.specs.declared.table.ShapeMark.{ShapeMark}
use Rattle.shapes.specs.declared.table.ShapeMark.TheVariants.{Blank, Start, Due, Shaped}
use Rattle.shapes.specs.declared.table.ShapeRecord.{ShapeRecord}
use Rattle.shapes.specs.Records.{working_record}
use Rattle.verifier.specs.Fresh.{filled}

-- the table that the sweep of a function ends with; none if it faults
abbrev pub table_in : Answer → Table
table_in (bad e) = []
table_in (good r) = r.0

abbrev pub swept_table : Program → ℕ → Table
swept_table P f = table_in (sweep_function P f)

-- those of n functions from number f on
abbrev pub tables_from : Program → ℕ → ℕ → List Table
tables_from P zero f = []
tables_from P (suc n) f = swept_table P f ∷ tables_from P n (suc f)

abbrev pub all_tables : Program → List Table
all_tables P = tables_from P (length P.functions) 0

-- the records of tables, joined in order
abbrev pub working_records : List Table → List ShapeRecord
working_records [] = []
working_records (T ∷ Ts) = map working_record T ++ working_records Ts

abbrev pub working_all : ℕ → List Table → List ShapeRecord
working_all room Ts = filled room (working_records Ts)

-- a record that is marked to be taken
abbrev pub is_due_mark : ShapeMark → Bool
is_due_mark Blank = false
is_due_mark Start = false
is_due_mark Due = true
is_due_mark Shaped = false

abbrev pub is_due : ShapeRecord → Bool
is_due r = is_due_mark r.mark

-- a start without a shape becomes blank
abbrev pub finished_mark : ShapeMark → ShapeMark
finished_mark Blank = Blank
finished_mark Start = Blank
finished_mark Due = Due
finished_mark Shaped = Shaped

abbrev pub finished : ShapeRecord → ShapeRecord
finished r = record { mark = finished_mark r.mark; depth = r.depth; stack = r.stack; variables = r.variables }
