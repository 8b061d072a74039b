-- What a record of the verifier's table stands for, and the record of a shape.
use Rattle.std.specs.Prelude.{◌≡◌, ℕ, ◌<◌, ◌⊎◌, List, [], length, replicate, Some, None, Option, slice_index_or}
use Rattle.bytecode.specs.declared.kind.Kind.TheVariants.{Unknown}
use Rattle.plan.specs.Shapes.{Shape}
use Rattle.plan.specs.Sweep.{Cell, off, blank, marked, settled}
use Rattle.shapes.specs.Stacks.{stack_of, entries_of, Stacked}
use Rattle.shapes.specs.declared.table.ShapeMark.{ShapeMark}
use Rattle.shapes.specs.declared.table.ShapeMark.TheVariants.{Blank, Start, Due, Shaped}
use Rattle.shapes.specs.declared.table.ShapeRecord.{ShapeRecord}
use Rattle.shapes.specs.declared.shape.Shape as declared_shape

-- ## From a record to its cell

abbrev pub shape_in : ShapeRecord → Shape
shape_in r = record { stack = stack_of r.depth r.stack; variables = r.variables }

-- the shape that a value of the program is
abbrev pub shape_as : declared_shape.Shape → Shape
shape_as s = record { stack = s.stack; variables = s.variables }

abbrev pub cell_as : ShapeMark → Shape → Cell
cell_as Blank s = off
cell_as Start s = blank
cell_as Due s = marked s
cell_as Shaped s = settled s

abbrev pub cell_of : ShapeRecord → Cell
cell_of r = cell_as r.mark (shape_in r)

-- ## From a shape to its record

abbrev pub record_with : ShapeMark → Shape → ShapeRecord
record_with m s = record { mark = m; depth = length s.stack; stack = entries_of s.stack; variables = s.variables }

-- a record without a shape, but for its mark
abbrev pub empty_record : ShapeMark → ShapeRecord
empty_record m = record { mark = m; depth = 0; stack = replicate 32 Unknown; variables = replicate 32 Unknown }

abbrev pub blank_record : ShapeRecord
blank_record = empty_record Blank

-- the record of a cell while the sweep works
abbrev pub working_record : Cell → ShapeRecord
working_record off = empty_record Blank
working_record blank = empty_record Start
working_record (marked s) = record_with Due s
working_record (settled s) = record_with Shaped s

-- the record of a place that has a shape, or none, after the sweep
abbrev pub record_of : Option Shape → ShapeRecord
record_of None = blank_record
record_of (Some s) = record_with Shaped s

-- ## Records in order

abbrev pub HasShape : ShapeMark → Type 0
HasShape Blank = ⊥
HasShape Start = ⊥
HasShape Due = Unit {0}
HasShape Shaped = Unit {0}

-- at most 32 entries are used, the others are Unknown
pub record Tidy (r : ShapeRecord) : Type 0 where
  pub stack : Stacked r.depth r.stack
  pub wide : length r.variables ≡ 32

-- and a record without a shape has nothing but its mark
pub record Whole (r : ShapeRecord) : Type 0 where
  pub tidy : Tidy r
  pub vacant : HasShape r.mark ⊎ ((r.depth ≡ 0) × (r.variables ≡ replicate 32 Unknown))

-- what stands in for a record past the end of a table
abbrev pub no_record : ShapeRecord
no_record = record { mark = Blank; depth = 0; stack = []; variables = [] }

abbrev pub Neat : List ShapeRecord → Type 0
Neat rs = (k : ℕ) → k < length rs → Whole (slice_index_or rs k no_record)
