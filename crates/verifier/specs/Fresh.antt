-- The table between decoding and the sweep: blank, but for the marks of the starts.
use Rattle.std.specs.Prelude.{◌≡◌, ℕ, zero, suc, ◌-◌, ◌<◌, Bool, true, false, List, [], ◌∷◌, ◌++◌, map, length, replicate}
use Rattle.bytecode.specs.Instructions.{starts_of}
use Rattle.bytecode.specs.Outcome.{good}
use Rattle.bytecode.specs.Program.{Program}
use Rattle.plan.specs.Programs.{code_at}
use Rattle.plan.specs.Plans.{starts_at}
use Rattle.shapes.specs.declared.table.ShapeMark.{ShapeMark}
use Rattle.shapes.specs.declared.table.ShapeMark.TheVariants.{Blank, Start, Due, Shaped}
use Rattle.shapes.specs.declared.table.ShapeRecord.{ShapeRecord}
use Rattle.shapes.specs.Records.{empty_record, blank_record}

-- ## One function

abbrev pub is_start : ShapeMark → Bool
is_start Blank = false
is_start Start = true
is_start Due = false
is_start Shaped = false

abbrev pub marks_start : ShapeRecord → Bool
marks_start r = is_start r.mark

abbrev pub fresh_record : Bool → ShapeRecord
fresh_record false = empty_record Blank
fresh_record true = empty_record Start

-- ## All functions

-- a list for each of n functions from number f on, joined in order
abbrev pub joined_from : {A : Type 0} → (ℕ → List A) → ℕ → ℕ → List A
joined_from part zero f = []
joined_from part (suc n) f = part f ++ joined_from part n (suc f)

-- these records, and blank ones up to so many
abbrev pub filled : ℕ → List ShapeRecord → List ShapeRecord
filled room rs = rs ++ replicate (room - length rs) blank_record

abbrev pub fresh_part : Program → ℕ → List ShapeRecord
fresh_part P f = map fresh_record (starts_at P f)

abbrev pub fresh_all : Program → ℕ → List ShapeRecord
fresh_all P room = filled room (joined_from (fresh_part P) (length P.functions) 0)

-- the starts of n functions from number f on
abbrev pub starts_from : Program → ℕ → ℕ → List (List Bool)
starts_from P zero f = []
starts_from P (suc n) f = starts_at P f ∷ starts_from P n (suc f)

abbrev pub all_starts : Program → List (List Bool)
all_starts P = starts_from P (length P.functions) 0

abbrev pub AllDecoded : Program → Type 0
AllDecoded P = (f : ℕ) → f < length P.functions → starts_of f (code_at P f) ≡ good (starts_at P f)
