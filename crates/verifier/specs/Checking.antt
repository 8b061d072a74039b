-- What check comes to: its answer, its refusals, the table afterwards, and what they say of the plans of a program.
use Rattle.std.specs.Prelude.{◌≡◌, ℕ, ◌+◌, ◌<◌, ◌≤◌, List, [], ◌∷◌, ◌++◌, map, length, replicate, Ok, Err, Result, nat_le, slice_index_or}
use Rattle.bytecode.specs.declared.refusal.Refusal.{Refusal}
use Rattle.bytecode.specs.Outcome.{Out, bad, good, bind, shown}
use Rattle.bytecode.specs.Program as program
use Rattle.plan.specs.Programs.{code_at}
use Rattle.plan.specs.Effects.{check}
use Rattle.plan.specs.Plans.{Plan, Fullest}
use Rattle.plan.specs.Sweep.{Cell, shape_of, Table, judge}
use Rattle.plan.specs.Judgement.{AllPlanned, most_takes, Refused, bytes_from}
use Rattle.reader.specs.Layout.{package_at}
use Rattle.reader.specs.View.{program_of, code_size}
use Rattle.shapes.specs.declared.table.ShapeRecord.{ShapeRecord}
use Rattle.shapes.specs.Records.{record_of, blank_record, no_record}
use Rattle.verifier.specs.declared.program.Program.{Program}
use Rattle.verifier.specs.declared.program.Accepted.{Accepted}
use Rattle.verifier.specs.Fresh.{filled}

-- ## The call

-- an accepted program, a table for each of its functions, and the takes of all
pub record Verdict : Type 0 where
  pub meaning : program.Program
  pub tables : List Table
  pub takes : ℕ

-- the package and its sheet (10 to 15), then room in the table for each byte of code (16), then decoding (17) and the sweep (18 to 25)
abbrev pub check_of : List ℕ → ℕ → Out Verdict
check_of bytes room =
    bind (package_at bytes) (λ P.
    check (nat_le (code_size P.functions) room) (16, 0, 0)
    (bind (judge P) (λ r. good (record { meaning = P; tables = r.0; takes = r.1 }))))

-- the answer: the program that it means, and the takes
abbrev pub answered : Out Verdict → Out (program.Program × ℕ)
answered o = bind o (λ v. good (v.meaning, v.takes))

abbrev pub meaning_of : Program → program.Program
meaning_of p = program_of p.contents

abbrev pub answer_of : Accepted → program.Program × ℕ
answer_of a = (meaning_of a.program, a.takes)

-- the records of a function's table: those of its shapes, and blank ones
abbrev pub records : Table → List ShapeRecord
records T = map (λ (c : Cell). record_of (shape_of c)) T

abbrev pub all_records : List Table → List ShapeRecord
all_records [] = []
all_records (T ∷ Ts) = records T ++ all_records Ts

-- the whole table afterwards: the records of all functions in order, and blank ones; all blank after a refusal
abbrev pub table_after : ℕ → Out Verdict → List ShapeRecord
table_after room (bad e) = replicate room blank_record
table_after room (good v) = filled room (all_records v.tables)

abbrev pub tables_in : Out Verdict → List Table
tables_in (bad e) = []
tables_in (good v) = v.tables

-- ## What is known of an accepted program

pub record Checked (p : Program) : Type 0 where
  pub tables : List Table
  pub takes : ℕ
  pub judged : judge (meaning_of p) ≡ good (tables, takes)

-- ## What the answer says of the plans

-- the part of the table for function f, which begins behind the code bytes of those before it, shows a plan record by record
abbrev pub Shows : program.Program → ℕ → Plan → List ShapeRecord → Type 0
Shows P f plan table = (p : ℕ) → p < length (code_at P f) → slice_index_or table (bytes_from P f 0 + p) no_record ≡ record_of (plan p)

-- accepted: every function has a good plan; the table shows the fullest plan of each, and is blank past the code
pub record ShownPlans (P : program.Program) (table : List ShapeRecord) (takes : ℕ) : Type 0 where
  pub planned : AllPlanned P
  pub fullest : (f : ℕ) → f < length P.functions → (plan : Plan) × Fullest P f plan × Shows P f plan table
  pub past : (q : ℕ) → code_size P.functions ≤ q → q < length table → slice_index_or table q no_record ≡ blank_record
  pub few : takes ≤ most_takes P

-- refused: some function has no good plan; the fault is that of the first function that cannot be decoded, or else swept
pub record NoPlans (P : program.Program) (e : Refusal) : Type 0 where
  pub refused : Refused P (shown e)
  pub unplanned : AllPlanned P → ⊥

-- check accepts a package that was read, and has room in the table, if and only if each of its functions has a good plan
abbrev pub Decides : program.Program → Result Accepted Refusal → List ShapeRecord → Type 0
Decides P (Ok a) table = ShownPlans P table a.takes
Decides P (Err e) table = NoPlans P e
