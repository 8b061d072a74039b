-- What a function under judgement stands for.
use Rattle.std.specs.Prelude.{ℕ, Bool, List}
use Rattle.bytecode.specs.Program.{Function, Program}
use Rattle.plan.specs.Programs.{function_at, code_at}
use Rattle.plan.specs.Plans.{starts_at}
use Rattle.reader.specs.View.{program_of}
use Rattle.verifier.specs.declared.body.Body.{Body}

abbrev pub program_in : Body → Program
program_in b = program_of b.«package».now

abbrev pub function_in : Body → Function
function_in b = function_at (program_in b) b.function

abbrev pub code_in : Body → List ℕ
code_in b = code_at (program_in b) b.function

abbrev pub starts_in : Body → List Bool
starts_in b = starts_at (program_in b) b.function
