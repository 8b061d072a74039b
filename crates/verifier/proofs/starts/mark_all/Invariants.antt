use Rattle.std.proofs.Common.{◌≡◌, ℕ, ◌-◌, ◌<◌, length, take, drop, replicate}
use Rattle.bytecode.specs.Instructions.{starts_of}
use Rattle.bytecode.specs.Outcome.{good}
use Rattle.plan.specs.Programs.{code_at}
use Rattle.plan.specs.Plans.{starts_at}
use Rattle.plan.specs.Judgement.{bytes_from}
use Rattle.reader.specs.View.{program_of}
use Rattle.shapes.specs.Records.{blank_record}
use Rattle.verifier.specs.Fresh.{fresh_part, joined_from}
use Rattle.verifier.proofs.starts.mark_all.Given as goal

-- the functions so far are decoded, their parts fresh, and the rest is blank
abbrev pub invariant-loop-function : goal.invariant-loop-function
invariant-loop-function l =
    ((g : ℕ) → g < l.function → starts_of g (code_at (program_of l.«package») g) ≡ good (starts_at (program_of l.«package») g)) ×
    (l.from ≡ bytes_from (program_of l.«package») l.function 0) ×
    (take l.from l.table ≡ joined_from (fresh_part (program_of l.«package»)) l.function 0) ×
    (drop l.from l.table ≡ replicate (length l.table - l.from) blank_record)
