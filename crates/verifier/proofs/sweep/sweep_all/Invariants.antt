use Rattle.std.proofs.Common.{◌≡◌, ℕ, ◌*◌, ◌<◌, ◌≤◌, map, take, drop}
use Rattle.bytecode.specs.Outcome.{good}
use Rattle.plan.specs.Sweep.{sweep_function}
use Rattle.plan.specs.Judgement.{bytes_from}
use Rattle.reader.specs.View.{program_of}
use Rattle.shapes.specs.Records.{working_record}
use Rattle.verifier.specs.Fresh.{joined_from}
use Rattle.verifier.specs.Swept.{swept_table}
use Rattle.verifier.proofs.Sweeping.{swept_takes, takes_from}
use Rattle.verifier.proofs.sweep.sweep_all.Given as goal

-- the functions so far are swept, and the rest is as it was
abbrev pub invariant-loop-function : goal.invariant-loop-function
invariant-loop-function l =
    ((g : ℕ) → g < l.function → sweep_function (program_of l.«package») g ≡ good (swept_table (program_of l.«package») g, swept_takes (program_of l.«package») g)) ×
    (l.from ≡ bytes_from (program_of l.«package») l.function 0) ×
    (take l.from l.table ≡ joined_from (λ g. map working_record (swept_table (program_of l.«package») g)) l.function 0) ×
    (drop l.from l.table ≡ drop l.from l.initial.table) ×
    (l.takes ≡ takes_from (program_of l.«package») l.function 0) ×
    (l.takes ≤ 33 * l.from)
