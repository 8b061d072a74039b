use Rattle.std.proofs.Common.{◌≡◌, ◌+◌, ◌-◌, ◌≤◌, map, length}
use Rattle.plan.specs.Programs.{variables_at}
use Rattle.plan.specs.Sweep.{lowest, run, most, sweep_function}
use Rattle.plan.proofs.Weighing.{total, SizedAll}
use Rattle.shapes.specs.Records.{cell_of, Neat}
use Rattle.verifier.specs.Bodies.{program_in, code_in, starts_in}
use Rattle.verifier.proofs.body.Body.sweep.Given as goal

-- what is left of the sweep gives all of it; the takes and those that can still come are at most S × (V + 1)
abbrev pub invariant-loop-place : goal.invariant-loop-place
invariant-loop-place l =
    let P = program_in l.self in
    let f = l.self.function in
    let n = most P f (starts_in l.self) in
    (sweep_function P f ≡ run P f (n - l.takes) l.takes (map cell_of l.table)) ×
    (l.takes + total (variables_at P f) (map cell_of l.table) ≤ n) ×
    SizedAll (variables_at P f) (map cell_of l.table) ×
    Neat l.table ×
    (l.from ≤ lowest (map cell_of l.table)) ×
    (length l.table ≡ length (code_in l.self))

abbrev pub decreases-loop-place : goal.decreases-loop-place
decreases-loop-place l = total (variables_at (program_in l.self) l.self.function) (map cell_of l.table)
