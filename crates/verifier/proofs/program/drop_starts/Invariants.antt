use Rattle.std.proofs.Common.{◌≡◌, ◌++◌, map, take, drop}
use Rattle.verifier.specs.Swept.{finished}
use Rattle.verifier.proofs.program.drop_starts.Given as goal

abbrev pub invariant-loop-record : goal.invariant-loop-record
invariant-loop-record l = l.table ≡ map finished (take l.record-index l.initial.table) ++ drop l.record-index l.initial.table
