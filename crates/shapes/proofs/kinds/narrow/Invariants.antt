use Rattle.std.proofs.Common.{◌≡◌}
use Rattle.shapes.proofs.Narrowing.{meet_to}
use Rattle.shapes.proofs.kinds.narrow.Given as goal

abbrev pub invariant-loop-i : goal.invariant-loop-i
invariant-loop-i l = l.old ≡ meet_to l.i l.initial.old l.new
