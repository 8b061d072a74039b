use Rattle.std.proofs.Common.{◌≡◌, ◌≤◌, ◌++◌, length, drop, decimal}
use Rattle.host.proofs.tens.write_digits.Given as goal

abbrev pub invariant-loop-left : goal.invariant-loop-left
invariant-loop-left l =
    record { smaller : l.left ≤ l.n; within : l.start ≤ 11; size : length l.out ≡ 11; spelled : decimal l.n ≡ decimal l.left ++ drop l.start l.out }

abbrev pub decreases-loop-left : goal.decreases-loop-left
decreases-loop-left l = l.left
