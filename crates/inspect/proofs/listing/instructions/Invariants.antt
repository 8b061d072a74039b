use Rattle.std.proofs.Common.{◌-◌, length}
use Rattle.inspect.proofs.listing.instructions.Given as goal

abbrev pub decreases-loop-place : goal.decreases-loop-place
decreases-loop-place l = length l.code - l.place
