use Rattle.std.proofs.Common.{refl}
use Rattle.heap.proofs.Standing.{stands}
use Rattle.heap.proofs.memory_stands.Goals as goal

pub returns : goal.returns
returns c = record { value = refl; theorem = stands }
