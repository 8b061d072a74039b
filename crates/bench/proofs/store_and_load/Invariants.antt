use Rattle.heap.specs.Storage.{Known}
use Rattle.bench.proofs.store_and_load.Given as goal

abbrev pub invariant-loop-i : goal.invariant-loop-i
invariant-loop-i l = Known l.memory.count l.array
