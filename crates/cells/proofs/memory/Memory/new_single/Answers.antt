use Rattle.cells.specs.View.{storage_of}
use Rattle.cells.proofs.Placed.{kept_taken}
use Rattle.cells.proofs.memory.Memory.new_single.Goals as goal

pub returns-clause-kept : goal.returns-clause-kept
returns-clause-kept c = kept_taken (storage_of c.args.self.now) _ _ c.take.result (storage_of c.take.new.self) c.take.ensures.after
