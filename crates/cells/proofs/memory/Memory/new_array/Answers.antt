use Rattle.std.proofs.Common.{◌∙◌, length-set}
use Rattle.cells.specs.View.{storage_of}
use Rattle.cells.proofs.Placed.{kept_taken}
use Rattle.cells.proofs.memory.Memory.new_array.Goals as goal

pub returns-clause-kept : goal.returns-clause-kept
returns-clause-kept c =
    let k = kept_taken (storage_of c.args.self.now) _ _ c.take-r.result (storage_of c.take-r.new.self) c.take-r.ensures.after in
    record { stop = tt; cells = length-set c.take-r.new.self.cells.now c.args.self.now.used _ ∙ k.cells; records = k.records; blocks = k.blocks }
