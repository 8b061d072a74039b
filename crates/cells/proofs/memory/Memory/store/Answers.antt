use Rattle.std.proofs.Common.{◌%◌}
use Rattle.heap.specs.Storage.{cell_in}
use Rattle.cells.specs.View.{storage_of}
use Rattle.cells.proofs.Stores.{sound_left}
use Rattle.cells.proofs.memory.Memory.store.Goals as goal

pub invariant_of-self : goal.invariant_of-self
invariant_of-self g c =
    let m = c.args.self.now in
    let l = storage_of m in
    let j = c.in_ok-j.j in
    let cell = cell_in l j in
    let byte = c.args.r % 8 in
    let wrote = c.write.ensures in
    record {
      sound = sound_left l j c.write.new.cell c.write.result (g.C.Content.writes cell byte c.args.value) m.sound c.in_ok-j.ensures.inside wrote.value wrote.same
          (g.met.C.Content.writes_known l cell byte c.args.value m.sound c.requires.held);
    }
