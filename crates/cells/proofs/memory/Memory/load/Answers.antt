use Rattle.std.proofs.Common.{◌%◌, sym, subst}
use Rattle.heap.specs.Storage.{cell_in}
use Rattle.cells.specs.View.{storage_of, Given}
use Rattle.cells.proofs.memory.Memory.load.Goals as goal

pub returns-clause-named : goal.returns-clause-named
returns-clause-named g c =
    let m = c.args.self.now in
    let j = c.in_ok-j.j in
    subst (Given (g.C.Content.known m.count)) (sym c.read.ensures)
    (g.met.C.Content.reads_known m.count (cell_in (storage_of m) j) (c.args.r % 8) (m.sound.names j c.in_ok-j.ensures.inside))
