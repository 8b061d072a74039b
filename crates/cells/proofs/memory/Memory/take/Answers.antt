use Rattle.std.proofs.Common.{◌+◌, set, sym, ap, subst}
use Rattle.heap.specs.Storage.{Sound, taken}
use Rattle.cells.specs.View.{storage_of}
use Rattle.cells.proofs.Allocations.{has_room-true}
use Rattle.cells.proofs.Placed.{sound_taken}
use Rattle.cells.proofs.Runs.{filled, zero_cell}
use Rattle.cells.proofs.memory.Memory.take.Goals as goal

pub invariant_of-self-2 : goal.invariant_of-self-2
invariant_of-self-2 c =
    let l = storage_of c.args.self.now in
    let need = c.args.need in
    let room = has_room-true l need c.requires.room in
    let s : Sound (taken l need c.args.block) = sound_taken l need c.args.block c.args.self.now.sound room.cells_left room.records_left c.requires.bounded in
    let e = filled l.cells c.fill.new.self l.used need c.default.result (zero_cell c.default.result c.default.ensures.0 c.default.ensures.1) room.cells_left
    (c.fill.ensures.after (λ y same. same)) in
    record { sound = subst (λ mem. Sound (record { cells = mem; used = l.used + need; records = set l.records l.count c.args.block; count = l.count + 1 })) (sym e) s }

pub returns-clause-after : goal.returns-clause-after
returns-clause-after c =
    let l = storage_of c.args.self.now in
    let need = c.args.need in
    let room = has_room-true l need c.requires.room in
    ap (λ mem. record { cells = mem; used = l.used + need; records = set l.records l.count c.args.block; count = l.count + 1 })
    (filled l.cells c.fill.new.self l.used need c.default.result (zero_cell c.default.result c.default.ensures.0 c.default.ensures.1) room.cells_left
    (c.fill.ensures.after (λ y same. same)))
