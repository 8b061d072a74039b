use Rattle.std.proofs.Common.{length, Ok, Err}
use Rattle.verifier.proofs.Judging.{decided, same_room, accepted_table, refused_table, blank_filled}
use Rattle.verifier.proofs.program.check.Goals as goal

pub returns-in-Ok-clause-decides : goal.returns-in-Ok-clause-decides
returns-in-Ok-clause-decides c =
    let bytes = c.args.bytes.now in
    let m = length c.fill.new.self in
    let room = length c.args.table.now in
    let formed = c.in-Ok.ensures.formed in
    decided bytes room (Ok c.in-Ok.accepted) c.drop_starts.new.table formed (same_room bytes m room c.fill.ensures.len formed (Ok c.in-Ok.accepted) c.in-Ok.ensures.met)
    (accepted_table bytes m room c.fill.ensures.len formed c.in-Ok.accepted c.judge.new.table c.drop_starts.new.table c.in-Ok.ensures.met c.in-Ok.ensures.memory c.drop_starts.ensures)

pub returns-in-Err : goal.returns-in-Err
returns-in-Err c =
    let bytes = c.args.bytes.now in
    let m = length c.fill.new.self in
    let room = length c.args.table.now in
    let formed = c.in-Err.ensures.formed in
    let met = same_room bytes m room c.fill.ensures.len formed (Err c.in-Err.refusal) c.in-Err.ensures.met in
    let memory =
    refused_table bytes m room c.fill.ensures.len formed c.in-Err.refusal c.fill-in-Err.new.self c.in-Err.ensures.met
    (blank_filled _ _ _ _ (c.fill-in-Err.ensures.after (λ y h. h)) c.blank_record-in-Err.ensures c.judge.auto.table) in
    record { met = met; memory = memory; lent = tt; checked = tt; decides = decided bytes room (Err c.in-Err.refusal) c.fill-in-Err.new.self formed met memory }
