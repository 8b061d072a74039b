use Rattle.std.proofs.Common.{arith, ap, ◌∙◌, length}
use Rattle.reader.proofs.Turns.{fours_taken, fours_long, words_small}
use Rattle.reader.proofs.pool.fours.Goals as goal

pub returns : goal.returns
returns c =
    let met = fours_taken c.args.bytes.now c.as_chunks.result.0.now c.args.count c.as_chunks.ensures.front c.requires in
    record { met = met; few = ap length met ∙ fours_long c.args.count c.args.bytes.now; words = λ k. words_small c.args.bytes.now _ c.args.count k met (λ i. let f = c.type_inv.bytes i in omega arith) }
