use Rattle.std.proofs.Common.{◌<◌, reverse, take, ◌∙◌, ap₂, arith}
use Rattle.stack.proofs.Holding.{popped_off}
use Rattle.stack.proofs.Stack.pop.Goals as goal

pub returns-clause-held : goal.returns-clause-held
returns-clause-held g c =
    let s = c.args.self.now in
    let some : 0 < s.len = omega arith in
    ap₂ (λ n xs. reverse (take n xs)) c.pop_within.ensures.len c.pop_within.ensures.entries
    ∙ popped_off s.room.now s.len c.pop_within.result some s.within
