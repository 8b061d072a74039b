use Rattle.std.proofs.Common.{reverse, take, ap, ◌∙◌}
use Rattle.stack.proofs.Holding.{cut_off}
use Rattle.stack.proofs.Stack.truncate.Goals as goal

pub returns-clause-held : goal.returns-clause-held
returns-clause-held g c =
    let s = c.args.self.now in
    ap (λ n. reverse (take n s.room.now)) c.min-self.ensures ∙ cut_off s.room.now s.len c.args.n s.within
