use lib.Seq.{take-set-lt}
use Rattle.stack.proofs.Stack.set.Goals as goal

pub returns-then-i-self-clause-stored : goal.returns-then-i-self-clause-stored
returns-then-i-self-clause-stored g c = let s = c.args.self.now in take-set-lt s.len s.room.now c.args.i c.args.x c.if-i-self.true
