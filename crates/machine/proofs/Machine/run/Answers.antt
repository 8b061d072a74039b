use Rattle.machine.proofs.Running.{run_over}
use Rattle.machine.proofs.Machine.run.Goals as goal

pub returns-in-Ended : goal.returns-in-Ended
returns-in-Ended g c =
    run_over g.H.Host.make c.args.self.now (g.H.Host.state c.args.host.now) c.args.allowance c.in-Ended.is _
