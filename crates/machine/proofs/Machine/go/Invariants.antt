use Rattle.machine.specs.Runs.{Going}
use Rattle.machine.proofs.Machine.go.Given as goal

abbrev pub invariant-loop-used : goal.invariant-loop-used
invariant-loop-used g l =
    Going g.H.Host.make l.initial.self (g.H.Host.state l.initial.host) l.used l.self (g.H.Host.state l.host)
