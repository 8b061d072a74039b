-- A run with a host of any make is a run with its behaviour, whose states are lists of calls.
use Rattle.bytecode.specs.Program.{Program}
use Rattle.host.specs.Hosts.{Host, Lawful}
use Rattle.checked.specs.Behaviour.{behaviour, Follows}
use Rattle.runtime.specs.Runtime.{step}

pub record Behaves {S : Type 0} (host : Host S) (s : S) : Type 0 where
  pub lawful : Lawful (behaviour host s)
  pub follows : (P : Program) → Follows host s (step P (behaviour host s)) (step P host)
