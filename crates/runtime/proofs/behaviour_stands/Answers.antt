use Rattle.runtime.proofs.Behaving.{behaves}
use Rattle.runtime.proofs.behaviour_stands.Goals as goal

pub returns : goal.returns
returns g c = λ host s lawful. behaves host s lawful
