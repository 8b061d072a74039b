use Rattle.checked.proofs.Behaving.{behaves}
use Rattle.checked.proofs.behaviour_stands.Goals as goal

pub returns : goal.returns
returns g c = λ host s lawful. behaves host s lawful
