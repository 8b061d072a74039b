use Rattle.runtime.proofs.Standing.{law_stands}
use Rattle.runtime.proofs.law_stands.Goals as goal

pub returns : goal.returns
returns g c = λ P plans ok small m enough. law_stands P plans ok small _ m enough
