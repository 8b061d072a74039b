use Rattle.checked.proofs.Standing.{law_holds}
use Rattle.checked.proofs.law_holds.Goals as goal

pub returns : goal.returns
returns g c = λ P plans ok sizes. law_holds P plans ok (_) sizes
