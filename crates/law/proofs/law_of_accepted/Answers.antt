use Rattle.runtime.proofs.Standing.{law_stands}
use Rattle.verifier.specs.Checking.{meaning_of}
use Rattle.law.proofs.Admitting.{small, accepted}
use Rattle.law.proofs.law_of_accepted.Goals as goal

pub returns : goal.returns
returns g c = λ p h plans fullest m enough. law_stands (meaning_of p) plans (accepted p plans fullest) (small p.contents) _ m enough
