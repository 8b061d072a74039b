use Rattle.word.proofs.Wrapping.{wrap_modulus}
use Rattle.word.proofs.samples.Goals as goal

pub returns-clause-modulus : goal.returns-clause-modulus
returns-clause-modulus c = wrap_modulus
