use Rattle.std.proofs.Common.{rules}
use Rattle.reader.specs.Entries.{signature_of}
use Rattle.verifier.proofs.Arguments.{made_padded}
use Rattle.verifier.proofs.effect.argument_variables.Goals as goal

pub returns : goal.returns
returns c = made_padded _ _ (signature_of c.args.signature.now).arguments (λ i y q h. search rules) _ c.requires c.from_fn.ensures.items
