use Rattle.std.proofs.Common.{rules, tests, ◌≡◌, ◌∙◌, length, get_or, ap, arith}
use Rattle.std.proofs.lemmas.Iterator.{YieldsList-from_slice}
use Rattle.std.proofs.lemmas.Iterator.Search.{all_from_yields_List}
use Rattle.std.proofs.lemmas.Iterator.Consumers.{YieldsList-from_enumerate}
use Rattle.bytecode.specs.declared.kind.Kind.TheVariants.{Unknown}
use Rattle.plan.specs.Shapes.{eq_kind}
use Rattle.natives.specs.Calls.{native_of}
use Rattle.natives.proofs.Gathering.{kinds_counted}
use Rattle.natives.proofs.Callee.takes.Goals as goal

pub returns-then-kinds-argument_count : goal.returns-then-kinds-argument_count
returns-then-kinds-argument_count c =
    let ks = (native_of c.args.self.now).signature.arguments in
    let size : length c.args.kinds.now ≡ length ks = c.if-kinds-argument_count.true ∙ c.argument_count.ensures ∙ ap (λ g. length g.arguments) c.signature-signature.ensures.met in
    all_from_yields_List (λ p. eq_kind (get_or ks p.0 Unknown) p.1) _ _ _ c.all.ensures.ran
    (YieldsList-from_enumerate (YieldsList-from_slice c.args.kinds.now cc) cc) (λ x b q k. search (rules, tests))
    ∙ kinds_counted ks c.args.kinds.now 0 (omega arith)
