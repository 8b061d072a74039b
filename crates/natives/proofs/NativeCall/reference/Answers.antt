use Rattle.std.proofs.Common.{rules, tests, ◌∙◌, get_or, ap, sym, zero-add, arith}
use Rattle.std.proofs.lemmas.Iterator.{YieldsList-from_slice, YieldsList-from_map}
use Rattle.std.proofs.lemmas.Iterator.Consumers.{YieldsList-at, YieldsList-from_enumerate, YieldsList-from_filter, nth_from_yields_List}
use Rattle.bytecode.specs.declared.kind.Kind.TheVariants.{Unknown, Reference}
use Rattle.plan.specs.Programs.{nth}
use Rattle.plan.specs.Shapes.{eq_kind}
use Rattle.natives.specs.Calls.{native_of}
use Rattle.natives.proofs.Gathering.{numbers_counted, option_map_same}
use Rattle.natives.proofs.NativeCall.reference.Goals as goal

pub returns : goal.returns
returns c =
    let ks = (native_of c.args.self.now.callee).signature.arguments in
    let mem = c.args.self.now.slots.now in
    sym (option_map_same c.nth.result)
    ∙ nth_from_yields_List c.nth.result _ c.args.position c.nth.ensures.ran
    (YieldsList-from_map _ (λ p. p.1)
    (YieldsList-at c.map.ensures.source
    (YieldsList-from_filter _ (λ p. eq_kind (get_or ks p.0 Unknown) Reference)
    (YieldsList-at c.filter.ensures.source (YieldsList-from_enumerate (YieldsList-from_slice mem cc) cc)) c.filter.ensures.closure (λ x b q k. search (rules, tests))))
    c.map.ensures.closure (λ x r q k. search (rules, tests)))
    ∙ ap (λ ns. nth ns c.args.position)
    (numbers_counted ks ks mem mem 0 (omega arith) (λ j l. ap (λ n. eq_kind (get_or ks n Unknown) Reference) (sym (zero-add j))) (λ j. ap (λ n. get_or mem n 0) (sym (zero-add j))))
