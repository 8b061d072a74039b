use Rattle.std.proofs.Common.{rules, tests}
use Rattle.std.proofs.lemmas.Iterator.{YieldsList-from_slice}
use Rattle.std.proofs.lemmas.Iterator.Search.{position_from_yields_List}
use Rattle.host.proofs.Finding.{text_found}
use Rattle.host.proofs.text.find_text.Goals as goal

pub returns : goal.returns
returns c =
    let rest = c.in-Some.rest.now in
    text_found c.args.strings.now rest c.args.position c.unwrap_or-size.result c.position.result c.in-Some.ensures.lookup.0.2
    (position_from_yields_List _ _ _ _ c.position.ensures.ran (YieldsList-from_slice rest cc) (λ x b q k. search (rules, tests)))
    c.unwrap_or-size.ensures
