use Rattle.std.proofs.Common.{◌≡◌, drop, Some, Ok, sym, ap, ◌∙◌}
use Rattle.source.specs.Rest.{next_of, place_of}
use Rattle.source.specs.Hex.{between}
use Rattle.source.proofs.Characters.{byte-answered-at}
use Rattle.source.proofs.hex.HexTextSource.place.Goals as goal

pub returns-in-Ok-Some : goal.returns-in-Ok-Some
returns-in-Ok-Some c =
    let t = c.args.self.now.text.now in
    let start = c.skip_blanks-start.result in
    let told : next_of (between (drop start.offset t) start.at) ≡ Ok (Some c.in-Ok-Some._byte) = let e = c.in-Ok-Some.ensures in cc in
    let found = byte-answered-at t start.offset start.at c.in-Ok-Some._byte c.skip_blanks-start.ensures.passed told in
    sym (ap place_of (sym c.skip_blanks-start.ensures.same ∙ found.1))
