use Rattle.std.proofs.Common.{◌≡◌, ℕ, Err, replicate, sym, ap, ◌∙◌}
use Rattle.std.proofs.lemmas.Result.{err_from_is_err_and}
use Rattle.source.specs.Load.{loaded}
use Rattle.source.proofs.Loading.{joined, zeroed}
use Rattle.source.proofs.loader.load.Goals as goal

pub returns-in_err-count : goal.returns-in_err-count
returns-in_err-count g c =
    let p = err_from_is_err_and c.from_residual.result c.from_residual.ensures.1 in
    let start = g.S.Source.rest c.args.source.now in
    let before = c.args.buffer.now in
    let answer : Err c.in_err-count.field-0.0 ≡ (loaded start before).answer = sym c.in_err-count.was ∙ c.copy_all.ensures.answer in
    let zero = c.drop-guard.ensures ∙ ap (λ (n : ℕ). replicate n 0) c.copy_all.auto.bytes ∙ zeroed start before c.in_err-count.field-0.0 answer in
    joined (loaded start before) (p.1 ∙ ap Err p.2 ∙ answer) zero c.copy_all.ensures.left

pub returns : goal.returns
returns g c =
    let start = g.S.Source.rest c.args.source.now in
    let before = c.args.buffer.now in
    joined (loaded start before) (sym c.in_ok-count.was ∙ c.copy_all.ensures.answer) (c.drop-guard-2.ensures ∙ c.in_ok-count.ensures.memory) c.copy_all.ensures.left
