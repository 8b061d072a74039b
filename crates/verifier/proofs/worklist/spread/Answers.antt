use Rattle.std.proofs.Common.{refl}
use Rattle.std.proofs.lemmas.Result.{err_from_is_err_and}
use Rattle.verifier.proofs.Spreading.{spread_fault, next_and}
use Rattle.verifier.proofs.worklist.spread.Goals as goal

pub returns-in_err-low-in-Branch-clause-met : goal.returns-in_err-low-in-Branch-clause-met
returns-in_err-low-in-Branch-clause-met c =
    let p = err_from_is_err_and c.from_residual.result c.from_residual.ensures.1 in
    rw (p.1, p.2) (spread_fault _ _ _ _ _ _ _ _ (next_and _ _ _ _ _ _ c.size.ensures.exact refl (c.in-Branch.ensures c.args.from.place)) c.in_err-low-in-Branch.ensures.met)
