use Rattle.std.proofs.Common.{sym, ap, ◌∙◌, arith}
use Rattle.std.proofs.lemmas.Result.{err_from_is_err_and}
use Rattle.bytecode.specs.Outcome.{bad, shown}
use Rattle.shapes.specs.Acts.{met_at}
use Rattle.verifier.proofs.Faults.{told_fault}
use Rattle.verifier.proofs.Spreading.{put_past, put_fault, bound_marked}
use Rattle.verifier.proofs.worklist.go_on.Goals as goal

pub returns-then-place-table-clause-met : goal.returns-then-place-table-clause-met
returns-then-place-table-clause-met c =
    put_past _ _ c.args.table.now c.args.to _ c.in-Some.place c.in-Some.is c.if-place-table.true ∙ ap (λ e. bad (shown e)) (sym c.refusal-then-place-table.ensures)

pub returns-in_err-meeting-clause-met : goal.returns-in_err-meeting-clause-met
returns-in_err-meeting-clause-met c =
    let p = err_from_is_err_and c.from_residual.result c.from_residual.ensures.1 in
    rw (p.1, p.2)
    (put_fault _ _ c.args.table.now c.args.to _ c.in-Some.place _ c.in-Some.is
    (told_fault c.args.from.function (met_at c.args.from.place c.in-Some.place) _ _ c.join.result c.meeting.result (c.join.ensures.met c.args.from.function c.args.from.place c.in-Some.place)
    c.meeting.ensures _ c.in_err-meeting.was))

pub returns-in-Due-clause-low : goal.returns-in-Due-clause-low
returns-in-Due-clause-low c = bound_marked c.args.table.now c.args.low c.in-Some.place _ c.requires.low _ (omega (arith, c.min.ensures)) (omega (arith, c.min.ensures))
