use Rattle.std.proofs.Common.{sym, ap, ◌∙◌}
use Rattle.std.proofs.lemmas.Result.{err_from_is_err_and}
use Rattle.bytecode.specs.Instructions.{decode_at}
use Rattle.plan.specs.Effects.{effect}
use Rattle.verifier.specs.Bodies.{program_in}
use Rattle.verifier.proofs.Faults.{told_fault}
use Rattle.verifier.proofs.Taking.{visit_refused, settled_shape}
use Rattle.verifier.proofs.body.Body.visit.Goals as goal

pub returns-in_err-answer-clause-met : goal.returns-in_err-answer-clause-met
returns-in_err-answer-clause-met c =
    let p = err_from_is_err_and c.from_residual.result c.from_residual.ensures.1 in
    rw (p.1, p.2)
    (visit_refused (program_in c.args.self.now) c.args.self.now.function c.args.table.now c.args.place c.in-Some.instruction _
    (ap (λ code. decode_at code c.args.place) (sym c.args.self.now.coded) ∙ sym c.in-Some.ensures.met)
    (ap (effect (program_in c.args.self.now) c.args.self.now.function c.args.place c.in-Some.instruction) (sym (c.shape-shape.ensures ∙ settled_shape c.args.table.now c.args.place c.requires.some)) ∙
    told_fault c.args.self.now.function (λ _. c.args.place) _ _ c.apply.result c.answer.result (c.apply.ensures c.args.place) c.answer.ensures _ c.in_err-answer.was))
