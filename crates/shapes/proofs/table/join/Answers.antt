use Rattle.std.proofs.Common.{not, sym, ap, ◌∙◌}
use Rattle.shapes.specs.Records.{shape_in, shape_as}
use Rattle.shapes.proofs.Joining.{stacks_differ, stacks_agree, join_clash, join_same, join_less}
use Rattle.shapes.proofs.table.join.Goals as goal

pub returns-then-ne-clause-met : goal.returns-then-ne-clause-met
returns-then-ne-clause-met c = λ f p q.
    let r = c.args.record.now in
    let x = c.args.shape.now in
    join_clash f p q r.mark (shape_in r) (shape_as x) c.in_default.not-Blank c.in_default.not-Start
    (stacks_differ r.depth r.stack c.as_slice.result.now x.stack c.requires.tidy.stack c.as_slice.ensures.kinds c.ne.result c.ne.ensures c.if-ne.true)

pub returns-then-narrow-clause-met : goal.returns-then-narrow-clause-met
returns-then-narrow-clause-met c = λ f p q.
    let r = c.args.record.now in
    let x = c.args.shape.now in
    join_less f p q r.mark (shape_in r) (shape_as x) c.in_default.not-Blank c.in_default.not-Start c.narrow.new.old c.narrow.ensures.met
    (stacks_agree r.depth r.stack c.as_slice.result.now x.stack c.requires.tidy.stack c.as_slice.ensures.kinds c.ne.result c.ne.ensures c.if-ne.false)
    (ap not (sym c.if-narrow.true) ∙ c.narrow.ensures.changed)

pub returns-else-narrow-clause-met : goal.returns-else-narrow-clause-met
returns-else-narrow-clause-met c = λ f p q.
    let r = c.args.record.now in
    let x = c.args.shape.now in
    join_same f p q r.mark (shape_in r) (shape_as x) c.in_default.not-Blank c.in_default.not-Start c.narrow.new.old c.narrow.ensures.met
    (stacks_agree r.depth r.stack c.as_slice.result.now x.stack c.requires.tidy.stack c.as_slice.ensures.kinds c.ne.result c.ne.ensures c.if-ne.false)
    (ap not (sym c.if-narrow.false) ∙ c.narrow.ensures.changed)
