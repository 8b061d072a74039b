use Rattle.std.proofs.Common.{rules, ◌≤◌, ◌∷◌, [], length, sym, ap, ◌∙◌, subst, arith}
use Rattle.bytecode.specs.Outcome.{good}
use Rattle.plan.specs.Programs.{AllKnown}
use Rattle.plan.specs.Effects.{replace, room}
use Rattle.shapes.specs.Acts.{one_or_none}
use Rattle.shapes.proofs.Acting.{replace_right, room_lowered}
use Rattle.shapes.proofs.Comparing.{on_top}
use Rattle.shapes.proofs.Stacks.{stack_long, stack_lowered, stack_below, stacked_lowered}
use Rattle.shapes.proofs.Knowing.{known_below}
use Rattle.shapes.proofs.kinds.Kinds.replace.Goals as goal

pub invariant_of-self : goal.invariant_of-self
invariant_of-self c = stacked_lowered _ c.self.inside.count c.self.inside.entries c.fill.new.self c.self.invariant (omega arith) (c.fill.ensures.after (λ y e. search rules))

pub invariant_of-self-in-None : goal.invariant_of-self-in-None
invariant_of-self-in-None c = stacked_lowered _ c.self.inside.count c.self.inside.entries c.fill.new.self c.self.invariant (omega arith) (c.fill.ensures.after (λ y e. search rules))

pub returns-in-Some-clause-met : goal.returns-in-Some-clause-met
returns-in-Some-clause-met c = λ f p.
    let n = stack_long _ _ _ c.taken.view_is in
    let m = stack_long _ _ _ c.self.view_is in
    let h : length c.args.taken.now ≤ length c.args.self.now = omega arith in
    let kept = stack_below _ c.self.inside.count c.self.inside.entries c.fill.new.self c.self.invariant (omega arith) (c.fill.ensures.after (λ y e. search rules)) in
    ap (λ o. replace f p c.args.taken.now (one_or_none o) c.args.self.now) c.in-Some.is ∙
    replace_right f p c.args.taken.now (c.in-Some.kind ∷ []) c.args.self.now h
    (on_top _ _ c.as_slice.result.now c.as_slice-2.result.now c.as_slice.ensures.kinds c.as_slice-2.ensures.kinds h ∙
    sym c.ends_with.ensures.value ∙ c.if-not-ends_with.false) ∙
    ap (λ st. room f p (c.in-Some.kind ∷ st)) (stack_lowered _ _ _ _ _ c.self.view_is n c.if-self-taken.false ∙ sym kept) ∙
    c.push.ensures.met f p

pub returns-in-None-clause-met : goal.returns-in-None-clause-met
returns-in-None-clause-met c = λ f p.
    let n = stack_long _ _ _ c.taken.view_is in
    let m = stack_long _ _ _ c.self.view_is in
    let h : length c.args.taken.now ≤ length c.args.self.now = omega arith in
    let few : length c.args.self.now ≤ 32 = (let z = c.self.invariant.low in omega arith) in
    let kept = stack_below _ c.self.inside.count c.self.inside.entries c.fill.new.self c.self.invariant (omega arith) (c.fill.ensures.after (λ y e. search rules)) in
    ap (λ o. replace f p c.args.taken.now (one_or_none o) c.args.self.now) c.in-None.is ∙
    replace_right f p c.args.taken.now [] c.args.self.now h
    (on_top _ _ c.as_slice.result.now c.as_slice-2.result.now c.as_slice.ensures.kinds c.as_slice-2.ensures.kinds h ∙
    sym c.ends_with.ensures.value ∙ c.if-not-ends_with.false) ∙
    room_lowered f p c.args.self.now (length c.args.taken.now) few ∙
    ap good (stack_lowered _ _ _ _ _ c.self.view_is n c.if-self-taken.false ∙ sym kept)

pub returns-in-Some-clause-known : goal.returns-in-Some-clause-known
returns-in-Some-clause-known c = λ left h.
    let kept = stack_below _ c.self.inside.count c.self.inside.entries c.fill.new.self c.self.invariant (omega arith) (c.fill.ensures.after (λ y e. search rules)) in
    c.push.ensures.known (subst (λ o. AllKnown (one_or_none o)) c.in-Some.is left).0
    (subst AllKnown (sym kept) (known_below _ c.self.inside.count c.self.inside.entries (omega arith) (subst AllKnown (sym c.self.view_is) h)))

pub returns-in-None-clause-known : goal.returns-in-None-clause-known
returns-in-None-clause-known c = λ left h.
    let kept = stack_below _ c.self.inside.count c.self.inside.entries c.fill.new.self c.self.invariant (omega arith) (c.fill.ensures.after (λ y e. search rules)) in
    subst AllKnown (sym kept) (known_below _ c.self.inside.count c.self.inside.entries (omega arith) (subst AllKnown (sym c.self.view_is) h))
