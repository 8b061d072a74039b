use Rattle.std.proofs.Common.{◌≡◌, ◌+◌, ◌-◌, true, false, map, length, get_or, set, replicate, sym, ap, ◌∙◌, arith}
use Rattle.bytecode.specs.Instructions.{walk}
use Rattle.bytecode.specs.Outcome.{bad, shown}
use Rattle.shapes.specs.Records.{no_record}
use Rattle.verifier.specs.Fresh.{marks_start, fresh_record}
use Rattle.verifier.proofs.Walking.{walk_more, walk_fault, walk_end, starts_blank, fresh_started, marks_started}
use Rattle.verifier.proofs.starts.mark_starts.Goals as goal

pub loop-place-init : goal.loop-place-init
loop-place-init c =
    let e : map marks_start c.args.table.now ≡ replicate (length c.args.code.now) false = ap (map marks_start) c.requires.blank ∙ starts_blank (length c.args.code.now) in (
      (length c.args.code.now, omega arith, ap (walk c.args.function c.args.code.now (length c.args.code.now) 0) (sym e)),
      c.requires.blank ∙ ap (map fresh_record) (sym e),
    )

pub returns-in_default-clause-met : goal.returns-in_default-clause-met
returns-in_default-clause-met c =
    c.loop-place.invariant.0.2 ∙
    walk_fault c.args.function c.args.code.now c.loop-place.invariant.0.0 c.loop-place.place (map marks_start c.loop-place.table) c.loop-place.invariant.0.1 c.loop-place-test.true
    (sym c.in_default.ensures.met) ∙
    ap (λ e. bad (shown e)) (sym c.refusal.ensures)

pub loop-place-preserved : goal.loop-place-preserved
loop-place-preserved c =
    let k = c.loop-place.invariant.0.0 in
    let r = get_or c.loop-place.table c.loop-place.place no_record in (
      (
        k - 1,
        omega (arith, c.loop-place.invariant.0.1, c.size-place.ensures.some),
        c.loop-place.invariant.0.2 ∙
            walk_more c.args.function c.args.code.now k c.loop-place.place (map marks_start c.loop-place.table) c.loop-place.invariant.0.1 c.loop-place-test.true c.in-Some.instruction
            (sym c.in-Some.ensures.met) ∙
            ap (λ n. walk c.args.function c.args.code.now (k - 1) (c.loop-place.place + n) (set (map marks_start c.loop-place.table) c.loop-place.place true)) (sym c.size-place.ensures.exact) ∙
            ap (walk c.args.function c.args.code.now (k - 1) (c.loop-place.place + c.size-place.result)) (sym (marks_started c.loop-place.table c.loop-place.place r)),
      ),
      fresh_started c.loop-place.table c.loop-place.place c.loop-place.invariant.1,
    )

pub returns-clause-met : goal.returns-clause-met
returns-clause-met c =
    c.loop-place.invariant.0.2 ∙ walk_end c.args.function c.args.code.now c.loop-place.invariant.0.0 c.loop-place.place (map marks_start c.loop-place.table) c.loop-place-test.false
