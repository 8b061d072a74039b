use Rattle.std.proofs.Common.{◌≡◌, ℕ, ◌+◌, ◌-◌, map, refl, ap, ◌∙◌, arith}
use Rattle.bytecode.specs.Outcome.{good}
use Rattle.bytecode.specs.Program.{Program}
use Rattle.plan.specs.Programs.{variables_at}
use Rattle.plan.specs.Plans.{starts_at}
use Rattle.plan.specs.Sweep.{run, most}
use Rattle.plan.proofs.Acting.{formed_known}
use Rattle.plan.proofs.Judging.{most_bytes}
use Rattle.shapes.specs.Records.{cell_of, shape_as}
use Rattle.std.proofs.lemmas.Result.{err_from_is_err_and}
use Rattle.verifier.specs.Bodies.{program_in}
use Rattle.verifier.proofs.Forming.{well_formed}
use Rattle.verifier.proofs.Taking.{neat_fresh, fresh_size, sweep_refused, sweep_begun, sweep_left, run_stop, run_more, some_left, take_less}
use Rattle.verifier.proofs.body.Body.sweep.Goals as goal

pub go_on-requires-clause-neat : goal.go_on-requires-clause-neat
go_on-requires-clause-neat c = neat_fresh (program_in c.args.self.now) c.args.self.now.function c.args.table.now c.requires.fresh

pub returns-in_err-from-clause-met : goal.returns-in_err-from-clause-met
returns-in_err-from-clause-met c =
    let p = err_from_is_err_and c.from_residual.result c.from_residual.ensures.1 in
    rw (p.1, p.2)
    (sweep_refused (program_in c.args.self.now) c.args.self.now.function c.args.table.now c.requires.fresh c.requires.decoded (shape_as c.entry.result) c.entry.ensures _ c.in_err-from.ensures.met)

pub loop-place-init : goal.loop-place-init
loop-place-init c =
    let P : Program = program_in c.args.self.now in
    let f : ℕ = c.args.self.now.function in
    let h =
    sweep_left P f c.args.table.now c.requires.fresh c.requires.decoded (shape_as c.entry.result) c.entry.ensures (map cell_of c.go_on.new.table) (well_formed c.args.self.now.«package».now)
    c.in_ok-from.ensures.met in
    let z : most P f (starts_at P f) ≡ most P f (starts_at P f) - 0 = omega arith in (
      sweep_begun P f c.args.table.now c.requires.fresh c.requires.decoded (shape_as c.entry.result) c.entry.ensures (map cell_of c.go_on.new.table) c.in_ok-from.ensures.met ∙
          ap (λ k. run P f k 0 (map cell_of c.go_on.new.table)) z,
      omega (arith, h.1),
      h.0,
      c.go_on.ensures.neat,
      c.in_ok-from.ensures.low,
      c.go_on.auto.table ∙ fresh_size P f c.args.table.now c.requires.fresh c.requires.decoded,
    )

pub lowest-requires : goal.lowest-requires
lowest-requires c = c.loop-place.invariant.4

pub visit-requires-clause-size : goal.visit-requires-clause-size
visit-requires-clause-size c = c.loop-place.invariant.5

pub visit-requires-clause-neat : goal.visit-requires-clause-neat
visit-requires-clause-neat c = c.loop-place.invariant.3

pub returns-in_err-from-2-clause-met : goal.returns-in_err-from-2-clause-met
returns-in_err-from-2-clause-met c =
    let p = err_from_is_err_and c.from_residual-in_err-from-2.result c.from_residual-in_err-from-2.ensures.1 in
    let P : Program = program_in c.args.self.now in
    let f : ℕ = c.args.self.now.function in
    let l = some_left P f c.loop-place.table c.in-Some.place c.in-Some.ensures.0 c.in-Some.ensures.1 (variables_at P f) in
    rw (p.1, p.2)
    (c.loop-place.invariant.0 ∙
    run_more P f c.loop-place.table c.in-Some.place c.in-Some.ensures.0 c.in-Some.ensures.1 (most P f (starts_at P f) - c.loop-place.takes) c.loop-place.takes _
    (omega (arith, l, c.loop-place.invariant.1)) c.in_err-from-2.ensures.met)

pub overflow_add-takes : goal.overflow_add-takes
overflow_add-takes c =
    omega (arith, c.loop-place.invariant.1, c.loop-place.invariant.5, most_bytes (program_in c.args.self.now) (well_formed c.args.self.now.«package».now) c.args.self.now.function)

pub loop-place-smaller : goal.loop-place-smaller
loop-place-smaller c =
    (take_less (program_in c.args.self.now) c.args.self.now.function c.loop-place.table c.in-Some.place c.in-Some.ensures.0 c.in-Some.ensures.1 (formed_known (program_in c.args.self.now) (well_formed c.args.self.now.«package».now)) c.visit.new.table c.loop-place.invariant.2
    c.in_ok-from-2.ensures.met).1

pub loop-place-preserved : goal.loop-place-preserved
loop-place-preserved c =
    let P : Program = program_in c.args.self.now in
    let f : ℕ = c.args.self.now.function in
    let n : ℕ = most P f (starts_at P f) in
    let l = take_less P f c.loop-place.table c.in-Some.place c.in-Some.ensures.0 c.in-Some.ensures.1 (formed_known P (well_formed c.args.self.now.«package».now)) c.visit.new.table c.loop-place.invariant.2 c.in_ok-from-2.ensures.met in
    let e : n - c.loop-place.takes - 1 ≡ n - (c.loop-place.takes + 1) = omega arith in (
      c.loop-place.invariant.0 ∙
          run_more P f c.loop-place.table c.in-Some.place c.in-Some.ensures.0 c.in-Some.ensures.1 (n - c.loop-place.takes) c.loop-place.takes (good (map cell_of c.visit.new.table))
          (omega (arith, l.1, c.loop-place.invariant.1)) c.in_ok-from-2.ensures.met ∙
          ap (λ k. run P f k (c.loop-place.takes + 1) (map cell_of c.visit.new.table)) e,
      omega (arith, l.1, c.loop-place.invariant.1),
      l.0,
      c.visit.ensures.neat,
      c.in_ok-from-2.ensures.low,
      c.visit.auto.table ∙ c.loop-place.invariant.5,
    )

pub returns-clause-met : goal.returns-clause-met
returns-clause-met c =
    c.loop-place.invariant.0 ∙ run_stop (program_in c.args.self.now) c.args.self.now.function c.loop-place.table _ refl _ _ c.in_default.ensures

pub returns-clause-neat : goal.returns-clause-neat
returns-clause-neat c = c.loop-place.invariant.3

pub returns-clause-few : goal.returns-clause-few
returns-clause-few c =
    omega (arith, c.loop-place.invariant.1, c.loop-place.invariant.5, most_bytes (program_in c.args.self.now) (well_formed c.args.self.now.«package».now) c.args.self.now.function)
