use Rattle.std.proofs.Common.{◌≡◌, ◌<◌, refl, subst, arith}
use Rattle.machine.specs.Runs.{Going}
use Rattle.machine.proofs.Running.{going_next, run_ends, run_stops, run_continues}
use Rattle.machine.proofs.Machine.go.Goals as goal

pub returns-in-Ok-Some : goal.returns-in-Ok-Some
returns-in-Ok-Some g c =
    let lt : c.loop-used.used < c.args.allowance = omega arith in
    run_ends g.H.Host.make c.args.self.now (g.H.Host.state c.args.host.now) c.requires c.loop-used.used c.args.allowance c.in-Ok-Some.word
    c.loop-used.self _ (g.H.Host.state c.loop-used.host) _ c.loop-used.invariant lt (rw c.in-Ok-Some.field-0-is at c.in-Ok-Some.ensures.met) refl refl

pub returns-in-Err : goal.returns-in-Err
returns-in-Err g c =
    let lt : c.loop-used.used < c.args.allowance = omega arith in
    run_stops g.H.Host.make c.args.self.now (g.H.Host.state c.args.host.now) c.requires c.loop-used.used c.args.allowance c.in-Err.stop
    c.function-function.result c.place-place.result c.loop-used.self _ (g.H.Host.state c.loop-used.host) _ c.loop-used.invariant lt
    c.in-Err.ensures.met refl refl c.function-function.ensures c.place-place.ensures

pub loop-used-preserved : goal.loop-used-preserved
loop-used-preserved g c =
    going_next g.H.Host.make c.args.self.now (g.H.Host.state c.args.host.now) g.met.H.Host.lawful c.loop-used.used c.loop-used.self _
    (g.H.Host.state c.loop-used.host) _ c.loop-used.invariant (rw c.in-Ok-None.field-0-is at c.in-Ok-None.ensures.met) refl refl

pub returns : goal.returns
returns g c =
    let e : c.loop-used.used ≡ c.args.allowance = omega arith in
    let host = g.H.Host.make in
    let s = g.H.Host.state c.args.host.now in
    run_continues host c.args.self.now s c.requires c.args.allowance c.loop-used.self (g.H.Host.state c.loop-used.host)
    (subst (λ k. Going host c.args.self.now s k c.loop-used.self (g.H.Host.state c.loop-used.host)) e c.loop-used.invariant)
