use Rattle.std.proofs.Common.{◌≡◌, ◌<◌, true, length, is_some, sym, subst, subst₂, arith}
use Rattle.bytecode.specs.Instructions.{decode_at}
use Rattle.bytecode.specs.Program.{Program}
use Rattle.plan.specs.Programs.{function_at}
use Rattle.reader.specs.View.{program_of}
use Rattle.runtime.specs.Runtime.{State}
use Rattle.ready.specs.Ready.{Whole}
use Rattle.execution.specs.View.{state_of}
use Rattle.machine.specs.Runs.{Steps}
use Rattle.machine.proofs.Readiness.{placed, next_step, whole_next, stays}
use Rattle.machine.proofs.step.step.Goals as goal

pub fetch-instruction-requires : goal.fetch-instruction-requires
fetch-instruction-requires g c =
    let P : Program = program_of c.args.program.now in
    let l : State = state_of c.args.execution.now in
    let f = placed P l c.requires.ready in
    let function = sym c.function.ensures in
    let place = sym c.place-place.ensures in
    record {
      there = subst (λ h. h < length P.functions) function f.function;
      inside = subst₂ (λ h p. p < length (function_at P h).code) function place f.inside;
      decodes = subst₂ (λ h p. is_some (decode_at (function_at P h).code p) ≡ true) function place f.decodes;
    }

pub overflow_add-place : goal.overflow_add-place
overflow_add-place g c =
    let P : Program = program_of c.args.program.now in
    let f = placed P (state_of c.args.execution.now) c.requires.ready in
    let a = f.inside in
    let b = f.short in
    let d = c.place-place.ensures in
    let e = c.size.ensures.few in
    omega arith

pub execute-requires : goal.execute-requires
execute-requires g c =
    let P : Program = program_of c.args.program.now in
    let host = g.H.Host.make in
    let l : State = state_of c.args.execution.now in
    let s = g.H.Host.state c.args.host.now in
    let h = next_step P host l s _ _ _ c.fetch-instruction.result c.requires.ready c.function.ensures c.place-place.ensures c.size.ensures.exact c.fetch-instruction.ensures in
    record {
      bounds = (placed P l c.requires.ready).bounds;
      safe = h.0;
      whole = subst Whole h.1 (whole_next P host g.met.H.Host.lawful l s c.requires.ready);
    }

pub returns : goal.returns
returns g c =
    let P : Program = program_of c.args.program.now in
    let host = g.H.Host.make in
    let l : State = state_of c.args.execution.now in
    let m : State = state_of c.execute.new.execution in
    let s = g.H.Host.state c.args.host.now in
    let t = g.H.Host.state c.execute.new.host in
    let h = next_step P host l s _ _ _ c.fetch-instruction.result c.requires.ready c.function.ensures c.place-place.ensures c.size.ensures.exact c.fetch-instruction.ensures in
    let met = subst (Steps c.execute.result l m t) (sym h.1) c.execute.ensures in
    record { met = met; ready = stays P host g.met.H.Host.lawful l m s t c.execute.result c.requires.ready met }
