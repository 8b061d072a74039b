use Rattle.std.proofs.Common.{◌≡◌, sym, ap, ◌∙◌, subst₂}
use Rattle.std.proofs.lemmas.Grind.{merely}
use Rattle.reader.specs.View.{program_of}
use Rattle.checked.specs.Runs.{live}
use Rattle.runtime.specs.Runtime.{begins}
use Rattle.runtime.proofs.Standing.{law_stands}
use Rattle.ready.specs.Ready.{Ready}
use Rattle.execution.specs.View.{state_of, beginning}
use Rattle.verifier.specs.Checking.{meaning_of}
use Rattle.law.proofs.Admitting.{small, accepted}
use Rattle.machine.specs.View.{memory_in}
use Rattle.machine.proofs.Starting.{start_ready, start_enough}
use Rattle.machine.proofs.Machine.start.Goals as goal

pub returns : goal.returns
returns c =
    let p = c.args.program in
    let m = c.args.memory in
    let begun : state_of c.new.result ≡ begins (meaning_of p) m.slots.now m.frames.now (memory_in m).storage =
    c.new.ensures ∙ ap (λ v. beginning v m) c.main_variables.ensures.met in
    record {
      begun = ap (live 0) begun;
      program = c.contents.ensures;
      ready = subst₂ (λ x l. Ready (program_of x) l) (sym c.contents.ensures) (sym begun) (start_ready p c.requires.checked m c.requires.allowed);
      law = λ plans fullest.
          law_stands (meaning_of p) plans (accepted p plans fullest) (small p.contents) _ (memory_in m) (start_enough p m c.requires.allowed);
    }

pub invariant_of-result : goal.invariant_of-result
invariant_of-result c =
    let p = c.args.program in
    let m = c.args.memory in
    let begun : state_of c.new.result ≡ begins (meaning_of p) m.slots.now m.frames.now (memory_in m).storage =
    c.new.ensures ∙ ap (λ v. beginning v m) c.main_variables.ensures.met in
    record { ready = merely (subst₂ (λ x l. Ready (program_of x) l) (sym c.contents.ensures) (sym begun) (start_ready p c.requires.checked m c.requires.allowed)) }
