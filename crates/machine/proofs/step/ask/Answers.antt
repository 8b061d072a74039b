use Rattle.std.proofs.Common.{◌≡◌, ℕ, length, ap, sym, ◌∙◌}
use Rattle.bytecode.specs.Program.{Program, Native}
use Rattle.host.specs.declared.call.Reply.{Reply}
use Rattle.reader.specs.View.{program_of}
use Rattle.runtime.specs.Runtime.{State, Came, went, pushed, first_argument, replied, lifted}
use Rattle.ready.specs.Ready.{native_at}
use Rattle.execution.specs.View.{state_of}
use Rattle.machine.proofs.Asking.{calling, put_first, reply_is, given_there, given_is}
use Rattle.machine.proofs.step.ask.Goals.{in-Word, in-Null, in-Argument}
use Rattle.machine.proofs.step.ask.Goals as goal

pub unwrap-value-requires : goal.unwrap-value-requires
unwrap-value-requires g c =
    let P : Program = program_of c.args.program.now in
    let l : State = state_of c.args.execution.now in
    let count = c.argument_count.ensures ∙ ap (λ h. length h.arguments) c.native_signature.ensures.met in
    let h = calling P g.H.Host.make l _ c.args.native _ _ _ _ _ c.requires.safe.0 c.requires.safe.1 c.if-not-agrees.ensures c.signature.ensures c.native_index.ensures
    (ap state_of c.top-top.ensures.same) c.top-top.ensures.value count c.part.ensures in
    given_there P g.H.Host.make l c.args.next c.args.native (g.H.Host.state c.args.host.now) _ h c.requires.whole c.in-Argument.position c.reference.result
    c.in-Argument.ensures.reply c.reference.ensures

pub returns-in-Stop : goal.returns-in-Stop
returns-in-Stop g c =
    let P : Program = program_of c.args.program.now in
    let l : State = state_of c.args.execution.now in
    let same = ap state_of c.top-top.ensures.same in
    let count = c.argument_count.ensures ∙ ap (λ h. length h.arguments) c.native_signature.ensures.met in
    let h = calling P g.H.Host.make l _ c.args.native _ _ _ _ _ c.requires.safe.0 c.requires.safe.1 c.if-not-agrees.ensures c.signature.ensures c.native_index.ensures
    same c.top-top.ensures.value count c.part.ensures in (
      reply_is P g.H.Host.make l c.args.next c.args.native (g.H.Host.state c.args.host.now) _ h (Reply.Stop c.in-Stop.fault) (g.H.Host.state c.call.new.host)
          c.in-Stop.ensures.reply c.in-Stop.ensures.after,
      same,
    )

pub returns : goal.returns
returns g c =
    let P : Program = program_of c.args.program.now in
    let n : Native = native_at P c.args.native in
    let l : State = state_of c.args.execution.now in
    let q = c.args.next in
    let s = g.H.Host.state c.args.host.now in
    let same = ap state_of c.top-top.ensures.same in
    let count = c.argument_count.ensures ∙ ap (λ h. length h.arguments) c.native_signature.ensures.met in
    let h = calling P g.H.Host.make l _ c.args.native _ _ _ _ _ c.requires.safe.0 c.requires.safe.1 c.if-not-agrees.ensures c.signature.ensures c.native_index.ensures
    same c.top-top.ensures.value count c.part.ensures in
    let put : ℕ → Came = λ v. went (pushed l q (first_argument l n) v) in
    let value_is : put c.match-call.value ≡ replied l q n c.call.result =
    elim c.match-call.branch [
      | in-Word w ↦ ap put w.value-is ∙ ap (replied l q n) (sym w.in-Word.is)
      | in-Null w ↦ ap put w.value-is ∙ ap (replied l q n) (sym w.in-Null.is)
      | in-Argument w ↦
          ap put w.value-is
          ∙ given_is P g.H.Host.make l q c.args.native s _ h w.in-Argument.position w.unwrap-value.result w.reference.result w.reference.ensures w.unwrap-value.ensures
          ∙ ap (replied l q n) (sym w.in-Argument.is)
    ] in
    ap (lifted (g.H.Host.state c.call.new.host))
    (ap went c.put.ensures ∙ put_first l (state_of c.top-top.new.self) n q c.top-top.result c.argument_count.result c.match-call.value same c.top-top.ensures.value count ∙ value_is)
    ∙ reply_is P g.H.Host.make l q c.args.native s _ h c.call.result (g.H.Host.state c.call.new.host) c.call.ensures.reply c.call.ensures.after
