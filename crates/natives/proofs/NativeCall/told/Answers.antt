use Rattle.std.proofs.Common.{◌<◌, get_or, ap, ◌∙◌, arith, length-set}
use Rattle.bytecode.specs.declared.kind.Kind.TheVariants.{Unknown}
use Rattle.runtime.specs.Runtime.{argument_of}
use Rattle.natives.specs.Calls.{native_of}
use Rattle.natives.proofs.Gathering.{arguments_turn}
use Rattle.natives.proofs.NativeCall.told.Goals as goal

pub loop-i-preserved : goal.loop-i-preserved
loop-i-preserved c =
    let mem = c.args.self.now.slots.now in
    let i = c.loop-i.i in
    let room : i < 4 = (let few = c.signature-signature.ensures.few in omega arith) in
    record {
      size = simp length-set (omega arith);
      begun =
          arguments_turn (native_of c.args.self.now.callee).signature.arguments mem c.loop-i.told i c.argument.result (omega arith) (omega arith)
          c.loop-i.invariant.begun (c.argument.ensures ∙ ap (λ k. argument_of k (get_or mem i 0)) (c.argument_kind.ensures ∙ ap (λ g. get_or g.arguments i Unknown) c.signature-signature.ensures.met));
    }
