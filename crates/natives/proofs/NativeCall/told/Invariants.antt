use Rattle.std.proofs.Common.{◌≡◌, length, take}
use Rattle.runtime.specs.Runtime.{arguments_from}
use Rattle.natives.specs.Calls.{native_of}
use Rattle.natives.proofs.NativeCall.told.Given as goal

abbrev pub invariant-loop-i : goal.invariant-loop-i
invariant-loop-i l = record {
  size : length l.told ≡ 4;
  begun : take l.i l.told ≡ take l.i (arguments_from (native_of l.self.callee).signature.arguments l.self.slots.now 0);
}
