-- What a host is told of a native's arguments, from the slots that hold them.
use Rattle.std.specs.Prelude.{ℕ, List}
use Rattle.bytecode.specs.Program.{Program, Native}
use Rattle.plan.specs.Programs.{nth}
use Rattle.reader.specs.View.{program_of, native_in}
use Rattle.natives.specs.declared.Callee.{Callee}
use Rattle.host.specs.Hosts.{Call}
use Rattle.runtime.specs.Runtime.{arguments_from, numbers_from, text_in}

abbrev pub native_of : Callee → Native
native_of c = native_in (program_of c.program.now) c.native

abbrev pub call_with : Program → Native → List ℕ → Call
call_with P n slots =
    record {
      index = n.index;
      arguments = arguments_from n.signature.arguments slots 0;
      first = text_in P.strings (nth (numbers_from n.signature.arguments slots 0) 0);
      second = text_in P.strings (nth (numbers_from n.signature.arguments slots 0) 1);
    }
