-- What the values that pass between a machine and a host mean.
use Rattle.std.specs.Prelude.{length, take}
use Rattle.bytecode.specs.Program.{Signature}
use Rattle.host.specs.Hosts.{Text, Call}
use Rattle.host.specs.declared.text.Text.{Text as LentText}
use Rattle.host.specs.declared.call.Call.{Call as LentCall}
use Rattle.host.specs.declared.call.Signature.{Signature as LentSignature}
use Rattle.host.specs.declared.line.Line.{Line as LentLine}
use Rattle.host.specs.Lines.{Line}

abbrev pub text_of : LentText → Text
text_of t = record { bytes = t.bytes.now }

abbrev pub call_of : LentCall → Call
call_of c = record { index = c.index; arguments = c.arguments.now; first = text_of c.first; second = text_of c.second }

abbrev pub signature_of : LentSignature → Signature
signature_of g = record { arguments = g.arguments.now; result = g.result }

-- a line host's state: its buffer's length and the bytes written there
abbrev pub line_of : LentLine → Line
line_of line = record { room = length line.room.now; written = take line.len line.room.now }
