-- The line host: a buffer that a program writes text and numbers to.
use Rattle.std.specs.Prelude.{ℕ, zero, suc, ◌+◌, ◌/◌, ◌%◌, Bool, cond, List, [], ◌∷◌, ◌++◌, length, ℤ, pos, negsuc, Some, None, Option, ◌==◌, nat_le, nat_lt}
use Rattle.std.proofs.Common.{to_z}
use Rattle.std.specs.Int.{w32}
use Rattle.bytecode.specs.Program.{Signature}
use Rattle.bytecode.specs.declared.kind.Kind.TheVariants.{Word, Reference}
use Rattle.host.specs.declared.call.Reply.{Reply}
use Rattle.host.specs.Hosts.{Host, Call, stop_with}
use Rattle.host.specs.Arguments.{takes, one_word, one_reference, two_references}

-- a state: how long the buffer is, and the bytes written there so far
pub record Line : Type 0 where
  pub room : ℕ
  pub written : List ℕ

-- what the line host can be asked for: that bytes be written; the longer of two texts; anything else
pub data Request : Type 0 where
  write : List ℕ → Request
  pick : List ℕ → List ℕ → Request
  other : Request

-- ## Numbers in tens

-- the digits of n, the most significant first, where there are at most k
unfoldable pub tens : ℕ → ℕ → List ℕ
tens zero n = []
tens (suc k) n = cond (nat_lt n 10) ((48 + n) ∷ []) (tens k (n / 10) ++ ((48 + n % 10) ∷ []))

-- a word's value has at most ten digits; 2D stands before those of a negative one. negsuc n is −(n + 1)
abbrev pub in_tens : ℤ → List ℕ
in_tens (pos n) = tens 10 n
in_tens (negsuc n) = 0x2D ∷ tens 10 (n + 1)

-- ## Calls

-- 16 print(a) → w, 17 printint(w) → w, 18 pick(a, a) → a
abbrev pub line_signs : ℕ → Option Signature
line_signs i =
    cond (i == 16) (takes (Reference ∷ []) Word) (
    cond (i == 17) (takes (Word ∷ []) Word) (
    cond (i == 18) (takes (Reference ∷ Reference ∷ []) Reference) None))

abbrev pub printing : Option ℕ → Request
printing None = other
printing (Some w) = write (in_tens (to_z w32 w))

abbrev pub request_of : Call → Request
request_of call =
    cond (call.index == 16) (cond (one_reference call.arguments) (write call.first.bytes) other) (
    cond (call.index == 17) (printing (one_word call.arguments)) (
    cond (call.index == 18) (cond (two_references call.arguments) (pick call.first.bytes call.second.bytes) other) other))

-- whether bytes fit behind those written before
abbrev pub has_room : Line → List ℕ → Bool
has_room line bytes = nat_le (length line.written + length bytes) line.room

-- the longer text, the first if they are equally long: argument 0 is the first reference, argument 1 the second
abbrev pub longer : List ℕ → List ℕ → Reply
longer first second = cond (nat_lt (length first) (length second)) (Reply.Argument 1) (Reply.Argument 0)

abbrev pub line_replies : Line → Request → Reply
line_replies line (write bytes) = cond (has_room line bytes) (Reply.Word 0) (stop_with 3)
line_replies line (pick first second) = longer first second
line_replies line other = stop_with 0

abbrev pub line_becomes : Line → Request → Line
line_becomes line (write bytes) = cond (has_room line bytes) (record { room = line.room; written = line.written ++ bytes }) line
line_becomes line (pick first second) = line
line_becomes line other = line

abbrev pub line_host : Host Line
line_host = record { signs = line_signs; replies = λ line call. line_replies line (request_of call); becomes = λ line call. line_becomes line (request_of call) }
