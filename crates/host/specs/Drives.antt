-- The drive host: 32 words that a program reads and writes.
use Rattle.std.specs.Prelude.{ℕ, ◌%◌, ◌^◌, cond, List, [], ◌∷◌, set as write, Some, None, Option, ◌==◌, nat_lt, slice_index}
use Rattle.bytecode.specs.Program.{Signature}
use Rattle.bytecode.specs.declared.kind.Kind.TheVariants.{Word}
use Rattle.host.specs.declared.call.Reply.{Reply}
use Rattle.host.specs.Hosts.{Host, Call, stop_with}
use Rattle.host.specs.Arguments.{takes, one_word, two_words}

-- what the drive host can be asked for: the word at an index; that another be put in its place; anything else
pub data Request : Type 0 where
  get : ℕ → Request
  set : ℕ → ℕ → Request
  other : Request

-- 0 get(w) → w and 1 set(w, w) → w, the index first
abbrev pub drive_signs : ℕ → Option Signature
drive_signs i = cond (i == 0) (takes (Word ∷ []) Word) (cond (i == 1) (takes (Word ∷ Word ∷ []) Word) None)

abbrev pub getting : Option ℕ → Request
getting None = other
getting (Some i) = get i

abbrev pub setting : Option (ℕ × ℕ) → Request
setting None = other
setting (Some p) = set p.0 p.1

abbrev pub request_of : Call → Request
request_of call = cond (call.index == 0) (getting (one_word call.arguments)) (cond (call.index == 1) (setting (two_words call.arguments)) other)

-- the word at an index, by its 32 bits
abbrev pub word_at : List ℕ → ℕ → ℕ
word_at words i = slice_index words i % 2 ^ 32

-- the word at an index from 0 to 31; the bits of a negative index are above that
abbrev pub reading : List ℕ → ℕ → Reply
reading words i = cond (nat_lt i 32) (Reply.Word (word_at words i)) (stop_with 1)

-- set answers the old word
abbrev pub drive_replies : List ℕ → Request → Reply
drive_replies words (get i) = reading words i
drive_replies words (set i w) = reading words i
drive_replies words other = stop_with 0

abbrev pub drive_becomes : List ℕ → Request → List ℕ
drive_becomes words (get i) = words
drive_becomes words (set i w) = cond (nat_lt i 32) (write words i w) words
drive_becomes words other = words

-- a state is the words
abbrev pub drive_host : Host (List ℕ)
drive_host = record { signs = drive_signs; replies = λ words call. drive_replies words (request_of call); becomes = λ words call. drive_becomes words (request_of call) }
