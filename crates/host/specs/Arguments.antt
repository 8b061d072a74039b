-- Arguments taken apart by their kinds.
use Rattle.std.specs.Prelude.{ℕ, Bool, true, false, List, [], ◌∷◌, Some, None, Option}
use Rattle.bytecode.specs.Program.{Signature}
use Rattle.bytecode.specs.declared.kind.Kind.{Kind}
use Rattle.host.specs.declared.call.Argument.{Argument}

-- the signature with these arguments and this result
abbrev pub takes : List Kind → Kind → Option Signature
takes kinds kind = Some (record { arguments = kinds; result = kind })

-- the word, where there is just one argument, a word
abbrev pub one_word : List Argument → Option ℕ
one_word (Argument.Word w ∷ []) = Some w
one_word given = None

-- the words, where there are just two arguments, both words
abbrev pub two_words : List Argument → Option (ℕ × ℕ)
two_words (Argument.Word v ∷ Argument.Word w ∷ []) = Some (v, w)
two_words given = None

-- just one argument, a reference
abbrev pub one_reference : List Argument → Bool
one_reference (Argument.Reference null ∷ []) = true
one_reference given = false

-- just two arguments, both references
abbrev pub two_references : List Argument → Bool
two_references (Argument.Reference null ∷ Argument.Reference other ∷ []) = true
two_references given = false
