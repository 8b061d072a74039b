-- The number of each of load's faults, and the two numbers of its place: line and column, or 0 and the offset.
use Rattle.std.specs.Prelude.{ℕ}
use Rattle.std.specs.declared.convert.Infallible.{Infallible}
use Rattle.source.specs.declared.hex.Position.{Position}
use Rattle.source.specs.declared.hex.TextFault.{TextFault}
use Rattle.source.specs.declared.hex.TextFault.TheVariants.{BadCharacter, LoneDigit}
use Rattle.source.specs.declared.loader.LoadFault.{LoadFault}
use Rattle.source.specs.declared.loader.LoadFault.TheVariants.{TooLong, Unreadable}

abbrev pub numbered : ℕ → Position → ℕ × ℕ × ℕ
numbered number at = (number, at.line, at.column)

abbrev pub text_fault_shown : TextFault → ℕ × ℕ × ℕ
text_fault_shown (BadCharacter at) = numbered 1 at
text_fault_shown (LoneDigit at) = numbered 2 at

abbrev pub text_shown : LoadFault Position TextFault → ℕ × ℕ × ℕ
text_shown (TooLong at) = numbered 3 at
text_shown (Unreadable e) = text_fault_shown e

abbrev pub raw_shown : LoadFault ℕ Infallible → ℕ × ℕ × ℕ
raw_shown (TooLong offset) = (3, 0, offset)
raw_shown (Unreadable e) = elim e [ ]
