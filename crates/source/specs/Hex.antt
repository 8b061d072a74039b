-- What hex text means: its bytes, each placed at the line and column of its first digit, then its end or its first fault.
use Rattle.std.specs.Prelude.{ℕ, ◌+◌, ◌-◌, ◌*◌, Bool, cond, ◌&&◌, ◌||◌, List, [], ◌∷◌, Some, None, Option, ◌==◌, nat_le}
use Rattle.source.specs.declared.hex.Position.{Position}
use Rattle.source.specs.declared.hex.TextFault.{TextFault}
use Rattle.source.specs.declared.hex.TextFault.TheVariants.{BadCharacter, LoneDigit}
use Rattle.source.specs.Rest.{Rest, byte, end, fault}

-- the value of a hex digit: 0 to 9, A to F or a to f
abbrev pub digit_of : ℕ → Option ℕ
digit_of c =
    cond (nat_le 0x30 c && nat_le c 0x39) (Some (c - 0x30)) (
    cond (nat_le 0x41 c && nat_le c 0x46) (Some (c - 0x41 + 10)) (
    cond (nat_le 0x61 c && nat_le c 0x66) (Some (c - 0x61 + 10)) None))

-- space, tab, 0A and 0D
abbrev pub blank : ℕ → Bool
blank c = c == 0x20 || c == 0x09 || c == 0x0A || c == 0x0D

-- lines and columns count from 1
abbrev pub top_left : Position
top_left = record { line = 1; column = 1 }

abbrev pub right : Position → Position
right at = record { line = at.line; column = at.column + 1 }

-- the position after a character: only 0A ends a line
abbrev pub advanced : ℕ → Position → Position
advanced c at = cond (c == 0x0A) (record { line = at.line + 1; column = 1 }) (right at)

unfoldable mutual
  -- the text from a position between bytes on; 0x23 is #
  pub between : List ℕ → Position → Rest Position TextFault
  between [] at = end
  between (c ∷ cs) at =
      elim (digit_of c) [
        | Some high ↦ second cs high at
        | None ↦
            cond (blank c) (between cs (advanced c at)) (
            cond (c == 0x23) (comment cs (advanced c at)) (
            fault (BadCharacter at)))
      ]

  -- the text after a first digit, which stands at `at`
  pub second : List ℕ → ℕ → Position → Rest Position TextFault
  second [] high at = fault (LoneDigit at)
  second (d ∷ cs) high at =
      elim (digit_of d) [
        | Some low ↦ byte (high * 16 + low) at (between cs (right (right at)))
        | None ↦ fault (LoneDigit at)
      ]

  -- the text from a position within a comment on
  pub comment : List ℕ → Position → Rest Position TextFault
  comment [] at = end
  comment (c ∷ cs) at = cond (c == 0x0A) (between cs (advanced c at)) (comment cs (advanced c at))

abbrev pub hex_text : List ℕ → Rest Position TextFault
hex_text text = between text top_left
