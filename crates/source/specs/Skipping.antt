-- Where the code stops that passes blanks and comments.
use Rattle.std.specs.Prelude.{◌≡◌, ℕ, false, ◌≢◌}
use Rattle.source.specs.Hex.{blank}

-- a character that neither is blank nor begins a comment
abbrev pub Solid : ℕ → Type 0
Solid c = (blank c ≡ false) × (c ≢ 0x23)
