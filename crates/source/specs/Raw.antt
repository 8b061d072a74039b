-- What raw bytes mean: each byte with its offset, then the end.
use Rattle.std.specs.Prelude.{ℕ, ◌+◌, List, [], ◌∷◌}
use Rattle.std.specs.declared.convert.Infallible.{Infallible}
use Rattle.source.specs.Rest.{Rest, byte, end}

-- the bytes from an offset on
abbrev pub raw : List ℕ → ℕ → Rest ℕ Infallible
raw [] offset = end
raw (b ∷ bs) offset = byte b offset (raw bs (offset + 1))
