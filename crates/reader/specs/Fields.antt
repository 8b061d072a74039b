-- Fields of a package by their offsets, and what stands there.
use Rattle.std.specs.Prelude.{ℕ, ◌+◌, ◌*◌, Bool, cond, List, length, take, drop, nat_le, slice_index}
use Rattle.bytecode.specs.Outcome.{Out, good, refuse}

abbrev pub byte : List ℕ → ℕ → ℕ
byte bs p = slice_index bs p

-- two bytes and four bytes, the most significant first
abbrev pub two : List ℕ → ℕ → ℕ
two bs p = byte bs p * 256 + byte bs (p + 1)

abbrev pub four : List ℕ → ℕ → ℕ
four bs p = two bs p * 65536 + two bs (p + 2)

-- two bytes, the least significant first
abbrev pub two_low : List ℕ → ℕ → ℕ
two_low bs p = byte bs p + byte bs (p + 1) * 256

-- n bytes, the first of them at p
abbrev pub bytes_from : List ℕ → ℕ → ℕ → List ℕ
bytes_from bs p n = take n (drop p bs)

-- a field of n bytes at p, whose value is x: it is cut (10) where the package ends before it
abbrev pub field : {A : Type 0} → List ℕ → ℕ → ℕ → A → Out A
field bs p n x = cond (nat_le (p + n) (length bs)) (good x) (refuse 10 p)

abbrev pub byte_at : List ℕ → ℕ → Out ℕ
byte_at bs p = field bs p 1 (byte bs p)

abbrev pub two_at : List ℕ → ℕ → Out ℕ
two_at bs p = field bs p 2 (two bs p)

abbrev pub four_at : List ℕ → ℕ → Out ℕ
four_at bs p = field bs p 4 (four bs p)

abbrev pub bytes_at : List ℕ → ℕ → ℕ → Out (List ℕ)
bytes_at bs p n = field bs p n (bytes_from bs p n)

-- a reading goes on with x if it passes a test, or else is refused with a number at an offset
abbrev pub test : {A : Type 0} → Bool → ℕ → ℕ → Out A → Out A
test passed n p x = cond passed x (refuse n p)
