-- Arithmetic and comparisons of words. A word is its 32 bits, a number below 2^32; its value is a signed whole number.
use Rattle.std.specs.Prelude.{ℕ, ◌-◌, ◌*◌, ◌%◌, ◌^◌, Bool, ◌&&◌, ◌||◌, cond, ℤ, pos, negsuc, ◌+ℤ◌, ◌-ℤ◌, ◌*ℤ◌, Ok, Err, Result, ◌==◌, bit_and, bit_or, bit_xor, int_div, int_le, int_lt, int_rem}
use Rattle.std.specs.Int.Signed.{shr_z}
use Rattle.std.proofs.Common.{to_z}
use Rattle.std.specs.Int.{w32}
use Rattle.bytecode.specs.declared.instruction.Operation.{Operation}
use Rattle.bytecode.specs.declared.instruction.Operation.TheVariants.{Add, Sub, Mul, Div, Rem, And, Or, Xor, Shl, Shr}
use Rattle.bytecode.specs.declared.instruction.Order.{Order}
use Rattle.bytecode.specs.declared.instruction.Order.TheVariants.{Less, GreaterOrEqual, Greater, LessOrEqual}
use Rattle.bytecode.specs.declared.stop.Stop.{Stop}
use Rattle.bytecode.specs.declared.stop.Stop.TheVariants.{Divide}
use Rattle.bytecode.specs.Stops.{Attempt, gives, stops}

-- two's complement: bits below 2^31 are the value, others are 2^32 above it
abbrev pub value_of : ℕ → ℤ
value_of bits = to_z w32 bits

-- a whole number modulo 2^32, from 0 up: the bits of the word that it wraps to. negsuc n is −(n + 1)
abbrev pub wrap : ℤ → ℕ
wrap (pos n) = n % 2 ^ 32
wrap (negsuc n) = (2 ^ 32 - 1) - n % 2 ^ 32

-- no quotient: the divisor is 0, or the least word (−2^31) is divided by −1
abbrev pub undivided : ℕ → ℕ → Bool
undivided x y = y == 0 || (x == 2 ^ 31 && y == 2 ^ 32 - 1)

-- x is the word that was pushed first, y the one on top. int_div drops the fraction, int_rem has the sign of the dividend, and
-- shr_z rounds down, so that it keeps the sign. A shift uses the low five bits of its count; a left shift drops bits above the word.
abbrev pub compute : Operation → ℕ → ℕ → Attempt ℕ
compute Add x y = gives (wrap (value_of x +ℤ value_of y))
compute Sub x y = gives (wrap (value_of x -ℤ value_of y))
compute Mul x y = gives (wrap (value_of x *ℤ value_of y))
compute Div x y = cond (undivided x y) (stops Divide) (gives (wrap (int_div (value_of x) (value_of y))))
compute Rem x y = cond (undivided x y) (stops Divide) (gives (wrap (int_rem (value_of x) (value_of y))))
compute And x y = gives (bit_and x y)
compute Or x y = gives (bit_or x y)
compute Xor x y = gives (bit_xor x y)
compute Shl x y = gives ((x * 2 ^ (y % 32)) % 2 ^ 32)
compute Shr x y = gives (wrap (shr_z (value_of x) (2 ^ (y % 32))))

-- how the values of x and y compare
abbrev pub holds : Order → ℕ → ℕ → Bool
holds Less x y = int_lt (value_of x) (value_of y)
holds GreaterOrEqual x y = int_le (value_of y) (value_of x)
holds Greater x y = int_lt (value_of y) (value_of x)
holds LessOrEqual x y = int_le (value_of x) (value_of y)

-- what an answer says
abbrev pub attempted : Result ℕ Stop → Attempt ℕ
attempted (Ok w) = gives w
attempted (Err e) = stops e
