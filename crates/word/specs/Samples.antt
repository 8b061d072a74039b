-- Worked examples of arithmetic, computed; and that wrapping is the modulus.
use Rattle.std.specs.Prelude.{◌≡◌, ℕ, ◌-◌, ◌^◌, ◌<◌, List, [], ◌∷◌, ℤ, pos, negsuc, ◌+ℤ◌, ◌*ℤ◌, Some, Ok, Err, Result}
use Rattle.bytecode.specs.declared.instruction.Operation.TheVariants.{Div, Rem, Shl}
use Rattle.bytecode.specs.declared.instruction.Instruction.TheVariants.{Bipush}
use Rattle.bytecode.specs.declared.stop.Stop.{Stop}
use Rattle.bytecode.specs.declared.stop.Stop.TheVariants.{Divide}
use Rattle.bytecode.specs.Instructions.{instruction_of}
use Rattle.bytecode.specs.Stops.{gives, stops}
use Rattle.word.specs.Words.{value_of, wrap, compute}

pub record Samples : Type 0 where
  -- −7 by 2 gives −3, remainder −1
  pub quotient : compute Div (wrap (negsuc 6)) (wrap (pos 2)) ≡ gives (wrap (negsuc 2))
  pub remainder : compute Rem (wrap (negsuc 6)) (wrap (pos 2)) ≡ gives (wrap (negsuc 0))
  -- the least word by −1 stops
  pub overflow : compute Div (wrap (negsuc (2 ^ 31 - 1))) (wrap (negsuc 0)) ≡ stops Divide
  pub overflowed : compute Rem (wrap (negsuc (2 ^ 31 - 1))) (wrap (negsuc 0)) ≡ stops Divide
  -- 1 shifted left by 33 is 2
  pub shift : compute Shl (wrap (pos 1)) (wrap (pos 33)) ≡ gives (wrap (pos 2))
  -- bipush 80 (hexadecimal) is −128
  pub byte : instruction_of 0x10 0x80 0 ≡ Some (Bipush (negsuc 127))
  pub extended : value_of (wrap (negsuc 127)) ≡ negsuc 127

-- the word that a whole number wraps to lies below 2^32 and differs from it by a multiple of 2^32
pub record Modulus (z : ℤ) : Type 0 where
  pub below : wrap z < 2 ^ 32
  pub multiple : (k : ℤ) × (z ≡ pos (wrap z) +ℤ (k *ℤ pos (2 ^ 32)))

-- what the calls of the examples answer, in this order
abbrev pub answers : List (Result ℕ Stop)
answers = Ok (wrap (negsuc 2)) ∷ Ok (wrap (negsuc 0)) ∷ Err Divide ∷ Err Divide ∷ Ok 2 ∷ Ok (wrap (negsuc 127)) ∷ []
