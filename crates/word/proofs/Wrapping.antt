-- Wrapping is the modulus over whole numbers, and what a product of bits leaves is the product of their values, wrapped.
use Rattle.std.proofs.Common.{◌≡◌, ℕ, ◌*◌, ◌/◌, ◌%◌, ◌^◌, ◌<◌, ℤ, pos, negsuc, ◌*ℤ◌, nat_abs, sym, refl, ap, ◌∙◌, arith, w32, to_z, of_z}
use Rattle.std.specs.Int.{int_rem_euclid, int_wrap}
use Rattle.std.proofs.lemmas.Int.{of_z-to_z, wrapping_mul-bits, ints}
use Rattle.word.specs.Words.{wrap}
use Rattle.word.specs.Samples.{Modulus}

wrap_below : (z : ℤ) → wrap z < 2 ^ 32
wrap_below (pos n) = omega arith
wrap_below (negsuc n) = omega arith

pub wrap_modulus : (z : ℤ) → Modulus z
wrap_modulus (pos n) = record { below = omega arith; multiple = (pos (n / 2 ^ 32), omega (arith, ints)) }
wrap_modulus (negsuc n) = record { below = omega arith; multiple = (negsuc (n / 2 ^ 32), omega (arith, ints)) }

euclid_wrap : (z : ℤ) → nat_abs (int_rem_euclid z (pos (2 ^ 32))) ≡ wrap z
euclid_wrap (pos n) = refl
euclid_wrap (negsuc n) = refl

pub mul_wrap : (m n : ℕ) → m < 2 ^ 32 → n < 2 ^ 32 → (m * n) % 2 ^ 32 ≡ wrap (to_z w32 m *ℤ to_z w32 n)
unfolding int_wrap
mul_wrap m n p q =
    let z : ℤ = to_z w32 m *ℤ to_z w32 n in
    let e : to_z w32 ((m * n) % 2 ^ 32) ≡ to_z w32 (nat_abs (int_rem_euclid z (pos (2 ^ 32)))) = wrapping_mul-bits w32 m n p q in
    let f : to_z w32 ((m * n) % 2 ^ 32) ≡ to_z w32 (wrap z) = e ∙ ap (to_z w32) (euclid_wrap z) in
    sym (of_z-to_z w32 ((m * n) % 2 ^ 32) (omega arith)) ∙ ap (of_z w32) f ∙ of_z-to_z w32 (wrap z) (wrap_below z)
