-- What a source means: the bytes to come, each with its place, then an end or a fault.
use Rattle.std.specs.Prelude.{ℕ, Some, None, Ok, Err, Option, Result}

-- P are the places and F the faults of the source
pub data Rest (P F : Type 0) : Type 0 where
  byte : ℕ → P → Rest P F → Rest P F
  end : Rest P F
  fault : F → Rest P F

module _ {P F : Type 0} where
  -- what `next` answers: the first byte, or else the end or the fault
  abbrev pub next_of : Rest P F → Result (Option ℕ) F
  next_of (byte b p rest) = Ok (Some b)
  next_of end = Ok None
  next_of (fault f) = Err f

  -- what is to come after `next`: it drops the first byte, and an end or a fault stays
  abbrev pub after_next : Rest P F → Rest P F
  after_next (byte b p rest) = rest
  after_next end = end
  after_next (fault f) = fault f

  -- what `place` answers: the first byte's place, if there is one
  abbrev pub place_of : Rest P F → Option P
  place_of (byte b p rest) = Some p
  place_of end = None
  place_of (fault f) = None
