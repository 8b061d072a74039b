-- Load, over what any source means: a source's bytes are copied to a buffer, or the buffer is zeroed.
use Rattle.std.specs.Prelude.{ℕ, zero, suc, min, List, [], ◌∷◌, ◌++◌, length, drop, replicate, Some, None, Ok, Err, Option, Result}
use Rattle.source.specs.declared.loader.LoadFault.{LoadFault}
use Rattle.source.specs.declared.loader.LoadFault.TheVariants.{TooLong, Unreadable}
use Rattle.source.specs.Rest.{Rest, byte, end, fault}

-- how many bytes may be copied to a buffer
abbrev pub room_of : List ℕ → ℕ
room_of buffer = min (length buffer) 16384

-- what load answers, the whole buffer afterwards, and what is to come of the source then
pub record Loaded (P F : Type 0) : Type 0 where
  pub answer : Result ℕ (LoadFault P F)
  pub memory : List ℕ
  pub left : Rest P F

module _ {P F : Type 0} where
  -- the bytes to come
  unfoldable pub bytes_of : Rest P F → List ℕ
  bytes_of (byte b p rest) = b ∷ bytes_of rest
  bytes_of end = []
  bytes_of (fault f) = []

  -- why not all of them can be copied where there is room for so many, if that is so
  unfoldable pub broken_off : ℕ → Rest P F → Option (LoadFault P F)
  broken_off zero (byte b p rest) = Some (TooLong p)
  broken_off (suc room) (byte b p rest) = broken_off room rest
  broken_off room end = None
  broken_off room (fault f) = Some (Unreadable f)

  -- what is to come after so many bytes
  unfoldable pub after_bytes : ℕ → Rest P F → Rest P F
  after_bytes zero (byte b p rest) = byte b p rest
  after_bytes (suc n) (byte b p rest) = after_bytes n rest
  after_bytes n end = end
  after_bytes n (fault f) = fault f

  -- load with the fault that it meets, if any, the bytes to come, the buffer, and what is to come afterwards
  abbrev pub outcome : Option (LoadFault P F) → List ℕ → List ℕ → Rest P F → Loaded P F
  outcome None bytes buffer left =
      record { answer = Ok (length bytes); memory = bytes ++ drop (length bytes) buffer; left = left }
  outcome (Some e) bytes buffer left = record { answer = Err e; memory = replicate (length buffer) 0; left = left }

  -- load from a source that means `rest` to `buffer`
  abbrev pub loaded : Rest P F → List ℕ → Loaded P F
  loaded rest buffer =
      outcome (broken_off (room_of buffer) rest) (bytes_of rest) buffer (after_bytes (room_of buffer) rest)
