-- The starts of a code, by following its instructions.
use Rattle.std.specs.Prelude.{◌≡◌, ℕ, ◌+◌, ◌<◌, Bool, true, false, List, length, Some, slice_index_or}
use Rattle.bytecode.specs.declared.instruction.Instruction.{Instruction}
use Rattle.bytecode.specs.Instructions.{size_of, decode_at}

-- place 0, and the place after each instruction, decoded in order, that is still in the code
pub data InOrder (code : List ℕ) : ℕ → Type 0 where
  first : 0 < length code → InOrder code 0
  after : (p : ℕ) (i : Instruction) → InOrder code p → decode_at code p ≡ Some i → p + size_of i < length code → InOrder code (p + size_of i)

-- the marks of a code are those of its starts, and an instruction stands at each
pub record Marked (code : List ℕ) (marks : List Bool) : Type 0 where
  pub size : length marks ≡ length code
  pub sound : (q : ℕ) → slice_index_or marks q false ≡ true → InOrder code q
  pub complete : (q : ℕ) → InOrder code q → slice_index_or marks q false ≡ true
  pub decodes : (q : ℕ) → slice_index_or marks q false ≡ true → (i : Instruction) × (decode_at code q ≡ Some i)
