-- Stacks in arrays.
use Rattle.std.specs.Prelude.{◌≡◌, ℕ, zero, suc, ◌≤◌, Bool, true, false, List, [], ◌∷◌, length, replicate, nat_lt, slice_index_or, slice_set}
use Rattle.bytecode.specs.declared.kind.Kind.{Kind}
use Rattle.bytecode.specs.declared.kind.Kind.TheVariants.{Unknown}

-- the stack that n entries of an array hold: the array has the bottom of the stack first, a stack its top
abbrev pub stack_of : ℕ → List Kind → List Kind
stack_of zero entries = []
stack_of (suc n) entries = slice_index_or entries n Unknown ∷ stack_of n entries

-- the array of a stack: 32 entries, Unknown where unused
abbrev pub entries_of : List Kind → List Kind
entries_of [] = replicate 32 Unknown
entries_of (k ∷ st) = slice_set (entries_of st) (length st) k

-- 32 entries, of which at most the first n are used; the others are Unknown
pub record Stacked (n : ℕ) (entries : List Kind) : Type 0 where
  pub low : n ≤ 32
  pub long : length entries ≡ 32
  pub unused : (k : ℕ) → n ≤ k → slice_index_or entries k Unknown ≡ Unknown

-- whether a kind is a word or a reference
abbrev pub is_known : Kind → Bool
is_known Unknown = false
is_known k = true

-- 32 entries, of which the first n are each a word or a reference, and the others Unknown
pub record Filled (n : ℕ) (entries : List Kind) : Type 0 where
  pub low : n ≤ 32
  pub long : length entries ≡ 32
  pub used : (k : ℕ) → is_known (slice_index_or entries k Unknown) ≡ nat_lt k n
