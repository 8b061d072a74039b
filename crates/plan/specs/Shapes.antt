-- Shapes: the kinds on the operand stack and of the variables. When one shape reaches another, and what two become that meet.
use Rattle.std.specs.Prelude.{◌≡◌, ℕ, ◌≤◌, Bool, true, false, cond, ◌⊎◌, List, [], ◌∷◌, length, slice_index_or}
use Rattle.std.specs.Cmp.Lexicographic.{pointwise}
use Rattle.bytecode.specs.declared.kind.Kind.{Kind}
use Rattle.bytecode.specs.declared.kind.Kind.TheVariants.{Unknown, Word, Reference}
use Rattle.plan.specs.Programs.{AllKnown}

-- the stack has its top first; a variable that no kind is known of is Unknown, in words none
pub record Shape : Type 0 where
  pub stack : List Kind
  pub variables : List Kind

-- a shape of a function with V variables: at most 32 kinds on the stack, each a word or a reference; places for 32 variables,
-- with none from V on
pub record Sized (V : ℕ) (s : Shape) : Type 0 where
  pub low : length s.stack ≤ 32
  pub kinds : AllKnown s.stack
  pub long : length s.variables ≡ 32
  pub unused : (i : ℕ) → V ≤ i → slice_index_or s.variables i Unknown ≡ Unknown

-- ## Reaching

-- the second kind is none, or the same
abbrev pub Alike : Kind → Kind → Type 0
Alike k l = (l ≡ Unknown) ⊎ (l ≡ k)

-- x reaches y: the same stack, and the variables of y are each none or alike
pub record Reach (x y : Shape) : Type 0 where
  pub stack : x.stack ≡ y.stack
  pub size : length x.variables ≡ length y.variables
  pub variables : (i : ℕ) → Alike (slice_index_or x.variables i Unknown) (slice_index_or y.variables i Unknown)

-- ## Equality

abbrev pub eq_kind : Kind → Kind → Bool
eq_kind Unknown Unknown = true
eq_kind Word Word = true
eq_kind Reference Reference = true
eq_kind k l = false

abbrev pub eq_kinds : List Kind → List Kind → Bool
eq_kinds = pointwise eq_kind

-- ## Meeting

-- kinds that differ become none
abbrev pub meet_kind : Kind → Kind → Kind
meet_kind k l = cond (eq_kind k l) k Unknown

abbrev pub meet : List Kind → List Kind → List Kind
meet [] ls = []
meet (k ∷ ks) [] = meet_kind k Unknown ∷ meet ks []
meet (k ∷ ks) (l ∷ ls) = meet_kind k l ∷ meet ks ls

-- a shape met by another stays as it was, or loses kinds of variables, or has another stack
pub data Merged : Type 0 where
  same : Merged
  changed : Shape → Merged
  clash : Merged

abbrev pub narrowed : Shape → List Kind → Bool → Merged
narrowed s m true = same
narrowed s m false = changed (record { stack = s.stack; variables = m })

abbrev pub merge_if : Shape → Shape → Bool → Merged
merge_if s x true = narrowed s (meet s.variables x.variables) (eq_kinds (meet s.variables x.variables) s.variables)
merge_if s x false = clash

-- the shape s met by x
unfoldable pub merge : Shape → Shape → Merged
merge s x = merge_if s x (eq_kinds s.stack x.stack)
