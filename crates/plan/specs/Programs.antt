-- Parts of a program, and what holds of every program that a package can hold.
use Rattle.std.specs.Prelude.{◌≡◌, ℕ, ◌≤◌, List, [], ◌∷◌, length, Some, slice_index_or}
use Rattle.bytecode.specs.declared.kind.Kind.{Kind}
use Rattle.bytecode.specs.declared.kind.Kind.TheVariants.{Unknown, Word, Reference}
use Rattle.bytecode.specs.Program.{Signature, Function, Native, Program}
-- the entry of a pool with this index, if there is one
pub use Rattle.std.specs.List.{slice_get as nth}

-- what stands in for a function that is not there: it has no code
abbrev pub no_function : Function
no_function = record { signature = record { arguments = []; result = Word }; variables = 0; code = [] }

-- the function with this number
abbrev pub function_at : Program → ℕ → Function
function_at P f = slice_index_or P.functions f no_function

abbrev pub code_at : Program → ℕ → List ℕ
code_at P f = (function_at P f).code

abbrev pub variables_at : Program → ℕ → ℕ
variables_at P f = (function_at P f).variables

-- ## Programs as packages hold them

-- a word or a reference
abbrev pub Known : Kind → Type 0
Known Unknown = ⊥
Known Word = Unit {0}
Known Reference = Unit {0}

abbrev pub AllKnown : List Kind → Type 0
AllKnown [] = Unit {0}
AllKnown (k ∷ ks) = Known k × AllKnown ks

-- a sheet knows the kind of each argument and of the result
pub record KnownSignature (s : Signature) : Type 0 where
  pub arguments : AllKnown s.arguments
  pub result : Known s.result

-- the kinds in all signatures of a program are known
pub record KnownSignatures (P : Program) : Type 0 where
  pub functions : (f : ℕ) (g : Function) → nth P.functions f ≡ Some g → KnownSignature g.signature
  pub natives : (n : ℕ) (g : Native) → nth P.natives n ≡ Some g → KnownSignature g.signature

-- at most 32 variables, the arguments among them
pub record FormedFunction (g : Function) : Type 0 where
  pub signature : KnownSignature g.signature
  pub counted : length g.signature.arguments ≤ g.variables
  pub few : g.variables ≤ 32

pub record WellFormed (P : Program) : Type 0 where
  pub functions : (f : ℕ) (g : Function) → nth P.functions f ≡ Some g → FormedFunction g
  pub natives : (n : ℕ) (g : Native) → nth P.natives n ≡ Some g → KnownSignature g.signature
