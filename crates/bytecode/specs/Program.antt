-- A program: what a package holds, together with the kinds of its sheet.
use Rattle.std.specs.Prelude.{ℕ, List}
use Rattle.bytecode.specs.declared.kind.Kind.{Kind}

-- the kinds of the arguments, the first first, and of the result
pub record Signature : Type 0 where
  pub arguments : List Kind
  pub result : Kind

-- a function: its variables count its arguments, which come first
pub record Function : Type 0 where
  pub signature : Signature
  pub variables : ℕ
  pub code : List ℕ

-- a native, by its index in the host's table
pub record Native : Type 0 where
  pub signature : Signature
  pub index : ℕ

-- integers are words, by their 32 bits; function 0 is main
pub record Program : Type 0 where
  pub integers : List ℕ
  pub strings : List ℕ
  pub functions : List Function
  pub natives : List Native
