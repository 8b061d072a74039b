-- Programs whose judgement is computed.
use Rattle.std.specs.Prelude.{◌≡◌, ℕ, ◌-◌, List, [], ◌∷◌, ◌++◌, length, replicate}
use Rattle.bytecode.specs.declared.kind.Kind.{Kind}
use Rattle.bytecode.specs.declared.kind.Kind.TheVariants.{Unknown, Word, Reference}
use Rattle.bytecode.specs.Outcome.{bad, good}
use Rattle.bytecode.specs.Program.{Function, Program}
use Rattle.plan.specs.Shapes.{Shape, changed, merge}
use Rattle.plan.specs.Sweep.{Cell, off, settled, judge}

-- a function of these arguments and so many variables, which gives a word
abbrev pub giving : List Kind → ℕ → List ℕ → Function
giving arguments variables code = record { signature = record { arguments = arguments; result = Word }; variables = variables; code = code }

abbrev pub program_of : List Function → Program
program_of functions = record { integers = []; strings = []; functions = functions; natives = [] }

-- main alone, without variables
abbrev pub main_of : List ℕ → Program
main_of code = program_of (giving [] 0 code ∷ [])

-- a stack, top first, and the first variables
abbrev pub shaped : List Kind → List Kind → Shape
shaped stack variables = record { stack = stack; variables = variables ++ replicate (32 - length variables) Unknown }

-- no variable is known
abbrev pub stacked : List Kind → Cell
stacked stack = settled (shaped stack [])

pub record Samples (takes : ℕ) : Type 0 where
  -- bipush 6, bipush 7, imul, return
  pub product : judge (main_of (0x10 ∷ 0x06 ∷ 0x10 ∷ 0x07 ∷ 0x68 ∷ 0xB0 ∷ [])) ≡
      good ((stacked [] ∷ off ∷ stacked (Word ∷ []) ∷ off ∷ stacked (Word ∷ Word ∷ []) ∷ stacked (Word ∷ []) ∷ []) ∷ [], takes)
  -- variables (w, a) met by (w, w)
  pub meeting : merge (shaped [] (Word ∷ Reference ∷ [])) (shaped [] (Word ∷ Word ∷ [])) ≡ changed (shaped [] (Word ∷ Unknown ∷ []))
  -- nop alone
  pub nop : judge (main_of (0x00 ∷ [])) ≡ bad (23, 0, 0)
  -- goto to itself
  pub still : judge (main_of (0xA7 ∷ 0x00 ∷ 0x00 ∷ [])) ≡ good ((stacked [] ∷ off ∷ off ∷ []) ∷ [], 1)
  -- goto before the code
  pub before : judge (main_of (0xA7 ∷ 0xFF ∷ 0xFF ∷ [])) ≡ bad (23, 0, 0)
  -- bipush 0, goto back to it
  pub growing : judge (main_of (0x10 ∷ 0x00 ∷ 0xA7 ∷ 0xFF ∷ 0xFE ∷ [])) ≡ bad (24, 0, 0)
  -- return of nothing
  pub empty : judge (main_of (0xB0 ∷ [])) ≡ bad (25, 0, 0)
  -- aldc 0 without strings; with a string pool it is a reference, which main must not return
  pub pool : judge (main_of (0x14 ∷ 0x00 ∷ 0x00 ∷ 0xB0 ∷ [])) ≡ bad (22, 0, 0)
  pub kind : judge (record { integers = []; strings = 0 ∷ []; functions = giving [] 0 (0x14 ∷ 0x00 ∷ 0x00 ∷ 0xB0 ∷ []) ∷ []; natives = [] }) ≡ bad (20, 0, 3)
  -- vload 0 of a function without variables, and of a variable that was not set
  pub absent : judge (main_of (0x15 ∷ 0x00 ∷ 0xB0 ∷ [])) ≡ bad (21, 0, 0)
  pub unset : judge (program_of (giving [] 1 (0x15 ∷ 0x00 ∷ 0xB0 ∷ []) ∷ [])) ≡ bad (21, 0, 0)
  -- aconst_null 33 times
  pub high : judge (main_of (replicate 33 0x01)) ≡ bad (19, 0, 32)
  -- iadd on an empty stack; the second function, which cannot be decoded, comes before it
  pub few : judge (main_of (0x60 ∷ [])) ≡ bad (18, 0, 0)
  pub late : judge (program_of (giving [] 0 (0x60 ∷ []) ∷ giving [] 0 (0x00 ∷ 0x10 ∷ []) ∷ [])) ≡ bad (17, 1, 1)
