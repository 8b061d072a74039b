-- Plans: shapes for some places of a function's code. Which plans are good, and which is the fullest.
use Rattle.std.specs.Prelude.{◌≡◌, ℕ, ◌+◌, ◌-◌, Bool, true, false, List, [], ◌∷◌, ◌++◌, length, replicate, Some, None, Option, slice_index_or}
use Rattle.bytecode.specs.declared.kind.Kind.TheVariants.{Unknown}
use Rattle.bytecode.specs.declared.instruction.Instruction.{Instruction}
use Rattle.bytecode.specs.declared.instruction.Instruction.TheVariants.{IfCmpeq, IfCmpne, IfIcmp, Goto, Return}
use Rattle.bytecode.specs.Instructions.{size_of, decode_at, target, starts_of}
use Rattle.bytecode.specs.Outcome.{Out, bad, good}
use Rattle.bytecode.specs.Program.{Function, Program}
use Rattle.plan.specs.Programs.{function_at, code_at, variables_at}
use Rattle.plan.specs.Shapes.{Shape, Sized, Reach}
use Rattle.plan.specs.Effects.{effect}

-- a shape, or none, for each place of a function's code
abbrev pub Plan : Type 0
Plan = ℕ → Option Shape

-- ## Places

-- a mark for each byte of the code, true at the starts; a code that cannot be decoded to its end has none
abbrev pub marks_in : Out (List Bool) → List Bool
marks_in (bad e) = []
marks_in (good marks) = marks

abbrev pub starts_at : Program → ℕ → List Bool
starts_at P f = marks_in (starts_of f (code_at P f))

-- the place p of function f is a start
abbrev pub Start : Program → ℕ → ℕ → Type 0
Start P f p = slice_index_or (starts_at P f) p false ≡ true

-- the place after the instruction at p
abbrev pub next : ℕ → Instruction → List (Option ℕ)
next p i = Some (p + size_of i) ∷ []

-- the places that the instruction at p can go on to, the next place before a branch's target; none is a target before the code
abbrev pub successors : ℕ → Instruction → List (Option ℕ)
successors p (IfCmpeq o) = next p (IfCmpeq o) ++ (target p o ∷ [])
successors p (IfCmpne o) = next p (IfCmpne o) ++ (target p o ∷ [])
successors p (IfIcmp order o) = next p (IfIcmp order o) ++ (target p o ∷ [])
successors p (Goto o) = target p o ∷ []
successors p Return = []
successors p i = next p i

-- ## Reaching a place

-- the shape of a plan at a place, if there is that place
abbrev pub shape_at : Plan → Option ℕ → Option Shape
shape_at plan None = None
shape_at plan (Some q) = plan q

-- x reaches what a plan has at a place: a shape, which x reaches
abbrev pub Hits : Shape → Option Shape → Type 0
Hits x None = ⊥
Hits x (Some t) = Reach x t

-- x reaches every one of these places
abbrev pub Lands : Shape → Plan → List (Option ℕ) → Type 0
Lands x plan [] = Unit {0}
Lands x plan (q ∷ qs) = Hits x (shape_at plan q) × Lands x plan qs

-- ## Good plans

-- the shape at a function's entry: an empty stack, the arguments as the sheet has them, and none elsewhere
abbrev pub entry_of : Function → Shape
entry_of g = record { stack = []; variables = g.signature.arguments ++ replicate (32 - length g.signature.arguments) Unknown }

-- with the shape s at p: an instruction stands there, passes its checks, and its result reaches every place that it can go on to
pub record Passes (P : Program) (f : ℕ) (plan : Plan) (p : ℕ) (s : Shape) : Type 0 where
  pub instruction : Instruction
  pub decoded : decode_at (code_at P f) p ≡ Some instruction
  pub result : Shape
  pub passed : effect P f p instruction s ≡ good result
  pub lands : Lands result plan (successors p instruction)

pub record Good (P : Program) (f : ℕ) (plan : Plan) : Type 0 where
  pub begins : Hits (entry_of (function_at P f)) (plan 0)
  pub starts : (p : ℕ) (s : Shape) → plan p ≡ Some s → Start P f p
  pub sized : (p : ℕ) (s : Shape) → plan p ≡ Some s → Sized (variables_at P f) s
  pub passes : (p : ℕ) (s : Shape) → plan p ≡ Some s → Passes P f plan p s

-- the good plan whose shapes every good plan has too, with the same stack, and there no variable kind beyond its own
pub record Fullest (P : Program) (f : ℕ) (plan : Plan) : Type 0 where
  pub sound : Good P f plan
  pub full : (other : Plan) → Good P f other → (p : ℕ) (s : Shape) → plan p ≡ Some s → Hits s (other p)
