-- When a configuration is as the plans say: what holds from the start on and is kept by every step.
use Rattle.std.specs.Prelude.{◌≡◌, ℕ, List, [], ◌∷◌, map, length, Some, None, Option, slice_index_or}
use Rattle.bytecode.specs.declared.kind.Kind.{Kind}
use Rattle.bytecode.specs.declared.kind.Kind.TheVariants.{Unknown}
use Rattle.bytecode.specs.Program.{Program, Function}
use Rattle.plan.specs.Programs.{nth, function_at}
use Rattle.plan.specs.Shapes.{Shape}
use Rattle.checked.specs.Machine.{Value, kind_of, Frame, frame, Conf, conf, variable}
use Rattle.checked.specs.Law.{Plans}

-- ## Variables

abbrev pub HasKind : Kind → Option Value → Type 0
HasKind k None = ⊥
HasKind k (Some v) = kind_of v ≡ k

-- a variable of a known kind is set, and has that kind
abbrev pub Held : Kind → Option Value → Type 0
Held Unknown o = Unit {0}
Held k o = HasKind k o

abbrev pub Holding : List (Option Value) → List Kind → Type 0
Holding vs ks = (i : ℕ) → Held (slice_index_or ks i Unknown) (variable vs i)

-- ## Frames

-- a frame of function f at place p: its plan has a shape there, with these kinds on the stack, and its variables hold at least
-- what that shape knows of them
pub record Fits (P : Program) (plans : Plans) (f p : ℕ) (vs : List (Option Value)) (kinds : List Kind) : Type 0 where
  pub self : Function
  pub known : nth P.functions f ≡ Some self
  pub shape : Shape
  pub planned : plans f p ≡ Some shape
  pub stack : shape.stack ≡ kinds
  pub holding : Holding vs shape.variables
  pub sized : length vs ≡ self.variables

-- older frames, of which the newest awaits the result of function g; the oldest frame is main's
pub data Callers (P : Program) (plans : Plans) : ℕ → List Frame → Type 0 where
  main : Callers P plans 0 []
  more : {g f p : ℕ} {vs : List (Option Value)} {st : List Value} {rest : List Frame}
      → Fits P plans f p vs ((function_at P g).signature.result ∷ map kind_of st) → Callers P plans f rest
      → Callers P plans g (frame f p vs st ∷ rest)

abbrev pub Sound : Program → Plans → Conf → Type 0
Sound P plans (conf (frame f p vs st) rest h) = Fits P plans f p vs (map kind_of st) × Callers P plans f rest
