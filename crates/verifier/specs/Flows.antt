-- Where control can go from an instruction.
use Rattle.std.specs.Prelude.{ℕ, ◌+◌, List, [], ◌∷◌, Some, Option}
use Rattle.bytecode.specs.Instructions.{target}
use Rattle.verifier.specs.declared.flow.Flow.{Flow}
use Rattle.verifier.specs.declared.flow.Flow.TheVariants.{Next, Branch, Jump, End}

-- the places that follow p, where an instruction of so many bytes stands
abbrev pub followers : ℕ → ℕ → Flow → List (Option ℕ)
followers p size Next = Some (p + size) ∷ []
followers p size (Branch o) = Some (p + size) ∷ target p o ∷ []
followers p size (Jump o) = target p o ∷ []
followers p size End = []
