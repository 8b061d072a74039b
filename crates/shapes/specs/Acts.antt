-- What an act in memory stands for, and what an answer with a fault says of its place.
use Rattle.std.specs.Prelude.{ℕ, List, [], ◌∷◌, Ok, Err, Result, Some, None, Option}
use Rattle.bytecode.specs.declared.kind.Kind.{Kind}
use Rattle.bytecode.specs.declared.refusal.CodeFault.{CodeFault}
use Rattle.bytecode.specs.declared.refusal.CodeFault.TheVariants.{Opcode, TooFew, TooMany, WrongKind, Variable, PoolIndex, NoStart, StacksDiffer, Return}
use Rattle.bytecode.specs.Outcome.{Out, bad, good, code_number}
use Rattle.plan.specs.Effects.{Act, fixed, load, store, pop, dup, swap, alike, give}
use Rattle.shapes.specs.declared.act.StackAct.{StackAct}
use Rattle.shapes.specs.declared.act.StackAct.TheVariants.{Fixed, Load, Store, Pop, Dup, Swap, Alike, Give}

abbrev pub one_or_none : Option Kind → List Kind
one_or_none None = []
one_or_none (Some k) = k ∷ []

abbrev pub act_in : StackAct → Act
act_in (Fixed taken left) = fixed taken (one_or_none left)
act_in (Load i) = load i
act_in (Store i) = store i
act_in Pop = pop
act_in Dup = dup
act_in Swap = swap
act_in Alike = alike
act_in (Give k) = give k

-- ## Faults and their places

-- an answer at place p of function f
abbrev pub told_at : {A B : Type 0} → ℕ → ℕ → (A → B) → Result A CodeFault → Out B
told_at f p g (Ok a) = good (g a)
told_at f p g (Err e) = bad (code_number e, f, p)

-- of a shape that comes from p and meets q, the place that a fault is of
abbrev pub met_at : ℕ → ℕ → CodeFault → ℕ
met_at p q Opcode = p
met_at p q TooFew = p
met_at p q TooMany = p
met_at p q WrongKind = p
met_at p q Variable = p
met_at p q PoolIndex = p
met_at p q NoStart = p
met_at p q StacksDiffer = q
met_at p q Return = p

abbrev pub told_between : {A B : Type 0} → ℕ → ℕ → ℕ → (A → B) → Result A CodeFault → Out B
told_between f p q g (Ok a) = good (g a)
told_between f p q g (Err e) = bad (code_number e, f, met_at p q e)
