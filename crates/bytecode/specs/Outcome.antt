-- What a check comes to: a fault (its number and the two numbers of its place), or an answer.
use Rattle.std.specs.Prelude.{ℕ, zero, suc, Ok, Err, Result}
use Rattle.bytecode.specs.declared.refusal.FieldFault.{FieldFault}
use Rattle.bytecode.specs.declared.refusal.FieldFault.TheVariants.{Cut, Magic, Version, Limit, StringEnd, Sheet}
use Rattle.bytecode.specs.declared.refusal.CodeFault.{CodeFault}
use Rattle.bytecode.specs.declared.refusal.CodeFault.TheVariants.{Opcode, TooFew, TooMany, WrongKind, Variable, PoolIndex, NoStart, StacksDiffer, Return}
use Rattle.bytecode.specs.declared.refusal.Refusal.{Refusal}
use Rattle.bytecode.specs.declared.refusal.Refusal.TheVariants.{Field, Table, Code}
use Rattle.bytecode.specs.declared.refusal.Report.{Report}

abbrev pub Fault : Type 0
Fault = ℕ × ℕ × ℕ

pub data Out (A : Type 0) : Type 0 where
  bad : Fault → Out A
  good : A → Out A

abbrev pub bind : {A B : Type 0} → Out A → (A → Out B) → Out B
bind (bad e) f = bad e
bind (good a) f = f a

-- a refusal at an offset of the package
abbrev pub refuse : {A : Type 0} → ℕ → ℕ → Out A
refuse n offset = bad (n, 0, offset)

-- a step made n times, the turns numbered from i on, with a state handed from each to the next
unfoldable pub repeat : {S : Type 0} → (ℕ → S → Out S) → ℕ → ℕ → S → Out S
repeat step zero i s = good s
repeat step (suc n) i s = bind (step i s) (repeat step n (suc i))

-- ## The number and the place of each refusal

abbrev pub field_number : FieldFault → ℕ
field_number Cut = 10
field_number Magic = 11
field_number Version = 12
field_number Limit = 13
field_number StringEnd = 14
field_number Sheet = 15

abbrev pub code_number : CodeFault → ℕ
code_number Opcode = 17
code_number TooFew = 18
code_number TooMany = 19
code_number WrongKind = 20
code_number Variable = 21
code_number PoolIndex = 22
code_number NoStart = 23
code_number StacksDiffer = 24
code_number Return = 25

abbrev pub shown : Refusal → Fault
shown (Field fault offset) = (field_number fault, 0, offset)
shown Table = (16, 0, 0)
shown (Code fault function place) = (code_number fault, function, place)

-- a fault as programs print it
abbrev pub report : Fault → Report
report (number, first, second) = record { number = number; first = first; second = second }

-- what a call's answer says, by what its value stands for
abbrev pub told : {A B : Type 0} → (A → B) → Result A Refusal → Out B
told f (Ok a) = good (f a)
told f (Err e) = bad (shown e)

abbrev pub same : {A : Type 0} → A → A
same a = a
