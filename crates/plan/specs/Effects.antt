-- What each instruction takes from the operand stack and leaves there, and the checks that it must pass.
use Rattle.std.specs.Prelude.{ℕ, Bool, true, false, cond, List, [], ◌∷◌, ◌++◌, reverse, length, take, drop, Some, None, Option, nat_le, nat_lt, slice_index_or, slice_set}
use Rattle.bytecode.specs.declared.kind.Kind.{Kind}
use Rattle.bytecode.specs.declared.kind.Kind.TheVariants.{Unknown, Word, Reference}
use Rattle.bytecode.specs.declared.instruction.Instruction.{Instruction}
use Rattle.bytecode.specs.declared.instruction.Instruction.TheVariants.{Nop, Pop, Dup, Swap, AconstNull, Aldc, Bipush, Ildc, Vload, Vstore, Binary, IfCmpeq, IfCmpne, IfIcmp, Goto, Invokestatic, Invokenative, Return, New, Newarray, Arraylength, Aaddf, Aadds, Imload, Cmload, Amload, Imstore, Cmstore, Amstore}
use Rattle.bytecode.specs.Outcome.{Fault, Out, bad, good, bind}
use Rattle.bytecode.specs.Program.{Signature, Function, Native, Program}
use Rattle.plan.specs.Programs.{nth, function_at, AllKnown}
use Rattle.plan.specs.Shapes.{Shape, eq_kind, eq_kinds}

-- ## The instructions

-- what an instruction does to the stack; kinds stand with the top first
pub data Act : Type 0 where
  -- takes these kinds, leaves those
  fixed : List Kind → List Kind → Act
  -- a variable to the stack, and from the stack
  load : ℕ → Act
  store : ℕ → Act
  -- any kinds
  pop : Act
  dup : Act
  swap : Act
  -- takes two of one kind
  alike : Act
  -- takes the only entry, of this kind
  give : Kind → Act

-- what an act leaves of its own is a word or a reference
abbrev pub LeavesKnown : Act → Type 0
LeavesKnown (fixed taken left) = AllKnown left
LeavesKnown (load i) = Unit {0}
LeavesKnown (store i) = Unit {0}
LeavesKnown pop = Unit {0}
LeavesKnown dup = Unit {0}
LeavesKnown swap = Unit {0}
LeavesKnown alike = Unit {0}
LeavesKnown (give k) = Unit {0}

-- an index into a pool of so many entries
abbrev pub within : ℕ → ℕ → Act → Option Act
within c count a = cond (nat_lt c count) (Some a) None

-- a call takes the arguments, the last on top, and leaves the result
abbrev pub call : Signature → Act
call s = fixed (reverse s.arguments) (s.result ∷ [])

abbrev pub call_static : Option Function → Option Act
call_static None = None
call_static (Some g) = Some (call g.signature)

abbrev pub call_native : Option Native → Option Act
call_native None = None
call_native (Some g) = Some (call g.signature)

-- the instructions one by one, in a program and a function of it; none if its index lies outside its pool
abbrev pub act_of : Program → Function → Instruction → Option Act
act_of P g Nop = Some (fixed [] [])
act_of P g Pop = Some pop
act_of P g Dup = Some dup
act_of P g Swap = Some swap
act_of P g AconstNull = Some (fixed [] (Reference ∷ []))
act_of P g (Aldc c) = within c (length P.strings) (fixed [] (Reference ∷ []))
act_of P g (Bipush b) = Some (fixed [] (Word ∷ []))
act_of P g (Ildc c) = within c (length P.integers) (fixed [] (Word ∷ []))
act_of P g (Vload i) = Some (load i)
act_of P g (Vstore i) = Some (store i)
act_of P g (Binary operation) = Some (fixed (Word ∷ Word ∷ []) (Word ∷ []))
act_of P g (IfCmpeq o) = Some alike
act_of P g (IfCmpne o) = Some alike
act_of P g (IfIcmp order o) = Some (fixed (Word ∷ Word ∷ []) [])
act_of P g (Goto o) = Some (fixed [] [])
act_of P g (Invokestatic c) = call_static (nth P.functions c)
act_of P g (Invokenative c) = call_native (nth P.natives c)
act_of P g Return = Some (give g.signature.result)
act_of P g (New s) = Some (fixed [] (Reference ∷ []))
act_of P g (Newarray s) = Some (fixed (Word ∷ []) (Reference ∷ []))
act_of P g Arraylength = Some (fixed (Reference ∷ []) (Word ∷ []))
act_of P g (Aaddf offset) = Some (fixed (Reference ∷ []) (Reference ∷ []))
act_of P g Aadds = Some (fixed (Word ∷ Reference ∷ []) (Reference ∷ []))
act_of P g Imload = Some (fixed (Reference ∷ []) (Word ∷ []))
act_of P g Cmload = Some (fixed (Reference ∷ []) (Word ∷ []))
act_of P g Amload = Some (fixed (Reference ∷ []) (Reference ∷ []))
act_of P g Imstore = Some (fixed (Word ∷ Reference ∷ []) [])
act_of P g Cmstore = Some (fixed (Word ∷ Reference ∷ []) [])
act_of P g Amstore = Some (fixed (Reference ∷ Reference ∷ []) [])

-- ## The checks
-- 22 an index outside its pool, 21 a variable that the function lacks, 25 a return without just one value, 18 too few values,
-- 20 a value of the wrong kind, 21 a variable of no known kind, 19 more than 32 values afterwards: in this order, each with the
-- function f and the place p of the instruction.

abbrev pub check : {A : Type 0} → Bool → Fault → Out A → Out A
check true e r = r
check false e r = bad e

module _ (f p : ℕ) where
  -- the stack afterwards, if it is not too high
  abbrev pub room : List Kind → Out (List Kind)
  room st = check (nat_le (length st) 32) (19, f, p) (good st)

  abbrev pub replace : List Kind → List Kind → List Kind → Out (List Kind)
  replace taken left st =
      check (nat_le (length taken) (length st)) (18, f, p)
      (check (eq_kinds (take (length taken) st) taken) (20, f, p)
      (room (left ++ drop (length taken) st)))

  abbrev pub popped : List Kind → Out (List Kind)
  popped [] = bad (18, f, p)
  popped (k ∷ st) = good st

  abbrev pub doubled : List Kind → Out (List Kind)
  doubled [] = bad (18, f, p)
  doubled (k ∷ st) = room (k ∷ k ∷ st)

  abbrev pub swapped : List Kind → Out (List Kind)
  swapped (k ∷ l ∷ st) = good (l ∷ k ∷ st)
  swapped st = bad (18, f, p)

  abbrev pub compared : List Kind → Out (List Kind)
  compared (k ∷ l ∷ st) = check (eq_kind k l) (20, f, p) (good st)
  compared st = bad (18, f, p)

  abbrev pub returned : Kind → List Kind → Out (List Kind)
  returned k (l ∷ []) = check (eq_kind l k) (20, f, p) (good [])
  returned k st = bad (25, f, p)

  abbrev pub loaded : Kind → List Kind → Out (List Kind)
  loaded Unknown st = bad (21, f, p)
  loaded k st = room (k ∷ st)

  abbrev pub stored : ℕ → List Kind → List Kind → Out Shape
  stored i vs [] = bad (18, f, p)
  stored i vs (k ∷ st) = good (record { stack = st; variables = slice_set vs i k })

  -- another stack, the same variables
  abbrev pub keeping : List Kind → Out (List Kind) → Out Shape
  keeping vs r = bind r (λ st. good (record { stack = st; variables = vs }))

  -- an act in a function of V variables
  unfoldable pub perform : ℕ → Act → Shape → Out Shape
  perform V (fixed taken left) s = keeping s.variables (replace taken left s.stack)
  perform V (load i) s = check (nat_lt i V) (21, f, p) (keeping s.variables (loaded (slice_index_or s.variables i Unknown) s.stack))
  perform V (store i) s = check (nat_lt i V) (21, f, p) (stored i s.variables s.stack)
  perform V pop s = keeping s.variables (popped s.stack)
  perform V dup s = keeping s.variables (doubled s.stack)
  perform V swap s = keeping s.variables (swapped s.stack)
  perform V alike s = keeping s.variables (compared s.stack)
  perform V (give k) s = keeping s.variables (returned k s.stack)

  abbrev pub performed : ℕ → Shape → Option Act → Out Shape
  performed V s None = bad (22, f, p)
  performed V s (Some a) = perform V a s

-- the shape after an instruction at place p of function f, or the first check that it fails
abbrev pub effect : Program → ℕ → ℕ → Instruction → Shape → Out Shape
effect P f p i s = performed f p (function_at P f).variables s (act_of P (function_at P f) i)
