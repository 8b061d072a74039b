-- The checked machine: every value carries its kind, variables may be unset, and whatever does not fit is a broken stop.
-- It knows nothing of plans or of how memory is laid out.
use Rattle.std.specs.Prelude.{ℕ, suc, ◌+◌, ◌-◌, Bool, true, false, cond, not, ◌&&◌, List, [], ◌∷◌, ◌++◌, map, reverse, length, replicate, ℤ, Some, None, Option, ◌==◌, nat_le, nat_lt, slice_index_or, slice_set}
use Rattle.bytecode.specs.declared.kind.Kind.{Kind}
use Rattle.bytecode.specs.declared.kind.Kind.TheVariants.{Word, Reference as Ref}
use Rattle.bytecode.specs.declared.stop.Stop.TheVariants.{Calls, Native as NoNative, Host as ByHost}
use Rattle.bytecode.specs.declared.instruction.Instruction.{Instruction}
use Rattle.bytecode.specs.declared.instruction.Instruction.TheVariants.{Nop, Pop, Dup, Swap, AconstNull, Aldc, Bipush, Ildc, Vload, Vstore, Binary, IfCmpeq, IfCmpne, IfIcmp, Goto, Invokestatic, Invokenative, Return, New, Newarray, Arraylength, Aaddf, Aadds, Imload, Cmload, Amload, Imstore, Cmstore, Amstore}
use Rattle.bytecode.specs.Instructions.{size_of, decode_at, target}
use Rattle.bytecode.specs.Program.{Program, Function, Native, Signature}
use Rattle.bytecode.specs.Stops.{Attempt, gives, stops}
use Rattle.plan.specs.Programs.{nth}
use Rattle.plan.specs.Shapes.{eq_kind, eq_kinds}
use Rattle.heap.specs.Checked.{Heap, Reference, null, text, block, new, newarray, arraylength, aaddf, aadds, imload, cmload, amload, imstore, cmstore, amstore}
use Rattle.word.specs.Words.{compute, holds, wrap}
use Rattle.host.specs.Hosts.{Host, Call, Text, no_text, text_at}
use Rattle.host.specs.declared.call.Argument.{Argument}
use Rattle.host.specs.declared.call.Reply.{Reply}
use Rattle.checked.specs.Runs.{Next, goes, ends, stops as halts, breaks, View, Machine}

-- ## Values, frames, configurations

-- a word by its 32 bits, or a reference
pub data Value : Type 0 where
  word : ℕ → Value
  reference : Reference → Value

abbrev pub kind_of : Value → Kind
kind_of (word n) = Word
kind_of (reference r) = Ref

-- function, place, variables (none where unset) and operand stack, its top first.
-- A calling frame's place is that after its call; it awaits that call's result, which will come on top
pub data Frame : Type 0 where
  frame : ℕ → ℕ → List (Option Value) → List Value → Frame

-- the newest frame, the older ones from the newest on, and the heap
pub data Conf : Type 0 where
  conf : Frame → List Frame → Heap → Conf

-- how much memory there is
pub record Sizes : Type 0 where
  pub slots : ℕ
  pub frames : ℕ
  pub cells : ℕ
  pub records : ℕ

-- what a frame of a function reserves of the slots: its variables and 32 entries of its operand stack
abbrev pub reserve : Option Function → ℕ
reserve None = 0
reserve (Some g) = g.variables + 32

abbrev pub reserved : Program → List Frame → ℕ
reserved P [] = 0
reserved P (frame f p vs st ∷ fs) = reserve (nth P.functions f) + reserved P fs

-- ## Equality and kinds

abbrev pub same_reference : Reference → Reference → Bool
same_reference null null = true
same_reference (text p) (text q) = p == q
same_reference (block b o) (block c u) = b == c && o == u
same_reference q r = false

abbrev pub is_kind : Kind → Value → Bool
is_kind k v = eq_kind k (kind_of v)

-- whether a host's signature is the one that the sheet gives
abbrev pub agrees : Signature → Option Signature → Bool
agrees g None = false
agrees g (Some h) = eq_kind g.result h.result && eq_kinds g.arguments h.arguments

-- ## Arguments

-- arguments taken off a stack, the first first, and what is left of the stack
pub record Taken : Type 0 where
  pub values : List Value
  pub left : List Value

-- by the kinds that are wanted, the last argument's, which lies on top, first; none if there are too few values or one is of another kind
abbrev pub takes : List Kind → List Value → List Value → Option Taken
takes [] st args = Some (record { values = args; left = st })
takes (k ∷ ks) [] args = None
takes (k ∷ ks) (v ∷ st) args = cond (is_kind k v) (takes ks st (v ∷ args)) None

abbrev pub arguments : Signature → List Value → Option Taken
arguments g st = takes (reverse g.arguments) st []

-- ## What a host is told

-- a word, or a reference with its null mark
abbrev pub argument_of : Value → Argument
argument_of (word n) = Argument.Word n
argument_of (reference null) = Argument.Reference true
argument_of (reference r) = Argument.Reference false

-- the reference arguments, the first first
abbrev pub references : List Value → List Reference
references [] = []
references (word n ∷ vs) = references vs
references (reference r ∷ vs) = r ∷ references vs

-- the text of a reference: other than a text has none
abbrev pub text_of : List ℕ → Reference → Text
text_of strings (text p) = text_at strings p
text_of strings r = no_text

abbrev pub text_in : List ℕ → Option Reference → Text
text_in strings None = no_text
text_in strings (Some r) = text_of strings r

abbrev pub call_of : Program → Native → List Value → Call
call_of P n args =
    record {
      index = n.index;
      arguments = map argument_of args;
      first = text_in P.strings (nth (references args) 0);
      second = text_in P.strings (nth (references args) 1);
    }

-- ## One instruction

-- the value of the variable i, if it is there and set
abbrev pub variable : List (Option Value) → ℕ → Option Value
variable vs i = slice_index_or vs i None

module _ {S : Type 0} where
  -- a word or a reference taken off the top; too few values and a wrong kind break
  abbrev pub pop_word : List Value → S → (ℕ → List Value → Next Conf S) → Next Conf S
  pop_word (word n ∷ st) s k = k n st
  pop_word st s k = breaks s

  abbrev pub pop_reference : List Value → S → (Reference → List Value → Next Conf S) → Next Conf S
  pop_reference (reference r ∷ st) s k = k r st
  pop_reference st s k = breaks s

  abbrev pub pop_any : List Value → S → (Value → List Value → Next Conf S) → Next Conf S
  pop_any [] s k = breaks s
  pop_any (v ∷ st) s k = k v st

  -- one more value on the stack: more than 32 break
  abbrev pub room_for : List Value → S → Next Conf S → Next Conf S
  room_for st s k = cond (nat_lt (length st) 32) k (breaks s)

  -- what may stop: a stop leaves everything as it is
  abbrev pub attempt : {A : Type 0} → Attempt A → S → (A → Next Conf S) → Next Conf S
  attempt (gives a) s k = k a
  attempt (stops e) s k = halts e s

  -- an index outside a pool, an absent or unset variable, arguments that do not fit, a place before the code break
  abbrev pub found : {A : Type 0} → Option A → S → (A → Next Conf S) → Next Conf S
  found None s k = breaks s
  found (Some a) s k = k a

  -- two values of one kind: whether they are the same
  abbrev pub compared : Value → Value → S → (Bool → Next Conf S) → Next Conf S
  compared (word x) (word y) s k = k (x == y)
  compared (reference q) (reference r) s k = k (same_reference q r)
  compared x y s k = breaks s

  -- the only entry of the stack
  abbrev pub only_value : List Value → S → (Value → Next Conf S) → Next Conf S
  only_value (v ∷ []) s k = k v
  only_value st s k = breaks s

  -- the frame goes on at a place with these variables and this stack
  abbrev pub resume : ℕ → ℕ → List (Option Value) → List Value → List Frame → Heap → S → Next Conf S
  resume f p vs st rest h s = goes (conf (frame f p vs st) rest h) s

  -- a branch at p that is taken or not; q is the place after it
  abbrev pub branch : Bool → ℤ → ℕ → ℕ → ℕ → List (Option Value) → List Value → List Frame → Heap → S → Next Conf S
  branch true o f p q vs st rest h s = found (target p o) s (λ to. resume f to vs st rest h s)
  branch false o f p q vs st rest h s = resume f q vs st rest h s

  -- a value handed to the frame that awaits it, or main's word
  abbrev pub return : Value → List Frame → Heap → S → Next Conf S
  return (word n) [] h s = ends n s
  return (reference r) [] h s = breaks s
  return v (frame f p vs st ∷ rest) h s = room_for st s (resume f p vs (v ∷ st) rest h s)

  -- a host's reply to a native that gives a value of kind k
  abbrev pub answered : Kind → Reply → List Reference → S → (Value → Next Conf S) → Next Conf S
  answered Word (Reply.Word n) rs s k = k (word n)
  answered Ref Reply.Null rs s k = k (reference null)
  answered Ref (Reply.Argument j) rs s k = found (nth rs j) s (λ r. k (reference r))
  answered kind (Reply.Stop e) rs s k = halts (ByHost e) s
  answered kind reply rs s k = breaks s

  module _ (P : Program) (host : Host S) (sizes : Sizes) where
    -- a call of function c that is g: stop 10 exactly when no frame is free, or what all frames and the new one reserve exceeds the slots
    abbrev pub enter : ℕ → Function → List Value → ℕ → ℕ → List (Option Value) → List Value → List Frame → Heap → S → Next Conf S
    enter c g args f q vs st rest h s =
        cond (nat_lt (suc (length rest)) sizes.frames)
        (cond (nat_le (reserve (Some g) + reserved P (frame f q vs st ∷ rest)) sizes.slots)
        (goes (conf (frame c 0 (map Some args ++ replicate (g.variables - length args) None) []) (frame f q vs st ∷ rest) h) s)
        (halts Calls s))
        (halts Calls s)

    -- stop 12 unless the host's signature is the sheet's, then the host's reply
    abbrev pub ask : Native → List Value → S → (Value → S → Next Conf S) → Next Conf S
    ask n args s k =
        cond (agrees n.signature (host.signs n.index))
        (answered n.signature.result (host.replies s (call_of P n args)) (references args) (host.becomes s (call_of P n args))
        (λ v. k v (host.becomes s (call_of P n args))))
        (halts NoNative s)

    -- one instruction at the place p of function f; q is the place after it
    unfoldable pub exec : Instruction → ℕ → ℕ → ℕ → List (Option Value) → List Value → List Frame → Heap → S → Next Conf S
    exec Nop f p q vs st rest h s = resume f q vs st rest h s
    exec Pop f p q vs st rest h s = pop_any st s (λ v t. resume f q vs t rest h s)
    exec Dup f p q vs st rest h s = pop_any st s (λ v t. room_for st s (resume f q vs (v ∷ v ∷ t) rest h s))
    exec Swap f p q vs st rest h s = pop_any st s (λ y u. pop_any u s (λ x t. resume f q vs (x ∷ y ∷ t) rest h s))
    exec AconstNull f p q vs st rest h s = room_for st s (resume f q vs (reference null ∷ st) rest h s)
    exec (Aldc c) f p q vs st rest h s =
        cond (nat_lt c (length P.strings)) (room_for st s (resume f q vs (reference (text c) ∷ st) rest h s)) (breaks s)
    exec (Bipush b) f p q vs st rest h s = room_for st s (resume f q vs (word (wrap b) ∷ st) rest h s)
    exec (Ildc c) f p q vs st rest h s = found (nth P.integers c) s (λ n. room_for st s (resume f q vs (word n ∷ st) rest h s))
    exec (Vload i) f p q vs st rest h s = found (variable vs i) s (λ v. room_for st s (resume f q vs (v ∷ st) rest h s))
    exec (Vstore i) f p q vs st rest h s =
        pop_any st s (λ v t. cond (nat_lt i (length vs)) (resume f q (slice_set vs i (Some v)) t rest h s) (breaks s))
    exec (Binary op) f p q vs st rest h s =
        pop_word st s (λ y u. pop_word u s (λ x t. attempt (compute op x y) s (λ z. resume f q vs (word z ∷ t) rest h s)))
    exec (IfCmpeq o) f p q vs st rest h s =
        pop_any st s (λ y u. pop_any u s (λ x t. compared x y s (λ b. branch b o f p q vs t rest h s)))
    exec (IfCmpne o) f p q vs st rest h s =
        pop_any st s (λ y u. pop_any u s (λ x t. compared x y s (λ b. branch (not b) o f p q vs t rest h s)))
    exec (IfIcmp order o) f p q vs st rest h s =
        pop_word st s (λ y u. pop_word u s (λ x t. branch (holds order x y) o f p q vs t rest h s))
    exec (Goto o) f p q vs st rest h s = branch true o f p q vs st rest h s
    exec (Invokestatic c) f p q vs st rest h s =
        found (nth P.functions c) s (λ g. found (arguments g.signature st) s (λ a. room_for a.left s (enter c g a.values f q vs a.left rest h s)))
    exec (Invokenative c) f p q vs st rest h s =
        found (nth P.natives c) s (λ n. found (arguments n.signature st) s (λ a. room_for a.left s
        (ask n a.values s (λ v u. resume f q vs (v ∷ a.left) rest h u))))
    exec Return f p q vs st rest h s =
        found (nth P.functions f) s (λ g. only_value st s (λ v. cond (is_kind g.signature.result v) (return v rest h s) (breaks s)))
    exec (New b) f p q vs st rest h s =
        room_for st s (attempt (new sizes.cells sizes.records h b) s (λ a. resume f q vs (reference a.reference ∷ st) rest a.heap s))
    exec (Newarray b) f p q vs st rest h s =
        pop_word st s (λ n t. attempt (newarray sizes.cells sizes.records h b n) s (λ a. resume f q vs (reference a.reference ∷ t) rest a.heap s))
    exec Arraylength f p q vs st rest h s =
        pop_reference st s (λ r t. attempt (arraylength h r) s (λ n. resume f q vs (word n ∷ t) rest h s))
    exec (Aaddf b) f p q vs st rest h s =
        pop_reference st s (λ r t. attempt (aaddf h r b) s (λ e. resume f q vs (reference e ∷ t) rest h s))
    exec Aadds f p q vs st rest h s =
        pop_word st s (λ i u. pop_reference u s (λ r t. attempt (aadds h r i) s (λ e. resume f q vs (reference e ∷ t) rest h s)))
    exec Imload f p q vs st rest h s =
        pop_reference st s (λ r t. attempt (imload h r) s (λ n. resume f q vs (word n ∷ t) rest h s))
    exec Cmload f p q vs st rest h s =
        pop_reference st s (λ r t. attempt (cmload h r) s (λ n. resume f q vs (word n ∷ t) rest h s))
    exec Amload f p q vs st rest h s =
        pop_reference st s (λ r t. attempt (amload h r) s (λ e. resume f q vs (reference e ∷ t) rest h s))
    exec Imstore f p q vs st rest h s =
        pop_word st s (λ n u. pop_reference u s (λ r t. attempt (imstore h r n) s (λ k. resume f q vs t rest k s)))
    exec Cmstore f p q vs st rest h s =
        pop_word st s (λ n u. pop_reference u s (λ r t. attempt (cmstore h r n) s (λ k. resume f q vs t rest k s)))
    exec Amstore f p q vs st rest h s =
        pop_reference st s (λ e u. pop_reference u s (λ r t. attempt (amstore h r e) s (λ k. resume f q vs t rest k s)))

    -- a step: a place outside the code, and an unknown or cut instruction break
    abbrev pub step : Conf → S → Next Conf S
    step (conf (frame f p vs st) rest h) s =
        found (nth P.functions f) s (λ g. found (decode_at g.code p) s (λ i. exec i f p (p + size_of i) vs st rest h s))

-- ## Start, and what can be seen

-- main's frame alone, at place 0 with an empty stack and every variable unset, and no block
abbrev pub begins : ℕ → Conf
begins variables = conf (frame 0 0 (replicate variables None) []) [] []

abbrev pub view_of : Frame → View
view_of (frame f p vs st) = record { function = f; place = p; depth = length st }

abbrev pub newest : Conf → View
newest (conf f fs h) = view_of f

abbrev pub viewed : Option Frame → Option View
viewed None = None
viewed (Some f) = Some (view_of f)

abbrev pub frame_at : Conf → ℕ → Option View
frame_at (conf f fs h) j = viewed (nth (f ∷ fs) j)

abbrev pub checked_machine : {S : Type 0} → Program → Sizes → Machine Conf S
checked_machine P sizes = record { step = λ host. step P host sizes; newest = newest; frame = frame_at }
