-- The machine as it runs: variables and operand stacks are numbers in slots, without kinds; calling frames are records;
-- blocks lie in storage. A word is its 32 bits, a reference its number.
use Rattle.std.specs.Prelude.{ℕ, zero, suc, ◌+◌, ◌-◌, ◌%◌, ◌^◌, Bool, true, false, cond, not, List, [], ◌∷◌, length, ℤ, Some, None, Option, ◌==◌, nat_le, nat_lt, slice_index, slice_index_or, slice_set}
use Rattle.bytecode.specs.declared.kind.Kind.{Kind}
use Rattle.bytecode.specs.declared.kind.Kind.TheVariants.{Unknown, Word, Reference as Ref}
use Rattle.bytecode.specs.declared.stop.Stop.{Stop}
use Rattle.bytecode.specs.declared.stop.Stop.TheVariants.{Calls, Native as NoNative, Host as ByHost}
use Rattle.bytecode.specs.declared.instruction.Instruction.{Instruction}
use Rattle.bytecode.specs.declared.instruction.Instruction.TheVariants.{Nop, Pop, Dup, Swap, AconstNull, Aldc, Bipush, Ildc, Vload, Vstore, Binary, IfCmpeq, IfCmpne, IfIcmp, Goto, Invokestatic, Invokenative, Return, New, Newarray, Arraylength, Aaddf, Aadds, Imload, Cmload, Amload, Imstore, Cmstore, Amstore}
use Rattle.bytecode.specs.Instructions.{size_of, decode_at, target}
use Rattle.bytecode.specs.Program.{Program, Function, Native}
use Rattle.bytecode.specs.Stops.{Attempt, gives, stops}
use Rattle.plan.specs.Programs.{nth, variables_at}
use Rattle.heap.specs.Storage.{Storage, new_single, new_array, array_length, add_index, add_field, load_word, load_byte, load_reference, store_word, store_byte, store_reference}
use Rattle.word.specs.Words.{compute, holds, wrap}
use Rattle.host.specs.Hosts.{Host, Call, Text, no_text, text_at}
use Rattle.host.specs.declared.call.Argument.{Argument}
use Rattle.host.specs.declared.call.Reply.{Reply}
use Rattle.checked.specs.Runs.{Next, goes, ends, stops as halts, breaks, View, Machine}
use Rattle.checked.specs.Machine.{reserve, agrees}
use Rattle.runtime.specs.declared.FrameRecord.{FrameRecord}

-- The newest frame's function, place and first slot; all slots, of which those below `top` are in use; all frame records, of
-- which the first `callers` are in use, the oldest first; what all frames reserve of the slots; and the storage.
-- A frame has its variables from its base on, and its operand stack behind them. The arguments of a call stay where they are, and
-- become the first variables of the new frame.
pub record State : Type 0 where
  pub function : ℕ
  pub place : ℕ
  pub base : ℕ
  pub slots : List ℕ
  pub top : ℕ
  pub frames : List FrameRecord
  pub callers : ℕ
  pub reserved : ℕ
  pub storage : Storage

abbrev pub no_frame : FrameRecord
no_frame = record { function = 0; place = 0; base = 0 }

abbrev pub slot : State → ℕ → ℕ
slot l i = slice_index l.slots i

-- the word in a slot
abbrev pub word_in : State → ℕ → ℕ
word_in l i = slot l i % 2 ^ 32

-- ## Changes

-- goes on at q with the stack cut to `top`
abbrev pub moved : State → ℕ → ℕ → State
moved l q top = record l { place = q; top = top }

-- goes on at q with v in slot i, right above which the stack ends
abbrev pub pushed : State → ℕ → ℕ → ℕ → State
pushed l q i v = record l { place = q; slots = slice_set l.slots i v; top = suc i }

-- goes on at q with slot i set to v and the stack cut by one
abbrev pub assigned : State → ℕ → ℕ → ℕ → State
assigned l q i v = record l { place = q; slots = slice_set l.slots i v; top = l.top - 1 }

-- goes on at q with the two topmost slots exchanged
abbrev pub swapped : State → ℕ → State
swapped l q =
    record l {
      place = q;
      slots = slice_set (slice_set l.slots (l.top - 2) (slot l (l.top - 1))) (l.top - 1) (slot l (l.top - 2));
    }

abbrev pub with_storage : State → Storage → State
with_storage l m = record l { storage = m }

-- a call of function c that is g, to return to q
abbrev pub entered : State → ℕ → ℕ → Function → State
entered l q c g =
    record l {
      function = c;
      place = 0;
      base = l.top - length g.signature.arguments;
      top = (l.top - length g.signature.arguments) + g.variables;
      frames = slice_set l.frames l.callers (record { function = l.function; place = q; base = l.base });
      callers = suc l.callers;
      reserved = reserve (Some g) + l.reserved;
    }

-- a return of the value v from function g to the frame k
abbrev pub left : State → Function → FrameRecord → ℕ → State
left l g k v =
    record l {
      function = k.function;
      place = k.place;
      base = k.base;
      slots = slice_set l.slots l.base v;
      top = suc l.base;
      callers = l.callers - 1;
      reserved = l.reserved - reserve (Some g);
    }

-- ## One instruction without a host

-- what it comes to: another state, main's word, a stop; `lost` never happens to an accepted program
pub data Came : Type 0 where
  went : State → Came
  gave : ℕ → Came
  halted : Stop → Came
  lost : Came

abbrev pub tried : {A : Type 0} → Attempt A → (A → Came) → Came
tried (gives a) k = k a
tried (stops e) k = halted e

abbrev pub jumped : State → ℕ → Option ℕ → Came
jumped l top None = lost
jumped l top (Some q) = went (moved l q top)

-- a branch at the newest frame's place that is taken or not; q is the place after it
abbrev pub branched : State → ℕ → ℤ → ℕ → Bool → Came
branched l q o top true = jumped l top (target l.place o)
branched l q o top false = went (moved l q top)

-- stop 10 exactly when no frame is free, or what all frames reserve exceeds the slots
abbrev pub called : State → ℕ → ℕ → Option Function → Came
called l q c None = lost
called l q c (Some g) =
    cond (nat_lt (suc l.callers) (length l.frames))
    (cond (nat_le (reserve (Some g) + l.reserved) (length l.slots)) (went (entered l q c g)) (halted Calls))
    (halted Calls)

abbrev pub returned : State → Option Function → Came
returned l None = lost
returned l (Some g) =
    cond (nat_lt 0 l.callers)
    (went (left l g (slice_index_or l.frames (l.callers - 1) no_frame) (slot l (l.top - 1))))
    (gave (slot l (l.top - 1)))

-- every instruction but invokenative; q is the place after it
abbrev pub exec : Program → Instruction → ℕ → State → Came
exec P Nop q l = went (moved l q l.top)
exec P Pop q l = went (moved l q (l.top - 1))
exec P Dup q l = went (pushed l q l.top (slot l (l.top - 1)))
exec P Swap q l = went (swapped l q)
exec P AconstNull q l = went (pushed l q l.top 0)
exec P (Aldc c) q l = went (pushed l q l.top (c + 1))
exec P (Bipush b) q l = went (pushed l q l.top (wrap b))
exec P (Ildc c) q l = went (pushed l q l.top (slice_index P.integers c))
exec P (Vload i) q l = went (pushed l q l.top (slot l (l.base + i)))
exec P (Vstore i) q l = went (assigned l q (l.base + i) (slot l (l.top - 1)))
exec P (Binary op) q l =
    tried (compute op (word_in l (l.top - 2)) (word_in l (l.top - 1))) (λ z. went (pushed l q (l.top - 2) z))
exec P (IfCmpeq o) q l = branched l q o (l.top - 2) (slot l (l.top - 2) == slot l (l.top - 1))
exec P (IfCmpne o) q l = branched l q o (l.top - 2) (not (slot l (l.top - 2) == slot l (l.top - 1)))
exec P (IfIcmp order o) q l = branched l q o (l.top - 2) (holds order (word_in l (l.top - 2)) (word_in l (l.top - 1)))
exec P (Goto o) q l = branched l q o l.top true
exec P (Invokestatic c) q l = called l q c (nth P.functions c)
exec P (Invokenative c) q l = lost
exec P Return q l = returned l (nth P.functions l.function)
exec P (New s) q l = tried (new_single l.storage s) (λ a. went (pushed (with_storage l a.storage) q l.top a.number))
exec P (Newarray s) q l =
    tried (new_array l.storage s (word_in l (l.top - 1))) (λ a. went (pushed (with_storage l a.storage) q (l.top - 1) a.number))
exec P Arraylength q l = tried (array_length l.storage (slot l (l.top - 1))) (λ n. went (pushed l q (l.top - 1) n))
exec P (Aaddf f) q l = tried (add_field l.storage (slot l (l.top - 1)) f) (λ n. went (pushed l q (l.top - 1) n))
exec P Aadds q l =
    tried (add_index l.storage (slot l (l.top - 2)) (word_in l (l.top - 1))) (λ n. went (pushed l q (l.top - 2) n))
exec P Imload q l = tried (load_word l.storage (slot l (l.top - 1))) (λ n. went (pushed l q (l.top - 1) n))
exec P Cmload q l = tried (load_byte l.storage (slot l (l.top - 1))) (λ n. went (pushed l q (l.top - 1) n))
exec P Amload q l = tried (load_reference l.storage (slot l (l.top - 1))) (λ n. went (pushed l q (l.top - 1) n))
exec P Imstore q l =
    tried (store_word l.storage (slot l (l.top - 2)) (word_in l (l.top - 1))) (λ m. went (moved (with_storage l m) q (l.top - 2)))
exec P Cmstore q l =
    tried (store_byte l.storage (slot l (l.top - 2)) (word_in l (l.top - 1))) (λ m. went (moved (with_storage l m) q (l.top - 2)))
exec P Amstore q l =
    tried (store_reference l.storage (slot l (l.top - 2)) (slot l (l.top - 1))) (λ m. went (moved (with_storage l m) q (l.top - 2)))

-- ## A native

-- what a host is told of the slots from i on, by the kinds of the arguments
abbrev pub argument_of : Kind → ℕ → Argument
argument_of Unknown n = Argument.Reference (n == 0)
argument_of Word n = Argument.Word (n % 2 ^ 32)
argument_of Ref n = Argument.Reference (n == 0)

abbrev pub arguments_from : List Kind → List ℕ → ℕ → List Argument
arguments_from [] mem i = []
arguments_from (k ∷ ks) mem i = argument_of k (slice_index mem i) ∷ arguments_from ks mem (suc i)

-- the numbers of the reference arguments
abbrev pub number_if : Kind → ℕ → List ℕ → List ℕ
number_if Unknown n ns = ns
number_if Word n ns = ns
number_if Ref n ns = n ∷ ns

abbrev pub numbers_from : List Kind → List ℕ → ℕ → List ℕ
numbers_from [] mem i = []
numbers_from (k ∷ ks) mem i = number_if k (slice_index mem i) (numbers_from ks mem (suc i))

-- the text of a reference's number: a text's number is its position and one, below 2 ^ 32
abbrev pub text_of : List ℕ → ℕ → Text
text_of strings n = cond (n == 0) no_text (cond (nat_lt n (2 ^ 32)) (text_at strings (n - 1)) no_text)

abbrev pub text_in : List ℕ → Option ℕ → Text
text_in strings None = no_text
text_in strings (Some n) = text_of strings n

-- the slot of a native's first argument
abbrev pub first_argument : State → Native → ℕ
first_argument l n = l.top - length n.signature.arguments

abbrev pub numbers_of : State → Native → List ℕ
numbers_of l n = numbers_from n.signature.arguments l.slots (first_argument l n)

abbrev pub call_of : Program → State → Native → Call
call_of P l n =
    record {
      index = n.index;
      arguments = arguments_from n.signature.arguments l.slots (first_argument l n);
      first = text_in P.strings (nth (numbers_of l n) 0);
      second = text_in P.strings (nth (numbers_of l n) 1);
    }

-- an argument given back by its number among the references
abbrev pub handed : State → ℕ → ℕ → Option ℕ → Came
handed l q i None = lost
handed l q i (Some n) = went (pushed l q i n)

-- a reply, to be put where the first argument was
abbrev pub replied : State → ℕ → Native → Reply → Came
replied l q n (Reply.Word w) = went (pushed l q (first_argument l n) w)
replied l q n Reply.Null = went (pushed l q (first_argument l n) 0)
replied l q n (Reply.Argument j) = handed l q (first_argument l n) (nth (numbers_of l n) j)
replied l q n (Reply.Stop fault) = halted (ByHost fault)

-- ## A step

module _ {S : Type 0} where
  abbrev pub lifted : S → Came → Next State S
  lifted s (went m) = goes m s
  lifted s (gave w) = ends w s
  lifted s (halted e) = halts e s
  lifted s lost = breaks s

  module _ (P : Program) (host : Host S) where
    abbrev pub asked : State → ℕ → S → Option Native → Next State S
    asked l q s None = breaks s
    asked l q s (Some n) =
        cond (agrees n.signature (host.signs n.index))
        (lifted (host.becomes s (call_of P l n)) (replied l q n (host.replies s (call_of P l n))))
        (halts NoNative s)

    -- one instruction; q is the place after it
    abbrev pub act : Instruction → ℕ → State → S → Next State S
    act (Invokenative c) q l s = asked l q s (nth P.natives c)
    act i q l s = lifted s (exec P i q l)

    abbrev pub acted : Option Instruction → State → S → Next State S
    acted None l s = breaks s
    acted (Some i) l s = act i (l.place + size_of i) l s

    abbrev pub fetched : Option Function → State → S → Next State S
    fetched None l s = breaks s
    fetched (Some g) l s = acted (decode_at g.code l.place) l s

    abbrev pub step : State → S → Next State S
    step l s = fetched (nth P.functions l.function) l s

-- ## Start, and what can be seen

-- main's frame alone, at place 0, over these slots, frame records and storage
abbrev pub begins : Program → List ℕ → List FrameRecord → Storage → State
begins P mem frames storage =
    record {
      function = 0;
      place = 0;
      base = 0;
      slots = mem;
      top = variables_at P 0;
      frames = frames;
      callers = 0;
      reserved = variables_at P 0 + 32;
      storage = storage;
    }

-- a frame of function f at place p whose slots go from base up to top
abbrev pub view_of : Program → ℕ → ℕ → ℕ → ℕ → View
view_of P f p base top = record { function = f; place = p; depth = (top - base) - variables_at P f }

abbrev pub newest : Program → State → View
newest P l = view_of P l.function l.place l.base l.top

-- the caller j, the newest being 0, which ends where the frame above it begins
abbrev pub caller_at : State → ℕ → FrameRecord
caller_at l j = slice_index_or l.frames (l.callers - suc j) no_frame

abbrev pub end_of : State → ℕ → ℕ
end_of l zero = l.base
end_of l (suc j) = (caller_at l j).base

abbrev pub frame_at : Program → State → ℕ → Option View
frame_at P l zero = Some (newest P l)
frame_at P l (suc j) =
    cond (nat_lt j l.callers) (Some (view_of P (caller_at l j).function (caller_at l j).place (caller_at l j).base (end_of l j))) None

abbrev pub runtime_machine : {S : Type 0} → Program → Machine State S
runtime_machine P = record { step = λ host. step P host; newest = newest P; frame = frame_at P }
