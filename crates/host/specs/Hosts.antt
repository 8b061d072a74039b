-- Hosts: what a host is told at a call, what it replies, and the laws that every host keeps.
use Rattle.std.specs.Prelude.{◌≡◌, ℕ, suc, ◌^◌, ◌<◌, Bool, true, false, cond, List, [], ◌∷◌, drop, Some, None, Option, ◌==◌}
use Rattle.std.specs.Cmp.Lexicographic.{pointwise}
use Rattle.std.specs.List.{before_first}
use Rattle.bytecode.specs.Program.{Signature}
use Rattle.bytecode.specs.declared.kind.Kind.{Kind}
use Rattle.bytecode.specs.declared.kind.Kind.TheVariants.{Word, Reference}
use Rattle.bytecode.specs.declared.stop.HostFault.{HostFault}
use Rattle.host.specs.declared.call.Argument.{Argument}
use Rattle.host.specs.declared.call.Reply.{Reply}

-- ## Texts

-- what a host is told of a reference's text: its bytes
pub record Text : Type 0 where
  pub bytes : List ℕ

-- what a host is told where there is no text
abbrev pub no_text : Text
no_text = record { bytes = [] }

-- the text at a position of a program's string bytes: those from there before the first 00, or all where there is none
abbrev pub text_at : List ℕ → ℕ → Text
text_at strings position = record { bytes = before_first (λ b. b == 0) (drop position strings) }

-- ## Calls and replies

-- All that a host is told at a call: the index in its table; the arguments, the first first, each a word (by its 32 bits) or a
-- reference with its null mark alone; and the texts of the first two reference arguments. A reference to other than a text,
-- and a reference argument that is not there, has no text.
pub record Call : Type 0 where
  pub index : ℕ
  pub arguments : List Argument
  pub first : Text
  pub second : Text

-- a reply is a word, null, one of the reference arguments by its number among them (from 0), or a stop with the host's fault
abbrev pub stop_with : ℕ → Reply
stop_with n = Reply.Stop (record { code = n })

-- ## What a host is

-- A make of hosts, whose states are S: its signature for a table index, if any; and in each state what it replies to a call
-- and which state it is in then. Nothing else is passed in, so nothing else matters. Two hosts are twins where they are of one
-- make and in equal states.
pub record Host (S : Type 0) : Type 0 where
  pub signs : ℕ → Option Signature
  pub replies : S → Call → Reply
  pub becomes : S → Call → S

-- ## The laws

abbrev pub is_of : Kind → Argument → Bool
is_of Word (Argument.Word w) = true
is_of Reference (Argument.Reference null) = true
is_of k a = false

-- as many arguments as kinds, each of its kind
abbrev pub fits : List Kind → List Argument → Bool
fits = pointwise is_of

-- there is a signature, and the arguments fit it
abbrev pub fitting : Option Signature → List Argument → Bool
fitting None given = false
fitting (Some g) given = fits g.arguments given

-- how many of the arguments are references
abbrev pub references : List Argument → ℕ
references [] = 0
references (Argument.Word w ∷ rest) = references rest
references (Argument.Reference null ∷ rest) = suc (references rest)

-- a reply that a result's kind allows after n reference arguments
pub data Suits : Kind → ℕ → Reply → Type 0 where
  word : {n w : ℕ} → w < 2 ^ 32 → Suits Word n (Reply.Word w)
  null : {n : ℕ} → Suits Reference n Reply.Null
  argument : {n i : ℕ} → i < n → Suits Reference n (Reply.Argument i)
  stop : {k : Kind} {n : ℕ} {fault : HostFault} → Suits k n (Reply.Stop fault)

-- arguments that fit the signature get a reply of its result's kind, or a stop;
-- any others (and all, where there is no signature) get a stop with code 0, and the state is kept
pub record Lawful {S : Type 0} (host : Host S) : Type 0 where
  pub suits : (s : S) (call : Call) (g : Signature) → host.signs call.index ≡ Some g → fits g.arguments call.arguments ≡ true →
      Suits g.result (references call.arguments) (host.replies s call)
  pub misfit : (s : S) (call : Call) → fitting (host.signs call.index) call.arguments ≡ false → host.replies s call ≡ stop_with 0
  pub keeps : (s : S) (call : Call) → fitting (host.signs call.index) call.arguments ≡ false → host.becomes s call ≡ s
