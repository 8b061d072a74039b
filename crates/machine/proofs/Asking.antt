-- The call of a native: what the slots of its arguments say is what the state says, and each reply is the definition's.
use Rattle.std.proofs.Common.{◌≡◌, ℕ, suc, ◌+◌, ◌-◌, ◌<◌, ◌≤◌, true, cond, List, [], ◌∷◌, length, get_or, take, drop, is_some, Some, None, Option, sym, refl, ap, ◌∙◌, subst, ap₂, add-zero, arith}
use Rattle.std.proofs.lemmas.List.{get_or-take, get_or-drop}
use Rattle.bytecode.specs.declared.kind.Kind.{Kind}
use Rattle.bytecode.specs.declared.stop.Stop.TheVariants.{Native as NoNative}
use Rattle.bytecode.specs.Program.{Program, Native, Signature}
use Rattle.plan.specs.Programs.{nth}
use Rattle.host.specs.Hosts.{Host}
use Rattle.host.specs.declared.call.Reply.{Reply}
use Rattle.checked.specs.Runs.{stops}
use Rattle.checked.specs.Machine.{agrees}
use Rattle.std.proofs.lemmas.Option.{slice_get-get_or}
use Rattle.runtime.specs.Runtime.{State, went, pushed, first_argument, argument_of, arguments_from, number_if, numbers_from, numbers_of, text_in, call_of, handed, replied, lifted, asked}
use Rattle.ready.specs.Ready.{no_native, native_at, Whole}
use Rattle.natives.specs.Calls.{call_with}

-- ## The slots of the arguments

slot_in_part : (mem : List ℕ) (i n j : ℕ) → j < n → get_or (take n (drop i mem)) j 0 ≡ get_or mem (i + j) 0
slot_in_part mem i n j lt = get_or-take n (drop i mem) j 0 lt ∙ get_or-drop i mem j 0

arguments_in_part : (ks : List Kind) (mem : List ℕ) (i n j : ℕ) → j + length ks ≤ n → arguments_from ks (take n (drop i mem)) j ≡ arguments_from ks mem (i + j)
arguments_in_part [] mem i n j le = refl
arguments_in_part (k ∷ ks) mem i n j le =
    ap₂ (λ x xs. argument_of k x ∷ xs) (slot_in_part mem i n j (omega arith))
    (arguments_in_part ks mem i n (suc j) (omega arith) ∙ ap (arguments_from ks mem) (let e : i + suc j ≡ suc (i + j) = omega arith in e))

numbers_in_part : (ks : List Kind) (mem : List ℕ) (i n j : ℕ) → j + length ks ≤ n → numbers_from ks (take n (drop i mem)) j ≡ numbers_from ks mem (i + j)
numbers_in_part [] mem i n j le = refl
numbers_in_part (k ∷ ks) mem i n j le =
    ap₂ (number_if k) (slot_in_part mem i n j (omega arith))
    (numbers_in_part ks mem i n (suc j) (omega arith) ∙ ap (numbers_from ks mem) (let e : i + suc j ≡ suc (i + j) = omega arith in e))

numbers_of_part : (l : State) (n : Native) (k : ℕ) → length n.signature.arguments ≤ k
    → numbers_from n.signature.arguments (take k (drop (first_argument l n) l.slots)) 0 ≡ numbers_of l n
numbers_of_part l n k le =
    numbers_in_part n.signature.arguments l.slots (first_argument l n) k 0 (omega arith)
    ∙ ap (numbers_from n.signature.arguments l.slots) (add-zero (first_argument l n))

call_of_part : (P : Program) (l : State) (n : Native) (k : ℕ) → length n.signature.arguments ≤ k
    → call_with P n (take k (drop (first_argument l n) l.slots)) ≡ call_of P l n
call_of_part P l n k le =
    let a = arguments_in_part n.signature.arguments l.slots (first_argument l n) k 0 (omega arith)
    ∙ ap (arguments_from n.signature.arguments l.slots) (add-zero (first_argument l n)) in
    let b = numbers_of_part l n k le in
    λ i. record { index = n.index; arguments = a i; first = text_in P.strings (nth (b i) 0); second = text_in P.strings (nth (b i) 1) }

-- ## The reply

-- where a native is called: the host's signature is the sheet's, and the slots that are lent are those of the arguments
pub record Calling {S : Type 0} (P : Program) (host : Host S) (l : State) (c : ℕ) (part : List ℕ) : Type 0 where
  pub there : c < length P.natives
  pub signed : true ≡ agrees (native_at P c).signature (host.signs (native_at P c).index)
  pub part_is : part ≡ take (length (native_at P c).signature.arguments) (drop (first_argument l (native_at P c)) l.slots)

-- the part of the slots begins with the first argument and ends at the top
pub calling : {S : Type 0} (P : Program) (host : Host S) (l m : State) (c index top count : ℕ) (signed : Option Signature) (part : List ℕ)
    → c < length P.natives → length (native_at P c).signature.arguments ≤ l.top
    → true ≡ agrees (native_at P c).signature signed → signed ≡ host.signs index → index ≡ (native_at P c).index
    → m ≡ l → top ≡ l.top → count ≡ length (native_at P c).signature.arguments → part ≡ take (top - (top - count)) (drop (top - count) m.slots)
    → Calling P host l c part
calling P host l m c index top count signed part there le agree es ei em et ec ep =
    let g = (native_at P c).signature in
    let a : top - count ≡ first_argument l (native_at P c) = omega arith in
    let b : top - (top - count) ≡ length g.arguments = omega arith in
    record {
      there = there;
      signed = agree ∙ ap (agrees g) (es ∙ ap host.signs ei);
      part_is = ep ∙ ap₂ (λ k i. take k (drop i m.slots)) b a ∙ ap (λ x. take (length g.arguments) (drop (first_argument l (native_at P c)) x.slots)) em;
    }

-- a value put at the first argument of the state as it was
pub put_first : (l m : State) (n : Native) (q top count v : ℕ) → m ≡ l → top ≡ l.top → count ≡ length n.signature.arguments
    → went (pushed m q (top - count) v) ≡ went (pushed l q (first_argument l n) v)
put_first l m n q top count v em et ec =
    let a : top - count ≡ first_argument l n = omega arith in
    ap₂ (λ x i. went (pushed x q i v)) em a

module _ {S : Type 0} (P : Program) (host : Host S) (l : State) (q c : ℕ) (s : S) (part : List ℕ) (h : Calling P host l c part) where
  call_is : call_with P (native_at P c) part ≡ call_of P l (native_at P c)
  call_is = ap (call_with P (native_at P c)) h.part_is ∙ call_of_part P l (native_at P c) (length (native_at P c).signature.arguments) (omega arith)

  numbers_are : numbers_from (native_at P c).signature.arguments part 0 ≡ numbers_of l (native_at P c)
  numbers_are = ap (λ x. numbers_from (native_at P c).signature.arguments x 0) h.part_is ∙ numbers_of_part l (native_at P c) (length (native_at P c).signature.arguments) (omega arith)

  pub reply_is : (reply : Reply) (t : S) → reply ≡ host.replies s (call_with P (native_at P c) part) → t ≡ host.becomes s (call_with P (native_at P c) part)
      → lifted t (replied l q (native_at P c) reply) ≡ asked P host l q s (nth P.natives c)
  reply_is reply t a b =
      ap₂ (λ u r. lifted u (replied l q (native_at P c) r)) (b ∙ ap (host.becomes s) call_is) (a ∙ ap (host.replies s) call_is)
      ∙ ap (λ b. cond b (lifted (host.becomes s (call_of P l (native_at P c))) (replied l q (native_at P c) (host.replies s (call_of P l (native_at P c))))) (stops NoNative s)) h.signed
      ∙ ap (asked P host l q s) (sym (slice_get-get_or P.natives c no_native h.there))

  handed_some : (t : S) (i : ℕ) (o : Option ℕ) → Whole (lifted t (handed l q i o)) → is_some o ≡ true
  handed_some t i None w = absurd w
  handed_some t i (Some m) w = refl

  -- a reference argument that a host gives back is there
  pub given_there : Whole (asked P host l q s (nth P.natives c)) → (j : ℕ) (o : Option ℕ) → Reply.Argument j ≡ host.replies s (call_with P (native_at P c) part)
      → o ≡ nth (numbers_from (native_at P c).signature.arguments part 0) j → is_some o ≡ true
  given_there w j o a e =
      ap is_some (e ∙ ap (λ ns. nth ns j) numbers_are)
      ∙ handed_some (host.becomes s (call_with P (native_at P c) part)) (first_argument l (native_at P c)) (nth (numbers_of l (native_at P c)) j)
      (subst Whole (sym (reply_is (Reply.Argument j) (host.becomes s (call_with P (native_at P c) part)) a refl)) w)

  pub given_is : (j v : ℕ) (o : Option ℕ) → o ≡ nth (numbers_from (native_at P c).signature.arguments part 0) j → o ≡ Some v
      → went (pushed l q (first_argument l (native_at P c)) v) ≡ replied l q (native_at P c) (Reply.Argument j)
  given_is j v o e some =
      ap (handed l q (first_argument l (native_at P c))) (sym some ∙ e ∙ ap (λ ns. nth ns j) numbers_are)
