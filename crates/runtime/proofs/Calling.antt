-- Calls, returns and natives: the running machine does what the checked machine does.
use Rattle.std.proofs.Common.{◌≡◌, ℕ, zero, suc, ◌+◌, ◌-◌, ◌%◌, ◌^◌, ◌<◌, ◌≤◌, Bool, true, false, cond, eqb, ltb, leb, List, [], ◌∷◌, ◌++◌, map, reverse, length, get_or, set, replicate, Some, None, Option, sym, refl, ap, ◌∙◌, subst, ap₂, subst₂, append_assoc, arith, length-append, length-set, get_or-set_same, ltb-true, le-ltb, lt-ltb, leb-true}
use Rattle.std.specs.List.{AllByRecursion}
use Rattle.std.specs.Option.{option_map}
use Rattle.std.proofs.lemmas.Option.{slice_get-map}
use lib.ListN.{length-map, length-replicate, length-reverse}
use borrow.Author.Tests.{eqb-false}
use Rattle.std.proofs.lemmas.List.{append-nil}
use Rattle.bytecode.specs.declared.kind.Kind.{Kind}
use Rattle.bytecode.specs.declared.kind.Kind.TheVariants.{Unknown, Word, Reference as Ref}
use Rattle.bytecode.specs.declared.stop.Stop.TheVariants.{Calls, Native as NoNative}
use Rattle.bytecode.specs.Program.{Program, Function, Native}
use Rattle.heap.specs.Checked.{Heap, Reference, null, text, block}
use Rattle.heap.specs.Storage.{Known, reference_of, block_of, offset_of}
use Rattle.host.specs.Hosts.{Host, no_text, text_at, Lawful, Suits, fits}
use Rattle.host.specs.declared.call.Argument.{Argument}
use Rattle.host.specs.declared.call.Reply.{Reply}
use Rattle.plan.specs.Programs.{nth}
use Rattle.checked.specs.Runs.{Next, goes, ends, stops as halts, breaks}
use Rattle.checked.specs.Machine.{Value, word, reference, kind_of, Frame, frame, Conf, conf, Sizes, reserve, reserved, agrees, references, room_for, resume, enter, return, answered, ask}
use Rattle.checked.specs.Machine as checked
use Rattle.checked.proofs.Pieces.{agrees_is, nth_some}
use Rattle.checked.proofs.Stacking.{arguments_fit, count_references_lem}
use Rattle.runtime.specs.declared.FrameRecord.{FrameRecord}
use Rattle.runtime.specs.Runtime.{State, no_frame, slot, pushed, entered, left as leaves, Came, went, gave, halted, called, returned, argument_of, arguments_from, numbers_from, text_of, text_in, first_argument, numbers_of, call_of, handed, replied, lifted, asked}
use Rattle.runtime.specs.Relation.{Stands, flat, Lays, Records, Represents, Represented, Same, go, end, stop}
use Rattle.runtime.proofs.Laying.{lays_front, lays_last, lays_more, lays_unset, length_more}
use Rattle.runtime.proofs.Framing.{flat_length, flat_push, flat_enter, records_more}
use Rattle.runtime.proofs.Simulating.{one, put, as_it_was}

lifted_cond : {S : Type 0} (s : S) (b : Bool) (x y : Came) → lifted s (cond b x y) ≡ cond b (lifted s x) (lifted s y)
lifted_cond s true x y = refl
lifted_cond s false x y = refl

-- two tests that are the same on both sides
both : {C D S : Type 0} (R : C → D → Type 0) (a b : Bool) (x z : Next C S) (y t : Next D S) → (a ≡ true → b ≡ true → Same R x y) → Same R z t
    → Same R (cond a (cond b x z) z) (cond a (cond b y t) t)
both R true true x z y t g h = g refl refl
both R true false x z y t g h = h
both R false true x z y t g h = h
both R false false x z y t g h = h

-- ## Calls

module _ (P : Program) (sizes : Sizes) {S : Type 0} (host : Host S) (f p q : ℕ) (vs : List (Option Value)) (st : List Value) (rest : List Frame) (h : Heap) (l : State) (s : S)
    (r : Represents P sizes f p vs st rest h l) where
  abbrev R : Conf → State → Type 0
  R = Represented P sizes

  pub enter_same : (c : ℕ) (g : Function) (args left : List Value) → nth P.functions c ≡ Some g → st ≡ reverse args ++ left → length args ≡ length g.signature.arguments
      → length g.signature.arguments ≤ g.variables → Same R (enter P host sizes c g args f q vs left rest h s) (lifted s (called l q c (Some g)))
  enter_same c g args left known whole count fit =
      subst (Same R (enter P host sizes c g args f q vs left rest h s))
      (sym (lifted_cond s (ltb (suc l.callers) (length l.frames)) (cond (leb (reserve (Some g) + l.reserved) (length l.slots)) (went (entered l q c g)) (halted Calls)) (halted Calls)
      ∙ ap (λ x. cond (ltb (suc l.callers) (length l.frames)) x (halts Calls s)) (lifted_cond s (leb (reserve (Some g) + l.reserved) (length l.slots)) (went (entered l q c g)) (halted Calls))))
      (subst₂ (λ a b. Same R (enter P host sizes c g args f q vs left rest h s) (cond a (cond b (goes (entered l q c g) s) (halts Calls s)) (halts Calls s)))
      (sym (ap₂ (λ x y. ltb (suc x) y) r.callers r.frame_count)) (sym (ap₂ (λ x y. leb (reserve (Some g) + x) y) r.reserves r.slot_count))
      (both R (ltb (suc (length rest)) sizes.frames) (leb (reserve (Some g) + reserved P (frame f q vs left ∷ rest)) sizes.slots) _ _ _ _
      (λ a b. go (inside (ltb-true (suc (length rest)) sizes.frames a) (leb-true (reserve (Some g) + reserved P (frame f q vs left ∷ rest)) sizes.slots b))) stop))
    where
      k : ℕ
      k = g.variables - length args

      new : List (Option Value)
      new = map Some args ++ replicate k None

      depth : length st ≡ length args + length left
      depth = ap length whole ∙ length-append (reverse args) left ∙ ap (λ n. n + length left) (length-reverse args)

      caller : FrameRecord
      caller = record { function = l.function; place = q; base = l.base }

      caller_is : ◌≡◌ {A = FrameRecord} caller (record { function = f; place = q; base = length (flat rest) })
      caller_is = let a = r.function in let b = r.base in cc

      inside : suc (length rest) < sizes.frames → reserve (Some g) + reserved P (frame f q vs left ∷ rest) ≤ sizes.slots
          → Represents P sizes c 0 new [] (frame f q vs left ∷ rest) h (entered l q c g)
      inside free roomy =
          let e = flat_enter f p q c vs st args left rest k whole in
          let a = flat_length f p vs st rest in
          let b = flat_length f q vs left rest in
          let t = r.top in
          let n = depth in
          let w : length (flat (frame c 0 new [] ∷ frame f q vs left ∷ rest)) ≡ length (flat (frame f p vs st ∷ rest)) + k =
          ap length e ∙ length-append (flat (frame f p vs st ∷ rest)) (replicate k None) ∙ ap (λ n. length (flat (frame f p vs st ∷ rest)) + n) (length-replicate {A = Option Value} k None) in
          let lt : length rest < length l.frames = (let z = r.frame_count in omega arith) in
          let v = ap reserve known in
          record {
            function = refl;
            place = refl;
            base = omega arith;
            top = omega arith;
            lays = subst (λ xs. Lays l.storage.count xs l.slots) (sym e) (lays_unset l.storage.count (flat (frame f p vs st ∷ rest)) k l.slots r.lays);
            records = subst (λ i. Records (set l.frames i caller) (frame f q vs left ∷ rest)) (sym r.callers)
                ((get_or-set_same l.frames (length rest) caller no_frame lt ∙ caller_is), records_more l.frames (length rest) caller rest (omega arith) r.records);
            callers = ap suc r.callers;
            reserves = let z = r.reserves in omega arith;
            slot_count = r.slot_count;
            frame_count = length-set l.frames l.callers caller ∙ r.frame_count;
            roomy = omega arith;
            free = free;
            heap = r.heap;
            sized = r.sized;
          }

-- ## Returns

-- the value is put where the callee's variables began, right above the caller's stack
module _ (P : Program) (sizes : Sizes) {S : Type 0} (f p : ℕ) (vs : List (Option Value)) (h : Heap) (l : State) (s : S) (g : Function)
    (known : nth P.functions f ≡ Some g) where
  back : (v : Value) (e q : ℕ) (us : List (Option Value)) (t : List Value) (rest : List Frame) → Represents P sizes f p vs (v ∷ []) (frame e q us t ∷ rest) h l → length (flat (frame e q us t ∷ rest)) < length l.slots
      → Represents P sizes e q us (v ∷ t) rest h (leaves l g (get_or l.frames (l.callers - 1) no_frame) (slot l (l.top - 1)))
  back v e q us t rest r inside =
      subst (λ k. Represents P sizes e q us (v ∷ t) rest h (leaves l g k (slot l (l.top - 1)))) (sym there)
      (subst (λ b. Represents P sizes e q us (v ∷ t) rest h (record {
        function = e;
        place = q;
        base = length (flat rest);
        slots = set l.slots b (slot l (l.top - 1));
        top = suc b;
        frames = l.frames;
        callers = l.callers - 1;
        reserved = l.reserved - reserve (Some g);
        storage = l.storage;
      })) (sym r.base) whole)
    where
      below : List (Option Value)
      below = flat (frame e q us t ∷ rest)

      there : get_or l.frames (l.callers - 1) no_frame ≡ record { function = e; place = q; base = length (flat rest) }
      there = let i : l.callers - 1 ≡ length rest = (let a = r.callers in omega arith) in ap (λ n. get_or l.frames n no_frame) i ∙ r.records.0

      top_is : l.top - 1 ≡ length below + length vs
      top_is = let a = r.top in let b = flat_length f p vs (v ∷ []) (frame e q us t ∷ rest) in omega arith

      value : Stands l.storage.count v (slot l (l.top - 1))
      value =
          let a = subst (λ xs. Lays l.storage.count xs l.slots) (flat_push f p vs v [] (frame e q us t ∷ rest)) r.lays in
          let i : l.top - 1 ≡ length (flat (frame f p vs [] ∷ frame e q us t ∷ rest)) = top_is ∙ (let b = flat_length f p vs [] (frame e q us t ∷ rest) in let z : length below + length vs ≡ length (flat (frame f p vs [] ∷ frame e q us t ∷ rest)) = omega arith in z) in
          subst (λ n. Stands l.storage.count v (slot l n)) (sym i) (lays_last l.storage.count (flat (frame f p vs [] ∷ frame e q us t ∷ rest)) v l.slots a)

      whole : Represents P sizes e q us (v ∷ t) rest h (record {
        function = e;
        place = q;
        base = length (flat rest);
        slots = set l.slots (length below) (slot l (l.top - 1));
        top = suc (length below);
        frames = l.frames;
        callers = l.callers - 1;
        reserved = l.reserved - reserve (Some g);
        storage = l.storage;
      })
      whole =
          let front = lays_front l.storage.count below (vs ++ map Some (reverse (v ∷ []))) l.slots r.lays in
          let a = flat_length e q us t rest in
          let n = r.reserves in
          let w = ap reserve known in
          record {
            function = refl;
            place = refl;
            base = refl;
            top = sym (ap length (flat_push e q us v t rest) ∙ length_more below (Some v));
            lays = subst (λ xs. Lays l.storage.count xs (set l.slots (length below) (slot l (l.top - 1)))) (sym (flat_push e q us v t rest))
                (lays_more l.storage.count below v l.slots (slot l (l.top - 1)) inside front value);
            records = r.records.1;
            callers = let z = r.callers in omega arith;
            reserves = omega arith;
            slot_count = length-set l.slots (length below) (slot l (l.top - 1)) ∙ r.slot_count;
            frame_count = r.frame_count;
            roomy = let z = r.roomy in omega arith;
            free = let z = r.free in omega arith;
            heap = r.heap;
            sized = r.sized;
          }

  pub return_same : (v : Value) (rest : List Frame) → Represents P sizes f p vs (v ∷ []) rest h l
      → ((e q : ℕ) (us : List (Option Value)) (t : List Value) (fs : List Frame) → rest ≡ frame e q us t ∷ fs → length t < 32)
      → (rest ≡ [] → kind_of v ≡ Word) → length (flat rest) < length l.slots
      → Same (Represented P sizes) (return v rest h s) (lifted s (returned l (Some g)))
  return_same v [] r low main inside =
      subst (λ b. Same (Represented P sizes) (return v [] h s) (lifted s (cond b (went (leaves l g (get_or l.frames (l.callers - 1) no_frame) (slot l (l.top - 1)))) (gave (slot l (l.top - 1))))))
      (sym (le-ltb 0 l.callers (let a = r.callers in omega arith))) (last v r (main refl))
    where
      last : (v : Value) → Represents P sizes f p vs (v ∷ []) [] h l → kind_of v ≡ Word → Same (Represented P sizes) (return v [] h s) (ends (slot l (l.top - 1)) s)
      last (word n) r e =
          subst (λ m. Same (Represented P sizes) (ends n s) (ends m s)) (sym (one P sizes f p vs [] h l s (word n) [] r).stood.0) end
      last (reference a) r e = cc
  return_same v (frame e q us t ∷ fs) r low main inside =
      subst₂ (λ a b. Same (Represented P sizes) (cond a (resume e q us (v ∷ t) fs h s) (breaks s)) (lifted s (cond b (went (leaves l g (get_or l.frames (l.callers - 1) no_frame) (slot l (l.top - 1)))) (gave (slot l (l.top - 1))))))
      (sym (lt-ltb (length t) 32 (low e q us t fs refl))) (sym (lt-ltb 0 l.callers (let a = r.callers in omega arith)))
      (go (back v e q us t fs r inside))

-- ## Natives

-- arguments that lie in the slots from i on
abbrev ArgumentsAt : ℕ → List Value → List ℕ → ℕ → Type 0
ArgumentsAt count [] mem i = Unit {0}
ArgumentsAt count (v ∷ vs) mem i = Stands count v (get_or mem i 0) × ArgumentsAt count vs mem (suc i)

arguments_at : (count : ℕ) (xs : List (Option Value)) (args : List Value) (mem : List ℕ) → Lays count (xs ++ map Some args) mem → ArgumentsAt count args mem (length xs)
arguments_at count xs [] mem h = tt
arguments_at count xs (v ∷ args) mem h =
    let e = append_assoc xs (Some v ∷ []) (map Some args) in
    let d = subst (λ ys. Lays count ys mem) (sym e) h in (
      lays_last count xs v mem (lays_front count (xs ++ (Some v ∷ [])) (map Some args) mem d),
      subst (ArgumentsAt count args mem) (length_more xs (Some v)) (arguments_at count (xs ++ (Some v ∷ [])) args mem d),
    )

-- what a reference's number says of it
by_number : (Q : Reference → Bool → Type 0) (n : ℕ) → Q null true → ((p : ℕ) → n ≡ suc p → Q (text p) false) → ((b o : ℕ) → Q (block b o) false) → Q (reference_of n) (eqb n 0)
by_number Q n a b c = pick (eqb n 0) refl (ltb n (2 ^ 32))
  where
    pick : (x : Bool) → eqb n 0 ≡ x → (y : Bool) → Q (cond x null (cond y (text (n - 1)) (block (block_of n) (offset_of n)))) x
    pick true e y = a
    pick false e true = b (n - 1) (positive n (eqb-false n 0 e))
      where
        positive : (n : ℕ) → (n ≡ 0 → ⊥) → n ≡ suc (n - 1)
        positive n ne = omega arith
    pick false e false = c (block_of n) (offset_of n)

told : (n : ℕ) → checked.argument_of (reference (reference_of n)) ≡ Argument.Reference (eqb n 0)
told n = by_number (λ r b. checked.argument_of (reference r) ≡ Argument.Reference b) n refl (λ p e. refl) (λ b o. refl)

text_same : (strings : List ℕ) (n : ℕ) → checked.text_of strings (reference_of n) ≡ text_of strings n
text_same strings n = pick (eqb n 0) (ltb n (2 ^ 32))
  where
    pick : (a b : Bool) → checked.text_of strings (cond a null (cond b (text (n - 1)) (block (block_of n) (offset_of n)))) ≡ cond a no_text (cond b (text_at strings (n - 1)) no_text)
    pick true b = refl
    pick false true = refl
    pick false false = refl

told_of : (count : ℕ) (v : Value) (n : ℕ) → Stands count v n → argument_of (kind_of v) n ≡ checked.argument_of v
told_of count (word w) n h = let e : n % 2 ^ 32 ≡ w = (let a = h.0 in let b = h.1 in omega arith) in ap Argument.Word e
told_of count (reference r) n h = sym (told n) ∙ ap (λ q. checked.argument_of (reference q)) (sym h.0)

arguments_same : (count : ℕ) (args : List Value) (mem : List ℕ) (i : ℕ) → ArgumentsAt count args mem i → arguments_from (map kind_of args) mem i ≡ map checked.argument_of args
arguments_same count [] mem i h = refl
arguments_same count (v ∷ args) mem i h =
    let a = told_of count v (get_or mem i 0) h.0 in
    let b = arguments_same count args mem (suc i) h.1 in
    cc

-- the references among the arguments, by their numbers
numbers_same : (count : ℕ) (args : List Value) (mem : List ℕ) (i : ℕ) → ArgumentsAt count args mem i → references args ≡ map reference_of (numbers_from (map kind_of args) mem i)
numbers_same count [] mem i h = refl
numbers_same count (word w ∷ args) mem i h = numbers_same count args mem (suc i) h.1
numbers_same count (reference r ∷ args) mem i h =
    let a = h.0.0 in
    let b = numbers_same count args mem (suc i) h.1 in
    cc

numbers_known : (count : ℕ) (args : List Value) (mem : List ℕ) (i : ℕ) → ArgumentsAt count args mem i → AllByRecursion (Known count) (numbers_from (map kind_of args) mem i)
numbers_known count [] mem i h = tt
numbers_known count (word w ∷ args) mem i h = numbers_known count args mem (suc i) h.1
numbers_known count (reference r ∷ args) mem i h = (h.0.1, numbers_known count args mem (suc i) h.1)

known_nth : (count : ℕ) (ns : List ℕ) (j n : ℕ) → AllByRecursion (Known count) ns → nth ns j ≡ Some n → Known count n
known_nth count [] j n h e = cc
known_nth count (m ∷ ns) zero n h e = let q : m ≡ n = cc in subst (Known count) q h.0
known_nth count (m ∷ ns) (suc j) n h e = known_nth count ns j n h.1 e

text_in-same : (strings : List ℕ) (ns : List ℕ) (i : ℕ) → checked.text_in strings (nth (map reference_of ns) i) ≡ text_in strings (nth ns i)
text_in-same strings [] i = refl
text_in-same strings (n ∷ ns) zero = text_same strings n
text_in-same strings (n ∷ ns) (suc i) = text_in-same strings ns i

-- a native: the host is told the same, and its reply is put where the first argument was
module _ (P : Program) (sizes : Sizes) {S : Type 0} (host : Host S) (lawful : Lawful host) (f p q : ℕ) (vs : List (Option Value)) (st : List Value) (rest : List Frame) (h : Heap) (l : State) (s : S)
    (r : Represents P sizes f p vs st rest h l) (room : (t : List Value) → length t < 32 → length (flat (frame f p vs t ∷ rest)) < length l.slots) (n : Native) (args left : List Value)
    (whole : st ≡ reverse args ++ left) (kinds : map kind_of args ≡ n.signature.arguments) (low : length left < 32) where
  spread : flat (frame f p vs st ∷ rest) ≡ flat (frame f p vs left ∷ rest) ++ map Some args
  spread =
      sym (append-nil (flat (frame f p vs st ∷ rest))) ∙ sym (flat_enter f p p 0 vs st args left rest 0 whole)
      ∙ ap (λ m. flat (frame f p vs left ∷ rest) ++ m) (append-nil (map Some args ++ []) ∙ append-nil (map Some args))

  lying : Lays l.storage.count (flat (frame f p vs left ∷ rest) ++ map Some args) l.slots
  lying = subst (λ xs. Lays l.storage.count xs l.slots) spread r.lays

  first_is : first_argument l n ≡ length (flat (frame f p vs left ∷ rest))
  first_is =
      let a = r.top in
      let b = ap length spread ∙ length-append (flat (frame f p vs left ∷ rest)) (map Some args) in
      let c = length-map args (λ v. Some v) in
      let d = ap length (sym kinds) ∙ length-map args kind_of in
      omega arith

  there : ArgumentsAt l.storage.count args l.slots (first_argument l n)
  there = subst (ArgumentsAt l.storage.count args l.slots) (sym first_is) (arguments_at l.storage.count (flat (frame f p vs left ∷ rest)) args l.slots lying)

  numbers_are : references args ≡ map reference_of (numbers_of l n)
  numbers_are = numbers_same l.storage.count args l.slots (first_argument l n) there ∙ ap (λ k. map reference_of (numbers_from k l.slots (first_argument l n))) kinds

  numbers_known_are : AllByRecursion (Known l.storage.count) (numbers_of l n)
  numbers_known_are = subst (λ k. AllByRecursion (Known l.storage.count) (numbers_from k l.slots (first_argument l n))) kinds (numbers_known l.storage.count args l.slots (first_argument l n) there)

  call_same : call_of P l n ≡ checked.call_of P n args
  call_same =
      let a = ap (λ k. arguments_from k l.slots (first_argument l n)) (sym kinds) ∙ arguments_same l.storage.count args l.slots (first_argument l n) there in
      let b : text_in P.strings (nth (numbers_of l n) 0) ≡ checked.text_in P.strings (nth (references args) 0) =
      sym (text_in-same P.strings (numbers_of l n) 0) ∙ ap (λ k. checked.text_in P.strings (nth k 0)) (sym numbers_are) in
      let c : text_in P.strings (nth (numbers_of l n) 1) ≡ checked.text_in P.strings (nth (references args) 1) =
      sym (text_in-same P.strings (numbers_of l n) 1) ∙ ap (λ k. checked.text_in P.strings (nth k 1)) (sym numbers_are) in
      λ i. record { index = n.index; arguments = a i; first = b i; second = c i }

  -- a value put where the first argument was
  answer : (u : S) (v : Value) (m : ℕ) → Stands l.storage.count v m
      → Same (Represented P sizes) (resume f q vs (v ∷ left) rest h u) (goes (pushed l q (first_argument l n) m) u)
  answer u v m sv =
      go (put P sizes f p vs rest h l s room st r left q (first_argument l n) m v h l.storage
      (lays_front l.storage.count (flat (frame f p vs left ∷ rest)) (map Some args) l.slots lying) first_is low r.heap (as_it_was P sizes f p vs rest h l s st r) sv)

  reply_same : (u : S) {k : Kind} {c : ℕ} {reply : Reply} → Suits k c reply → c ≡ length (references args)
      → Same (Represented P sizes) (answered k reply (references args) u (λ v. resume f q vs (v ∷ left) rest h u)) (lifted u (replied l q n reply))
  reply_same u (Suits.word {w = w} lt) e = answer u (word w) w (refl, lt)
  reply_same u Suits.null e = answer u (reference null) 0 (refl, λ big. absurd (omega arith))
  reply_same u (Suits.argument {i = i} lt) e =
      let ns = numbers_of l n in
      let size : length (map reference_of ns) ≡ length ns = length-map ns reference_of in
      let x = nth_some ns i (let a = ap length numbers_are in omega arith) in
      let a : nth (references args) i ≡ Some (reference_of x.0) = ap (λ k. nth k i) numbers_are ∙ (slice_get-map reference_of ns i ∙ ap (option_map reference_of) x.1) in
      subst₂ (λ o w. Same (Represented P sizes) (checked.found o u (λ z. resume f q vs (reference z ∷ left) rest h u)) (lifted u (handed l q (first_argument l n) w))) (sym a) (sym x.1)
      (answer u (reference (reference_of x.0)) x.0 (refl, known_nth l.storage.count ns i x.0 numbers_known_are x.1))
  reply_same u (Suits.stop {k = Unknown}) e = stop
  reply_same u (Suits.stop {k = Word}) e = stop
  reply_same u (Suits.stop {k = Ref}) e = stop

  pub ask_same : Same (Represented P sizes) (ask P host sizes n args s (λ v u. resume f q vs (v ∷ left) rest h u)) (asked P host l q s (Some n))
  ask_same = pick (agrees n.signature (host.signs n.index)) refl
    where
      pick : (b : Bool) → agrees n.signature (host.signs n.index) ≡ b
          → Same (Represented P sizes) (cond b (answered n.signature.result (host.replies s (checked.call_of P n args)) (references args) (host.becomes s (checked.call_of P n args))
          (λ v. resume f q vs (v ∷ left) rest h (host.becomes s (checked.call_of P n args)))) (halts NoNative s))
          (cond b (lifted (host.becomes s (call_of P l n)) (replied l q n (host.replies s (call_of P l n)))) (halts NoNative s))
      pick false e = stop
      pick true e =
          subst (λ c. Same (Represented P sizes) (answered n.signature.result (host.replies s (checked.call_of P n args)) (references args) (host.becomes s (checked.call_of P n args))
          (λ v. resume f q vs (v ∷ left) rest h (host.becomes s (checked.call_of P n args)))) (lifted (host.becomes s c) (replied l q n (host.replies s c)))) (sym call_same)
          (reply_same (host.becomes s (checked.call_of P n args))
          (lawful.suits s (checked.call_of P n args) n.signature (agrees_is n.signature (host.signs n.index) e)
          (subst (λ k. fits k (map checked.argument_of args) ≡ true) kinds (arguments_fit args)))
          (count_references_lem args))
