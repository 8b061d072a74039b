-- One instruction: the running machine does what the checked machine does, and goes on to represent it.
use Rattle.std.proofs.Common.{◌≡◌, ℕ, suc, ◌+◌, ◌-◌, ◌%◌, ◌^◌, ◌<◌, ◌≤◌, Bool, true, false, ◌&&◌, cond, eqb, ltb, List, [], ◌∷◌, length, get_or, set, ℤ, Some, None, Option, sym, refl, ap, ◌∙◌, subst, ap₂, subst₂, arith, length-set, lt-ltb, eq-eqb, eqb-true}
use borrow.Author.Tests.{eqb-false}
use Rattle.bytecode.specs.declared.kind.Kind.{Kind}
use Rattle.bytecode.specs.declared.kind.Kind.TheVariants.{Word, Reference as Ref}
use Rattle.bytecode.specs.Instructions.{target}
use Rattle.bytecode.specs.Program.{Program}
use Rattle.bytecode.specs.Stops.{Attempt, gives, stops}
use Rattle.heap.specs.Checked.{Heap, Reference, null, text, block}
use Rattle.heap.specs.Storage.{Storage, Placement, Known, reference_of, number_of}
use Rattle.heap.specs.Relation.{Match, Same as HeapSame, give, stop as halt, Allocated, Names, references as as_references}
use Rattle.heap.proofs.Standing.{stands}
use Rattle.checked.specs.Runs.{Next, goes, breaks}
use Rattle.checked.specs.Machine.{Value, word, reference, kind_of, Frame, frame, Conf, conf, Sizes, same_reference, pop_word, pop_reference, pop_any, room_for, attempt, found, compared, resume, branch}
use Rattle.checked.proofs.Stacking.{Kinded, words, refs}
use Rattle.runtime.specs.Runtime.{State, slot, word_in, moved, pushed, assigned, swapped, with_storage, Came, went, tried, jumped, branched, lifted}
use Rattle.runtime.specs.Relation.{Stands, flat, Lays, Represents, Represented, Same, go, stop}
use Rattle.runtime.proofs.Laying.{lays_front, lays_last, lays_at, lays_more, lays_set, lays_later, length_more}
use Rattle.runtime.proofs.Sizing.{Word32, Kept, KeptIf, KeptPlacement}
use Rattle.runtime.proofs.Framing.{flat_length, flat_push, variable_at, variable_set}

-- ## Words and references in slots

pub word_in_lem : (w n : ℕ) → n ≡ w → w < 2 ^ 32 → n % 2 ^ 32 ≡ w
word_in_lem w n e lt = omega arith

reference_number : (r q : Reference) (n m : ℕ) → r ≡ reference_of n → q ≡ reference_of m → r ≡ q → n ≡ m
reference_number r q n m a b e =
    sym (stands.numbers n) ∙ ap number_of (sym a ∙ e ∙ b) ∙ stands.numbers m

same_reference_is : (r q : Reference) → same_reference r q ≡ true → r ≡ q
same_reference_is null null e = refl
same_reference_is (text p) (text q) e = ap text (eqb-true p q e)
same_reference_is (block b o) (block c u) e = pick (eqb b c) refl e
  where
    pick : (t : Bool) → eqb b c ≡ t → (t && eqb o u) ≡ true → block b o ≡ block c u
    pick true q h = ap₂ block (eqb-true b c q) (eqb-true o u h)
    pick false q h = cc
same_reference_is r q e = cc

same_reference_self : (r : Reference) → same_reference r r ≡ true
same_reference_self null = refl
same_reference_self (text p) = eq-eqb p p refl
same_reference_self (block b o) = ap₂ (λ x y. x && y) (eq-eqb b b refl) (eq-eqb o o refl)

-- references are the same exactly when their numbers are equal
same_number : (r q : Reference) (n m : ℕ) → r ≡ reference_of n → q ≡ reference_of m → eqb n m ≡ same_reference r q
same_number r q n m a b = pick (eqb n m) refl (same_reference r q) refl
  where
    pick : (s : Bool) → eqb n m ≡ s → (t : Bool) → same_reference r q ≡ t → s ≡ t
    pick true x true y = refl
    pick false x false y = refl
    pick false x true y = absurd (eqb-false n m x (reference_number r q n m a b (same_reference_is r q y)))
    pick true x false y =
        let e : r ≡ q = a ∙ ap reference_of (eqb-true n m x) ∙ sym b in
        sym (same_reference_self r) ∙ ap (same_reference r) e ∙ y

-- ## States that represent

module _ (P : Program) (sizes : Sizes) {S : Type 0} (f p : ℕ) (vs : List (Option Value)) (rest : List Frame) (h : Heap) (l : State) (s : S) where
  abbrev Rep : List Value → Type 0
  Rep st = Represents P sizes f p vs st rest h l

  abbrev R : Conf → State → Type 0
  R = Represented P sizes

  -- how many slots the frames have with this stack
  abbrev high : List Value → ℕ
  high t = length (flat (frame f p vs t ∷ rest))

  pub high_more : (v : Value) (t : List Value) → high (v ∷ t) ≡ suc (high t)
  high_more v t = ap length (flat_push f p vs v t rest) ∙ length_more (flat (frame f p vs t ∷ rest)) (Some v)

  -- the same frame goes on: other variables, stack, slots, heap and storage
  pub renew : (st : List Value) → Rep st → (q : ℕ) (us : List (Option Value)) (t : List Value) (k : Heap) (mem : List ℕ) (top : ℕ) (m : Storage)
      → top ≡ length (flat (frame f q us t ∷ rest)) → Lays m.count (flat (frame f q us t ∷ rest)) mem → length mem ≡ length l.slots
      → Match sizes.cells sizes.records k m → Kept l.storage m
      → Represents P sizes f q us t rest k (record { function = l.function; place = q; base = l.base; slots = mem; top = top; frames = l.frames; callers = l.callers; reserved = l.reserved; storage = m })
  renew st r q us t k mem top m a b c d e =
      record {
        function = r.function;
        place = refl;
        base = r.base;
        top = a;
        lays = b;
        records = r.records;
        callers = r.callers;
        reserves = r.reserves;
        slot_count = c ∙ r.slot_count;
        frame_count = r.frame_count;
        roomy = r.roomy;
        free = r.free;
        heap = d;
        sized = e.sized;
      }

  pub as_it_was : (st : List Value) → Rep st → Kept l.storage l.storage
  as_it_was st r = record { sized = r.sized; more = omega arith }

  -- ## Taking values off

  pub record One (v : Value) (t : List Value) : Type 0 where
    pub lays : Lays l.storage.count (flat (frame f p vs t ∷ rest)) l.slots
    pub stood : Stands l.storage.count v (slot l (l.top - 1))
    pub above : l.top - 1 ≡ high t

  pub one : (v : Value) (t : List Value) → Rep (v ∷ t) → One v t
  one v t r =
      let e : l.top - 1 ≡ high t = (let a = r.top in let b = high_more v t in omega arith) in
      let d = subst (λ xs. Lays l.storage.count xs l.slots) (flat_push f p vs v t rest) r.lays in
      record {
        lays = lays_front l.storage.count (flat (frame f p vs t ∷ rest)) (Some v ∷ []) l.slots d;
        stood = subst (λ i. Stands l.storage.count v (slot l i)) (sym e) (lays_last l.storage.count (flat (frame f p vs t ∷ rest)) v l.slots d);
        above = e;
      }

  pub record Two (y x : Value) (t : List Value) : Type 0 where
    pub lays : Lays l.storage.count (flat (frame f p vs t ∷ rest)) l.slots
    pub first : Stands l.storage.count x (slot l (l.top - 2))
    pub second : Stands l.storage.count y (slot l (l.top - 1))
    pub above : l.top - 2 ≡ high t

  pub two : (y x : Value) (t : List Value) → Rep (y ∷ x ∷ t) → Two y x t
  two y x t r =
      let o = one y (x ∷ t) r in
      let e : l.top - 2 ≡ high t = (let a = r.top in let b = high_more y (x ∷ t) in let c = high_more x t in omega arith) in
      let d = subst (λ xs. Lays l.storage.count xs l.slots) (flat_push f p vs x t rest) o.lays in
      record {
        lays = lays_front l.storage.count (flat (frame f p vs t ∷ rest)) (Some x ∷ []) l.slots d;
        first = subst (λ i. Stands l.storage.count x (slot l i)) (sym e) (lays_last l.storage.count (flat (frame f p vs t ∷ rest)) x l.slots d);
        second = o.stood;
        above = e;
      }

  -- ## Going on

  module _ (room : (t : List Value) → length t < 32 → high t < length l.slots) where
    -- with a value right above t, perhaps with another heap
    pub put : (st : List Value) → Rep st → (t : List Value) (q i n : ℕ) (v : Value) (k : Heap) (m : Storage)
        → Lays l.storage.count (flat (frame f p vs t ∷ rest)) l.slots → i ≡ high t → length t < 32 → Match sizes.cells sizes.records k m → Kept l.storage m → Stands m.count v n
        → R (conf (frame f q vs (v ∷ t)) rest k) (pushed (with_storage l m) q i n)
    put st r t q i n v k m lays e lt match kept sv =
        subst (λ j. R (conf (frame f q vs (v ∷ t)) rest k) (pushed (with_storage l m) q j n)) (sym e)
        (renew st r q vs (v ∷ t) k (set l.slots (high t) n) (suc (high t)) m (sym (high_more v t))
        (subst (λ xs. Lays m.count xs (set l.slots (high t) n)) (sym (flat_push f p vs v t rest))
        (lays_more m.count (flat (frame f p vs t ∷ rest)) v l.slots n (room t lt)
        (lays_later l.storage.count m.count kept.more (flat (frame f p vs t ∷ rest)) l.slots lays) sv))
        (length-set l.slots (high t) n) match kept)

    pub push : (st : List Value) → Rep st → (t : List Value) (q i n : ℕ) (v : Value)
        → Lays l.storage.count (flat (frame f p vs t ∷ rest)) l.slots → i ≡ high t → length t < 32 → Stands l.storage.count v n
        → R (conf (frame f q vs (v ∷ t)) rest h) (pushed l q i n)
    push st r t q i n v lays e lt sv = put st r t q i n v h l.storage lays e lt r.heap (as_it_was st r) sv

    pub cut : (st : List Value) → Rep st → (t : List Value) (q i : ℕ) (k : Heap) (m : Storage)
        → Lays l.storage.count (flat (frame f p vs t ∷ rest)) l.slots → i ≡ high t → Match sizes.cells sizes.records k m → Kept l.storage m
        → R (conf (frame f q vs t) rest k) (moved (with_storage l m) q i)
    cut st r t q i k m lays e match kept =
        renew st r q vs t k l.slots i m e (lays_later l.storage.count m.count kept.more (flat (frame f p vs t ∷ rest)) l.slots lays) refl match kept

    -- ### Pushing

    pub room_same : (st : List Value) → length st < 32 → (x : Next Conf S) (y : Next State S) → Same R x y → Same R (room_for st s x) y
    room_same st lt x y k = subst (λ b. Same R (cond b x (breaks s)) y) (sym (lt-ltb (length st) 32 lt)) k

    pub push_same : (st : List Value) → Rep st → length st < 32 → (q n : ℕ) (v : Value) → Stands l.storage.count v n
        → Same R (room_for st s (resume f q vs (v ∷ st) rest h s)) (goes (pushed l q l.top n) s)
    push_same st r lt q n v sv = room_same st lt _ _ (go (push st r st q l.top n v r.lays r.top lt sv))

    pub found_same : {A : Type 0} (o : Option A) (k : A → Next Conf S) (y : Next State S) (a : A) → o ≡ Some a → Same R (k a) y → Same R (found o s k) y
    found_same o k y a e h = subst (λ x. Same R (found x s k) y) (sym e) h

    pub load_same : (st : List Value) → Rep st → length st < 32 → (q i : ℕ) (v : Value) → i < length vs → get_or vs i None ≡ Some v
        → Same R (found (get_or vs i None) s (λ v. room_for st s (resume f q vs (v ∷ st) rest h s))) (goes (pushed l q l.top (slot l (l.base + i))) s)
    load_same st r lt q i v inside e =
        found_same (get_or vs i None) _ _ v e
        (push_same st r lt q (slot l (l.base + i)) v
        (subst (λ b. Stands l.storage.count v (slot l (b + i))) (sym r.base)
        (lays_at l.storage.count (flat (frame f p vs st ∷ rest)) (length (flat rest) + i) v l.slots r.lays (variable_at f p vs st rest i inside ∙ e))))

    -- ### Taking off

    pub nop_same : (st : List Value) → Rep st → (q : ℕ) → Same R (resume f q vs st rest h s) (goes (moved l q l.top) s)
    nop_same st r q = go (cut st r st q l.top h l.storage r.lays r.top r.heap (as_it_was st r))

    pub pop_same : {st : List Value} {k : Kind} {ks : List Kind} → Kinded st (k ∷ ks) → Rep st → (q : ℕ)
        → Same R (pop_any st s (λ v t. resume f q vs t rest h s)) (goes (moved l q (l.top - 1)) s)
    pop_same (words {n} {st = t} d) r q = let o = one (word n) t r in go (cut (word n ∷ t) r t q (l.top - 1) h l.storage o.lays o.above r.heap (as_it_was (word n ∷ t) r))
    pop_same (refs {r = a} {st = t} d) r q = let o = one (reference a) t r in go (cut (reference a ∷ t) r t q (l.top - 1) h l.storage o.lays o.above r.heap (as_it_was (reference a ∷ t) r))

    -- the stack known to have a value on top, or two
    pub on_top : (P : List Value → Type 0) {st : List Value} {k : Kind} {ks : List Kind} → Kinded st (k ∷ ks)
        → ((v : Value) (t : List Value) → kind_of v ≡ k → Kinded t ks → P (v ∷ t)) → P st
    on_top P (words {n} {st = t} d) g = g (word n) t refl d
    on_top P (refs {r = a} {st = t} d) g = g (reference a) t refl d

    pub dup_same : {st : List Value} {k : Kind} {ks : List Kind} → Kinded st (k ∷ ks) → Rep st → length st < 32 → (q : ℕ)
        → Same R (pop_any st s (λ v t. room_for st s (resume f q vs (v ∷ v ∷ t) rest h s))) (goes (pushed l q l.top (slot l (l.top - 1))) s)
    dup_same {st} d r lt q =
        on_top (λ st. Rep st → length st < 32 → Same R (pop_any st s (λ v t. room_for st s (resume f q vs (v ∷ v ∷ t) rest h s))) (goes (pushed l q l.top (slot l (l.top - 1))) s)) d
        (λ v t kv kt r lt. push_same (v ∷ t) r lt q (slot l (l.top - 1)) v (one v t r).stood) r lt

    pub swap_same : {st : List Value} {k j : Kind} {ks : List Kind} → Kinded st (k ∷ j ∷ ks) → Rep st → length st ≤ 32 → (q : ℕ)
        → Same R (pop_any st s (λ y u. pop_any u s (λ x t. resume f q vs (x ∷ y ∷ t) rest h s))) (goes (swapped l q) s)
    swap_same d r low q =
        on_top (λ st. Rep st → length st ≤ 32 → Same R (pop_any st s (λ y u. pop_any u s (λ x t. resume f q vs (x ∷ y ∷ t) rest h s))) (goes (swapped l q) s)) d
        (λ y u ky ku. on_top (λ u. Rep (y ∷ u) → length (y ∷ u) ≤ 32 → Same R (pop_any u s (λ x t. resume f q vs (x ∷ y ∷ t) rest h s)) (goes (swapped l q) s)) ku
        (λ x t kx kt r low. go (exchanged y x t r low))) r low
      where
        exchanged : (y x : Value) (t : List Value) → Rep (y ∷ x ∷ t) → length (y ∷ x ∷ t) ≤ 32 → R (conf (frame f q vs (x ∷ y ∷ t)) rest h) (swapped l q)
        exchanged y x t r low =
            let o = two y x t r in
            let i : l.top - 1 ≡ suc (high t) = (let a = r.top in let b = high_more y (x ∷ t) in let c = high_more x t in omega arith) in
            let mem : List ℕ = set l.slots (high t) (slot l (l.top - 1)) in
            let count = l.storage.count in
            let a = lays_more count (flat (frame f p vs t ∷ rest)) y l.slots (slot l (l.top - 1)) (room t (omega arith)) o.lays o.second in
            let a' = subst (λ xs. Lays count xs mem) (sym (flat_push f p vs y t rest)) a in
            let len = length-set l.slots (high t) (slot l (l.top - 1)) in
            let b = lays_more count (flat (frame f p vs (y ∷ t) ∷ rest)) x mem (slot l (l.top - 2))
            (let z = room (y ∷ t) (omega arith) in omega arith) a' o.first in
            let b' = subst (λ xs. Lays count xs (set mem (high (y ∷ t)) (slot l (l.top - 2)))) (sym (flat_push f p vs x (y ∷ t) rest)) b in
            let e : high (y ∷ t) ≡ l.top - 1 = high_more y t ∙ sym i in
            let mem' = subst₂ (λ u w. Lays count (flat (frame f p vs (x ∷ y ∷ t) ∷ rest)) (set (set l.slots u (slot l (l.top - 1))) w (slot l (l.top - 2)))) (sym o.above) e b' in
            renew (y ∷ x ∷ t) r q vs (x ∷ y ∷ t) h _ l.top l.storage
            (r.top ∙ high_more y (x ∷ t) ∙ ap suc (high_more x t) ∙ sym (high_more x (y ∷ t) ∙ ap suc (high_more y t)))
            mem' (length-set _ (l.top - 1) (slot l (l.top - 2)) ∙ length-set l.slots (l.top - 2) (slot l (l.top - 1))) r.heap (as_it_was (y ∷ x ∷ t) r)

    pub store_same : {st : List Value} {k : Kind} {ks : List Kind} → Kinded st (k ∷ ks) → Rep st → (q i : ℕ) → i < length vs
        → Same R (pop_any st s (λ v t. cond (ltb i (length vs)) (resume f q (set vs i (Some v)) t rest h s) (breaks s))) (goes (assigned l q (l.base + i) (slot l (l.top - 1))) s)
    store_same d r q i inside =
        on_top (λ st. Rep st → Same R (pop_any st s (λ v t. cond (ltb i (length vs)) (resume f q (set vs i (Some v)) t rest h s) (breaks s))) (goes (assigned l q (l.base + i) (slot l (l.top - 1))) s)) d
        (λ v t kv kt r. subst (λ b. Same R (cond b (resume f q (set vs i (Some v)) t rest h s) (breaks s)) (goes (assigned l q (l.base + i) (slot l (l.top - 1))) s))
        (sym (lt-ltb i (length vs) inside)) (go (stored v t r))) r
      where
        stored : (v : Value) (t : List Value) → Rep (v ∷ t) → R (conf (frame f q (set vs i (Some v)) t) rest h) (assigned l q (l.base + i) (slot l (l.top - 1)))
        stored v t r =
            let o = one v t r in
            let count = l.storage.count in
            let n = flat_length f p vs t rest in
            let w = r.roomy in
            let c = r.slot_count in
            let lm : length (flat rest) + i < length l.slots =
            (let a = flat_length f p vs [] rest in let b = room [] (omega arith) in omega arith) in
            let a = lays_set count (flat (frame f p vs t ∷ rest)) (length (flat rest) + i) v l.slots (slot l (l.top - 1)) (omega arith) lm o.lays o.stood in
            let b = subst (λ xs. Lays count xs (set l.slots (length (flat rest) + i) (slot l (l.top - 1)))) (variable_set f p q vs t rest i v inside) a in
            let e = flat_length f q (set vs i (Some v)) t rest in
            let g = length-set vs i (Some v) in
            renew (v ∷ t) r q (set vs i (Some v)) t h _ (l.top - 1) l.storage (o.above ∙ (let z : high t ≡ length (flat (frame f q (set vs i (Some v)) t ∷ rest)) = omega arith in z))
            (subst (λ x. Lays count (flat (frame f q (set vs i (Some v)) t ∷ rest)) (set l.slots (x + i) (slot l (l.top - 1)))) (sym r.base) b)
            (length-set l.slots (l.base + i) (slot l (l.top - 1))) r.heap (as_it_was (v ∷ t) r)

    -- ### Words

    pub tried_same : {A : Type 0} (x : Attempt A) (k : A → Next Conf S) (j : A → Came) → ((a : A) → x ≡ gives a → Same R (k a) (lifted s (j a)))
        → Same R (attempt x s k) (lifted s (tried x j))
    tried_same (gives a) k j g = g a refl
    tried_same (stops e) k j g = stop

    -- two words off the stack
    two_words_lem : (Q : List Value → Type 0) {st : List Value} {ks : List Kind} → Kinded st (Word ∷ Word ∷ ks)
        → ((y x : ℕ) (t : List Value) → Kinded t ks → Q (word y ∷ word x ∷ t)) → Q st
    two_words_lem Q (words {n = y} (words {n = x} {st = t} k)) g = g y x t k

    pub binary_same : {st : List Value} {ks : List Kind} → Kinded st (Word ∷ Word ∷ ks) → Rep st → length st ≤ 32 → (q : ℕ) (compute : ℕ → ℕ → Attempt ℕ)
        → ((x y : ℕ) → x < 2 ^ 32 → y < 2 ^ 32 → Word32 (compute x y))
        → Same R (pop_word st s (λ y u. pop_word u s (λ x t. attempt (compute x y) s (λ z. resume f q vs (word z ∷ t) rest h s))))
        (lifted s (tried (compute (word_in l (l.top - 2)) (word_in l (l.top - 1))) (λ z. went (pushed l q (l.top - 2) z))))
    binary_same d r low q compute bound =
        two_words_lem (λ st. Rep st → length st ≤ 32 → Same R (pop_word st s (λ y u. pop_word u s (λ x t. attempt (compute x y) s (λ z. resume f q vs (word z ∷ t) rest h s))))
        (lifted s (tried (compute (word_in l (l.top - 2)) (word_in l (l.top - 1))) (λ z. went (pushed l q (l.top - 2) z))))) d
        (λ y x t kt r low.
        let o = two (word y) (word x) t r in
        let ex = word_in_lem x (slot l (l.top - 2)) o.first.0 o.first.1 in
        let ey = word_in_lem y (slot l (l.top - 1)) o.second.0 o.second.1 in
        subst₂ (λ a b. Same R (attempt (compute x y) s (λ z. resume f q vs (word z ∷ t) rest h s)) (lifted s (tried (compute a b) (λ z. went (pushed l q (l.top - 2) z))))) (sym ex) (sym ey)
        (tried_same (compute x y) _ _ (λ z e. go (push (word y ∷ word x ∷ t) r t q (l.top - 2) z (word z) o.lays o.above (omega arith)
        (refl, subst Word32 e (bound x y o.first.1 o.second.1)))))) r low

    -- ### Branches

    pub jump_same : (st t : List Value) → Rep st → Lays l.storage.count (flat (frame f p vs t ∷ rest)) l.slots → (i : ℕ) → i ≡ high t
        → (o : Option ℕ) → (to : ℕ) → o ≡ Some to → Same R (found o s (λ to. resume f to vs t rest h s)) (lifted s (jumped l i o))
    jump_same st t r lays i e o to q =
        subst (λ x. Same R (found x s (λ to. resume f to vs t rest h s)) (lifted s (jumped l i x))) (sym q)
        (go (cut st r t to i h l.storage lays e r.heap (as_it_was st r)))

    -- a branch whose target, if it is taken, is a place
    pub branch_same : (st t : List Value) → Rep st → Lays l.storage.count (flat (frame f p vs t ∷ rest)) l.slots → (i : ℕ) → i ≡ high t
        → (b : Bool) (o : ℤ) (q to : ℕ) → target p o ≡ Some to → Same R (branch b o f p q vs t rest h s) (lifted s (branched l q o i b))
    branch_same st t r lays i e false o q to known = go (cut st r t q i h l.storage lays e r.heap (as_it_was st r))
    branch_same st t r lays i e true o q to known =
        subst (λ a. Same R (branch true o f p q vs t rest h s) (lifted s (jumped l i (target a o)))) (sym r.place) (jump_same st t r lays i e (target p o) to known)

    pub order_same : {st : List Value} {ks : List Kind} → Kinded st (Word ∷ Word ∷ ks) → Rep st → (holds : ℕ → ℕ → Bool) (o : ℤ) (q to : ℕ) → target p o ≡ Some to
        → Same R (pop_word st s (λ y u. pop_word u s (λ x t. branch (holds x y) o f p q vs t rest h s)))
        (lifted s (branched l q o (l.top - 2) (holds (word_in l (l.top - 2)) (word_in l (l.top - 1)))))
    order_same d r holds o q to known =
        two_words_lem (λ st. Rep st → Same R (pop_word st s (λ y u. pop_word u s (λ x t. branch (holds x y) o f p q vs t rest h s)))
        (lifted s (branched l q o (l.top - 2) (holds (word_in l (l.top - 2)) (word_in l (l.top - 1)))))) d
        (λ y x t kt r.
        let a = two (word y) (word x) t r in
        let ex = word_in_lem x (slot l (l.top - 2)) a.first.0 a.first.1 in
        let ey = word_in_lem y (slot l (l.top - 1)) a.second.0 a.second.1 in
        subst₂ (λ m n. Same R (branch (holds x y) o f p q vs t rest h s) (lifted s (branched l q o (l.top - 2) (holds m n)))) (sym ex) (sym ey)
        (branch_same (word y ∷ word x ∷ t) t r a.lays (l.top - 2) a.above (holds x y) o q to known)) r

    -- two of one kind: equal values have equal numbers
    pub equal_same : {st : List Value} {k : Kind} {ks : List Kind} → Kinded st (k ∷ k ∷ ks) → Rep st → (turn : Bool → Bool) (o : ℤ) (q to : ℕ) → target p o ≡ Some to
        → Same R (pop_any st s (λ y u. pop_any u s (λ x t. compared x y s (λ b. branch (turn b) o f p q vs t rest h s))))
        (lifted s (branched l q o (l.top - 2) (turn (eqb (slot l (l.top - 2)) (slot l (l.top - 1))))))
    equal_same (words {n = y} (words {n = x} {st = t} k)) r turn o q to known =
        let a = two (word y) (word x) t r in
        subst₂ (λ m n. Same R (branch (turn (eqb x y)) o f p q vs t rest h s) (lifted s (branched l q o (l.top - 2) (turn (eqb m n))))) (sym a.first.0) (sym a.second.0)
        (branch_same (word y ∷ word x ∷ t) t r a.lays (l.top - 2) a.above (turn (eqb x y)) o q to known)
    equal_same (refs {r = y} (refs {r = x} {st = t} k)) r turn o q to known =
        let a = two (reference y) (reference x) t r in
        subst (λ b. Same R (branch (turn (same_reference x y)) o f p q vs t rest h s) (lifted s (branched l q o (l.top - 2) (turn b))))
        (sym (same_number x y (slot l (l.top - 2)) (slot l (l.top - 1)) a.first.0 a.second.0))
        (branch_same (reference y ∷ reference x ∷ t) t r a.lays (l.top - 2) a.above (turn (same_reference x y)) o q to known)

    -- ### Memory

    -- an attempt in the heap and one in the storage that are the same
    pub read_same : (x y : Attempt ℕ) → x ≡ y → Word32 y → (k : ℕ → Next Conf S) (j : ℕ → Came) → ((n : ℕ) → n < 2 ^ 32 → Same R (k n) (lifted s (j n)))
        → Same R (attempt x s k) (lifted s (tried y j))
    read_same x y e w k j g = subst (λ z. Same R (attempt z s k) (lifted s (tried y j))) (sym e) (tried_same y k j (λ n q. g n (subst Word32 q w)))

    pub reference_same : (x : Attempt Reference) (y : Attempt ℕ) → x ≡ as_references y → Names l.storage.count y → (k : Reference → Next Conf S) (j : ℕ → Came)
        → ((n : ℕ) → Known l.storage.count n → Same R (k (reference_of n)) (lifted s (j n))) → Same R (attempt x s k) (lifted s (tried y j))
    reference_same x y e names k j g = subst (λ z. Same R (attempt z s k) (lifted s (tried y j))) (sym e) (pick y names)
      where
        pick : (y : Attempt ℕ) → Names l.storage.count y → Same R (attempt (as_references y) s k) (lifted s (tried y j))
        pick (gives n) names = g n names
        pick (stops z) names = stop

    pub stored_same : {x : Attempt Heap} {y : Attempt Storage} → HeapSame (Match sizes.cells sizes.records) x y → KeptIf l.storage y → (k : Heap → Next Conf S) (j : Storage → Came)
        → ((a : Heap) (b : Storage) → Match sizes.cells sizes.records a b → Kept l.storage b → Same R (k a) (lifted s (j b))) → Same R (attempt x s k) (lifted s (tried y j))
    stored_same (give {a} {b} m) kept k j g = g a b m kept
    stored_same halt kept k j g = stop

    pub placed_same : {x : Attempt Rattle.heap.specs.Checked.Allocation} {y : Attempt Placement} → HeapSame (Allocated sizes.cells sizes.records) x y → KeptPlacement l.storage y
        → (k : Rattle.heap.specs.Checked.Allocation → Next Conf S) (j : Placement → Came)
        → ((a : Rattle.heap.specs.Checked.Allocation) (b : Placement) → Allocated sizes.cells sizes.records a b → Kept l.storage b.storage → Same R (k a) (lifted s (j b))) → Same R (attempt x s k) (lifted s (tried y j))
    placed_same (give {a} {b} m) kept k j g = g a b m kept
    placed_same halt kept k j g = stop

    one_reference_lem : (Q : List Value → Type 0) {st : List Value} {ks : List Kind} → Kinded st (Ref ∷ ks)
        → ((a : Reference) (t : List Value) → Kinded t ks → Q (reference a ∷ t)) → Q st
    one_reference_lem Q (refs {r = a} {st = t} k) g = g a t k

    -- a reference off the stack and a word in its place
    pub word_at_same : {st : List Value} {ks : List Kind} → Kinded st (Ref ∷ ks) → Rep st → length st ≤ 32 → (q : ℕ) (read : Reference → Attempt ℕ) (load : ℕ → Attempt ℕ)
        → ((n : ℕ) → Known l.storage.count n → (read (reference_of n) ≡ load n) × Word32 (load n))
        → Same R (pop_reference st s (λ a t. attempt (read a) s (λ n. resume f q vs (word n ∷ t) rest h s)))
        (lifted s (tried (load (slot l (l.top - 1))) (λ n. went (pushed l q (l.top - 1) n))))
    word_at_same d r low q read load same =
        one_reference_lem (λ st. Rep st → length st ≤ 32 → Same R (pop_reference st s (λ a t. attempt (read a) s (λ n. resume f q vs (word n ∷ t) rest h s)))
        (lifted s (tried (load (slot l (l.top - 1))) (λ n. went (pushed l q (l.top - 1) n))))) d
        (λ a t kt r low.
        let o = one (reference a) t r in
        let e = same (slot l (l.top - 1)) o.stood.1 in
        read_same (read a) (load (slot l (l.top - 1))) (ap read o.stood.0 ∙ e.0) e.1 _ _
        (λ n lt. go (push (reference a ∷ t) r t q (l.top - 1) n (word n) o.lays o.above (omega arith) (refl, lt)))) r low

    -- a reference off the stack and another in its place
    pub reference_at_same : {st : List Value} {ks : List Kind} → Kinded st (Ref ∷ ks) → Rep st → length st ≤ 32 → (q : ℕ) (read : Reference → Attempt Reference) (load : ℕ → Attempt ℕ)
        → ((n : ℕ) → Known l.storage.count n → (read (reference_of n) ≡ as_references (load n)) × Names l.storage.count (load n))
        → Same R (pop_reference st s (λ a t. attempt (read a) s (λ e. resume f q vs (reference e ∷ t) rest h s)))
        (lifted s (tried (load (slot l (l.top - 1))) (λ n. went (pushed l q (l.top - 1) n))))
    reference_at_same d r low q read load same =
        one_reference_lem (λ st. Rep st → length st ≤ 32 → Same R (pop_reference st s (λ a t. attempt (read a) s (λ e. resume f q vs (reference e ∷ t) rest h s)))
        (lifted s (tried (load (slot l (l.top - 1))) (λ n. went (pushed l q (l.top - 1) n))))) d
        (λ a t kt r low.
        let o = one (reference a) t r in
        let e = same (slot l (l.top - 1)) o.stood.1 in
        reference_same (read a) (load (slot l (l.top - 1))) (ap read o.stood.0 ∙ e.0) e.1 _ _
        (λ n known. go (push (reference a ∷ t) r t q (l.top - 1) n (reference (reference_of n)) o.lays o.above (omega arith) (refl, known)))) r low

    word_and_reference : (Q : List Value → Type 0) {st : List Value} {ks : List Kind} → Kinded st (Word ∷ Ref ∷ ks)
        → ((n : ℕ) (a : Reference) (t : List Value) → Kinded t ks → Q (word n ∷ reference a ∷ t)) → Q st
    word_and_reference Q (words {n} (refs {r = a} {st = t} k)) g = g n a t k

    pub aadds_same : {st : List Value} {ks : List Kind} → Kinded st (Word ∷ Ref ∷ ks) → Rep st → length st ≤ 32 → (q : ℕ) (add : Reference → ℕ → Attempt Reference) (move : ℕ → ℕ → Attempt ℕ)
        → ((n i : ℕ) → Known l.storage.count n → (add (reference_of n) i ≡ as_references (move n i)) × Names l.storage.count (move n i))
        → Same R (pop_word st s (λ i u. pop_reference u s (λ a t. attempt (add a i) s (λ e. resume f q vs (reference e ∷ t) rest h s))))
        (lifted s (tried (move (slot l (l.top - 2)) (word_in l (l.top - 1))) (λ n. went (pushed l q (l.top - 2) n))))
    aadds_same d r low q add move same =
        word_and_reference (λ st. Rep st → length st ≤ 32 → Same R (pop_word st s (λ i u. pop_reference u s (λ a t. attempt (add a i) s (λ e. resume f q vs (reference e ∷ t) rest h s))))
        (lifted s (tried (move (slot l (l.top - 2)) (word_in l (l.top - 1))) (λ n. went (pushed l q (l.top - 2) n))))) d
        (λ i a t kt r low.
        let o = two (word i) (reference a) t r in
        let ei = word_in_lem i (slot l (l.top - 1)) o.second.0 o.second.1 in
        let e = same (slot l (l.top - 2)) i o.first.1 in
        subst (λ m. Same R (attempt (add a i) s (λ e. resume f q vs (reference e ∷ t) rest h s)) (lifted s (tried (move (slot l (l.top - 2)) m) (λ n. went (pushed l q (l.top - 2) n))))) (sym ei)
        (reference_same (add a i) (move (slot l (l.top - 2)) i) (ap (λ x. add x i) o.first.0 ∙ e.0) e.1 _ _
        (λ n known. go (push (word i ∷ reference a ∷ t) r t q (l.top - 2) n (reference (reference_of n)) o.lays o.above (omega arith) (refl, known))))) r low

    -- a word stored at a reference
    pub store_word_same : {st : List Value} {ks : List Kind} → Kinded st (Word ∷ Ref ∷ ks) → Rep st → (q : ℕ) (write : Reference → ℕ → Attempt Heap) (store : ℕ → ℕ → Attempt Storage)
        → ((n w : ℕ) → Known l.storage.count n → HeapSame (Match sizes.cells sizes.records) (write (reference_of n) w) (store n w) × KeptIf l.storage (store n w))
        → Same R (pop_word st s (λ n u. pop_reference u s (λ a t. attempt (write a n) s (λ k. resume f q vs t rest k s))))
        (lifted s (tried (store (slot l (l.top - 2)) (word_in l (l.top - 1))) (λ m. went (moved (with_storage l m) q (l.top - 2)))))
    store_word_same d r q write store same =
        word_and_reference (λ st. Rep st → Same R (pop_word st s (λ n u. pop_reference u s (λ a t. attempt (write a n) s (λ k. resume f q vs t rest k s))))
        (lifted s (tried (store (slot l (l.top - 2)) (word_in l (l.top - 1))) (λ m. went (moved (with_storage l m) q (l.top - 2)))))) d
        (λ w a t kt r.
        let o = two (word w) (reference a) t r in
        let ew = word_in_lem w (slot l (l.top - 1)) o.second.0 o.second.1 in
        let e = same (slot l (l.top - 2)) w o.first.1 in
        subst₂ (λ x m. Same R (attempt (write x w) s (λ k. resume f q vs t rest k s)) (lifted s (tried (store (slot l (l.top - 2)) m) (λ m. went (moved (with_storage l m) q (l.top - 2)))))) (sym o.first.0) (sym ew)
        (stored_same e.0 e.1 _ _ (λ k m match kept. go (cut (word w ∷ reference a ∷ t) r t q (l.top - 2) k m o.lays o.above match kept)))) r

    two_references_lem : (Q : List Value → Type 0) {st : List Value} {ks : List Kind} → Kinded st (Ref ∷ Ref ∷ ks)
        → ((b a : Reference) (t : List Value) → Kinded t ks → Q (reference b ∷ reference a ∷ t)) → Q st
    two_references_lem Q (refs {r = b} (refs {r = a} {st = t} k)) g = g b a t k

    pub store_reference_same : {st : List Value} {ks : List Kind} → Kinded st (Ref ∷ Ref ∷ ks) → Rep st → (q : ℕ) (write : Reference → Reference → Attempt Heap) (store : ℕ → ℕ → Attempt Storage)
        → ((n v : ℕ) → Known l.storage.count n → Known l.storage.count v → HeapSame (Match sizes.cells sizes.records) (write (reference_of n) (reference_of v)) (store n v) × KeptIf l.storage (store n v))
        → Same R (pop_reference st s (λ b u. pop_reference u s (λ a t. attempt (write a b) s (λ k. resume f q vs t rest k s))))
        (lifted s (tried (store (slot l (l.top - 2)) (slot l (l.top - 1))) (λ m. went (moved (with_storage l m) q (l.top - 2)))))
    store_reference_same d r q write store same =
        two_references_lem (λ st. Rep st → Same R (pop_reference st s (λ b u. pop_reference u s (λ a t. attempt (write a b) s (λ k. resume f q vs t rest k s))))
        (lifted s (tried (store (slot l (l.top - 2)) (slot l (l.top - 1))) (λ m. went (moved (with_storage l m) q (l.top - 2)))))) d
        (λ b a t kt r.
        let o = two (reference b) (reference a) t r in
        let e = same (slot l (l.top - 2)) (slot l (l.top - 1)) o.first.1 o.second.1 in
        subst₂ (λ x y. Same R (attempt (write x y) s (λ k. resume f q vs t rest k s)) (lifted s (tried (store (slot l (l.top - 2)) (slot l (l.top - 1))) (λ m. went (moved (with_storage l m) q (l.top - 2)))))) (sym o.first.0) (sym o.second.0)
        (stored_same e.0 e.1 _ _ (λ k m match kept. go (cut (reference b ∷ reference a ∷ t) r t q (l.top - 2) k m o.lays o.above match kept)))) r
