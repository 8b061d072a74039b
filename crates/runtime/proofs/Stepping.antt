-- A step of the running machine is a step of the checked machine that it represents.
use Rattle.std.proofs.Common.{◌≡◌, ℕ, ◌+◌, ◌-◌, ◌^◌, ◌<◌, ◌≤◌, Bool, true, false, cond, not, eqb, List, [], ◌∷◌, map, reverse, length, get_or, ℤ, Some, None, Option, sym, refl, ap, ◌∙◌, subst, subst₂, arith, lt-ltb, eqb-true}
use lib.ListN.{length-map}
use Rattle.std.proofs.lemmas.Option.{get_or_from_slice_get}
use Rattle.bytecode.specs.declared.kind.Kind.{Kind}
use Rattle.bytecode.specs.declared.kind.Kind.TheVariants.{Unknown, Word, Reference as Ref}
use Rattle.bytecode.specs.declared.instruction.Instruction.{Instruction}
use Rattle.bytecode.specs.declared.instruction.Instruction.TheVariants.{Nop, Pop, Dup, Swap, AconstNull, Aldc, Bipush, Ildc, Vload, Vstore, Binary, IfCmpeq, IfCmpne, IfIcmp, Goto, Invokestatic, Invokenative, Return, New, Newarray, Arraylength, Aaddf, Aadds, Imload, Cmload, Amload, Imstore, Cmstore, Amstore}
use Rattle.bytecode.specs.Instructions.{size_of, decode_at, target}
use Rattle.bytecode.specs.Outcome.{good}
use Rattle.bytecode.specs.Program.{Program, Function, Native}
use Rattle.heap.specs.Checked.{Heap, null, text, block, newarray, arraylength, aaddf, aadds, imload, cmload, amload, imstore, cmstore, amstore}
use Rattle.heap.specs.Storage.{block_of, offset_of, new_array, array_length, add_index, add_field, load_word, load_byte, load_reference, store_word, store_byte, store_reference}
use Rattle.heap.proofs.Standing.{stands}
use Rattle.host.specs.Hosts.{Host, Lawful}
use Rattle.word.specs.Words.{compute, holds, wrap}
use Rattle.plan.specs.Programs.{nth, function_at, variables_at}
use Rattle.plan.specs.Shapes.{Shape}
use Rattle.plan.specs.Effects.{effect, performed, call_static, call_native}
use Rattle.plan.specs.Plans.{Hits, Lands, successors, shape_at}
use Rattle.checked.specs.Runs.{goes, breaks}
use Rattle.checked.specs.Machine.{Value, word, reference, kind_of, Frame, frame, Conf, conf, Sizes, reserve, arguments, found, room_for, only_value, is_kind, attempt, pop_word, resume, enter, return, ask, exec, step}
use Rattle.checked.specs.Law.{Plans, Accepted}
use Rattle.checked.specs.Sound.{Held, Fits, Callers, main, more, Sound}
use Rattle.checked.proofs.Stacking.{Kinded, bare, words, refs, kinded_at, Replaced, replaced, from_pool, loads, stores, pops, doubles, swaps, pairs, gives_result, given, is_kind_lem}
use Rattle.checked.proofs.Pieces.{nth_some, held_value}
use Rattle.checked.proofs.Sounding.{good_plan, is_function}
use Rattle.runtime.specs.Runtime.{State, slot, Came, went, lifted, called, returned, act, acted, fetched}
use Rattle.runtime.specs.Runtime as running
use Rattle.runtime.specs.Relation.{Small, Stands, flat, Represents, Represented, Same, go}
use Rattle.runtime.proofs.Sizing.{compute_word, wrap_word, load_word_lem, load_byte_lem, length-word, kept_store_word, kept_store_byte, kept_store_reference, kept_new, kept_newarray}
use Rattle.runtime.proofs.Framing.{flat_length, stack_low, taken_slots}
use Rattle.runtime.proofs.Simulating.{put, room_same, push_same, found_same, load_same, nop_same, pop_same, dup_same, swap_same, store_same, binary_same, order_same, equal_same, branch_same, word_at_same, reference_at_same, aadds_same, store_word_same, store_reference_same, placed_same, one, word_in_lem}
use Rattle.runtime.proofs.Calling.{enter_same, return_same, ask_same}

ne_eqb : (a b : ℕ) → (a ≡ b → ⊥) → eqb a b ≡ false
ne_eqb a b ne = pick (eqb a b) refl
  where
    pick : (t : Bool) → eqb a b ≡ t → t ≡ false
    pick true e = absurd (ne (eqb-true a b e))
    pick false e = refl

-- a text's number is one more than its position
text_stands : (count c : ℕ) → c + 1 < 2 ^ 32 → Stands count (reference (text c)) (c + 1)
text_stands count c lt = (
  subst₂ (λ a b. text c ≡ cond a null (cond b (text (c + 1 - 1)) (block (block_of (c + 1)) (offset_of (c + 1)))))
      (sym (ne_eqb (c + 1) 0 (λ e. omega arith))) (sym (lt-ltb (c + 1) (2 ^ 32) lt)) (ap text (let e : c ≡ c + 1 - 1 = omega arith in e)),
  λ big. absurd (omega arith),
)

module _ (P : Program) (plans : Plans) (ok : Accepted P plans) (small : Small P) {S : Type 0} (host : Host S) (lawful : Lawful host) (sizes : Sizes) where
  abbrev R : Conf → State → Type 0
  R = Represented P sizes

  module _ (f p : ℕ) (vs : List (Option Value)) (st : List Value) (rest : List Frame) (h : Heap) (s : S) (l : State)
      (d : Fits P plans f p vs (map kind_of st)) (callers : Callers P plans f rest) (r : Represents P sizes f p vs st rest h l) where
    low : length st ≤ 32
    low = let a = stack_low P plans ok f p vs (map kind_of st) d in let b = length-map st kind_of in omega arith

    -- the slots suffice for a stack of up to 32 values
    room : (t : List Value) → length t < 32 → length (flat (frame f p vs t ∷ rest)) < length l.slots
    room t lt =
        let a = flat_length f p vs t rest in
        let b = taken_slots P plans ok f rest callers in
        let c = ap reserve d.known in
        let e = d.sized in
        let g = r.roomy in
        let k = r.slot_count in
        omega arith

    before : (ks : List Kind) → d.shape.stack ≡ ks → Kinded st ks
    before ks e = kinded_at st ks (sym d.stack ∙ e)

    -- a stack that has room for one more
    spare : (k : Kind) (x : Shape) → x.stack ≡ k ∷ d.shape.stack → length x.stack ≤ 32 → length st < 32
    spare k x e le =
        let a = ap length e in
        let b = ap length d.stack in
        let c = length-map st kind_of in
        omega arith

    spare_one : (k : Kind) (x : Shape) → Replaced [] (k ∷ []) d.shape x → length st < 32
    spare_one k x e = spare k x (let a = e.after in let b = e.before in cc) e.low

    -- a target that a shape reaches is a place
    reached : (x : Shape) (o : ℤ) → Hits x (shape_at (plans f) (target p o)) → (to : ℕ) × (target p o ≡ Some to)
    reached x o hit = pick (target p o) refl hit
      where
        pick : (t : Option ℕ) → target p o ≡ t → Hits x (shape_at (plans f) t) → (to : ℕ) × (target p o ≡ Some to)
        pick None e hit = absurd hit
        pick (Some to) e hit = (to, e)

    calls_same : (c q : ℕ) (x : Shape) (o : Option Function) → nth P.functions c ≡ o → performed f p (variables_at P f) d.shape (call_static o) ≡ good x
        → Same R (found o s (λ g. found (arguments g.signature st) s (λ t. room_for t.left s (enter P host sizes c g t.values f q vs t.left rest h s)))) (lifted s (called l q c o))
    calls_same c q x None known e = cc
    calls_same c q x (Some g) known e =
        let y = replaced f p (variables_at P f) (reverse g.signature.arguments) (g.signature.result ∷ []) d.shape x e in
        let a = given g.signature y.rest st (sym d.stack ∙ y.before) in
        let n : length a.left < 32 =
        (let i = ap length a.kinds_left in let j = length-map a.left kind_of in let k = ap length y.after in let m = y.low in omega arith) in
        let count : length a.args ≡ length g.signature.arguments = sym (length-map a.args kind_of) ∙ ap length a.kinds_args in
        subst (λ o. Same R (found o s (λ t. room_for t.left s (enter P host sizes c g t.values f q vs t.left rest h s))) (lifted s (called l q c (Some g)))) (sym a.takes_them)
        (room_same P sizes f p vs rest h l s room a.left n _ _
        (enter_same P sizes host f p q vs st rest h l s r c g a.args a.left known a.whole count (ok.formed.functions c g known).counted))

    natives_same : (c q : ℕ) (x : Shape) (o : Option Native) → performed f p (variables_at P f) d.shape (call_native o) ≡ good x
        → Same R (found o s (λ n. found (arguments n.signature st) s (λ t. room_for t.left s (ask P host sizes n t.values s (λ v u. resume f q vs (v ∷ t.left) rest h u)))))
        (running.asked P host l q s o)
    natives_same c q x None e = cc
    natives_same c q x (Some m) e =
        let y = replaced f p (variables_at P f) (reverse m.signature.arguments) (m.signature.result ∷ []) d.shape x e in
        let a = given m.signature y.rest st (sym d.stack ∙ y.before) in
        let n : length a.left < 32 =
        (let i = ap length a.kinds_left in let j = length-map a.left kind_of in let k = ap length y.after in let w = y.low in omega arith) in
        subst (λ o. Same R (found o s (λ t. room_for t.left s (ask P host sizes m t.values s (λ v u. resume f q vs (v ∷ t.left) rest h u)))) (running.asked P host l q s (Some m))) (sym a.takes_them)
        (room_same P sizes f p vs rest h l s room a.left n _ _
        (ask_same P sizes host lawful f p q vs st rest h l s r room m a.args a.left a.whole a.kinds_args n))

    -- the frame that awaits a result has room for it
    awaiting : (e q : ℕ) (us : List (Option Value)) (t : List Value) (fs : List Frame) → rest ≡ frame e q us t ∷ fs → length t < 32
    awaiting e q us t fs eq = pick f rest callers eq
      where
        pick : (g : ℕ) (rs : List Frame) → Callers P plans g rs → rs ≡ frame e q us t ∷ fs → length t < 32
        pick g rs main eq = cc
        pick g rs (more {f = g'} {p = p'} {vs = ws} {st = u} {rest = rs'} w ws') eq =
            let a : u ≡ t = cc in
            let b = stack_low P plans ok g' p' ws _ w in
            let c = length-map u kind_of in
            let k = ap length a in
            omega arith

    -- the oldest frame is main's, which gives a word
    last_word : (v : Value) → kind_of v ≡ (function_at P f).signature.result → rest ≡ [] → kind_of v ≡ Word
    last_word v kv eq = pick f rest callers eq kv
      where
        pick : (g : ℕ) (rs : List Frame) → Callers P plans g rs → rs ≡ [] → kind_of v ≡ (function_at P g).signature.result → kind_of v ≡ Word
        pick g rs main eq kv = kv ∙ ok.word
        pick g rs (more w ws) eq kv = cc

    base_inside : length (flat rest) < length l.slots
    base_inside = let a = flat_length f p vs [] rest in let b = room [] (omega arith) in omega arith

    returning_same : (t : List Value) → st ≡ t → Kinded t ((function_at P f).signature.result ∷ [])
        → Same R (only_value t s (λ v. cond (is_kind d.self.signature.result v) (return v rest h s) (breaks s))) (lifted s (returned l (Some d.self)))
    returning_same t eq k = pick t eq k
      where
        self : function_at P f ≡ d.self
        self = is_function P plans ok f d.self d.known

        only : (v : Value) → st ≡ v ∷ [] → kind_of v ≡ (function_at P f).signature.result
            → Same R (cond (is_kind d.self.signature.result v) (return v rest h s) (breaks s)) (lifted s (returned l (Some d.self)))
        only v eq kv =
            subst (λ b. Same R (cond b (return v rest h s) (breaks s)) (lifted s (returned l (Some d.self))))
            (sym (ap (λ m. is_kind m v) (sym (kv ∙ ap (λ g. g.signature.result) self)) ∙ is_kind_lem v))
            (return_same P sizes f p vs h l s d.self d.known v rest (subst (λ u. Represents P sizes f p vs u rest h l) eq r) awaiting (last_word v kv) base_inside)

        pick : (t : List Value) → st ≡ t → Kinded t ((function_at P f).signature.result ∷ [])
            → Same R (only_value t s (λ v. cond (is_kind d.self.signature.result v) (return v rest h s) (breaks s))) (lifted s (returned l (Some d.self)))
        pick t eq k = kind (function_at P f).signature.result refl t eq k
          where
            kind : (m : Kind) → (function_at P f).signature.result ≡ m → (t : List Value) → st ≡ t → Kinded t (m ∷ [])
                → Same R (only_value t s (λ v. cond (is_kind d.self.signature.result v) (return v rest h s) (breaks s))) (lifted s (returned l (Some d.self)))
            kind Unknown e t eq k = elim k [ ]
            kind Word e t eq (words {n} bare) = only (word n) eq (sym e)
            kind Ref e t eq (refs {r = a} bare) = only (reference a) eq (sym e)

    newarray_same : (b : ℕ) {ks : List Kind} → Kinded st (Word ∷ ks)
        → Same R (pop_word st s (λ n t. attempt (newarray sizes.cells sizes.records h b n) s (λ a. resume f (p + 2) vs (reference a.reference ∷ t) rest a.heap s)))
        (lifted s (running.exec P (Newarray b) (p + 2) l))
    newarray_same b k = pick st k r low
      where
        pick : (st : List Value) {ks : List Kind} → Kinded st (Word ∷ ks) → Represents P sizes f p vs st rest h l → length st ≤ 32
            → Same R (pop_word st s (λ n t. attempt (newarray sizes.cells sizes.records h b n) s (λ a. resume f (p + 2) vs (reference a.reference ∷ t) rest a.heap s)))
            (lifted s (running.exec P (Newarray b) (p + 2) l))
        pick st (words {n} {st = t} kt) r low =
            let o = one P sizes f p vs rest h l s (word n) t r in
            let en = word_in_lem n (slot l (l.top - 1)) o.stood.0 o.stood.1 in
            subst (λ m. Same R (attempt (newarray sizes.cells sizes.records h b n) s (λ a. resume f (p + 2) vs (reference a.reference ∷ t) rest a.heap s))
            (lifted s (running.tried (new_array l.storage b m) (λ a. went (running.pushed (running.with_storage l a.storage) (p + 2) (l.top - 1) a.number))))) (sym en)
            (placed_same P sizes f p vs rest h l s room ((stands.allocates sizes.cells sizes.records h l.storage r.heap).newarrays b n) (kept_newarray l.storage r.sized b n) _ _
            (λ a m al kept. go (put P sizes f p vs rest h l s room (word n ∷ t) r t (p + 2) (l.top - 1) m.number (reference a.reference) a.heap m.storage o.lays o.above (omega arith) al.match kept (al.same, al.known))))

    act_same : (i : Instruction) (x : Shape) → effect P f p i d.shape ≡ good x → Lands x (plans f) (successors p i)
        → Same R (exec P host sizes i f p (p + size_of i) vs st rest h s) (act P host i (p + size_of i) l s)
    unfolding exec
    act_same Nop x e w = nop_same P sizes f p vs rest h l s room st r (p + 1)
    act_same Pop x e w =
        let y = pops f p (variables_at P f) d.shape x e in
        pop_same P sizes f p vs rest h l s room (before (y.kind ∷ x.stack) y.before) r (p + 1)
    act_same Dup x e w =
        let y = doubles f p (variables_at P f) d.shape x e in
        dup_same P sizes f p vs rest h l s room (before (y.kind ∷ y.rest) y.before) r (spare y.kind x (let a = y.after in let b = y.before in cc) y.low) (p + 1)
    act_same Swap x e w =
        let y = swaps f p (variables_at P f) d.shape x e in
        swap_same P sizes f p vs rest h l s room (before (y.top ∷ y.second ∷ y.rest) y.before) r low (p + 1)
    act_same AconstNull x e w =
        let y = replaced f p (variables_at P f) [] (Ref ∷ []) d.shape x e in
        push_same P sizes f p vs rest h l s room st r (spare_one Ref x y) (p + 1) 0 (reference null) (refl, λ big. absurd (omega arith))
    act_same (Aldc c) x e w =
        let y = from_pool f p (variables_at P f) c (length P.strings) Ref d.shape x e in
        subst (λ b. Same R (cond b (room_for st s (resume f (p + 3) vs (reference (text c) ∷ st) rest h s)) (breaks s)) (goes (running.pushed l (p + 3) l.top (c + 1)) s)) (sym (lt-ltb c (length P.strings) y.0))
        (push_same P sizes f p vs rest h l s room st r (spare_one Ref x y.1) (p + 3) (c + 1) (reference (text c)) (text_stands l.storage.count c (let a = y.0 in let b = small.strings in omega arith)))
    act_same (Bipush b) x e w =
        let y = replaced f p (variables_at P f) [] (Word ∷ []) d.shape x e in
        push_same P sizes f p vs rest h l s room st r (spare_one Word x y) (p + 2) (wrap b) (word (wrap b)) (refl, wrap_word b)
    act_same (Ildc c) x e w =
        let y = from_pool f p (variables_at P f) c (length P.integers) Word d.shape x e in
        let n = nth_some P.integers c y.0 in
        found_same P sizes f p vs rest h l s room (nth P.integers c) _ _ n.0 n.1
        (push_same P sizes f p vs rest h l s room st r (spare_one Word x y.1) (p + 3) (get_or P.integers c 0) (word n.0)
        (get_or_from_slice_get P.integers c n.0 0 n.1, small.integers c n.0 n.1))
    act_same (Vload i) x e w =
        let y = loads f p (variables_at P f) i d.shape x e in
        let v = held_value y.kind (get_or vs i None) y.known (subst (λ k. Held k (get_or vs i None)) y.there (d.holding i)) in
        let self = is_function P plans ok f d.self d.known in
        let n : i < length vs = (let a = y.inside in let b = d.sized in let c = ap (λ g. g.variables) self in omega arith) in
        load_same P sizes f p vs rest h l s room st r (spare y.kind x y.after y.low) (p + 2) i v.0 n v.1
    act_same (Vstore i) x e w =
        let y = stores f p (variables_at P f) i d.shape x e in
        let self = is_function P plans ok f d.self d.known in
        let n : i < length vs = (let a = y.inside in let b = d.sized in let c = ap (λ g. g.variables) self in omega arith) in
        store_same P sizes f p vs rest h l s room (before (y.kind ∷ x.stack) y.before) r (p + 2) i n
    act_same (Binary op) x e w =
        let y = replaced f p (variables_at P f) (Word ∷ Word ∷ []) (Word ∷ []) d.shape x e in
        binary_same P sizes f p vs rest h l s room (before (Word ∷ Word ∷ y.rest) y.before) r low (p + 1) (compute op) (compute_word op)
    act_same (IfCmpeq o) x e w =
        let y = pairs f p (variables_at P f) d.shape x e in
        let t = reached x o w.1.0 in
        equal_same P sizes f p vs rest h l s room (before (y.kind ∷ y.kind ∷ x.stack) y.before) r (λ b. b) o (p + 3) t.0 t.1
    act_same (IfCmpne o) x e w =
        let y = pairs f p (variables_at P f) d.shape x e in
        let t = reached x o w.1.0 in
        equal_same P sizes f p vs rest h l s room (before (y.kind ∷ y.kind ∷ x.stack) y.before) r not o (p + 3) t.0 t.1
    act_same (IfIcmp order o) x e w =
        let y = replaced f p (variables_at P f) (Word ∷ Word ∷ []) [] d.shape x e in
        let t = reached x o w.1.0 in
        order_same P sizes f p vs rest h l s room (before (Word ∷ Word ∷ y.rest) y.before) r (holds order) o (p + 3) t.0 t.1
    act_same (Goto o) x e w =
        let t = reached x o w.0 in
        branch_same P sizes f p vs rest h l s room st st r r.lays l.top r.top true o (p + 3) t.0 t.1
    act_same (Invokestatic c) x e w = calls_same c (p + 3) x (nth P.functions c) refl e
    act_same (Invokenative c) x e w = natives_same c (p + 3) x (nth P.natives c) e
    act_same Return x e w =
        subst₂ (λ a b. Same R (found a s (λ g. only_value st s (λ v. cond (is_kind g.signature.result v) (return v rest h s) (breaks s)))) (lifted s (returned l b))) (sym d.known)
        (sym (ap (nth P.functions) r.function ∙ d.known))
        (returning_same st refl (before ((function_at P f).signature.result ∷ []) (gives_result f p (variables_at P f) (function_at P f).signature.result d.shape x e)))
    act_same (New b) x e w =
        let y = replaced f p (variables_at P f) [] (Ref ∷ []) d.shape x e in
        let lt = spare_one Ref x y in
        room_same P sizes f p vs rest h l s room st lt _ _
        (placed_same P sizes f p vs rest h l s room ((stands.allocates sizes.cells sizes.records h l.storage r.heap).news b) (kept_new l.storage r.sized b) _ _
        (λ a m al kept. go (put P sizes f p vs rest h l s room st r st (p + 2) l.top m.number (reference a.reference) a.heap m.storage r.lays r.top lt al.match kept (al.same, al.known))))
    act_same (Newarray b) x e w =
        let y = replaced f p (variables_at P f) (Word ∷ []) (Ref ∷ []) d.shape x e in
        newarray_same b (before (Word ∷ y.rest) y.before)
    act_same Arraylength x e w =
        let y = replaced f p (variables_at P f) (Ref ∷ []) (Word ∷ []) d.shape x e in
        word_at_same P sizes f p vs rest h l s room (before (Ref ∷ y.rest) y.before) r low (p + 1) (arraylength h) (array_length l.storage)
        (λ n k. ((stands.answers sizes.cells sizes.records h l.storage r.heap n k).arraylengths, length-word l.storage r.heap.sound n k r.sized))
    act_same (Aaddf b) x e w =
        let y = replaced f p (variables_at P f) (Ref ∷ []) (Ref ∷ []) d.shape x e in
        reference_at_same P sizes f p vs rest h l s room (before (Ref ∷ y.rest) y.before) r low (p + 2) (λ a. aaddf h a b) (λ n. add_field l.storage n b)
        (λ n k. (stands.answers sizes.cells sizes.records h l.storage r.heap n k).aaddfs b)
    act_same Aadds x e w =
        let y = replaced f p (variables_at P f) (Word ∷ Ref ∷ []) (Ref ∷ []) d.shape x e in
        aadds_same P sizes f p vs rest h l s room (before (Word ∷ Ref ∷ y.rest) y.before) r low (p + 1) (aadds h) (add_index l.storage)
        (λ n i k. (stands.answers sizes.cells sizes.records h l.storage r.heap n k).aaddss i)
    act_same Imload x e w =
        let y = replaced f p (variables_at P f) (Ref ∷ []) (Word ∷ []) d.shape x e in
        word_at_same P sizes f p vs rest h l s room (before (Ref ∷ y.rest) y.before) r low (p + 1) (imload h) (load_word l.storage)
        (λ n k. ((stands.answers sizes.cells sizes.records h l.storage r.heap n k).imloads, load_word_lem l.storage r.heap.sound n k r.sized))
    act_same Cmload x e w =
        let y = replaced f p (variables_at P f) (Ref ∷ []) (Word ∷ []) d.shape x e in
        word_at_same P sizes f p vs rest h l s room (before (Ref ∷ y.rest) y.before) r low (p + 1) (cmload h) (load_byte l.storage)
        (λ n k. ((stands.answers sizes.cells sizes.records h l.storage r.heap n k).cmloads, load_byte_lem l.storage r.heap.sound n k r.sized))
    act_same Amload x e w =
        let y = replaced f p (variables_at P f) (Ref ∷ []) (Ref ∷ []) d.shape x e in
        reference_at_same P sizes f p vs rest h l s room (before (Ref ∷ y.rest) y.before) r low (p + 1) (amload h) (load_reference l.storage)
        (λ n k. (stands.answers sizes.cells sizes.records h l.storage r.heap n k).amloads)
    act_same Imstore x e w =
        let y = replaced f p (variables_at P f) (Word ∷ Ref ∷ []) [] d.shape x e in
        store_word_same P sizes f p vs rest h l s room (before (Word ∷ Ref ∷ y.rest) y.before) r (p + 1) (imstore h) (store_word l.storage)
        (λ n v k. ((stands.answers sizes.cells sizes.records h l.storage r.heap n k).imstores v, kept_store_word l.storage r.heap.sound n k r.sized v))
    act_same Cmstore x e w =
        let y = replaced f p (variables_at P f) (Word ∷ Ref ∷ []) [] d.shape x e in
        store_word_same P sizes f p vs rest h l s room (before (Word ∷ Ref ∷ y.rest) y.before) r (p + 1) (cmstore h) (store_byte l.storage)
        (λ n v k. ((stands.answers sizes.cells sizes.records h l.storage r.heap n k).cmstores v, kept_store_byte l.storage r.heap.sound n k r.sized v))
    act_same Amstore x e w =
        let y = replaced f p (variables_at P f) (Ref ∷ Ref ∷ []) [] d.shape x e in
        store_reference_same P sizes f p vs rest h l s room (before (Ref ∷ Ref ∷ y.rest) y.before) r (p + 1) (amstore h) (store_reference l.storage)
        (λ n v k j. ((stands.answers sizes.cells sizes.records h l.storage r.heap n k).amstores v j, kept_store_reference l.storage r.heap.sound n k r.sized v))

  pub step_same : (c : Conf) (l : State) (s : S) → Sound P plans c → R c l → Same R (step P host sizes c s) (running.step P host l s)
  step_same (conf (frame f p vs st) rest h) l s (d, callers) r =
      let x = (good_plan P plans ok f d.self d.known).passes p d.shape d.planned in
      let self = is_function P plans ok f d.self d.known in
      let decoded = ap (λ g. decode_at g.code p) (sym self) ∙ x.decoded in
      subst₂ (λ a b. Same R (found a s (λ g. found (decode_at g.code p) s (λ i. exec P host sizes i f p (p + size_of i) vs st rest h s))) (fetched P host b l s)) (sym d.known) (sym (ap (nth P.functions) r.function ∙ d.known))
      (subst₂ (λ a b. Same R (found a s (λ i. exec P host sizes i f p (p + size_of i) vs st rest h s)) (acted P host b l s)) (sym decoded) (sym (ap (decode_at d.self.code) r.place ∙ decoded))
      (subst (λ q. Same R (exec P host sizes x.instruction f p (p + size_of x.instruction) vs st rest h s) (act P host x.instruction (q + size_of x.instruction) l s)) (sym r.place)
      (act_same f p vs st rest h s l d callers r x.instruction x.result x.passed x.lands)))
