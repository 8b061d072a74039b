-- A step of a sound configuration does not break, and what it goes on to is sound.
use Rattle.std.proofs.Common.{◌≡◌, ℕ, suc, ◌+◌, ◌-◌, ◌<◌, ◌≤◌, Bool, true, false, cond, not, eqb, ltb, leb, List, [], ◌∷◌, ◌++◌, map, reverse, length, set, replicate, ℤ, Some, None, Option, sym, refl, ap, ◌∙◌, subst, arith, length-set, lt-ltb}
use lib.ListN.{length-map}
use Rattle.std.proofs.lemmas.Option.{get_or_from_slice_get, slice_get_within}
use Rattle.bytecode.specs.declared.kind.Kind.{Kind}
use Rattle.bytecode.specs.declared.kind.Kind.TheVariants.{Unknown, Word, Reference as Ref}
use Rattle.bytecode.specs.declared.stop.Stop.TheVariants.{Native as NoNative}
use Rattle.bytecode.specs.declared.instruction.Instruction.{Instruction}
use Rattle.bytecode.specs.declared.instruction.Instruction.TheVariants.{Nop, Pop, Dup, Swap, AconstNull, Aldc, Bipush, Ildc, Vload, Vstore, Binary, IfCmpeq, IfCmpne, IfIcmp, Goto, Invokestatic, Invokenative, Return, New, Newarray, Arraylength, Aaddf, Aadds, Imload, Cmload, Amload, Imstore, Cmstore, Amstore}
use Rattle.bytecode.specs.Instructions.{size_of, decode_at, target}
use Rattle.bytecode.specs.Outcome.{good}
use Rattle.bytecode.specs.Program.{Program, Function, Native}
use Rattle.bytecode.specs.Stops.{Attempt, gives, stops}
use Rattle.heap.specs.Checked.{Heap, Reference, null, text, new, newarray, arraylength, aaddf, aadds, imload, cmload, amload, imstore, cmstore, amstore}
use Rattle.word.specs.Words.{compute, holds, wrap}
use Rattle.host.specs.Hosts.{Host, Call, Lawful, Suits, fits}
use Rattle.host.specs.declared.call.Reply.{Reply}
use Rattle.plan.specs.Programs.{nth, function_at, variables_at, no_function}
use Rattle.plan.specs.Shapes.{Shape}
use Rattle.plan.specs.Effects.{effect, fixed, perform, performed, within, call_static, call_native}
use Rattle.plan.specs.Plans.{Hits, Lands, successors, shape_at, entry_of, Good}
use Rattle.plan.proofs.Following.{hits_shape}
use Rattle.checked.specs.Runs.{Next, goes, ends, stops as halts, breaks}
use Rattle.checked.specs.Machine.{Value, word, reference, kind_of, Frame, frame, Conf, conf, Sizes, reserve, reserved, agrees, is_kind, arguments, call_of, references, argument_of, variable, pop_word, pop_reference, pop_any, room_for, attempt, found, compared, only_value, resume, branch, enter, return, answered, ask, exec, step, same_reference}
use Rattle.checked.specs.Law.{Plans, Accepted}
use Rattle.checked.specs.Sound.{Held, Holding, Fits, Callers, main, more, Sound}
use Rattle.checked.proofs.Stacking.{Kinded, bare, words, refs, kinded_at, kinds_are, Replaced, replaced, from_pool, loads, stores, pops, doubles, swaps, pairs, gives_result, Given, given, is_kind_lem, arguments_fit, count_references_lem}
use Rattle.checked.proofs.Pieces.{nth_some, agrees_is, held_value, holding_reach, holding_set, entry_holding, entry_length}

module _ (P : Program) (plans : Plans) where
  abbrev pub Fine : {S : Type 0} → Next Conf S → Type 0
  Fine (goes c s) = Sound P plans c
  Fine (ends w s) = Unit {0}
  Fine (halts e s) = Unit {0}
  Fine (breaks s) = ⊥

  -- ## The parts of instructions

  module _ {S : Type 0} where
    word_fine : {st : List Value} {ks : List Kind} → Kinded st (Word ∷ ks) → (s : S) (k : ℕ → List Value → Next Conf S)
        → ((n : ℕ) (t : List Value) → Kinded t ks → Fine (k n t)) → Fine (pop_word st s k)
    word_fine (words {n} {st} d) s k g = g n st d

    ref_fine : {st : List Value} {ks : List Kind} → Kinded st (Ref ∷ ks) → (s : S) (k : Reference → List Value → Next Conf S)
        → ((r : Reference) (t : List Value) → Kinded t ks → Fine (k r t)) → Fine (pop_reference st s k)
    ref_fine (refs {r} {st} d) s k g = g r st d

    any_fine : {st : List Value} {l : Kind} {ks : List Kind} → Kinded st (l ∷ ks) → (s : S) (k : Value → List Value → Next Conf S)
        → ((v : Value) (t : List Value) → kind_of v ≡ l → Kinded t ks → Fine (k v t)) → Fine (pop_any st s k)
    any_fine (words {n} {st} d) s k g = g (word n) st refl d
    any_fine (refs {r} {st} d) s k g = g (reference r) st refl d

    only_fine : {st : List Value} {l : Kind} → Kinded st (l ∷ []) → (s : S) (k : Value → Next Conf S) → ((v : Value) → kind_of v ≡ l → Fine (k v))
        → Fine (only_value st s k)
    only_fine (words {n} bare) s k g = g (word n) refl
    only_fine (refs {r} bare) s k g = g (reference r) refl

    attempt_fine : {A : Type 0} (x : Attempt A) (s : S) (k : A → Next Conf S) → ((a : A) → Fine (k a)) → Fine (attempt x s k)
    attempt_fine (gives a) s k g = g a
    attempt_fine (stops e) s k g = tt

    room_fine : (st : List Value) (s : S) (x : Next Conf S) → length st < 32 → Fine x → Fine (room_for st s x)
    room_fine st s x lt g = subst (λ b. Fine (cond b x (breaks s))) (sym (lt-ltb (length st) 32 lt)) g

    found_fine : {A : Type 0} (o : Option A) (s : S) (k : A → Next Conf S) (a : A) → o ≡ Some a → Fine (k a) → Fine (found o s k)
    found_fine o s k a e g = subst (λ x. Fine (found x s k)) (sym e) g

    compared_fine : (x y : Value) (s : S) (k : Bool → Next Conf S) → kind_of x ≡ kind_of y → ((b : Bool) → Fine (k b)) → Fine (compared x y s k)
    compared_fine (word x) (word y) s k e g = g (eqb x y)
    compared_fine (word x) (reference r) s k e g = cc
    compared_fine (reference q) (word y) s k e g = cc
    compared_fine (reference q) (reference r) s k e g = g (same_reference q r)

    cond_fine : (b : Bool) (x y : Next Conf S) → Fine x → Fine y → Fine (cond b x y)
    cond_fine true x y g h = g
    cond_fine false x y g h = h

    -- a host's reply of the result's kind
    answered_fine : {k : Kind} {n : ℕ} {r : Reply} → Suits k n r → (rs : List Reference) → n ≡ length rs → (s : S) (c : Value → Next Conf S)
        → ((v : Value) → kind_of v ≡ k → Fine (c v)) → Fine (answered k r rs s c)
    answered_fine (Suits.word {n} {w} lt) rs e s c g = g (word w) refl
    answered_fine Suits.null rs e s c g = g (reference null) refl
    answered_fine (Suits.argument {n} {i} lt) rs e s c g =
        let x = nth_some rs i (omega arith) in found_fine (nth rs i) s (λ r. c (reference r)) x.0 x.1 (g (reference x.0) refl)
    answered_fine (Suits.stop {k = Unknown}) rs e s c g = tt
    answered_fine (Suits.stop {k = Word}) rs e s c g = tt
    answered_fine (Suits.stop {k = Ref}) rs e s c g = tt

  -- a frame at a place that a shape reaches
  pub fits_at : (f q : ℕ) (g : Function) (vs : List (Option Value)) (x : Shape) (kinds : List Kind) → nth P.functions f ≡ Some g
      → length vs ≡ g.variables → Hits x (plans f q) → x.stack ≡ kinds → Holding vs x.variables → Fits P plans f q vs kinds
  fits_at f q g vs x kinds e n h k d =
      let t = hits_shape x (plans f q) h in
      record {
        self = g;
        known = e;
        shape = t.0;
        planned = t.1;
        stack = sym t.2.stack ∙ k;
        holding = holding_reach vs x t.0 t.2 d;
        sized = n;
      }

-- ## One instruction

module _ (P : Program) (plans : Plans) (ok : Accepted P plans) where
  pub good_plan : (f : ℕ) (g : Function) → nth P.functions f ≡ Some g → Good P f (plans f)
  good_plan f g e = (ok.fullest f (slice_get_within P.functions f g e)).sound

  pub is_function : (f : ℕ) (g : Function) → nth P.functions f ≡ Some g → function_at P f ≡ g
  is_function f g e = get_or_from_slice_get P.functions f g no_function e

  module _ {S : Type 0} (host : Host S) (lawful : Lawful host) (sizes : Sizes) (f p : ℕ) (vs : List (Option Value)) (st : List Value)
      (rest : List Frame) (h : Heap) (s : S) (d : Fits P plans f p vs (map kind_of st)) (callers : Callers P plans f rest) where
    -- the frame goes on at a place that its new shape reaches
    on : (x : Shape) (q : ℕ) (us : List (Option Value)) (t : List Value) (k : Heap) (u : S) → Hits x (plans f q) → x.stack ≡ map kind_of t
        → Holding us x.variables → length us ≡ length vs → Fine P plans (resume f q us t rest k u)
    on x q us t k u hit e hold n = (fits_at P plans f q d.self us x (map kind_of t) d.known (n ∙ d.sized) hit e hold, callers)

    -- the same variables, and other kinds in the place of those taken
    keeps : (wanted left : List Kind) (r : Shape) (e : Replaced wanted left d.shape r) (q : ℕ) → Hits r (plans f q) → (t : List Value) (k : Heap) (u : S)
        → Kinded t (left ++ e.rest) → Fine P plans (resume f q vs t rest k u)
    keeps wanted left r e q hit t k u kt =
        on r q vs t k u hit (e.after ∙ sym (kinds_are kt)) (subst (Holding vs) (sym e.same) d.holding) refl

    before : (ks : List Kind) → d.shape.stack ≡ ks → Kinded st ks
    before ks e = kinded_at st ks (sym d.stack ∙ e)

    -- a value more on the stack
    low : (l : Kind) (r : Shape) → r.stack ≡ l ∷ d.shape.stack → length r.stack ≤ 32 → length st < 32
    low l r e le =
        let a = ap length e in
        let b = ap length d.stack in
        let c = length-map st kind_of in
        omega arith

    pushes : (l : Kind) (r : Shape) (q : ℕ) (v : Value) → Replaced [] (l ∷ []) d.shape r → kind_of v ≡ l → Hits r (plans f q) → (k : Heap) → Fine P plans (resume f q vs (v ∷ st) rest k s)
    pushes l r q v e kv hit k =
        on r q vs (v ∷ st) k s hit (e.after ∙ (let a = e.before in let b = d.stack in let c = kv in cc))
        (subst (Holding vs) (sym e.same) d.holding) refl

    room_left : (l : Kind) (r : Shape) → Replaced [] (l ∷ []) d.shape r → length st < 32
    room_left l r e = low l r (let a = e.after in let b = e.before in cc) e.low

    branches : (b : Bool) (o : ℤ) (q : ℕ) (r : Shape) (t : List Value) → Hits r (plans f q) → Hits r (shape_at (plans f) (target p o)) → r.stack ≡ map kind_of t
        → Holding vs r.variables → Fine P plans (branch b o f p q vs t rest h s)
    branches false o q r t hit far e hold = on r q vs t h s hit e hold refl
    branches true o q r t hit far e hold = go (target p o) far
      where
        go : (x : Option ℕ) → Hits r (shape_at (plans f) x) → Fine P plans (found x s (λ to. resume f to vs t rest h s))
        go None far = absurd far
        go (Some to) far = on r to vs t h s far e hold refl

    -- a call: the arguments become the first variables of a new frame
    enters : (c : ℕ) (g : Function) (q : ℕ) (r : Shape) → nth P.functions c ≡ Some g
        → (e : Replaced (reverse g.signature.arguments) (g.signature.result ∷ []) d.shape r) → Hits r (plans f q)
        → (a : Given g.signature e.rest st) → Fine P plans (enter P host sizes c g a.args f q vs a.left rest h s)
    enters c g q r known e hit a =
        cond_fine P plans (ltb (suc (length rest)) sizes.frames) _ _
        (cond_fine P plans (leb (reserve (Some g) + reserved P (frame f q vs a.left ∷ rest)) sizes.slots) _ _ (new_frame, waiting) tt) tt
      where
        is_g : function_at P c ≡ g
        is_g = is_function c g known

        new_frame : Fits P plans c 0 (map Some a.args ++ replicate (g.variables - length a.args) None) []
        new_frame =
            let n : length a.args ≡ length g.signature.arguments = sym (length-map a.args kind_of) ∙ ap length a.kinds_args in
            fits_at P plans c 0 g (map Some a.args ++ replicate (g.variables - length a.args) None) (entry_of (function_at P c)) [] known
            (entry_length a.args g.variables (length g.signature.arguments) n (ok.formed.functions c g known).counted)
            (good_plan c g known).begins refl
            (subst (λ k. Holding (map Some a.args ++ replicate (g.variables - length a.args) None) (entry_of k).variables) (sym is_g)
            (subst (λ k. Holding (map Some a.args ++ replicate (g.variables - length a.args) None) (k ++ replicate (32 - length k) Unknown)) a.kinds_args
            (entry_holding a.args (g.variables - length a.args) (32 - length (map kind_of a.args)))))

        waiting : Callers P plans c (frame f q vs a.left ∷ rest)
        waiting =
            more (fits_at P plans f q d.self vs r ((function_at P c).signature.result ∷ map kind_of a.left) d.known d.sized hit
            (e.after ∙ (let b = a.kinds_left in let i = is_g in cc)) (subst (Holding vs) (sym e.same) d.holding)) callers

    calls : (c : ℕ) (q : ℕ) (r : Shape) → (o : Option Function) → nth P.functions c ≡ o
        → performed f p (variables_at P f) d.shape (call_static o) ≡ good r → Hits r (plans f q)
        → Fine P plans (found o s (λ g. found (arguments g.signature st) s (λ t. room_for t.left s (enter P host sizes c g t.values f q vs t.left rest h s))))
    calls c q r None known e hit = cc
    calls c q r (Some g) known e hit =
        let x = replaced f p (variables_at P f) (reverse g.signature.arguments) (g.signature.result ∷ []) d.shape r e in
        let a = given g.signature x.rest st (sym d.stack ∙ x.before) in
        let n : length a.left < 32 =
        (let i = ap length a.kinds_left in let j = length-map a.left kind_of in let k = ap length x.after in let l = x.low in omega arith) in
        found_fine P plans (arguments g.signature st) s _ _ a.takes_them
        (room_fine P plans a.left s _ n (enters c g q r known x hit a))

    asks : (n : Native) (q : ℕ) (r : Shape) (e : Replaced (reverse n.signature.arguments) (n.signature.result ∷ []) d.shape r) → Hits r (plans f q)
        → (a : Given n.signature e.rest st) → Fine P plans (ask P host sizes n a.args s (λ v u. resume f q vs (v ∷ a.left) rest h u))
    asks n q r e hit a = go (agrees n.signature (host.signs n.index)) refl
      where
        call : Call
        call = call_of P n a.args

        go : (b : Bool) → agrees n.signature (host.signs n.index) ≡ b
            → Fine P plans (cond b (answered n.signature.result (host.replies s call) (references a.args) (host.becomes s call)
            (λ v. resume f q vs (v ∷ a.left) rest h (host.becomes s call))) (halts NoNative s))
        go false z = tt
        go true z =
            answered_fine P plans
            (lawful.suits s call n.signature (agrees_is n.signature (host.signs n.index) z)
            (subst (λ k. fits k (map argument_of a.args) ≡ true) a.kinds_args (arguments_fit a.args)))
            (references a.args) (count_references_lem a.args) (host.becomes s call) _
            (λ v kv. on r q vs (v ∷ a.left) h (host.becomes s call) hit (e.after ∙ (let b = a.kinds_left in let c = kv in cc))
            (subst (Holding vs) (sym e.same) d.holding) refl)

    natives : (c : ℕ) (q : ℕ) (r : Shape) → (o : Option Native) → performed f p (variables_at P f) d.shape (call_native o) ≡ good r → Hits r (plans f q)
        → Fine P plans (found o s (λ n. found (arguments n.signature st) s (λ t. room_for t.left s
        (ask P host sizes n t.values s (λ v u. resume f q vs (v ∷ t.left) rest h u)))))
    natives c q r None e hit = cc
    natives c q r (Some m) e hit =
        let x = replaced f p (variables_at P f) (reverse m.signature.arguments) (m.signature.result ∷ []) d.shape r e in
        let a = given m.signature x.rest st (sym d.stack ∙ x.before) in
        let n : length a.left < 32 =
        (let i = ap length a.kinds_left in let j = length-map a.left kind_of in let k = ap length x.after in let l = x.low in omega arith) in
        found_fine P plans (arguments m.signature st) s _ _ a.takes_them
        (room_fine P plans a.left s _ n (asks m q r x hit a))

    -- a return to the frame that awaits it, or the end of main
    returns : (v : Value) → kind_of v ≡ (function_at P f).signature.result → Fine P plans (return v rest h s)
    returns v kv = go f rest callers kv
      where
        go : (g : ℕ) (fs : List Frame) → Callers P plans g fs → kind_of v ≡ (function_at P g).signature.result → Fine P plans (return v fs h s)
        go g fs main e = last v (e ∙ ok.word)
          where
            last : (v : Value) → kind_of v ≡ Word → Fine P plans (return v [] h s)
            last (word n) e = tt
            last (reference r) e = cc
        go g fs (more {f = g'} {p = p'} {vs = us} {st = t} {rest = fs'} w ws) e =
            let sz = ((good_plan g' w.self w.known).sized p' w.shape w.planned).low in
            let n : length t < 32 = (let i = ap length w.stack in let j = length-map t kind_of in omega arith) in
            room_fine P plans t s _ n (
              record {
                self = w.self;
                known = w.known;
                shape = w.shape;
                planned = w.planned;
                stack = w.stack ∙ ap (λ k. k ∷ map kind_of t) (sym e);
                holding = w.holding;
                sized = w.sized;
              },
              ws,
            )

    abbrev V : ℕ
    V = variables_at P f

    -- a load of a variable of a known kind
    loading : (i q : ℕ) (r : Shape) → perform f p V (Rattle.plan.specs.Effects.load i) d.shape ≡ good r → Hits r (plans f q)
        → Fine P plans (found (variable vs i) s (λ v. room_for st s (resume f q vs (v ∷ st) rest h s)))
    loading i q r e hit =
        let x = loads f p V i d.shape r e in
        let v = held_value x.kind (variable vs i) x.known (subst (λ k. Held k (variable vs i)) x.there (d.holding i)) in
        found_fine P plans (variable vs i) s _ v.0 v.1
        (room_fine P plans st s _ (low x.kind r x.after x.low)
        (on r q vs (v.0 ∷ st) h s hit (x.after ∙ (let b = d.stack in let c = v.2 in cc)) (subst (Holding vs) (sym x.same) d.holding) refl))

    storing : (i q : ℕ) (r : Shape) → perform f p V (Rattle.plan.specs.Effects.store i) d.shape ≡ good r → Hits r (plans f q)
        → Fine P plans (pop_any st s (λ v t. cond (ltb i (length vs)) (resume f q (set vs i (Some v)) t rest h s) (breaks s)))
    storing i q r e hit =
        let x = stores f p V i d.shape r e in
        let sz = ((good_plan f d.self d.known).sized p d.shape d.planned).long in
        let self = is_function f d.self d.known in
        let n : i < length vs = (let a = x.inside in let b = d.sized in let c = ap (λ g. g.variables) self in omega arith) in
        let few = (ok.formed.functions f d.self d.known).few in
        let m : i < length d.shape.variables = (let b = d.sized in omega arith) in
        any_fine P plans (before (x.kind ∷ r.stack) x.before) s _ (λ v t kv kt.
        subst (λ b. Fine P plans (cond b (resume f q (set vs i (Some v)) t rest h s) (breaks s))) (sym (lt-ltb i (length vs) n))
        (on r q (set vs i (Some v)) t h s hit (sym (kinds_are kt))
        (subst (Holding (set vs i (Some v))) (sym x.after)
        (subst (λ k. Holding (set vs i (Some v)) (set d.shape.variables i k)) kv (holding_set vs d.shape.variables i v n m d.holding)))
        (length-set vs i (Some v))))

    comparing : (q : ℕ) (r : Shape) (o : ℤ) (turn : Bool → Bool) → perform f p V Rattle.plan.specs.Effects.alike d.shape ≡ good r
        → Hits r (plans f q) → Hits r (shape_at (plans f) (target p o))
        → Fine P plans (pop_any st s (λ y u. pop_any u s (λ x t. compared x y s (λ b. branch (turn b) o f p q vs t rest h s))))
    comparing q r o turn e hit far =
        let x = pairs f p V d.shape r e in
        any_fine P plans (before (x.kind ∷ x.kind ∷ r.stack) x.before) s _ (λ v u kv ku.
        any_fine P plans ku s _ (λ w t kw kt.
        compared_fine P plans w v s _ (kw ∙ sym kv) (λ b.
        branches (turn b) o q r t hit far (sym (kinds_are kt)) (subst (Holding vs) (sym x.same) d.holding))))

    jumps : (o : ℤ) (r : Shape) → Hits r (shape_at (plans f) (target p o)) → r.stack ≡ map kind_of st → Holding vs r.variables
        → Fine P plans (branch true o f p (p + 3) vs st rest h s)
    jumps o r far e hold = go (target p o) far
      where
        go : (x : Option ℕ) → Hits r (shape_at (plans f) x) → Fine P plans (found x s (λ to. resume f to vs st rest h s))
        go None far = absurd far
        go (Some to) far = on r to vs st h s far e hold refl

    -- the only value, of the result's kind
    returning : (t : List Value) (l : Kind) → (function_at P f).signature.result ≡ l → Kinded t ((function_at P f).signature.result ∷ [])
        → Fine P plans (only_value t s (λ v. cond (is_kind l v) (return v rest h s) (breaks s)))
    returning t l e k =
        only_fine P plans k s _ (λ v kv.
        subst (λ b. Fine P plans (cond b (return v rest h s) (breaks s))) (sym (ap (λ m. is_kind m v) (sym (kv ∙ e)) ∙ is_kind_lem v)) (returns v kv))

    exec_fine : (i : Instruction) (r : Shape) → effect P f p i d.shape ≡ good r → Lands r (plans f) (successors p i)
        → Fine P plans (exec P host sizes i f p (p + size_of i) vs st rest h s)
    unfolding exec
    exec_fine Nop r e l =
        let x = replaced f p V [] [] d.shape r e in
        keeps [] [] r x (p + 1) l.0 st h s (before x.rest x.before)
    exec_fine Pop r e l =
        let x = pops f p V d.shape r e in
        any_fine P plans (before (x.kind ∷ r.stack) x.before) s _ (λ v t kv kt.
        on r (p + 1) vs t h s l.0 (sym (kinds_are kt)) (subst (Holding vs) (sym x.same) d.holding) refl)
    exec_fine Dup r e l =
        let x = doubles f p V d.shape r e in
        any_fine P plans (before (x.kind ∷ x.rest) x.before) s _ (λ v t kv kt.
        room_fine P plans st s _ (low x.kind r (let a = x.after in let b = x.before in cc) x.low)
        (on r (p + 1) vs (v ∷ v ∷ t) h s l.0 (x.after ∙ (let a = kinds_are kt in let b = kv in cc)) (subst (Holding vs) (sym x.same) d.holding) refl))
    exec_fine Swap r e l =
        let x = swaps f p V d.shape r e in
        any_fine P plans (before (x.top ∷ x.second ∷ x.rest) x.before) s _ (λ v u kv ku.
        any_fine P plans ku s _ (λ w t kw kt.
        on r (p + 1) vs (w ∷ v ∷ t) h s l.0 (x.after ∙ (let a = kinds_are kt in let b = kv in let c = kw in cc)) (subst (Holding vs) (sym x.same) d.holding) refl))
    exec_fine AconstNull r e l =
        let x = replaced f p V [] (Ref ∷ []) d.shape r e in
        room_fine P plans st s _ (room_left Ref r x) (pushes Ref r (p + 1) (reference null) x refl l.0 h)
    exec_fine (Aldc c) r e l =
        let x = from_pool f p V c (length P.strings) Ref d.shape r e in
        subst (λ b. Fine P plans (cond b (room_for st s (resume f (p + 3) vs (reference (text c) ∷ st) rest h s)) (breaks s))) (sym (lt-ltb c (length P.strings) x.0))
        (room_fine P plans st s _ (room_left Ref r x.1) (pushes Ref r (p + 3) (reference (text c)) x.1 refl l.0 h))
    exec_fine (Bipush b) r e l =
        let x = replaced f p V [] (Word ∷ []) d.shape r e in
        room_fine P plans st s _ (room_left Word r x) (pushes Word r (p + 2) (word (wrap b)) x refl l.0 h)
    exec_fine (Ildc c) r e l =
        let x = from_pool f p V c (length P.integers) Word d.shape r e in
        let n = nth_some P.integers c x.0 in
        found_fine P plans (nth P.integers c) s _ n.0 n.1
        (room_fine P plans st s _ (room_left Word r x.1) (pushes Word r (p + 3) (word n.0) x.1 refl l.0 h))
    exec_fine (Vload i) r e l = loading i (p + 2) r e l.0
    exec_fine (Vstore i) r e l = storing i (p + 2) r e l.0
    exec_fine (Binary op) r e l =
        let x = replaced f p V (Word ∷ Word ∷ []) (Word ∷ []) d.shape r e in
        word_fine P plans (before (Word ∷ Word ∷ x.rest) x.before) s _ (λ y u ku. word_fine P plans ku s _ (λ w t kt.
        attempt_fine P plans (compute op w y) s _ (λ z. keeps (Word ∷ Word ∷ []) (Word ∷ []) r x (p + 1) l.0 (word z ∷ t) h s (words kt))))
    exec_fine (IfCmpeq o) r e l = comparing (p + 3) r o (λ b. b) e l.0 l.1.0
    exec_fine (IfCmpne o) r e l = comparing (p + 3) r o not e l.0 l.1.0
    exec_fine (IfIcmp order o) r e l =
        let x = replaced f p V (Word ∷ Word ∷ []) [] d.shape r e in
        word_fine P plans (before (Word ∷ Word ∷ x.rest) x.before) s _ (λ y u ku. word_fine P plans ku s _ (λ w t kt.
        branches (holds order w y) o (p + 3) r t l.0 l.1.0 (x.after ∙ sym (kinds_are kt)) (subst (Holding vs) (sym x.same) d.holding)))
    exec_fine (Goto o) r e l =
        let x = replaced f p V [] [] d.shape r e in
        jumps o r l.0 (let a = x.after in let b = x.before in let c = d.stack in cc) (subst (Holding vs) (sym x.same) d.holding)
    exec_fine (Invokestatic c) r e l = calls c (p + 3) r (nth P.functions c) refl e l.0
    exec_fine (Invokenative c) r e l = natives c (p + 3) r (nth P.natives c) e l.0
    exec_fine Return r e l =
        let self = is_function f d.self d.known in
        let x = gives_result f p V (function_at P f).signature.result d.shape r e in
        found_fine P plans (nth P.functions f) s _ d.self d.known (returning st d.self.signature.result (ap (λ g. g.signature.result) self) (before ((function_at P f).signature.result ∷ []) x))
    exec_fine (New b) r e l =
        let x = replaced f p V [] (Ref ∷ []) d.shape r e in
        room_fine P plans st s _ (room_left Ref r x)
        (attempt_fine P plans (new sizes.cells sizes.records h b) s _ (λ a. pushes Ref r (p + 2) (reference a.reference) x refl l.0 a.heap))
    exec_fine (Newarray b) r e l =
        let x = replaced f p V (Word ∷ []) (Ref ∷ []) d.shape r e in
        word_fine P plans (before (Word ∷ x.rest) x.before) s _ (λ n t kt.
        attempt_fine P plans (newarray sizes.cells sizes.records h b n) s _ (λ a. keeps (Word ∷ []) (Ref ∷ []) r x (p + 2) l.0 (reference a.reference ∷ t) a.heap s (refs kt)))
    exec_fine Arraylength r e l =
        let x = replaced f p V (Ref ∷ []) (Word ∷ []) d.shape r e in
        ref_fine P plans (before (Ref ∷ x.rest) x.before) s _ (λ a t kt.
        attempt_fine P plans (arraylength h a) s _ (λ n. keeps (Ref ∷ []) (Word ∷ []) r x (p + 1) l.0 (word n ∷ t) h s (words kt)))
    exec_fine (Aaddf b) r e l =
        let x = replaced f p V (Ref ∷ []) (Ref ∷ []) d.shape r e in
        ref_fine P plans (before (Ref ∷ x.rest) x.before) s _ (λ a t kt.
        attempt_fine P plans (aaddf h a b) s _ (λ n. keeps (Ref ∷ []) (Ref ∷ []) r x (p + 2) l.0 (reference n ∷ t) h s (refs kt)))
    exec_fine Aadds r e l =
        let x = replaced f p V (Word ∷ Ref ∷ []) (Ref ∷ []) d.shape r e in
        word_fine P plans (before (Word ∷ Ref ∷ x.rest) x.before) s _ (λ i u ku. ref_fine P plans ku s _ (λ a t kt.
        attempt_fine P plans (aadds h a i) s _ (λ n. keeps (Word ∷ Ref ∷ []) (Ref ∷ []) r x (p + 1) l.0 (reference n ∷ t) h s (refs kt))))
    exec_fine Imload r e l =
        let x = replaced f p V (Ref ∷ []) (Word ∷ []) d.shape r e in
        ref_fine P plans (before (Ref ∷ x.rest) x.before) s _ (λ a t kt.
        attempt_fine P plans (imload h a) s _ (λ n. keeps (Ref ∷ []) (Word ∷ []) r x (p + 1) l.0 (word n ∷ t) h s (words kt)))
    exec_fine Cmload r e l =
        let x = replaced f p V (Ref ∷ []) (Word ∷ []) d.shape r e in
        ref_fine P plans (before (Ref ∷ x.rest) x.before) s _ (λ a t kt.
        attempt_fine P plans (cmload h a) s _ (λ n. keeps (Ref ∷ []) (Word ∷ []) r x (p + 1) l.0 (word n ∷ t) h s (words kt)))
    exec_fine Amload r e l =
        let x = replaced f p V (Ref ∷ []) (Ref ∷ []) d.shape r e in
        ref_fine P plans (before (Ref ∷ x.rest) x.before) s _ (λ a t kt.
        attempt_fine P plans (amload h a) s _ (λ n. keeps (Ref ∷ []) (Ref ∷ []) r x (p + 1) l.0 (reference n ∷ t) h s (refs kt)))
    exec_fine Imstore r e l =
        let x = replaced f p V (Word ∷ Ref ∷ []) [] d.shape r e in
        word_fine P plans (before (Word ∷ Ref ∷ x.rest) x.before) s _ (λ n u ku. ref_fine P plans ku s _ (λ a t kt.
        attempt_fine P plans (imstore h a n) s _ (λ k. keeps (Word ∷ Ref ∷ []) [] r x (p + 1) l.0 t k s kt)))
    exec_fine Cmstore r e l =
        let x = replaced f p V (Word ∷ Ref ∷ []) [] d.shape r e in
        word_fine P plans (before (Word ∷ Ref ∷ x.rest) x.before) s _ (λ n u ku. ref_fine P plans ku s _ (λ a t kt.
        attempt_fine P plans (cmstore h a n) s _ (λ k. keeps (Word ∷ Ref ∷ []) [] r x (p + 1) l.0 t k s kt)))
    exec_fine Amstore r e l =
        let x = replaced f p V (Ref ∷ Ref ∷ []) [] d.shape r e in
        ref_fine P plans (before (Ref ∷ Ref ∷ x.rest) x.before) s _ (λ n u ku. ref_fine P plans ku s _ (λ a t kt.
        attempt_fine P plans (amstore h a n) s _ (λ k. keeps (Ref ∷ Ref ∷ []) [] r x (p + 1) l.0 t k s kt)))

  -- the step of a sound configuration
  pub step_fine : {S : Type 0} (host : Host S) → Lawful host → (sizes : Sizes) (c : Conf) (s : S) → Sound P plans c → Fine P plans (step P host sizes c s)
  step_fine host lawful sizes (conf (frame f p vs st) rest h) s (d, callers) =
      let x = (good_plan f d.self d.known).passes p d.shape d.planned in
      let self = is_function f d.self d.known in
      found_fine P plans (nth P.functions f) s _ d.self d.known
      (found_fine P plans (decode_at d.self.code p) s _ x.instruction (ap (λ g. decode_at g.code p) (sym self) ∙ x.decoded)
      (exec_fine host lawful sizes f p vs st rest h s d callers x.instruction x.result x.passed x.lands))
