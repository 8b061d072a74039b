-- The next instruction of a ready state is there, and whatever it relies on: its kinds are those of the plan.
use Rattle.std.proofs.Common.{◌≡◌, ℕ, ◌+◌, ◌-◌, ◌^◌, ◌<◌, ◌≤◌, Bool, true, false, cond, leb, List, [], ◌∷◌, map, reverse, length, ℤ, is_some, Some, None, Option, sym, refl, ap, ◌∙◌, subst, arith, length-append, leb-true}
use Rattle.std.proofs.lemmas.Option.{get_or_from_slice_get, slice_get_within}
use lib.ListN.{length-map, length-reverse}
use Rattle.bytecode.specs.declared.kind.Kind.{Kind}
use Rattle.bytecode.specs.declared.kind.Kind.TheVariants.{Word, Reference as Ref}
use Rattle.bytecode.specs.declared.instruction.Instruction.{Instruction}
use Rattle.bytecode.specs.declared.instruction.Instruction.TheVariants.{Nop, Pop, Dup, Swap, AconstNull, Aldc, Bipush, Ildc, Vload, Vstore, Binary, IfCmpeq, IfCmpne, IfIcmp, Goto, Invokestatic, Invokenative, Return, New, Newarray, Arraylength, Aaddf, Aadds, Imload, Cmload, Amload, Imstore, Cmstore, Amstore}
use Rattle.bytecode.specs.Instructions.{size_of, byte_at, instruction_of, whole, decode_at, target}
use Rattle.bytecode.specs.Outcome.{good}
use Rattle.bytecode.specs.Program.{Program, Function, Native}
use Rattle.heap.specs.Checked.{Heap}
use Rattle.plan.specs.Programs.{nth, function_at, variables_at, no_function}
use Rattle.plan.specs.Shapes.{Shape}
use Rattle.plan.specs.Effects.{effect, performed, call_static, call_native}
use Rattle.plan.specs.Plans.{Hits, Lands as Reaches, successors, shape_at}
use Rattle.plan.proofs.Starting.{size_positive}
use Rattle.checked.specs.Machine.{Value, word, reference, kind_of, Frame, frame, Conf, conf, Sizes, reserve}
use Rattle.checked.specs.Law.{Plans, Accepted}
use Rattle.checked.specs.Sound.{Fits, Callers, main, more, Sound}
use Rattle.checked.proofs.Stacking.{Kinded, words, refs, kinded_at, Replaced, replaced, from_pool, loads, stores, pops, doubles, swaps, pairs, gives_result}
use Rattle.checked.proofs.Sounding.{good_plan, is_function}
use Rattle.runtime.specs.Runtime.{State, slot}
use Rattle.runtime.specs.Relation.{flat, Represents, Represented}
use Rattle.runtime.proofs.Framing.{flat_length, stack_low, taken_slots}
use Rattle.runtime.proofs.Simulating.{one, two}
use Rattle.ready.specs.Ready.{Ready, Room, Lands, KnownIn, no_native, native_at, Safe, Fetched}

-- a whole instruction ends inside the code
pub whole_inside : (code : List ℕ) (p : ℕ) (i : Instruction) → decode_at code p ≡ Some i → p + size_of i ≤ length code
whole_inside code p i e = pick (instruction_of (byte_at code p) (byte_at code (p + 1)) (byte_at code (p + 2))) e
  where
    tested : (b : Bool) (j : Instruction) → leb (p + size_of j) (length code) ≡ b → cond b (Some j) None ≡ Some i → p + size_of i ≤ length code
    tested true j q e = let k : j ≡ i = cc in subst (λ i. p + size_of i ≤ length code) k (leb-true (p + size_of j) (length code) q)
    tested false j q e = cc

    pick : (o : Option Instruction) → whole code p o ≡ Some i → p + size_of i ≤ length code
    pick None e = cc
    pick (Some j) e = tested (leb (p + size_of j) (length code)) j refl e

module _ (P : Program) (plans : Plans) (ok : Accepted P plans) (sizes : Sizes) (f p : ℕ) (vs : List (Option Value)) (st : List Value)
    (rest : List Frame) (h : Heap) (l : State) (d : Fits P plans f p vs (map kind_of st)) (callers : Callers P plans f rest)
    (r : Represents P sizes f p vs st rest h l) where
  depth : length st ≡ length d.shape.stack
  depth = sym (length-map st kind_of) ∙ ap length (sym d.stack)

  low : length st ≤ 32
  low = let a = stack_low P plans ok f p vs (map kind_of st) d in let b = length-map st kind_of in omega arith

  -- the stack lies below the top
  deep : length st ≤ l.top
  deep = let a = flat_length f p vs st rest in let b = r.top in omega arith

  -- the slots suffice for a stack of 32
  enough : (length (flat rest) + length vs) + 32 ≤ length l.slots
  enough =
      let b = taken_slots P plans ok f rest callers in
      let c = ap reserve d.known in
      let e = d.sized in
      let g = r.roomy in
      let k = r.slot_count in
      omega arith

  room : length st < 32 → Room l
  room lt = let a = flat_length f p vs st rest in let b = r.top in let c = enough in omega arith

  room_for : (k : Kind) (x : Shape) → x.stack ≡ k ∷ d.shape.stack → length x.stack ≤ 32 → Room l
  room_for k x e le = room (let a = ap length e in let b = depth in omega arith)

  room_one : (k : Kind) (x : Shape) → Replaced [] (k ∷ []) d.shape x → Room l
  room_one k x e = room_for k x (let a = e.after in let b = e.before in cc) e.low

  variable : (i : ℕ) → i < variables_at P f → l.base + i < length l.slots
  variable i lt =
      let self = ap (λ g. g.variables) (is_function P plans ok f d.self d.known) in
      let a = enough in
      let b = r.base in
      let c = d.sized in
      omega arith

  lands : (x : Shape) (o : ℤ) → Hits x (shape_at (plans f) (target p o)) → Lands l o
  lands x o hit = subst (λ q. is_some (target q o) ≡ true) (sym r.place) (pick (target p o) hit)
    where
      pick : (t : Option ℕ) → Hits x (shape_at (plans f) t) → is_some t ≡ true
      pick None hit = absurd hit
      pick (Some to) hit = refl

  before : (ks : List Kind) → d.shape.stack ≡ ks → Kinded st ks
  before ks e = kinded_at st ks (sym d.stack ∙ e)

  -- a reference on top, below a value, and below a reference
  known_top : (ks : List Kind) → d.shape.stack ≡ Ref ∷ ks → (1 ≤ l.top) × KnownIn l (l.top - 1)
  known_top ks e = pick (before (Ref ∷ ks) e) r
    where
      pick : {st : List Value} {ks : List Kind} → Kinded st (Ref ∷ ks) → Represents P sizes f p vs st rest h l → (1 ≤ l.top) × KnownIn l (l.top - 1)
      pick (refs {r = a} {st = t} k) r =
          (let n = flat_length f p vs (reference a ∷ t) rest in let b = r.top in omega arith, (one P sizes f p vs rest h l P (reference a) t r).stood.1)

  known_below_word : (ks : List Kind) → d.shape.stack ≡ Word ∷ Ref ∷ ks → (2 ≤ l.top) × KnownIn l (l.top - 2)
  known_below_word ks e = pick (before (Word ∷ Ref ∷ ks) e) r
    where
      pick : {st : List Value} {ks : List Kind} → Kinded st (Word ∷ Ref ∷ ks) → Represents P sizes f p vs st rest h l → (2 ≤ l.top) × KnownIn l (l.top - 2)
      pick (words {n} (refs {r = a} {st = t} k)) r =
          (let m = flat_length f p vs (word n ∷ reference a ∷ t) rest in let b = r.top in omega arith, (two P sizes f p vs rest h l P (word n) (reference a) t r).first.1)

  known_both : (ks : List Kind) → d.shape.stack ≡ Ref ∷ Ref ∷ ks → (2 ≤ l.top) × KnownIn l (l.top - 2) × KnownIn l (l.top - 1)
  known_both ks e = pick (before (Ref ∷ Ref ∷ ks) e) r
    where
      pick : {st : List Value} {ks : List Kind} → Kinded st (Ref ∷ Ref ∷ ks) → Represents P sizes f p vs st rest h l
          → (2 ≤ l.top) × KnownIn l (l.top - 2) × KnownIn l (l.top - 1)
      pick (refs {r = b} (refs {r = a} {st = t} k)) r =
          let w = two P sizes f p vs rest h l P (reference b) (reference a) t r in
          (let m = flat_length f p vs (reference b ∷ reference a ∷ t) rest in let b = r.top in omega arith, w.first.1, w.second.1)

  calls : (c : ℕ) (x : Shape) (o : Option Function) → nth P.functions c ≡ o → performed f p (variables_at P f) d.shape (call_static o) ≡ good x
      → (c < length P.functions) × (length (function_at P c).signature.arguments ≤ l.top) × (variables_at P c ≤ 32)
  calls c x None known e = cc
  calls c x (Some g) known e =
      let y = replaced f p (variables_at P f) (reverse g.signature.arguments) (g.signature.result ∷ []) d.shape x e in
      let a = ap length y.before ∙ length-append (reverse g.signature.arguments) y.rest in
      let b = length-reverse g.signature.arguments in
      let n : length g.signature.arguments ≤ l.top = (let i = depth in let j = deep in omega arith) in
      let is : function_at P c ≡ g = get_or_from_slice_get P.functions c g no_function known in (
        slice_get_within P.functions c g known,
        subst (λ k. length k.signature.arguments ≤ l.top) (sym is) n,
        subst (λ k. k.variables ≤ 32) (sym is) (ok.formed.functions c g known).few,
      )

  natives : (c : ℕ) (x : Shape) (o : Option Native) → nth P.natives c ≡ o → performed f p (variables_at P f) d.shape (call_native o) ≡ good x
      → Safe P (Invokenative c) l
  natives c x None known e = cc
  natives c x (Some m) known e =
      let y = replaced f p (variables_at P f) (reverse m.signature.arguments) (m.signature.result ∷ []) d.shape x e in
      let a = ap length y.before ∙ length-append (reverse m.signature.arguments) y.rest in
      let b = length-reverse m.signature.arguments in
      let k = ap length y.after in
      let w = y.low in
      let is : native_at P c ≡ m = get_or_from_slice_get P.natives c m no_native known in
      let n : length m.signature.arguments ≤ l.top = (let i = depth in let j = deep in omega arith) in
      let q : l.top - length m.signature.arguments < length l.slots =
      (let i = depth in let j = flat_length f p vs st rest in let t = r.top in let u = enough in omega arith) in (
        slice_get_within P.natives c m known,
        subst (λ z. length z.signature.arguments ≤ l.top) (sym is) n,
        subst (λ z. l.top - length z.signature.arguments < length l.slots) (sym is) q,
      )

  -- the last return gives main's word
  last_word : d.shape.stack ≡ (function_at P f).signature.result ∷ [] → l.callers ≡ 0 → slot l (l.top - 1) < 2 ^ 32
  last_word e none = pick f rest callers (let a = r.callers in omega arith) refl
    where
      only : (st : List Value) → Kinded st (Word ∷ []) → Represents P sizes f p vs st rest h l → slot l (l.top - 1) < 2 ^ 32
      only st (words {n} {st = t} k) r = let a = (one P sizes f p vs rest h l P (word n) t r).stood in let b = a.0 in let c = a.1 in omega arith

      pick : (g : ℕ) (rs : List Frame) → Callers P plans g rs → length rs ≡ 0 → g ≡ f → slot l (l.top - 1) < 2 ^ 32
      pick g rs main z eq = only st (before (Word ∷ []) (e ∙ ap (λ k. (function_at P k).signature.result ∷ []) (sym eq) ∙ ap (λ k. k ∷ []) ok.word)) r
      pick g rs (more w ws) z eq = absurd (omega arith)

  returns : d.shape.stack ≡ (function_at P f).signature.result ∷ [] → Safe P Return l
  returns e =
      let a = ap length e in
      let b = enough in
      let c = r.base in
      let self = ap (λ g. g.variables) (is_function P plans ok f d.self d.known) in
      let k = ap reserve d.known in
      let v : variables_at P f + 32 ≤ l.reserved = (let m = r.reserves in omega arith) in (
        let i = depth in let j = deep in omega arith,
        omega arith,
        subst (λ g. g < length P.functions) (sym r.function) (slice_get_within P.functions f d.self d.known),
        subst (λ g. variables_at P g + 32 ≤ l.reserved) (sym r.function) v,
        last_word e,
      )

  safe : (i : Instruction) (x : Shape) → effect P f p i d.shape ≡ good x → Reaches x (plans f) (successors p i) → Safe P i l
  safe Nop x e w = tt
  safe Pop x e w = let y = pops f p (variables_at P f) d.shape x e in let a = ap length y.before in let b = depth in let c = deep in omega arith
  safe Dup x e w =
      let y = doubles f p (variables_at P f) d.shape x e in
      let a = ap length y.before in
      let n : 1 ≤ l.top = (let b = depth in let c = deep in omega arith) in
      (n, room_for y.kind x (let a = y.after in let b = y.before in cc) y.low)
  safe Swap x e w = let y = swaps f p (variables_at P f) d.shape x e in let a = ap length y.before in let b = depth in let c = deep in omega arith
  safe AconstNull x e w = room_one Ref x (replaced f p (variables_at P f) [] (Ref ∷ []) d.shape x e)
  safe (Aldc c) x e w = room_one Ref x (from_pool f p (variables_at P f) c (length P.strings) Ref d.shape x e).1
  safe (Bipush b) x e w = room_one Word x (replaced f p (variables_at P f) [] (Word ∷ []) d.shape x e)
  safe (Ildc c) x e w = let y = from_pool f p (variables_at P f) c (length P.integers) Word d.shape x e in (room_one Word x y.1, y.0)
  safe (Vload i) x e w =
      let y = loads f p (variables_at P f) i d.shape x e in
      (room_for y.kind x y.after y.low, variable i y.inside)
  safe (Vstore i) x e w =
      let y = stores f p (variables_at P f) i d.shape x e in
      let a = ap length y.before in
      let n : 1 ≤ l.top = (let b = depth in let c = deep in omega arith) in
      (n, variable i y.inside)
  safe (Binary op) x e w =
      let y = replaced f p (variables_at P f) (Word ∷ Word ∷ []) (Word ∷ []) d.shape x e in
      let a = ap length y.before in let b = depth in let c = deep in omega arith
  safe (IfCmpeq o) x e w =
      let y = pairs f p (variables_at P f) d.shape x e in
      let a = ap length y.before in
      let n : 2 ≤ l.top = (let b = depth in let c = deep in omega arith) in
      (n, lands x o w.1.0)
  safe (IfCmpne o) x e w =
      let y = pairs f p (variables_at P f) d.shape x e in
      let a = ap length y.before in
      let n : 2 ≤ l.top = (let b = depth in let c = deep in omega arith) in
      (n, lands x o w.1.0)
  safe (IfIcmp order o) x e w =
      let y = replaced f p (variables_at P f) (Word ∷ Word ∷ []) [] d.shape x e in
      let a = ap length y.before in
      let n : 2 ≤ l.top = (let b = depth in let c = deep in omega arith) in
      (n, lands x o w.1.0)
  safe (Goto o) x e w = lands x o w.0
  safe (Invokestatic c) x e w = calls c x (nth P.functions c) refl e
  safe (Invokenative c) x e w = natives c x (nth P.natives c) refl e
  safe Return x e w = returns (gives_result f p (variables_at P f) (function_at P f).signature.result d.shape x e)
  safe (New b) x e w = room_one Ref x (replaced f p (variables_at P f) [] (Ref ∷ []) d.shape x e)
  safe (Newarray b) x e w =
      let y = replaced f p (variables_at P f) (Word ∷ []) (Ref ∷ []) d.shape x e in
      let a = ap length y.before in let b = depth in let c = deep in omega arith
  safe Arraylength x e w = let y = replaced f p (variables_at P f) (Ref ∷ []) (Word ∷ []) d.shape x e in known_top y.rest y.before
  safe (Aaddf b) x e w = let y = replaced f p (variables_at P f) (Ref ∷ []) (Ref ∷ []) d.shape x e in known_top y.rest y.before
  safe Aadds x e w = let y = replaced f p (variables_at P f) (Word ∷ Ref ∷ []) (Ref ∷ []) d.shape x e in known_below_word y.rest y.before
  safe Imload x e w = let y = replaced f p (variables_at P f) (Ref ∷ []) (Word ∷ []) d.shape x e in known_top y.rest y.before
  safe Cmload x e w = let y = replaced f p (variables_at P f) (Ref ∷ []) (Word ∷ []) d.shape x e in known_top y.rest y.before
  safe Amload x e w = let y = replaced f p (variables_at P f) (Ref ∷ []) (Ref ∷ []) d.shape x e in known_top y.rest y.before
  safe Imstore x e w = let y = replaced f p (variables_at P f) (Word ∷ Ref ∷ []) [] d.shape x e in known_below_word y.rest y.before
  safe Cmstore x e w = let y = replaced f p (variables_at P f) (Word ∷ Ref ∷ []) [] d.shape x e in known_below_word y.rest y.before
  safe Amstore x e w = let y = replaced f p (variables_at P f) (Ref ∷ Ref ∷ []) [] d.shape x e in known_both y.rest y.before

pub fetched : (P : Program) (l : State) → Ready P l → Fetched P l
fetched P l o = at o.checked o.sound o.represented
  where
    plans : Plans
    plans = o.plans

    ok : Accepted P plans
    ok = o.accepted

    at : (c : Conf) → Sound P plans c → Represented P o.sizes c l → Fetched P l
    at (conf (frame f p vs st) rest h) (d, callers) r =
        let x = (good_plan P plans ok f d.self d.known).passes p d.shape d.planned in
        let self = is_function P plans ok f d.self d.known in
        let decoded : decode_at (function_at P l.function).code l.place ≡ Some x.instruction =
        subst (λ g. decode_at (function_at P g).code l.place ≡ Some x.instruction) (sym r.function)
        (ap (decode_at (function_at P f).code) r.place ∙ x.decoded) in
        let whole = whole_inside (function_at P l.function).code l.place x.instruction decoded in
        let some = size_positive x.instruction in
        let few : length (function_at P l.function).code ≤ 4096 =
        subst (λ g. length (function_at P g).code ≤ 4096) (sym r.function) (subst (λ g. length g.code ≤ 4096) (sym self) (o.short f d.self d.known)) in
        record {
          function = subst (λ g. g < length P.functions) (sym r.function) (slice_get_within P.functions f d.self d.known);
          instruction = x.instruction;
          decoded = decoded;
          inside = omega arith;
          whole = whole;
          short = few;
          bounds =
              record {
                few_slots = o.few_slots;
                few_frames = o.few_frames;
                place = omega arith;
                top = let a = flat_length f p vs st rest in let b = r.top in let c = taken_slots P plans ok f rest callers in let e = ap reserve d.known in
                    let g = d.sized in let k = r.reserves in let n = low P plans ok o.sizes f p vs st rest h l d callers r in omega arith;
                callers = let a = r.callers in let b = r.free in let c = r.frame_count in omega arith;
                reserved = let a = r.reserves in let b = r.roomy in let c = r.slot_count in omega arith;
                storage = r.heap.sound;
              };
          safe = safe P plans ok o.sizes f p vs st rest h l d callers r x.instruction x.result x.passed x.lands;
        }
