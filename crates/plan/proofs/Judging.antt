-- The judgement of a program: accepted if and only if every function has a good plan, and then its tables are the fullest plans.
use Rattle.std.proofs.Common.{◌≡◌, ℕ, zero, suc, ◌+◌, ◌-◌, ◌*◌, ◌<◌, ◌≤◌, Bool, true, false, ◌⊎◌, List, [], ◌∷◌, ◌++◌, length, get_or, replicate, Some, None, Option, sym, refl, ap, ◌∙◌, subst, inl, inr, true≢false, mul-le-mul_left, arith, length-append}
use lib.ListN.{length-replicate}
use Rattle.bytecode.specs.declared.kind.Kind.{Kind}
use Rattle.bytecode.specs.declared.kind.Kind.TheVariants.{Unknown}
use Rattle.bytecode.specs.Instructions.{starts_of}
use Rattle.bytecode.specs.Outcome.{Fault, Out, bad, good, bind}
use Rattle.bytecode.specs.Program.{Function, Program}
use Rattle.plan.specs.Programs.{nth, no_function, function_at, code_at, variables_at, FormedFunction, WellFormed}
use Rattle.plan.specs.Shapes.{Shape, Sized}
use Rattle.plan.specs.Starts.{Marked}
use Rattle.plan.specs.Plans.{marks_in, starts_at, Hits, entry_of, Fullest}
use Rattle.plan.specs.Sweep.{Table, plan_of, count_true, Answer, most, sweep_marks, sweep_function, decode_from, decode_all, Judgement, after, sweep_from, sweep_all, judge}
use Rattle.plan.specs.Judgement.{Settled, Planless, Swept, most_from, most_takes, Accepted, Decodes, Answers, Refused, Says, Judged, TakesSuffice, StartsStand, bytes_from, TakesWithin}
use Rattle.plan.proofs.Outcomes.{On, on_good, good_bad}
use Rattle.plan.proofs.Acting.{formed_known}
use Rattle.plan.proofs.Starting.{starts_marked}
use Rattle.plan.proofs.Placing.{InFunction, starts_in_function, sweep_in_function}
use Rattle.plan.proofs.Sweeping.{Finished, sweep_fuel, sweep_fullest}

-- ## The entry shape

past_append : (ks : List Kind) (n i : ℕ) → length ks ≤ i → get_or (ks ++ replicate n Unknown) i Unknown ≡ Unknown
past_append [] zero i h = refl
past_append [] (suc n) zero h = refl
past_append [] (suc n) (suc i) h = past_append [] n i (omega arith)
past_append (k ∷ ks) n zero h = absurd (omega arith)
past_append (k ∷ ks) n (suc i) h = past_append ks n i (omega arith)

pub entry_sized : (g : Function) → FormedFunction g → Sized g.variables (entry_of g)
entry_sized g h =
    record {
      low = omega arith;
      kinds = tt;
      long =
          length-append g.signature.arguments (replicate (32 - length g.signature.arguments) Unknown) ∙
          (omega (arith, length-replicate (32 - length g.signature.arguments) Unknown, h.counted, h.few));
      unused = λ i l. past_append g.signature.arguments (32 - length g.signature.arguments) i (omega (arith, h.counted, l));
    }

no_function_formed : FormedFunction no_function
no_function_formed = record { signature = record { arguments = tt; result = tt }; counted = omega arith; few = omega arith }

-- the function of a number is in the pool, or none
pub function_nth : (gs : List Function) (f : ℕ) → (nth gs f ≡ Some (get_or gs f no_function)) ⊎ (get_or gs f no_function ≡ no_function)
function_nth [] f = inr refl
function_nth (g ∷ gs) zero = inl refl
function_nth (g ∷ gs) (suc f) = function_nth gs f

pub formed_at : (P : Program) → WellFormed P → (f : ℕ) → FormedFunction (function_at P f)
formed_at P formed f = go (function_nth P.functions f)
  where
    go : (nth P.functions f ≡ Some (function_at P f)) ⊎ (function_at P f ≡ no_function) → FormedFunction (function_at P f)
    go (inl e) = formed.functions f (function_at P f) e
    go (inr e) = subst FormedFunction (sym e) no_function_formed

-- ## One function

undecoded_planless : (P : Program) (f : ℕ) (e : Fault) → starts_of f (code_at P f) ≡ bad e → Planless P f
undecoded_planless P f e h plan ok = go (plan 0) refl ok.begins
  where
    go : (d : Option Shape) → plan 0 ≡ d → Hits (entry_of (function_at P f)) d → ⊥
    go None d g = g
    go (Some s) d g =
        let a : get_or (starts_at P f) 0 false ≡ true = ok.starts 0 s d in
        true≢false (sym a ∙ ap (λ r. get_or (marks_in r) 0 false) h)

pub sweep_swept : (P : Program) → WellFormed P → (f : ℕ) → Swept P f (sweep_function P f)
unfolding sweep_function
sweep_swept P formed f = go (starts_of f (code_at P f)) refl (starts_marked (code_at P f) f)
  where
    swept : (marks : List Bool) → starts_at P f ≡ marks → Marked (code_at P f) marks → (r : Answer)
        → On (Planless P f) (λ r. Fullest P f (plan_of r.0) × Finished marks r.0 × (r.1 ≤ most P f marks)) r → Swept P f r
    swept marks e m (bad x) h = h
    swept marks e m (good r) h = (
      record { fullest = h.0; unmarked = h.1.unmarked; size = h.1.size ∙ m.size },
      subst (λ ms. r.1 ≤ most P f ms) (sym e) h.2,
    )

    go : (o : Out (List Bool)) → starts_of f (code_at P f) ≡ o → On (Unit {0}) (Marked (code_at P f)) o → Swept P f (bind o (sweep_marks P f))
    go (bad x) e m = undecoded_planless P f x e
    go (good marks) e m =
        let there : starts_at P f ≡ marks = ap marks_in e in
        swept marks there m (sweep_marks P f marks) (sweep_fullest P (formed_known P formed) f marks there (entry_sized (function_at P f) (formed_at P formed f)))

-- ## Functions in order

abbrev GivesAt : {A : Type 0} → (ℕ → Out A) → ℕ → Type 0
GivesAt {A} act f = (a : A) × (act f ≡ good a)

-- the first fault of a row of checks
record FirstBad {A : Type 0} (act : ℕ → Out A) (n f : ℕ) (e : Fault) : Type 0 where
  index : ℕ
  inside : index < n
  fault : act (f + index) ≡ bad e
  before : (g : ℕ) → g < index → GivesAt act (f + g)

each_more : (Q : ℕ → Type 0) (n f : ℕ) → Q f → ((i : ℕ) → i < n → Q (suc f + i)) → (i : ℕ) → i < suc n → Q (f + i)
each_more Q n f h k zero l = let e : f ≡ f + 0 = omega arith in subst Q e h
each_more Q n f h k (suc i) l = let e : suc f + i ≡ f + suc i = omega arith in subst Q e (k i (omega arith))

module _ {A B : Type 0} (act : ℕ → Out A) (join : A → B → B) (seq : ℕ → ℕ → Out B) (nil : B)
    (none : (f : ℕ) → seq zero f ≡ good nil)
    (more : (n f : ℕ) → seq (suc n) f ≡ bind (act f) (λ a. bind (seq n (suc f)) (λ b. good (join a b)))) where
  fault_same : (x e : Fault) → ◌≡◌ {A = Out B} (bad x) (bad e) → x ≡ e
  fault_same x e h = cc

  first_bad : (n f : ℕ) (e : Fault) → seq n f ≡ bad e → FirstBad act n f e
  first_bad zero f e h = absurd (good_bad nil e (sym (none f) ∙ h))
  first_bad (suc n) f e h = go (act f) refl (seq n (suc f)) refl (sym (more n f) ∙ h) (first_bad n (suc f))
    where
      go : (r : Out A) → act f ≡ r → (s : Out B) → seq n (suc f) ≡ s → bind r (λ a. bind (seq n (suc f)) (λ b. good (join a b))) ≡ bad e
          → ((e : Fault) → seq n (suc f) ≡ bad e → FirstBad act n (suc f) e) → FirstBad act (suc n) f e
      go (bad x) d s i h ih =
          let z : f ≡ f + 0 = omega arith in
          let q : x ≡ e = fault_same x e h in
          record { index = 0; inside = omega arith; fault = subst (λ m. act m ≡ bad e) z (d ∙ ap bad q); before = λ g l. absurd (omega arith) }
      go (good a) d (good b) i h ih =
          absurd (good_bad (join a b) e (sym (ap (λ o. bind o (λ b. good (join a b))) i) ∙ h))
      go (good a) d (bad x) i h ih =
          let k = ih e (i ∙ ap bad (fault_same x e (sym (ap (λ o. bind o (λ b. good (join a b))) i) ∙ h))) in
          record {
            index = suc k.index;
            inside = omega (arith, k.inside);
            fault = (let z : suc f + k.index ≡ f + suc k.index = omega arith in subst (λ m. act m ≡ bad e) z k.fault);
            before = each_more (GivesAt act) k.index f (a, d) k.before;
          }

  all_good : (n f : ℕ) (b : B) → seq n f ≡ good b → (g : ℕ) → g < n → GivesAt act (f + g)
  all_good zero f b h = λ g l. absurd (omega arith)
  all_good (suc n) f b h = go (act f) refl (seq n (suc f)) refl (sym (more n f) ∙ h) (all_good n (suc f))
    where
      go : (r : Out A) → act f ≡ r → (s : Out B) → seq n (suc f) ≡ s → bind r (λ a. bind (seq n (suc f)) (λ b. good (join a b))) ≡ good b
          → ((b : B) → seq n (suc f) ≡ good b → (g : ℕ) → g < n → GivesAt act (suc f + g)) → (g : ℕ) → g < suc n → GivesAt act (f + g)
      go (bad x) d s i h ih = absurd (good_bad b x (sym h))
      go (good a) d (bad x) i h ih = absurd (good_bad b x (sym h ∙ ap (λ o. bind o (λ b. good (join a b))) i))
      go (good a) d (good c) i h ih = each_more (GivesAt act) n f (a, d) (ih c i)

module _ (P : Program) where
  abbrev decoding : ℕ → Out (List Bool)
  decoding f = starts_of f (code_at P f)

  abbrev joined : Table × ℕ → List Table × ℕ → List Table × ℕ
  joined r s = (r.0 ∷ s.0, r.1 + s.1)

  decode_none : (f : ℕ) → decode_from P zero f ≡ good []
  unfolding decode_from
  decode_none f = refl

  decode_more : (n f : ℕ) → decode_from P (suc n) f ≡ bind (decoding f) (λ a. bind (decode_from P n (suc f)) (λ b. good (a ∷ b)))
  unfolding decode_from
  decode_more n f = refl

  sweep_none : (f : ℕ) → sweep_from P zero f ≡ good ([], 0)
  unfolding sweep_from
  sweep_none f = refl

  sweep_more : (n f : ℕ) → sweep_from P (suc n) f ≡ bind (sweep_function P f) (λ a. bind (sweep_from P n (suc f)) (λ b. good (joined a b)))
  unfolding sweep_from
  sweep_more n f = refl

  -- ## Tables in order

  -- the tables of functions from number f on
  abbrev AllSettled : ℕ → List Table → Type 0
  AllSettled f [] = Unit {0}
  AllSettled f (T ∷ Ts) = Settled P f T × AllSettled (suc f) Ts

  settled_at : (f : ℕ) (Ts : List Table) → AllSettled f Ts → (i : ℕ) → i < length Ts → Settled P (f + i) (get_or Ts i [])
  settled_at f [] h i l = absurd (omega arith)
  settled_at f (T ∷ Ts) h zero l = let e : f ≡ f + 0 = omega arith in subst (λ g. Settled P g T) e h.0
  settled_at f (T ∷ Ts) h (suc i) l =
      let e : suc f + i ≡ f + suc i = omega arith in
      subst (λ g. Settled P g (get_or Ts i [])) e (settled_at (suc f) Ts h.1 i (omega arith))

  module _ (formed : WellFormed P) where
    sweep_from_lem : (n f : ℕ) → On (Unit {0}) (λ r. (length r.0 ≡ n) × AllSettled f r.0 × (r.1 ≤ most_from P n f)) (sweep_from P n f)
    unfolding sweep_from
    sweep_from_lem zero f = (refl, tt, omega arith)
    sweep_from_lem (suc n) f = go (sweep_function P f) (sweep_swept P formed f) (sweep_from P n (suc f)) (sweep_from_lem n (suc f))
      where
        go : (r : Answer) → Swept P f r → (s : Judgement) → On (Unit {0}) (λ r. (length r.0 ≡ n) × AllSettled (suc f) r.0 × (r.1 ≤ most_from P n (suc f))) s
            → On (Unit {0}) (λ r. (length r.0 ≡ suc n) × AllSettled f r.0 × (r.1 ≤ most_from P (suc n) f)) (bind r (λ r. after r s))
        go (bad x) w s h = tt
        go (good r) w (bad x) h = tt
        go (good r) w (good q) h = (omega (arith, h.0), (w.0, h.1), omega (arith, w.1, h.2))

    accepted : (r : List Table × ℕ) → sweep_all P ≡ good r → Accepted P r.0 r.1
    accepted r e =
        let h = on_good (Unit {0}) (λ r. (length r.0 ≡ length P.functions) × AllSettled 0 r.0 × (r.1 ≤ most_takes P)) (sweep_all P) r e
        (sweep_from_lem (length P.functions) 0) in
        record {
          count = h.0;
          settled = λ f l.
              let z : 0 + f ≡ f = omega arith in
              subst (λ g. Settled P g (get_or r.0 f [])) z (settled_at 0 r.0 h.1 f (omega (arith, h.0)));
          few = h.2;
        }

    planless : (f : ℕ) (e : Fault) → sweep_function P f ≡ bad e → Planless P f
    planless f e h = subst (Swept P f) h (sweep_swept P formed f)

    from_zero : (Q : ℕ → Type 0) (n : ℕ) → ((i : ℕ) → i < n → Q (0 + i)) → (i : ℕ) → i < n → Q i
    from_zero Q n h i l = let z : 0 + i ≡ i = omega arith in subst Q z (h i l)

    undecoded : (e : Fault) → decode_all P ≡ bad e → Refused P e
    undecoded e h =
        let k = first_bad decoding (λ a b. a ∷ b) (decode_from P) [] decode_none decode_more (length P.functions) 0 e h in
        let z : 0 + k.index ≡ k.index = omega arith in
        let d : starts_of k.index (code_at P k.index) ≡ bad e = subst (λ f. starts_of f (code_at P f) ≡ bad e) z k.fault in
        record {
          function = k.index;
          named = subst (InFunction k.index) d (starts_in_function k.index (code_at P k.index));
          inside = k.inside;
          first = inl (record { fault = d; before = from_zero (Decodes P) k.index k.before });
          planless = undecoded_planless P k.index e d;
        }

    faulty : (starts : List (List Bool)) → decode_all P ≡ good starts → (e : Fault) → sweep_all P ≡ bad e → Refused P e
    faulty starts s e h =
        let k = first_bad (sweep_function P) joined (sweep_from P) ([], 0) sweep_none sweep_more (length P.functions) 0 e h in
        let z : 0 + k.index ≡ k.index = omega arith in
        let d : sweep_function P k.index ≡ bad e = subst (λ f. sweep_function P f ≡ bad e) z k.fault in
        record {
          function = k.index;
          named = subst (InFunction k.index) d (sweep_in_function k.index P);
          inside = k.inside;
          first = inr
              (record {
                decoded =
                    from_zero (Decodes P) (length P.functions)
                    (all_good decoding (λ a b. a ∷ b) (decode_from P) [] decode_none decode_more (length P.functions) 0 starts s);
                fault = d;
                before = from_zero (Answers P) k.index k.before;
              });
          planless = planless k.index e d;
        }

    says : Says P (judge P)
    unfolding judge
    says = go (decode_all P) refl (sweep_all P) refl
      where
        go : (o : Out (List (List Bool))) → decode_all P ≡ o → (s : Judgement) → sweep_all P ≡ s → Says P (bind o (λ starts. s))
        go (bad e) d s h = undecoded e d
        go (good starts) d (bad e) h = faulty starts d e h
        go (good starts) d (good r) h = accepted r h

    pub judged : Judged P (judge P)
    judged = go (judge P) says
      where
        go : (o : Judgement) → Says P o → Judged P o
        go (bad e) h =
            record {
              says = h;
              accepts = λ all. let k = all h.function h.inside in h.planless k.0 k.1;
              planned = λ n. absurd n;
            }
        go (good r) h =
            record {
              says = h;
              accepts = λ all. tt;
              planned = λ y f l. (plan_of (get_or r.0 f []), (h.settled f l).fullest.sound);
            }

-- ## Takes

pub takes_suffice : TakesSuffice
takes_suffice P formed f marks e k l =
    sweep_fuel P (formed_known P formed) f marks (ap marks_in e) (entry_sized (function_at P f) (formed_at P formed f)) k l

pub starts_stand : StartsStand
starts_stand f code marks e = on_good (Unit {0}) (Marked code) (starts_of f code) marks e (starts_marked code f)

count_le : (bs : List Bool) → count_true bs ≤ length bs
count_le [] = omega arith
count_le (true ∷ bs) = let ih = count_le bs in omega arith
count_le (false ∷ bs) = let ih = count_le bs in omega arith

starts_few : (P : Program) (f : ℕ) → count_true (starts_at P f) ≤ length (code_at P f)
starts_few P f = go (starts_of f (code_at P f)) (starts_marked (code_at P f) f)
  where
    go : (o : Out (List Bool)) → On (Unit {0}) (Marked (code_at P f)) o → count_true (marks_in o) ≤ length (code_at P f)
    go (bad e) h = omega arith
    go (good marks) h = omega (arith, count_le marks, h.size)

-- a function has at most 33 takes for each byte of its code
pub most_bytes : (P : Program) → WellFormed P → (f : ℕ) → most P f (starts_at P f) ≤ 33 * length (code_at P f)
most_bytes P formed f =
    let a : variables_at P f + 1 ≤ 33 = omega (arith, (formed_at P formed f).few) in
    let b = mul-le-mul_left (count_true (starts_at P f)) a in
    omega (arith, starts_few P f, b)

pub most_from_bytes : (P : Program) → WellFormed P → (n f : ℕ) → most_from P n f ≤ 33 * bytes_from P n f
most_from_bytes P formed zero f = omega arith
most_from_bytes P formed (suc n) f = let ih = most_from_bytes P formed n (suc f) in omega (arith, most_bytes P formed f)

pub takes_within : (k : ℕ) → 135168 ≤ k → TakesWithin k
takes_within k l P formed h = omega (arith, most_from_bytes P formed (length P.functions) 0)

-- ## The parts of the judgement

pub sweep_decoded : (P : Program) (f : ℕ) (marks : List Bool) → starts_of f (code_at P f) ≡ good marks → sweep_function P f ≡ sweep_marks P f marks
unfolding sweep_function
sweep_decoded P f marks e = ap (λ o. bind o (sweep_marks P f)) e

pub judge_decoded : (P : Program) (starts : List (List Bool)) → decode_all P ≡ good starts → judge P ≡ sweep_all P
unfolding judge
judge_decoded P starts e = ap (λ o. bind o (λ s. sweep_all P)) e

pub judge_undecoded : (P : Program) (e : Fault) → decode_all P ≡ bad e → judge P ≡ bad e
unfolding judge
judge_undecoded P e d = ap (λ o. bind o (λ s. sweep_all P)) d
