-- What a good plan says of one step: the instruction at a shaped place, what it finds and leaves, and the shapes after it.
use Rattle.std.proofs.Common.{◌≡◌, ℕ, ◌+◌, ◌<◌, ◌≤◌, Bool, true, false, cond, ltb, leb, List, [], ◌∷◌, ◌++◌, length, get_or, take, drop, set, Some, None, Option, sym, refl, ap, ◌∙◌, subst, true≢false, arith, take-append-drop, ltb-true, leb-true}
use Rattle.bytecode.specs.declared.kind.Kind.{Kind}
use Rattle.bytecode.specs.declared.kind.Kind.TheVariants.{Unknown, Word, Reference}
use Rattle.bytecode.specs.declared.instruction.Instruction.{Instruction}
use Rattle.bytecode.specs.Instructions.{instruction_of, byte_at, size_of, whole, decode_at, starts_of}
use Rattle.bytecode.specs.Outcome.{Fault, Out, bad, good}
use Rattle.bytecode.specs.Program.{Program}
use Rattle.plan.specs.Programs.{function_at, code_at, variables_at, Known, WellFormed}
use Rattle.plan.specs.Shapes.{Shape, Reach, eq_kind, eq_kinds}
use Rattle.plan.specs.Effects.{Act, fixed, load, store, pop, dup, swap, alike, give, act_of, check, room, replace, popped, doubled, swapped, compared, returned, loaded, stored, keeping, perform, performed, effect}
use Rattle.plan.specs.Plans.{Plan, marks_in, starts_at, Hits, entry_of, Good, Fullest}
use Rattle.plan.specs.Sweep.{Table, plan_of, judge}
use Rattle.plan.specs.Judgement.{Accepted, Says}
use Rattle.plan.proofs.Outcomes.{On, on_good}
use Rattle.plan.proofs.Reaching.{eq_kind-is, eq_kinds-is}
use Rattle.plan.proofs.Judging.{judged}

-- ## What an act finds and leaves

-- the act leads from the shape s to u, in a function of V variables
abbrev pub Leads : ℕ → Act → Shape → Shape → Type 0
Leads V (fixed taken left) s u =
    (rest : List Kind) × (s.stack ≡ taken ++ rest) × (u ≡ record { stack = left ++ rest; variables = s.variables }) × (length (left ++ rest) ≤ 32)
Leads V (load i) s u =
    (i < V) × Known (get_or s.variables i Unknown) ×
    (u ≡ record { stack = get_or s.variables i Unknown ∷ s.stack; variables = s.variables }) × (length s.stack < 32)
Leads V (store i) s u = (i < V) × ((k : Kind) × (st : List Kind) × (s.stack ≡ k ∷ st) × (u ≡ record { stack = st; variables = set s.variables i k }))
Leads V pop s u = (k : Kind) × (st : List Kind) × (s.stack ≡ k ∷ st) × (u ≡ record { stack = st; variables = s.variables })
Leads V dup s u =
    (k : Kind) × (st : List Kind) × (s.stack ≡ k ∷ st) × (u ≡ record { stack = k ∷ k ∷ st; variables = s.variables }) × (length s.stack < 32)
Leads V swap s u =
    (k : Kind) × (l : Kind) × (st : List Kind) × (s.stack ≡ k ∷ l ∷ st) × (u ≡ record { stack = l ∷ k ∷ st; variables = s.variables })
Leads V alike s u = (k : Kind) × (st : List Kind) × (s.stack ≡ k ∷ k ∷ st) × (u ≡ record { stack = st; variables = s.variables })
Leads V (give k) s u = (s.stack ≡ k ∷ []) × (u ≡ record { stack = []; variables = s.variables })

module _ (f p : ℕ) where
  -- a fact of the stack afterwards is one of the shape
  on_keeping : (vs : List Kind) (Q : List Kind → Type 0) (R : Shape → Type 0) (r : Out (List Kind))
      → ((st : List Kind) → Q st → R (record { stack = st; variables = vs })) → On (Unit {0}) Q r → On (Unit {0}) R (keeping f p vs r)
  on_keeping vs Q R (bad e) k h = tt
  on_keeping vs Q R (good st) k h = k st h

  on_check : {A : Type 0} (b : Bool) (e : Fault) (Q : A → Type 0) (r : Out A) → (b ≡ true → On (Unit {0}) Q r) → On (Unit {0}) Q (check b e r)
  on_check true e Q r h = h refl
  on_check false e Q r h = tt

  on_room : (st : List Kind) (Q : List Kind → Type 0) → (length st ≤ 32 → Q st) → On (Unit {0}) Q (room f p st)
  on_room st Q h = on_check (leb (length st) 32) (19, f, p) Q (good st) (λ e. h (leb-true _ _ e))

  leads_fixed : (taken left st : List Kind)
      → On (Unit {0}) (λ w. (rest : List Kind) × (st ≡ taken ++ rest) × (w ≡ left ++ rest) × (length (left ++ rest) ≤ 32)) (replace f p taken left st)
  leads_fixed taken left st =
      on_check (leb (length taken) (length st)) (18, f, p) Q (check (eq_kinds (take (length taken) st) taken) (20, f, p) (room f p (left ++ drop (length taken) st)))
      (λ a. on_check (eq_kinds (take (length taken) st) taken) (20, f, p) Q (room f p (left ++ drop (length taken) st))
      (λ b. on_room (left ++ drop (length taken) st) Q
      (λ l.
      let e : take (length taken) st ≡ taken = eq_kinds-is _ _ b in
      (drop (length taken) st, sym (take-append-drop (length taken) st) ∙ ap (λ ks. ks ++ drop (length taken) st) e, refl, l))))
    where
      Q : List Kind → Type 0
      Q w = (rest : List Kind) × (st ≡ taken ++ rest) × (w ≡ left ++ rest) × (length (left ++ rest) ≤ 32)

  leads_load : (k : Kind) (st : List Kind) → On (Unit {0}) (λ w. Known k × (w ≡ k ∷ st) × (length st < 32)) (loaded f p k st)
  leads_load Unknown st = tt
  leads_load Word st = on_room (Word ∷ st) (λ w. Known Word × (w ≡ Word ∷ st) × (length st < 32)) (λ l. (tt, refl, omega (arith, l)))
  leads_load Reference st = on_room (Reference ∷ st) (λ w. Known Reference × (w ≡ Reference ∷ st) × (length st < 32)) (λ l. (tt, refl, omega (arith, l)))

  shape_with : (vs : List Kind) (a b : List Kind) → a ≡ b → ◌≡◌ {A = Shape} (record { stack = a; variables = vs }) (record { stack = b; variables = vs })
  shape_with vs a b e = λ i. record { stack = e i; variables = vs }

  performs : (V : ℕ) (a : Act) (s : Shape) → On (Unit {0}) (Leads V a s) (perform f p V a s)
  unfolding perform
  performs V (fixed taken left) s =
      on_keeping s.variables _ (Leads V (fixed taken left) s) (replace f p taken left s.stack)
      (λ st h. (h.0, h.1, shape_with s.variables _ _ h.2, h.3)) (leads_fixed taken left s.stack)
  performs V (load i) s =
      on_check (ltb i V) (21, f, p) (Leads V (load i) s) (keeping f p s.variables (loaded f p (get_or s.variables i Unknown) s.stack))
      (λ l. on_keeping s.variables _ (Leads V (load i) s) (loaded f p (get_or s.variables i Unknown) s.stack)
      (λ st h. (ltb-true _ _ l, h.0, shape_with s.variables _ _ h.1, h.2)) (leads_load (get_or s.variables i Unknown) s.stack))
  performs V (store i) s =
      on_check (ltb i V) (21, f, p) (Leads V (store i) s) (stored f p i s.variables s.stack) (λ l. go s.stack refl (ltb-true _ _ l))
    where
      go : (st : List Kind) → s.stack ≡ st → i < V → On (Unit {0}) (Leads V (store i) s) (stored f p i s.variables st)
      go [] e l = tt
      go (k ∷ st) e l = (l, (k, st, e, refl))
  performs V pop s = go s.stack refl
    where
      go : (st : List Kind) → s.stack ≡ st → On (Unit {0}) (Leads V pop s) (keeping f p s.variables (popped f p st))
      go [] e = tt
      go (k ∷ st) e = (k, st, e, refl)
  performs V dup s = go s.stack refl
    where
      go : (st : List Kind) → s.stack ≡ st → On (Unit {0}) (Leads V dup s) (keeping f p s.variables (doubled f p st))
      go [] e = tt
      go (k ∷ st) e =
          on_keeping s.variables (λ w. (w ≡ k ∷ k ∷ st) × (length (k ∷ k ∷ st) ≤ 32)) (Leads V dup s) (room f p (k ∷ k ∷ st))
          (λ w h. (k, st, e, shape_with s.variables _ _ h.0, omega (arith, h.1, ap length e)))
          (on_room (k ∷ k ∷ st) (λ w. (w ≡ k ∷ k ∷ st) × (length (k ∷ k ∷ st) ≤ 32)) (λ l. (refl, l)))
  performs V swap s = go s.stack refl
    where
      go : (st : List Kind) → s.stack ≡ st → On (Unit {0}) (Leads V swap s) (keeping f p s.variables (swapped f p st))
      go [] e = tt
      go (k ∷ []) e = tt
      go (k ∷ l ∷ st) e = (k, l, st, e, refl)
  performs V alike s = go s.stack refl
    where
      go : (st : List Kind) → s.stack ≡ st → On (Unit {0}) (Leads V alike s) (keeping f p s.variables (compared f p st))
      go [] e = tt
      go (k ∷ []) e = tt
      go (k ∷ l ∷ st) e =
          on_keeping s.variables (λ w. (l ≡ k) × (w ≡ st)) (Leads V alike s) (check (eq_kind k l) (20, f, p) (good st))
          (λ w h. (k, st, e ∙ ap (λ m. k ∷ m ∷ st) h.0, shape_with s.variables _ _ h.1))
          (on_check (eq_kind k l) (20, f, p) (λ w. (l ≡ k) × (w ≡ st)) (good st) (λ b. (sym (eq_kind-is k l b), refl)))
  performs V (give k) s = go s.stack refl
    where
      go : (st : List Kind) → s.stack ≡ st → On (Unit {0}) (Leads V (give k) s) (keeping f p s.variables (returned f p k st))
      go [] e = tt
      go (l ∷ []) e =
          on_keeping s.variables (λ w. (l ≡ k) × (w ≡ [])) (Leads V (give k) s) (check (eq_kind l k) (20, f, p) (good []))
          (λ w h. (e ∙ ap (λ m. m ∷ []) h.0, shape_with s.variables _ _ h.1))
          (on_check (eq_kind l k) (20, f, p) (λ w. (l ≡ k) × (w ≡ [])) (good []) (λ b. (eq_kind-is l k b, refl)))
      go (l ∷ m ∷ st) e = tt

  pub perform_leads : (V : ℕ) (a : Act) (s u : Shape) → perform f p V a s ≡ good u → Leads V a s u
  perform_leads V a s u e = on_good (Unit {0}) (Leads V a s) (perform f p V a s) u e (performs V a s)

-- an instruction that passes its checks has an act, which leads to its result
pub effect_leads : (P : Program) (f p : ℕ) (i : Instruction) (s u : Shape) → effect P f p i s ≡ good u
    → (a : Act) × (act_of P (function_at P f) i ≡ Some a) × Leads (variables_at P f) a s u
effect_leads P f p i s u e = go (act_of P (function_at P f) i) refl e
  where
    go : (o : Option Act) → act_of P (function_at P f) i ≡ o → performed f p (variables_at P f) s o ≡ good u
        → (a : Act) × (act_of P (function_at P f) i ≡ Some a) × Leads (variables_at P f) a s u
    go None d h = absurd (true≢false (cc))
    go (Some a) d h = (a, d, perform_leads f p (variables_at P f) a s u h)

-- ## One step of a good plan

-- a place that is reached has a shape
pub hits_shape : (x : Shape) (d : Option Shape) → Hits x d → (t : Shape) × (d ≡ Some t) × Reach x t
hits_shape x None h = absurd h
hits_shape x (Some t) h = (t, refl, h)

module _ (P : Program) (f : ℕ) (plan : Plan) (ok : Good P f plan) where
  -- the entry has a shape
  pub good_entry : (t : Shape) × (plan 0 ≡ Some t) × Reach (entry_of (function_at P f)) t
  good_entry = hits_shape (entry_of (function_at P f)) (plan 0) ok.begins

  -- the code of a function with a good plan can be decoded
  pub good_decodes : (marks : List Bool) × (starts_of f (code_at P f) ≡ good marks)
  good_decodes = go (starts_of f (code_at P f)) refl
    where
      go : (o : Out (List Bool)) → starts_of f (code_at P f) ≡ o → (marks : List Bool) × (starts_of f (code_at P f) ≡ good marks)
      go (good marks) e = (marks, e)
      go (bad x) e =
          let t = good_entry in
          let a : get_or (starts_at P f) 0 false ≡ true = ok.starts 0 t.0 t.1 in
          absurd (true≢false (sym a ∙ ap (λ r. get_or (marks_in r) 0 false) e))

  -- at a shaped place: the act of its instruction, which leads to the result that reaches every place after it
  pub good_act : (p : ℕ) (s : Shape) (e : plan p ≡ Some s)
      → (a : Act) × (act_of P (function_at P f) (ok.passes p s e).instruction ≡ Some a) × Leads (variables_at P f) a s (ok.passes p s e).result
  good_act p s e = let h = ok.passes p s e in effect_leads P f p h.instruction s h.result h.passed

-- an instruction lies in its code
pub decoded_inside : (code : List ℕ) (p : ℕ) (i : Instruction) → decode_at code p ≡ Some i → p + size_of i ≤ length code
decoded_inside code p i e = go (instruction_of (byte_at code p) (byte_at code (p + 1)) (byte_at code (p + 2))) e
  where
    fits : (j : Instruction) (b : Bool) → leb (p + size_of j) (length code) ≡ b → cond b (Some j) None ≡ Some i → p + size_of i ≤ length code
    fits j true l d = let g : j ≡ i = cc in omega (arith, leb-true (p + size_of j) (length code) l, ap size_of g)
    fits j false l d = absurd (true≢false (cc))

    go : (o : Option Instruction) → whole code p o ≡ Some i → p + size_of i ≤ length code
    go None d = absurd (true≢false (cc))
    go (Some j) d = fits j (leb (p + size_of j) (length code)) refl d

-- ## From the judgement

module _ (P : Program) (formed : WellFormed P) (tables : List Table) (takes : ℕ) (e : judge P ≡ good (tables, takes)) where
  pub judge_accepted : Accepted P tables takes
  judge_accepted = subst (Says P) e (judged P formed).says

  pub judge_fullest : (f : ℕ) → f < length P.functions → Fullest P f (plan_of (get_or tables f []))
  judge_fullest f l = (judge_accepted.settled f l).fullest

  pub judge_good : (f : ℕ) → f < length P.functions → Good P f (plan_of (get_or tables f []))
  judge_good f l = (judge_fullest f l).sound
