-- What an instruction does keeps the order of shapes, and their sizes.
use Rattle.std.proofs.Common.{◌≡◌, ℕ, zero, suc, ◌≤◌, Bool, true, false, cond, ltb, leb, ◌≢◌, List, [], ◌∷◌, ◌++◌, length, get_or, take, drop, set, Some, None, Option, refl, ◌∙◌, subst, inl, inr, arith, length-set, get_or-set_other, ltb-true, leb-true}
use Rattle.bytecode.specs.declared.kind.Kind.{Kind}
use Rattle.bytecode.specs.declared.kind.Kind.TheVariants.{Unknown, Word, Reference}
use Rattle.bytecode.specs.declared.instruction.Instruction.{Instruction}
use Rattle.bytecode.specs.declared.instruction.Instruction.TheVariants.{Nop, Pop, Dup, Swap, AconstNull, Aldc, Bipush, Ildc, Vload, Vstore, Binary, IfCmpeq, IfCmpne, IfIcmp, Goto, Invokestatic, Invokenative, Return, New, Newarray, Arraylength, Aaddf, Aadds, Imload, Cmload, Amload, Imstore, Cmstore, Amstore}
use Rattle.bytecode.specs.Outcome.{Fault, Out, bad, good}
use Rattle.bytecode.specs.Program.{Function, Native, Program}
use Rattle.plan.specs.Programs.{nth, function_at, variables_at, AllKnown, KnownSignatures, WellFormed}
use Rattle.plan.specs.Shapes.{Shape, Reach, Alike, Sized, eq_kind, eq_kinds}
use Rattle.plan.specs.Effects.{Act, fixed, load, store, pop, dup, swap, alike, give, within, call_static, call_native, act_of, check, room, replace, popped, doubled, swapped, compared, returned, loaded, stored, keeping, perform, performed, effect}
use Rattle.plan.proofs.Outcomes.{On}
pub use Rattle.plan.specs.Effects.{LeavesKnown}

-- ## The order: what the finer shape gives is good, and reaches what the coarser one gives

abbrev pub Finer : Out Shape → Out Shape → Type 0
Finer r (bad e) = Unit {0}
Finer (bad e) (good u) = ⊥
Finer (good s) (good u) = Reach s u

abbrev Variables : List Kind → List Kind → Type 0
Variables vs ws = (length vs ≡ length ws) × ((i : ℕ) → Alike (get_or vs i Unknown) (get_or ws i Unknown))

finer_check : (b : Bool) (e : Fault) (r q : Out Shape) → Finer r q → Finer (check b e r) (check b e q)
finer_check true e r q h = h
finer_check false e r q h = tt

variables_set : (vs ws : List Kind) → Variables vs ws → (i : ℕ) (k : Kind) (j : ℕ) → Alike (get_or (set vs i k) j Unknown) (get_or (set ws i k) j Unknown)
variables_set [] [] h i k j = h.1 j
variables_set [] (w ∷ ws) h i k j = absurd (omega (arith, h.0))
variables_set (v ∷ vs) [] h i k j = absurd (omega (arith, h.0))
variables_set (v ∷ vs) (w ∷ ws) h zero k zero = inr refl
variables_set (v ∷ vs) (w ∷ ws) h zero k (suc j) = h.1 (suc j)
variables_set (v ∷ vs) (w ∷ ws) h (suc i) k zero = h.1 zero
variables_set (v ∷ vs) (w ∷ ws) h (suc i) k (suc j) = variables_set vs ws (omega (arith, h.0), λ n. h.1 (suc n)) i k j

module _ (f p : ℕ) where
  -- only the stack matters
  finer_keeping : (vs ws : List Kind) (r : Out (List Kind)) → Variables vs ws → Finer (keeping f p vs r) (keeping f p ws r)
  finer_keeping vs ws (bad e) h = tt
  finer_keeping vs ws (good st) h = record { stack = refl; size = h.0; variables = h.1 }

  finer_load : (st vs ws : List Kind) → Variables vs ws → (k l : Kind) → Alike k l
      → Finer (keeping f p vs (loaded f p k st)) (keeping f p ws (loaded f p l st))
  finer_load st vs ws h k l (inl e) = rw e tt
  finer_load st vs ws h k l (inr e) = rw e (finer_keeping vs ws (loaded f p k st) h)

  finer_store : (st vs ws : List Kind) → Variables vs ws → (i : ℕ) → Finer (stored f p i vs st) (stored f p i ws st)
  finer_store [] vs ws h i = tt
  finer_store (k ∷ st) vs ws h i = record { stack = refl; size = simp length-set h.0; variables = variables_set vs ws h i k }

  -- the stacks are one and the same
  finer_acts : (V : ℕ) (a : Act) (st vs ws : List Kind) → Variables vs ws
      → Finer (perform f p V a (record { stack = st; variables = vs })) (perform f p V a (record { stack = st; variables = ws }))
  unfolding perform
  finer_acts V (fixed taken left) st vs ws h = finer_keeping vs ws (replace f p taken left st) h
  finer_acts V (load i) st vs ws h =
      finer_check (ltb i V) (21, f, p) (keeping f p vs (loaded f p (get_or vs i Unknown) st)) (keeping f p ws (loaded f p (get_or ws i Unknown) st))
      (finer_load st vs ws h _ _ (h.1 i))
  finer_acts V (store i) st vs ws h = finer_check (ltb i V) (21, f, p) (stored f p i vs st) (stored f p i ws st) (finer_store st vs ws h i)
  finer_acts V pop st vs ws h = finer_keeping vs ws (popped f p st) h
  finer_acts V dup st vs ws h = finer_keeping vs ws (doubled f p st) h
  finer_acts V swap st vs ws h = finer_keeping vs ws (swapped f p st) h
  finer_acts V alike st vs ws h = finer_keeping vs ws (compared f p st) h
  finer_acts V (give k) st vs ws h = finer_keeping vs ws (returned f p k st) h

  pub perform_mono : (V : ℕ) (a : Act) (s t : Shape) → Reach s t → Finer (perform f p V a s) (perform f p V a t)
  perform_mono V a s t r =
      let F : List Kind → Type 0 = λ st. Finer (perform f p V a s) (perform f p V a (record { stack = st; variables = t.variables })) in
      subst F r.stack (finer_acts V a s.stack s.variables t.variables (r.size, r.variables))

  performed_mono : (V : ℕ) (o : Option Act) (s t : Shape) → Reach s t → Finer (performed f p V s o) (performed f p V t o)
  performed_mono V None s t r = tt
  performed_mono V (Some a) s t r = perform_mono V a s t r

pub effect_mono : (P : Program) (f p : ℕ) (i : Instruction) (s t : Shape) → Reach s t → Finer (effect P f p i s) (effect P f p i t)
effect_mono P f p i s t r = performed_mono f p (variables_at P f) (act_of P (function_at P f) i) s t r

-- ## Sizes

-- a stack that is not too high, of known kinds
abbrev pub Filled : List Kind → Type 0
Filled st = (length st ≤ 32) × AllKnown st

abbrev Kept : ℕ → Out Shape → Type 0
Kept V r = On (Unit {0}) (Sized V) r

abbrev FilledOut : Out (List Kind) → Type 0
FilledOut r = On (Unit {0}) Filled r

pub known_append : (ks ls : List Kind) → AllKnown ks → AllKnown ls → AllKnown (ks ++ ls)
known_append [] ls h l = l
known_append (k ∷ ks) ls h l = (h.0, known_append ks ls h.1 l)

known_drop : (n : ℕ) (ks : List Kind) → AllKnown ks → AllKnown (drop n ks)
known_drop zero ks h = h
known_drop (suc n) [] h = tt
known_drop (suc n) (k ∷ ks) h = known_drop n ks h.1

filled_check : (b : Bool) (e : Fault) (r : Out (List Kind)) → FilledOut r → FilledOut (check b e r)
filled_check true e r h = h
filled_check false e r h = tt

module _ (f p : ℕ) where
  kept_keeping : (V : ℕ) (s : Shape) (r : Out (List Kind)) → Sized V s → FilledOut r → Kept V (keeping f p s.variables r)
  kept_keeping V s (bad e) h l = tt
  kept_keeping V s (good st) h l = record { low = l.0; kinds = l.1; long = h.long; unused = h.unused }

  filled_room : (st : List Kind) → AllKnown st → FilledOut (room f p st)
  filled_room st h = go (leb (length st) 32) refl
    where
      go : (b : Bool) → leb (length st) 32 ≡ b → FilledOut (check b (19, f, p) (good st))
      go true e = (leb-true _ _ e, h)
      go false e = tt

  filled_replace : (taken left st : List Kind) → AllKnown left → Filled st → FilledOut (replace f p taken left st)
  filled_replace taken left st l h =
      filled_check (leb (length taken) (length st)) (18, f, p)
      (check (eq_kinds (take (length taken) st) taken) (20, f, p) (room f p (left ++ drop (length taken) st)))
      (filled_check (eq_kinds (take (length taken) st) taken) (20, f, p) (room f p (left ++ drop (length taken) st))
      (filled_room (left ++ drop (length taken) st) (known_append left _ l (known_drop (length taken) st h.1))))

  filled_loaded : (k : Kind) (st : List Kind) → Filled st → FilledOut (loaded f p k st)
  filled_loaded Unknown st h = tt
  filled_loaded Word st h = filled_room (Word ∷ st) (tt, h.1)
  filled_loaded Reference st h = filled_room (Reference ∷ st) (tt, h.1)

  filled_popped : (st : List Kind) → Filled st → FilledOut (popped f p st)
  filled_popped [] h = tt
  filled_popped (k ∷ st) h = (omega (arith, h.0), h.1.1)

  filled_doubled : (st : List Kind) → Filled st → FilledOut (doubled f p st)
  filled_doubled [] h = tt
  filled_doubled (k ∷ st) h = filled_room (k ∷ k ∷ st) (h.1.0, h.1)

  filled_swapped : (st : List Kind) → Filled st → FilledOut (swapped f p st)
  filled_swapped [] h = tt
  filled_swapped (k ∷ []) h = tt
  filled_swapped (k ∷ l ∷ st) h = (h.0, (h.1.1.0, (h.1.0, h.1.1.1)))

  filled_compared : (st : List Kind) → Filled st → FilledOut (compared f p st)
  filled_compared [] h = tt
  filled_compared (k ∷ []) h = tt
  filled_compared (k ∷ l ∷ st) h = filled_check (eq_kind k l) (20, f, p) (good st) (omega (arith, h.0), h.1.1.1)

  filled_returned : (k : Kind) (st : List Kind) → FilledOut (returned f p k st)
  filled_returned k [] = tt
  filled_returned k (l ∷ []) = filled_check (eq_kind l k) (20, f, p) (good []) (omega arith, tt)
  filled_returned k (l ∷ m ∷ st) = tt

  kept_store : (V i : ℕ) (s : Shape) (st : List Kind) (b : Bool) → ltb i V ≡ b → Sized V s → Filled st
      → Kept V (check b (21, f, p) (stored f p i s.variables st))
  kept_store V i s st false e h n = tt
  kept_store V i s [] true e h n = tt
  kept_store V i s (k ∷ st) true e h n =
      record {
        low = omega (arith, n.0);
        kinds = n.1.1;
        long = length-set s.variables i k ∙ h.long;
        unused = λ j l. let ne : j ≢ i = omega (arith, ltb-true i V e) in rw get_or-set_other (h.unused j l);
      }

  kept_load : (V : ℕ) (s : Shape) (r : Out (List Kind)) (b : Bool) → Sized V s → FilledOut r → Kept V (check b (21, f, p) (keeping f p s.variables r))
  kept_load V s r false h l = tt
  kept_load V s r true h l = kept_keeping V s r h l

  pub perform_keeps : (V : ℕ) (a : Act) (s : Shape) → LeavesKnown a → Sized V s → On (Unit {0}) (Sized V) (perform f p V a s)
  unfolding perform
  perform_keeps V (fixed taken left) s l h = kept_keeping V s (replace f p taken left s.stack) h (filled_replace taken left s.stack l (h.low, h.kinds))
  perform_keeps V (load i) s l h =
      kept_load V s (loaded f p (get_or s.variables i Unknown) s.stack) (ltb i V) h (filled_loaded (get_or s.variables i Unknown) s.stack (h.low, h.kinds))
  perform_keeps V (store i) s l h = kept_store V i s s.stack (ltb i V) refl h (h.low, h.kinds)
  perform_keeps V pop s l h = kept_keeping V s (popped f p s.stack) h (filled_popped s.stack (h.low, h.kinds))
  perform_keeps V dup s l h = kept_keeping V s (doubled f p s.stack) h (filled_doubled s.stack (h.low, h.kinds))
  perform_keeps V swap s l h = kept_keeping V s (swapped f p s.stack) h (filled_swapped s.stack (h.low, h.kinds))
  perform_keeps V alike s l h = kept_keeping V s (compared f p s.stack) h (filled_compared s.stack (h.low, h.kinds))
  perform_keeps V (give k) s l h = kept_keeping V s (returned f p k s.stack) h (filled_returned k s.stack)

  performed_keeps : (V : ℕ) (o : Option Act) (s : Shape) → ((a : Act) → o ≡ Some a → LeavesKnown a) → Sized V s → On (Unit {0}) (Sized V) (performed f p V s o)
  performed_keeps V None s l h = tt
  performed_keeps V (Some a) s l h = perform_keeps V a s (l a refl) h

-- ## The acts of a program whose signatures are known leave known kinds

pub formed_known : (P : Program) → WellFormed P → KnownSignatures P
formed_known P formed = record { functions = λ f g e. (formed.functions f g e).signature; natives = formed.natives }

-- an act that there may be
abbrev MayLeave : Option Act → Type 0
MayLeave None = Unit {0}
MayLeave (Some a) = LeavesKnown a

may_within : (c n : ℕ) (a : Act) → LeavesKnown a → MayLeave (within c n a)
may_within c n a h = go (ltb c n)
  where
    go : (b : Bool) → MayLeave (cond b (Some a) None)
    go true = h
    go false = tt

module _ (P : Program) (known : KnownSignatures P) where
  may_static : (c : ℕ) (o : Option Function) → nth P.functions c ≡ o → MayLeave (call_static o)
  may_static c None e = tt
  may_static c (Some g) e = ((known.functions c g e).result, tt)

  may_native : (c : ℕ) (o : Option Native) → nth P.natives c ≡ o → MayLeave (call_native o)
  may_native c None e = tt
  may_native c (Some g) e = ((known.natives c g e).result, tt)

  may_act : (g : Function) (i : Instruction) → MayLeave (act_of P g i)
  may_act g Nop = tt
  may_act g Pop = tt
  may_act g Dup = tt
  may_act g Swap = tt
  may_act g AconstNull = (tt, tt)
  may_act g (Aldc c) = may_within c (length P.strings) (fixed [] (Reference ∷ [])) (tt, tt)
  may_act g (Bipush b) = (tt, tt)
  may_act g (Ildc c) = may_within c (length P.integers) (fixed [] (Word ∷ [])) (tt, tt)
  may_act g (Vload i) = tt
  may_act g (Vstore i) = tt
  may_act g (Binary operation) = (tt, tt)
  may_act g (IfCmpeq o) = tt
  may_act g (IfCmpne o) = tt
  may_act g (IfIcmp order o) = tt
  may_act g (Goto o) = tt
  may_act g (Invokestatic c) = may_static c (nth P.functions c) refl
  may_act g (Invokenative c) = may_native c (nth P.natives c) refl
  may_act g Return = tt
  may_act g (New s) = (tt, tt)
  may_act g (Newarray s) = (tt, tt)
  may_act g Arraylength = (tt, tt)
  may_act g (Aaddf offset) = (tt, tt)
  may_act g Aadds = (tt, tt)
  may_act g Imload = (tt, tt)
  may_act g Cmload = (tt, tt)
  may_act g Amload = (tt, tt)
  may_act g Imstore = tt
  may_act g Cmstore = tt
  may_act g Amstore = tt

  pub act_leaves_known : (g : Function) (i : Instruction) (a : Act) → act_of P g i ≡ Some a → LeavesKnown a
  act_leaves_known g i a e = subst MayLeave e (may_act g i)

  pub effect_keeps : (f p : ℕ) (i : Instruction) (s : Shape) → Sized (variables_at P f) s → On (Unit {0}) (Sized (variables_at P f)) (effect P f p i s)
  effect_keeps f p i s h = performed_keeps f p (variables_at P f) (act_of P (function_at P f) i) s (λ a e. act_leaves_known (function_at P f) i a e) h
