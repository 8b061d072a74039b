-- A host's behaviour does what the host does.
use Rattle.std.proofs.Common.{◌≡◌, ℕ, zero, suc, ◌+◌, Bool, true, false, cond, not, eqb, ltb, leb, List, [], ◌∷◌, length, ℤ, Some, None, Option, sym, refl, ap, ◌∙◌, subst}
use Rattle.bytecode.specs.declared.kind.Kind.{Kind}
use Rattle.bytecode.specs.declared.kind.Kind.TheVariants.{Unknown, Word, Reference as Ref}
use Rattle.bytecode.specs.declared.instruction.Instruction.{Instruction}
use Rattle.bytecode.specs.declared.instruction.Instruction.TheVariants.{Nop, Pop, Dup, Swap, AconstNull, Aldc, Bipush, Ildc, Vload, Vstore, Binary, IfCmpeq, IfCmpne, IfIcmp, Goto, Invokestatic, Invokenative, Return, New, Newarray, Arraylength, Aaddf, Aadds, Imload, Cmload, Amload, Imstore, Cmstore, Amstore}
use Rattle.bytecode.specs.Instructions.{size_of, decode_at, target}
use Rattle.bytecode.specs.Program.{Program, Native}
use Rattle.bytecode.specs.Stops.{Attempt, gives, stops}
use Rattle.heap.specs.Checked.{Heap, Reference, null, new, newarray, arraylength, aaddf, aadds, imload, cmload, amload, imstore, cmstore, amstore}
use Rattle.word.specs.Words.{compute, holds}
use Rattle.host.specs.Hosts.{Host, Call, Lawful, fitting}
use Rattle.host.specs.declared.call.Reply.{Reply}
use Rattle.plan.specs.Programs.{nth}
use Rattle.checked.specs.Runs.{Next, goes, ends, stops as halts, breaks, Status, live, ended, stopped, broken, Served, after, advance, iterate}
use Rattle.checked.specs.Machine.{Value, word, reference, Frame, frame, Conf, conf, Sizes, reserve, reserved, agrees, is_kind, arguments, call_of, references, variable, pop_word, pop_reference, pop_any, attempt, found, compared, only_value, resume, branch, return, answered, ask, exec, step, same_reference}
use Rattle.checked.specs.Behaviour.{reached, behaviour, Follows, Behaves}

module _ {S : Type 0} (host : Host S) (s : S) where
  -- the same outcome, the host's state being the one reached
  abbrev pub seen : {C : Type 0} → Next C (List Call) → Next C S
  seen (goes c past) = goes c (reached host s past)
  seen (ends w past) = ends w (reached host s past)
  seen (halts e past) = halts e (reached host s past)
  seen (breaks past) = breaks (reached host s past)

  pub cond_seen : {C : Type 0} (b : Bool) (x y : Next C (List Call)) (u v : Next C S) → seen x ≡ u → seen y ≡ v → seen (cond b x y) ≡ cond b u v
  cond_seen true x y u v g h = g
  cond_seen false x y u v g h = h

  -- ## Runs of any machine

  abbrev seen_run : {C : Type 0} → Served C (List Call) → Served C S
  seen_run r = record { machine = r.machine; host = reached host s r.host }

  after_seen : {C : Type 0} (n : ℕ) (c : C) (x : Next C (List Call)) → seen_run (after n c x) ≡ after n c (seen x)
  after_seen n c (goes d past) = refl
  after_seen n c (ends w past) = refl
  after_seen n c (halts e past) = refl
  after_seen n c (breaks past) = refl

  -- a machine's step with the behaviour, and with the host
  module _ {C : Type 0} (told : C → List Call → Next C (List Call)) (step : C → S → Next C S)
      (same : (c : C) (past : List Call) → seen (told c past) ≡ step c (reached host s past)) where
    advance_seen : (x : Status C) (past : List Call) → seen_run (advance told x past) ≡ advance step x (reached host s past)
    advance_seen (live n c) past = after_seen n c (told c past) ∙ ap (after n c) (same c past)
    advance_seen (ended n w c) past = refl
    advance_seen (stopped n e c) past = refl
    advance_seen (broken n c) past = refl

    iterate_seen : (k : ℕ) (x : Status C) (past : List Call) → seen_run (iterate told k x past) ≡ iterate step k x (reached host s past)
    iterate_seen zero x past = refl
    iterate_seen (suc k) x past =
        iterate_seen k (advance told x past).machine (advance told x past).host ∙ ap (λ r. iterate step k r.machine r.host) (advance_seen x past)

    pub follows : Follows host s told step
    follows = record { machine = λ k x past. ap (λ r. r.machine) (iterate_seen k x past); state = λ k x past. ap (λ r. r.host) (iterate_seen k x past) }

  -- ## One step of the checked machine

  module _ (past : List Call) where
    abbrev now : S
    now = reached host s past

    word_seen : (st : List Value) (k : ℕ → List Value → Next Conf (List Call)) (j : ℕ → List Value → Next Conf S) → ((n : ℕ) (t : List Value) → seen (k n t) ≡ j n t)
        → seen (pop_word st past k) ≡ pop_word st now j
    word_seen [] k j g = refl
    word_seen (word n ∷ t) k j g = g n t
    word_seen (reference r ∷ t) k j g = refl

    reference_seen : (st : List Value) (k : Reference → List Value → Next Conf (List Call)) (j : Reference → List Value → Next Conf S) → ((r : Reference) (t : List Value) → seen (k r t) ≡ j r t)
        → seen (pop_reference st past k) ≡ pop_reference st now j
    reference_seen [] k j g = refl
    reference_seen (word n ∷ t) k j g = refl
    reference_seen (reference r ∷ t) k j g = g r t

    any_seen : (st : List Value) (k : Value → List Value → Next Conf (List Call)) (j : Value → List Value → Next Conf S) → ((v : Value) (t : List Value) → seen (k v t) ≡ j v t)
        → seen (pop_any st past k) ≡ pop_any st now j
    any_seen [] k j g = refl
    any_seen (v ∷ t) k j g = g v t

    attempt_seen : {A : Type 0} (x : Attempt A) (k : A → Next Conf (List Call)) (j : A → Next Conf S) → ((a : A) → seen (k a) ≡ j a) → seen (attempt x past k) ≡ attempt x now j
    attempt_seen (gives a) k j g = g a
    attempt_seen (stops e) k j g = refl

    found_seen : {A : Type 0} (o : Option A) (k : A → Next Conf (List Call)) (j : A → Next Conf S) → ((a : A) → seen (k a) ≡ j a) → seen (found o past k) ≡ found o now j
    found_seen None k j g = refl
    found_seen (Some a) k j g = g a

    only_seen : (st : List Value) (k : Value → Next Conf (List Call)) (j : Value → Next Conf S) → ((v : Value) → seen (k v) ≡ j v) → seen (only_value st past k) ≡ only_value st now j
    only_seen [] k j g = refl
    only_seen (v ∷ []) k j g = g v
    only_seen (v ∷ u ∷ st) k j g = refl

    compared_seen : (x y : Value) (k : Bool → Next Conf (List Call)) (j : Bool → Next Conf S) → ((b : Bool) → seen (k b) ≡ j b) → seen (compared x y past k) ≡ compared x y now j
    compared_seen (word x) (word y) k j g = g (eqb x y)
    compared_seen (word x) (reference r) k j g = refl
    compared_seen (reference q) (word y) k j g = refl
    compared_seen (reference q) (reference r) k j g = g (same_reference q r)

    branch_seen : (b : Bool) (o : ℤ) (f p q : ℕ) (vs : List (Option Value)) (st : List Value) (rest : List Frame) (h : Heap)
        → seen (branch b o f p q vs st rest h past) ≡ branch b o f p q vs st rest h now
    branch_seen false o f p q vs st rest h = refl
    branch_seen true o f p q vs st rest h = found_seen (target p o) _ _ (λ to. refl)

    return_seen : (v : Value) (rest : List Frame) (h : Heap) → seen (return v rest h past) ≡ return v rest h now
    return_seen (word n) [] h = refl
    return_seen (reference r) [] h = refl
    return_seen (word n) (frame f p vs st ∷ rest) h = cond_seen (ltb (length st) 32) _ _ _ _ refl refl
    return_seen (reference r) (frame f p vs st ∷ rest) h = cond_seen (ltb (length st) 32) _ _ _ _ refl refl

  answered_seen : (past : List Call) (k : Kind) (r : Reply) (rs : List Reference) (c : Value → Next Conf (List Call)) (d : Value → Next Conf S) → ((v : Value) → seen (c v) ≡ d v)
      → seen (answered k r rs past c) ≡ answered k r rs (reached host s past) d
  answered_seen past Unknown (Reply.Word n) rs c d g = refl
  answered_seen past Unknown Reply.Null rs c d g = refl
  answered_seen past Unknown (Reply.Argument j) rs c d g = refl
  answered_seen past Unknown (Reply.Stop e) rs c d g = refl
  answered_seen past Word (Reply.Word n) rs c d g = g (word n)
  answered_seen past Word Reply.Null rs c d g = refl
  answered_seen past Word (Reply.Argument j) rs c d g = refl
  answered_seen past Word (Reply.Stop e) rs c d g = refl
  answered_seen past Ref (Reply.Word n) rs c d g = refl
  answered_seen past Ref Reply.Null rs c d g = g (reference null)
  answered_seen past Ref (Reply.Argument j) rs c d g = found_seen past (nth rs j) _ _ (λ r. g (reference r))
  answered_seen past Ref (Reply.Stop e) rs c d g = refl

  module _ (lawful : Lawful host) where
    -- a call that did not fit leaves the state, so the list of those that fitted leads to the same
    pub reached_call : (past : List Call) (c : Call) → reached host s ((behaviour host s).becomes past c) ≡ host.becomes (reached host s past) c
    reached_call past c = pick (fitting (host.signs c.index) c.arguments) refl
      where
        pick : (b : Bool) → fitting (host.signs c.index) c.arguments ≡ b → reached host s (cond b (c ∷ past) past) ≡ host.becomes (reached host s past) c
        pick true e = refl
        pick false e = sym (lawful.keeps (reached host s past) c e)

    ask_seen : (P : Program) (sizes : Sizes) (past : List Call) (n : Native) (args : List Value) (k : Value → List Call → Next Conf (List Call)) (j : Value → S → Next Conf S)
        → ((v : Value) (qs : List Call) → seen (k v qs) ≡ j v (reached host s qs))
        → seen (ask P (behaviour host s) sizes n args past k) ≡ ask P host sizes n args (reached host s past) j
    ask_seen P sizes past n args k j g =
        cond_seen (agrees n.signature (host.signs n.index)) _ _ _ _
        (subst (λ u. seen (answered n.signature.result (host.replies (reached host s past) (call_of P n args)) (references args) ((behaviour host s).becomes past (call_of P n args)) (λ v. k v ((behaviour host s).becomes past (call_of P n args))))
        ≡ answered n.signature.result (host.replies (reached host s past) (call_of P n args)) (references args) u (λ v. j v u)) (reached_call past (call_of P n args))
        (answered_seen ((behaviour host s).becomes past (call_of P n args)) n.signature.result (host.replies (reached host s past) (call_of P n args)) (references args) _ _ (λ v. g v _)))
        refl

    exec_seen : (P : Program) (sizes : Sizes) (past : List Call) (i : Instruction) (f p q : ℕ) (vs : List (Option Value)) (st : List Value) (rest : List Frame) (h : Heap)
        → seen (exec P (behaviour host s) sizes i f p q vs st rest h past) ≡ exec P host sizes i f p q vs st rest h (reached host s past)
    unfolding exec
    exec_seen P sizes past Nop f p q vs st rest h = refl
    exec_seen P sizes past Pop f p q vs st rest h = any_seen past st _ _ (λ v t. refl)
    exec_seen P sizes past Dup f p q vs st rest h = any_seen past st _ _ (λ v t. cond_seen (ltb (length st) 32) _ _ _ _ refl refl)
    exec_seen P sizes past Swap f p q vs st rest h = any_seen past st _ _ (λ y u. any_seen past u _ _ (λ x t. refl))
    exec_seen P sizes past AconstNull f p q vs st rest h = cond_seen (ltb (length st) 32) _ _ _ _ refl refl
    exec_seen P sizes past (Aldc c) f p q vs st rest h = cond_seen (ltb c (length P.strings)) _ _ _ _ (cond_seen (ltb (length st) 32) _ _ _ _ refl refl) refl
    exec_seen P sizes past (Bipush b) f p q vs st rest h = cond_seen (ltb (length st) 32) _ _ _ _ refl refl
    exec_seen P sizes past (Ildc c) f p q vs st rest h = found_seen past (nth P.integers c) _ _ (λ n. cond_seen (ltb (length st) 32) _ _ _ _ refl refl)
    exec_seen P sizes past (Vload i) f p q vs st rest h = found_seen past (variable vs i) _ _ (λ v. cond_seen (ltb (length st) 32) _ _ _ _ refl refl)
    exec_seen P sizes past (Vstore i) f p q vs st rest h = any_seen past st _ _ (λ v t. cond_seen (ltb i (length vs)) _ _ _ _ refl refl)
    exec_seen P sizes past (Binary op) f p q vs st rest h = word_seen past st _ _ (λ y u. word_seen past u _ _ (λ x t. attempt_seen past (compute op x y) _ _ (λ z. refl)))
    exec_seen P sizes past (IfCmpeq o) f p q vs st rest h = any_seen past st _ _ (λ y u. any_seen past u _ _ (λ x t. compared_seen past x y _ _ (λ b. branch_seen past b o f p q vs t rest h)))
    exec_seen P sizes past (IfCmpne o) f p q vs st rest h = any_seen past st _ _ (λ y u. any_seen past u _ _ (λ x t. compared_seen past x y _ _ (λ b. branch_seen past (not b) o f p q vs t rest h)))
    exec_seen P sizes past (IfIcmp order o) f p q vs st rest h = word_seen past st _ _ (λ y u. word_seen past u _ _ (λ x t. branch_seen past (holds order x y) o f p q vs t rest h))
    exec_seen P sizes past (Goto o) f p q vs st rest h = branch_seen past true o f p q vs st rest h
    exec_seen P sizes past (Invokestatic c) f p q vs st rest h =
        found_seen past (nth P.functions c) _ _ (λ g. found_seen past (arguments g.signature st) _ _ (λ a. cond_seen (ltb (length a.left) 32) _ _ _ _
        (cond_seen (ltb (suc (length rest)) sizes.frames) _ _ _ _ (cond_seen (leb (reserve (Some g) + reserved P (frame f q vs a.left ∷ rest)) sizes.slots) _ _ _ _ refl refl) refl) refl))
    exec_seen P sizes past (Invokenative c) f p q vs st rest h =
        found_seen past (nth P.natives c) _ _ (λ n. found_seen past (arguments n.signature st) _ _ (λ a. cond_seen (ltb (length a.left) 32) _ _ _ _
        (ask_seen P sizes past n a.values (λ v u. resume f q vs (v ∷ a.left) rest h u) (λ v u. resume f q vs (v ∷ a.left) rest h u) (λ v qs. refl)) refl))
    exec_seen P sizes past Return f p q vs st rest h =
        found_seen past (nth P.functions f) _ _ (λ g. only_seen past st _ _ (λ v. cond_seen (is_kind g.signature.result v) _ _ _ _ (return_seen past v rest h) refl))
    exec_seen P sizes past (New b) f p q vs st rest h = cond_seen (ltb (length st) 32) _ _ _ _ (attempt_seen past (new sizes.cells sizes.records h b) _ _ (λ a. refl)) refl
    exec_seen P sizes past (Newarray b) f p q vs st rest h = word_seen past st _ _ (λ n t. attempt_seen past (newarray sizes.cells sizes.records h b n) _ _ (λ a. refl))
    exec_seen P sizes past Arraylength f p q vs st rest h = reference_seen past st _ _ (λ r t. attempt_seen past (arraylength h r) _ _ (λ n. refl))
    exec_seen P sizes past (Aaddf b) f p q vs st rest h = reference_seen past st _ _ (λ r t. attempt_seen past (aaddf h r b) _ _ (λ n. refl))
    exec_seen P sizes past Aadds f p q vs st rest h = word_seen past st _ _ (λ i u. reference_seen past u _ _ (λ r t. attempt_seen past (aadds h r i) _ _ (λ n. refl)))
    exec_seen P sizes past Imload f p q vs st rest h = reference_seen past st _ _ (λ r t. attempt_seen past (imload h r) _ _ (λ n. refl))
    exec_seen P sizes past Cmload f p q vs st rest h = reference_seen past st _ _ (λ r t. attempt_seen past (cmload h r) _ _ (λ n. refl))
    exec_seen P sizes past Amload f p q vs st rest h = reference_seen past st _ _ (λ r t. attempt_seen past (amload h r) _ _ (λ n. refl))
    exec_seen P sizes past Imstore f p q vs st rest h = word_seen past st _ _ (λ n u. reference_seen past u _ _ (λ r t. attempt_seen past (imstore h r n) _ _ (λ k. refl)))
    exec_seen P sizes past Cmstore f p q vs st rest h = word_seen past st _ _ (λ n u. reference_seen past u _ _ (λ r t. attempt_seen past (cmstore h r n) _ _ (λ k. refl)))
    exec_seen P sizes past Amstore f p q vs st rest h = reference_seen past st _ _ (λ e u. reference_seen past u _ _ (λ r t. attempt_seen past (amstore h r e) _ _ (λ k. refl)))

    step_seen : (P : Program) (sizes : Sizes) (past : List Call) (c : Conf) → seen (step P (behaviour host s) sizes c past) ≡ step P host sizes c (reached host s past)
    step_seen P sizes past (conf (frame f p vs st) rest h) =
        found_seen past (nth P.functions f) _ _ (λ g. found_seen past (decode_at g.code p) _ _ (λ i. exec_seen P sizes past i f p (p + size_of i) vs st rest h))

    pub behaviour_lawful : Lawful (behaviour host s)
    behaviour_lawful =
        record {
          suits = λ past c g e fit. lawful.suits (reached host s past) c g e fit;
          misfit = λ past c e. lawful.misfit (reached host s past) c e;
          keeps = λ past c e. ap (λ b. cond b (c ∷ past) past) e;
        }

    pub behaves : Behaves host s
    behaves =
        record {
          lawful = behaviour_lawful;
          follows = λ P sizes. follows (step P (behaviour host s) sizes) (step P host sizes) (λ c past. step_seen P sizes past c);
        }
