-- What check comes to, step by step, and what its answer says of the plans.
use Rattle.std.proofs.Common.{◌≡◌, ℕ, zero, suc, ◌+◌, ◌-◌, ◌<◌, ◌≤◌, Bool, true, false, leb, List, [], ◌∷◌, ◌++◌, map, length, get_or, replicate, Ok, Err, Result, sym, refl, ap, ◌∙◌, subst, append_assoc, arith, le-leb}
use Rattle.std.proofs.lemmas.Bool.{lt-leb}
use Rattle.std.proofs.lemmas.List.{length-map, get_or_append_left, get_or-append_right, get_or-append-add, get_or-map, get_or-replicate, length-append, length-replicate}
use Rattle.bytecode.specs.declared.refusal.Refusal.{Refusal}
use Rattle.bytecode.specs.Outcome.{Fault, Out, bad, good, bind, shown, told}
use Rattle.bytecode.specs.Program.{Program}
use Rattle.plan.specs.Programs.{code_at, WellFormed}
use Rattle.plan.specs.Effects.{check}
use Rattle.plan.specs.Sweep.{Cell, off, Table, shape_of, plan_of, decode_all, sweep_all, Judgement, judge}
use Rattle.plan.specs.Judgement.{Accepted, Refused, Says, Judged, bytes_from}
use Rattle.plan.proofs.Outcomes.{On, good_bad}
use Rattle.plan.proofs.Judging.{judged}
use Rattle.reader.specs.Layout.{package_at}
use Rattle.reader.specs.View.{code_size}
use Rattle.shapes.specs.declared.table.ShapeRecord.{ShapeRecord}
use Rattle.shapes.specs.Records.{record_of, blank_record, no_record}
use Rattle.verifier.specs.declared.program.Accepted.{Accepted as Answer}
use Rattle.verifier.specs.Fresh.{filled}
use Rattle.verifier.specs.Swept.{finished, working_all}
use Rattle.verifier.specs.Checking.{Verdict, check_of, answered, answer_of, records, all_records, table_after, tables_in, Shows, Decides}
use Rattle.verifier.proofs.Parts.{bytes_all}
use Rattle.verifier.proofs.Finishing.{finished_all}

-- ## Step by step

abbrev verdict : Program → List Table × ℕ → Verdict
verdict P r = record { meaning = P; tables = r.0; takes = r.1 }

module _ (bytes : List ℕ) (room : ℕ) where
  pub check_unread : (e : Fault) → package_at bytes ≡ bad e → check_of bytes room ≡ bad e
  check_unread e h = ap (λ o. bind o (λ P. check (leb (code_size P.functions) room) (16, 0, 0) (bind (judge P) (λ r. good (verdict P r))))) h

  module _ (P : Program) (h : package_at bytes ≡ good P) where
    check_read : (b : Bool) → leb (code_size P.functions) room ≡ b → check_of bytes room ≡ check b (16, 0, 0) (bind (judge P) (λ r. good (verdict P r)))
    check_read b e =
        ap (λ o. bind o (λ P. check (leb (code_size P.functions) room) (16, 0, 0) (bind (judge P) (λ r. good (verdict P r))))) h ∙
        ap (λ b. check b (16, 0, 0) (bind (judge P) (λ r. good (verdict P r)))) e

    pub check_small : room < code_size P.functions → check_of bytes room ≡ bad (16, 0, 0)
    check_small l = check_read false (lt-leb _ _ l)

    module _ (l : code_size P.functions ≤ room) where
      pub check_judged : check_of bytes room ≡ bind (judge P) (λ r. good (verdict P r))
      check_judged = check_read true (le-leb _ _ l)

      check_swept : (o : Out (List (List Bool))) (s : Judgement) → decode_all P ≡ o → sweep_all P ≡ s → check_of bytes room ≡ bind (bind o (λ starts. s)) (λ r. good (verdict P r))
      unfolding judge
      check_swept o s d e =
          check_judged ∙ ap (λ o. bind (bind o (λ starts. sweep_all P)) (λ r. good (verdict P r))) d ∙ ap (λ s. bind (bind o (λ starts. s)) (λ r. good (verdict P r))) e

      pub check_undecoded : (e : Fault) → decode_all P ≡ bad e → check_of bytes room ≡ bad e
      check_undecoded e d = check_swept (bad e) (sweep_all P) d refl

      pub check_unswept : (starts : List (List Bool)) (e : Fault) → decode_all P ≡ good starts → sweep_all P ≡ bad e → check_of bytes room ≡ bad e
      check_unswept starts e d s = check_swept (good starts) (bad e) d s

      pub check_accepted : (starts : List (List Bool)) (Ts : List Table) (t : ℕ) → decode_all P ≡ good starts → sweep_all P ≡ good (Ts, t)
          → check_of bytes room ≡ good (verdict P (Ts, t))
      check_accepted starts Ts t d s = check_swept (good starts) (good (Ts, t)) d s

pub judge_is : (P : Program) (starts : List (List Bool)) (Ts : List Table) (t : ℕ) → decode_all P ≡ good starts → sweep_all P ≡ good (Ts, t) → judge P ≡ good (Ts, t)
unfolding judge
judge_is P starts Ts t d s = ap (λ o. bind o (λ starts. sweep_all P)) d ∙ s

pub formed_only : (o : Out Program) (p : Program) → o ≡ good p → WellFormed p → (P : Program) → o ≡ good P → WellFormed P
formed_only o p e w P h = subst WellFormed (let z : p ≡ P = cc in z) w

pub unread_formed : (o : Out Program) (e : Fault) → o ≡ bad e → (P : Program) → o ≡ good P → WellFormed P
unread_formed o e h P d = absurd (good_bad P e (sym d ∙ h))

-- ## An accepted package

-- what is accepted was judged so
judged_verdict : (bytes : List ℕ) (room : ℕ) → On (Unit {0}) (λ v. (package_at bytes ≡ good v.meaning) × (judge v.meaning ≡ good (v.tables, v.takes))) (check_of bytes room)
judged_verdict bytes room = go (package_at bytes) refl
  where
    Q : Verdict → Type 0
    Q v = (package_at bytes ≡ good v.meaning) × (judge v.meaning ≡ good (v.tables, v.takes))

    swept : (P : Program) → package_at bytes ≡ good P → (r : Judgement) → judge P ≡ r → On (Unit {0}) Q (bind r (λ r. good (verdict P r)))
    swept P h (bad e) d = tt
    swept P h (good r) d = (h, d)

    fits : (P : Program) → package_at bytes ≡ good P → (b : Bool) → On (Unit {0}) Q (check b (16, 0, 0) (bind (judge P) (λ r. good (verdict P r))))
    fits P h true = swept P h (judge P) refl
    fits P h false = tt

    go : (o : Out Program) → package_at bytes ≡ o
        → On (Unit {0}) Q (bind o (λ P. check (leb (code_size P.functions) room) (16, 0, 0) (bind (judge P) (λ r. good (verdict P r)))))
    go (bad e) h = tt
    go (good P) h = fits P h (leb (code_size P.functions) room)

accepted : (P : Program) → WellFormed P → (Ts : List Table) (t : ℕ) → judge P ≡ good (Ts, t) → Accepted P Ts t
accepted P w Ts t e = subst (Says P) e (judged P w).says

-- the table of an accepted package, after its starts without a shape are made blank
pub table_finished : (bytes : List ℕ) (room : ℕ) (a : Program × ℕ) → ((P : Program) → package_at bytes ≡ good P → WellFormed P) → answered (check_of bytes room) ≡ good a
    → map finished (working_all room (tables_in (check_of bytes room))) ≡ table_after room (check_of bytes room)
table_finished bytes room a formed e = go (check_of bytes room) (judged_verdict bytes room) e
  where
    go : (o : Out Verdict) → On (Unit {0}) (λ v. (package_at bytes ≡ good v.meaning) × (judge v.meaning ≡ good (v.tables, v.takes))) o → answered o ≡ good a
        → map finished (working_all room (tables_in o)) ≡ table_after room o
    go (bad x) h d = absurd (good_bad a x (sym d))
    go (good v) h d =
        let k = accepted v.meaning (formed v.meaning h.0) v.tables v.takes h.1 in
        finished_all room v.tables (λ f l. (k.settled f (omega (arith, k.count))).unmarked)

-- the table of a refused package
pub table_blank : (bytes : List ℕ) (room : ℕ) (e : Fault) → answered (check_of bytes room) ≡ bad e → replicate room blank_record ≡ table_after room (check_of bytes room)
table_blank bytes room e d = go (check_of bytes room) d
  where
    go : (o : Out Verdict) → answered o ≡ bad e → replicate room blank_record ≡ table_after room o
    go (bad x) d = refl
    go (good v) d = absurd (good_bad (v.meaning, v.takes) e d)

-- ## The table shows the plans

module _ (P : Program) where
  -- the records of tables from that of function f on
  shown_at : (Ts : List Table) (f i p : ℕ) (rest : List ShapeRecord) → i < length Ts → ((g : ℕ) → g < length Ts → length (get_or Ts g []) ≡ length (code_at P (f + g)))
      → p < length (code_at P (f + i)) → get_or (all_records Ts ++ rest) (bytes_from P i f + p) no_record ≡ record_of (plan_of (get_or Ts i []) p)
  shown_at [] f i p rest h l k = absurd (omega arith)
  shown_at (T ∷ Ts) f zero p rest h l k =
      let n : length T ≡ length (code_at P (f + 0)) = l 0 (omega arith) in
      let z : bytes_from P zero f + p ≡ p = omega arith in
      let m = length-map T (λ (c : Cell). record_of (shape_of c)) in
      ap (λ q. get_or (all_records (T ∷ Ts) ++ rest) q no_record) z ∙
      get_or_append_left (all_records (T ∷ Ts)) rest no_record p (omega (arith, length-append (records T) (all_records Ts), m, n)) ∙
      get_or_append_left (records T) (all_records Ts) no_record p (omega (arith, m, n)) ∙
      get_or-map (λ (c : Cell). record_of (shape_of c)) T p off no_record (omega (arith, n))
  shown_at (T ∷ Ts) f (suc i) p rest h l k =
      let n : length T ≡ length (code_at P f) = (let z : f + 0 ≡ f = omega arith in l 0 (omega arith) ∙ ap (λ g. length (code_at P g)) z) in
      let m : length (records T) ≡ length (code_at P f) = length-map T (λ (c : Cell). record_of (shape_of c)) ∙ n in
      let y : f + suc i ≡ suc f + i = omega arith in
      let z : bytes_from P (suc i) f + p ≡ length (records T) + (bytes_from P i (suc f) + p) = omega (arith, m) in
      ap (λ q. get_or (all_records (T ∷ Ts) ++ rest) q no_record) z ∙
      ap (λ rs. get_or rs (length (records T) + (bytes_from P i (suc f) + p)) no_record) (append_assoc (records T) (all_records Ts) rest) ∙
      get_or-append-add (records T) (all_records Ts ++ rest) (bytes_from P i (suc f) + p) no_record ∙
      shown_at Ts (suc f) i p rest (omega arith)
      (λ g j. let x : f + suc g ≡ suc f + g = omega arith in l (suc g) (omega arith) ∙ ap (λ e. length (code_at P e)) x)
      (omega (arith, ap (λ e. length (code_at P e)) y))

  length-records : (Ts : List Table) (f : ℕ) → ((g : ℕ) → g < length Ts → length (get_or Ts g []) ≡ length (code_at P (f + g))) → length (all_records Ts) ≡ bytes_from P (length Ts) f
  length-records [] f l = refl
  length-records (T ∷ Ts) f l =
      let z : f + 0 ≡ f = omega arith in
      let n : length T ≡ length (code_at P f) = l 0 (omega arith) ∙ ap (λ g. length (code_at P g)) z in
      let ih = length-records Ts (suc f) (λ g j. let x : f + suc g ≡ suc f + g = omega arith in l (suc g) (omega arith) ∙ ap (λ e. length (code_at P e)) x) in
      omega (arith, length-append (records T) (all_records Ts), length-map T (λ (c : Cell). record_of (shape_of c)), n, ih)

  module _ (Ts : List Table) (t : ℕ) (k : Accepted P Ts t) (room : ℕ) where
    sizes : (g : ℕ) → g < length Ts → length (get_or Ts g []) ≡ length (code_at P (0 + g))
    sizes g l = let x : g ≡ 0 + g = omega arith in (k.settled g (omega (arith, k.count))).size ∙ ap (λ e. length (code_at P e)) x

    pub shows : (f : ℕ) → f < length P.functions → Shows P f (plan_of (get_or Ts f [])) (filled room (all_records Ts))
    shows f l p j =
        let x : f ≡ 0 + f = omega arith in
        shown_at Ts 0 f p (replicate (room - length (all_records Ts)) blank_record) (omega (arith, k.count)) sizes (omega (arith, ap (λ e. length (code_at P e)) x))

    pub past_blank : (q : ℕ) → code_size P.functions ≤ q → q < length (filled room (all_records Ts)) → get_or (filled room (all_records Ts)) q no_record ≡ blank_record
    past_blank q h l =
        let n : length (all_records Ts) ≡ code_size P.functions = length-records Ts 0 sizes ∙ ap (λ m. bytes_from P m 0) k.count ∙ sym (bytes_all P) in
        let m = length-append (all_records Ts) (replicate (room - length (all_records Ts)) blank_record) in
        let r = length-replicate (room - length (all_records Ts)) blank_record in
        get_or-append_right (all_records Ts) (replicate (room - length (all_records Ts)) blank_record) (length (all_records Ts)) q no_record refl (omega (arith, n)) ∙
        get_or-replicate (room - length (all_records Ts)) (q - length (all_records Ts)) blank_record no_record (omega (arith, n, m, r))

-- ## What the answer says

takes_of : Out (Program × ℕ) → ℕ
takes_of (bad e) = 0
takes_of (good a) = a.1

same_takes : (P Q : Program) (t u : ℕ) → ◌≡◌ {A = Out (Program × ℕ)} (good (P, t)) (good (Q, u)) → t ≡ u
unfolding takes_of
same_takes P Q t u e = ap takes_of e

pub decided : (bytes : List ℕ) (room : ℕ) (r : Result Answer Refusal) (table : List ShapeRecord)
    → ((P : Program) → package_at bytes ≡ good P → WellFormed P) → answered (check_of bytes room) ≡ told answer_of r → table ≡ table_after room (check_of bytes room)
    → (P : Program) → package_at bytes ≡ good P → code_size P.functions ≤ room → Decides P r table
decided bytes room r table formed e m P h l = go (judge P) refl (judged P (formed P h)) r (ap answered (sym outcome) ∙ e) (m ∙ ap (table_after room) outcome)
  where
    outcome : check_of bytes room ≡ bind (judge P) (λ r. good (verdict P r))
    outcome = check_judged bytes room P h l

    go : (o : Judgement) → judge P ≡ o → Judged P o → (r : Result Answer Refusal) → answered (bind o (λ r. good (verdict P r))) ≡ told answer_of r
        → table ≡ table_after room (bind o (λ r. good (verdict P r))) → Decides P r table
    go (bad x) d j (Ok a) e m = absurd (good_bad (answer_of a) x (sym e))
    go (bad x) d j (Err y) e m =
        let z : x ≡ shown y = cc in
        record { refused = subst (Refused P) z j.says; unplanned = j.accepts }
    go (good s) d j (Err y) e m = absurd (good_bad (P, s.1) (shown y) e)
    go (good s) d j (Ok a) e m =
        let k : Accepted P s.0 s.1 = j.says in
        let t : s.1 ≡ a.takes = same_takes _ _ _ _ e in
        record {
          planned = j.planned tt;
          fullest = λ f i. (plan_of (get_or s.0 f []), (k.settled f i).fullest, subst (Shows P f (plan_of (get_or s.0 f []))) (sym m) (shows P s.0 s.1 k room f i));
          past = λ q i n.
              ap (λ rs. get_or rs q no_record) m ∙ past_blank P s.0 s.1 k room q i (omega (arith, n, ap length m));
          few = omega (arith, k.few, t);
        }

-- ## The answers of check, from those of its parts

module _ (bytes : List ℕ) (m room : ℕ) (n : m ≡ room) (formed : (P : Program) → package_at bytes ≡ good P → WellFormed P) where
  pub same_room : (r : Result Answer Refusal) → answered (check_of bytes m) ≡ told answer_of r → answered (check_of bytes room) ≡ told answer_of r
  same_room r e = ap (λ k. answered (check_of bytes k)) (sym n) ∙ e

  pub accepted_table : (a : Answer) (us ts : List ShapeRecord) → answered (check_of bytes m) ≡ good (answer_of a) → us ≡ working_all m (tables_in (check_of bytes m)) → ts ≡ map finished us
      → ts ≡ table_after room (check_of bytes room)
  accepted_table a us ts e h d = d ∙ ap (map finished) h ∙ table_finished bytes m (answer_of a) formed e ∙ ap (λ k. table_after k (check_of bytes k)) n

  pub refused_table : (x : Refusal) (ts : List ShapeRecord) → answered (check_of bytes m) ≡ bad (shown x) → ts ≡ replicate m blank_record → ts ≡ table_after room (check_of bytes room)
  refused_table x ts e d = d ∙ table_blank bytes m (shown x) e ∙ ap (λ k. table_after k (check_of bytes k)) n

pub blank_filled : (ts : List ShapeRecord) (v : ShapeRecord) (n m : ℕ) → ts ≡ replicate n v → v ≡ blank_record → n ≡ m → ts ≡ replicate m blank_record
blank_filled ts v n m e d h = e ∙ (λ i. replicate (h i) (d i))

pub ruleset steps = (check_unread, check_small, check_undecoded, check_unswept, check_accepted)

pub ruleset deciding = (same_room, accepted_table, blank_filled)
