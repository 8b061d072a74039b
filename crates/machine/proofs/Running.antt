-- A run that is under way, step by step: what it has come to, and what it answers when it is over.
use Rattle.std.proofs.Common.{◌≡◌, ℕ, suc, ◌+◌, ◌-◌, ◌<◌, ◌⊎◌, inl, inr, Some, None, Ok, Err, Result, sym, refl, ap, ◌∙◌, ap₂, add-zero, arith, subst}
use Rattle.bytecode.specs.declared.stop.Stop.{Stop}
use Rattle.host.specs.Hosts.{Host, Lawful}
use Rattle.reader.specs.View.{program_of}
use Rattle.checked.specs.Runs
use Rattle.checked.specs.Runs.{Next, Status, live, ended, stopped, Served, served, after, advance, iterate, Answer, response, refusal, ran, tells, over}
use Rattle.checked.proofs.Running.{Over as IsOver, stays, iterate_add, longer}
use Rattle.runtime.specs.Runtime.{State, step, runtime_machine}
use Rattle.ready.specs.Ready.{Ready}
use Rattle.ready.proofs.Staying.{stays_ready}
use Rattle.machine.specs.declared.Machine.{Machine}
use Rattle.machine.specs.declared.Condition.{Condition}
use Rattle.machine.specs.declared.Outcome.{Outcome}
use Rattle.machine.specs.declared.Over.{Over}
use Rattle.machine.specs.View.{program_in, state_of, status_as, status_of, told, used_of, over_fault, fault_in}
use Rattle.machine.specs.Runs.{Steps, Ran, Going}

-- a refusal shows in the answer
told_refusal : (r : Result Outcome Over) → fault_in over_fault r ≡ refusal (told r)
told_refusal (Ok (Outcome.Continues k)) = refl
told_refusal (Ok (Outcome.Ended w k)) = refl
told_refusal (Ok (Outcome.Stopped e f p k)) = refl
told_refusal (Err e) = refl

module _ {S : Type 0} (host : Host S) (first : Machine) (s : S) where
  abbrev steps : State → S → Next State S
  steps = step (program_in first) host

  from_answer : (k : ℕ) (r : Result Outcome Over) (m : Machine) (t : S) → ((n : ℕ) → response (told r) t ≡ ran (runtime_machine (program_in first)) host s k (status_of n first))
      → ((n : ℕ) → served (status_of (n + used_of r) m) t ≡ iterate steps k (status_of n first) s) → m.program ≡ first.program
      → (Ready (program_in first) (state_of first) → Ready (program_in m) (state_of m)) → Ran host first s k r m t
  from_answer k r m t answer after same ready =
      record { answer = answer; refused = λ n. told_refusal r ∙ ap (λ h. refusal h.answer) (answer n); after = after; same = same; ready = ready }

  begun : (n : ℕ) → first.condition ≡ Condition.Live → status_of n first ≡ live n (state_of first)
  begun n e = ap (λ x. status_as x n (state_of first)) e

  pub going_first : Going host first s 0 first s
  going_first = record { there = λ n. ap (λ k. served (live k (state_of first)) s) (sym (add-zero n)); same = refl; condition = refl; ready = λ r. r }

  step_same_program : (m : Machine) (t : S) → m.program ≡ first.program → step (program_in m) host (state_of m) t ≡ steps (state_of m) t
  step_same_program m t e = ap (λ p. step (program_of p) host (state_of m) t) e

  -- the last of k + 1 steps
  last_step : (k n : ℕ) (m : Machine) (t : S) → Going host first s k m t → iterate steps (k + 1) (live n (state_of first)) s ≡ after (n + k) (state_of m) (steps (state_of m) t)
  last_step k n m t g =
      iterate_add steps k 1 (live n (state_of first)) s ∙ ap (λ r. advance steps r.machine r.host) (g.there n)

  pub going_next : Lawful host → (k : ℕ) (m o : Machine) (t u : S) → Going host first s k m t → Steps (Ok None) (state_of m) (state_of o) u (step (program_in m) host (state_of m) t)
      → o.program ≡ m.program → o.condition ≡ m.condition → Going host first s (k + 1) o u
  going_next lawful k m o t u g e p c =
      record {
        there = λ n. last_step k n m t g ∙ ap (after (n + k) (state_of m)) (sym (step_same_program m t g.same) ∙ sym e)
            ∙ ap (λ j. served (live j (state_of o)) u) (let q : suc (n + k) ≡ n + (k + 1) = omega arith in q);
        same = p ∙ g.same;
        condition = c ∙ g.condition;
        ready = λ r. subst (λ x. Ready (program_of x) (state_of o)) (sym p)
            (stays_ready (program_in m) host lawful (state_of m) (state_of o) t u (g.ready r) (sym e));
      }

  -- a step after which the machine is over ends the run
  over_next : (k a : ℕ) (m : Machine) (t u : S) (y : ℕ → Status State) → ((n : ℕ) → IsOver (y n)) → Going host first s k m t → k < a
      → ((n : ℕ) → after (n + k) (state_of m) (steps (state_of m) t) ≡ served (y (suc (n + k))) u)
      → (n : ℕ) → iterate steps a (live n (state_of first)) s ≡ served (y (n + (k + 1))) u
  over_next k a m t u y o g lt e n =
      longer steps (k + 1) a (live n (state_of first)) s (y (n + (k + 1))) u (omega arith) (o (n + (k + 1)))
      (last_step k n m t g ∙ e n ∙ ap (λ j. served (y j) u) (let q : suc (n + k) ≡ n + (k + 1) = omega arith in q))

  -- the run's answer and what it leaves, once it is over after k + 1 steps
  finished : first.condition ≡ Condition.Live → (k a : ℕ) (m o : Machine) (t u : S) (y : ℕ → Status State) (r : Result Outcome Over) → Going host first s k m t
      → ((n : ℕ) → iterate steps a (live n (state_of first)) s ≡ served (y (n + (k + 1))) u)
      → ((n : ℕ) → told r ≡ tells (runtime_machine {S = S} (program_in first)) n (y (n + (k + 1)))) → used_of r ≡ k + 1 → ((n : ℕ) → status_of n o ≡ y n)
      → o.program ≡ m.program → state_of o ≡ state_of m → Ran host first s a r o u
  finished is k a m o t u y r g h answer used status p q =
      from_answer a r o u
      (λ n. sym (ap (ran (runtime_machine (program_in first)) host s a) (begun n is)
      ∙ ap (λ x. response (tells (runtime_machine {S = S} (program_in first)) n x.machine) x.host) (h n) ∙ ap (λ x. response x u) (sym (answer n))))
      (λ n. ap (λ x. served x u) (ap (λ j. status_of (n + j) o) used ∙ status (n + (k + 1))) ∙ sym (ap (λ x. iterate steps a x s) (begun n is) ∙ h n))
      (p ∙ g.same)
      (λ r. subst (λ x. Ready (program_of x) (state_of o)) (sym p) (subst (Ready (program_in m)) (sym q) (g.ready r)))

  pub run_ends : first.condition ≡ Condition.Live → (k a w : ℕ) (m o : Machine) (t u : S) → Going host first s k m t → k < a
      → Steps (Ok (Some w)) (state_of m) (state_of o) u (step (program_in m) host (state_of m) t) → o.program ≡ m.program → o.condition ≡ Condition.Ended w
      → Ran host first s a (Ok (Outcome.Ended w (k + 1))) o u
  run_ends is k a w m o t u g lt e p c =
      finished is k a m o t u (λ n. ended n w (state_of m)) (Ok (Outcome.Ended w (k + 1))) g
      (over_next k a m t u (λ n. ended n w (state_of m)) (λ n. tt) g lt (λ n. ap (after (n + k) (state_of m)) (sym (step_same_program m t g.same) ∙ sym e.0)))
      (λ n. ap (Runs.Answer.ends w) (let z : k + 1 ≡ (n + (k + 1)) - n = omega arith in z)) refl (λ n. ap₂ (λ x y. status_as x n y) c e.1) p e.1

  pub run_stops : first.condition ≡ Condition.Live → (k a : ℕ) (b : Stop) (f l : ℕ) (m o : Machine) (t u : S) → Going host first s k m t → k < a
      → Steps (Err b) (state_of m) (state_of o) u (step (program_in m) host (state_of m) t) → o.program ≡ m.program → o.condition ≡ Condition.Stopped b
      → f ≡ (state_of o).function → l ≡ (state_of o).place → Ran host first s a (Ok (Outcome.Stopped b f l (k + 1))) o u
  run_stops is k a b f l m o t u g lt e p c ef el =
      finished is k a m o t u (λ n. stopped n b (state_of m)) (Ok (Outcome.Stopped b f l (k + 1))) g
      (over_next k a m t u (λ n. stopped n b (state_of m)) (λ n. tt) g lt (λ n. ap (after (n + k) (state_of m)) (sym (step_same_program m t g.same) ∙ sym e.0)))
      (λ n. ap₂ (λ x y. Runs.Answer.stops b x y (k + 1)) (ef ∙ ap (λ z. z.function) e.1) (el ∙ ap (λ z. z.place) e.1)
      ∙ ap (Runs.Answer.stops b (state_of m).function (state_of m).place) (let z : k + 1 ≡ (n + (k + 1)) - n = omega arith in z))
      refl (λ n. ap₂ (λ x y. status_as x n y) c e.1) p e.1

  pub run_continues : first.condition ≡ Condition.Live → (a : ℕ) (m : Machine) (t : S) → Going host first s a m t → Ran host first s a (Ok (Outcome.Continues a)) m t
  run_continues is a m t g =
      from_answer a (Ok (Outcome.Continues a)) m t
      (λ n. sym (ap (ran (runtime_machine (program_in first)) host s a) (begun n is)
      ∙ ap (λ x. response (tells (runtime_machine {S = S} (program_in first)) n x.machine) x.host) (g.there n)
      ∙ ap (λ j. response (Runs.Answer.continues j) t) (let q : (n + a) - n ≡ a = omega arith in q)))
      (λ n. ap (λ x. served (status_as x (n + a) (state_of m)) t) (g.condition ∙ is) ∙ sym (ap (λ x. iterate steps a x s) (begun n is) ∙ g.there n))
      g.same
      g.ready

  -- a machine that is over is refused, and stays as it is
  run_refused : (a : ℕ) (y : ℕ → Status State) → ((n : ℕ) → status_of n first ≡ y n) → ((n : ℕ) → IsOver (y n))
      → ((n : ℕ) → ran (runtime_machine (program_in first)) host s a (y n) ≡ response over s) → (e : Over) → Ran host first s a (Err e) first s
  run_refused a y status o refuses e =
      from_answer a (Err e) first s
      (λ n. sym (ap (ran (runtime_machine (program_in first)) host s a) (status n) ∙ refuses n))
      (λ n. ap (λ j. served (status_of j first) s) (add-zero n) ∙ ap (λ x. served x s) (status n)
      ∙ sym (ap (λ x. iterate steps a x s) (status n) ∙ stays steps a (y n) s (o n)))
      refl
      (λ r. r)

  pub run_over : (a : ℕ) → ((w : ℕ) × first.condition ≡ Condition.Ended w) ⊎ ((b : Stop) × first.condition ≡ Condition.Stopped b) → (e : Over) → Ran host first s a (Err e) first s
  run_over a (inl (w, is)) e = run_refused a (λ n. ended n w (state_of first)) (λ n. ap (λ x. status_as x n (state_of first)) is) (λ n. tt) (λ n. refl) e
  run_over a (inr (b, is)) e = run_refused a (λ n. stopped n b (state_of first)) (λ n. ap (λ x. status_as x n (state_of first)) is) (λ n. tt) (λ n. refl) e
