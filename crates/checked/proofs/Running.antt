-- Laws of runs, for any machine: allowances add up, a machine that is over stays so, and more memory changes only stops 9 and 10.
use Rattle.std.proofs.Common.{◌≡◌, ℕ, zero, suc, ◌+◌, ◌-◌, ◌≤◌, ◌⊎◌, List, [], ◌∷◌, sym, refl, ap, ◌∙◌, subst, inl, inr, suc-add, zero-add, arith}
use Rattle.host.specs.Hosts.{Host}
use Rattle.checked.specs.Runs.{Next, goes, ends, stops, breaks, Status, live, ended, stopped, broken, served, after, advance, iterate, Turn, run, look, allowance, serve, Machine, handle_all, threaded, Lasting}

-- a machine that makes no more steps
abbrev pub Over : {C : Type 0} → Status C → Type 0
Over (live n c) = ⊥
Over (ended n w c) = Unit {0}
Over (stopped n e c) = Unit {0}
Over (broken n c) = Unit {0}

-- the steps that a machine has made
abbrev pub made : {C : Type 0} → Status C → ℕ
made (live n c) = n
made (ended n w c) = n
made (stopped n e c) = n
made (broken n c) = n

module _ {C S : Type 0} (step : C → S → Next C S) where
  pub stays : (k : ℕ) (x : Status C) (s : S) → Over x → iterate step k x s ≡ served x s
  stays zero x s o = refl
  stays (suc k) (live n c) s o = absurd o
  stays (suc k) (ended n w c) s o = stays k (ended n w c) s o
  stays (suc k) (stopped n e c) s o = stays k (stopped n e c) s o
  stays (suc k) (broken n c) s o = stays k (broken n c) s o

  pub iterate_add : (a b : ℕ) (x : Status C) (s : S)
      → iterate step (a + b) x s ≡ iterate step b (iterate step a x s).machine (iterate step a x s).host
  iterate_add zero b x s = rw zero-add
  iterate_add (suc a) b x s = rw suc-add (iterate_add a b (advance step x s).machine (advance step x s).host)

  -- only the sum of the allowances counts
  pub serve_sum : (ts : List Turn) (x : Status C) (s : S) → serve step ts x s ≡ iterate step (allowance ts) x s
  serve_sum [] x s = refl
  serve_sum (run k ∷ ts) x s =
      serve_sum ts (iterate step k x s).machine (iterate step k x s).host ∙ sym (iterate_add k (allowance ts) x s)
  serve_sum (look j ∷ ts) x s = serve_sum ts x s

  pub longer : (j k : ℕ) (x : Status C) (s : S) (y : Status C) (t : S) → j ≤ k → Over y → iterate step j x s ≡ served y t
      → iterate step k x s ≡ served y t
  longer j k x s y t le o h =
      let q : j + (k - j) ≡ k = omega arith in
      rw (← q) (iterate_add j (k - j) x s ∙ ap (λ r. iterate step (k - j) r.machine r.host) h ∙ stays (k - j) y t o)

-- turns with one host are requests, each with the host as the one before it left it
module _ {C S : Type 0} (M : Machine C S) (host : Host S) where
  pub threads : (ts : List Turn) (x : Status C) (s : S) → handle_all M (threaded M host ts x s) x ≡ (serve (M.step host) ts x s).machine
  threads [] x s = refl
  threads (run k ∷ ts) x s = threads ts (iterate (M.step host) k x s).machine (iterate (M.step host) k x s).host
  threads (look j ∷ ts) x s = threads ts x s

-- a machine that came to be over made as many steps as it says, and a run of just those steps gets there
module _ {C S : Type 0} (step : C → S → Next C S) (y : Status C) (t : S) (o : Over y) where
  abbrev Used : ℕ → Status C → S → Type 0
  Used n x s = (j : ℕ) × (made y ≡ n + j) × (iterate step j x s ≡ served y t)

  used_over : (k n : ℕ) (x : Status C) (s : S) → Over x → made x ≡ n → iterate step k x s ≡ served y t → Used n x s
  used_over k n x s p m h =
      let q : served x s ≡ served y t = sym (stays step k x s p) ∙ h in
      let e : made y ≡ made x = ap (λ r. made r.machine) (sym q) in
      (0, omega arith, q)

  used_next : (k n : ℕ) (c : C)
      → ((n : ℕ) (c : C) (s : S) → iterate step k (live n c) s ≡ served y t → Used n (live n c) s)
      → (z : Next C S) → iterate step k (after n c z).machine (after n c z).host ≡ served y t
      → Used (suc n) (after n c z).machine (after n c z).host
  used_next k n c again (goes d s) h = again (suc n) d s h
  used_next k n c again (ends w s) h = used_over k (suc n) (ended (suc n) w c) s tt refl h
  used_next k n c again (stops e s) h = used_over k (suc n) (stopped (suc n) e c) s tt refl h
  used_next k n c again (breaks s) h = used_over k (suc n) (broken (suc n) c) s tt refl h

  pub used : (k n : ℕ) (c : C) (s : S) → iterate step k (live n c) s ≡ served y t → Used n (live n c) s
  used zero n c s h = absurd (subst Over (ap (λ r. r.machine) (sym h)) o)
  used (suc k) n c s h =
      let r = used_next k n c (used k) (step c s) h in (suc r.0, (let q = r.1 in omega arith), r.2)

-- ## More memory

-- a step that stops for want of memory
abbrev pub Capped : {C S : Type 0} → Next C S → Type 0
Capped (goes c s) = ⊥
Capped (ends w s) = ⊥
Capped (stops e s) = Lasting e → ⊥
Capped (breaks s) = ⊥

-- not stopped for want of memory
abbrev pub Uncapped : {C : Type 0} → Status C → Type 0
Uncapped (live n c) = Unit {0}
Uncapped (ended n w c) = Unit {0}
Uncapped (stopped n e c) = Lasting e
Uncapped (broken n c) = Unit {0}

module _ {C S : Type 0} (step big : C → S → Next C S) (grows : (c : C) (s : S) → (step c s ≡ big c s) ⊎ Capped (step c s))
    (y : Status C) (t : S) (lasting : Uncapped y) where
  not_capped : (k n : ℕ) (c : C) (z : Next C S) → Capped z
      → iterate step k (after n c z).machine (after n c z).host ≡ served y t → ⊥
  not_capped k n c (goes d s) q h = q
  not_capped k n c (ends w s) q h = q
  not_capped k n c (stops e s) q h =
      let p : served (stopped (suc n) e c) s ≡ served y t = sym (stays step k (stopped (suc n) e c) s tt) ∙ h in
      q (subst Uncapped (ap (λ r. r.machine) (sym p)) lasting)
  not_capped k n c (breaks s) q h = q

  pub bigger : (k : ℕ) (x : Status C) (s : S) → iterate step k x s ≡ served y t → iterate big k x s ≡ served y t
  bigger zero x s h = h
  bigger (suc k) (ended n w c) s h = bigger k (ended n w c) s h
  bigger (suc k) (stopped n e c) s h = bigger k (stopped n e c) s h
  bigger (suc k) (broken n c) s h = bigger k (broken n c) s h
  bigger (suc k) (live n c) s h =
      elim (grows c s) [
        | inl q ↦ bigger k (after n c (big c s)).machine (after n c (big c s)).host (rw (← q) h)
        | inr q ↦ absurd (not_capped k n c (step c s) q h)
      ]

  -- what runs of one host come to in the end, runs of its twin on a bigger machine come to once they are allowed as many steps
  pub twins : Over y → (ts us : List Turn) (c : C) (s : S) → serve step ts (live 0 c) s ≡ served y t → made y ≤ allowance us
      → serve big us (live 0 c) s ≡ served y t
  twins o ts us c s h le =
      let u = used step y t o (allowance ts) 0 c s (sym (serve_sum step ts (live 0 c) s) ∙ h) in
      let m : u.0 ≤ allowance us = let q = u.1 in omega arith in
      serve_sum big us (live 0 c) s ∙ longer big u.0 (allowance us) (live 0 c) s y t m o (bigger u.0 (live 0 c) s u.2)
