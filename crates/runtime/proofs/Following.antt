-- Two machines whose steps come to the same are the same over every list of requests, and over every list of turns with one host.
use Rattle.std.proofs.Common.{◌≡◌, ℕ, zero, suc, ◌-◌, List, [], ◌∷◌, None, sym, refl, ap, ◌∙◌, subst, ap₂}
use Rattle.bytecode.specs.declared.stop.Stop.{Stop}
use Rattle.host.specs.Hosts.{Host, Lawful}
use Rattle.checked.specs.Runs.{Next, Status, live, ended, stopped, Served, served, after, advance, iterate, Request, run, look, Answer, response, shown, Machine, tells, handle, ran, looked, respond, handle_all, responses, Turn, serve}
use Rattle.checked.specs.Law.{KeepsLaws, AllKeepLaws}
use Rattle.runtime.specs.Relation.{Same, go, end, stop, Alike, lives, done, halts}

module _ {C D S : Type 0} (R : C → D → Type 0) where
  pub record Both (x : Served C S) (y : Served D S) : Type 0 where
    pub machine : Alike R x.machine y.machine
    pub host : x.host ≡ y.host

  after_both : (n : ℕ) (c : C) (d : D) → R c d → {x : Next C S} {y : Next D S} → Same R x y → Both (after n c x) (after n d y)
  after_both n c d r (go k) = record { machine = lives k; host = refl }
  after_both n c d r end = record { machine = done r; host = refl }
  after_both n c d r stop = record { machine = halts r; host = refl }

  module _ (step : C → S → Next C S) (build : D → S → Next D S) (sim : (c : C) (d : D) (s : S) → R c d → Same R (step c s) (build d s)) where
    advance_both : {x : Status C} {y : Status D} → Alike R x y → (s : S) → Both (advance step x s) (advance build y s)
    advance_both (lives {n} {c} {d} r) s = after_both n c d r (sim c d s r)
    advance_both (done r) s = record { machine = done r; host = refl }
    advance_both (halts r) s = record { machine = halts r; host = refl }

    pub iterate_both : (k : ℕ) (x : Status C) (y : Status D) → Alike R x y → (s : S) → Both (iterate step k x s) (iterate build k y s)
    iterate_both zero x y a s = record { machine = a; host = refl }
    iterate_both (suc k) x y a s =
        let b = advance_both a s in
        subst (λ t. Both (iterate step k (advance step x s).machine (advance step x s).host) (iterate build k (advance build y s).machine t)) b.host
        (iterate_both k (advance step x s).machine (advance build y s).machine b.machine (advance step x s).host)

    pub serve_both : (ts : List Turn) (x : Status C) (y : Status D) → Alike R x y → (s : S) → Both (serve step ts x s) (serve build ts y s)
    serve_both [] x y a s = record { machine = a; host = refl }
    serve_both (Turn.run k ∷ ts) x y a s =
        let b = iterate_both k x y a s in
        subst (λ t. Both (serve step ts (iterate step k x s).machine (iterate step k x s).host) (serve build ts (iterate build k y s).machine t)) b.host
        (serve_both ts (iterate step k x s).machine (iterate build k y s).machine b.machine (iterate step k x s).host)
    serve_both (Turn.look j ∷ ts) x y a s = serve_both ts x y a s

  -- ## What is told

  module _ (M : Machine C S) (N : Machine D S) (sim : (host : Host S) → Lawful host → (c : C) (d : D) (s : S) → R c d → Same R (M.step host c s) (N.step host d s))
      (same_newest : (c : C) (d : D) → R c d → M.newest c ≡ N.newest d) (same_frame : (c : C) (d : D) → R c d → (j : ℕ) → M.frame c j ≡ N.frame d j) where
    tells_same : (n : ℕ) {x : Status C} {y : Status D} → Alike R x y → tells M n x ≡ tells N n y
    tells_same n (lives r) = refl
    tells_same n (done r) = refl
    tells_same n (halts {n = m} {e = e} {c = c} {d = d} r) = ap (λ v. Answer.stops e v.function v.place (m - n)) (same_newest c d r)

    handle_alike : (p : Request S) → KeepsLaws p → (x : Status C) (y : Status D) → Alike R x y → Alike R (handle M p x) (handle N p y)
    handle_alike (run host s k) l x y a = (iterate_both (M.step host) (N.step host) (sim host l) k x y a s).machine
    handle_alike (look j) l x y a = a

    ran_same : (host : Host S) → Lawful host → (s : S) (k : ℕ) {x : Status C} {y : Status D} → Alike R x y → ran M host s k x ≡ ran N host s k y
    ran_same host l s k (lives {n} {c} {d} r) =
        let b = iterate_both (M.step host) (N.step host) (sim host l) k (live n c) (live n d) (lives r) s in
        ap₂ response (tells_same n b.machine) b.host
    ran_same host l s k (done r) = refl
    ran_same host l s k (halts r) = refl

    looked_same : (j : ℕ) {x : Status C} {y : Status D} → Alike R x y → looked M j x ≡ looked N j y
    looked_same j (lives {c = c} {d = d} r) = ap shown (same_frame c d r j)
    looked_same j (done r) = refl
    looked_same j (halts {c = c} {d = d} r) = ap shown (same_frame c d r j)

    respond_same : (p : Request S) → KeepsLaws p → {x : Status C} {y : Status D} → Alike R x y → respond M p x ≡ respond N p y
    respond_same (run host s k) l a = ran_same host l s k a
    respond_same (look j) l a = ap (λ b. record { answer = b; host = None }) (looked_same j a)

    pub handled_alike : (ps : List (Request S)) → AllKeepLaws ps → (x : Status C) (y : Status D) → Alike R x y → Alike R (handle_all M ps x) (handle_all N ps y)
    handled_alike [] l x y a = a
    handled_alike (p ∷ ps) l x y a = handled_alike ps l.1 (handle M p x) (handle N p y) (handle_alike p l.0 x y a)

    pub responses_same : (ps : List (Request S)) → AllKeepLaws ps → (x : Status C) (y : Status D) → Alike R x y → responses M ps x ≡ responses N ps y
    responses_same [] l x y a = refl
    responses_same (p ∷ ps) l x y a =
        ap₂ ◌∷◌ (respond_same p l.0 a) (responses_same ps l.1 (handle M p x) (handle N p y) (handle_alike p l.0 x y a))

  -- ## What an end or a stop of one says of the other

  -- ended from states that belong together
  pub ended_both : {x : Served C S} {y : Served D S} → Both x y → (n w : ℕ) (d : D) (t : S) → y ≡ served (ended n w d) t
      → (c : C) × (x ≡ served (ended n w c) t) × R c d
  ended_both {x} {y} b n w d t q =
      let r = pick x.machine y.machine b.machine (ap (λ z. z.machine) q) in
      (r.0, (λ i. record { machine = r.1 i; host = (b.host ∙ ap (λ z. z.host) q) i }), r.2)
    where
      pick : (u : Status C) (v : Status D) → Alike R u v → v ≡ ended n w d → (c : C) × (u ≡ ended n w c) × R c d
      pick u v (lives r) q = cc
      pick u v (done {n = m} {w = g} {c = c} {d = k} r) q =
          let a : m ≡ n = cc in let b : g ≡ w = cc in let j : k ≡ d = cc in
          (c, ap₂ (λ i z. ended i z c) a b, subst (R c) j r)
      pick u v (halts r) q = cc

  -- stopped at states that belong together
  pub stopped_both : {x : Served C S} {y : Served D S} → Both x y → (n : ℕ) (e : Stop) (d : D) (t : S) → y ≡ served (stopped n e d) t
      → (c : C) × (x ≡ served (stopped n e c) t) × R c d
  stopped_both {x} {y} b n e d t q =
      let r = pick x.machine y.machine b.machine (ap (λ z. z.machine) q) in
      (r.0, (λ i. record { machine = r.1 i; host = (b.host ∙ ap (λ z. z.host) q) i }), r.2)
    where
      pick : (u : Status C) (v : Status D) → Alike R u v → v ≡ stopped n e d → (c : C) × (u ≡ stopped n e c) × R c d
      pick u v (lives r) q = cc
      pick u v (done r) q = cc
      pick u v (halts {n = m} {e = g} {c = c} {d = k} r) q =
          let a : m ≡ n = cc in let b : g ≡ e = cc in let w : k ≡ d = cc in
          (c, ap₂ (λ i j. stopped i j c) a b, subst (R c) w r)

-- the other way round
alike_turned : {C D : Type 0} (R : C → D → Type 0) {x : Status C} {y : Status D} → Alike R x y → Alike (λ d c. R c d) y x
alike_turned R (lives r) = lives r
alike_turned R (done r) = done r
alike_turned R (halts r) = halts r

module _ {C D S : Type 0} (R : C → D → Type 0) where
  both_turned : {x : Served C S} {y : Served D S} → Both R x y → Both (λ d c. R c d) y x
  both_turned b = record { machine = alike_turned R b.machine; host = sym b.host }

  pub both_ended : {x : Served C S} {y : Served D S} → Both R x y → (n w : ℕ) (c : C) (t : S) → x ≡ served (ended n w c) t
      → (d : D) × (y ≡ served (ended n w d) t) × R c d
  both_ended b = ended_both (λ d c. R c d) (both_turned b)

  pub both_stopped : {x : Served C S} {y : Served D S} → Both R x y → (n : ℕ) (e : Stop) (c : C) (t : S) → x ≡ served (stopped n e c) t
      → (d : D) × (y ≡ served (stopped n e d) t) × R c d
  both_stopped b = stopped_both (λ d c. R c d) (both_turned b)

-- what is alike by a relation is alike by a weaker one
pub alike_weaker : {C D : Type 0} (R Q : C → D → Type 0) → ((c : C) (d : D) → R c d → Q c d) → {x : Status C} {y : Status D} → Alike R x y → Alike Q x y
alike_weaker R Q f (lives {c = c} {d = d} r) = lives (f c d r)
alike_weaker R Q f (done {c = c} {d = d} r) = done (f c d r)
alike_weaker R Q f (halts {c = c} {d = d} r) = halts (f c d r)
