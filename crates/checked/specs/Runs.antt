-- Runs, looks and lists of them, for any machine that goes by steps.
--
-- A machine has configurations C. A step brings it from one to the next, calling a host that has states S.
use Rattle.std.specs.Prelude.{ℕ, zero, suc, ◌+◌, ◌-◌, List, [], ◌∷◌, Some, None, Option}
use Rattle.bytecode.specs.declared.stop.Stop.{Stop}
use Rattle.bytecode.specs.declared.stop.Stop.TheVariants.{Cells, Calls}
use Rattle.host.specs.Hosts.{Host}

-- what one step comes to: another configuration, main's word, a stop, or a broken stop; and the host's state.
-- A stop leaves the configuration as it was
pub data Next (C S : Type 0) : Type 0 where
  goes : C → S → Next C S
  ends : ℕ → S → Next C S
  stops : Stop → S → Next C S
  breaks : S → Next C S

-- A machine between steps, with the steps that it has made. An ended machine has main's word, and the configuration from which main
-- returned: its frames are gone, its memory is left
pub data Status (C : Type 0) : Type 0 where
  live : ℕ → C → Status C
  ended : ℕ → ℕ → C → Status C
  stopped : ℕ → Stop → C → Status C
  broken : ℕ → C → Status C

-- a machine and the host that serves it
pub record Served (C S : Type 0) : Type 0 where
  pub machine : Status C
  pub host : S

abbrev pub served : {C S : Type 0} → Status C → S → Served C S
served x s = record { machine = x; host = s }

module _ {C S : Type 0} where
  abbrev pub after : ℕ → C → Next C S → Served C S
  after n c (goes d s) = served (live (suc n) d) s
  after n c (ends w s) = served (ended (suc n) w c) s
  after n c (stops e s) = served (stopped (suc n) e c) s
  after n c (breaks s) = served (broken (suc n) c) s

  module _ (step : C → S → Next C S) where
    -- a machine that is over makes no step
    abbrev pub advance : Status C → S → Served C S
    advance (live n c) s = after n c (step c s)
    advance x s = served x s

    -- as many steps as the allowance says, or fewer where the machine is over before
    abbrev pub iterate : ℕ → Status C → S → Served C S
    iterate zero x s = served x s
    iterate (suc k) x s = iterate k (advance x s).machine (advance x s).host

-- ## Requests and what they answer

-- a run brings a host (its make and its state) and an allowance of steps; a look asks for a frame, the newest being 0
pub data Request (S : Type 0) : Type 0 where
  run : Host S → S → ℕ → Request S
  look : ℕ → Request S

-- what a frame shows: function, place and depth of its stack
pub record View : Type 0 where
  pub function : ℕ
  pub place : ℕ
  pub depth : ℕ

-- the steps in an answer are those of its run; a stop tells the function and the place where it stands;
-- `over` is the refusal of a run of a machine that is over (32), `unseen` that of a look at no frame (33)
pub data Answer : Type 0 where
  continues : ℕ → Answer
  ends : ℕ → ℕ → Answer
  stops : Stop → ℕ → ℕ → ℕ → Answer
  breaks : ℕ → Answer
  over : Answer
  sees : View → Answer
  unseen : Answer

-- the number and the place of each refusal
abbrev pub refusal : Answer → Option (ℕ × ℕ × ℕ)
refusal over = Some (32, 0, 0)
refusal unseen = Some (33, 0, 0)
refusal a = None

-- an answer, and the state of the host that a run brought, after it
pub record Response (S : Type 0) : Type 0 where
  pub answer : Answer
  pub host : Option S

abbrev pub response : {S : Type 0} → Answer → S → Response S
response a s = record { answer = a; host = Some s }

abbrev pub shown : Option View → Answer
shown None = unseen
shown (Some v) = sees v

-- a machine: its step with a host, and what can be seen of a frame (the newest, frame 0, is always there)
pub record Machine (C S : Type 0) : Type 0 where
  pub step : Host S → C → S → Next C S
  pub newest : C → View
  pub frame : C → ℕ → Option View

module _ {C S : Type 0} (M : Machine C S) where
  -- what a run answers that began after n steps and left this machine
  abbrev pub tells : ℕ → Status C → Answer
  tells n (live m c) = continues (m - n)
  tells n (ended m w c) = ends w (m - n)
  tells n (stopped m e c) = stops e (M.newest c).function (M.newest c).place (m - n)
  tells n (broken m c) = breaks (m - n)

  abbrev pub handle : Request S → Status C → Status C
  handle (run host s k) x = (iterate (M.step host) k x s).machine
  handle (look j) x = x

  abbrev pub ran : Host S → S → ℕ → Status C → Response S
  ran host s k (live n c) = response (tells n (iterate (M.step host) k (live n c) s).machine) (iterate (M.step host) k (live n c) s).host
  ran host s k x = response over s

  -- an ended machine has no frames
  abbrev pub looked : ℕ → Status C → Answer
  looked j (live n c) = shown (M.frame c j)
  looked j (ended n w c) = unseen
  looked j (stopped n e c) = shown (M.frame c j)
  looked j (broken n c) = shown (M.frame c j)

  abbrev pub respond : Request S → Status C → Response S
  respond (run host s k) x = ran host s k x
  respond (look j) x = record { answer = looked j x; host = None }

  -- each request begins with the machine that its predecessor left
  abbrev pub handle_all : List (Request S) → Status C → Status C
  handle_all [] x = x
  handle_all (p ∷ ps) x = handle_all ps (handle p x)

  abbrev pub responses : List (Request S) → Status C → List (Response S)
  responses [] x = []
  responses (p ∷ ps) x = respond p x ∷ responses ps (handle p x)

-- ## One host for all runs

-- a run or a look, the host being given once
pub data Turn : Type 0 where
  run : ℕ → Turn
  look : ℕ → Turn

-- the allowances of all runs together
abbrev pub allowance : List Turn → ℕ
allowance [] = 0
allowance (run k ∷ ts) = k + allowance ts
allowance (look j ∷ ts) = allowance ts

-- one host serves every run, changed by nothing but these runs
module _ {C S : Type 0} (step : C → S → Next C S) where
  abbrev pub serve : List Turn → Status C → S → Served C S
  serve [] x s = served x s
  serve (run k ∷ ts) x s = serve ts (iterate step k x s).machine (iterate step k x s).host
  serve (look j ∷ ts) x s = serve ts x s

-- the same as requests, each with the host as the one before it left it
abbrev pub threaded : {C S : Type 0} → Machine C S → Host S → List Turn → Status C → S → List (Request S)
threaded M host [] x s = []
threaded M host (run k ∷ ts) x s =
    Request.run host s k ∷ threaded M host ts (iterate (M.step host) k x s).machine (iterate (M.step host) k x s).host
threaded M host (look j ∷ ts) x s = Request.look j ∷ threaded M host ts x s

-- ## Stops that more memory does not change

abbrev pub Lasting : Stop → Type 0
Lasting Cells = ⊥
Lasting Calls = ⊥
Lasting e = Unit {0}
