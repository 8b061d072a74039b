-- What an accepted program is owed of the checked machine, over every list of requests.
use Rattle.std.specs.Prelude.{◌≡◌, ℕ, ◌+◌, ◌<◌, ◌≤◌, List, [], ◌∷◌, map, length, Some}
use Rattle.bytecode.specs.declared.kind.Kind.{Kind}
use Rattle.bytecode.specs.declared.kind.Kind.TheVariants.{Word}
use Rattle.bytecode.specs.declared.stop.Stop.{Stop}
use Rattle.bytecode.specs.Program.{Program}
use Rattle.host.specs.Hosts.{Host, Lawful}
use Rattle.plan.specs.Programs.{function_at, variables_at, WellFormed}
use Rattle.plan.specs.Shapes.{Shape}
use Rattle.plan.specs.Plans.{Plan, Fullest}
use Rattle.checked.specs.Runs.{Status, live, ended, stopped, broken, served, iterate, Request, run, look, handle_all, Turn, allowance, serve, threaded, Lasting}
use Rattle.checked.specs.Machine.{kind_of, Frame, frame, Conf, conf, Sizes, step, begins, checked_machine}

-- ## Accepted programs, and where they may be started

-- a plan for each function
abbrev pub Plans : Type 0
Plans = ℕ → Plan

-- a program as a package holds it, with the fullest plan of every function; main takes nothing and gives a word
pub record Accepted (P : Program) (plans : Plans) : Type 0 where
  pub formed : WellFormed P
  pub some : 0 < length P.functions
  pub plain : (function_at P 0).signature.arguments ≡ []
  pub word : (function_at P 0).signature.result ≡ Word
  pub fullest : (f : ℕ) → f < length P.functions → Fullest P f (plans f)

-- no less memory of any sort
pub record NoLess (sizes more : Sizes) : Type 0 where
  pub slots : sizes.slots ≤ more.slots
  pub frames : sizes.frames ≤ more.frames
  pub cells : sizes.cells ≤ more.cells
  pub records : sizes.records ≤ more.records

-- ## The stacks are as the plans say

-- the plan of function f has at place p a shape with just these kinds on the stack, the top first
abbrev pub Shows : Plans → ℕ → ℕ → List Kind → Type 0
Shows plans f p kinds = (s : Shape) × (plans f p ≡ Some s) × (s.stack ≡ kinds)

-- older frames, of which the newest awaits the result of function g: each lacks only that
abbrev pub Await : Program → Plans → ℕ → List Frame → Type 0
Await P plans g [] = Unit {0}
Await P plans g (frame f p vs st ∷ fs) = Shows plans f p ((function_at P g).signature.result ∷ map kind_of st) × Await P plans f fs

-- the newest frame's stack has the depth and the kinds of its plan at its place
abbrev pub Planned : Program → Plans → Conf → Type 0
Planned P plans (conf (frame f p vs st) rest h) = Shows plans f p (map kind_of st) × Await P plans f rest

-- a machine that has frames is as planned, and none is broken
abbrev pub Kept : Program → Plans → Status Conf → Type 0
Kept P plans (live n c) = Planned P plans c
Kept P plans (ended n w c) = Unit {0}
Kept P plans (stopped n e c) = Planned P plans c
Kept P plans (broken n c) = ⊥

-- ## The law

-- every host that a request brings keeps the laws of a host
abbrev pub KeepsLaws : {S : Type 0} → Request S → Type 0
KeepsLaws (run host s k) = Lawful host
KeepsLaws (look j) = Unit {0}

abbrev pub AllKeepLaws : {S : Type 0} → List (Request S) → Type 0
AllKeepLaws [] = Unit {0}
AllKeepLaws (p ∷ ps) = KeepsLaws p × AllKeepLaws ps

module _ (S : Type 0) (P : Program) (plans : Plans) (sizes : Sizes) where
  -- the machine as it is started
  abbrev pub begun : Status Conf
  begun = live 0 (begins (variables_at P 0))

  -- over every list of requests, with hosts of any makes that have their states in S:
  pub record Law : Type 0 where
    -- at the start and after every request the machine is not broken, and its stacks are as the fullest plans say
    pub kept : (ps : List (Request S)) → AllKeepLaws ps → Kept P plans (handle_all (checked_machine P sizes) ps begun)
    -- a run of a steps and then one of b is a run of a + b steps
    pub adds : (host : Host S) (a b : ℕ) (x : Status Conf) (s : S) → iterate (step P host sizes) (a + b) x s
        ≡ iterate (step P host sizes) b (iterate (step P host sizes) a x s).machine (iterate (step P host sizes) a x s).host
    -- turns with one host are requests, each with the host as the one before it left it
    pub threads : (host : Host S) (ts : List Turn) (x : Status Conf) (s : S)
        → handle_all (checked_machine P sizes) (threaded (checked_machine P sizes) host ts x s) x ≡ (serve (step P host sizes) ts x s).machine
    -- one host serves all runs up to an end, its twin those of a twin machine with no less memory, whatever its turns:
    -- once their allowances add up to at least the steps that the first made, it has come to the same end, with the host alike
    pub ends_alike : (more : Sizes) → NoLess sizes more → (host : Host S) (s : S) (ts us : List Turn) (n w : ℕ) (c : Conf) (t : S)
        → serve (step P host sizes) ts begun s ≡ served (ended n w c) t → n ≤ allowance us
        → serve (step P host more) us begun s ≡ served (ended n w c) t
    -- the same for a stop other than cells and calls, which stands at the same function and place
    pub stops_alike : (more : Sizes) → NoLess sizes more → (host : Host S) (s : S) (ts us : List Turn) (n : ℕ) (e : Stop) (c : Conf) (t : S)
        → serve (step P host sizes) ts begun s ≡ served (stopped n e c) t → Lasting e → n ≤ allowance us
        → serve (step P host more) us begun s ≡ served (stopped n e c) t
