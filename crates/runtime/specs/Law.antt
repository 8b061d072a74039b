-- What a started machine is owed, over every list of requests: it gives the checked machine's answers and host calls, holds what
-- the checked machine holds, never breaks, and its stacks are as the fullest plans say; and a twin with no less memory comes to
-- the same end.
use Rattle.std.specs.Prelude.{◌≡◌, ℕ, ◌+◌, ◌^◌, ◌<◌, ◌≤◌, List, length}
use Rattle.bytecode.specs.declared.stop.Stop.{Stop}
use Rattle.bytecode.specs.Program.{Program}
use Rattle.heap.specs.Storage.{Storage}
use Rattle.heap.specs.Relation.{Match}
use Rattle.host.specs.Hosts.{Host, Lawful}
use Rattle.plan.specs.Programs.{variables_at}
use Rattle.checked.specs.Runs.{Status, live, ended, stopped, served, Request, handle_all, responses, Turn, allowance, serve, threaded, Lasting}
use Rattle.checked.specs.Machine.{Conf, conf, Sizes, checked_machine}
use Rattle.checked.specs.Machine as checked
use Rattle.checked.specs.Law.{Plans, NoLess, Kept, AllKeepLaws}
use Rattle.runtime.specs.declared.FrameRecord.{FrameRecord}
use Rattle.runtime.specs.Runtime.{State, step, begins, runtime_machine}
use Rattle.runtime.specs.Relation.{Represented, Alike}

-- ## Memory as it is lent

-- storage of which nothing is used; the bounds keep every index and every reference in its type
pub record Unused (storage : Storage) : Type 0 where
  pub used : storage.used ≡ 0
  pub count : storage.count ≡ 0
  pub cells : length storage.cells < 2 ^ 28
  pub records : length storage.records < 2 ^ 31

-- slots, frame records and storage for one machine
pub record Memory : Type 0 where
  pub slots : List ℕ
  pub frames : List FrameRecord
  pub storage : Storage

abbrev pub sizes_of : Memory → Sizes
sizes_of m = record { slots = length m.slots; frames = length m.frames; cells = length m.storage.cells; records = length m.storage.records }

-- memory in which a program may be started: nothing of its storage is used, there is a frame, and what main reserves
pub record Enough (P : Program) (m : Memory) : Type 0 where
  pub unused : Unused m.storage
  pub frames : 1 ≤ length m.frames
  pub slots : variables_at P 0 + 32 ≤ length m.slots

-- a machine as it is started, and the checked machine started alike
abbrev pub begun : Program → Memory → Status State
begun P m = live 0 (begins P m.slots m.frames m.storage)

abbrev pub checked_begun : Program → Status Conf
checked_begun P = live 0 (checked.begins (variables_at P 0))

-- ## The law

-- the lent cells hold what the checked machine's blocks hold
abbrev pub SameCells : Sizes → Conf → State → Type 0
SameCells sizes (conf f fs h) l = Match sizes.cells sizes.records h l.storage

-- hosts of any makes that have their states in S
module _ (S : Type 0) (P : Program) (plans : Plans) (memory : Memory) where
  pub record Law : Type 0 where
    -- the checked machine, given the same start, requests and hosts, gives the same answers, refusals included, and leaves every
    -- host in the same state
    pub answers : (ps : List (Request S)) → AllKeepLaws ps
        → responses (runtime_machine P) ps (begun P memory) ≡ responses (checked_machine P (sizes_of memory)) ps (checked_begun P)
    pub cells : (ps : List (Request S)) → AllKeepLaws ps
        → Alike (SameCells (sizes_of memory)) (handle_all (checked_machine P (sizes_of memory)) ps (checked_begun P)) (handle_all (runtime_machine P) ps (begun P memory))
    -- both go on, have ended or have stopped alike, and the slots of every frame stand for the values of the checked machine's
    pub slots : (ps : List (Request S)) → AllKeepLaws ps
        → Alike (Represented P (sizes_of memory)) (handle_all (checked_machine P (sizes_of memory)) ps (checked_begun P)) (handle_all (runtime_machine P) ps (begun P memory))
    -- at the start and after every request it is not broken, the newest frame's stack has the depth and the kinds of the fullest plan
    -- at its place, and each older one's lacks only the awaited result
    pub kept : (ps : List (Request S)) → AllKeepLaws ps → Kept P plans (handle_all (checked_machine P (sizes_of memory)) ps (checked_begun P))
    -- turns with one host are requests, each with the host as the one before it left it
    pub threads : (host : Host S) (ts : List Turn) (x : Status State) (s : S)
        → handle_all (runtime_machine P) (threaded (runtime_machine P) host ts x s) x ≡ (serve (step P host) ts x s).machine
    -- One host, changed by nothing but these runs, serves them all up to an end; its twin serves those of a twin machine, whatever
    -- its turns. Once the twin's allowances add up to at least the steps that the first made, it has come to the same end: word, steps and
    -- host alike
    pub ends_alike : (twin : Memory) → Unused twin.storage → NoLess (sizes_of memory) (sizes_of twin) → (host : Host S) → Lawful host → (s : S) (ts us : List Turn) (n w : ℕ) (l : State) (t : S)
        → serve (step P host) ts (begun P memory) s ≡ served (ended n w l) t → n ≤ allowance us
        → (k : State) × (serve (step P host) us (begun P twin) s ≡ served (ended n w k) t)
    -- the same up to a stop other than cells and calls: stop, function, place, steps and host alike
    pub stops_alike : (twin : Memory) → Unused twin.storage → NoLess (sizes_of memory) (sizes_of twin) → (host : Host S) → Lawful host → (s : S) (ts us : List Turn) (n : ℕ) (e : Stop) (l : State) (t : S)
        → serve (step P host) ts (begun P memory) s ≡ served (stopped n e l) t → Lasting e → n ≤ allowance us
        → (k : State) × (serve (step P host) us (begun P twin) s ≡ served (stopped n e k) t) × (k.function ≡ l.function) × (k.place ≡ l.place)
