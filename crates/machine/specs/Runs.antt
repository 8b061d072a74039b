-- A run on a machine: what it answers and leaves is what the running machine's definition says.
use Rattle.std.specs.Prelude.{◌≡◌, ℕ, ◌+◌, Some, None, Ok, Err, Option, Result}
use Rattle.bytecode.specs.declared.stop.Stop.{Stop}
use Rattle.host.specs.Hosts.{Host}
use Rattle.checked.specs.Runs.{Next, served, live, iterate, response, refusal, ran}
use Rattle.runtime.specs.Runtime.{State, step, runtime_machine}
use Rattle.ready.specs.Ready.{Ready}
use Rattle.machine.specs.declared.Machine.{Machine}
use Rattle.machine.specs.declared.Outcome.{Outcome}
use Rattle.machine.specs.declared.Over.{Over}
use Rattle.machine.specs.View.{program_in, state_of, status_of, told, used_of, over_fault, fault_in}

-- a step came to n: by its result it went on to the state m that it left, ended with main's word, or stopped; the last two left the
-- state l as it was. The host's state is s
abbrev pub Steps : {S : Type 0} → Result (Option ℕ) Stop → State → State → S → Next State S → Type 0
Steps (Ok None) l m s n = Next.goes m s ≡ n
Steps (Ok (Some w)) l m s n = (Next.ends w s ≡ n) × (m ≡ l)
Steps (Err e) l m s n = (Next.stops e s ≡ n) × (m ≡ l)

module _ {S : Type 0} (host : Host S) (first : Machine) (s : S) where
  -- a run of k steps at most, by a machine that has made any number of steps before: its answer r, and the machine and the host's
  -- state that it leaves
  pub record Ran (k : ℕ) (r : Result Outcome Over) (m : Machine) (t : S) : Type 0 where
    pub answer : (n : ℕ) → response (told r) t ≡ ran (runtime_machine (program_in first)) host s k (status_of n first)
    pub refused : (n : ℕ) → fault_in over_fault r ≡ refusal (ran (runtime_machine (program_in first)) host s k (status_of n first)).answer
    pub after : (n : ℕ) → served (status_of (n + used_of r) m) t ≡ iterate (step (program_in first) host) k (status_of n first) s
    pub same : m.program ≡ first.program
    -- what every step relies on is kept
    pub ready : Ready (program_in first) (state_of first) → Ready (program_in m) (state_of m)

  -- a run that has used some of its allowance and goes on
  pub record Going (used : ℕ) (m : Machine) (t : S) : Type 0 where
    pub there : (n : ℕ) → iterate (step (program_in first) host) used (live n (state_of first)) s ≡ served (live (n + used) (state_of m)) t
    pub same : m.program ≡ first.program
    pub condition : m.condition ≡ first.condition
    pub ready : Ready (program_in first) (state_of first) → Ready (program_in m) (state_of m)
