-- A host of any make, by what it does: its signatures, and its replies after each list of calls that fitted them.
-- So what holds with every host that has lists of calls as its states holds with hosts of every make.
use Rattle.std.specs.Prelude.{◌≡◌, ℕ, cond, List, [], ◌∷◌}
use Rattle.bytecode.specs.Program.{Program}
use Rattle.host.specs.Hosts.{Host, Call, Lawful, fitting}
use Rattle.checked.specs.Runs.{Next, Status, iterate}
use Rattle.checked.specs.Machine.{Sizes, step}

-- the state after a list of calls, the newest first
abbrev pub reached : {S : Type 0} → Host S → S → List Call → S
reached host s [] = s
reached host s (c ∷ past) = host.becomes (reached host s past) c

-- the behaviour of a host in state s: its state is the list of calls that it answered
abbrev pub behaviour : {S : Type 0} → Host S → S → Host (List Call)
behaviour host s =
    record {
      signs = host.signs;
      replies = λ past c. host.replies (reached host s past) c;
      becomes = λ past c. cond (fitting (host.signs c.index) c.arguments) (c ∷ past) past;
    }

module _ {S : Type 0} (host : Host S) (s : S) where
  -- a machine that is told by the behaviour does what it does with the host, and leads to the host's state
  pub record Follows {C : Type 0} (told : C → List Call → Next C (List Call)) (step : C → S → Next C S) : Type 0 where
    pub machine : (k : ℕ) (x : Status C) (past : List Call) → (iterate told k x past).machine ≡ (iterate step k x (reached host s past)).machine
    pub state : (k : ℕ) (x : Status C) (past : List Call) → reached host s (iterate told k x past).host ≡ (iterate step k x (reached host s past)).host

  -- the behaviour keeps the laws, and a run with it does what a run with the host does
  pub record Behaves : Type 0 where
    pub lawful : Lawful (behaviour host s)
    pub follows : (P : Program) (sizes : Sizes) → Follows (step P (behaviour host s) sizes) (step P host sizes)
