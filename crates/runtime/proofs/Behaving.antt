-- The running machine with a host's behaviour does what it does with the host.
use Rattle.std.proofs.Common.{◌≡◌, ℕ, ◌+◌, List, Some, None, Option, refl, ap, ◌∙◌}
use Rattle.bytecode.specs.declared.instruction.Instruction.{Instruction}
use Rattle.bytecode.specs.declared.instruction.Instruction.TheVariants.{Invokenative}
use Rattle.bytecode.specs.Instructions.{size_of, decode_at}
use Rattle.bytecode.specs.Program.{Program, Function, Native}
use Rattle.host.specs.Hosts.{Host, Call, Lawful}
use Rattle.plan.specs.Programs.{nth}
use Rattle.checked.specs.Machine.{agrees}
use Rattle.checked.specs.Behaviour.{reached, behaviour}
use Rattle.checked.proofs.Behaving.{seen, cond_seen, follows, reached_call, behaviour_lawful}
use Rattle.runtime.specs.Runtime.{State, Came, went, gave, halted, lost, call_of, replied, lifted, asked, exec, act, acted, fetched, step}
use Rattle.runtime.specs.Behaviour.{Behaves}

module _ {S : Type 0} (host : Host S) (s : S) where
  lifted_seen : (past : List Call) (x : Came) → seen host s (lifted past x) ≡ lifted (reached host s past) x
  lifted_seen past (went m) = refl
  lifted_seen past (gave w) = refl
  lifted_seen past (halted e) = refl
  lifted_seen past lost = refl

  module _ (lawful : Lawful host) (P : Program) where
    asked_seen : (past : List Call) (l : State) (q : ℕ) (o : Option Native) → seen host s (asked P (behaviour host s) l q past o) ≡ asked P host l q (reached host s past) o
    asked_seen past l q None = refl
    asked_seen past l q (Some n) =
        cond_seen host s (agrees n.signature (host.signs n.index)) _ _ _ _
        (lifted_seen ((behaviour host s).becomes past (call_of P l n)) (replied l q n (host.replies (reached host s past) (call_of P l n)))
        ∙ ap (λ u. lifted u (replied l q n (host.replies (reached host s past) (call_of P l n)))) (reached_call host s lawful past (call_of P l n)))
        refl

    act_seen : (past : List Call) (i : Instruction) (q : ℕ) (l : State) → seen host s (act P (behaviour host s) i q l past) ≡ act P host i q l (reached host s past)
    act_seen past (Invokenative c) q l = asked_seen past l q (nth P.natives c)
    act_seen past i q l = lifted_seen past (exec P i q l)

    acted_seen : (past : List Call) (l : State) (o : Option Instruction) → seen host s (acted P (behaviour host s) o l past) ≡ acted P host o l (reached host s past)
    acted_seen past l None = refl
    acted_seen past l (Some i) = act_seen past i (l.place + size_of i) l

    fetched_seen : (past : List Call) (l : State) (o : Option Function) → seen host s (fetched P (behaviour host s) o l past) ≡ fetched P host o l (reached host s past)
    fetched_seen past l None = refl
    fetched_seen past l (Some g) = acted_seen past l (decode_at g.code l.place)

  pub behaves : Lawful host → Behaves host s
  behaves lawful =
      record {
        lawful = behaviour_lawful host s lawful;
        follows = λ P.
            follows host s (step P (behaviour host s)) (step P host) (λ l past. fetched_seen lawful P past l (nth P.functions l.function));
      }
