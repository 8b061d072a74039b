use Rattle.std.proofs.Common.{ap, ◌∙◌}
use Rattle.machine.specs.View.{saw, fault_in, no_frame_fault}
use Rattle.machine.proofs.Looking.{same_machine, saw_looked, fault_looked}
use Rattle.machine.proofs.Machine.look.Goals as goal

pub returns-in-Live : goal.returns-in-Live
returns-in-Live c =
    let m = c.args.self.now in
    record {
      answer = λ n. ap saw c.ok_or.ensures.value ∙ saw_looked m c.args.frame n c.frame.result _ c.in-Live.is c.frame.ensures.value;
      refused = λ n. ap (fault_in no_frame_fault) c.ok_or.ensures.value ∙ fault_looked m c.args.frame n c.frame.result _ c.in-Live.is c.frame.ensures.value;
      same = same_machine m _ _ c.frame.ensures.same;
    }
