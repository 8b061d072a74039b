use Rattle.std.proofs.Common.{◌≤◌, arith, length-set}
use Rattle.host.proofs.Spelling.{two_more, digit_more}
use Rattle.host.proofs.tens.write_digits.Goals as goal

pub loop-left-preserved : goal.loop-left-preserved
loop-left-preserved c =
    let out = c.loop-left.out in
    let two : 2 ≤ c.loop-left.start = two_more c.args.n c.loop-left.left c.loop-left.start out (omega arith) (omega arith) (omega arith) (omega arith) c.loop-left.invariant.spelled in
    record {
      smaller = omega arith;
      within = omega arith;
      size = simp length-set (omega arith);
      spelled = digit_more c.args.n c.loop-left.left c.loop-left.start out (omega arith) (omega arith) (omega arith) (omega arith) c.loop-left.invariant.spelled;
    }
