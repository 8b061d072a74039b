-- The samples by computation.
use Rattle.std.proofs.Common.{refl}
use Rattle.bytecode.specs.Instructions.{walk}
use Rattle.plan.specs.Shapes.{merge}
use Rattle.plan.specs.Effects.{perform}
use Rattle.plan.specs.Sweep.{join, put, spread, lowest, apply, visit, turn, run, sweep_within, sweep_function, decode_from, sweep_from, judge}
use Rattle.plan.proofs.samples_stand.Goals as goal

pub returns : goal.returns
unfolding walk merge perform join put spread lowest apply visit turn run sweep_within sweep_function decode_from sweep_from judge
returns c =
    record {
      product = refl;
      meeting = refl;
      nop = refl;
      still = refl;
      before = refl;
      growing = refl;
      empty = refl;
      pool = refl;
      kind = refl;
      absent = refl;
      unset = refl;
      high = refl;
      few = refl;
      late = refl;
    }
