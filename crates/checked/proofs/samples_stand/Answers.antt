-- The samples by computation.
use Rattle.std.proofs.Common.{refl}
use Rattle.bytecode.specs.Instructions.{walk}
use Rattle.plan.specs.Shapes.{merge}
use Rattle.plan.specs.Effects.{perform}
use Rattle.plan.specs.Sweep.{join, put, spread, lowest, apply, visit, turn, run, sweep_within, sweep_function, decode_from, sweep_from, judge}
use Rattle.checked.specs.Machine.{exec}
use Rattle.checked.proofs.samples_stand.Goals as goal

pub returns : goal.returns
unfolding exec walk merge perform join put spread lowest apply visit turn run sweep_within sweep_function decode_from sweep_from judge
returns c =
    record {
      stacks = refl;
      ending = refl;
      going = refl;
      quotient = refl;
      remainder = refl;
      least = refl;
      shift = refl;
      byte = refl;
      offset = refl;
      back = refl;
      three = refl;
      enough = refl;
      short = refl;
      none = refl;
      empty = refl;
      meeting = refl;
    }
