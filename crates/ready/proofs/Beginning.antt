-- The state in which an accepted program begins is ready.
use Rattle.std.proofs.Common.{◌^◌, ◌<◌, length}
use Rattle.bytecode.specs.Program.{Program}
use Rattle.plan.specs.Programs.{variables_at}
use Rattle.checked.specs.Machine.{begins as checked_begins}
use Rattle.checked.specs.Law.{Plans, Accepted}
use Rattle.runtime.specs.Runtime.{begins}
use Rattle.runtime.specs.Relation.{Small}
use Rattle.runtime.specs.Law.{Memory, sizes_of, Enough}
use Rattle.runtime.proofs.Standing.{begins_paired}
use Rattle.ready.specs.Ready.{Short, Ready}

pub begins_ready : (P : Program) (plans : Plans) → Accepted P plans → (m : Memory) → Small P → Short P → Enough P m
    → length m.slots < 2 ^ 32 → length m.frames < 2 ^ 32 → Ready P (begins P m.slots m.frames m.storage)
begins_ready P plans ok m small short enough few_slots few_frames =
    let b = begins_paired P plans ok small m enough in
    record {
      plans = plans;
      accepted = ok;
      small = small;
      short = short;
      sizes = sizes_of m;
      checked = checked_begins (variables_at P 0);
      sound = b.0;
      represented = b.1;
      few_slots = few_slots;
      few_frames = few_frames;
    }
