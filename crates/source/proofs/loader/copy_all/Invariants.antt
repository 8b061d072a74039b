use Rattle.std.proofs.Common.{◌≡◌}
use Rattle.source.proofs.Loading.{Underway}
use Rattle.source.proofs.loader.copy_all.Given as goal

abbrev pub invariant-loop-slot : goal.invariant-loop-slot
invariant-loop-slot g l =
    record {
      counted : l.count ≡ l.slot-index;
      underway : Underway l.room l.count (g.S.Source.rest l.initial.source) (g.S.Source.rest l.source) l.initial.slot-items l.slot-items;
    }
