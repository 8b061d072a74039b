use Rattle.std.proofs.Common.{◌≡◌, ◌+◌, drop}
use Rattle.source.specs.Hex.{between}
use Rattle.source.proofs.Passing.{reading}
use Rattle.source.proofs.hex.skip_blanks.Given as goal

-- from here on the text means what it means from the start
abbrev pub invariant-loop-c : goal.invariant-loop-c
invariant-loop-c l =
    record {
      stands : l.here.offset ≡ l.fn.from.offset + l.c-index;
      same : reading l.in_comment l.text l.here.offset l.here.at ≡ between (drop l.fn.from.offset l.text) l.fn.from.at;
    }
