-- Sizes at which a program may be started.
use Rattle.std.specs.Prelude.{Bool, ◌&&◌, nat_le, nat_lt}
use Rattle.bytecode.specs.Program.{Program}
use Rattle.plan.specs.Programs.{nth}
use Rattle.checked.specs.Machine.{Sizes, reserve}

-- up to 8,192 slots, 1 to 64 frames, up to 4,096 cells and 1,024 block records; and what main's frame reserves lies within the slots
abbrev pub sizes_allowed : Program → Sizes → Bool
sizes_allowed P sizes =
    nat_le sizes.slots 8192 && (nat_lt 0 sizes.frames && (nat_le sizes.frames 64 && (nat_le sizes.cells 4096 && (nat_le sizes.records 1024
    && nat_le (reserve (nth P.functions 0)) sizes.slots))))
