use Rattle.std.proofs.Common.{◌<◌, ◌≤◌, cond, Some, None, Option, sym, ap, arith}
use Rattle.bytecode.specs.Outcome.{Fault}
use Rattle.plan.specs.Programs.{nth}
use Rattle.verifier.specs.Checking.{meaning_of}
use Rattle.checked.specs.Machine.{reserve}
use Rattle.machine.specs.View.{sizes_in}
use Rattle.machine.proofs.Starting.{sizes_allowed_lem, sizes_too_few, main_reserves}
use Rattle.machine.proofs.sizes.allows.Goals as goal

pub returns-then-reserve-sizes : goal.returns-then-reserve-sizes
returns-then-reserve-sizes c =
    let p = c.args.program.now in
    let main = main_reserves p.contents in
    let v = c.main_variables.ensures.met in
    let few : c.args.sizes.slots < reserve (nth (meaning_of p).functions 0) = omega arith in
    sym (ap (λ t. cond {A = Option Fault} t None (Some (30, 0, 0))) (sizes_too_few (meaning_of p) (sizes_in c.args.sizes) few))

pub returns : goal.returns
returns c =
    let p = c.args.program.now in
    let main = main_reserves p.contents in
    let v = c.main_variables.ensures.met in
    let slots : c.args.sizes.slots ≤ 8192 = omega arith in
    let some : 1 ≤ c.args.sizes.frames = omega arith in
    let frames : c.args.sizes.frames ≤ 64 = omega arith in
    let cells : c.args.sizes.cells ≤ 4096 = omega arith in
    let records : c.args.sizes.records ≤ 1024 = omega arith in
    let reserved : reserve (nth (meaning_of p).functions 0) ≤ c.args.sizes.slots = omega arith in
    sym (ap (λ t. cond {A = Option Fault} t None (Some (30, 0, 0)))
    (sizes_allowed_lem (meaning_of p) (sizes_in c.args.sizes)
    (record { slots = slots; some = some; frames = frames; cells = cells; records = records; main = reserved })))
