use Rattle.std.proofs.Common.{◌≡◌, ℕ, ◌+◌, List, ◌++◌, length, take, drop, Some, None, Ok, Err, sym, ap, ◌∙◌, arith}
use Rattle.std.proofs.lemmas.Result.{err_from_is_err_and}
use Rattle.std.proofs.lemmas.List.{set-get_or, length-take-le}
use Rattle.source.specs.Rest.{next_of}
use Rattle.source.proofs.Loading.{copied-one, moved, widened, fault-met, too_long, all-copied, none_placed, parts}
use Rattle.source.proofs.loader.copy_all.Goals as goal

pub returns-in_err-byte : goal.returns-in_err-byte
returns-in_err-byte g c =
    let p = err_from_is_err_and c.from_residual.result c.from_residual.ensures.1 in
    let told : next_of (g.S.Source.rest c.loop-slot.source) ≡ Err c.in_err-byte.field-0.0 = sym c.in_err-byte.ensures.value in
    let u = widened (omega (arith, c.min-room.ensures)) c.loop-slot.invariant.underway in
    let w = parts (fault-met c.in_err-byte.field-0.0 u c.min-room.ensures told) in
    record { answer = p.1 ∙ ap Err p.2 ∙ w.0; memory = rw p.1 tt; left = c.in_err-byte.ensures.after ∙ w.2 }

pub returns-in_default : goal.returns-in_default
returns-in_default g c =
    let told : next_of (g.S.Source.rest c.loop-slot.source) ≡ Ok None = sym c.in_ok-byte.ensures.value ∙ ap Ok c.in_default.is in
    let u = widened (omega (arith, c.min-room.ensures)) c.loop-slot.invariant.underway in
    let w = parts (all-copied u c.min-room.ensures (omega (arith, c.min-room.ensures)) told) in
    record { answer = w.0; memory = ap (λ (l : List ℕ). l ++ drop c.min-room.result c.args.bytes.now) (set-get_or c.loop-slot.slot-items c.loop-slot.slot-index 0) ∙ w.1; left = c.in_ok-byte.ensures.after ∙ w.2 }

pub loop-slot-preserved : goal.loop-slot-preserved
loop-slot-preserved g c =
    let told : next_of (g.S.Source.rest c.loop-slot.source) ≡ Ok (Some c.in-Some.byte) = sym c.in_ok-byte.ensures.value ∙ ap Ok c.in-Some.is in
    let front : length (take c.min-room.result c.args.bytes.now) ≡ c.min-room.result = length-take-le c.min-room.result c.args.bytes.now (omega (arith, c.min-room.ensures)) in
    let same = c.loop-slot.invariant.counted in
    let next = copied-one c.in-Some.byte c.loop-slot.invariant.underway (omega (arith, front, same, c.loop-slot-test.true)) (omega (arith, same, c.loop-slot-test.true, c.loop-slot.auto.slot-items)) told in
    record { counted = ap (λ (n : ℕ). n + 1) same; underway = rw (← same) (moved (sym c.in_ok-byte.ensures.after) next) }

pub returns-in-Some-place : goal.returns-in-Some-place
returns-in-Some-place g c =
    let front : length (take c.min-room.result c.args.bytes.now) ≡ c.min-room.result = length-take-le c.min-room.result c.args.bytes.now (omega (arith, c.min-room.ensures)) in
    let u = widened (omega (arith, c.min-room.ensures)) c.loop-slot.invariant.underway in
    let w = parts (too_long c.in-Some-place.place u c.min-room.ensures (omega (arith, front, c.loop-slot.invariant.counted, c.loop-slot-test.false)) (sym c.in-Some-place.ensures)) in
    record { answer = w.0; memory = tt; left = w.2 }

pub returns-in_err-next : goal.returns-in_err-next
returns-in_err-next g c =
    let p = err_from_is_err_and c.from_residual-in_err-next.result c.from_residual-in_err-next.ensures.1 in
    let told : next_of (g.S.Source.rest c.loop-slot.source) ≡ Err c.in_err-next.field-0.0 = sym c.in_err-next.ensures.value in
    let u = widened (omega (arith, c.min-room.ensures)) c.loop-slot.invariant.underway in
    let w = parts (fault-met c.in_err-next.field-0.0 u c.min-room.ensures told) in
    record { answer = p.1 ∙ ap Err p.2 ∙ w.0; memory = rw p.1 tt; left = c.in_err-next.ensures.after ∙ w.2 }

pub returns : goal.returns
returns g c =
    let told : next_of (g.S.Source.rest c.loop-slot.source) ≡ Ok None =
    none_placed (g.S.Source.rest c.loop-slot.source) c.in_ok-next.field-0 (sym c.in_default-place.ensures) (sym c.in_ok-next.ensures.value)
    in
    let u = widened (omega (arith, c.min-room.ensures)) c.loop-slot.invariant.underway in
    let w = parts (all-copied u c.min-room.ensures (omega (arith, c.min-room.ensures)) told) in
    record { answer = w.0; memory = w.1; left = c.in_ok-next.ensures.after ∙ w.2 }
