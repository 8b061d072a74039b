use Rattle.std.proofs.Common.{◌≡◌, ℕ, ◌+◌, length, get_or, drop, Some, None, Err, Option, sym, ap, ◌∙◌, arith}
use Rattle.std.specs.Option.{ok_or}
use Rattle.std.specs.Result.{result_ok}
use Rattle.std.proofs.lemmas.Result.{err_from_is_err_and}
use Rattle.source.specs.Rest.{next_of}
use Rattle.source.specs.Hex.{digit_of}
use Rattle.source.proofs.Characters.{at_end, at_one, at_last, at-two, bad_here, lone_last, lone_here, byte-here}
use Rattle.source.proofs.hex.byte_at.Goals as goal

-- the error that `ok_or` gives is the one that it was passed
passed_on : {A E : Type 0} (o : Option A) (e x : E) → ok_or o e ≡ Err x → x ≡ e
passed_on (Some a) e x h = cc
passed_on None e x h = cc

-- what the digit test says of a character that stands in the text
tested : {o p : Option ℕ} {x y : ℕ} → o ≡ digit_of x → x ≡ y → o ≡ p → digit_of y ≡ p
tested e f h = cc

pub returns-in_default : goal.returns-in_default
returns-in_default c =
    sym (ap next_of (at_end c.args.text.now c.args.here.offset c.args.here.at c.in_default.ensures.lookup.3))

pub returns-in_err-high : goal.returns-in_err-high
returns-in_err-high c =
    let t = c.args.text.now in
    let i = c.args.here.offset in
    let at = c.args.here.at in
    let first = c.in-Some.ensures.lookup in
    let p = err_from_is_err_and c.from_residual.result c.from_residual.ensures.1 in
    let same = passed_on c.digit.result _ c.in_err-high.field-0.0 (sym c.ok_or.ensures.value ∙ c.in_err-high.was) in
    let none = tested c.digit.ensures (first.4 (omega arith) 0) (c.ok_or.ensures.ok_part ∙ ap result_ok c.in_err-high.was) in
    p.1 ∙ ap Err (p.2 ∙ same)
    ∙ sym (ap next_of (at_one t i at first.3.0 ∙ bad_here (get_or t i 0) (drop (i + 1) t) at (c.requires.solid first.3.0) none))

pub returns-in_err-second : goal.returns-in_err-second
returns-in_err-second c =
    let t = c.args.text.now in
    let i = c.args.here.offset in
    let at = c.args.here.at in
    let first = c.in-Some.ensures.lookup in
    let p = err_from_is_err_and c.from_residual-in_err-second.result c.from_residual-in_err-second.ensures.1 in
    let same = passed_on c.get-2.result _ c.in_err-second.field-0.0 (sym c.ok_or-2.ensures.value ∙ c.in_err-second.was) in
    let high = tested c.digit.ensures (first.4 (omega arith) 0) (c.ok_or.ensures.ok_part ∙ ap result_ok c.in_ok-high.was) in
    let none = c.ok_or-2.ensures.ok_part ∙ ap result_ok c.in_err-second.was in
    let past = rw none at c.get-2.ensures.lookup in
    let last : i + 1 ≡ length t = omega (arith, first.3.0, past.3) in
    p.1 ∙ ap Err (p.2 ∙ same)
    ∙ sym (ap next_of (at_last t i at last ∙ lone_last (get_or t i 0) c.in_ok-high.high at high))

pub returns-in_err-low : goal.returns-in_err-low
returns-in_err-low c =
    let t = c.args.text.now in
    let i = c.args.here.offset in
    let at = c.args.here.at in
    let first = c.in-Some.ensures.lookup in
    let p = err_from_is_err_and c.from_residual-in_err-low.result c.from_residual-in_err-low.ensures.1 in
    let same = passed_on c.digit-2.result _ c.in_err-low.field-0.0 (sym c.ok_or-3.ensures.value ∙ c.in_err-low.was) in
    let high = tested c.digit.ensures (first.4 (omega arith) 0) (c.ok_or.ensures.ok_part ∙ ap result_ok c.in_ok-high.was) in
    let some = c.ok_or-2.ensures.ok_part ∙ ap result_ok c.in_ok-second.was in
    let second = rw some at c.get-2.ensures.lookup in
    let none = tested c.digit-2.ensures (second.4 (omega arith) 0) (c.ok_or-3.ensures.ok_part ∙ ap result_ok c.in_err-low.was) in
    p.1 ∙ ap Err (p.2 ∙ same)
    ∙ sym (ap next_of (at-two t i at second.3.0 ∙ lone_here (get_or t i 0) (get_or t (i + 1) 0) c.in_ok-high.high (drop (i + 1 + 1) t) at high none))

pub returns : goal.returns
returns c =
    let t = c.args.text.now in
    let i = c.args.here.offset in
    let at = c.args.here.at in
    let first = c.in-Some.ensures.lookup in
    let high = tested c.digit.ensures (first.4 (omega arith) 0) (c.ok_or.ensures.ok_part ∙ ap result_ok c.in_ok-high.was) in
    let some = c.ok_or-2.ensures.ok_part ∙ ap result_ok c.in_ok-second.was in
    let second = rw some at c.get-2.ensures.lookup in
    let low = tested c.digit-2.ensures (second.4 (omega arith) 0) (c.ok_or-3.ensures.ok_part ∙ ap result_ok c.in_ok-low.was) in
    sym (ap next_of (at-two t i at second.3.0 ∙ byte-here (get_or t i 0) (get_or t (i + 1) 0) c.in_ok-high.high c.in_ok-low.low (drop (i + 1 + 1) t) at high low))
