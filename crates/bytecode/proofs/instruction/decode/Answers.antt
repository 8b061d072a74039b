use Rattle.std.proofs.Common.{◌≡◌, ◌+◌, ◌∙◌, Bool, true, false, cond, leb, length, Some, None, refl, ap, ap₂, sym}
use Rattle.std.specs.Bool.{then_some}
use Rattle.bytecode.specs.Instructions.{byte_at, instruction_of, size_of, whole}
use Rattle.bytecode.proofs.instruction.decode.Goals as goal

chosen : {A : Type 0} (b : Bool) (x : A) → then_some b x ≡ cond b (Some x) None
chosen true x = refl
chosen false x = refl

pub returns : goal.returns
returns c =
    let code = c.args.code.now in
    let place = c.args.place in
    let bytes = ap₂ (instruction_of (byte_at code place)) c.byte_or_zero.ensures c.byte_or_zero-2.ensures in
    record {
      met =
          c.then_some.ensures
          ∙ rw c.size.ensures.exact (chosen (leb (place + size_of c.in_ok-found.found) (length code)) c.in_ok-found.found)
          ∙ sym (ap (whole code place) (sym bytes ∙ sym c.instruction_of.ensures ∙ c.in_ok-found.was));
    }
