use Rattle.std.proofs.Common.{◌≡◌, ℕ, ◌+◌, ◌-◌, ◌≤◌, length, take, drop, replicate, sym, ap, ◌∙◌, arith, below_more}
use Rattle.std.proofs.lemmas.Result.{err_from_is_err_and}
use Rattle.bytecode.specs.Program.{Program}
use Rattle.plan.specs.Programs.{code_at}
use Rattle.plan.specs.Judgement.{bytes_from}
use Rattle.reader.specs.View.{program_of}
use Rattle.reader.proofs.Fits.{fitting_of}
use Rattle.shapes.specs.Records.{blank_record}
use Rattle.verifier.specs.Fresh.{fresh_part, joined_from, filled}
use Rattle.verifier.proofs.Parts.{bytes_more, bytes_in, bytes_all, part_more, rest_blank, filled_is}
use Rattle.verifier.proofs.Decoding.{decode_fault, decode_done}
use Rattle.verifier.proofs.starts.mark_all.Goals as goal

pub mark_part-requires-clause-room : goal.mark_part-requires-clause-room
mark_part-requires-clause-room c =
    let P : Program = program_of c.args.«package».now in
    omega (
      arith,
      c.loop-function.invariant.1,
      bytes_in P (length P.functions) c.loop-function.function (omega arith),
      bytes_all P,
      (fitting_of c.args.«package».now).code_sum,
      c.requires.room,
      c.loop-function.auto.table,
    )

pub returns-in_err-from-clause-met : goal.returns-in_err-from-clause-met
returns-in_err-from-clause-met c =
    let p = err_from_is_err_and c.from_residual.result c.from_residual.ensures.1 in
    let P : Program = program_of c.args.«package».now in
    rw (p.1, p.2) (decode_fault P (length P.functions) c.loop-function.function _ (omega arith) c.loop-function.invariant.0 c.in_err-from.ensures.met)

pub loop-function-preserved : goal.loop-function-preserved
loop-function-preserved c =
    let P : Program = program_of c.args.«package».now in
    let i : ℕ = c.loop-function.function in
    let e : c.in_ok-from.from ≡ c.loop-function.from + length (code_at P i) = c.in_ok-from.ensures.end in (
      below_more _ _ c.loop-function.invariant.0 c.in_ok-from.ensures.met,
      omega (arith, e, c.loop-function.invariant.1, bytes_more P i),
      ap (λ n. take n c.mark_part.new.table) e ∙
          part_more (fresh_part P) i c.loop-function.table c.mark_part.new.table c.loop-function.from (length (code_at P i)) c.loop-function.invariant.2 c.mark_part.ensures.before
          c.in_ok-from.ensures.part,
      ap (λ n. drop n c.mark_part.new.table) e ∙
          rest_blank c.loop-function.table c.mark_part.new.table c.loop-function.from (length (code_at P i)) c.loop-function.invariant.3 c.mark_part.ensures.after c.mark_part.auto.table ∙
          ap (λ k. replicate (length c.mark_part.new.table - k) blank_record) (sym e),
    )

pub returns : goal.returns
returns c =
    let P : Program = program_of c.args.«package».now in
    let n : c.loop-function.function ≡ length P.functions = omega arith in
    let l : c.loop-function.from ≤ length c.loop-function.table =
    omega (arith, c.loop-function.invariant.1, ap (λ k. bytes_from P k 0) n, bytes_all P, (fitting_of c.args.«package».now).code_sum, c.requires.room, c.loop-function.auto.table) in
    record {
      met = decode_done P (length P.functions) (λ f l. c.loop-function.invariant.0 f (omega (arith, n)));
      decoded = λ f l. c.loop-function.invariant.0 f (omega (arith, n));
      memory =
          filled_is c.loop-function.table _ c.loop-function.from l c.loop-function.invariant.2 c.loop-function.invariant.3 ∙
          ap (λ k. filled (length c.loop-function.table) (joined_from (fresh_part P) k 0)) n ∙
          ap (λ k. filled k (joined_from (fresh_part P) (length P.functions) 0)) c.loop-function.auto.table;
    }
