use Rattle.std.proofs.Common.{◌≡◌, ℕ, ◌+◌, ◌-◌, ◌≤◌, List, map, length, take, drop, replicate, sym, refl, ap, ◌∙◌, arith, below_more}
use Rattle.std.proofs.lemmas.Result.{err_from_is_err_and}
use Rattle.bytecode.specs.Program.{Program}
use Rattle.plan.specs.Programs.{code_at}
use Rattle.plan.specs.Judgement.{bytes_from}
use Rattle.reader.specs.View.{program_of}
use Rattle.reader.proofs.Fits.{fitting_of}
use Rattle.shapes.specs.declared.table.ShapeRecord.{ShapeRecord}
use Rattle.shapes.specs.Records.{working_record, blank_record}
use Rattle.verifier.specs.Fresh.{fresh_part, joined_from, filled, fresh_all}
use Rattle.verifier.specs.Swept.{swept_table}
use Rattle.verifier.proofs.Parts.{bytes_more, bytes_in, bytes_all, part_more, part_of, joined_length, rest_kept, filled_is, filled_rest}
use Rattle.verifier.proofs.Decoding.{fresh_long}
use Rattle.verifier.proofs.Sweeping.{sweep_fault, sweep_done, swept_is, takes_more, takes_none, takes_from, working_joined}
use Rattle.verifier.proofs.sweep.sweep_all.Goals as goal

pub loop-function-init : goal.loop-function-init
loop-function-init c = (λ g h. absurd (omega arith), refl, refl, refl, sym (takes_none (program_of c.args.«package».now)), omega arith)

pub sweep_part-requires-clause-room : goal.sweep_part-requires-clause-room
sweep_part-requires-clause-room c =
    let P : Program = program_of c.args.«package».now in
    omega
    (arith, c.loop-function.invariant.1, bytes_in P (length P.functions) c.loop-function.function (omega arith), bytes_all P, (fitting_of c.args.«package».now).code_sum, c.requires.room, c.loop-function.auto.table)

pub sweep_part-requires-clause-fresh : goal.sweep_part-requires-clause-fresh
sweep_part-requires-clause-fresh c =
    let P : Program = program_of c.args.«package».now in
    let i : ℕ = c.loop-function.function in
    ap (take (length (code_at P i))) (c.loop-function.invariant.3 ∙ ap (drop c.loop-function.from) c.requires.fresh ∙ ap (λ k. drop k (fresh_all P (length c.args.table.now))) c.loop-function.invariant.1) ∙
    part_of (fresh_part P) P (length P.functions) i _ (omega arith) (λ g l. fresh_long P g (c.requires.decoded g l))

pub returns-in_err-takes-clause-met : goal.returns-in_err-takes-clause-met
returns-in_err-takes-clause-met c =
    let p = err_from_is_err_and c.from_residual.result c.from_residual.ensures.1 in
    let P : Program = program_of c.args.«package».now in
    rw (p.1, p.2) (sweep_fault P (length P.functions) c.loop-function.function _ (omega arith) c.loop-function.invariant.0 c.in_err-takes.ensures.met)

pub overflow_add-takes : goal.overflow_add-takes
overflow_add-takes c =
    let P : Program = program_of c.args.«package».now in
    omega (arith, c.loop-function.invariant.1, c.loop-function.invariant.5, c.in_ok-takes.ensures.few, bytes_in P (length P.functions) c.loop-function.function (omega arith), bytes_all P, (fitting_of c.args.«package».now).little)

pub overflow_add-from : goal.overflow_add-from
overflow_add-from c =
    let P : Program = program_of c.args.«package».now in
    omega (arith, ap length c.code.ensures.met, c.loop-function.invariant.1, bytes_in P (length P.functions) c.loop-function.function (omega arith), bytes_all P, (fitting_of c.args.«package».now).little)

pub loop-function-preserved : goal.loop-function-preserved
loop-function-preserved c =
    let P : Program = program_of c.args.«package».now in
    let i : ℕ = c.loop-function.function in
    let part : ℕ → List ShapeRecord = λ g. map working_record (swept_table P g) in
    let e : c.loop-function.from + length c.code.result.now ≡ c.loop-function.from + length (code_at P i) = ap (λ code. c.loop-function.from + length code) c.code.ensures.met in (
      below_more _ _ c.loop-function.invariant.0 (swept_is P i _ c.in_ok-takes.ensures.met),
      omega (arith, e, c.loop-function.invariant.1, bytes_more P i),
      ap (λ n. take n c.sweep_part.new.table) e ∙
          part_more part i c.loop-function.table c.sweep_part.new.table c.loop-function.from (length (code_at P i)) c.loop-function.invariant.2 c.sweep_part.ensures.before
          c.in_ok-takes.ensures.part,
      ap (λ n. drop n c.sweep_part.new.table) e ∙ c.sweep_part.ensures.after ∙
          rest_kept c.args.table.now c.loop-function.table c.loop-function.from (length (code_at P i)) c.loop-function.invariant.3 ∙
          ap (λ n. drop n c.args.table.now) (sym e),
      ap (λ t. t + c.in_ok-takes.field-0) c.loop-function.invariant.4 ∙ sym (takes_more P i _ c.in_ok-takes.ensures.met),
      omega (arith, e, c.loop-function.invariant.5, c.in_ok-takes.ensures.few),
    )

pub returns : goal.returns
returns c =
    let P : Program = program_of c.args.«package».now in
    let n : c.loop-function.function ≡ length P.functions = omega arith in
    let b : c.loop-function.from ≡ bytes_from P (length P.functions) 0 = c.loop-function.invariant.1 ∙ ap (λ k. bytes_from P k 0) n in
    let l : c.loop-function.from ≤ length c.loop-function.table = omega (arith, b, bytes_all P, (fitting_of c.args.«package».now).code_sum, c.requires.room, c.loop-function.auto.table) in
    let part : ℕ → List ShapeRecord = λ g. map working_record (swept_table P g) in
    let rest : drop c.loop-function.from c.loop-function.table ≡ replicate (length c.loop-function.table - c.loop-function.from) blank_record =
    c.loop-function.invariant.3 ∙ ap (drop c.loop-function.from) c.requires.fresh ∙
    filled_rest (length c.args.table.now) (joined_from (fresh_part P) (length P.functions) 0) c.loop-function.from
    (joined_length (fresh_part P) P (length P.functions) (λ g l. fresh_long P g (c.requires.decoded g l)) ∙ sym b) ∙
    ap (λ k. replicate (k - c.loop-function.from) blank_record) (sym c.loop-function.auto.table) in
    record {
      met = sweep_done P (length P.functions) c.loop-function.takes (λ f l. c.loop-function.invariant.0 f (omega (arith, n))) (c.loop-function.invariant.4 ∙ ap (λ k. takes_from P k 0) n);
      memory =
          filled_is c.loop-function.table _ c.loop-function.from l c.loop-function.invariant.2 rest ∙
          ap (λ k. filled (length c.loop-function.table) (joined_from part k 0)) n ∙
          ap (λ k. filled k (joined_from part (length P.functions) 0)) c.loop-function.auto.table ∙
          ap (filled (length c.args.table.now)) (sym (working_joined P (length P.functions) 0));
    }
