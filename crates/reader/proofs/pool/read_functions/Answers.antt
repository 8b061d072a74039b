use Rattle.std.proofs.Common.{◌≡◌, ◌<◌, ◌-◌, ◌∙◌, length, map, ap, subst, arith}
use Rattle.std.proofs.lemmas.Result.{err_from_is_err_and}
use Rattle.std.proofs.lemmas.List.{take_all}
use Rattle.reader.specs.Layout.{function_at, code_bytes}
use Rattle.reader.specs.Entries.{function_entry, function_entry_of, FunctionFits, FunctionInside, FunctionBehind}
use Rattle.reader.proofs.Repeating.{series_more, series_fault, series_end}
use Rattle.reader.proofs.Turns.{read_same, entered_more, entered_all, entered_first, code_more, behind_less}
use Rattle.reader.proofs.pool.read_functions.Goals as goal

pub returns-in_err-function-clause-met : goal.returns-in_err-function-clause-met
returns-in_err-function-clause-met c =
    let bs = c.args.cursor.now.bytes.now in
    let p = err_from_is_err_and c.from_residual.result c.from_residual.ensures.1 in
    rw (p.1, p.2)
    (c.loop-index.invariant.met ∙
    series_fault (λ i s. function_at bs i s.after (code_bytes s.value)) (length c.args.functions.now) c.loop-index.index _ _ _ (omega arith)
    (ap (function_at bs c.loop-index.index c.loop-index.cursor.offset) c.loop-index.invariant.sum ∙
    read_same (λ bs. function_at bs c.loop-index.index c.loop-index.cursor.offset c.loop-index.code_size) bs _ _ c.loop-index.invariant.lent c.in_err-function.ensures.met))

pub loop-index-preserved : goal.loop-index-preserved
loop-index-preserved c =
    let bs = c.args.cursor.now.bytes.now in
    let l : c.loop-index.index < length c.loop-index.functions = omega arith in
    let more = entered_more function_entry_of function_entry c.loop-index.functions c.loop-index.index _ l in
    let same = ap length c.loop-index.invariant.lent in
    record {
      met =
          c.loop-index.invariant.met ∙
          series_more (λ i s. function_at bs i s.after (code_bytes s.value)) (length c.args.functions.now) c.loop-index.index _ _ _ _ _ (omega arith) more
          (ap (function_at bs c.loop-index.index c.loop-index.cursor.offset) c.loop-index.invariant.sum ∙
          read_same (λ bs. function_at bs c.loop-index.index c.loop-index.cursor.offset c.loop-index.code_size) bs _ _ c.loop-index.invariant.lent c.in_ok-function.ensures.met);
      lent = c.in_ok-function.ensures.lent ∙ c.loop-index.invariant.lent;
      fit = entered_all function_entry FunctionFits c.loop-index.functions c.loop-index.index _ l c.loop-index.invariant.fit c.in_ok-function.ensures.fits;
      inside =
          entered_all function_entry (FunctionInside bs) c.loop-index.functions c.loop-index.index _ l c.loop-index.invariant.inside
          (subst (λ xs. FunctionInside xs c.in_ok-function.field-0) c.loop-index.invariant.lent c.in_ok-function.ensures.inside);
      behind =
          entered_all function_entry (FunctionBehind (length bs - c.read_function.new.cursor.offset)) c.loop-index.functions c.loop-index.index _ l
          (behind_less (length bs - c.loop-index.cursor.offset) (length bs - c.read_function.new.cursor.offset) _ (let k = c.in_ok-function.ensures.onward in omega arith) c.loop-index.invariant.behind)
          (let k = c.in_ok-function.ensures.behind in omega arith);
      takes = entered_first function_entry (λ e. e.arguments ≡ 0) c.loop-index.functions c.loop-index.index _ l c.loop-index.invariant.takes c.in_ok-function.ensures.main;
      sum = code_more _ _ c.in_ok-function.field-0 c.loop-index.code_size more c.in_ok-function.ensures.fits.inside c.loop-index.invariant.sum;
      little = c.in_ok-function.ensures.few;
    }

pub returns-clause-met : goal.returns-clause-met
returns-clause-met c =
    c.loop-index.invariant.met ∙
    series_end (λ i s. function_at c.args.cursor.now.bytes.now i s.after (code_bytes s.value)) (length c.args.functions.now) c.loop-index.index _ _ _ (omega arith)
    (ap (λ xs. map function_entry_of (map function_entry xs)) (take_all c.loop-index.index c.loop-index.functions (omega arith)))
