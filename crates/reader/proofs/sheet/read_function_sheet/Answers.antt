use Rattle.std.proofs.Common.{◌≡◌, ◌<◌, ◌∙◌, length, map, get_or, ap, refl, subst, arith, eqb, eq-eqb}
use Rattle.std.proofs.lemmas.Result.{err_from_is_err_and}
use Rattle.std.proofs.lemmas.List.{take_all}
use Rattle.reader.specs.Layout.{record_at, function_arguments}
use Rattle.reader.specs.Entries.{FunctionFits, signature_of, function_entry, function_entry_of, FunctionLettered, LettersInside, FunctionLettersInside}
use Rattle.reader.proofs.Repeating.{series_more, series_fault, series_end}
use Rattle.reader.proofs.Turns.{no_function, read_same, filled_more, filled_all, filled_first, count_kept, kept_map, kept_at}
use Rattle.reader.proofs.sheet.read_function_sheet.Goals as goal

pub read_record-requires : goal.read_record-requires
read_record-requires c =
    let l : c.loop-index.index < length c.loop-index.functions = omega arith in
    let f = kept_at function_entry FunctionFits c.loop-index.functions c.args.functions.now c.loop-index.index no_function l c.loop-index.invariant.kept c.requires in
    omega (arith, f.narrow, f.ordered)

pub returns-in_err-function-clause-met : goal.returns-in_err-function-clause-met
returns-in_err-function-clause-met c =
    let bs = c.args.cursor.now.bytes.now in
    let counts = map function_arguments (map function_entry_of (map function_entry c.args.functions.now)) in
    let l : c.loop-index.index < length c.loop-index.functions = omega arith in
    let p = err_from_is_err_and c.from_residual.result c.from_residual.ensures.1 in
    rw (p.1, p.2)
    (c.loop-index.invariant.met ∙
    series_fault (λ i s. record_at bs 1 (eqb i 0) (get_or counts i 0) s.after) (length c.args.functions.now) c.loop-index.index _ _ _ (omega arith)
    (ap (λ n. record_at bs 1 (eqb c.loop-index.index 0) n c.loop-index.cursor.offset) (count_kept function_entry function_entry_of function_arguments c.loop-index.functions c.args.functions.now c.loop-index.index no_function l c.loop-index.invariant.kept) ∙
    read_same (λ bs. record_at bs 1 (eqb c.loop-index.index 0) (get_or c.loop-index.functions c.loop-index.index no_function).entry.arguments c.loop-index.cursor.offset) bs _ _ c.loop-index.invariant.lent c.in_err-function.ensures.met))

pub loop-index-preserved : goal.loop-index-preserved
loop-index-preserved c =
    let bs = c.args.cursor.now.bytes.now in
    let counts = map function_arguments (map function_entry_of (map function_entry c.args.functions.now)) in
    let l : c.loop-index.index < length c.loop-index.functions = omega arith in
    record {
      met =
          c.loop-index.invariant.met ∙
          series_more (λ i s. record_at bs 1 (eqb i 0) (get_or counts i 0) s.after) (length c.args.functions.now) c.loop-index.index _ _ _ _ _ (omega arith)
          (filled_more (λ f. signature_of f.signature) c.loop-index.functions c.loop-index.index _ l)
          (ap (λ n. record_at bs 1 (eqb c.loop-index.index 0) n c.loop-index.cursor.offset) (count_kept function_entry function_entry_of function_arguments c.loop-index.functions c.args.functions.now c.loop-index.index no_function l c.loop-index.invariant.kept) ∙
          read_same (λ bs. record_at bs 1 (eqb c.loop-index.index 0) (get_or c.loop-index.functions c.loop-index.index no_function).entry.arguments c.loop-index.cursor.offset) bs _ _ c.loop-index.invariant.lent c.in_ok-function.ensures.met);
      lent = c.in_ok-function.ensures.lent ∙ c.loop-index.invariant.lent;
      kept = kept_map function_entry c.loop-index.functions c.args.functions.now c.loop-index.index _ _ refl c.loop-index.invariant.kept;
      lettered = filled_all FunctionLettered c.loop-index.functions c.loop-index.index _ l c.loop-index.invariant.lettered c.in_ok-function.ensures.lettered;
      inside =
          filled_all (FunctionLettersInside bs) c.loop-index.functions c.loop-index.index _ l c.loop-index.invariant.inside
          (subst (λ xs. LettersInside xs c.in_ok-function.field-0) c.loop-index.invariant.lent c.in_ok-function.ensures.inside);
      gives = filled_first (λ f. f.signature.result_letter ≡ 0x77) c.loop-index.functions c.loop-index.index _ l c.loop-index.invariant.gives (λ z. c.in_ok-function.ensures.gives (eq-eqb c.loop-index.index 0 z));
    }

pub returns-clause-met : goal.returns-clause-met
returns-clause-met c =
    let counts = map function_arguments (map function_entry_of (map function_entry c.args.functions.now)) in
    c.loop-index.invariant.met ∙
    series_end (λ i s. record_at c.args.cursor.now.bytes.now 1 (eqb i 0) (get_or counts i 0) s.after) (length c.args.functions.now) c.loop-index.index _ _ _ (omega arith)
    (ap (map (λ f. signature_of f.signature)) (take_all c.loop-index.index c.loop-index.functions (omega arith)))
