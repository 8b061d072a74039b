use Rattle.std.proofs.Common.{◌<◌, ◌∙◌, length, map, get_or, ap, refl, subst, arith, false}
use Rattle.std.proofs.lemmas.Result.{err_from_is_err_and}
use Rattle.std.proofs.lemmas.List.{take_all}
use Rattle.reader.specs.Layout.{record_at, native_arguments}
use Rattle.reader.specs.Entries.{NativeFits, signature_of, native_entry, native_entry_of, NativeLettered, LettersInside, NativeLettersInside}
use Rattle.reader.proofs.Repeating.{series_more, series_fault, series_end}
use Rattle.reader.proofs.Turns.{no_native, read_same, filled_more, filled_all, count_kept, kept_map, kept_at}
use Rattle.reader.proofs.sheet.read_native_sheet.Goals as goal

pub read_record-requires : goal.read_record-requires
read_record-requires c =
    let l : c.loop-native.native-index < length c.loop-native.natives = omega arith in
    let f = kept_at native_entry NativeFits c.loop-native.natives c.args.natives.now c.loop-native.native-index no_native l c.loop-native.invariant.kept c.requires in
    omega (arith, f)

pub returns-in_err-native-clause-met : goal.returns-in_err-native-clause-met
returns-in_err-native-clause-met c =
    let bs = c.args.cursor.now.bytes.now in
    let counts = map native_arguments (map native_entry_of (map native_entry c.args.natives.now)) in
    let l : c.loop-native.native-index < length c.loop-native.natives = omega arith in
    let p = err_from_is_err_and c.from_residual.result c.from_residual.ensures.1 in
    rw (p.1, p.2)
    (c.loop-native.invariant.met ∙
    series_fault (λ i s. record_at bs 2 false (get_or counts i 0) s.after) (length c.args.natives.now) c.loop-native.native-index _ _ _ (omega arith)
    (ap (λ n. record_at bs 2 false n c.loop-native.cursor.offset) (count_kept native_entry native_entry_of native_arguments c.loop-native.natives c.args.natives.now c.loop-native.native-index no_native l c.loop-native.invariant.kept) ∙
    read_same (λ bs. record_at bs 2 false (get_or c.loop-native.natives c.loop-native.native-index no_native).entry.arguments c.loop-native.cursor.offset) bs _ _ c.loop-native.invariant.lent c.in_err-native.ensures.met))

pub loop-native-preserved : goal.loop-native-preserved
loop-native-preserved c =
    let bs = c.args.cursor.now.bytes.now in
    let counts = map native_arguments (map native_entry_of (map native_entry c.args.natives.now)) in
    let l : c.loop-native.native-index < length c.loop-native.natives = omega arith in
    record {
      met =
          c.loop-native.invariant.met ∙
          series_more (λ i s. record_at bs 2 false (get_or counts i 0) s.after) (length c.args.natives.now) c.loop-native.native-index _ _ _ _ _ (omega arith)
          (filled_more (λ f. signature_of f.signature) c.loop-native.natives c.loop-native.native-index _ l)
          (ap (λ n. record_at bs 2 false n c.loop-native.cursor.offset) (count_kept native_entry native_entry_of native_arguments c.loop-native.natives c.args.natives.now c.loop-native.native-index no_native l c.loop-native.invariant.kept) ∙
          read_same (λ bs. record_at bs 2 false (get_or c.loop-native.natives c.loop-native.native-index no_native).entry.arguments c.loop-native.cursor.offset) bs _ _ c.loop-native.invariant.lent c.in_ok-native.ensures.met);
      lent = c.in_ok-native.ensures.lent ∙ c.loop-native.invariant.lent;
      kept = kept_map native_entry c.loop-native.natives c.args.natives.now c.loop-native.native-index _ _ refl c.loop-native.invariant.kept;
      lettered = filled_all NativeLettered c.loop-native.natives c.loop-native.native-index _ l c.loop-native.invariant.lettered c.in_ok-native.ensures.lettered;
      inside =
          filled_all (NativeLettersInside bs) c.loop-native.natives c.loop-native.native-index _ l c.loop-native.invariant.inside
          (subst (λ xs. LettersInside xs c.in_ok-native.field-0) c.loop-native.invariant.lent c.in_ok-native.ensures.inside);
    }

pub returns-clause-met : goal.returns-clause-met
returns-clause-met c =
    let counts = map native_arguments (map native_entry_of (map native_entry c.args.natives.now)) in
    c.loop-native.invariant.met ∙
    series_end (λ i s. record_at c.args.cursor.now.bytes.now 2 false (get_or counts i 0) s.after) (length c.args.natives.now) c.loop-native.native-index _ _ _ (omega arith)
    (ap (map (λ f. signature_of f.signature)) (take_all c.loop-native.native-index c.loop-native.natives (omega arith)))
