use Rattle.std.proofs.Common.{◌<◌, ◌∙◌, length, map, ap, arith}
use Rattle.std.proofs.lemmas.Result.{err_from_is_err_and}
use Rattle.std.proofs.lemmas.List.{take_all}
use Rattle.reader.specs.Layout.{native_at}
use Rattle.reader.specs.Entries.{native_entry, native_entry_of, NativeFits}
use Rattle.reader.proofs.Repeating.{series_more, series_fault, series_end}
use Rattle.reader.proofs.Turns.{read_same, entered_more, entered_all}
use Rattle.reader.proofs.pool.read_natives.Goals as goal

pub returns-in_err-native-clause-met : goal.returns-in_err-native-clause-met
returns-in_err-native-clause-met c =
    let bs = c.args.cursor.now.bytes.now in
    let p = err_from_is_err_and c.from_residual.result c.from_residual.ensures.1 in
    rw (p.1, p.2)
    (c.loop-native.invariant.met ∙
    series_fault (λ i s. native_at bs s.after) (length c.args.natives.now) c.loop-native.native-index _ _ _ (omega arith)
    (read_same (λ bs. native_at bs c.loop-native.cursor.offset) bs _ _ c.loop-native.invariant.lent c.in_err-native.ensures.met))

pub loop-native-preserved : goal.loop-native-preserved
loop-native-preserved c =
    let bs = c.args.cursor.now.bytes.now in
    let l : c.loop-native.native-index < length c.loop-native.natives = omega arith in
    record {
      met =
          c.loop-native.invariant.met ∙
          series_more (λ i s. native_at bs s.after) (length c.args.natives.now) c.loop-native.native-index _ _ _ _ _ (omega arith)
          (entered_more native_entry_of native_entry c.loop-native.natives c.loop-native.native-index _ l)
          (read_same (λ bs. native_at bs c.loop-native.cursor.offset) bs _ _ c.loop-native.invariant.lent c.in_ok-native.ensures.met);
      lent = c.in_ok-native.ensures.lent ∙ c.loop-native.invariant.lent;
      fit = entered_all native_entry NativeFits c.loop-native.natives c.loop-native.native-index _ l c.loop-native.invariant.fit c.in_ok-native.ensures.fits;
    }

pub returns-clause-met : goal.returns-clause-met
returns-clause-met c =
    c.loop-native.invariant.met ∙
    series_end (λ i s. native_at c.args.cursor.now.bytes.now s.after) (length c.args.natives.now) c.loop-native.native-index _ _ _ (omega arith)
    (ap (λ xs. map native_entry_of (map native_entry xs)) (take_all c.loop-native.native-index c.loop-native.natives (omega arith)))
