use Rattle.std.proofs.Common.{◌≡◌, length, map, sym, ap, ◌∙◌, arith}
use Rattle.std.proofs.lemmas.Bool.{eqb-true}
use Rattle.reader.specs.Layout.{native_sheet_at, native_arguments}
use Rattle.reader.specs.Entries.{native_entry, native_entry_of, function_entry_of}
use Rattle.reader.proofs.Joining.{sheet_joined}
use Rattle.reader.proofs.Turns.{read_same}
use Rattle.reader.proofs.sheet.read_sheet.Goals as goal

pub returns-clause-met : goal.returns-clause-met
returns-clause-met c =
    let bs = c.args.cursor.now.bytes.now in
    let counts = map native_arguments (map native_entry_of (map native_entry c.args.natives.now)) in
    let same = ap length (c.in_ok-read_native_sheet.ensures.lent ∙ c.in_ok-read_function_sheet.ensures.lent) in
    let none : length c.rest.result.now ≡ 0 = eqb-true (length c.rest.result.now) 0 (sym c.if-not-is_empty.ensures) in
    sheet_joined bs (length c.args.functions.now) _ (length c.args.natives.now) _ c.args.cursor.now.offset _ _ _ c.read_native_sheet.new.cursor.offset
    (ap (map function_entry_of) c.in_ok-read_function_sheet.ensures.kept) (ap (map native_entry_of) c.in_ok-read_native_sheet.ensures.kept)
    c.in_ok-read_function_sheet.ensures.met
    (read_same (λ bs. native_sheet_at bs (length c.args.natives.now) counts c.read_function_sheet.new.cursor.offset) bs _ _ c.in_ok-read_function_sheet.ensures.lent c.in_ok-read_native_sheet.ensures.met)
    (omega (arith, c.rest.ensures.long))
