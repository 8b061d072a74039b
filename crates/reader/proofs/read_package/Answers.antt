use Rattle.std.proofs.Common.{◌≡◌, ◌-◌, ◌≤◌, ◌∙◌, length, ap, refl, arith, length-take-le}
use Rattle.reader.specs.Entries.{function_entry, FunctionInside, FunctionLettersInside, NativeLettersInside}
use Rattle.reader.proofs.Fits.{fitting_of}
use Rattle.reader.proofs.Lettering.{taken_long, all_moved, mapped_moved, room_kept, front_fits, functions_joined, natives_joined}
use Rattle.reader.proofs.Turns.{behind_less}
use Rattle.reader.proofs.read_package.Goals as goal

pub returns-clause-fitting : goal.returns-clause-fitting
returns-clause-fitting c = fitting_of _

pub invariant_of-result-clause-codes_inside : goal.invariant_of-result-clause-codes_inside
invariant_of-result-clause-codes_inside c =
    let f : length c.read_functions.new.functions ≡ c.in_ok-function_count.field-0 = c.read_functions.auto.functions ∙ length-take-le _ _ (omega arith) in
    let e : length c.read_sheet.new.functions ≡ c.in_ok-function_count.field-0 = c.read_sheet.auto.functions ∙ taken_long _ c.read_functions.new.functions _ f in
    mapped_moved FunctionInside c.args.bytes.now c.pair.new.self.bytes.now (c.in_ok-function_count.ensures.lent ∙ c.in_ok-integers.ensures.lent) function_entry _ c.read_functions.new.functions c.read_sheet.new.functions _ _ f e
    c.in_ok-read_sheet.ensures.kept c.in_ok-code_size.ensures.inside

pub invariant_of-result-clause-letters_inside : goal.invariant_of-result-clause-letters_inside
invariant_of-result-clause-letters_inside c =
    let f : length c.read_functions.new.functions ≡ c.in_ok-function_count.field-0 = c.read_functions.auto.functions ∙ length-take-le _ _ (omega arith) in
    let e : length c.read_sheet.new.functions ≡ c.in_ok-function_count.field-0 = c.read_sheet.auto.functions ∙ taken_long _ c.read_functions.new.functions _ f in
    all_moved FunctionLettersInside c.args.bytes.now c.read_natives.new.cursor.bytes.now
    (c.in_ok-read_natives.ensures.lent ∙ c.in_ok-native_count.ensures.lent ∙ c.in_ok-code_size.ensures.lent ∙ c.in_ok-function_count.ensures.lent ∙ c.in_ok-integers.ensures.lent) _ _ _ e
    c.in_ok-read_sheet.ensures.inside

pub invariant_of-result-clause-native_letters_inside : goal.invariant_of-result-clause-native_letters_inside
invariant_of-result-clause-native_letters_inside c =
    let f : length c.read_natives.new.natives ≡ c.in_ok-native_count.field-0 = c.read_natives.auto.natives ∙ length-take-le _ _ (omega arith) in
    let e : length c.read_sheet.new.natives ≡ c.in_ok-native_count.field-0 = c.read_sheet.auto.natives ∙ taken_long _ c.read_natives.new.natives _ f in
    all_moved NativeLettersInside c.args.bytes.now c.read_natives.new.cursor.bytes.now
    (c.in_ok-read_natives.ensures.lent ∙ c.in_ok-native_count.ensures.lent ∙ c.in_ok-code_size.ensures.lent ∙ c.in_ok-function_count.ensures.lent ∙ c.in_ok-integers.ensures.lent) _ _ _ e
    c.in_ok-read_sheet.ensures.natives_inside

pub invariant_of-result-clause-native_room : goal.invariant_of-result-clause-native_room
invariant_of-result-clause-native_room c =
    let f : length c.read_natives.new.natives ≡ c.in_ok-native_count.field-0 = c.read_natives.auto.natives ∙ length-take-le _ _ (omega arith) in
    let e : length c.read_sheet.new.natives ≡ c.in_ok-native_count.field-0 = c.read_sheet.auto.natives ∙ taken_long _ c.read_natives.new.natives _ f in
    room_kept c.in_ok-native_count.field-0 32 c.read_sheet.new.natives _ e (omega arith) (room_kept c.in_ok-native_count.field-0 32 c.read_natives.new.natives _ f (omega arith) refl)

pub invariant_of-result-clause-functions_known : goal.invariant_of-result-clause-functions_known
invariant_of-result-clause-functions_known c =
    let f : length c.read_functions.new.functions ≡ c.in_ok-function_count.field-0 = c.read_functions.auto.functions ∙ length-take-le _ _ (omega arith) in
    let e : length c.read_sheet.new.functions ≡ c.in_ok-function_count.field-0 = c.read_sheet.auto.functions ∙ taken_long _ c.read_functions.new.functions _ f in
    let two : 2 ≤ length c.pair.new.self.bytes.now - c.read_functions.new.cursor.offset =
    (let a = c.in_ok-native_count.ensures.moved in let b = c.pair-2.new.self.within in let d = ap length c.in_ok-native_count.ensures.lent in let g = ap length c.in_ok-code_size.ensures.lent in omega arith) in
    functions_joined c.in_ok-function_count.field-0 c.read_functions.new.functions c.read_sheet.new.functions _ _ f e c.in_ok-read_sheet.ensures.kept _ c.in_ok-code_size.ensures.fit
    (behind_less (length c.pair.new.self.bytes.now - c.read_functions.new.cursor.offset) 2 _ two c.in_ok-code_size.ensures.behind)
    c.in_ok-read_sheet.ensures.lettered c.in_ok-code_size.ensures.sum c.in_ok-code_size.ensures.little c.in_ok-code_size.ensures.takes c.in_ok-read_sheet.ensures.gives

pub invariant_of-result-clause-natives_known : goal.invariant_of-result-clause-natives_known
invariant_of-result-clause-natives_known c =
    let f : length c.read_natives.new.natives ≡ c.in_ok-native_count.field-0 = c.read_natives.auto.natives ∙ length-take-le _ _ (omega arith) in
    let e : length c.read_sheet.new.natives ≡ c.in_ok-native_count.field-0 = c.read_sheet.auto.natives ∙ taken_long _ c.read_natives.new.natives _ f in
    natives_joined c.in_ok-native_count.field-0 c.read_natives.new.natives c.read_sheet.new.natives _ _ f e c.in_ok-read_sheet.ensures.natives_kept c.in_ok-read_natives.ensures.fit
    c.in_ok-read_sheet.ensures.natives_lettered

pub invariant_of-result-clause-front : goal.invariant_of-result-clause-front
invariant_of-result-clause-front c = front_fits _ _ _ c.in_ok-integers.ensures.fits
