use Rattle.std.proofs.Common.{◌≡◌, eqb, map, length, get_or, take}
use Rattle.std.specs.List.{AllByRecursion}
use Rattle.reader.specs.Layout.{record_at, function_sheet_at, function_arguments}
use Rattle.reader.specs.Entries.{signature_of, function_entry, function_entry_of, FunctionLettered, FunctionLettersInside, MainGives}
use Rattle.reader.proofs.Repeating.{onwards}
use Rattle.reader.proofs.sheet.read_function_sheet.Given as goal

abbrev pub invariant-loop-index : goal.invariant-loop-index
invariant-loop-index l = record {
  met : function_sheet_at l.initial.cursor.bytes.now (length l.initial.functions) (map function_arguments (map function_entry_of (map function_entry l.initial.functions))) l.initial.cursor.offset ≡
      onwards (λ i s. record_at l.initial.cursor.bytes.now 1 (eqb i 0) (get_or (map function_arguments (map function_entry_of (map function_entry l.initial.functions))) i 0) s.after)
      (length l.initial.functions) l.index (map (λ f. signature_of f.signature) (take l.index l.functions)) l.cursor.offset;
  lent : l.cursor.bytes.now ≡ l.initial.cursor.bytes.now;
  kept : map function_entry l.functions ≡ map function_entry l.initial.functions;
  lettered : AllByRecursion FunctionLettered (take l.index l.functions);
  inside : AllByRecursion (FunctionLettersInside l.initial.cursor.bytes.now) (take l.index l.functions);
  gives : MainGives (take l.index l.functions);
}
