use Rattle.std.proofs.Common.{◌≡◌, false, map, length, get_or, take}
use Rattle.std.specs.List.{AllByRecursion}
use Rattle.reader.specs.Layout.{record_at, native_sheet_at, native_arguments}
use Rattle.reader.specs.Entries.{signature_of, native_entry, native_entry_of, NativeLettered, NativeLettersInside}
use Rattle.reader.proofs.Repeating.{onwards}
use Rattle.reader.proofs.sheet.read_native_sheet.Given as goal

abbrev pub invariant-loop-native : goal.invariant-loop-native
invariant-loop-native l = record {
  met : native_sheet_at l.initial.cursor.bytes.now (length l.initial.natives) (map native_arguments (map native_entry_of (map native_entry l.initial.natives))) l.initial.cursor.offset ≡
      onwards (λ i s. record_at l.initial.cursor.bytes.now 2 false (get_or (map native_arguments (map native_entry_of (map native_entry l.initial.natives))) i 0) s.after)
      (length l.initial.natives) l.native-index (map (λ f. signature_of f.signature) (take l.native-index l.natives)) l.cursor.offset;
  lent : l.cursor.bytes.now ≡ l.initial.cursor.bytes.now;
  kept : map native_entry l.natives ≡ map native_entry l.initial.natives;
  lettered : AllByRecursion NativeLettered (take l.native-index l.natives);
  inside : AllByRecursion (NativeLettersInside l.initial.cursor.bytes.now) (take l.native-index l.natives);
}
