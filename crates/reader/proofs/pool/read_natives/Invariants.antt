use Rattle.std.proofs.Common.{◌≡◌, map, length, take}
use Rattle.std.specs.List.{AllByRecursion}
use Rattle.reader.specs.Layout.{native_at, natives_at}
use Rattle.reader.specs.Entries.{native_entry, native_entry_of, NativeFits}
use Rattle.reader.proofs.Repeating.{onwards}
use Rattle.reader.proofs.pool.read_natives.Given as goal

abbrev pub invariant-loop-native : goal.invariant-loop-native
invariant-loop-native l = record {
  met : natives_at l.initial.cursor.bytes.now (length l.initial.natives) l.initial.cursor.offset ≡
      onwards (λ i s. native_at l.initial.cursor.bytes.now s.after) (length l.initial.natives) l.native-index
      (map native_entry_of (map native_entry (take l.native-index l.natives))) l.cursor.offset;
  lent : l.cursor.bytes.now ≡ l.initial.cursor.bytes.now;
  fit : AllByRecursion NativeFits (map native_entry (take l.native-index l.natives));
}
