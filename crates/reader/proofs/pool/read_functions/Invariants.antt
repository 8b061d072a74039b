use Rattle.std.proofs.Common.{◌≡◌, ◌-◌, ◌≤◌, map, length, take}
use Rattle.std.specs.List.{AllByRecursion}
use Rattle.reader.specs.Layout.{function_at, functions_at, code_bytes}
use Rattle.reader.specs.Entries.{function_entry, function_entry_of, FunctionFits, FunctionInside, FunctionBehind, MainTakes}
use Rattle.reader.proofs.Repeating.{onwards}
use Rattle.reader.proofs.pool.read_functions.Given as goal

abbrev pub invariant-loop-index : goal.invariant-loop-index
invariant-loop-index l = record {
  met : functions_at l.initial.cursor.bytes.now (length l.initial.functions) l.initial.cursor.offset ≡
      onwards (λ i s. function_at l.initial.cursor.bytes.now i s.after (code_bytes s.value)) (length l.initial.functions) l.index
      (map function_entry_of (map function_entry (take l.index l.functions))) l.cursor.offset;
  lent : l.cursor.bytes.now ≡ l.initial.cursor.bytes.now;
  fit : AllByRecursion FunctionFits (map function_entry (take l.index l.functions));
  inside : AllByRecursion (FunctionInside l.initial.cursor.bytes.now) (map function_entry (take l.index l.functions));
  behind : AllByRecursion (FunctionBehind (length l.initial.cursor.bytes.now - l.cursor.offset)) (map function_entry (take l.index l.functions));
  takes : MainTakes (map function_entry (take l.index l.functions));
  sum : code_bytes (map function_entry_of (map function_entry (take l.index l.functions))) ≡ l.code_size;
  little : l.code_size ≤ 4096;
}
