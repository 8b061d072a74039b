use Rattle.std.proofs.Common.{◌≡◌, ◌+◌, ◌*◌, map, drop}
use Rattle.std.specs.Simd.{first_chunks}
use Rattle.reader.specs.Entries.{integer_of}
use Rattle.reader.specs.Layout.{integer_at, integers_at}
use Rattle.reader.proofs.Repeating.{onwards}
use Rattle.reader.proofs.pool.read_integers.Given as goal

abbrev pub invariant-loop : goal.invariant-loop
invariant-loop l = record {
  met : integers_at l.fn.cursor.bytes.now l.count l.fn.cursor.offset ≡
      onwards (λ i s. integer_at l.fn.cursor.bytes.now s.after) l.count l.counter
      (map integer_of (first_chunks 4 l.counter (drop l.fn.cursor.offset l.fn.cursor.bytes.now))) l.cursor.offset;
  lent : l.cursor.bytes.now ≡ l.fn.cursor.bytes.now;
  at : l.cursor.offset ≡ l.fn.cursor.offset + 4 * l.counter;
}
