use Rattle.std.proofs.Common.{◌≡◌, ℕ, ◌+◌, ◌-◌, ◌≤◌, map, length}
use Rattle.bytecode.specs.Instructions.{walk, starts_of}
use Rattle.verifier.specs.Fresh.{marks_start, fresh_record}
use Rattle.verifier.proofs.starts.mark_starts.Given as goal

-- k instructions may still be walked, which suffices for the rest of the code
abbrev pub invariant-loop-place : goal.invariant-loop-place
invariant-loop-place l =
    ((k : ℕ) × (length l.code ≤ l.place + k) × (starts_of l.function l.code ≡ walk l.function l.code k l.place (map marks_start l.table))) ×
    (l.table ≡ map fresh_record (map marks_start l.table))

abbrev pub decreases-loop-place : goal.decreases-loop-place
decreases-loop-place l = length l.code - l.place
