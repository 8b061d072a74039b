-- The instruction that three bytes at a place make is the one that stands there, if one does.
use Rattle.std.proofs.Common.{◌≡◌, ℕ, true, List, is_some, Some, None, Option, sym, refl, arith}
use borrow.Author.Tests.{clash}
use Rattle.bytecode.specs.declared.instruction.Instruction.{Instruction}
use Rattle.bytecode.specs.Instructions.{instruction_of, decode_at}
use Rattle.bytecode.proofs.Operands.{decoded_bytes}
use Rattle.reader.specs.View.{BytesAt}

pub fetched_is : (code : List ℕ) (p x y z : ℕ) → BytesAt code p x y z → is_some (decode_at code p) ≡ true → decode_at code p ≡ instruction_of x y z
fetched_is code p x y z b some = pick (decode_at code p) refl some
  where
    pick : (o : Option Instruction) → decode_at code p ≡ o → is_some o ≡ true → o ≡ instruction_of x y z
    pick None e s = absurd (clash s)
    pick (Some i) e s = sym (decoded_bytes code p x y z i e b.here (λ k. b.next (omega arith)) (λ k. b.last (omega arith)))
