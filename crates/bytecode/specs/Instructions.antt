-- Instructions by their bytes, and the starts of a code.
use Rattle.std.specs.Prelude.{ℕ, zero, suc, ◌+◌, ◌-◌, ◌*◌, Bool, true, false, cond, List, length, replicate, ℤ, pos, negsuc, Some, None, Option, ◌==◌, nat_le, nat_lt, slice_index, slice_set}
use Rattle.std.proofs.Common.{to_z}
use Rattle.std.specs.Int.{w8, w16}
use Rattle.bytecode.specs.declared.instruction.Operation.TheVariants.{Add, Sub, Mul, Div, Rem, And, Or, Xor, Shl, Shr}
use Rattle.bytecode.specs.declared.instruction.Order.TheVariants.{Less, GreaterOrEqual, Greater, LessOrEqual}
use Rattle.bytecode.specs.declared.instruction.Instruction.{Instruction}
use Rattle.bytecode.specs.declared.instruction.Instruction.TheVariants.{Nop, Pop, Dup, Swap, AconstNull, Aldc, Bipush, Ildc, Vload, Vstore, Binary, IfCmpeq, IfCmpne, IfIcmp, Goto, Invokestatic, Invokenative, Return, New, Newarray, Arraylength, Aaddf, Aadds, Imload, Cmload, Amload, Imstore, Cmstore, Amstore}
use Rattle.bytecode.specs.Outcome.{Out, bad, good}

-- an opcode and the two bytes after it: b is a signed byte where it is a number to push, b and c together are an unsigned
-- index or a signed offset, the most significant byte first
abbrev pub instruction_of : ℕ → ℕ → ℕ → Option Instruction
instruction_of op b c =
    cond (op == 0x00) (Some Nop) (
    cond (op == 0x01) (Some AconstNull) (
    cond (op == 0x10) (Some (Bipush (to_z w8 b))) (
    cond (op == 0x13) (Some (Ildc (b * 256 + c))) (
    cond (op == 0x14) (Some (Aldc (b * 256 + c))) (
    cond (op == 0x15) (Some (Vload b)) (
    cond (op == 0x2E) (Some Imload) (
    cond (op == 0x2F) (Some Amload) (
    cond (op == 0x34) (Some Cmload) (
    cond (op == 0x36) (Some (Vstore b)) (
    cond (op == 0x4E) (Some Imstore) (
    cond (op == 0x4F) (Some Amstore) (
    cond (op == 0x55) (Some Cmstore) (
    cond (op == 0x57) (Some Pop) (
    cond (op == 0x59) (Some Dup) (
    cond (op == 0x5F) (Some Swap) (
    cond (op == 0x60) (Some (Binary Add)) (
    cond (op == 0x62) (Some (Aaddf b)) (
    cond (op == 0x63) (Some Aadds) (
    cond (op == 0x64) (Some (Binary Sub)) (
    cond (op == 0x68) (Some (Binary Mul)) (
    cond (op == 0x6C) (Some (Binary Div)) (
    cond (op == 0x70) (Some (Binary Rem)) (
    cond (op == 0x78) (Some (Binary Shl)) (
    cond (op == 0x7A) (Some (Binary Shr)) (
    cond (op == 0x7E) (Some (Binary And)) (
    cond (op == 0x80) (Some (Binary Or)) (
    cond (op == 0x82) (Some (Binary Xor)) (
    cond (op == 0x9F) (Some (IfCmpeq (to_z w16 (b * 256 + c)))) (
    cond (op == 0xA0) (Some (IfCmpne (to_z w16 (b * 256 + c)))) (
    cond (op == 0xA1) (Some (IfIcmp Less (to_z w16 (b * 256 + c)))) (
    cond (op == 0xA2) (Some (IfIcmp GreaterOrEqual (to_z w16 (b * 256 + c)))) (
    cond (op == 0xA3) (Some (IfIcmp Greater (to_z w16 (b * 256 + c)))) (
    cond (op == 0xA4) (Some (IfIcmp LessOrEqual (to_z w16 (b * 256 + c)))) (
    cond (op == 0xA7) (Some (Goto (to_z w16 (b * 256 + c)))) (
    cond (op == 0xB0) (Some Return) (
    cond (op == 0xB7) (Some (Invokenative (b * 256 + c))) (
    cond (op == 0xB8) (Some (Invokestatic (b * 256 + c))) (
    cond (op == 0xBB) (Some (New b)) (
    cond (op == 0xBC) (Some (Newarray b)) (
    cond (op == 0xBE) (Some Arraylength) (
    None)))))))))))))))))))))))))))))))))))))))))

-- how many bytes an instruction has
abbrev pub size_of : Instruction → ℕ
size_of Nop = 1
size_of Pop = 1
size_of Dup = 1
size_of Swap = 1
size_of AconstNull = 1
size_of (Aldc c) = 3
size_of (Bipush b) = 2
size_of (Ildc c) = 3
size_of (Vload i) = 2
size_of (Vstore i) = 2
size_of (Binary op) = 1
size_of (IfCmpeq o) = 3
size_of (IfCmpne o) = 3
size_of (IfIcmp order o) = 3
size_of (Goto o) = 3
size_of (Invokestatic c) = 3
size_of (Invokenative c) = 3
size_of Return = 1
size_of (New s) = 2
size_of (Newarray s) = 2
size_of Arraylength = 1
size_of (Aaddf f) = 2
size_of Aadds = 1
size_of Imload = 1
size_of Cmload = 1
size_of Amload = 1
size_of Imstore = 1
size_of Cmstore = 1
size_of Amstore = 1

abbrev pub byte_at : List ℕ → ℕ → ℕ
byte_at code p = slice_index code p

-- an instruction whose bytes all stand in the code
abbrev pub whole : List ℕ → ℕ → Option Instruction → Option Instruction
whole code p None = None
whole code p (Some i) = cond (nat_le (p + size_of i) (length code)) (Some i) None

abbrev pub decode_at : List ℕ → ℕ → Option Instruction
decode_at code p = whole code p (instruction_of (byte_at code p) (byte_at code (p + 1)) (byte_at code (p + 2)))

-- a branch goes to its own place plus its offset; before the code there is no place
abbrev pub target : ℕ → ℤ → Option ℕ
target p (pos n) = Some (p + n)
target p (negsuc n) = cond (nat_lt n p) (Some (p - suc n)) None

-- ## The starts: place 0, and the place after each instruction, decoded in order, that is still in the code

-- the walk from p on, at most so many instructions; what cannot be decoded is fault 17 at its function and place
abbrev pub onward : ℕ → ℕ → (ℕ → Out (List Bool)) → Option Instruction → Out (List Bool)
onward f p next None = bad (17, f, p)
onward f p next (Some i) = next (p + size_of i)

unfoldable pub walk : ℕ → List ℕ → ℕ → ℕ → List Bool → Out (List Bool)
walk f code zero p marks = good marks
walk f code (suc k) p marks =
    cond (nat_lt p (length code)) (onward f p (λ q. walk f code k q (slice_set marks p true)) (decode_at code p)) (good marks)

-- a mark for each byte of the code, true at the starts
abbrev pub starts_of : ℕ → List ℕ → Out (List Bool)
starts_of f code = walk f code (length code) 0 (replicate (length code) false)
