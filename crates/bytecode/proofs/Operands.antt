-- An instruction depends only on the bytes that it has.
use Rattle.std.proofs.Common.{◌≡◌, ℕ, ◌+◌, ◌*◌, ◌≤◌, Bool, true, false, cond, eqb, leb, List, length, Some, None, Option, refl, ap, ◌∙◌, ap₂, arith, w8, w16, to_z, leb-true}
use Rattle.bytecode.specs.declared.instruction.Order.TheVariants.{Less, GreaterOrEqual, Greater, LessOrEqual}
use Rattle.bytecode.specs.declared.instruction.Instruction.{Instruction}
use Rattle.bytecode.specs.declared.instruction.Instruction.TheVariants.{Aldc, Bipush, Ildc, Vload, Vstore, IfCmpeq, IfCmpne, IfIcmp, Goto, Invokestatic, Invokenative, New, Newarray, Aaddf}
use Rattle.bytecode.specs.Instructions.{instruction_of, size_of, byte_at, whole, decode_at}

-- an instruction that a test chooses, with other bytes in the place of those that it does not have
choose : {i : Instruction} {x y z w : Option Instruction} (t : Bool) → (x ≡ Some i → z ≡ Some i) → (y ≡ Some i → w ≡ Some i) → cond t x y ≡ Some i → cond t z w ≡ Some i
choose true f g e = f e
choose false f g e = g e

module _ (b c d e : ℕ) (i : Instruction) (second : 2 ≤ size_of i → d ≡ b) (third : 3 ≤ size_of i → e ≡ c) where
  alone : {j : Option Instruction} → j ≡ Some i → j ≡ Some i
  alone h = h

  sized : (j : Instruction) (n : ℕ) → size_of j ≡ n → ◌≡◌ {A = Option Instruction} (Some j) (Some i) → n ≤ size_of i
  sized j n s h = let k : j ≡ i = cc in let z = ap size_of k in omega arith

  narrow : (f : ℕ → Instruction) → ((n : ℕ) → size_of (f n) ≡ 2) → Some (f b) ≡ Some i → Some (f d) ≡ Some i
  narrow f s h = ap (λ n. Some (f n)) (second (sized (f b) 2 (s b) h)) ∙ h

  wide : (f : ℕ → Instruction) → ((n : ℕ) → size_of (f n) ≡ 3) → Some (f (b * 256 + c)) ≡ Some i → Some (f (d * 256 + e)) ≡ Some i
  wide f s h =
      let n = sized (f (b * 256 + c)) 3 (s (b * 256 + c)) h in
      ap₂ (λ m n. Some (f (m * 256 + n))) (second (omega arith)) (third n) ∙ h

  same_instruction : (op : ℕ) → instruction_of op b c ≡ Some i → instruction_of op d e ≡ Some i
  same_instruction op =
      choose (eqb op 0x00) alone (
      choose (eqb op 0x01) alone (
      choose (eqb op 0x10) (narrow (λ n. Bipush (to_z w8 n)) (λ n. refl)) (
      choose (eqb op 0x13) (wide (λ n. Ildc n) (λ n. refl)) (
      choose (eqb op 0x14) (wide (λ n. Aldc n) (λ n. refl)) (
      choose (eqb op 0x15) (narrow (λ n. Vload n) (λ n. refl)) (
      choose (eqb op 0x2E) alone (
      choose (eqb op 0x2F) alone (
      choose (eqb op 0x34) alone (
      choose (eqb op 0x36) (narrow (λ n. Vstore n) (λ n. refl)) (
      choose (eqb op 0x4E) alone (
      choose (eqb op 0x4F) alone (
      choose (eqb op 0x55) alone (
      choose (eqb op 0x57) alone (
      choose (eqb op 0x59) alone (
      choose (eqb op 0x5F) alone (
      choose (eqb op 0x60) alone (
      choose (eqb op 0x62) (narrow (λ n. Aaddf n) (λ n. refl)) (
      choose (eqb op 0x63) alone (
      choose (eqb op 0x64) alone (
      choose (eqb op 0x68) alone (
      choose (eqb op 0x6C) alone (
      choose (eqb op 0x70) alone (
      choose (eqb op 0x78) alone (
      choose (eqb op 0x7A) alone (
      choose (eqb op 0x7E) alone (
      choose (eqb op 0x80) alone (
      choose (eqb op 0x82) alone (
      choose (eqb op 0x9F) (wide (λ n. IfCmpeq (to_z w16 n)) (λ n. refl)) (
      choose (eqb op 0xA0) (wide (λ n. IfCmpne (to_z w16 n)) (λ n. refl)) (
      choose (eqb op 0xA1) (wide (λ n. IfIcmp Less (to_z w16 n)) (λ n. refl)) (
      choose (eqb op 0xA2) (wide (λ n. IfIcmp GreaterOrEqual (to_z w16 n)) (λ n. refl)) (
      choose (eqb op 0xA3) (wide (λ n. IfIcmp Greater (to_z w16 n)) (λ n. refl)) (
      choose (eqb op 0xA4) (wide (λ n. IfIcmp LessOrEqual (to_z w16 n)) (λ n. refl)) (
      choose (eqb op 0xA7) (wide (λ n. Goto (to_z w16 n)) (λ n. refl)) (
      choose (eqb op 0xB0) alone (
      choose (eqb op 0xB7) (wide (λ n. Invokenative n) (λ n. refl)) (
      choose (eqb op 0xB8) (wide (λ n. Invokestatic n) (λ n. refl)) (
      choose (eqb op 0xBB) (narrow (λ n. New n) (λ n. refl)) (
      choose (eqb op 0xBC) (narrow (λ n. Newarray n) (λ n. refl)) (
      choose (eqb op 0xBE) alone (
      alone)))))))))))))))))))))))))))))))))))))))))

-- whatever a code's instruction is, its bytes make it, with any others behind the code
pub decoded_bytes : (code : List ℕ) (p x y z : ℕ) (i : Instruction) → decode_at code p ≡ Some i → x ≡ byte_at code p
    → (p + 1 + 1 ≤ length code → y ≡ byte_at code (p + 1)) → (p + 2 + 1 ≤ length code → z ≡ byte_at code (p + 2)) → instruction_of x y z ≡ Some i
decoded_bytes code p x y z i h here next last = pick (instruction_of (byte_at code p) (byte_at code (p + 1)) (byte_at code (p + 2))) refl h
  where
    found : (j : Instruction) (t : Bool) → leb (p + size_of j) (length code) ≡ t → instruction_of (byte_at code p) (byte_at code (p + 1)) (byte_at code (p + 2)) ≡ Some j
        → cond t (Some j) None ≡ Some i → instruction_of x y z ≡ Some i
    found j false q e h = absurd (let n : ◌≡◌ {A = ℕ} 0 1 = cc in let b : ⊥ = omega arith in b)
    found j true q e h =
        let k : j ≡ i = cc in
        let m = ap size_of k in
        let n = leb-true (p + size_of j) (length code) q in
        ap (λ o. instruction_of o y z) here
        ∙ same_instruction (byte_at code (p + 1)) (byte_at code (p + 2)) y z i (λ s. next (omega arith)) (λ s. last (omega arith)) (byte_at code p) (e ∙ ap Some k)

    pick : (o : Option Instruction) → instruction_of (byte_at code p) (byte_at code (p + 1)) (byte_at code (p + 2)) ≡ o → whole code p o ≡ Some i → instruction_of x y z ≡ Some i
    pick None e h = absurd (let n : ◌≡◌ {A = ℕ} 0 1 = cc in let b : ⊥ = omega arith in b)
    pick (Some j) e h = found j (leb (p + size_of j) (length code)) refl e h
