-- Pools and sheet together are the functions and natives of the program.
use Rattle.std.proofs.Common.{◌≡◌, ℕ, ◌+◌, eqb, List, [], ◌∷◌, map, length, take, sym, refl, ap, ◌∙◌, eq-eqb}
use Rattle.std.proofs.lemmas.Bool.{cond-true}
use Rattle.bytecode.specs.Outcome.{Out, good, bind, refuse}
use Rattle.bytecode.specs.Program.{Signature}
use Rattle.reader.specs.Fields.{test}
use Rattle.reader.specs.Layout.{Read, FunctionEntry, NativeEntry, function_arguments, native_arguments, code_bytes, function_sheet_at, native_sheet_at, functions_with, natives_with, Signed, sheet_at}
use Rattle.reader.specs.Entries.{signature_of, function_entry, function_entry_of, function_of, native_entry, native_entry_of, native_of}
use Rattle.reader.specs.View.{code_size}
use Rattle.reader.specs.declared.package.Function.{Function}
use Rattle.reader.specs.declared.package.Native.{Native}

abbrev function_signature : Function → Signature
function_signature f = signature_of f.signature

abbrev native_signature : Native → Signature
native_signature f = signature_of f.signature

functions_joined : (fs : List Function) → functions_with (map function_entry_of (map function_entry fs)) (map function_signature fs) ≡ map function_of fs
functions_joined [] = refl
functions_joined (f ∷ fs) = ap (λ gs. function_of f ∷ gs) (functions_joined fs)

natives_joined : (fs : List Native) → natives_with (map native_entry_of (map native_entry fs)) (map native_signature fs) ≡ map native_of fs
natives_joined [] = refl
natives_joined (f ∷ fs) = ap (λ gs. native_of f ∷ gs) (natives_joined fs)

pub code_same : (fs : List Function) → code_size (map function_of fs) ≡ code_bytes (map function_entry_of (map function_entry fs))
code_same [] = refl
code_same (f ∷ fs) = ap (λ n. length (take f.entry.size f.entry.onward.now) + n) (code_same fs)

module _ (bs : List ℕ) (n : ℕ) (functions : List FunctionEntry) (m : ℕ) (natives : List NativeEntry) (p : ℕ) where
  second_part : Read (List Signature) → Read (List Signature) → Out Signed
  second_part first second =
      test (eqb second.after (length bs)) 15 second.after
      (good (record { functions = functions_with functions first.value; natives = natives_with natives second.value }))

  sheet_read : (ss ts : List Signature) (q r : ℕ) → function_sheet_at bs n (map function_arguments functions) p ≡ good (record { value = ss; after = q }) →
      native_sheet_at bs m (map native_arguments natives) q ≡ good (record { value = ts; after = r }) → r ≡ length bs →
      sheet_at bs n functions m natives p ≡ good (record { functions = functions_with functions ss; natives = natives_with natives ts })
  unfolding second_part
  sheet_read ss ts q r e f g =
      ap (λ o. bind o (λ first. bind (native_sheet_at bs m (map native_arguments natives) first.after) (second_part first))) e ∙
      ap (λ o. bind o (second_part (record { value = ss; after = q }))) f ∙
      cond-true (eqb r (length bs)) (good (record { functions = functions_with functions ss; natives = natives_with natives ts })) (refuse 15 r) (eq-eqb r (length bs) g)

  pub sheet_joined : (gs : List Function) (hs : List Native) (q r : ℕ) → map function_entry_of (map function_entry gs) ≡ functions → map native_entry_of (map native_entry hs) ≡ natives →
      function_sheet_at bs n (map function_arguments functions) p ≡ good (record { value = map function_signature gs; after = q }) →
      native_sheet_at bs m (map native_arguments natives) q ≡ good (record { value = map native_signature hs; after = r }) → r ≡ length bs →
      sheet_at bs n functions m natives p ≡ good (record { functions = map function_of gs; natives = map native_of hs })
  sheet_joined gs hs q r j k e f g =
      let x : functions_with functions (map function_signature gs) ≡ map function_of gs = ap (λ es. functions_with es (map function_signature gs)) (sym j) ∙ functions_joined gs in
      let y : natives_with natives (map native_signature hs) ≡ map native_of hs = ap (λ es. natives_with es (map native_signature hs)) (sym k) ∙ natives_joined hs in
      sheet_read (map function_signature gs) (map native_signature hs) q r e f g ∙
      ap (λ fs. good (record { functions = fs; natives = natives_with natives (map native_signature hs) })) x ∙
      ap (λ ns. good (record { functions = map function_of gs; natives = ns })) y
