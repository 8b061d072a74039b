-- A package and its sheet, field by field in file order: the program that they hold, or the first check that fails.
-- Each field is looked at for being cut (10) before its value is.
use Rattle.std.specs.Prelude.{ℕ, ◌+◌, ◌-◌, Bool, false, cond, not, ◌&&◌, ◌||◌, List, [], ◌∷◌, ◌++◌, map, length, drop, ◌==◌, nat_le, nat_lt, slice_index}
use Rattle.std.specs.List.{list_all}
use Rattle.bytecode.specs.declared.kind.Kind.{Kind}
use Rattle.bytecode.specs.declared.kind.Kind.TheVariants.{Word, Reference}
use Rattle.bytecode.specs.Outcome.{Out, good, bind, repeat}
use Rattle.bytecode.specs.Program.{Signature, Function, Native, Program}
use Rattle.reader.specs.Fields.{byte, two_low, bytes_from, field, byte_at, two_at, four_at, bytes_at, test}

-- ## Reading one thing after another

-- something that was read, and the offset after it
pub record Read (A : Type 0) : Type 0 where
  pub value : A
  pub after : ℕ

-- one more: the step has its number and what was read before
abbrev pub one_more : {A : Type 0} → (ℕ → Read (List A) → Out (Read A)) → ℕ → Read (List A) → Out (Read (List A))
one_more step i s = bind (step i s) (λ r. good (record { value = s.value ++ r.value ∷ []; after = r.after }))

-- n of them, the first at offset p
abbrev pub series : {A : Type 0} → (ℕ → Read (List A) → Out (Read A)) → ℕ → ℕ → Out (Read (List A))
series step n p = repeat (one_more step) n 0 (record { value = []; after = p })

-- ## Up to the strings

-- the first four bytes (11)
abbrev pub magic_at : List ℕ → Out ℕ
magic_at bs =
    bind (field bs 0 4 4) (λ after.
    test (byte bs 0 == 0xC0 && (byte bs 1 == 0xC0 && (byte bs 2 == 0xFF && byte bs 3 == 0xEE))) 11 0 (good after))

abbrev pub integer_at : List ℕ → ℕ → Out (Read ℕ)
integer_at bs p = bind (four_at bs p) (λ x. good (record { value = x; after = p + 4 }))

abbrev pub integers_at : List ℕ → ℕ → ℕ → Out (Read (List ℕ))
integers_at bs n p = series (λ i s. integer_at bs s.after) n p

-- n string bytes, the last of them 0 (14)
abbrev pub strings_at : List ℕ → ℕ → ℕ → Out (Read (List ℕ))
strings_at bs n p =
    bind (bytes_at bs p n) (λ strings. test (n == 0 || byte bs (p + n - 1) == 0) 14 p
    (good (record { value = strings; after = p + n })))

pub record Front : Type 0 where
  pub integers : List ℕ
  pub strings : List ℕ

-- the length of the whole (13), the first four bytes, the version (12), the integers and the strings
abbrev pub front_at : List ℕ → Out (Read Front)
front_at bs =
    test (nat_le (length bs) 16384) 13 0
    (bind (magic_at bs) (λ p.
    bind (two_at bs p) (λ version. test (version == 0x17) 12 p
    (bind (two_at bs (p + 2)) (λ n.
    bind (integers_at bs n (p + 4)) (λ integers.
    bind (two_at bs integers.after) (λ m.
    bind (strings_at bs m (integers.after + 2)) (λ strings.
    good (record { value = record { integers = integers.value; strings = strings.value }; after = strings.after })))))))))

-- ## The functions and the natives, as their pools tell them

pub record FunctionEntry : Type 0 where
  pub arguments : ℕ
  pub variables : ℕ
  pub code : List ℕ

abbrev pub function_arguments : FunctionEntry → ℕ
function_arguments f = f.arguments

-- the code bytes of functions
abbrev pub code_bytes : List FunctionEntry → ℕ
code_bytes [] = 0
code_bytes (f ∷ fs) = length f.code + code_bytes fs

-- function i, after functions of so many code bytes: main (function 0) has no arguments, a function at most 32 variables and no
-- fewer than its arguments, a code at least one byte, and all codes together at most 4,096 (13)
abbrev pub function_at : List ℕ → ℕ → ℕ → ℕ → Out (Read FunctionEntry)
function_at bs i p before =
    bind (byte_at bs p) (λ arguments. test (nat_lt 0 i || arguments == 0) 13 p
    (bind (byte_at bs (p + 1)) (λ variables. test (nat_le variables 32 && nat_le arguments variables) 13 (p + 1)
    (bind (two_at bs (p + 2)) (λ size. test (nat_lt 0 size && nat_le (before + size) 4096) 13 (p + 2)
    (bind (bytes_at bs (p + 4) size) (λ code.
    good (record { value = record { arguments = arguments; variables = variables; code = code }; after = p + 4 + size }))))))))

abbrev pub functions_at : List ℕ → ℕ → ℕ → Out (Read (List FunctionEntry))
functions_at bs n p = series (λ i s. function_at bs i s.after (code_bytes s.value)) n p

pub record NativeEntry : Type 0 where
  pub arguments : ℕ
  pub index : ℕ

abbrev pub native_arguments : NativeEntry → ℕ
native_arguments f = f.arguments

-- a native has at most 4 arguments (13)
abbrev pub native_at : List ℕ → ℕ → Out (Read NativeEntry)
native_at bs p =
    bind (two_at bs p) (λ arguments. test (nat_le arguments 4) 13 p
    (bind (two_at bs (p + 2)) (λ index.
    good (record { value = record { arguments = arguments; index = index }; after = p + 4 }))))

abbrev pub natives_at : List ℕ → ℕ → ℕ → Out (Read (List NativeEntry))
natives_at bs n p = series (λ i s. native_at bs s.after) n p

-- ## The sheet

-- the letters of kinds: 77 is a word, 61 a reference
abbrev pub is_letter : ℕ → Bool
is_letter x = x == 0x77 || x == 0x61

abbrev pub kind_of : ℕ → Kind
kind_of x = cond (x == 0x77) Word Reference

-- the letter of the result, and behind it those of the arguments
abbrev pub signature_from : List ℕ → Signature
signature_from letters = record { arguments = map kind_of (drop 1 letters); result = kind_of (byte letters 0) }

-- whether bytes are a record of the sheet: their number without the first two, the number of its sort (1 function, 2 native), then the letters;
-- that of main has to give a word
abbrev pub is_record : ℕ → Bool → ℕ → List ℕ → Bool
is_record sort main arguments found =
    two_low found 0 == 3 + arguments &&
    (two_low found 2 == sort &&
    (list_all is_letter (drop 4 found) &&
    (not main || byte (drop 4 found) 0 == 0x77)))

-- a record for so many arguments. Whatever is wrong with it is refused at its offset (15)
abbrev pub record_at : List ℕ → ℕ → Bool → ℕ → ℕ → Out (Read Signature)
record_at bs sort main arguments p =
    test (nat_le (p + (5 + arguments)) (length bs) && is_record sort main arguments (bytes_from bs p (5 + arguments))) 15 p
    (good (record { value = signature_from (drop 4 (bytes_from bs p (5 + arguments))); after = p + (5 + arguments) }))

-- n records, for functions or natives of these argument counts
abbrev pub function_sheet_at : List ℕ → ℕ → List ℕ → ℕ → Out (Read (List Signature))
function_sheet_at bs n counts p = series (λ i s. record_at bs 1 (i == 0) (slice_index counts i) s.after) n p

abbrev pub native_sheet_at : List ℕ → ℕ → List ℕ → ℕ → Out (Read (List Signature))
native_sheet_at bs n counts p = series (λ i s. record_at bs 2 false (slice_index counts i) s.after) n p

abbrev pub functions_with : List FunctionEntry → List Signature → List Function
functions_with [] ss = []
functions_with (f ∷ fs) [] = []
functions_with (f ∷ fs) (s ∷ ss) = record { signature = s; variables = f.variables; code = f.code } ∷ functions_with fs ss

abbrev pub natives_with : List NativeEntry → List Signature → List Native
natives_with [] ss = []
natives_with (f ∷ fs) [] = []
natives_with (f ∷ fs) (s ∷ ss) = record { signature = s; index = f.index } ∷ natives_with fs ss

-- the functions and the natives with their signatures
pub record Signed : Type 0 where
  pub functions : List Function
  pub natives : List Native

-- the whole sheet of n functions and m natives; nothing stands behind it (15)
abbrev pub sheet_at : List ℕ → ℕ → List FunctionEntry → ℕ → List NativeEntry → ℕ → Out Signed
sheet_at bs n functions m natives p =
    bind (function_sheet_at bs n (map function_arguments functions) p) (λ first.
    bind (native_sheet_at bs m (map native_arguments natives) first.after) (λ second.
    test (second.after == length bs) 15 second.after
    (good (record { functions = functions_with functions first.value; natives = natives_with natives second.value }))))

-- ## The package

-- 1 to 64 functions, at most 32 natives (13)
abbrev pub package_at : List ℕ → Out Program
package_at bs =
    bind (front_at bs) (λ front.
    bind (two_at bs front.after) (λ n. test (nat_lt 0 n && nat_le n 64) 13 front.after
    (bind (functions_at bs n (front.after + 2)) (λ functions.
    bind (two_at bs functions.after) (λ m. test (nat_le m 32) 13 functions.after
    (bind (natives_at bs m (functions.after + 2)) (λ natives.
    bind (sheet_at bs n functions.value m natives.value natives.after) (λ sheet.
    good (record { integers = front.value.integers; strings = front.value.strings; functions = sheet.functions; natives = sheet.natives })))))))))
