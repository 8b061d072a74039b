-- What the entries of a package stand for, and what is known of them.
use Rattle.std.specs.Prelude.{◌≡◌, ℕ, ◌+◌, ◌-◌, ◌*◌, ◌^◌, ◌<◌, ◌≤◌, List, [], map, length, take, drop, slice_index_or}
use Rattle.std.specs.List.{All}
use Rattle.bytecode.specs.Program as program
use Rattle.reader.specs.declared.package.Signature.{Signature}
use Rattle.reader.specs.declared.package.FunctionEntry.{FunctionEntry}
use Rattle.reader.specs.declared.package.NativeEntry.{NativeEntry}
use Rattle.reader.specs.declared.package.Function.{Function}
use Rattle.reader.specs.declared.package.Native.{Native}
use Rattle.reader.specs.declared.sheet.Sort.{Sort}
use Rattle.std.specs.Simd.{first_chunks}
use Rattle.reader.specs.Fields.{byte, bytes_from, four}
use Rattle.reader.specs.Layout as layout
use Rattle.reader.specs.Layout.{kind_of, code_bytes}

-- ## What they stand for

-- the number of a record's sort
abbrev pub sort_number : Sort → ℕ
sort_number Sort.Function = 1
sort_number Sort.Native = 2

-- four bytes are an integer
abbrev pub integer_of : List ℕ → ℕ
integer_of bs = four bs 0

abbrev pub signature_of : Signature → program.Signature
signature_of s = record { arguments = map kind_of s.argument_letters.now; result = kind_of s.result_letter }

abbrev pub function_entry_of : FunctionEntry → layout.FunctionEntry
function_entry_of e = record { arguments = e.arguments; variables = e.variables; code = take e.size e.onward.now }

abbrev pub function_of : Function → program.Function
function_of f = record { signature = signature_of f.signature; variables = f.entry.variables; code = take f.entry.size f.entry.onward.now }

abbrev pub native_entry_of : NativeEntry → layout.NativeEntry
native_entry_of e = record { arguments = e.arguments; index = e.index }

abbrev pub native_of : Native → program.Native
native_of f = record { signature = signature_of f.signature; index = f.entry.index }

abbrev pub function_entry : Function → FunctionEntry
function_entry f = f.entry

abbrev pub native_entry : Native → NativeEntry
native_entry f = f.entry

-- ## What is known of them

-- integers stand in the package from an offset on, and so do strings
pub record IntegersAt (bs : List ℕ) (integers : List (List ℕ)) (p : ℕ) : Type 0 where
  pub inside : p + 4 * length integers ≤ length bs
  pub there : integers ≡ first_chunks 4 (length integers) (drop p bs)

pub record StringsAt (bs strings : List ℕ) (p : ℕ) : Type 0 where
  pub inside : p + length strings ≤ length bs
  pub there : strings ≡ bytes_from bs p (length strings)

-- a package of at most 16,384 bytes, the integers and the strings inside it; integers are words; strings end with 0
pub record FrontFits (bs : List ℕ) (integers : List (List ℕ)) (strings : List ℕ) : Type 0 where
  pub short : length bs ≤ 16384
  pub integers_few : 4 * length integers ≤ length bs
  pub integers_inside : ∥ ((p : ℕ) × IntegersAt bs integers p) ∥₁
  pub words : (k : ℕ) → integer_of (slice_index_or integers k []) < 2 ^ 32
  pub strings_few : length strings ≤ length bs
  pub strings_inside : ∥ ((p : ℕ) × StringsAt bs strings p) ∥₁
  pub strings_end : 0 < length strings → byte strings (length strings - 1) ≡ 0

-- the same where they stand when they were read: integers from offset 8 on, strings behind them and their count
pub record FrontRead (bs : List ℕ) (integers : List (List ℕ)) (strings : List ℕ) : Type 0 where
  pub short : length bs ≤ 16384
  pub integers_inside : 8 + 4 * length integers ≤ length bs
  pub integers_there : integers ≡ first_chunks 4 (length integers) (drop 8 bs)
  pub words : (k : ℕ) → integer_of (slice_index_or integers k []) < 2 ^ 32
  pub strings_inside : 10 + 4 * length integers + length strings ≤ length bs
  pub strings_there : strings ≡ bytes_from bs (10 + 4 * length integers) (length strings)
  pub strings_end : 0 < length strings → byte strings (length strings - 1) ≡ 0

-- a function within the limits, its code inside the package
pub record FunctionFits (e : FunctionEntry) : Type 0 where
  pub some : 0 < e.size
  pub few : e.size ≤ 4096
  pub inside : e.size ≤ length e.onward.now
  pub narrow : e.variables ≤ 32
  pub ordered : e.arguments ≤ e.variables

-- a function's code and what stands behind it are the end of the package
pub record FunctionInside (bs : List ℕ) (e : FunctionEntry) : Type 0 where
  pub inside : length e.onward.now ≤ length bs
  pub there : e.onward.now ≡ drop (length bs - length e.onward.now) bs

-- the letters of a signature stand in the package: that of the result at an offset, those of the arguments behind it
pub record LettersAt (bs : List ℕ) (s : Signature) (p : ℕ) : Type 0 where
  pub inside : p + 1 + length s.argument_letters.now ≤ length bs
  pub result : s.result_letter ≡ byte bs p
  pub arguments : s.argument_letters.now ≡ bytes_from bs (p + 1) (length s.argument_letters.now)

abbrev pub LettersInside : List ℕ → Signature → Type 0
LettersInside bs s = ∥ ((p : ℕ) × LettersAt bs s p) ∥₁

abbrev pub FunctionLettersInside : List ℕ → Function → Type 0
FunctionLettersInside bs f = LettersInside bs f.signature

abbrev pub NativeLettersInside : List ℕ → Native → Type 0
NativeLettersInside bs f = LettersInside bs f.signature

-- n bytes of the package stand behind a function's code
abbrev pub FunctionBehind : ℕ → FunctionEntry → Type 0
FunctionBehind n e = e.size + n ≤ length e.onward.now

abbrev pub NativeFits : NativeEntry → Type 0
NativeFits e = e.arguments ≤ 4

-- as many letters as arguments
abbrev pub FunctionLettered : Function → Type 0
FunctionLettered f = length f.signature.argument_letters.now ≡ f.entry.arguments

abbrev pub NativeLettered : Native → Type 0
NativeLettered f = length f.signature.argument_letters.now ≡ f.entry.arguments

-- the first function takes nothing, and gives a word
abbrev pub MainTakes : List FunctionEntry → Type 0
MainTakes es = (d : FunctionEntry) → 0 < length es → (slice_index_or es 0 d).arguments ≡ 0

abbrev pub MainGives : List Function → Type 0
MainGives fs = (d : Function) → 0 < length fs → (slice_index_or fs 0 d).signature.result_letter ≡ 0x77

-- functions of so many code bytes, each with its letters and two bytes behind it: there is more than codes in a package
pub record FunctionsKnown (fs : List Function) (size : ℕ) : Type 0 where
  pub each : All FunctionFits (map function_entry fs)
  pub behind : All (FunctionBehind 2) (map function_entry fs)
  pub lettered : All FunctionLettered fs
  pub sum : code_bytes (map function_entry_of (map function_entry fs)) ≡ size
  pub little : size ≤ 4096
  pub takes : MainTakes (map function_entry fs)
  pub gives : MainGives fs

pub record NativesKnown (fs : List Native) : Type 0 where
  pub each : All NativeFits (map native_entry fs)
  pub lettered : All NativeLettered fs
