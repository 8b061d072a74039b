-- What a package that was read stands for, and what is known of it.
use Rattle.std.specs.Prelude.{◌≡◌, ℕ, ◌+◌, ◌-◌, ◌^◌, ◌<◌, ◌≤◌, List, [], ◌∷◌, map, length, take, slice_index, slice_index_or}
use Rattle.std.specs.List.{All, AllByRecursion}
use Rattle.bytecode.specs.declared.kind.Kind.{Kind}
use Rattle.bytecode.specs.declared.kind.Kind.TheVariants.{Unknown, Word, Reference}
use Rattle.bytecode.specs.Program as program
use Rattle.bytecode.specs.Program.{Program}
use Rattle.reader.specs.declared.package.Package.{Package}
use Rattle.reader.specs.Fields.{byte}
use Rattle.reader.specs.Entries.{integer_of, function_entry, function_of, native_of, FrontFits, FunctionInside, FunctionBehind, FunctionLettersInside, NativeLettersInside}

abbrev pub program_of : Package → Program
program_of p =
    record {
      integers = map integer_of p.integers.now;
      strings = p.strings.now;
      functions = map function_of (take p.function_count p.functions);
      natives = map native_of (take p.native_count p.natives);
    }

-- function i and native i of a program; past the end of their lists stands one with nothing in it
abbrev pub no_function : program.Function
no_function = record { signature = record { arguments = []; result = Word }; variables = 0; code = [] }

abbrev pub function_in : Program → ℕ → program.Function
function_in P i = slice_index_or P.functions i no_function

abbrev pub no_native : program.Native
no_native = record { signature = record { arguments = []; result = Word }; index = 0 }

abbrev pub native_in : Program → ℕ → program.Native
native_in P i = slice_index_or P.natives i no_native

-- the byte at a place of a code, and the two after it, so far as they stand in the code
pub record BytesAt (code : List ℕ) (place x y z : ℕ) : Type 0 where
  pub here : x ≡ byte code place
  pub next : place + 1 < length code → y ≡ byte code (place + 1)
  pub last : place + 2 < length code → z ≡ byte code (place + 2)

-- the code bytes of a program's functions
abbrev pub code_size : List program.Function → ℕ
code_size [] = 0
code_size (f ∷ fs) = length f.code + code_size fs

-- ## What is known of the program

-- a kind that a letter can tell
abbrev pub KnownKind : Kind → Type 0
KnownKind Unknown = ⊥
KnownKind Word = Unit {0}
KnownKind Reference = Unit {0}

-- a function of the program within the limits
pub record FunctionFormed (g : program.Function) : Type 0 where
  pub some : 0 < length g.code
  pub few : length g.code ≤ 4096
  pub narrow : g.variables ≤ 32
  pub ordered : length g.signature.arguments ≤ g.variables
  pub takes : AllByRecursion KnownKind g.signature.arguments
  pub gives : KnownKind g.signature.result

pub record NativeFormed (g : program.Native) : Type 0 where
  pub few : length g.signature.arguments ≤ 4
  pub takes : AllByRecursion KnownKind g.signature.arguments
  pub gives : KnownKind g.signature.result

-- what every package keeps to: integers, strings, codes and letters lie in its bytes, and all limits hold; main takes nothing and gives a word
pub record Fitting (p : Package) : Type 0 where
  pub front : FrontFits p.bytes.now p.integers.now p.strings.now
  pub codes_inside : All (FunctionInside p.bytes.now) (map function_entry (take p.function_count p.functions))
  pub codes_behind : All (FunctionBehind 2) (map function_entry (take p.function_count p.functions))
  pub letters_inside : All (FunctionLettersInside p.bytes.now) (take p.function_count p.functions)
  pub native_letters_inside : All (NativeLettersInside p.bytes.now) (take p.native_count p.natives)
  pub some_functions : 0 < p.function_count
  pub few_functions : p.function_count ≤ 64
  pub few_natives : p.native_count ≤ 32
  pub function_count : length (program_of p).functions ≡ p.function_count
  pub native_count : length (program_of p).natives ≡ p.native_count
  pub words : (k : ℕ) → slice_index (program_of p).integers k < 2 ^ 32
  pub strings : length (program_of p).strings ≤ 16384
  pub strings_end : 0 < length (program_of p).strings → byte (program_of p).strings (length (program_of p).strings - 1) ≡ 0
  pub formed : AllByRecursion FunctionFormed (program_of p).functions
  pub natives_formed : AllByRecursion NativeFormed (program_of p).natives
  pub takes : (function_in (program_of p) 0).signature.arguments ≡ []
  pub gives : (function_in (program_of p) 0).signature.result ≡ Word
  pub code_sum : code_size (program_of p).functions ≡ p.code_size
  pub little : code_size (program_of p).functions ≤ 4096
