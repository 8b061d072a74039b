-- Packages and what they read to, computed.
use Rattle.std.specs.Prelude.{◌≡◌, ℕ, List, [], ◌∷◌, ◌++◌, take, slice_set}
use Rattle.bytecode.specs.declared.kind.Kind.TheVariants.{Word, Reference}
use Rattle.bytecode.specs.Outcome.{good, bad}
use Rattle.bytecode.specs.Program.{Program}
use Rattle.reader.specs.Layout.{package_at}

-- six times seven, by one function
abbrev pub product_program : Program
product_program =
    record {
      integers = [];
      strings = [];
      functions = record {
        signature = record { arguments = []; result = Word };
        variables = 0;
        code = 0x10 ∷ 0x06 ∷ 0x10 ∷ 0x07 ∷ 0x68 ∷ 0xB0 ∷ [];
      } ∷ [];
      natives = [];
    }

-- an integer, a string, two functions and a native
abbrev pub mixed : List ℕ
mixed =
    0xC0 ∷ 0xC0 ∷ 0xFF ∷ 0xEE ∷ 0x00 ∷ 0x17 ∷
    0x00 ∷ 0x01 ∷ 0x80 ∷ 0x02 ∷ 0x03 ∷ 0x04 ∷
    0x00 ∷ 0x02 ∷ 0x61 ∷ 0x00 ∷
    0x00 ∷ 0x02 ∷ 0x00 ∷ 0x00 ∷ 0x00 ∷ 0x01 ∷ 0xB0 ∷ 0x02 ∷ 0x03 ∷ 0x00 ∷ 0x02 ∷ 0x15 ∷ 0x01 ∷
    0x00 ∷ 0x01 ∷ 0x00 ∷ 0x01 ∷ 0x00 ∷ 0x10 ∷
    0x03 ∷ 0x00 ∷ 0x01 ∷ 0x00 ∷ 0x77 ∷
    0x05 ∷ 0x00 ∷ 0x01 ∷ 0x00 ∷ 0x61 ∷ 0x77 ∷ 0x61 ∷
    0x04 ∷ 0x00 ∷ 0x02 ∷ 0x00 ∷ 0x77 ∷ 0x61 ∷ []

abbrev pub mixed_program : Program
mixed_program =
    record {
      integers = 0x80020304 ∷ [];
      strings = 0x61 ∷ 0x00 ∷ [];
      functions =
          record { signature = record { arguments = []; result = Word }; variables = 0; code = 0xB0 ∷ [] } ∷
          record { signature = record { arguments = Word ∷ Reference ∷ []; result = Reference }; variables = 3; code = 0x15 ∷ 0x01 ∷ [] } ∷ [];
      natives = record { signature = record { arguments = Reference ∷ []; result = Word }; index = 16 } ∷ [];
    }

-- the package of six times seven, cut and changed, and the mixed one: what each reads to
pub record Samples (product : List ℕ) : Type 0 where
  pub accepted : package_at product ≡ good product_program
  pub magic_cut : package_at (take 3 product) ≡ bad (10, 0, 0)
  pub magic_wrong : package_at (slice_set product 3 0xEF) ≡ bad (11, 0, 0)
  pub version_wrong : package_at (slice_set product 5 0x18) ≡ bad (12, 0, 4)
  pub strings_cut : package_at (slice_set product 9 0x14) ≡ bad (10, 0, 10)
  pub strings_unended : package_at (slice_set product 9 0x06) ≡ bad (14, 0, 10)
  pub no_functions : package_at (slice_set product 11 0x00) ≡ bad (13, 0, 10)
  pub main_takes_one : package_at (slice_set product 12 0x01) ≡ bad (13, 0, 12)
  pub many_variables : package_at (slice_set product 13 0x21) ≡ bad (13, 0, 13)
  pub code_empty : package_at (slice_set product 15 0x00) ≡ bad (13, 0, 14)
  pub code_long : package_at (slice_set product 14 0x11) ≡ bad (13, 0, 14)
  pub code_cut : package_at (take 21 product) ≡ bad (10, 0, 16)
  pub sheet_missing : package_at (take 24 product) ≡ bad (15, 0, 24)
  pub sheet_cut : package_at (take 28 product) ≡ bad (15, 0, 24)
  pub main_gives_reference : package_at (slice_set product 28 0x61) ≡ bad (15, 0, 24)
  pub left_over : package_at (product ++ 0x00 ∷ []) ≡ bad (15, 0, 29)
  pub mixed_accepted : package_at mixed ≡ good mixed_program
  pub integer_cut : package_at (take 11 mixed) ≡ bad (10, 0, 8)
  pub few_variables : package_at (slice_set mixed 24 0x01) ≡ bad (13, 0, 24)
  pub native_takes_five : package_at (slice_set mixed 32 0x05) ≡ bad (13, 0, 31)
  pub record_long : package_at (slice_set mixed 40 0x06) ≡ bad (15, 0, 40)
  pub record_sort : package_at (slice_set mixed 49 0x01) ≡ bad (15, 0, 47)
  pub letter_unknown : package_at (slice_set mixed 46 0x62) ≡ bad (15, 0, 40)
