use Rattle.std.proofs.Common.{refl}
use Rattle.bytecode.specs.Outcome.{repeat}
use Rattle.reader.proofs.sample_package.Goals as goal

pub returns : goal.returns
unfolding repeat
returns c =
    record {
      accepted = refl;
      magic_cut = refl;
      magic_wrong = refl;
      version_wrong = refl;
      strings_cut = refl;
      strings_unended = refl;
      no_functions = refl;
      main_takes_one = refl;
      many_variables = refl;
      code_empty = refl;
      code_long = refl;
      code_cut = refl;
      sheet_missing = refl;
      sheet_cut = refl;
      main_gives_reference = refl;
      left_over = refl;
      mixed_accepted = refl;
      integer_cut = refl;
      few_variables = refl;
      native_takes_five = refl;
      record_long = refl;
      record_sort = refl;
      letter_unknown = refl;
    }
