-- What every package promises of its program.
use Rattle.std.proofs.Common.{◌≡◌, ℕ, ◌^◌, ◌<◌, ◌≤◌, true, false, cond, eqb, List, [], ◌∷◌, map, length, get_or, take, ap, ◌∙◌, subst, sym, refl, arith}
use Rattle.std.proofs.lemmas.List.{length-take-le, length-map, get_or-take}
use Rattle.std.proofs.Math.ListN.{get_or-map}
use Rattle.std.proofs.ByRecursion.{All-from_get_or}
use Rattle.std.specs.List.{AllByRecursion}
use Rattle.bytecode.specs.declared.kind.Kind.TheVariants.{Word, Reference}
use Rattle.reader.specs.Layout.{kind_of}
use Rattle.reader.specs.Entries.{integer_of, function_entry, function_of, native_entry, native_of, FunctionFits, FunctionLettered, NativeFits, NativeLettered}
use Rattle.reader.specs.View.{program_of, no_function, no_native, function_in, KnownKind, FunctionFormed, NativeFormed, Fitting}
use Rattle.reader.specs.declared.package.Package.{Package}
use Rattle.reader.specs.declared.package.Function.{Function}
use Rattle.reader.specs.declared.package.Native.{Native}
use Rattle.reader.proofs.Joining.{code_same}
use Rattle.reader.proofs.Places.{mapped_length, front_at_lem, all_at, entry_at}
use Rattle.reader.proofs.Turns.{no_function as absent_function, no_native as absent_native}

-- ## Every letter tells a kind

letter_known : (x : ℕ) → KnownKind (kind_of x)
letter_known x = elim (eqb x 0x77) as (λ b. KnownKind (cond b Word Reference)) [ true ↦ tt | false ↦ tt ]

letters_known : (xs : List ℕ) → AllByRecursion KnownKind (map kind_of xs)
letters_known [] = tt
letters_known (x ∷ xs) = (letter_known x, letters_known xs)

-- ## Functions and natives within the limits

function_formed : (f : Function) → FunctionFits f.entry → FunctionLettered f → FunctionFormed (function_of f)
function_formed f h k =
    let n : length (take f.entry.size f.entry.onward.now) ≡ f.entry.size = length-take-le f.entry.size f.entry.onward.now h.inside in
    let m : length (map kind_of f.signature.argument_letters.now) ≡ f.entry.arguments = length-map f.signature.argument_letters.now kind_of ∙ k in
    record {
      some = omega (arith, n, h.some);
      few = omega (arith, n, h.few);
      narrow = h.narrow;
      ordered = omega (arith, m, h.ordered);
      takes = letters_known f.signature.argument_letters.now;
      gives = letter_known f.signature.result_letter;
    }

native_formed : (f : Native) → NativeFits f.entry → NativeLettered f → NativeFormed (native_of f)
native_formed f h k =
    let m : length (map kind_of f.signature.argument_letters.now) ≡ f.entry.arguments = length-map f.signature.argument_letters.now kind_of ∙ k in
    record { few = omega (arith, m, h); takes = letters_known f.signature.argument_letters.now; gives = letter_known f.signature.result_letter }

module _ (p : Package) where
  function_at : (i : ℕ) → i < p.function_count → FunctionFormed (function_in (program_of p) i)
  function_at i l =
      let n : p.function_count ≤ length p.functions = omega arith in
      subst FunctionFormed (sym (front_at_lem function_of p.functions p.function_count i absent_function no_function n l))
      (function_formed (get_or p.functions i absent_function)
      (entry_at function_entry FunctionFits p.functions p.function_count i absent_function n l p.functions_known.each)
      (all_at FunctionLettered p.functions p.function_count i absent_function n l p.functions_known.lettered))

  native_at : (i : ℕ) → i < p.native_count → NativeFormed (get_or (program_of p).natives i no_native)
  native_at i l =
      let n : p.native_count ≤ length p.natives = omega arith in
      subst NativeFormed (sym (front_at_lem native_of p.natives p.native_count i absent_native no_native n l))
      (native_formed (get_or p.natives i absent_native)
      (entry_at native_entry NativeFits p.natives p.native_count i absent_native n l p.natives_known.each)
      (all_at NativeLettered p.natives p.native_count i absent_native n l p.natives_known.lettered))

pub function_counted : (p : Package) → length (program_of p).functions ≡ p.function_count
function_counted p = mapped_length function_of p.functions p.function_count (omega arith)

pub native_counted : (p : Package) → length (program_of p).natives ≡ p.native_count
native_counted p = mapped_length native_of p.natives p.native_count (omega arith)

none_taken : (xs : List ℕ) → length xs ≡ 0 → map kind_of xs ≡ []
none_taken [] e = refl
none_taken (x ∷ xs) e = absurd (omega arith)

pub fitting_of : (p : Package) → Fitting p
fitting_of p =
    let n : p.function_count ≤ length p.functions = omega arith in
    let m : p.native_count ≤ length p.natives = omega arith in
    let fs = function_counted p in
    let ns = native_counted p in
    let main = get_or p.functions 0 absent_function in
    let main_is = front_at_lem function_of p.functions p.function_count 0 absent_function no_function n p.some_functions in
    let entry_is = front_at_lem function_entry p.functions p.function_count 0 absent_function absent_function.entry n p.some_functions in
    let es : 0 < length (map function_entry (take p.function_count p.functions)) = (let k = mapped_length function_entry p.functions p.function_count n in let s = p.some_functions in omega arith) in
    let gs : 0 < length (take p.function_count p.functions) = (let k = length-take-le p.function_count p.functions n in let s = p.some_functions in omega arith) in
    let sum = code_same (take p.function_count p.functions) ∙ p.functions_known.sum in
    record {
      front = p.front;
      codes_inside = p.codes_inside;
      codes_behind = p.functions_known.behind;
      letters_inside = p.letters_inside;
      native_letters_inside = p.native_letters_inside;
      some_functions = p.some_functions;
      few_functions = p.few_functions;
      few_natives = p.few_natives;
      function_count = fs;
      native_count = ns;
      words = λ k. subst (λ x. x < 2 ^ 32) (sym (get_or-map integer_of p.integers.now k [])) (p.front.words k);
      strings = let a = p.front.strings_few in let b = p.front.short in omega arith;
      strings_end = p.front.strings_end;
      formed = All-from_get_or FunctionFormed (program_of p).functions no_function (λ i l. function_at p i (omega arith));
      natives_formed = All-from_get_or NativeFormed (program_of p).natives no_native (λ i l. native_at p i (omega arith));
      takes = ap (λ f. f.signature.arguments) main_is ∙ none_taken main.signature.argument_letters.now
          (all_at FunctionLettered p.functions p.function_count 0 absent_function n p.some_functions p.functions_known.lettered ∙ ap (λ e. e.arguments) (sym entry_is) ∙ p.functions_known.takes absent_function.entry es);
      gives = ap (λ f. f.signature.result) main_is ∙ ap kind_of (first_gives p.functions p.function_count n p.some_functions (p.functions_known.gives absent_function gs));
      code_sum = sum;
      little = let h = p.functions_known.little in omega arith;
    }
  where
    first_gives : (fs : List Function) (n : ℕ) → n ≤ length fs → 0 < n → (get_or (take n fs) 0 absent_function).signature.result_letter ≡ 0x77 →
        (get_or fs 0 absent_function).signature.result_letter ≡ 0x77
    first_gives fs n k l h = ap (λ f. f.signature.result_letter) (sym (get_or-take n fs 0 absent_function l)) ∙ h
