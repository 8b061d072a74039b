-- Where the letters of a record stand in the package, and what is known of all functions and natives when they are put into one.
use Rattle.std.proofs.Common.{◌≡◌, ℕ, ◌+◌, ◌-◌, ◌*◌, ◌≤◌, Bool, true, false, cond, leb, List, ◌++◌, map, length, get_or, take, drop, sym, refl, ap, ◌∙◌, subst, arith, leb-true, length-append}
use Rattle.std.proofs.lemmas.List.{drop-take, drop-drop, take_rest, get_or-take, get_or-drop, length-take-le, length-drop}
use Rattle.std.proofs.lemmas.List.Elements.{All-from_recursion}
use Rattle.std.proofs.Math.Seq.{take-append_seam}
use Rattle.std.specs.List.{All, AllByRecursion}
use Rattle.bytecode.specs.Outcome.{good, refuse}
use Rattle.reader.specs.declared.package.Signature.{Signature}
use Rattle.reader.specs.Fields.{byte, bytes_from, bytes_at}
use Rattle.reader.specs.declared.package.Function.{Function}
use Rattle.reader.specs.declared.package.Native.{Native}
use Rattle.reader.specs.Layout.{code_bytes}
use Rattle.reader.specs.Entries.{FrontFits, FrontRead, LettersInside, function_entry, function_entry_of, native_entry, FunctionFits, FunctionBehind, FunctionLettered, FunctionsKnown, MainTakes, MainGives, NativeFits, NativeLettered, NativesKnown}

found_block : (bs block : List ℕ) (p m : ℕ) → bytes_at bs p m ≡ good block → (p + m ≤ length bs) × (block ≡ take m (drop p bs))
found_block bs block p m e = go (leb (p + m) (length bs)) refl e
  where
    go : (b : Bool) → leb (p + m) (length bs) ≡ b → cond b (good (take m (drop p bs))) (refuse 10 p) ≡ good block → (p + m ≤ length bs) × (block ≡ take m (drop p bs))
    go true q h = (leb-true _ _ q, cc)
    go false q h = cc

-- of a record at p with n arguments, the letters from its fifth byte on
module _ (bs block : List ℕ) (p n : ℕ) (e : bytes_at bs p (5 + n) ≡ good block) where
  abbrev pub letters : List ℕ
  letters = take (length block - 4) (drop 4 block)

  letters_are : letters ≡ take (1 + n) (drop (p + 4) bs)
  letters_are =
      let s : 5 + n ≡ 4 + (1 + n) = omega arith in
      take_rest block 4 ∙ ap (drop 4) ((found_block bs block p (5 + n) e).1 ∙ ap (λ k. take k (drop p bs)) s) ∙ drop-take 4 (1 + n) (drop p bs) ∙
      ap (take (1 + n)) (drop-drop 4 p bs)

  letters_long : length letters ≡ 1 + n
  letters_long =
      let l = (found_block bs block p (5 + n) e).0 in
      ap length letters_are ∙ length-take-le (1 + n) (drop (p + 4) bs) (omega (arith, length-drop (p + 4) bs))

  first_letter : get_or letters 0 0 ≡ byte bs (p + 4)
  first_letter =
      ap (λ xs. get_or xs 0 0) letters_are ∙ get_or-take (1 + n) (drop (p + 4) bs) 0 0 (omega arith) ∙ get_or-drop (p + 4) bs 0 0 ∙
      ap (λ k. get_or bs k 0) (let z : p + 4 + 0 ≡ p + 4 = omega arith in z)

  others : take (length letters - 1) (drop 1 letters) ≡ bytes_from bs (p + 4 + 1) n
  others =
      take_rest letters 1 ∙ ap (drop 1) letters_are ∙ drop-take 1 n (drop (p + 4) bs) ∙ ap (take n) (drop-drop 1 (p + 4) bs)

  pub letters_inside : (s : Signature) → s.result_letter ≡ get_or letters 0 0 → s.argument_letters.now ≡ take (length letters - 1) (drop 1 letters) → LettersInside bs s
  letters_inside s r a =
      let l = (found_block bs block p (5 + n) e).0 in
      let m : length s.argument_letters.now ≡ n =
      ap length (a ∙ others) ∙ length-take-le n (drop (p + 4 + 1) bs) (omega (arith, length-drop (p + 4 + 1) bs)) in
      ∣ (
        p + 4,
        record {
          inside = omega arith;
          result = r ∙ first_letter;
          arguments = a ∙ others ∙ ap (λ k. bytes_from bs (p + 4 + 1) k) (sym m);
        },
      ) ∣₁

-- ## The front of an array, and the bytes that are lent on

front : {X : Type 0} (n : ℕ) (xs rest : List X) → length xs ≡ n → take n (xs ++ rest) ≡ xs
front n xs rest e = ap (λ k. take k (xs ++ rest)) (sym e) ∙ take-append_seam xs rest

pub taken_long : {X : Type 0} (n : ℕ) (xs rest : List X) → length xs ≡ n → length (take n (xs ++ rest)) ≡ n
taken_long n xs rest e = ap length (front n xs rest e) ∙ e

module _ {X : Type 0} (P : List ℕ → X → Type 0) (bs cs : List ℕ) (same : cs ≡ bs) where
  pub all_moved : (n : ℕ) (xs rest : List X) → length xs ≡ n → AllByRecursion (P cs) xs → All (P bs) (take n (xs ++ rest))
  all_moved n xs rest e h = subst (All (P bs)) (sym (front n xs rest e)) (All-from_recursion (P bs) xs (subst (λ b. AllByRecursion (P b) xs) same h))

  pub mapped_moved : {Y : Type 0} (f : Y → X) (n : ℕ) (xs ys before rest : List Y) → length xs ≡ n → length ys ≡ n → map f ys ≡ map f (take n (xs ++ before))
      → AllByRecursion (P cs) (map f xs) → All (P bs) (map f (take n (ys ++ rest)))
  mapped_moved f n xs ys before rest l e k h =
      let g : take n (ys ++ rest) ≡ ys = front n ys rest e in
      let m : map f ys ≡ map f xs = k ∙ ap (map f) (front n xs before l) in
      subst (λ zs. All (P bs) (map f zs)) (sym g) (subst (All (P bs)) (sym m) (All-from_recursion (P bs) (map f xs) (subst (λ b. AllByRecursion (P b) (map f xs)) same h)))

pub room_kept : {X : Type 0} (n m : ℕ) (ys zs : List X) → length ys ≡ n → n ≤ m → length zs ≡ m → length (ys ++ drop n zs) ≡ m
room_kept n m ys zs e l k = omega (arith, length-append ys (drop n zs), length-drop n zs)

-- ## What is known of what was read

pub front_fits : (bs : List ℕ) (integers : List (List ℕ)) (strings : List ℕ) → FrontRead bs integers strings → FrontFits bs integers strings
front_fits bs integers strings f =
    let a = f.integers_inside in
    let b = f.strings_inside in
    record {
      short = f.short;
      integers_few = omega arith;
      integers_inside = ∣ (8, record { inside = f.integers_inside; there = f.integers_there }) ∣₁;
      words = f.words;
      strings_few = omega arith;
      strings_inside = ∣ (10 + 4 * length integers, record { inside = f.strings_inside; there = f.strings_there }) ∣₁;
      strings_end = f.strings_end;
    }

module _ (n : ℕ) (xs ys before rest : List Function) (l : length xs ≡ n) (e : length ys ≡ n) (k : map function_entry ys ≡ map function_entry (take n (xs ++ before))) where
  entries : map function_entry ys ≡ map function_entry xs
  entries = k ∙ ap (map function_entry) (front n xs before l)

  pub functions_joined : (size : ℕ) → AllByRecursion FunctionFits (map function_entry xs) → AllByRecursion (FunctionBehind 2) (map function_entry xs)
      → AllByRecursion FunctionLettered ys → code_bytes (map function_entry_of (map function_entry xs)) ≡ size → size ≤ 4096
      → MainTakes (map function_entry xs) → MainGives ys → FunctionsKnown (take n (ys ++ rest)) size
  functions_joined size fit behind lettered sum little takes gives =
      subst (λ zs. FunctionsKnown zs size) (sym (front n ys rest e)) (
      record {
        each = subst (All FunctionFits) (sym entries) (All-from_recursion FunctionFits _ fit);
        behind = subst (All (FunctionBehind 2)) (sym entries) (All-from_recursion (FunctionBehind 2) _ behind);
        lettered = All-from_recursion FunctionLettered ys lettered;
        sum = ap (λ es. code_bytes (map function_entry_of es)) entries ∙ sum;
        little = little;
        takes = subst MainTakes (sym entries) takes;
        gives = gives;
      }
      )

module _ (n : ℕ) (xs ys before rest : List Native) (l : length xs ≡ n) (e : length ys ≡ n) (k : map native_entry ys ≡ map native_entry (take n (xs ++ before))) where
  pub natives_joined : AllByRecursion NativeFits (map native_entry xs) → AllByRecursion NativeLettered ys → NativesKnown (take n (ys ++ rest))
  natives_joined fit lettered =
      subst NativesKnown (sym (front n ys rest e)) (
      record {
        each = subst (All NativeFits) (sym (k ∙ ap (map native_entry) (front n xs before l))) (All-from_recursion NativeFits _ fit);
        lettered = All-from_recursion NativeLettered ys lettered;
      }
      )
