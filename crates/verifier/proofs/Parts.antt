-- Parts of the table: one for each function, joined in pool order, and blank records behind them.
use Rattle.std.proofs.Common.{◌≡◌, ℕ, zero, suc, ◌+◌, ◌-◌, ◌<◌, ◌≤◌, List, ◌++◌, length, take, drop, replicate, sym, refl, ap, ◌∙◌, subst, append_assoc, append-nil, add-one, arith, take-add}
use borrow.Rule.Slice.PartMut.{put_mid}
use Rattle.std.proofs.lemmas.Slice.{between-put_mid, drop-put_mid}
use Rattle.std.proofs.lemmas.List.{at_drop_more, at_drop_all, take-append-drop, take_at, drop_at, drop-drop, drop-replicate, length-take-le, length-append}
use Rattle.bytecode.specs.Program.{Program}
use Rattle.plan.specs.Programs.{no_function, code_at}
use Rattle.plan.specs.Judgement.{bytes_from}
use Rattle.reader.specs.View.{code_size}
use Rattle.shapes.specs.declared.table.ShapeRecord.{ShapeRecord}
use Rattle.shapes.specs.Records.{blank_record}
use Rattle.verifier.specs.Fresh.{joined_from, filled}

-- ## Where the parts begin

plus_next : (f i : ℕ) → f + suc i ≡ suc f + i
plus_next f i = omega arith

plus_none : (f : ℕ) → f + 0 ≡ f
plus_none f = omega arith

module _ (P : Program) where
  bytes_next : (n f : ℕ) → bytes_from P (suc n) f ≡ bytes_from P n f + length (code_at P (f + n))
  bytes_next zero f = omega (arith, ap (λ g. length (code_at P g)) (plus_none f))
  bytes_next (suc n) f = omega (arith, bytes_next n (suc f), ap (λ g. length (code_at P g)) (plus_next f n))

  pub bytes_more : (i : ℕ) → bytes_from P (i + 1) 0 ≡ bytes_from P i 0 + length (code_at P i)
  bytes_more i =
      let z : 0 + i ≡ i = omega arith in
      ap (λ n. bytes_from P n 0) (add-one i) ∙ bytes_next i 0 ∙ ap (λ g. bytes_from P i 0 + length (code_at P g)) z

  bytes_within : (n f i : ℕ) → i < n → bytes_from P i f + length (code_at P (f + i)) ≤ bytes_from P n f
  bytes_within zero f i h = absurd (omega arith)
  bytes_within (suc n) f zero h = omega (arith, ap (λ g. length (code_at P g)) (plus_none f))
  bytes_within (suc n) f (suc i) h = omega (arith, bytes_within n (suc f) i (omega arith), ap (λ g. length (code_at P g)) (plus_next f i))

  pub bytes_in : (n i : ℕ) → i < n → bytes_from P i 0 + length (code_at P i) ≤ bytes_from P n 0
  bytes_in n i h = let z : 0 + i ≡ i = omega arith in omega (arith, bytes_within n 0 i h, ap (λ g. length (code_at P g)) z)

  bytes_rest : (n f : ℕ) → f + n ≡ length P.functions → code_size (drop f P.functions) ≡ bytes_from P n f
  bytes_rest zero f e = at_drop_all code_size P.functions f (omega arith)
  bytes_rest (suc n) f e =
      at_drop_more code_size P.functions f no_function (omega arith) ∙
      ap (λ k. length (code_at P f) + code_size (drop k P.functions)) (add-one f) ∙ ap (λ k. length (code_at P f) + k) (bytes_rest n (suc f) (omega arith))

  pub bytes_all : code_size P.functions ≡ bytes_from P (length P.functions) 0
  bytes_all = bytes_rest (length P.functions) 0 (omega arith)

-- ## Parts joined

module _ {A : Type 0} (part : ℕ → List A) where
  joined_next : (n f : ℕ) → joined_from part (suc n) f ≡ joined_from part n f ++ part (f + n)
  joined_next zero f = append-nil (part f) ∙ ap part (sym (plus_none f))
  joined_next (suc n) f =
      ap (λ xs. part f ++ xs) (joined_next n (suc f)) ∙ sym (append_assoc (part f) (joined_from part n (suc f)) (part (suc f + n))) ∙
      ap (λ g. (part f ++ joined_from part n (suc f)) ++ part g) (sym (plus_next f n))

  joined_more : (i : ℕ) → joined_from part (i + 1) 0 ≡ joined_from part i 0 ++ part i
  joined_more i =
      let z : 0 + i ≡ i = omega arith in
      ap (λ n. joined_from part n 0) (add-one i) ∙ joined_next i 0 ∙ ap (λ g. joined_from part i 0 ++ part g) z

  -- one part more of the table
  pub part_more : (i : ℕ) (T U : List A) (a n : ℕ) → take a T ≡ joined_from part i 0 → take a U ≡ take a T → take n (drop a U) ≡ part i
      → take (a + n) U ≡ joined_from part (i + 1) 0
  part_more i T U a n e d h =
      take-add a n U ∙ ap (λ xs. xs ++ take n (drop a U)) (d ∙ e) ∙ ap (λ xs. joined_from part i 0 ++ xs) h ∙ sym (joined_more i)

  -- the parts are as long as the codes
  module _ (P : Program) where
    part_at : (n f i : ℕ) (rest : List A) → i < n → ((g : ℕ) → g < n → length (part (f + g)) ≡ length (code_at P (f + g)))
        → take (length (code_at P (f + i))) (drop (bytes_from P i f) (joined_from part n f ++ rest)) ≡ part (f + i)
    part_at zero f i rest h l = absurd (omega arith)
    part_at (suc n) f zero rest h l =
        ap (take (length (code_at P (f + 0)))) (append_assoc (part f) (joined_from part n (suc f)) rest) ∙
        ap (λ g. take (length (code_at P (f + 0))) (part g ++ (joined_from part n (suc f) ++ rest))) (sym (plus_none f)) ∙
        take_at (part (f + 0)) (joined_from part n (suc f) ++ rest) (length (code_at P (f + 0))) (l 0 (omega arith))
    part_at (suc n) f (suc i) rest h l =
        let here : length (part f) ≡ length (code_at P f) = subst (λ g. length (part g) ≡ length (code_at P g)) (plus_none f) (l 0 (omega arith)) in
        ap (take (length (code_at P (f + suc i))))
        (sym (drop-drop (bytes_from P i (suc f)) (length (code_at P f)) ((part f ++ joined_from part n (suc f)) ++ rest)) ∙
        ap (drop (bytes_from P i (suc f)))
        (ap (drop (length (code_at P f))) (append_assoc (part f) (joined_from part n (suc f)) rest) ∙
        drop_at (part f) (joined_from part n (suc f) ++ rest) (length (code_at P f)) here)) ∙
        subst (λ g. take (length (code_at P g)) (drop (bytes_from P i (suc f)) (joined_from part n (suc f) ++ rest)) ≡ part g) (sym (plus_next f i))
        (part_at n (suc f) i rest (omega arith)
        (λ g k. subst (λ j. length (part j) ≡ length (code_at P j)) (plus_next f g) (l (suc g) (omega arith))))

    pub part_of : (n i : ℕ) (rest : List A) → i < n → ((g : ℕ) → g < n → length (part g) ≡ length (code_at P g))
        → take (length (code_at P i)) (drop (bytes_from P i 0) (joined_from part n 0 ++ rest)) ≡ part i
    part_of n i rest h l =
        let z : 0 + i ≡ i = omega arith in
        subst (λ g. take (length (code_at P g)) (drop (bytes_from P i 0) (joined_from part n 0 ++ rest)) ≡ part g) z
        (part_at n 0 i rest h (λ g k. let y : g ≡ 0 + g = omega arith in subst (λ j. length (part j) ≡ length (code_at P j)) y (l g k)))

    length-joined : (n f : ℕ) → ((g : ℕ) → g < n → length (part (f + g)) ≡ length (code_at P (f + g))) → length (joined_from part n f) ≡ bytes_from P n f
    length-joined zero f l = refl
    length-joined (suc n) f l =
        let here : length (part f) ≡ length (code_at P f) = subst (λ g. length (part g) ≡ length (code_at P g)) (plus_none f) (l 0 (omega arith)) in
        let rest = length-joined n (suc f) (λ g k. subst (λ j. length (part j) ≡ length (code_at P j)) (plus_next f g) (l (suc g) (omega arith))) in
        omega (arith, length-append (part f) (joined_from part n (suc f)), here, rest)

    pub joined_length : (n : ℕ) → ((g : ℕ) → g < n → length (part g) ≡ length (code_at P g)) → length (joined_from part n 0) ≡ bytes_from P n 0
    joined_length n l = length-joined n 0 (λ g k. let y : g ≡ 0 + g = omega arith in subst (λ j. length (part j) ≡ length (code_at P j)) y (l g k))

-- ## What is behind the parts

pub rest_blank : (T U : List ShapeRecord) (a n : ℕ) → drop a T ≡ replicate (length T - a) blank_record → drop (a + n) U ≡ drop (a + n) T → length U ≡ length T
    → drop (a + n) U ≡ replicate (length U - (a + n)) blank_record
rest_blank T U a n e d l =
    let z : length T - a - n ≡ length U - (a + n) = omega arith in
    d ∙ sym (drop-drop n a T) ∙ ap (drop n) e ∙ drop-replicate n (length T - a) blank_record ∙ ap (λ k. replicate k blank_record) z

pub rest_kept : {A : Type 0} (T U : List A) (a n : ℕ) → drop a U ≡ drop a T → drop (a + n) U ≡ drop (a + n) T
rest_kept T U a n e = sym (drop-drop n a U) ∙ ap (drop n) e ∙ drop-drop n a T

pub filled_is : (T rs : List ShapeRecord) (a : ℕ) → a ≤ length T → take a T ≡ rs → drop a T ≡ replicate (length T - a) blank_record → T ≡ filled (length T) rs
filled_is T rs a h e d =
    let l : length rs ≡ a = ap length (sym e) ∙ length-take-le a T h in
    sym (take-append-drop a T) ∙ ap (λ xs. xs ++ drop a T) e ∙ ap (λ xs. rs ++ xs) d ∙ ap (λ k. rs ++ replicate (length T - k) blank_record) (sym l)

pub filled_rest : (room : ℕ) (rs : List ShapeRecord) (a : ℕ) → length rs ≡ a → drop a (filled room rs) ≡ replicate (room - a) blank_record
filled_rest room rs a l = drop_at rs (replicate (room - length rs) blank_record) a l ∙ ap (λ k. replicate (room - k) blank_record) l

-- ## A part written

pub part_read : {A : Type 0} (a n k : ℕ) (xs ys : List A) → a + n ≤ length xs → length ys ≡ n → take n (drop a (put_mid a k xs ys)) ≡ ys
part_read a n k xs ys h l =
    let e : a + n - a ≡ n = omega arith in
    ap (λ m. take m (drop a (put_mid a k xs ys))) (sym e) ∙ between-put_mid a k xs ys (a + n) (omega arith) (omega arith)

pub part_after : {A : Type 0} (a n k : ℕ) (xs ys : List A) → a + n ≤ length xs → k ≡ n → length ys ≡ n → drop (a + n) (put_mid a k xs ys) ≡ drop (a + n) xs
part_after a n k xs ys h e l = drop-put_mid a k xs ys (a + n) (omega arith) (omega arith) (l ∙ sym e)
