-- Stacks in arrays: by their places, and what keeps a record in order.
use Rattle.std.proofs.Common.{◌≡◌, ℕ, zero, suc, ◌+◌, ◌-◌, ◌<◌, ◌≤◌, ◌⊎◌, List, [], ◌∷◌, ◌++◌, map, reverse, length, get_or, take, drop, set, replicate, sym, refl, ap, ◌∙◌, inl, inr, subst, arith, length-set, get_or-set_other, get_or-set_same, length-append, length-drop, length-take-le}
use native.Mathlib.Decide.{dec_lt}
use borrow.Rule.Slice.PartMut.{mid_of, post_of, put_mid, same_len_mid, mid_len, Post-is}
use Rattle.std.specs.List.{swap as exchanged}
use Rattle.std.proofs.lemmas.List.Edits.{swap_is}
use Rattle.std.proofs.lemmas.List.{ext_get_or, length-reverse, get_or_append_left, get_or-append_right, get_or-reverse, get_or-take, take-append-drop, get_or-drop, length-replicate}
use Rattle.bytecode.specs.declared.kind.Kind.{Kind}
use Rattle.bytecode.specs.declared.kind.Kind.TheVariants.{Unknown}
use Rattle.shapes.specs.declared.table.ShapeRecord.{ShapeRecord}
use Rattle.shapes.specs.declared.table.ShapeMark.{ShapeMark}
use Rattle.shapes.specs.declared.table.ShapeMark.TheVariants.{Blank, Start, Due, Shaped}
use Rattle.shapes.specs.Stacks.{stack_of, entries_of, Stacked}
use Rattle.shapes.specs.Records.{shape_in, cell_as, cell_of, empty_record, working_record, HasShape, Tidy, Whole, Neat}
use Rattle.shapes.specs.Entries.{length-stack, unknowns, entries_stack}

-- ## Stacks by their places

pub drop_stack : (b n d : ℕ) (xs : List Kind) → b + n ≡ d → drop n (stack_of d xs) ≡ stack_of b xs
drop_stack b zero d xs e = let k : d ≡ b = omega arith in ap (λ m. stack_of m xs) k
drop_stack b (suc n) zero xs e = absurd (omega arith)
drop_stack b (suc n) (suc d) xs e = drop_stack b n d xs (omega arith)

pub stack_same : (n : ℕ) (xs ys : List Kind) → ((k : ℕ) → k < n → get_or xs k Unknown ≡ get_or ys k Unknown) → stack_of n xs ≡ stack_of n ys
stack_same zero xs ys h = refl
stack_same (suc n) xs ys h =
    let a : get_or xs n Unknown ≡ get_or ys n Unknown = h n (omega arith) in
    let b : stack_of n xs ≡ stack_of n ys = stack_same n xs ys (λ k l. h k (omega arith)) in
    rw (a, b)

pub get_or-stack : (n : ℕ) (xs : List Kind) (k : ℕ) → k < n → get_or (stack_of n xs) k Unknown ≡ get_or xs (n - 1 - k) Unknown
get_or-stack zero xs k h = absurd (omega arith)
get_or-stack (suc n) xs zero h = let e : suc n - 1 - 0 ≡ n = omega arith in rw e
get_or-stack (suc n) xs (suc k) h = let e : suc n - 1 - suc k ≡ n - 1 - k = omega arith in rw e (get_or-stack n xs k (omega arith))

-- the entries of a list, with others after them, are a stack with its last on top
pub stack_reverse : (ks rest : List Kind) → stack_of (length ks) (ks ++ rest) ≡ reverse ks
stack_reverse ks rest =
    ext_get_or Unknown _ _ (length-stack (length ks) (ks ++ rest) ∙ sym (length-reverse ks))
    (λ k h.
    let l : k < length ks = omega (arith, length-stack (length ks) (ks ++ rest)) in
    get_or-stack (length ks) (ks ++ rest) k l ∙ get_or_append_left ks rest Unknown (length ks - 1 - k) (omega arith) ∙ sym (get_or-reverse ks k Unknown l))

-- the entries of a list copied to the front of an array
pub stack_copied : (ks xs rest : List Kind) → xs ≡ ks → stack_of (length ks) (xs ++ rest) ≡ reverse ks
stack_copied ks xs rest e = ap (λ xs. stack_of (length ks) (xs ++ rest)) e ∙ stack_reverse ks rest

-- the entries in use
pub stack_taken : (n : ℕ) (xs : List Kind) → n ≤ length xs → stack_of n xs ≡ reverse (take n xs)
stack_taken n xs h =
    let l = length-take-le n xs h in
    ap (stack_of n) (sym (take-append-drop n xs)) ∙ ap (λ m. stack_of m (take n xs ++ drop n xs)) (sym l) ∙ stack_reverse (take n xs) (drop n xs)

pub stack_long : (n : ℕ) (xs : List Kind) (st : List Kind) → stack_of n xs ≡ st → length st ≡ n
stack_long n xs st e = omega (arith, length-stack n xs, ap length e)

-- one stack in two arrays
pub stack_empty : (n m : ℕ) (xs ys : List Kind) → stack_of n xs ≡ stack_of m ys → m ≡ 0 → n ≡ 0
stack_empty n m xs ys e z = omega (arith, length-stack n xs, length-stack m ys, ap length e)

-- the top
pub stack_top : (n : ℕ) (xs : List Kind) → (n ≡ 0 → ⊥) → stack_of n xs ≡ get_or xs (n - 1) Unknown ∷ stack_of (n - 1) xs
stack_top zero xs h = absurd (h refl)
stack_top (suc n) xs h = let e : suc n - 1 ≡ n = omega arith in rw e

pub stack_lowered : (d n m : ℕ) (xs : List Kind) (st : List Kind) → stack_of d xs ≡ st → m ≡ n → n ≤ d → drop m st ≡ stack_of (d - n) xs
stack_lowered d n m xs st e k h = ap (drop m) (sym e) ∙ ap (λ i. drop i (stack_of d xs)) k ∙ drop_stack (d - n) n d xs (omega arith)

-- an entry above the stack leaves it as it was
pub stack_set : (n : ℕ) (xs : List Kind) (k : Kind) → stack_of n (set xs n k) ≡ stack_of n xs
stack_set n xs k = stack_same n _ _ (λ j l. get_or-set_other xs n j k Unknown (omega arith))

-- the top, and what is left without it
pub stack_popped : (n : ℕ) (xs : List Kind) → (n ≡ 0 → ⊥) → stack_of n xs ≡ get_or xs (n - 1) Unknown ∷ stack_of (n - 1) (set xs (n - 1) Unknown)
stack_popped n xs h = stack_top n xs h ∙ ap (λ st. get_or xs (n - 1) Unknown ∷ st) (sym (stack_set (n - 1) xs Unknown))

-- ## A tidy record is the record of its cell

pub whole_is : (r : ShapeRecord) → Whole r → r ≡ working_record (cell_of r)
whole_is r w = go r.mark refl w.vacant
  where
    st : r.stack ≡ entries_of (stack_of r.depth r.stack)
    st = entries_stack r.depth r.stack w.tidy.stack

    ln : r.depth ≡ length (stack_of r.depth r.stack)
    ln = sym (length-stack r.depth r.stack)

    none : r.depth ≡ 0 → r.stack ≡ replicate 32 Unknown
    none e = st ∙ ap (λ n. entries_of (stack_of n r.stack)) e

    go : (m : ShapeMark) → r.mark ≡ m → HasShape m ⊎ ((r.depth ≡ 0) × (r.variables ≡ replicate 32 Unknown)) → r ≡ working_record (cell_as m (shape_in r))
    go Blank e (inl h) = absurd h
    go Blank e (inr h) = λ i. record { mark = e i; depth = h.0 i; stack = none h.0 i; variables = h.1 i }
    go Start e (inl h) = absurd h
    go Start e (inr h) = λ i. record { mark = e i; depth = h.0 i; stack = none h.0 i; variables = h.1 i }
    go Due e h = λ i. record { mark = e i; depth = ln i; stack = st i; variables = r.variables }
    go Shaped e h = λ i. record { mark = e i; depth = ln i; stack = st i; variables = r.variables }

pub neat_is : (rs : List ShapeRecord) → Neat rs → rs ≡ map working_record (map cell_of rs)
neat_is [] h = refl
neat_is (r ∷ rs) h =
    let a : r ≡ working_record (cell_of r) = whole_is r (h 0 (omega arith)) in
    let b : rs ≡ map working_record (map cell_of rs) = neat_is rs (λ k l. h (suc k) (omega arith)) in
    λ i. a i ∷ b i

-- ## What keeps entries stacked

-- one more
pub stacked_pushed : (n : ℕ) (xs : List Kind) (k : Kind) → Stacked n xs → n < 32 → Stacked (n + 1) (set xs n k)
stacked_pushed n xs k f h =
    record {
      low = omega arith;
      long = length-set xs n k ∙ f.long;
      unused = λ j l. get_or-set_other xs n j k Unknown (omega arith) ∙ f.unused j (omega arith);
    }

-- one less
pub stacked_popped : (n : ℕ) (xs : List Kind) → Stacked n xs → (n ≡ 0 → ⊥) → Stacked (n - 1) (set xs (n - 1) Unknown)
stacked_popped n xs f h =
    record { low = (let z = f.low in omega arith); long = length-set xs (n - 1) Unknown ∙ f.long; unused = λ j l. go j l (dec_lt (n - 1) j) }
  where
    go : (j : ℕ) → n - 1 ≤ j → Dec (n - 1 < j) → get_or (set xs (n - 1) Unknown) j Unknown ≡ Unknown
    go j l (yes m) = get_or-set_other xs (n - 1) j Unknown Unknown (omega arith) ∙ f.unused j (omega arith)
    go j l (no m) =
        let e : j ≡ n - 1 = omega arith in
        ap (λ i. get_or (set xs (n - 1) Unknown) i Unknown) e ∙ get_or-set_same xs (n - 1) Unknown Unknown (let z = f.low in omega (arith, f.long))

-- another in place of one
pub stacked_replaced : (n : ℕ) (xs : List Kind) (i : ℕ) (k : Kind) → Stacked n xs → i < n → Stacked n (set xs i k)
stacked_replaced n xs i k f h =
    record { low = f.low; long = length-set xs i k ∙ f.long; unused = λ j l. get_or-set_other xs i j k Unknown (omega arith) ∙ f.unused j l }

-- two exchanged
pub stacked_swapped : (n : ℕ) (xs : List Kind) → Stacked n xs → 2 ≤ n → Stacked n (exchanged xs (n - 1) (n - 2))
stacked_swapped n xs f h =
    subst (Stacked n) (swap_is xs (n - 1) (n - 2) Unknown (let z = f.low in omega (arith, f.long)) (let z = f.low in omega (arith, f.long)))
    (stacked_replaced n (set xs (n - 1) (get_or xs (n - 2) Unknown)) (n - 2) (get_or xs (n - 1) Unknown) (stacked_replaced n xs (n - 1) (get_or xs (n - 2) Unknown) f (omega arith)) (omega arith))

-- kinds copied to the front of an array of Unknown
pub stacked_copied : (ks xs : List Kind) → xs ≡ ks → length ks ≤ 32 → Stacked (length ks) (xs ++ drop (length ks) (replicate 32 Unknown))
stacked_copied ks xs e few =
    record {
      low = few;
      long = omega (arith, length-append xs (drop (length ks) (replicate 32 Unknown)), length-drop (length ks) (replicate 32 Unknown), length-replicate 32 Unknown, ap length e);
      unused = λ k l.
          get_or-append_right xs (drop (length ks) (replicate 32 Unknown)) (length ks) k Unknown (ap length e) l ∙
          get_or-drop (length ks) (replicate 32 Unknown) (k - length ks) Unknown ∙ unknowns 32 (length ks + (k - length ks));
    }

-- ## What keeps a record tidy

pub tidy_mark : (m : ShapeMark) (r : ShapeRecord) → Tidy r → Tidy (record { mark = m; depth = r.depth; stack = r.stack; variables = r.variables })
tidy_mark m r t = record { stack = t.stack; wide = t.wide }

pub tidy_variables : (m : ShapeMark) (v : List Kind) (r : ShapeRecord) → Tidy r → length v ≡ 32
    → Tidy (record { mark = m; depth = r.depth; stack = r.stack; variables = v })
tidy_variables m v r t l = record { stack = t.stack; wide = l }

pub has_shape : (m : ShapeMark) → (m ≡ Blank → ⊥) → (m ≡ Start → ⊥) → HasShape m
has_shape Blank n f = absurd (n refl)
has_shape Start n f = absurd (f refl)
has_shape Due n f = tt
has_shape Shaped n f = tt

pub whole_empty : (m : ShapeMark) → Whole (empty_record m)
whole_empty m =
    record {
      tidy = record { stack = record { low = omega arith; long = refl; unused = λ k h. unknowns 32 k }; wide = refl };
      vacant = inr (refl, refl);
    }

-- the entries from a up to b made Unknown
module _ (a b : ℕ) (xs ys : List Kind) (f : Stacked b xs) (h : a ≤ b) (e : ys ≡ replicate (length (mid_of a (b - a) xs)) Unknown) where
  mid_long : length (mid_of a (b - a) xs) ≡ b - a
  mid_long = mid_len a b xs (let z = f.low in omega (arith, f.long))

  ys_long : length ys ≡ b - a
  ys_long = ap length e ∙ length-replicate (length (mid_of a (b - a) xs)) Unknown ∙ mid_long

  front_long : length (take a xs) ≡ a
  front_long = length-take-le a xs (let z = f.low in omega (arith, f.long))

  below : (j : ℕ) → j < a → get_or (put_mid a (b - a) xs ys) j Unknown ≡ get_or xs j Unknown
  below j l = get_or_append_left (take a xs) (ys ++ post_of a (b - a) xs) Unknown j (omega (arith, front_long)) ∙ get_or-take a xs j Unknown l

  between : (j : ℕ) → a ≤ j → j < b → get_or (put_mid a (b - a) xs ys) j Unknown ≡ Unknown
  between j l m =
      get_or-append_right (take a xs) (ys ++ post_of a (b - a) xs) a j Unknown front_long l ∙
      get_or_append_left ys (post_of a (b - a) xs) Unknown (j - a) (omega (arith, ys_long)) ∙
      ap (λ zs. get_or zs (j - a) Unknown) e ∙ unknowns (length (mid_of a (b - a) xs)) (j - a)

  above : (j : ℕ) → b ≤ j → get_or (put_mid a (b - a) xs ys) j Unknown ≡ get_or xs j Unknown
  above j l =
      let i : b + (j - a - (b - a)) ≡ j = omega arith in
      get_or-append_right (take a xs) (ys ++ post_of a (b - a) xs) a j Unknown front_long (omega arith) ∙
      get_or-append_right ys (post_of a (b - a) xs) (b - a) (j - a) Unknown ys_long (omega arith) ∙
      ap (λ zs. get_or zs (j - a - (b - a)) Unknown) (Post-is a b xs h) ∙ get_or-drop b xs (j - a - (b - a)) Unknown ∙ ap (λ k. get_or xs k Unknown) i

  pub stacked_lowered : Stacked a (put_mid a (b - a) xs ys)
  stacked_lowered =
      record {
        low = (let z = f.low in omega arith);
        long = same_len_mid a (b - a) xs ys (ap length e ∙ length-replicate (length (mid_of a (b - a) xs)) Unknown) ∙ f.long;
        unused = λ j l. go j l (dec_lt j b);
      }
    where
      go : (j : ℕ) → a ≤ j → Dec (j < b) → get_or (put_mid a (b - a) xs ys) j Unknown ≡ Unknown
      go j l (yes m) = between j l m
      go j l (no m) = above j (omega arith) ∙ f.unused j (omega arith)

  pub stack_below : stack_of a (put_mid a (b - a) xs ys) ≡ stack_of a xs
  stack_below = stack_same a _ _ below

pub ruleset copied = (stack_copied, stacked_copied)

pub ruleset popped = (stack_popped, stacked_popped)
