-- Arrays that are filled: what is known of their entries, and what keeps them filled.
use Rattle.std.proofs.Common.{◌≡◌, ℕ, ◌+◌, ◌-◌, ◌<◌, ◌≤◌, true, List, [], ◌∷◌, ◌++◌, reverse, length, get_or, take, drop, set, replicate, sym, refl, ap, ◌∙◌, subst, arith, get_or-set_same, get_or-set_other}
use Rattle.std.proofs.lemmas.Bool.{lt-ltb}
use Rattle.std.proofs.lemmas.List.{reverse-append, reverse-reverse}
use native.Mathlib.Decide.{dec_lt}
use borrow.Rule.Slice.PartMut.{mid_of, put_mid}
use Rattle.std.specs.List.{swap as exchanged}
use Rattle.bytecode.specs.declared.kind.Kind.{Kind}
use Rattle.bytecode.specs.declared.kind.Kind.TheVariants.{Unknown}
use Rattle.plan.specs.Programs.{Known, AllKnown}
use Rattle.plan.proofs.Acting.{known_append}
use Rattle.shapes.specs.declared.table.ShapeMark.{ShapeMark}
use Rattle.shapes.specs.Stacks.{stack_of, is_known, Filled}
use Rattle.shapes.specs.Records.{Tidy}
use Rattle.shapes.proofs.Stacks.{stack_copied, stack_taken, stack_below, stacked_pushed, stacked_popped, stacked_replaced, stacked_swapped, stacked_copied, stacked_lowered}
use Rattle.shapes.proofs.Knowing.{known_pushed, known_popped, known_swapped, known_below, known_entry, known_entries, filled_stacked, filled_known, stacked_filled}

-- ## Entries

pub known_at : (n : ℕ) (xs : List Kind) (i : ℕ) → Filled n xs → i < n → is_known (get_or xs i Unknown) ≡ true
known_at n xs i f h = f.used i ∙ lt-ltb i n h

pub top_known : (n : ℕ) (xs : List Kind) → Filled n xs → (n ≡ 0 → ⊥) → is_known (get_or xs (n - 1) Unknown) ≡ true
top_known n xs f h = known_at n xs (n - 1) f (omega arith)

known_reverse : (ks : List Kind) → AllKnown ks → AllKnown (reverse ks)
known_reverse [] h = tt
known_reverse (k ∷ ks) h = subst AllKnown (sym (reverse-append (k ∷ []) ks)) (known_append (reverse ks) (k ∷ []) (known_reverse ks h.1) (h.0, tt))

pub known_taken : (n : ℕ) (xs : List Kind) → Filled n xs → AllKnown (take n xs)
known_taken n xs f =
    subst AllKnown (ap reverse (stack_taken n xs (let z = f.low in omega (arith, f.long))) ∙ reverse-reverse (take n xs))
    (known_reverse (stack_of n xs) (filled_known n xs f))

-- ## One more, one less, one replaced, two exchanged

pub filled_pushed : (n : ℕ) (xs : List Kind) (k : Kind) → Known k → Filled n xs → n < 32 → Filled (n + 1) (set xs n k)
filled_pushed n xs k w f l =
    stacked_filled (n + 1) (set xs n k) (stacked_pushed n xs k (filled_stacked n xs f) l)
    (known_pushed k n xs (stack_of n xs) refl (omega (arith, f.long)) w (filled_known n xs f))

pub filled_popped : (n : ℕ) (xs : List Kind) → Filled n xs → (n ≡ 0 → ⊥) → Filled (n - 1) (set xs (n - 1) Unknown)
filled_popped n xs f z =
    stacked_filled (n - 1) (set xs (n - 1) Unknown) (stacked_popped n xs (filled_stacked n xs f) z) (known_popped n xs (stack_of n xs) refl z (filled_known n xs f))

pub filled_replaced : (n : ℕ) (xs : List Kind) (i : ℕ) (k : Kind) → Filled n xs → i < n → Known k → Filled n (set xs i k)
filled_replaced n xs i k f h w =
    stacked_filled n (set xs i k) (stacked_replaced n xs i k (filled_stacked n xs f) h) (known_entries n (set xs i k) (λ j l. go j l (dec_lt j i) (dec_lt i j)))
  where
    other : (j : ℕ) → j < n → (j ≡ i → ⊥) → Known (get_or (set xs i k) j Unknown)
    other j l ne = subst Known (sym (get_or-set_other xs i j k Unknown ne)) (known_entry n xs j (filled_known n xs f) l)

    go : (j : ℕ) → j < n → Dec (j < i) → Dec (i < j) → Known (get_or (set xs i k) j Unknown)
    go j l (yes m) d = other j l (omega arith)
    go j l (no m) (yes o) = other j l (omega arith)
    go j l (no m) (no o) =
        let e : i ≡ j = omega arith in
        subst (λ j. Known (get_or (set xs i k) j Unknown)) e
        (subst Known (sym (get_or-set_same xs i k Unknown (let z = f.low in omega (arith, f.long)))) w)

pub filled_swapped : (n : ℕ) (xs : List Kind) → Filled n xs → 2 ≤ n → Filled n (exchanged xs (n - 1) (n - 2))
filled_swapped n xs f h =
    stacked_filled n (exchanged xs (n - 1) (n - 2)) (stacked_swapped n xs (filled_stacked n xs f) h)
    (known_swapped n xs (stack_of n xs) refl h (let z = f.low in omega (arith, f.long)) (filled_known n xs f))

-- ## Some copied, some taken

pub filled_copied : (ks xs : List Kind) → xs ≡ ks → length ks ≤ 32 → AllKnown ks → Filled (length ks) (xs ++ drop (length ks) (replicate 32 Unknown))
filled_copied ks xs e few h =
    stacked_filled (length ks) (xs ++ drop (length ks) (replicate 32 Unknown)) (stacked_copied ks xs e few)
    (subst AllKnown (sym (stack_copied ks xs (drop (length ks) (replicate 32 Unknown)) e)) (known_reverse ks h))

pub tidy_copied : (m : ShapeMark) (ks xs vs : List Kind) → xs ≡ ks → length ks ≤ 32 → length vs ≡ 32
    → Tidy (record { mark = m; depth = length ks; stack = xs ++ drop (length ks) (replicate 32 Unknown); variables = vs })
tidy_copied m ks xs vs e few w = record { stack = stacked_copied ks xs e few; wide = w }

pub filled_lowered : (a b : ℕ) (xs ys : List Kind) → Filled b xs → a ≤ b → ys ≡ replicate (length (mid_of a (b - a) xs)) Unknown
    → Filled a (put_mid a (b - a) xs ys)
filled_lowered a b xs ys f h e =
    let s = filled_stacked b xs f in
    stacked_filled a (put_mid a (b - a) xs ys) (stacked_lowered a b xs ys s h e)
    (subst AllKnown (sym (stack_below a b xs ys s h e)) (known_below a b xs h (filled_known b xs f)))
