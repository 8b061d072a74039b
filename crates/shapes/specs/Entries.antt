-- A stack and the array that holds it give one another: proofs, which the stack of kinds in code hands over.
use Rattle.std.proofs.Common.{◌≡◌, ℕ, zero, suc, ◌<◌, ◌≤◌, List, [], ◌∷◌, length, get_or, set, replicate, sym, refl, ap, ◌∙◌, arith, length-set, get_or-set_other, get_or-set_same}
use native.Mathlib.Decide.{dec_lt}
use Rattle.std.proofs.lemmas.List.{ext_get_or}
use Rattle.bytecode.specs.declared.kind.Kind.{Kind}
use Rattle.bytecode.specs.declared.kind.Kind.TheVariants.{Unknown}
use Rattle.shapes.specs.Stacks.{stack_of, entries_of, Stacked}

pub length-stack : (n : ℕ) (xs : List Kind) → length (stack_of n xs) ≡ n
length-stack zero xs = refl
length-stack (suc n) xs = ap suc (length-stack n xs)

pub unknowns : (n k : ℕ) → get_or (replicate n Unknown) k Unknown ≡ Unknown
unknowns zero k = refl
unknowns (suc n) zero = refl
unknowns (suc n) (suc k) = unknowns n k

length-entries : (st : List Kind) → length (entries_of st) ≡ 32
length-entries [] = refl
length-entries (k ∷ st) = length-set (entries_of st) (length st) k ∙ length-entries st

entries_below : (n : ℕ) (xs : List Kind) → n ≤ 32 → (k : ℕ) → k < n → get_or (entries_of (stack_of n xs)) k Unknown ≡ get_or xs k Unknown
entries_below zero xs h k l = absurd (omega arith)
entries_below (suc n) xs h k l = go (dec_lt k n) (λ i. entries_below n xs (omega arith) k i)
  where
    here : length (stack_of n xs) ≡ n
    here = length-stack n xs

    size : length (entries_of (stack_of n xs)) ≡ 32
    size = length-entries (stack_of n xs)

    go : Dec (k < n) → (k < n → get_or (entries_of (stack_of n xs)) k Unknown ≡ get_or xs k Unknown)
        → get_or (set (entries_of (stack_of n xs)) (length (stack_of n xs)) (get_or xs n Unknown)) k Unknown ≡ get_or xs k Unknown
    go (yes i) ih = get_or-set_other (entries_of (stack_of n xs)) (length (stack_of n xs)) k (get_or xs n Unknown) Unknown (omega (arith, here)) ∙ ih i
    go (no i) ih =
        let e : k ≡ length (stack_of n xs) = omega (arith, here) in
        let m : k ≡ n = omega arith in
        let s = get_or-set_same (entries_of (stack_of n xs)) (length (stack_of n xs)) (get_or xs n Unknown) Unknown (omega (arith, here, size)) in
        cc

entries_above : (n : ℕ) (xs : List Kind) (k : ℕ) → n ≤ k → get_or (entries_of (stack_of n xs)) k Unknown ≡ Unknown
entries_above zero xs k h = unknowns 32 k
entries_above (suc n) xs k h =
    get_or-set_other (entries_of (stack_of n xs)) (length (stack_of n xs)) k (get_or xs n Unknown) Unknown (omega (arith, length-stack n xs)) ∙ entries_above n xs k (omega arith)

pub entries_stack : (n : ℕ) (xs : List Kind) → Stacked n xs → xs ≡ entries_of (stack_of n xs)
entries_stack n xs f = ext_get_or Unknown xs _ (f.long ∙ sym (length-entries (stack_of n xs))) (λ k i. go k (dec_lt k n))
  where
    go : (k : ℕ) → Dec (k < n) → get_or xs k Unknown ≡ get_or (entries_of (stack_of n xs)) k Unknown
    go k (yes i) = sym (entries_below n xs f.low k i)
    go k (no i) = f.unused k (omega arith) ∙ sym (entries_above n xs k (omega arith))

-- count and array, from the stack that they hold
pub count_back : (n : ℕ) (xs : List Kind) → Stacked n xs → length (stack_of n xs) ≡ n
count_back n xs f = length-stack n xs

pub entries_back : (n : ℕ) (xs : List Kind) → Stacked n xs → entries_of (stack_of n xs) ≡ xs
entries_back n xs f = sym (entries_stack n xs f)
