-- Stacks of words and references alone, and what keeps them so.
use Rattle.std.proofs.Common.{◌≡◌, ℕ, zero, suc, ◌+◌, ◌-◌, ◌<◌, ◌≤◌, true, false, ltb, List, [], ◌∷◌, length, get_or, set, sym, ap, ◌∙◌, subst, arith, add-one, get_or-set_same}
use Rattle.std.proofs.lemmas.Bool.{lt-ltb, le-ltb}
use native.Mathlib.Decide.{dec_lt}
use Rattle.std.specs.List.{swap as exchanged}
use Rattle.bytecode.specs.declared.kind.Kind.{Kind}
use Rattle.bytecode.specs.declared.kind.Kind.TheVariants.{Unknown, Word, Reference}
use Rattle.bytecode.specs.Outcome.{Out, bad, good}
use Rattle.plan.specs.Programs.{Known, AllKnown}
use Rattle.plan.specs.Shapes.{Shape}
use Rattle.plan.specs.Effects.{swapped}
use Rattle.shapes.specs.declared.table.ShapeRecord.{ShapeRecord}
use Rattle.shapes.specs.Stacks.{stack_of, Stacked, is_known, Filled}
use Rattle.shapes.specs.Records.{shape_in, Tidy}
use Rattle.shapes.proofs.Stacks.{stack_set, stack_popped}
use Rattle.shapes.proofs.Acting.{swap_fine}

-- a kind that is not Unknown
pub known_unless : (k : Kind) → (k ≡ Unknown → ⊥) → Known k
known_unless Unknown h = absurd (h (λ i. Unknown))
known_unless Word h = tt
known_unless Reference h = tt

-- ## What keeps a stack known

-- one more
pub known_pushed : (k : Kind) (n : ℕ) (xs : List Kind) (st : List Kind) → stack_of n xs ≡ st → n < length xs → Known k → AllKnown st
    → AllKnown (stack_of (n + 1) (set xs n k))
known_pushed k n xs st e l w h =
    let m : n + 1 ≡ suc n = add-one n in
    subst (λ m. AllKnown (stack_of m (set xs n k))) (sym m)
    (subst Known (sym (get_or-set_same xs n k Unknown l)) w, subst AllKnown (sym (stack_set n xs k ∙ e)) h)

-- one less
pub known_popped : (n : ℕ) (xs : List Kind) (st : List Kind) → stack_of n xs ≡ st → (n ≡ 0 → ⊥) → AllKnown st
    → AllKnown (stack_of (n - 1) (set xs (n - 1) Unknown))
known_popped n xs st e z h = (subst AllKnown (sym e ∙ stack_popped n xs z) h).1

-- the top
pub known_top : (n : ℕ) (xs : List Kind) (st : List Kind) → stack_of n xs ≡ st → (n ≡ 0 → ⊥) → AllKnown st → Known (get_or xs (n - 1) Unknown)
known_top n xs st e z h = (subst AllKnown (sym e ∙ stack_popped n xs z) h).0

-- the lower ones
pub known_below : (a b : ℕ) (xs : List Kind) → a ≤ b → AllKnown (stack_of b xs) → AllKnown (stack_of a xs)
known_below zero b xs l h = tt
known_below (suc a) zero xs l h = absurd (omega arith)
known_below (suc a) (suc b) xs l h = go (dec_lt a b) (λ m. known_below (suc a) b xs m h.1)
  where
    go : Dec (a < b) → (a < b → AllKnown (stack_of (suc a) xs)) → AllKnown (stack_of (suc a) xs)
    go (yes m) ih = ih m
    go (no m) ih = let e : b ≡ a = omega arith in subst (λ n. AllKnown (stack_of (suc n) xs)) e h

-- two exchanged
abbrev OutKnown : Out (List Kind) → Type 0
OutKnown (bad e) = Unit {0}
OutKnown (good st) = AllKnown st

swapped_known : (st : List Kind) → AllKnown st → OutKnown (swapped 0 0 st)
swapped_known [] h = tt
swapped_known (k ∷ []) h = tt
swapped_known (k ∷ l ∷ st) h = (h.1.0, (h.0, h.1.1))

pub known_swapped : (d : ℕ) (xs : List Kind) (st : List Kind) → stack_of d xs ≡ st → 2 ≤ d → d ≤ length xs → AllKnown st
    → AllKnown (stack_of d (exchanged xs (d - 1) (d - 2)))
known_swapped d xs st e l m h = subst OutKnown (swap_fine 0 0 d xs st e l m) (swapped_known st h)

-- ## An array that is filled is one that holds a stack, of known kinds

pub is_known_of : (k : Kind) → Known k → is_known k ≡ true
is_known_of Unknown h = absurd h
is_known_of Word h = λ i. true
is_known_of Reference h = λ i. true

pub known_of : (k : Kind) → is_known k ≡ true → Known k
known_of Unknown e = cc
known_of Word e = tt
known_of Reference e = tt

unknown_of : (k : Kind) → is_known k ≡ false → k ≡ Unknown
unknown_of Unknown e = λ i. Unknown
unknown_of Word e = cc
unknown_of Reference e = cc

pub all_known_of : (ks : List Kind) → ((k : ℕ) → k < length ks → is_known (get_or ks k Unknown) ≡ true) → AllKnown ks
all_known_of [] h = tt
all_known_of (k ∷ ks) h = (known_of k (h 0 (omega arith)), all_known_of ks (λ j l. h (suc j) (omega arith)))

pub all_known_at : (ks : List Kind) → AllKnown ks → (k : ℕ) → k < length ks → is_known (get_or ks k Unknown) ≡ true
all_known_at [] h k l = absurd (omega arith)
all_known_at (x ∷ ks) h zero l = is_known_of x h.0
all_known_at (x ∷ ks) h (suc k) l = all_known_at ks h.1 k (omega arith)

-- by entries
pub known_entry : (n : ℕ) (xs : List Kind) (k : ℕ) → AllKnown (stack_of n xs) → k < n → Known (get_or xs k Unknown)
known_entry n xs k h l = top (known_below (suc k) n xs l h)
  where
    top : AllKnown (stack_of (suc k) xs) → Known (get_or xs k Unknown)
    top h = h.0

pub known_entries : (n : ℕ) (xs : List Kind) → ((k : ℕ) → k < n → Known (get_or xs k Unknown)) → AllKnown (stack_of n xs)
known_entries zero xs h = tt
known_entries (suc n) xs h = (h n (omega arith), known_entries n xs (λ k l. h k (omega arith)))

pub filled_stacked : (n : ℕ) (xs : List Kind) → Filled n xs → Stacked n xs
filled_stacked n xs f = record { low = f.low; long = f.long; unused = λ k l. unknown_of _ (f.used k ∙ le-ltb k n l) }

pub filled_known : (n : ℕ) (xs : List Kind) → Filled n xs → AllKnown (stack_of n xs)
filled_known n xs f = known_entries n xs (λ k l. known_of _ (f.used k ∙ lt-ltb k n l))

pub stacked_filled : (n : ℕ) (xs : List Kind) → Stacked n xs → AllKnown (stack_of n xs) → Filled n xs
stacked_filled n xs s h = record { low = s.low; long = s.long; used = λ k. go k (dec_lt k n) }
  where
    go : (k : ℕ) → Dec (k < n) → is_known (get_or xs k Unknown) ≡ ltb k n
    go k (yes l) = is_known_of _ (known_entry n xs k h l) ∙ sym (lt-ltb k n l)
    go k (no l) = ap is_known (s.unused k (omega arith)) ∙ sym (le-ltb k n (omega arith))

-- the record of a shape
pub record_filled : (r : ShapeRecord) (s : Shape) → Tidy r → shape_in r ≡ s → AllKnown s.stack → Filled r.depth r.stack
record_filled r s t e h = stacked_filled r.depth r.stack t.stack (subst (λ (u : Shape). AllKnown u.stack) (sym e) h)
