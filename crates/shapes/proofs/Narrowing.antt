-- The variables met, one after another.
use Rattle.std.proofs.Common.{◌≡◌, ℕ, zero, suc, ◌+◌, ◌≤◌, List, [], ◌∷◌, length, get_or, set, refl, ap, add-one, arith}
use Rattle.bytecode.specs.declared.kind.Kind.{Kind}
use Rattle.bytecode.specs.declared.kind.Kind.TheVariants.{Unknown}
use Rattle.plan.specs.Shapes.{meet_kind, meet}
use Rattle.plan.proofs.Reaching.{kinds_told}
use Rattle.shapes.proofs.Comparing.{not_twice}

-- the first n met
pub meet_to : ℕ → List Kind → List Kind → List Kind
meet_to zero xs ys = xs
meet_to (suc n) [] ys = []
meet_to (suc n) (x ∷ xs) [] = meet_kind x Unknown ∷ meet_to n xs []
meet_to (suc n) (x ∷ xs) (y ∷ ys) = meet_kind x y ∷ meet_to n xs ys

pub meet_none : (xs ys : List Kind) → meet_to 0 xs ys ≡ xs
unfolding meet_to
meet_none xs ys = refl

meet_at : (i : ℕ) (xs ys : List Kind) → get_or (meet_to i xs ys) i Unknown ≡ get_or xs i Unknown
unfolding meet_to
meet_at zero xs ys = refl
meet_at (suc i) [] ys = refl
meet_at (suc i) (x ∷ xs) [] = meet_at i xs []
meet_at (suc i) (x ∷ xs) (y ∷ ys) = meet_at i xs ys

meet_set : (i : ℕ) (xs ys : List Kind) → set (meet_to i xs ys) i (meet_kind (get_or xs i Unknown) (get_or ys i Unknown)) ≡ meet_to (suc i) xs ys
unfolding meet_to
meet_set zero [] ys = refl
meet_set zero (x ∷ xs) [] = refl
meet_set zero (x ∷ xs) (y ∷ ys) = refl
meet_set (suc i) [] ys = refl
meet_set (suc i) (x ∷ xs) [] = ap (λ zs. meet_kind x Unknown ∷ zs) (meet_set i xs [])
meet_set (suc i) (x ∷ xs) (y ∷ ys) = ap (λ zs. meet_kind x y ∷ zs) (meet_set i xs ys)

pub meet_all : (i : ℕ) (xs ys : List Kind) → length xs ≤ i → meet_to i xs ys ≡ meet xs ys
unfolding meet_to
meet_all zero [] ys h = refl
meet_all zero (x ∷ xs) ys h = absurd (omega arith)
meet_all (suc i) [] ys h = refl
meet_all (suc i) (x ∷ xs) [] h = ap (λ zs. meet_kind x Unknown ∷ zs) (meet_all i xs [] (omega arith))
meet_all (suc i) (x ∷ xs) (y ∷ ys) h = ap (λ zs. meet_kind x y ∷ zs) (meet_all i xs ys (omega arith))

-- one turn of the loop
pub narrow_set : (xs ys old : List Kind) (i : ℕ) (k : Kind) → old ≡ meet_to i xs ys → k ≡ meet_kind (get_or old i Unknown) (get_or ys i Unknown)
    → set old i k ≡ meet_to (i + 1) xs ys
narrow_set xs ys old i k e d =
    let h : get_or old i Unknown ≡ get_or xs i Unknown = rw e (meet_at i xs ys) in
    let p = meet_set i xs ys in
    let a = add-one i in
    cc

pub ruleset narrowing = (meet_none, narrow_set, meet_all, kinds_told, not_twice)
