-- Entries of pools, kinds that are the same, and what variables hold.
use Rattle.std.proofs.Common.{◌≡◌, ℕ, zero, suc, ◌-◌, ◌<◌, ◌≤◌, Bool, true, false, ◌&&◌, eqb, List, [], ◌∷◌, ◌++◌, map, length, get_or, set, replicate, Some, None, Option, sym, refl, subst, subst₂, inl, inr, arith, length-append, get_or-set_other, get_or-set_same, eqb-true}
use lib.ListN.{length-map, length-replicate}
use borrow.Author.Tests.{eqb-false}
use Rattle.bytecode.specs.declared.kind.Kind.{Kind}
use Rattle.bytecode.specs.declared.kind.Kind.TheVariants.{Unknown, Word, Reference as Ref}
use Rattle.bytecode.specs.Program.{Signature}
use Rattle.plan.specs.Programs.{nth}
use Rattle.plan.specs.Shapes.{Shape, Reach, eq_kind, eq_kinds}
use Rattle.plan.proofs.Reaching.{eq_kind-is, eq_kinds-is}
use Rattle.checked.specs.Machine.{Value, word, reference, kind_of, variable, agrees}
use Rattle.checked.specs.Sound.{Held, Holding}

-- ## Pools

pub nth_some : {A : Type 0} (xs : List A) (i : ℕ) → i < length xs → (x : A) × (nth xs i ≡ Some x)
nth_some [] i lt = absurd (omega arith)
nth_some (y ∷ xs) zero lt = (y, refl)
nth_some (y ∷ xs) (suc i) lt = nth_some xs i (omega arith)

-- ## The same kinds

pub agrees_is : (g : Signature) (o : Option Signature) → agrees g o ≡ true → o ≡ Some g
agrees_is g None e = cc
agrees_is g (Some h) e = go (eq_kind g.result h.result) refl e
  where
    go : (b : Bool) → eq_kind g.result h.result ≡ b → (b && eq_kinds g.arguments h.arguments) ≡ true → Some h ≡ Some g
    go true q t =
        let i = sym (eq_kind-is g.result h.result q) in
        let j = sym (eq_kinds-is g.arguments h.arguments t) in
        λ n. Some (record { arguments = j n; result = i n })
    go false q t = cc

-- ## Variables

-- a variable of a known kind has a value of that kind
pub held_value : (k : Kind) (o : Option Value) → (k ≡ Unknown → ⊥) → Held k o → (v : Value) × (o ≡ Some v) × (kind_of v ≡ k)
held_value Unknown o ne h = absurd (ne refl)
held_value Word None ne h = absurd h
held_value Word (Some v) ne h = (v, refl, h)
held_value Ref None ne h = absurd h
held_value Ref (Some v) ne h = (v, refl, h)

pub held_of : (v : Value) → Held (kind_of v) (Some v)
held_of (word n) = refl
held_of (reference r) = refl

-- what holds a shape holds every shape that it reaches
pub holding_reach : (vs : List (Option Value)) (x y : Shape) → Reach x y → Holding vs x.variables → Holding vs y.variables
holding_reach vs x y r h i =
    elim (r.variables i) [
      | inl e ↦ subst (λ k. Held k (variable vs i)) (sym e) tt
      | inr e ↦ subst (λ k. Held k (variable vs i)) (sym e) (h i)
    ]

pub holding_set : (vs : List (Option Value)) (ks : List Kind) (i : ℕ) (v : Value) → i < length vs → i < length ks → Holding vs ks
    → Holding (set vs i (Some v)) (set ks i (kind_of v))
holding_set vs ks i v lv lk h j = go (eqb j i) refl
  where
    go : (b : Bool) → eqb j i ≡ b → Held (get_or (set ks i (kind_of v)) j Unknown) (variable (set vs i (Some v)) j)
    go true q =
        let e = eqb-true j i q in
        subst (λ m. Held (get_or (set ks i (kind_of v)) m Unknown) (variable (set vs i (Some v)) m)) (sym e)
        (subst₂ Held (sym (get_or-set_same ks i (kind_of v) Unknown lk)) (sym (get_or-set_same vs i (Some v) None lv)) (held_of v))
    go false q =
        let ne = eqb-false j i q in
        subst₂ Held (sym (get_or-set_other ks i j (kind_of v) Unknown ne)) (sym (get_or-set_other vs i j (Some v) None ne)) (h j)

unknown_past : (b i : ℕ) → get_or (replicate b Unknown) i Unknown ≡ Unknown
unknown_past zero i = refl
unknown_past (suc b) zero = refl
unknown_past (suc b) (suc i) = unknown_past b i

-- the variables of a new frame hold its function's entry shape
pub entry_holding : (args : List Value) (a b : ℕ) → Holding (map Some args ++ replicate a None) (map kind_of args ++ replicate b Unknown)
entry_holding [] a b i = subst (λ k. Held k (variable (replicate a None) i)) (sym (unknown_past b i)) tt
entry_holding (v ∷ args) a b zero = held_of v
entry_holding (v ∷ args) a b (suc i) = entry_holding args a b i

pub entry_length : (args : List Value) (n m : ℕ) → length args ≡ m → m ≤ n → length (map {B = Option Value} Some args ++ replicate (n - length args) None) ≡ n
entry_length args n m e le = simp (length-append, length-map, length-replicate) (omega arith)
