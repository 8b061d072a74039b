-- Kinds compared: by the comparison that is derived, and by that of the plans.
use Rattle.std.proofs.Common.{◌≡◌, ℕ, ◌-◌, ◌≤◌, Bool, true, false, not, List, ◌++◌, reverse, length, take, drop, sym, refl, ap, ◌∙◌, arith, length-drop}
use Rattle.std.proofs.lemmas.List.{reverse-append, reverse-reverse, length-reverse, take-append-drop}
use Rattle.std.proofs.Math.Seq.{take-append_seam}
use Rattle.std.specs.Cmp.Lexicographic.{pointwise}
use Rattle.bytecode.specs.declared.kind.Kind.{Kind}
use Rattle.bytecode.specs.contracts.kind.KindPartialEq.TheImpl.{eq-value}
use Rattle.plan.specs.Shapes.{eq_kinds}
use Rattle.plan.proofs.Reaching.{kinds_told, eq_kinds-is, eq_kinds-refl}

-- the derived comparison
abbrev pub entries_eq : List Kind → List Kind → Bool
entries_eq = pointwise eq-value.it

pub not_twice : (b : Bool) → not (not b) ≡ b
not_twice true = refl
not_twice false = refl

-- two tests of one thing
decided : (xs ys ks ls : List Kind) → (xs ≡ ys → ks ≡ ls) → (ks ≡ ls → xs ≡ ys) → eq_kinds xs ys ≡ eq_kinds ks ls
decided xs ys ks ls to back = go (eq_kinds xs ys) refl (eq_kinds ks ls) refl
  where
    go : (b : Bool) → eq_kinds xs ys ≡ b → (d : Bool) → eq_kinds ks ls ≡ d → b ≡ d
    go true e true d = refl
    go false e false d = refl
    go true e false d =
        let r : ks ≡ ls = to (eq_kinds-is xs ys e) in
        let s = eq_kinds-refl ls in
        cc
    go false e true d =
        let r : xs ≡ ys = back (eq_kinds-is ks ls d) in
        let s = eq_kinds-refl ys in
        cc

turned_same : (ks ls : List Kind) → eq_kinds (reverse ks) (reverse ls) ≡ eq_kinds ks ls
turned_same ks ls = decided (reverse ks) (reverse ls) ks ls (λ e. sym (reverse-reverse ks) ∙ ap reverse e ∙ reverse-reverse ls) (ap reverse)

-- the last n of a list are the first n of it turned round
pub last_turned : (n : ℕ) (ks : List Kind) → n ≤ length ks → take n (reverse ks) ≡ reverse (drop (length ks - n) ks)
last_turned n ks h =
    let front = take (length ks - n) ks in
    let back = drop (length ks - n) ks in
    let l : length (reverse back) ≡ n = omega (arith, length-reverse back, length-drop (length ks - n) ks) in
    ap (λ ms. take n (reverse ms)) (sym (take-append-drop (length ks - n) ks)) ∙ ap (take n) (reverse-append front back) ∙
    ap (λ m. take m (reverse back ++ reverse front)) (sym l) ∙ take-append_seam (reverse back) (reverse front)

-- whether a stack has these kinds on top, by the lists of both from the bottom up
module _ (st taken ks ts : List Kind) (e : st ≡ reverse ks) (d : taken ≡ reverse ts) where
  pub on_top : length taken ≤ length st → eq_kinds (take (length taken) st) taken ≡ entries_eq ts (drop (length ks - length ts) ks)
  on_top h =
      let n : length taken ≡ length ts = ap length d ∙ length-reverse ts in
      let l : length ts ≤ length ks = omega (arith, ap length e, length-reverse ks) in
      ap (λ m. eq_kinds (take m st) taken) n ∙ ap (λ z. eq_kinds (take (length ts) z) taken) e ∙ ap (λ z. eq_kinds (take (length ts) (reverse ks)) z) d ∙
      ap (λ z. eq_kinds z (reverse ts)) (last_turned (length ts) ks l) ∙ turned_same (drop (length ks - length ts) ks) ts ∙
      decided (drop (length ks - length ts) ks) ts ts (drop (length ks - length ts) ks) sym sym ∙ sym (kinds_told ts (drop (length ks - length ts) ks))

  pub all_same : eq_kinds st taken ≡ entries_eq ks ts
  all_same = ap (λ z. eq_kinds z taken) e ∙ ap (eq_kinds (reverse ks)) d ∙ turned_same ks ts ∙ sym (kinds_told ks ts)

-- what a test that two lists differ says
pub differ : (b r : Bool) → r ≡ not b → r ≡ true → b ≡ false
differ true r e d = sym d ∙ e
differ false r e d = refl

pub agree : (b r : Bool) → r ≡ not b → r ≡ false → true ≡ b
agree true r e d = refl
agree false r e d = sym e ∙ d
