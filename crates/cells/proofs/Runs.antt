-- Neighbours written all at once are as they are when they are written one after another.
use Rattle.std.proofs.Common.{◌≡◌, ℕ, zero, suc, ◌+◌, ◌-◌, ◌≤◌, false, List, ◌++◌, length, take, drop, set, replicate, append_assoc, refl, sym, ap, ◌∙◌, ap₂, length-take-le, length-drop, arith}
use borrow.Rule.Slice.PartMut.{put_mid}
use lib.Seq.{sets}
use Rattle.std.specs.Array.{AllOfLen}
use Rattle.std.proofs.lemmas.List.{drop-drop, length-replicate}
use Rattle.std.proofs.lemmas.List.FromFn.{fill_by_all}
use Rattle.std.proofs.lemmas.List.Edits.{sets-eq}
use Rattle.heap.specs.declared.Cell.{Cell}
use Rattle.heap.specs.Checked.{zeros}
use Rattle.heap.specs.Storage.{unmarked, clear}

put_mid-sets : {X : Type 0} (xs vs : List X) (i : ℕ) → i + length vs ≤ length xs → put_mid i (length vs) xs vs ≡ sets xs i vs
put_mid-sets xs vs i h = ap (λ ys. take i xs ++ (vs ++ ys)) (drop-drop (length vs) i xs) ∙ sym (sets-eq vs xs i h ∙ append_assoc (take i xs) vs (drop (i + length vs) xs))

sets-clear : (mem : List Cell) (i n : ℕ) → sets mem i (replicate n (unmarked zeros)) ≡ clear mem i n
sets-clear mem i zero = refl
sets-clear mem i (suc n) = sets-clear (set mem i (unmarked zeros)) (suc i) n

-- what `Cell::default` answers
pub zero_cell : (c : Cell) → AllOfLen (λ x. x ≡ 0) c.bytes 8 → c.mark ≡ false → c ≡ unmarked zeros
zero_cell c bytes mark = ap₂ (λ bs m. record { bytes = bs; mark = m }) (fill_by_all (λ k. 0) c.bytes 8 0 bytes.long (λ k lt. bytes.at k 0 lt)) mark

-- the next cells filled with the zero cell
pub filled : (mem cells : List Cell) (i n : ℕ) (empty : Cell) → empty ≡ unmarked zeros → i + n ≤ length mem
    → cells ≡ replicate (length (take (i + n - i) (drop i mem))) empty → put_mid i (i + n - i) mem cells ≡ clear mem i n
filled mem cells i n empty is_zero h is =
    let k : i + n - i ≡ n = omega arith in
    let d : n ≤ length (drop i mem) = omega (arith, length-drop i mem) in
    let e : length (take (i + n - i) (drop i mem)) ≡ n = ap (λ m. length (take m (drop i mem))) k ∙ length-take-le n (drop i mem) d in
    let same : cells ≡ replicate n (unmarked zeros) = is ∙ ap₂ replicate e is_zero in
    let long : i + n - i ≡ length (replicate n (unmarked zeros)) = k ∙ sym (length-replicate n (unmarked zeros)) in
    let inside : i + length (replicate n (unmarked zeros)) ≤ length mem = omega (arith, length-replicate n (unmarked zeros)) in
    ap₂ (λ m ys. put_mid i m mem ys) long same ∙ put_mid-sets mem (replicate n (unmarked zeros)) i inside ∙ sets-clear mem i n
