-- What a stack over a list holds after its newest entry is taken off, and after it is cut.
use Rattle.std.proofs.Common.{◌≡◌, ℕ, ◌+◌, ◌-◌, ◌<◌, ◌≤◌, min, List, [], ◌∷◌, ◌++◌, reverse, length, get_or, take, drop, sym, ap, ◌∙◌, arith, length-drop, take-append-drop, length-take-le, take-take}
use mathlib.Core.List.{reverse-append}
use lib.ListN.{length-reverse}
use lib.Seq.{drop-append_seam}
use Rattle.std.proofs.lemmas.List.{take_more}
use Rattle.stack.specs.Stacks.{older}

module _ {T : Type 0} where
  pub popped_off : (xs : List T) (n : ℕ) (d : T) → 0 < n → n ≤ length xs → reverse (take (n - 1) xs) ≡ older (reverse (take n xs))
  popped_off xs n d some h =
      let e : n ≡ (n - 1) + 1 = omega arith in
      sym (ap (λ m. older (reverse (take m xs))) e ∙ ap (λ ys. older (reverse ys)) (take_more xs (n - 1) d (omega arith))
      ∙ ap older (reverse-append (take (n - 1) xs) (get_or xs (n - 1) d ∷ [])))

  pub cut_off : (xs : List T) (n m : ℕ) → n ≤ length xs → reverse (take (min n m) xs) ≡ drop (n - m) (reverse (take n xs))
  cut_off xs n m h =
      let k = min n m in
      let p : k ≤ n = omega arith in
      let front : List T = reverse (drop k (take n xs)) in
      let e : reverse (take n xs) ≡ front ++ reverse (take k xs) =
      ap reverse (sym (take-append-drop k (take n xs))) ∙ reverse-append (take k (take n xs)) (drop k (take n xs))
      ∙ ap (λ zs. front ++ reverse zs) (take-take k n xs p) in
      let l : length front ≡ n - m = length-reverse (drop k (take n xs)) ∙ length-drop k (take n xs) ∙ ap (λ z. z - k) (length-take-le n xs h) ∙ (omega arith) in
      sym (ap (drop (n - m)) e ∙ ap (λ z. drop z (front ++ reverse (take k xs))) (sym l) ∙ drop-append_seam front (reverse (take k xs)))
