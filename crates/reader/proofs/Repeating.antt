-- A counted loop with a `?` is `repeat`: one turn more, a turn that fails, and the end.
use Rattle.std.proofs.Common.{◌≡◌, ℕ, suc, ◌+◌, ◌-◌, ◌<◌, ◌≤◌, List, [], ◌∷◌, ◌++◌, sym, refl, ap, ◌∙◌, add-one, arith}
use Rattle.bytecode.specs.Outcome.{Out, good, bad, bind, repeat, Fault}
use Rattle.reader.specs.Layout.{Read, one_more}

module _ {S : Type 0} (step : ℕ → S → Out S) where
  repeat_turn : (k n i : ℕ) (s : S) → n - i ≡ suc k → repeat step (n - i) i s ≡ bind (step i s) (repeat step k (suc i))
  unfolding repeat
  repeat_turn k n i s e = rw e refl

  pub repeat_more : (n i : ℕ) (s t : S) → i < n → step i s ≡ good t → repeat step (n - i) i s ≡ repeat step (n - (i + 1)) (i + 1) t
  repeat_more n i s t l e =
      let k : n - i ≡ suc (n - (i + 1)) = omega arith in
      repeat_turn (n - (i + 1)) n i s k ∙ ap (λ o. bind o (repeat step (n - (i + 1)) (suc i))) e ∙ ap (λ j. repeat step (n - (i + 1)) j t) (sym (add-one i))

  pub repeat_fault : (n i : ℕ) (s : S) (e : Fault) → i < n → step i s ≡ bad e → repeat step (n - i) i s ≡ bad e
  repeat_fault n i s e l q =
      let k : n - i ≡ suc (n - (i + 1)) = omega arith in
      repeat_turn (n - (i + 1)) n i s k ∙ ap (λ o. bind o (repeat step (n - (i + 1)) (suc i))) q

  pub repeat_end : (n i : ℕ) (s : S) → n ≤ i → repeat step (n - i) i s ≡ good s
  unfolding repeat
  repeat_end n i s l = let k : n - i ≡ 0 = omega arith in rw k refl

-- ## A series: the step reads one thing, which goes behind those read before

abbrev pub onwards : {A : Type 0} → (ℕ → Read (List A) → Out (Read A)) → ℕ → ℕ → List A → ℕ → Out (Read (List A))
onwards step n i found p = repeat (one_more step) (n - i) i (record { value = found; after = p })

module _ {A : Type 0} (step : ℕ → Read (List A) → Out (Read A)) (n i : ℕ) (found : List A) (p : ℕ) where
  pub series_more : (x : A) (q : ℕ) (more : List A) → i < n → found ++ x ∷ [] ≡ more → step i (record { value = found; after = p }) ≡ good (record { value = x; after = q }) →
      onwards step n i found p ≡ onwards step n (i + 1) more q
  series_more x q more l w e =
      repeat_more (one_more step) n i (record { value = found; after = p }) (record { value = found ++ x ∷ []; after = q }) l
      (ap (λ o. bind o (λ r. good (record { value = found ++ r.value ∷ []; after = r.after }))) e) ∙
      ap (λ found. onwards step n (i + 1) found q) w

  pub series_fault : (f : Fault) → i < n → step i (record { value = found; after = p }) ≡ bad f → onwards step n i found p ≡ bad f
  series_fault f l e =
      repeat_fault (one_more step) n i (record { value = found; after = p }) f l
      (ap (λ o. bind o (λ r. good (record { value = found ++ r.value ∷ []; after = r.after }))) e)

  pub series_end : (all : List A) → n ≤ i → found ≡ all → onwards step n i found p ≡ good (record { value = all; after = p })
  series_end all l w =
      repeat_end (one_more step) n i (record { value = found; after = p }) l ∙ ap (λ found. good (record { value = found; after = p })) w
