-- The marks that decoding leaves stand at the starts and nowhere else, and an instruction stands at each.
use Rattle.std.proofs.Common.{◌≡◌, ℕ, zero, suc, ◌+◌, ◌<◌, ◌≤◌, Bool, true, false, cond, ltb, ◌≢◌, ◌⊎◌, List, [], ◌∷◌, length, get_or, set, replicate, Some, None, Option, sym, refl, ap, ◌∙◌, subst, inl, inr, true≢false, arith, length-set, get_or-set_other, get_or-set_same, ltb-false, ltb-true}
use lib.ListN.{length-replicate}
use Rattle.std.proofs.lemmas.Bool.{cases_eq}
use Rattle.bytecode.specs.declared.instruction.Instruction.{Instruction}
use Rattle.bytecode.specs.declared.instruction.Instruction.TheVariants.{Nop}
use Rattle.bytecode.specs.Instructions.{size_of, decode_at, onward, walk, starts_of}
use Rattle.bytecode.specs.Outcome.{good}
use Rattle.plan.specs.Starts.{InOrder, first, after, Marked}
use Rattle.plan.proofs.Outcomes.{On}

pub size_positive : (i : Instruction) → 0 < size_of i
size_positive Nop = omega arith
size_positive i = omega arith

-- the walk stands at p with these marks: they are starts with instructions, p is a start if it is in the code, and what follows a
-- mark is marked, or p, or past the code
record Walking (code : List ℕ) (p : ℕ) (marks : List Bool) : Type 0 where
  size : length marks ≡ length code
  sound : (q : ℕ) → get_or marks q false ≡ true → InOrder code q × ((i : Instruction) × (decode_at code q ≡ Some i))
  here : p < length code → InOrder code p
  begun : (get_or marks 0 false ≡ true) ⊎ (p ≡ 0)
  closed : (q : ℕ) (i : Instruction) → get_or marks q false ≡ true → decode_at code q ≡ Some i → (get_or marks (q + size_of i) false ≡ true) ⊎ (p ≡ q + size_of i)

still : (marks : List Bool) (p q : ℕ) → get_or marks q false ≡ true → get_or (set marks p true) q false ≡ true
still marks p q h = go (cases_eq q p)
  where
    within : (ms : List Bool) (r : ℕ) → get_or ms r false ≡ true → r < length ms
    within [] r e = absurd (true≢false (sym e))
    within (b ∷ ms) zero e = omega arith
    within (b ∷ ms) (suc r) e = let ih = within ms r e in omega arith

    go : (q ≡ p) ⊎ (q ≢ p) → get_or (set marks p true) q false ≡ true
    go (inl e) = let l : p < length marks = subst (λ r. r < length marks) e (within marks q h) in rw e (get_or-set_same marks p true false l)
    go (inr n) = get_or-set_other marks p q true false n ∙ h

module _ (code : List ℕ) where
  walking_more : (p : ℕ) (marks : List Bool) (i : Instruction) → p < length code → decode_at code p ≡ Some i → Walking code p marks
      → Walking code (p + size_of i) (set marks p true)
  walking_more p marks i lt d w =
      record {
        size = length-set marks p true ∙ w.size;
        sound = λ q m. sound q m (cases_eq q p);
        here = λ l. after p i (w.here lt) d l;
        begun = begun w.begun;
        closed = λ q j m e. closed q j m e (cases_eq q p);
      }
    where
      marked_here : get_or (set marks p true) p false ≡ true
      marked_here = get_or-set_same marks p true false (omega (arith, w.size))

      sound : (q : ℕ) → get_or (set marks p true) q false ≡ true → (q ≡ p) ⊎ (q ≢ p) → InOrder code q × ((i : Instruction) × (decode_at code q ≡ Some i))
      sound q m (inl e) = (subst (InOrder code) (sym e) (w.here lt), (i, ap (decode_at code) e ∙ d))
      sound q m (inr n) = w.sound q (sym (get_or-set_other marks p q true false n) ∙ m)

      begun : (get_or marks 0 false ≡ true) ⊎ (p ≡ 0) → (get_or (set marks p true) 0 false ≡ true) ⊎ (p + size_of i ≡ 0)
      begun (inl m) = inl (still marks p 0 m)
      begun (inr e) = inl (subst (λ r. get_or (set marks p true) r false ≡ true) e marked_here)

      earlier : (r : ℕ) → (get_or marks r false ≡ true) ⊎ (p ≡ r) → (get_or (set marks p true) r false ≡ true) ⊎ (p + size_of i ≡ r)
      earlier r (inl m) = inl (still marks p r m)
      earlier r (inr e) = inl (subst (λ r. get_or (set marks p true) r false ≡ true) e marked_here)

      closed : (q : ℕ) (j : Instruction) → get_or (set marks p true) q false ≡ true → decode_at code q ≡ Some j → (q ≡ p) ⊎ (q ≢ p)
          → (get_or (set marks p true) (q + size_of j) false ≡ true) ⊎ (p + size_of i ≡ q + size_of j)
      closed q j m e (inl h) =
          let g : decode_at code q ≡ Some i = ap (decode_at code) h ∙ d in
          let k : i ≡ j = cc in
          inr (omega (arith, h, ap size_of k))
      closed q j m e (inr n) = earlier (q + size_of j) (w.closed q j (sym (get_or-set_other marks p q true false n) ∙ m) e)

  walking_end : (p : ℕ) (marks : List Bool) → length code ≤ p → Walking code p marks → Marked code marks
  walking_end p marks l w =
      record { size = w.size; sound = λ q m. (w.sound q m).0; decodes = λ q m. (w.sound q m).1; complete = λ q o. complete q o }
    where
      follows : (q : ℕ) → q < length code → (get_or marks q false ≡ true) ⊎ (p ≡ q) → get_or marks q false ≡ true
      follows q h (inl m) = m
      follows q h (inr e) = absurd (omega (arith, e))

      complete : (q : ℕ) → InOrder code q → get_or marks q false ≡ true
      complete q (first h) = follows 0 h w.begun
      complete q (after r i o d h) = follows (r + size_of i) h (w.closed r i (complete r o) d)

  walk_marks : (f k p : ℕ) (marks : List Bool) → length code ≤ p + k → Walking code p marks → On (Unit {0}) (Marked code) (walk f code k p marks)
  unfolding walk
  walk_marks f zero p marks l w = walking_end p marks (omega (arith, l)) w
  walk_marks f (suc k) p marks l w = go (ltb p (length code)) refl (walk_marks f k)
    where
      decoding : (o : Option Instruction) → decode_at code p ≡ o → p < length code
          → ((q : ℕ) (ms : List Bool) → length code ≤ q + k → Walking code q ms → On (Unit {0}) (Marked code) (walk f code k q ms))
          → On (Unit {0}) (Marked code) (onward f p (λ q. walk f code k q (set marks p true)) o)
      decoding None d lt ih = tt
      decoding (Some i) d lt ih = ih (p + size_of i) (set marks p true) (omega (arith, l, size_positive i)) (walking_more p marks i lt d w)

      go : (b : Bool) → ltb p (length code) ≡ b
          → ((q : ℕ) (ms : List Bool) → length code ≤ q + k → Walking code q ms → On (Unit {0}) (Marked code) (walk f code k q ms))
          → On (Unit {0}) (Marked code) (cond b (onward f p (λ q. walk f code k q (set marks p true)) (decode_at code p)) (good marks))
      go true e ih = decoding (decode_at code p) refl (ltb-true _ _ e) ih
      go false e ih = walking_end p marks (ltb-false _ _ e) w

  unmarked : (n q : ℕ) → get_or (replicate n false) q false ≡ false
  unmarked zero q = refl
  unmarked (suc n) zero = refl
  unmarked (suc n) (suc q) = unmarked n q

  pub starts_marked : (f : ℕ) → On (Unit {0}) (Marked code) (starts_of f code)
  starts_marked f =
      walk_marks f (length code) 0 (replicate (length code) false) (omega arith)
      (record {
        size = length-replicate (length code) false;
        sound = λ q m. absurd (true≢false (sym m ∙ unmarked (length code) q));
        here = λ l. first l;
        begun = inr refl;
        closed = λ q i m d. absurd (true≢false (sym m ∙ unmarked (length code) q));
      })
