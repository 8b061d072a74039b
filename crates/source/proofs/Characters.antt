-- Hex text one character on: the first characters decide what the text means from there.
use Rattle.std.proofs.Common.{◌≡◌, ℕ, ◌+◌, ◌*◌, ◌<◌, ◌≤◌, true, cond, eqb, List, [], ◌∷◌, length, get_or, drop, Some, None, Ok, Err, Option, sym, refl, ap, ◌∙◌, subst, add-zero, arith}
use Rattle.std.proofs.lemmas.List.{drop_all, drop_more, at_drop_all, at_drop_more, get_or-drop, drop-drop, length-drop}
use Rattle.std.proofs.lemmas.Bool.{ne_eqb}
use Rattle.std.proofs.lemmas.Bool.Decides.{nat_tests}
use Rattle.source.specs.declared.hex.Position.{Position}
use Rattle.source.specs.declared.hex.TextFault.{TextFault}
use Rattle.source.specs.declared.hex.TextFault.TheVariants.{BadCharacter, LoneDigit}
use Rattle.source.specs.Rest.{Rest, byte, end, fault, next_of}
use Rattle.source.specs.Hex.{digit_of, blank, advanced, right, between, second, comment}
use Rattle.source.specs.Skipping.{Solid}

blank_is_no_digit : (c : ℕ) → blank c ≡ true → digit_of c ≡ None
blank_is_no_digit c h = grind (arith, nat_tests)

-- `between` and `second` by what the digit test says of the first character
abbrev began : Option ℕ → ℕ → List ℕ → Position → Rest Position TextFault
began (Some high) c cs at = second cs high at
began None c cs at =
    cond (blank c) (between cs (advanced c at)) (cond (eqb c 0x23) (comment cs (advanced c at)) (fault (BadCharacter at)))

abbrev paired : Option ℕ → ℕ → List ℕ → Position → Rest Position TextFault
paired (Some low) high cs at = byte (high * 16 + low) at (between cs (right (right at)))
paired None high cs at = fault (LoneDigit at)

between_began : (o : Option ℕ) (c : ℕ) (cs : List ℕ) (at : Position) → digit_of c ≡ o → between (c ∷ cs) at ≡ began o c cs at
unfolding between
between_began (Some high) c cs at e = rw (e, between) refl
between_began None c cs at e = rw (e, between) refl

second_paired : (o : Option ℕ) (d high : ℕ) (cs : List ℕ) (at : Position) → digit_of d ≡ o → second (d ∷ cs) high at ≡ paired o high cs at
unfolding between
second_paired (Some low) d high cs at e = rw (e, second) refl
second_paired None d high cs at e = rw (e, second) refl

pub nothing_left : (at : Position) → between [] at ≡ end
unfolding between
nothing_left at = refl

pub comment_left : (at : Position) → comment [] at ≡ end
unfolding between
comment_left at = refl

pub blank_on : (c : ℕ) (cs : List ℕ) (at : Position) → blank c ≡ true → between (c ∷ cs) at ≡ between cs (advanced c at)
blank_on c cs at h = between_began None c cs at (blank_is_no_digit c h) ∙ rw h refl

pub bad_here : (c : ℕ) (cs : List ℕ) (at : Position) → Solid c → digit_of c ≡ None → between (c ∷ cs) at ≡ fault (BadCharacter at)
bad_here c cs at s e = between_began None c cs at e ∙ rw (s.0, ne_eqb c 0x23 s.1) refl

pub comment_begins : (c : ℕ) (cs : List ℕ) (at : Position) → c ≡ 0x23 → between (c ∷ cs) at ≡ comment cs (advanced c at)
unfolding between
comment_begins c cs at e = rw e refl

pub comment_on : (c : ℕ) (cs : List ℕ) (at : Position) → (c ≡ 0x0A → ⊥) → comment (c ∷ cs) at ≡ comment cs (advanced c at)
unfolding between
comment_on c cs at h = rw (ne_eqb c 0x0A h) refl

pub comment_ends : (c : ℕ) (cs : List ℕ) (at : Position) → c ≡ 0x0A → comment (c ∷ cs) at ≡ between cs (advanced c at)
unfolding between
comment_ends c cs at h = rw h refl

pub lone_last : (c high : ℕ) (at : Position) → digit_of c ≡ Some high → between (c ∷ []) at ≡ fault (LoneDigit at)
unfolding between
lone_last c high at e = between_began (Some high) c [] at e

pub lone_here : (c d high : ℕ) (cs : List ℕ) (at : Position) → digit_of c ≡ Some high → digit_of d ≡ None → between (c ∷ d ∷ cs) at ≡ fault (LoneDigit at)
lone_here c d high cs at e f = between_began (Some high) c (d ∷ cs) at e ∙ second_paired None d high cs at f

pub byte-here :
    (c d high low : ℕ) (cs : List ℕ) (at : Position)
    → digit_of c ≡ Some high
    → digit_of d ≡ Some low
    → between (c ∷ d ∷ cs) at ≡ byte (high * 16 + low) at (between cs (right (right at)))
byte-here c d high low cs at e f = between_began (Some high) c (d ∷ cs) at e ∙ second_paired (Some low) d high cs at f

no_byte : {A : Type 0} (cs : List ℕ) (at : Position) (b : ℕ) (e : TextFault) → between cs at ≡ fault e → next_of (between cs at) ≡ Ok (Some b) → A
no_byte cs at b e h answer =
    let told : next_of (between cs at) ≡ Err e = ap next_of h in
    let z : ◌≡◌ {A = ℕ} 0 1 = cc in
    absurd (omega arith)

-- a byte is answered only where two digits stand, and it is placed at the first
pub byte-answered :
    (cs : List ℕ) (at : Position) (b : ℕ)
    → (0 < length cs → Solid (get_or cs 0 0))
    → next_of (between cs at) ≡ Ok (Some b)
    → (2 ≤ length cs) × (between cs at ≡ byte b at (between (drop 2 cs) (right (right at))))
byte-answered [] at b s h =
    let told : next_of (between [] at) ≡ Ok None = ap next_of (nothing_left at) in
    let z : ◌≡◌ {A = ℕ} 0 1 = cc in
    absurd (omega arith)
byte-answered (c ∷ []) at b s h = go (digit_of c) refl
  where
    go : (o : Option ℕ) → digit_of c ≡ o → (2 ≤ length (c ∷ [])) × (between (c ∷ []) at ≡ byte b at (between (drop 2 (c ∷ [])) (right (right at))))
    go (Some high) e = no_byte (c ∷ []) at b (LoneDigit at) (lone_last c high at e) h
    go None e = no_byte (c ∷ []) at b (BadCharacter at) (bad_here c [] at (s (omega arith)) e) h
byte-answered (c ∷ d ∷ cs) at b s h = go (digit_of c) (digit_of d) refl refl
  where
    go :
        (o p : Option ℕ)
        → digit_of c ≡ o
        → digit_of d ≡ p
        → (2 ≤ length (c ∷ d ∷ cs)) × (between (c ∷ d ∷ cs) at ≡ byte b at (between (drop 2 (c ∷ d ∷ cs)) (right (right at))))
    go (Some high) (Some low) e f =
        let here = byte-here c d high low cs at e f in
        let told : next_of (between (c ∷ d ∷ cs) at) ≡ Ok (Some (high * 16 + low)) = ap next_of here in
        let same : high * 16 + low ≡ b = cc in
        (omega arith, subst (λ (n : ℕ). between (c ∷ d ∷ cs) at ≡ byte n at (between cs (right (right at)))) same here)
    go (Some high) None e f = no_byte (c ∷ d ∷ cs) at b (LoneDigit at) (lone_here c d high cs at e f) h
    go None p e f = no_byte (c ∷ d ∷ cs) at b (BadCharacter at) (bad_here c (d ∷ cs) at (s (omega arith)) e) h

-- ## The same at an offset of the text

pub at_end : (t : List ℕ) (i : ℕ) (at : Position) → length t ≤ i → between (drop i t) at ≡ end
at_end t i at h = at_drop_all (λ l. between l at) t i h ∙ nothing_left at

pub at_one : (t : List ℕ) (i : ℕ) (at : Position) → i < length t → between (drop i t) at ≡ between (get_or t i 0 ∷ drop (i + 1) t) at
at_one t i at h = at_drop_more (λ l. between l at) t i 0 h

pub at_last : (t : List ℕ) (i : ℕ) (at : Position) → i + 1 ≡ length t → between (drop i t) at ≡ between (get_or t i 0 ∷ []) at
at_last t i at h =
    at_one t i at (omega arith) ∙ ap (λ (l : List ℕ). between (get_or t i 0 ∷ l) at) (drop_all (i + 1) t (omega arith))

pub at-two :
    (t : List ℕ) (i : ℕ) (at : Position)
    → i + 1 < length t
    → between (drop i t) at ≡ between (get_or t i 0 ∷ get_or t (i + 1) 0 ∷ drop (i + 1 + 1) t) at
at-two t i at h =
    at_one t i at (omega arith) ∙ ap (λ (l : List ℕ). between (get_or t i 0 ∷ l) at) (drop_more t (i + 1) 0 h)

pub byte-answered-at :
    (t : List ℕ) (i : ℕ) (at : Position) (b : ℕ)
    → (i < length t → Solid (get_or t i 0))
    → next_of (between (drop i t) at) ≡ Ok (Some b)
    → (i + 2 ≤ length t) × (between (drop i t) at ≡ byte b at (between (drop (i + 2) t) (right (right at))))
byte-answered-at t i at b s h =
    let solid : 0 < length (drop i t) → Solid (get_or (drop i t) 0 0) =
    λ k. subst (λ (c : ℕ). Solid c) (sym (get_or-drop i t 0 0 ∙ ap (λ (j : ℕ). get_or t j 0) (add-zero i))) (s (omega (arith, length-drop i t)))
    in
    let found = byte-answered (drop i t) at b solid h in
    (omega (arith, length-drop i t, found.0), found.1 ∙ ap (λ (l : List ℕ). byte b at (between l (right (right at)))) (drop-drop 2 i t))
