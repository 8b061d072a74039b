-- One turn of the loop that passes blanks and comments: the text means the same from the next character on.
use Rattle.std.proofs.Common.{◌≡◌, ℕ, ◌+◌, ◌<◌, ◌≤◌, Bool, true, false, cond, not, eqb, List, ◌∷◌, length, get_or, drop, sym, refl, ◌∙◌}
use Rattle.std.proofs.lemmas.List.{at_drop_all, at_drop_more}
use Rattle.std.proofs.lemmas.Bool.{eqb-true, eqb-false}
use Rattle.source.specs.declared.hex.Position.{Position}
use Rattle.source.specs.declared.hex.TextFault.{TextFault}
use Rattle.source.specs.Rest.{Rest}
use Rattle.source.specs.Hex.{blank, advanced, between, comment}
use Rattle.source.proofs.Characters.{at_end, at_one, comment_left, comment_on, comment_ends, comment_begins, blank_on}

-- what the text means from an offset on, within a comment or between bytes
abbrev pub reading : Bool → List ℕ → ℕ → Position → Rest Position TextFault
reading within t i at = cond within (comment (drop i t) at) (between (drop i t) at)

comment_at : (t : List ℕ) (i : ℕ) (at : Position) → i < length t → comment (drop i t) at ≡ comment (get_or t i 0 ∷ drop (i + 1) t) at
comment_at t i at h = at_drop_more (λ l. comment l at) t i 0 h

pub commented :
    (t : List ℕ) (i : ℕ) (at : Position)
    → i < length t
    → reading (not (eqb (get_or t i 0) 10)) t (i + 1) (advanced (get_or t i 0) at) ≡ comment (drop i t) at
commented t i at h = go (eqb (get_or t i 0) 10) refl
  where
    go : (b : Bool) → eqb (get_or t i 0) 10 ≡ b → reading (not b) t (i + 1) (advanced (get_or t i 0) at) ≡ comment (drop i t) at
    go true e = sym (comment_at t i at h ∙ comment_ends (get_or t i 0) (drop (i + 1) t) at (eqb-true (get_or t i 0) 10 e))
    go false e = sym (comment_at t i at h ∙ comment_on (get_or t i 0) (drop (i + 1) t) at (eqb-false (get_or t i 0) 10 e))

pub comment-begun :
    (t : List ℕ) (i : ℕ) (at : Position)
    → i < length t
    → get_or t i 0 ≡ 0x23
    → comment (drop (i + 1) t) (advanced (get_or t i 0) at) ≡ between (drop i t) at
comment-begun t i at h e = sym (at_one t i at h ∙ comment_begins (get_or t i 0) (drop (i + 1) t) at e)

pub blank-passed :
    (t : List ℕ) (i : ℕ) (at : Position)
    → i < length t
    → blank (get_or t i 0) ≡ true
    → between (drop (i + 1) t) (advanced (get_or t i 0) at) ≡ between (drop i t) at
blank-passed t i at h e = sym (at_one t i at h ∙ blank_on (get_or t i 0) (drop (i + 1) t) at e)

-- a comment may end with the text
pub read_to_end : (within : Bool) (t : List ℕ) (i : ℕ) (at : Position) → length t ≤ i → between (drop i t) at ≡ reading within t i at
read_to_end true t i at h = at_end t i at h ∙ sym (at_drop_all (λ l. comment l at) t i h ∙ comment_left at)
read_to_end false t i at h = refl
