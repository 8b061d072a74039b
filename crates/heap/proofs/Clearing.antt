-- Cells made zero and a block laid there: what lies below is as it was, and what was laid has no mark.
use Rattle.std.proofs.Common.{◌≡◌, ℕ, zero, suc, ◌+◌, ◌<◌, ◌≤◌, Bool, true, false, eqb, ◌≢◌, List, length, get_or, set, replicate, sym, refl, ap, ◌∙◌, arith, length-set, get_or-set_other, get_or-set_same, eqb-true}
use lib.ListN.{length-replicate}
use borrow.Author.Tests.{eqb-false}
use Rattle.heap.specs.declared.Cell.{Cell}
use Rattle.heap.specs.Checked.{Content, plain, Layout, single, array, room, zeros, header, fresh}
use Rattle.heap.specs.Storage.{no_cell, unmarked, clear, laid}
use Rattle.heap.specs.Relation.{content_of}

pub length-clear : (mem : List Cell) (i n : ℕ) → length (clear mem i n) ≡ length mem
length-clear mem i zero = refl
length-clear mem i (suc n) = length-clear (set mem i (unmarked zeros)) (suc i) n ∙ length-set mem i (unmarked zeros)

clear_below : (mem : List Cell) (i n j : ℕ) → j < i → get_or (clear mem i n) j no_cell ≡ get_or mem j no_cell
clear_below mem i zero j h = refl
clear_below mem i (suc n) j h =
    let ne : j ≢ i = omega arith in
    clear_below (set mem i (unmarked zeros)) (suc i) n j (omega arith) ∙ get_or-set_other mem i j (unmarked zeros) no_cell ne

clear_in : (mem : List Cell) (i n j : ℕ) → i ≤ j → j < i + n → i + n ≤ length mem → get_or (clear mem i n) j no_cell ≡ unmarked zeros
clear_in mem i zero j h k f = absurd (let z : ⊥ = omega arith in z)
clear_in mem i (suc n) j h k f = go (clear_in (set mem i (unmarked zeros)) (suc i) n j) (eqb j i) refl
  where
    go : (suc i ≤ j → j < suc i + n → suc i + n ≤ length (set mem i (unmarked zeros)) → get_or (clear (set mem i (unmarked zeros)) (suc i) n) j no_cell ≡ unmarked zeros)
        → (t : Bool) → eqb j i ≡ t → get_or (clear (set mem i (unmarked zeros)) (suc i) n) j no_cell ≡ unmarked zeros
    go more true e =
        let q = eqb-true j i e in
        let w : i < length mem = omega arith in
        clear_below (set mem i (unmarked zeros)) (suc i) n j (omega arith) ∙ ap (λ x. get_or (set mem i (unmarked zeros)) x no_cell) q
        ∙ get_or-set_same mem i (unmarked zeros) no_cell w
    go more false e =
        let ne = eqb-false j i e in
        let w = length-set mem i (unmarked zeros) in
        more (omega arith) (omega arith) (omega arith)

pub length-laid : (mem : List Cell) (i : ℕ) (how : Layout) → length (laid mem i how) ≡ length mem
length-laid mem i (single s) = length-clear mem i (room (single s))
length-laid mem i (array n s) =
    length-set (clear mem i (room (array n s))) i (unmarked (header n s)) ∙ length-clear mem i (room (array n s))

pub laid_below : (mem : List Cell) (i : ℕ) (how : Layout) (j : ℕ) → j < i → get_or (laid mem i how) j no_cell ≡ get_or mem j no_cell
laid_below mem i (single s) j h = clear_below mem i (room (single s)) j h
laid_below mem i (array n s) j h =
    let ne : j ≢ i = omega arith in
    get_or-set_other (clear mem i (room (array n s))) i j (unmarked (header n s)) no_cell ne ∙ clear_below mem i (room (array n s)) j h

zeros_everywhere : (n j : ℕ) → get_or (replicate n (plain zeros)) j (plain zeros) ≡ plain zeros
zeros_everywhere zero j = refl
zeros_everywhere (suc n) zero = refl
zeros_everywhere (suc n) (suc j) = zeros_everywhere n j

pub length-fresh : (how : Layout) → length (fresh how) ≡ room how
length-fresh (single s) = length-replicate (room (single s)) (plain zeros)
length-fresh (array n s) =
    length-set (replicate (room (array n s)) (plain zeros)) 0 (plain (header n s)) ∙ length-replicate (room (array n s)) (plain zeros)

-- a cell without a mark that holds x
abbrev pub Unmarked : Cell → Content → Type 0
Unmarked c x = (x ≡ content_of c) × (c.mark ≡ false)

pub laid_in : (mem : List Cell) (i : ℕ) (how : Layout) (j : ℕ) → j < room how → i + room how ≤ length mem
    → Unmarked (get_or (laid mem i how) (i + j) no_cell) (get_or (fresh how) j (plain zeros))
laid_in mem i (single s) j h f =
    let e = clear_in mem i (room (single s)) (i + j) (omega arith) (omega arith) f in
    (zeros_everywhere (room (single s)) j ∙ ap content_of (sym e), ap (λ (c : Cell). c.mark) e)
laid_in mem i (array n s) j h f = go (eqb j 0) refl
  where
    go : (t : Bool) → eqb j 0 ≡ t
        → Unmarked (get_or (set (clear mem i (room (array n s))) i (unmarked (header n s))) (i + j) no_cell)
        (get_or (set (replicate (room (array n s)) (plain zeros)) 0 (plain (header n s))) j (plain zeros))
    go true q =
        let z = eqb-true j 0 q in
        let k : i + j ≡ i = omega arith in
        let a = length-clear mem i (room (array n s)) in
        let b = length-replicate (room (array n s)) (plain zeros) in
        let u : i < length (clear mem i (room (array n s))) = omega arith in
        let v : 0 < length (replicate (room (array n s)) (plain zeros)) = omega arith in
        let e : get_or (set (clear mem i (room (array n s))) i (unmarked (header n s))) (i + j) no_cell ≡ unmarked (header n s)
        = ap (λ x. get_or (set (clear mem i (room (array n s))) i (unmarked (header n s))) x no_cell) k
        ∙ get_or-set_same (clear mem i (room (array n s))) i (unmarked (header n s)) no_cell u in (
          ap (λ x. get_or (set (replicate (room (array n s)) (plain zeros)) 0 (plain (header n s))) x (plain zeros)) z
              ∙ get_or-set_same (replicate (room (array n s)) (plain zeros)) 0 (plain (header n s)) (plain zeros) v ∙ ap content_of (sym e),
          ap (λ (c : Cell). c.mark) e,
        )
    go false q =
        let z = eqb-false j 0 q in
        let ne : i + j ≢ i = λ x. z (omega arith) in
        let e : get_or (set (clear mem i (room (array n s))) i (unmarked (header n s))) (i + j) no_cell ≡ unmarked zeros
        = get_or-set_other (clear mem i (room (array n s))) i (i + j) (unmarked (header n s)) no_cell ne
        ∙ clear_in mem i (room (array n s)) (i + j) (omega arith) (omega arith) f in (
          get_or-set_other (replicate (room (array n s)) (plain zeros)) 0 j (plain (header n s)) (plain zeros) z
              ∙ zeros_everywhere (room (array n s)) j ∙ ap content_of (sym e),
          ap (λ (c : Cell). c.mark) e,
        )
