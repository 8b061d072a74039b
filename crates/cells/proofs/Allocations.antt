-- Room for an allocation: cells and a block record that are not in use.
use Rattle.std.proofs.Common.{◌≡◌, ℕ, ◌+◌, ◌<◌, ◌≤◌, Bool, true, false, cond, ltb, leb, length, refl, arith, ltb-true, leb-true}
use Rattle.heap.specs.Storage.{Storage, has_room}

pub record Room (l : Storage) (need : ℕ) : Type 0 where
  pub cells_left : l.used + need ≤ length l.cells
  pub records_left : l.count < length l.records

pub has_room-true : (l : Storage) (need : ℕ) → has_room l need ≡ true → Room l need
has_room-true l need = go (leb (l.used + need) (length l.cells)) (ltb l.count (length l.records)) refl refl
  where
    go : (t u : Bool) → leb (l.used + need) (length l.cells) ≡ t → ltb l.count (length l.records) ≡ u → cond t u false ≡ true → Room l need
    go true true e f w =
        record { cells_left = leb-true (l.used + need) (length l.cells) e; records_left = ltb-true l.count (length l.records) f }
    go true false e f w = let z : ◌≡◌ {A = ℕ} 0 1 = cc in absurd (let x : ⊥ = omega arith in x)
    go false u e f w = let z : ◌≡◌ {A = ℕ} 0 1 = cc in absurd (let x : ⊥ = omega arith in x)
