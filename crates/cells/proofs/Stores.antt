-- A store, from the cell that it writes: the storage stays sound.
use Rattle.std.proofs.Common.{◌≡◌, ℕ, ◌<◌, Ok, Err, Result, sym, subst, arith}
use Rattle.bytecode.specs.declared.stop.Stop.{Stop}
use Rattle.bytecode.specs.Stops.{Attempt, gives, stops}
use Rattle.heap.specs.declared.Cell.{Cell}
use Rattle.heap.specs.Storage.{Storage, Sound, cell_in, with_cell}
use Rattle.heap.proofs.Soundness.{sound-with_cell}
use Rattle.cells.specs.View.{leaves, Unchanged, Given, Naming}

module _ {A : Type 0} (l : Storage) (j : ℕ) (c : Cell) where
  naming_left : (x : Result A Stop) (o : Attempt Cell) → leaves x c ≡ o → Unchanged x (cell_in l j) c
      → Naming l.count (cell_in l j) → Given (Naming l.count) o → Naming l.count c
  naming_left (Ok a) (gives d) e s n k = let q : d ≡ c = cc in subst (Naming l.count) q k
  naming_left (Ok a) (stops d) e s n k = let z : ◌≡◌ {A = ℕ} 0 1 = cc in absurd (let f : ⊥ = omega arith in f)
  naming_left (Err a) o e s n k = subst (Naming l.count) (sym s) n

  pub sound_left : (x : Result A Stop) (o : Attempt Cell) → Sound l → j < l.used → leaves x c ≡ o → Unchanged x (cell_in l j) c
      → Given (Naming l.count) o → Sound (with_cell l j c)
  sound_left x o s lt e u k = sound-with_cell l j c s (naming_left x o e u (s.names j lt) k)
