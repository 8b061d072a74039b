-- What a word, a byte and a reference's number keep to: a number names a block that there is, and no other value names one.
use Rattle.std.specs.Prelude.{◌≡◌, ℕ, Bool, true, false, cond, ◌==◌, refl}
use Rattle.std.proofs.Math.Nat.{not-suc-le-zero}
use Rattle.bytecode.specs.Stops.{Attempt, gives, stops}
use Rattle.bytecode.specs.declared.stop.Stop.TheVariants.{Mark}
use Rattle.heap.specs.declared.Cell.{Cell}
use Rattle.heap.specs.Storage.{Storage, Sound, Known, from_bytes, word_in, byte_in, number_in, word_into, byte_into, number_into}
use Rattle.heap.proofs.Soundness.{Puts, puts-word_into, puts-byte_into, puts-number_into, known_small}
use Rattle.cells.specs.View.{Given, Naming}

given_puts : (count : ℕ) (x : Attempt Cell) → Puts count x → Given (Naming count) x
given_puts count (gives c) p = p
given_puts count (stops e) p = tt

given_all : {A : Type 0} (x : Attempt A) → Given (λ v. Unit {0}) x
given_all (gives v) = tt
given_all (stops e) = tt

pub word_read : (count : ℕ) (c : Cell) (i : ℕ) → Naming count c → Given (λ v. Unit {0}) (word_in c i)
word_read count c i n = given_all (word_in c i)

pub byte_read : (count : ℕ) (c : Cell) (i : ℕ) → Naming count c → Given (λ v. Unit {0}) (byte_in c i)
byte_read count c i n = given_all (byte_in c i)

pub number_read : (count : ℕ) (c : Cell) (i : ℕ) → Naming count c → Given (Known count) (number_in c)
number_read count c i = go c.mark (from_bytes c.bytes == 0)
  where
    go : (m z : Bool) → (m ≡ true → Known count (from_bytes c.bytes)) → Given (Known count) (cond m (gives (from_bytes c.bytes)) (cond z (gives 0) (stops Mark)))
    go true z n = n refl
    go false true n = λ big. absurd (not-suc-le-zero {n = 4294967295} big)
    go false false n = tt

pub word_written : (l : Storage) (c : Cell) (i v : ℕ) → Sound l → Unit {0} → Given (Naming l.count) (word_into c i v)
word_written l c i v s u = given_puts l.count (word_into c i v) (puts-word_into l.count c i v)

pub byte_written : (l : Storage) (c : Cell) (i v : ℕ) → Sound l → Unit {0} → Given (Naming l.count) (byte_into c i v)
byte_written l c i v s u = given_puts l.count (byte_into c i v) (puts-byte_into l.count c i v)

pub number_written : (l : Storage) (c : Cell) (i v : ℕ) → Sound l → Known l.count v → Given (Naming l.count) (number_into c v)
number_written l c i v s known = given_puts l.count (number_into c v) (puts-number_into l.count c v known (known_small l s v known))
