-- Storage with one block more stays sound, whatever the block's record, as long as that lies in the cells in use.
use Rattle.std.proofs.Common.{◌≡◌, ℕ, ◌+◌, ◌*◌, ◌<◌, ◌≤◌, Bool, true, false, ltb, ◌≢◌, length, Ok, refl, sym, ap, ◌∙◌, subst, arith, length-set, get_or-set_other, get_or-set_same, ltb-false, ltb-true}
use Rattle.heap.specs.declared.BlockRecord.{BlockRecord}
use Rattle.heap.specs.Checked.{single, room}
use Rattle.heap.specs.Storage.{Storage, Sound, Bounded, no_record, record_in, taken, record_of}
use Rattle.heap.proofs.Clearing.{length-clear}
use Rattle.heap.proofs.Soundness.{sound_placed}
use Rattle.cells.specs.View.{Kept}

module _ (l : Storage) (need : ℕ) (r : BlockRecord) (s : Sound l) (fits : l.used + need ≤ length l.cells) (free : l.count < length l.records)
    (is : Bounded (l.used + need) r) where
  -- the same cells laid out as a block of whole cells
  plain_block : Sound (taken l need (record_of l.used (single (8 * need))))
  plain_block =
      let e : room (single (8 * need)) ≡ need = omega arith in
      let p = sound_placed l (single (8 * need)) s (subst (λ n. l.used + n ≤ length l.cells) (sym e) fits) free in
      subst (λ n. Sound (taken l n (record_of l.used (single (8 * need))))) e p

  bounded_taken : (b : ℕ) → b < l.count + 1 → (t : Bool) → ltb b l.count ≡ t → Bounded (l.used + need) (record_in (taken l need r) b)
  bounded_taken b w true e =
      let lt = ltb-true b l.count e in
      let ne : b ≢ l.count = omega arith in
      let d = s.bounded b lt in
      subst (Bounded (l.used + need)) (sym (get_or-set_other l.records l.count b r no_record ne))
      (record { cells_used = let u = d.cells_used in omega arith; elements = d.elements })
  bounded_taken b w false e =
      let ge = ltb-false b l.count e in
      let q : b ≡ l.count = omega arith in
      subst (Bounded (l.used + need)) (sym (ap (λ x. record_in (taken l need r) x) q ∙ get_or-set_same l.records l.count r no_record free)) is

  pub sound_taken : Sound (taken l need r)
  sound_taken =
      let p = plain_block in
      record {
        cells_fit = p.cells_fit;
        records_fit = omega (arith, length-set {A = BlockRecord});
        few_cells = p.few_cells;
        few_records = omega (arith, length-set {A = BlockRecord});
        bounded = λ b w. bounded_taken b w (ltb b l.count) refl;
        names = p.names;
      }

pub kept_taken : (l : Storage) (need : ℕ) (r : BlockRecord) (number : ℕ) (after : Storage) → after ≡ taken l need r → Kept {A = ℕ} (Ok number) l after
kept_taken l need r number after e =
    subst (Kept {A = ℕ} (Ok number) l) (sym e)
    (record {
      stop = tt;
      cells = length-clear l.cells l.used need;
      records = length-set l.records l.count r;
      blocks = omega arith;
    })
