-- The theorem from its parts: empty storage represents the empty heap, and every memory instruction agrees.
use Rattle.std.proofs.Common.{◌≡◌, ◌^◌, ◌<◌, [], length, sym, refl, arith}
use Rattle.heap.specs.Checked.{single}
use Rattle.heap.specs.Storage.{Storage}
use Rattle.heap.specs.Relation.{Match}
use Rattle.heap.specs.Stands.{Stands}
use Rattle.heap.proofs.Numbering.{number_of-reference_of}
use Rattle.heap.proofs.Soundness.{sound_empty}
use Rattle.heap.proofs.Placing.{allocate_same, newarray_same}
use Rattle.heap.proofs.Accesses.{imload_same, cmload_same, amload_same, amload_names, imstore_same, cmstore_same, amstore_same}
use Rattle.heap.proofs.Addresses.{arraylength_same, aadds_same, aaddf_same}

match_empty : (l : Storage) → l.used ≡ 0 → l.count ≡ 0 → length l.cells < 2 ^ 28 → length l.records < 2 ^ 31 → Match (length l.cells) (length l.records) [] l
match_empty l u c k r =
    record {
      cells_are = refl;
      records_are = refl;
      sound = sound_empty l u c k r;
      blocks = sym c;
      all = sym u;
      lies = λ b w. absurd (let f : ⊥ = omega arith in f);
      apart = λ b x bx w. absurd (let f : ⊥ = omega arith in f);
    }

pub stands : Stands
stands =
    record {
      begins = match_empty;
      allocates = λ cells records h l m. record { news = λ s. allocate_same cells records h l m (single s); newarrays = newarray_same cells records h l m };
      answers = λ cells records h l m n k.
          record {
            arraylengths = arraylength_same cells records h l m n k;
            aaddss = aadds_same cells records h l m n k;
            aaddfs = aaddf_same cells records h l m n k;
            imloads = imload_same cells records h l m n k;
            cmloads = cmload_same cells records h l m n k;
            amloads = (amload_same cells records h l m n k, amload_names cells records h l m n k);
            imstores = imstore_same cells records h l m n k;
            cmstores = cmstore_same cells records h l m n k;
            amstores = amstore_same cells records h l m n k;
          };
      numbers = number_of-reference_of;
    }
