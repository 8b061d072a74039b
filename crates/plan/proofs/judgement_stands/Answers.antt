-- The theorems of proofs/ on the sweep and the judgement.
use Rattle.std.proofs.Common.{arith}
use Rattle.plan.proofs.Sweeping.{fullest_one}
use Rattle.plan.proofs.Judging.{judged, sweep_swept, takes_suffice, starts_stand, takes_within}
use Rattle.plan.proofs.judgement_stands.Goals as goal

pub returns : goal.returns
returns c =
    record {
      judged = λ P formed. judged P formed;
      swept = sweep_swept;
      suffice = takes_suffice;
      one = fullest_one;
      starts = starts_stand;
      within = takes_within _ (omega arith);
    }
