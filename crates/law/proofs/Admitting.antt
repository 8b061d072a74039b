-- A program that check has accepted meets the premises of the law.
use Rattle.std.proofs.Common.{ℕ, ◌^◌, ◌<◌, [], length, get_or, subst, arith}
use Rattle.std.proofs.lemmas.Option.{get_or_from_slice_get}
use Rattle.plan.specs.Plans.{Fullest}
use Rattle.plan.specs.Sweep.{plan_of}
use Rattle.plan.proofs.Following.{judge_fullest}
use Rattle.reader.proofs.Fits.{fitting_of}
use Rattle.reader.specs.View.{program_of}
use Rattle.reader.specs.declared.package.Package.{Package}
use Rattle.checked.specs.Law.{Plans, Accepted}
use Rattle.runtime.specs.Relation.{Small}
use Rattle.verifier.specs.declared.program.Program.{Program}
use Rattle.verifier.specs.Checking.{Checked, meaning_of}
use Rattle.verifier.proofs.Forming.{well_formed}

pub small : (p : Package) → Small (program_of p)
small p =
    let h = fitting_of p in
    record {
      integers = λ c n e. subst (λ x. x < 2 ^ 32) (get_or_from_slice_get (program_of p).integers c n 0 e) (h.words c);
      strings = let a = h.strings in omega arith;
    }

-- with any plans that are the fullest
pub accepted : (p : Program) (plans : Plans) → ((f : ℕ) → f < length (meaning_of p).functions → Fullest (meaning_of p) f (plans f)) → Accepted (meaning_of p) plans
accepted p plans fullest =
    let h = fitting_of p.contents in
    record {
      formed = well_formed p.contents;
      some = let a = h.function_count in let b = h.some_functions in omega arith;
      plain = h.takes;
      word = h.gives;
      fullest = fullest;
    }

-- the sweep's tables are such plans
pub swept : (p : Program) (h : Checked p) (f : ℕ) → f < length (meaning_of p).functions → Fullest (meaning_of p) f (plan_of (get_or h.tables f []))
swept p h f lt = judge_fullest (meaning_of p) (well_formed p.contents) h.tables h.takes h.judged f lt
