use Rattle.std.proofs.Common.{length, sym, ap, ◌∙◌, arith}
use Rattle.std.proofs.lemmas.Result.{err_from_is_err_and}
use Rattle.bytecode.specs.Program.{Program}
use Rattle.reader.specs.View.{program_of}
use Rattle.reader.proofs.Fits.{fitting_of}
use Rattle.verifier.specs.Fresh.{all_starts}
use Rattle.verifier.specs.Swept.{all_tables, working_all}
use Rattle.verifier.specs.Checking.{answered, tables_in}
use Rattle.verifier.proofs.Forming.{well_formed}
use Rattle.verifier.proofs.Judging.{check_small, check_undecoded, check_unswept, check_accepted, judge_is, formed_only}
use Rattle.verifier.proofs.program.judge.Goals as goal

pub returns-then-table-package-clause-met : goal.returns-then-table-package-clause-met
returns-then-table-package-clause-met c =
    ap answered
    (check_small c.args.bytes.now (length c.args.table.now) (program_of c.in_ok-package.package) c.in_ok-package.ensures.met
    (omega (arith, (fitting_of c.in_ok-package.package).code_sum, c.if-table-package.true)))

pub returns-in_err-mark_all-clause-met : goal.returns-in_err-mark_all-clause-met
returns-in_err-mark_all-clause-met c =
    let p = err_from_is_err_and c.from_residual-in_err-mark_all.result c.from_residual-in_err-mark_all.ensures.1 in
    rw (p.1, p.2)
    (ap answered
    (check_undecoded c.args.bytes.now (length c.args.table.now) (program_of c.in_ok-package.package) c.in_ok-package.ensures.met
    (omega (arith, (fitting_of c.in_ok-package.package).code_sum, c.if-table-package.false)) _ c.in_err-mark_all.ensures.met))

pub returns-in_err-takes-clause-met : goal.returns-in_err-takes-clause-met
returns-in_err-takes-clause-met c =
    let k = c.in_ok-package.package in
    let p = err_from_is_err_and c.from_residual-in_err-takes.result c.from_residual-in_err-takes.ensures.1 in
    rw (p.1, p.2)
    (ap answered
    (check_unswept c.args.bytes.now (length c.args.table.now) (program_of k) c.in_ok-package.ensures.met
    (omega (arith, (fitting_of k).code_sum, c.if-table-package.false)) (all_starts (program_of k)) _ c.in_ok-mark_all.ensures.met c.in_err-takes.ensures.met))

pub returns : goal.returns
returns c =
    let k = c.in_ok-package.package in
    let P : Program = program_of k in
    let e =
    check_accepted c.args.bytes.now (length c.args.table.now) P c.in_ok-package.ensures.met
    (omega (arith, (fitting_of c.in_ok-package.package).code_sum, c.if-table-package.false)) (all_starts P) (all_tables P) c.in_ok-takes.takes
    c.in_ok-mark_all.ensures.met c.in_ok-takes.ensures.met in
    record {
      met = ap answered e;
      memory =
          c.in_ok-takes.ensures.memory ∙ ap (λ n. working_all n (all_tables P)) c.mark_all.auto.table ∙
          ap (λ o. working_all (length c.args.table.now) (tables_in o)) (sym e);
      lent = c.in_ok-package.ensures.lent;
      checked =
          record {
            tables = all_tables P;
            takes = c.in_ok-takes.takes;
            judged = judge_is P (all_starts P) (all_tables P) c.in_ok-takes.takes c.in_ok-mark_all.ensures.met c.in_ok-takes.ensures.met;
          };
      formed = formed_only _ P c.in_ok-package.ensures.met (well_formed k);
    }
