use Rattle.std.proofs.Common.{◌≡◌, ◌∙◌, map, drop, sym, ap, arith}
use Rattle.std.proofs.lemmas.Result.{err_from_is_err_and}
use Rattle.std.specs.Simd.{first_chunks}
use Rattle.reader.specs.Entries.{integer_of}
use Rattle.reader.specs.Fields.{bytes_at}
use Rattle.reader.specs.Layout.{integer_at}
use Rattle.reader.proofs.Repeating.{series_more, series_fault, series_end}
use Rattle.reader.proofs.Turns.{read_same, integers_more, integer_found, integer_cut}
use Rattle.reader.proofs.pool.read_integers.Goals as goal

pub returns-in_err-block-clause-met : goal.returns-in_err-block-clause-met
returns-in_err-block-clause-met c =
    let bs = c.args.cursor.now.bytes.now in
    let p = err_from_is_err_and c.from_residual.result c.from_residual.ensures.1 in
    rw (p.1, p.2)
    (c.loop.invariant.met ∙
    series_fault (λ i s. integer_at bs s.after) c.args.count c.loop.counter _ _ _ (omega arith)
    (integer_cut _ _ _ (read_same (λ bs. bytes_at bs c.loop.cursor.offset 4) bs _ _ c.loop.invariant.lent c.in_err-block.ensures.met)))

pub loop-preserved : goal.loop-preserved
loop-preserved c =
    let bs = c.args.cursor.now.bytes.now in
    record {
      met =
          c.loop.invariant.met ∙
          series_more (λ i s. integer_at bs s.after) c.args.count c.loop.counter _ _ _ _ _ (omega arith)
          (integers_more bs c.args.cursor.now.offset c.loop.cursor.offset c.loop.counter c.loop.invariant.at)
          (integer_found _ _ _ _ c.in_ok-block.ensures.moved (read_same (λ bs. bytes_at bs c.loop.cursor.offset 4) bs _ _ c.loop.invariant.lent c.in_ok-block.ensures.met));
      lent = c.in_ok-block.ensures.lent ∙ c.loop.invariant.lent;
      at = omega (arith, c.in_ok-block.ensures.moved);
    }

pub returns-clause-met : goal.returns-clause-met
returns-clause-met c =
    c.loop.invariant.met ∙
    series_end (λ i s. integer_at c.args.cursor.now.bytes.now s.after) c.args.count c.loop.counter _ _ _ c.loop-test.false
    (ap (map integer_of) (ap (λ n. first_chunks 4 n (drop c.args.cursor.now.offset c.args.cursor.now.bytes.now)) (let e : c.loop.counter ≡ c.args.count = omega arith in e) ∙
    ap (first_chunks 4 c.args.count) (sym c.rest-rest.ensures.met) ∙ sym c.fours.ensures.met))
