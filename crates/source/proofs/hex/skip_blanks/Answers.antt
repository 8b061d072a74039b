use Rattle.std.proofs.Common.{◌≡◌, ℕ, ◌+◌, ◌-◌, ◌<◌, ◌≤◌, List, length, get_or, take, drop, sym, ap, ◌∙◌, arith, length-drop}
use Rattle.std.proofs.lemmas.List.{get_or-drop, take_all}
use Rattle.source.proofs.Passing.{reading, commented, comment-begun, blank-passed, read_to_end}
use Rattle.source.proofs.hex.skip_blanks.Goals as goal
use Rattle.source.proofs.hex.skip_blanks.Goals.{then-in_comment, else-in_comment+then-c-eq35, else-in_comment+else-c-eq35+else-not-is_blank}

-- the characters from an offset on, as the loop goes over them
all_of : (t : List ℕ) (n : ℕ) → take (length t - n) (drop n t) ≡ drop n t
all_of t n = take_all (length t - n) (drop n t) (omega (arith, length-drop n t))

character : (t : List ℕ) (n k i : ℕ) → i ≡ n + k → get_or (take (length t - n) (drop n t)) k 0 ≡ get_or t i 0
character t n k i e =
    ap (λ (l : List ℕ). get_or l k 0) (all_of t n) ∙ get_or-drop n t k 0 ∙ ap (λ (j : ℕ). get_or t j 0) (sym e)

-- the reading goes on from the advanced cursor, whatever the character was
goes_on :
    (c : goal.After-advance-here)
    → reading c.if-in_comment.in_comment c.args.text.now c.advance-here.result.offset c.advance-here.result.at
    ≡ reading c.loop-c.in_comment c.args.text.now c.loop-c.here.offset c.loop-c.here.at
goes_on c =
    let t = c.args.text.now in
    let n = c.args.from.offset in
    let i = c.loop-c.here.offset in
    let at = c.loop-c.here.at in
    let same = character t n c.loop-c.c-index i c.loop-c.invariant.stands in
    let here : i < length t = omega (arith, ap length (all_of t n), length-drop n t, c.loop-c-test.true, c.loop-c.invariant.stands) in
    elim c.if-in_comment.branch [
      | then-in_comment w ↦ rw (c.advance-here.ensures.offset, c.advance-here.ensures.at, w.in_comment-is, w.if-in_comment.true, same) (commented t i at here)
      | else-in_comment+then-c-eq35 w ↦
          rw (c.advance-here.ensures.offset, c.advance-here.ensures.at, w.in_comment-is, w.if-in_comment.false, same) (comment-begun t i at here (sym same ∙ w.if-c-eq35.true))
      | else-in_comment+else-c-eq35+else-not-is_blank w ↦
          rw (c.advance-here.ensures.offset, c.advance-here.ensures.at, w.in_comment-is, w.if-in_comment.false, same) (blank-passed t i at here (rw same at (sym w.if-not-is_blank.ensures)))
    ]

pub loop-c-preserved : goal.loop-c-preserved
loop-c-preserved c =
    record {
      stands = omega (arith, c.advance-here.ensures.offset, c.loop-c.invariant.stands);
      same = goes_on c ∙ c.loop-c.invariant.same;
    }

pub returns-clause-same : goal.returns-clause-same
returns-clause-same c =
    let t = c.args.text.now in
    let n = c.args.from.offset in
    let past : length t ≤ c.loop-c.here.offset = omega (arith, ap length (all_of t n), length-drop n t, c.loop-c-test.false, c.loop-c.invariant.stands) in
    read_to_end c.loop-c.in_comment t c.loop-c.here.offset c.loop-c.here.at past ∙ c.loop-c.invariant.same
