use Rattle.std.proofs.Common.{◌≡◌, ℕ, ◌≤◌, length, drop, Some, None, Ok, sym, ap, ap₂, ◌∙◌, subst, arith}
use Rattle.source.specs.declared.hex.Cursor.{Cursor}
use Rattle.source.specs.declared.hex.Position.{Position}
use Rattle.source.specs.Rest.{next_of, after_next}
use Rattle.source.specs.Hex.{between}
use Rattle.source.proofs.Answering.{end_stays}
use Rattle.source.proofs.Characters.{byte-answered-at}
use Rattle.source.proofs.hex.HexTextSource.next.Goals as goal
use Rattle.source.proofs.hex.HexTextSource.next.Goals.{in-Some, in-None}

pub invariant_of-self : goal.invariant_of-self
invariant_of-self c =
    let t = c.args.self.now.text.now in
    let start = c.skip_blanks-start.result in
    elim c.match-found.branch [
      | in-Some w ↦
          let told : next_of (between (drop start.offset t) start.at) ≡ Ok (Some w.in-Some.field-0) = sym c.in_ok-found.ensures ∙ ap Ok w.in-Some.is in
          let found = byte-answered-at t start.offset start.at w.in-Some.field-0 c.skip_blanks-start.ensures.passed told in
          let behind = w.behind_byte-self.ensures in
          record { within = subst (λ (r : Cursor). r.offset ≤ length t) (sym w.self-is) (omega (arith, behind.offset, found.0)) }
      | in-None w ↦ record { within = subst (λ (r : Cursor). r.offset ≤ length t) (sym w.self-is) c.skip_blanks-start.ensures.inside }
    ]

pub returns : goal.returns
returns c =
    let t = c.args.self.now.text.now in
    let start = c.skip_blanks-start.result in
    let same = c.skip_blanks-start.ensures.same in
    let value = c.in_ok-found.ensures ∙ ap next_of same in
    elim c.match-found.branch [
      | in-Some w ↦
          let told : next_of (between (drop start.offset t) start.at) ≡ Ok (Some w.in-Some.field-0) = sym c.in_ok-found.ensures ∙ ap Ok w.in-Some.is in
          let found = byte-answered-at t start.offset start.at w.in-Some.field-0 c.skip_blanks-start.ensures.passed told in
          record {
            value = value;
            after =
                ap (λ (r : Cursor). between (drop r.offset t) r.at) w.self-is
                ∙ ap₂ (λ (o : ℕ) (at : Position). between (drop o t) at) w.behind_byte-self.ensures.offset w.behind_byte-self.ensures.at
                ∙ sym (ap after_next (sym same ∙ found.1));
          }
      | in-None w ↦
          let told : next_of (between (drop start.offset t) start.at) ≡ Ok None = sym c.in_ok-found.ensures ∙ ap Ok w.in-None.is in
          record {
            value = value;
            after =
                ap (λ (r : Cursor). between (drop r.offset t) r.at) w.self-is
                ∙ sym (end_stays (between (drop start.offset t) start.at) told)
                ∙ ap after_next same;
          }
    ]
