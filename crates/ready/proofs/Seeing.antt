-- The frames of a ready state: each has a function that is there, and its variables before its end.
use Rattle.std.proofs.Common.{◌≡◌, ℕ, zero, suc, ◌-◌, ◌<◌, List, ◌∷◌, length, get_or, Option, sym, refl, ap, ◌∙◌, subst, subst₂, arith}
use Rattle.std.proofs.lemmas.Option.{slice_get_within}
use Rattle.bytecode.specs.Program.{Program}
use Rattle.checked.specs.Machine.{Value, Frame, frame, Conf, conf}
use Rattle.checked.specs.Law.{Plans, Accepted}
use Rattle.checked.specs.Sound.{Fits, Callers, main, more, Sound}
use Rattle.checked.proofs.Sounding.{is_function}
use Rattle.bytecode.specs.declared.kind.Kind.{Kind}
use Rattle.runtime.specs.declared.FrameRecord.{FrameRecord}
use Rattle.runtime.specs.Runtime.{State, no_frame, caller_at, end_of}
use Rattle.runtime.specs.Relation.{flat, Records, Represented}
use Rattle.runtime.proofs.Framing.{flat_length}
use Rattle.ready.specs.Ready.{Ready, FrameInside, Framed}

module _ (P : Program) (plans : Plans) (ok : Accepted P plans) where
  -- a frame that fits, from its first slot to its end
  fits_inside : (f p : ℕ) (vs : List (Option Value)) (st : List Value) (rest : List Frame) (ks : List Kind) → Fits P plans f p vs ks
      → FrameInside P f (length (flat rest)) (length (flat (frame f p vs st ∷ rest)))
  fits_inside f p vs st rest ks d =
      let self = ap (λ g. g.variables) (is_function P plans ok f d.self d.known) in
      let a = flat_length f p vs st rest in
      let b = d.sized in
      (slice_get_within P.functions f d.self d.known, omega arith)

  -- where caller j ends, of n callers below a frame that begins at `base`
  abbrev upper : List FrameRecord → ℕ → ℕ → ℕ → ℕ
  upper recs n base zero = base
  upper recs n base (suc j) = (get_or recs (n - suc j) no_frame).base

  abbrev Inside : List FrameRecord → ℕ → ℕ → ℕ → Type 0
  Inside recs n base j = FrameInside P (get_or recs (n - suc j) no_frame).function (get_or recs (n - suc j) no_frame).base (upper recs n base j)

  upper_more : (recs : List FrameRecord) (n base here : ℕ) (k : FrameRecord) (j : ℕ) → get_or recs n no_frame ≡ k → k.base ≡ here
      → upper recs n here j ≡ upper recs (suc n) base (suc j)
  upper_more recs n base here k zero e b = sym b ∙ ap (λ r. r.base) (sym e) ∙ ap (λ i. (get_or recs i no_frame).base) (let q : n ≡ suc n - 1 = omega arith in q)
  upper_more recs n base here k (suc j) e b = ap (λ i. (get_or recs i no_frame).base) (let q : n - suc j ≡ suc n - suc (suc j) = omega arith in q)

  callers_inside : (recs : List FrameRecord) (g : ℕ) (fs : List Frame) → Callers P plans g fs → Records recs fs → (j : ℕ) → j < length fs
      → Inside recs (length fs) (length (flat fs)) j
  callers_inside recs g fs main h j lt = absurd (omega arith)
  callers_inside recs g fs (more {f = f} {p = p} {vs = vs} {st = st} {rest = rest} w ws) h zero lt =
      let e : get_or recs (suc (length rest) - 1) no_frame ≡ record { function = f; place = p; base = length (flat rest) } =
      ap (λ i. get_or recs i no_frame) (let q : suc (length rest) - 1 ≡ length rest = omega arith in q) ∙ h.0 in
      subst (λ k. FrameInside P k.function k.base (length (flat (frame f p vs st ∷ rest)))) (sym e) (fits_inside f p vs st rest _ w)
  callers_inside recs g fs (more {f = f} {p = p} {vs = vs} {st = st} {rest = rest} w ws) h (suc j) lt =
      let i = callers_inside recs f rest ws h.1 j (omega arith) in
      let e : length rest - suc j ≡ suc (length rest) - suc (suc j) = omega arith in
      subst₂ (λ n u. FrameInside P (get_or recs n no_frame).function (get_or recs n no_frame).base u) e
      (upper_more recs (length rest) (length (flat (frame f p vs st ∷ rest))) (length (flat rest)) (record { function = f; place = p; base = length (flat rest) }) j h.0 refl) i

pub frames_inside : (P : Program) (l : State) → Ready P l → Framed P l
frames_inside P l o = at o.checked o.sound o.represented
  where
    upper_end : (j : ℕ) → upper P o.plans o.accepted l.frames l.callers l.base j ≡ end_of l j
    upper_end zero = refl
    upper_end (suc j) = refl

    at : (c : Conf) → Sound P o.plans c → Represented P o.sizes c l → Framed P l
    at (conf (frame f p vs st) rest h) (d, callers) r =
        record {
          inside = let a = r.callers in let b = r.free in let c = r.frame_count in omega arith;
          few = o.few_frames;
          newest =
              subst₂ (λ g b. FrameInside P g b l.top) (sym r.function) (sym r.base)
              (subst (FrameInside P f (length (flat rest))) (sym r.top) (fits_inside P o.plans o.accepted f p vs st rest _ d));
          callers = λ j lt.
              subst (FrameInside P (caller_at l j).function (caller_at l j).base) (upper_end j)
              (subst₂ (λ n b. Inside P o.plans o.accepted l.frames n b j) (sym r.callers) (sym r.base)
              (callers_inside P o.plans o.accepted l.frames f rest callers r.records j (let a = r.callers in omega arith)));
        }
