-- What is seen of a frame is the same in both machines.
use Rattle.std.proofs.Common.{◌≡◌, ℕ, zero, suc, ◌-◌, cond, ltb, List, [], ◌∷◌, length, get_or, Some, None, Option, sym, refl, ap, ◌∙◌, subst, ap₂, arith, le-ltb, lt-ltb}
use lib.Dec.{leb-suc-suc}
use Rattle.bytecode.specs.declared.kind.Kind.{Kind}
use Rattle.bytecode.specs.Program.{Program}
use Rattle.plan.specs.Programs.{nth, variables_at}
use Rattle.checked.specs.Runs.{View}
use Rattle.checked.specs.Machine.{Value, Frame, frame, Conf, conf, Sizes, viewed}
use Rattle.checked.specs.Machine as checked
use Rattle.checked.specs.Law.{Plans, Accepted}
use Rattle.checked.specs.Sound.{Fits, Callers, main, more, Sound}
use Rattle.checked.proofs.Sounding.{is_function}
use Rattle.runtime.specs.declared.FrameRecord.{FrameRecord}
use Rattle.runtime.specs.Runtime.{State, no_frame, view_of, newest, frame_at}
use Rattle.runtime.specs.Relation.{flat, Records, Represented}
use Rattle.runtime.proofs.Framing.{flat_length}

module _ (P : Program) (plans : Plans) (ok : Accepted P plans) where
  -- the depth of a frame, from where its slots begin and end
  depth_is : (f p : ℕ) (vs : List (Option Value)) (st : List Value) (rest : List Frame) (ks : List Kind) (base top : ℕ) → Fits P plans f p vs ks → base ≡ length (flat rest)
      → top ≡ length (flat (frame f p vs st ∷ rest)) → length st ≡ (top - base) - variables_at P f
  depth_is f p vs st rest ks base top w a b =
      let c = flat_length f p vs st rest in
      let d = w.sized in
      let e = ap (λ g. g.variables) (is_function P plans ok f w.self w.known) in
      omega arith

  pub newest_same : (sizes : Sizes) (c : Conf) (l : State) → Sound P plans c → Represented P sizes c l → checked.newest c ≡ newest P l
  newest_same sizes (conf (frame f p vs st) rest h) l (d, callers) r =
      let a = sym r.function in
      let b = sym r.place in
      let c = depth_is f p vs st rest _ l.base l.top d r.base r.top ∙ ap (λ g. (l.top - l.base) - variables_at P g) (sym r.function) in
      λ i. record { function = a i; place = b i; depth = c i }

  -- where the caller j of n ends, the newest ending at top
  abbrev end_in : List FrameRecord → ℕ → ℕ → ℕ → ℕ
  end_in recs n top zero = top
  end_in recs n top (suc j) = (get_or recs (n - suc j) no_frame).base

  abbrev seen : List FrameRecord → ℕ → ℕ → ℕ → View
  seen recs n top j =
      view_of P (get_or recs (n - suc j) no_frame).function (get_or recs (n - suc j) no_frame).place (get_or recs (n - suc j) no_frame).base (end_in recs n top j)

  end_suc : (recs : List FrameRecord) (n top low j : ℕ) → low ≡ (get_or recs n no_frame).base → end_in recs n low j ≡ end_in recs (suc n) top (suc j)
  end_suc recs n top low zero e = let q : n ≡ suc n - 1 = omega arith in e ∙ ap (λ i. (get_or recs i no_frame).base) q
  end_suc recs n top low (suc j) e = let q : n - suc j ≡ suc n - suc (suc j) = omega arith in ap (λ i. (get_or recs i no_frame).base) q

  callers_seen : (recs : List FrameRecord) (g : ℕ) (fs : List Frame) (top j : ℕ) → Callers P plans g fs → Records recs fs → top ≡ length (flat fs)
      → viewed (nth fs j) ≡ cond (ltb j (length fs)) (Some (seen recs (length fs) top j)) None
  callers_seen recs g [] top j main h e = sym (ap (λ b. cond b (Some (seen recs 0 top j)) None) (le-ltb j 0 (omega arith)))
  callers_seen recs g (frame f p vs st ∷ fs) top zero (more w ws) h e =
      let i : suc (length fs) - 1 ≡ length fs = omega arith in
      let k = ap (λ n. get_or recs n no_frame) i ∙ h.0 in
      let d = depth_is f p vs st fs _ (length (flat fs)) top w refl e in
      ap Some (view_is f p (length st) (get_or recs (suc (length fs) - 1) no_frame) k d)
      ∙ sym (ap (λ b. cond b (Some (seen recs (suc (length fs)) top 0)) None) (lt-ltb 0 (suc (length fs)) (omega arith)))
    where
      view_is : (f p n : ℕ) (k : FrameRecord) → k ≡ record { function = f; place = p; base = length (flat fs) } → n ≡ (top - length (flat fs)) - variables_at P f
          → ◌≡◌ {A = View} (record { function = f; place = p; depth = n }) (view_of P k.function k.place k.base top)
      view_is f p n k a b =
          subst (λ c. ◌≡◌ {A = View} (record { function = f; place = p; depth = n }) (view_of P c.function c.place c.base top)) (sym a) (ap (λ m. record { function = f; place = p; depth = m }) b)
  callers_seen recs g (frame f p vs st ∷ fs) top (suc j) (more w ws) h e =
      let i : length fs - suc j ≡ suc (length fs) - suc (suc j) = omega arith in
      let b = sym (ap (λ (k : FrameRecord). k.base) h.0) in
      callers_seen recs f fs (length (flat fs)) j ws h.1 refl
      ∙ ap₂ (λ t v. cond t (Some v) None) (sym (leb-suc-suc (suc j) (length fs)))
      (ap₂ (λ (k : FrameRecord) u. view_of P k.function k.place k.base u) (ap (λ n. get_or recs n no_frame) i) (end_suc recs (length fs) top (length (flat fs)) j b))

  pub frame_same : (sizes : Sizes) (c : Conf) (l : State) → Sound P plans c → Represented P sizes c l → (j : ℕ) → checked.frame_at c j ≡ frame_at P l j
  frame_same sizes (conf (frame f p vs st) rest h) l s r zero = ap Some (newest_same sizes (conf (frame f p vs st) rest h) l s r)
  frame_same sizes (conf (frame f p vs st) rest h) l s r (suc j) =
      callers_seen l.frames f rest l.base j s.1 r.records r.base
      ∙ subst (λ n. cond (ltb j n) (Some (seen l.frames n l.base j)) None ≡ frame_at P l (suc j)) r.callers (ends j)
    where
      ends : (j : ℕ) → cond (ltb j l.callers) (Some (seen l.frames l.callers l.base j)) None ≡ frame_at P l (suc j)
      ends zero = refl
      ends (suc i) = refl
