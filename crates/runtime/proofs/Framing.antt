-- The slots of frames: one value more or less, variables, a new frame and a frame that is left; and how much frames take.
use Rattle.std.proofs.Common.{◌≡◌, ℕ, ◌+◌, ◌<◌, ◌≤◌, List, [], ◌∷◌, ◌++◌, map, reverse, length, get_or, set, replicate, Some, None, Option, sym, ap, ◌∙◌, append_assoc, arith, length-append, get_or-set_other}
use lib.ListN.{length-map, length-reverse}
use Rattle.std.proofs.lemmas.List.{map-append, reverse-append, reverse-reverse, append-nil}
use Rattle.bytecode.specs.Program.{Program}
use Rattle.checked.specs.Machine.{Value, kind_of, Frame, frame, reserve, reserved}
use Rattle.checked.specs.Law.{Plans, Accepted}
use Rattle.checked.specs.Sound.{Fits, Callers, main, more}
use Rattle.checked.proofs.Sounding.{good_plan}
use Rattle.runtime.specs.declared.FrameRecord.{FrameRecord}
use Rattle.runtime.specs.Runtime.{no_frame}
use Rattle.runtime.specs.Relation.{flat, Records}
use Rattle.runtime.proofs.Laying.{get_d_front, get_or-behind, set_front, set_behind}

-- ## What a frame has in its slots

pub flat_length : (f p : ℕ) (vs : List (Option Value)) (st : List Value) (rest : List Frame)
    → length (flat (frame f p vs st ∷ rest)) ≡ (length (flat rest) + length vs) + length st
flat_length f p vs st rest =
    let a = length-append (flat rest) (vs ++ map Some (reverse st)) in
    let b = length-append vs (map Some (reverse st)) in
    let c = length-map (reverse st) (λ v. Some v) in
    let d = length-reverse st in
    omega arith

pub flat_push : (f p : ℕ) (vs : List (Option Value)) (v : Value) (t : List Value) (rest : List Frame)
    → flat (frame f p vs (v ∷ t) ∷ rest) ≡ flat (frame f p vs t ∷ rest) ++ (Some v ∷ [])
flat_push f p vs v t rest =
    ap (λ m. flat rest ++ (vs ++ m)) (ap (map Some) (reverse-append (v ∷ []) t) ∙ map-append Some (reverse t) (v ∷ []))
    ∙ ap (λ m. flat rest ++ m) (sym (append_assoc vs (map Some (reverse t)) (Some v ∷ [])))
    ∙ sym (append_assoc (flat rest) (vs ++ map Some (reverse t)) (Some v ∷ []))

pub variable_at : (f p : ℕ) (vs : List (Option Value)) (st : List Value) (rest : List Frame) (i : ℕ) → i < length vs
    → get_or (flat (frame f p vs st ∷ rest)) (length (flat rest) + i) None ≡ get_or vs i None
variable_at f p vs st rest i lt =
    get_or-behind (flat rest) (vs ++ map Some (reverse st)) i None ∙ get_d_front vs (map Some (reverse st)) i None lt

pub variable_set : (f p q : ℕ) (vs : List (Option Value)) (st : List Value) (rest : List Frame) (i : ℕ) (v : Value) → i < length vs
    → set (flat (frame f p vs st ∷ rest)) (length (flat rest) + i) (Some v) ≡ flat (frame f q (set vs i (Some v)) st ∷ rest)
variable_set f p q vs st rest i v lt =
    set_behind (flat rest) (vs ++ map Some (reverse st)) i (Some v) ∙ ap (λ m. flat rest ++ m) (set_front vs (map Some (reverse st)) i (Some v) lt)

-- a call's arguments become the first variables where they lie
pub flat_enter : (f p q c : ℕ) (vs : List (Option Value)) (st args left : List Value) (rest : List Frame) (k : ℕ) → st ≡ reverse args ++ left
    → flat (frame c 0 (map Some args ++ replicate k None) [] ∷ frame f q vs left ∷ rest) ≡ flat (frame f p vs st ∷ rest) ++ replicate k None
flat_enter f p q c vs st args left rest k e =
    ap (λ m. flat (frame f q vs left ∷ rest) ++ m) (append-nil (map Some args ++ replicate k None))
    ∙ sym (append_assoc (flat (frame f q vs left ∷ rest)) (map Some args) (replicate k None))
    ∙ ap (λ m. m ++ replicate k None) (sym whole)
  where
    turned : map {B = Option Value} Some (reverse st) ≡ map Some (reverse left) ++ map Some args
    turned =
        ap (λ m. map Some (reverse m)) e ∙ ap (map Some) (reverse-append (reverse args) left ∙ ap (λ m. reverse left ++ m) (reverse-reverse args))
        ∙ map-append Some (reverse left) args

    whole : flat (frame f p vs st ∷ rest) ≡ flat (frame f q vs left ∷ rest) ++ map Some args
    whole =
        ap (λ m. flat rest ++ (vs ++ m)) turned ∙ ap (λ m. flat rest ++ m) (sym (append_assoc vs (map Some (reverse left)) (map Some args)))
        ∙ sym (append_assoc (flat rest) (vs ++ map Some (reverse left)) (map Some args))

-- ## Frame records

pub records_more : (recs : List FrameRecord) (i : ℕ) (k : FrameRecord) (fs : List Frame) → length fs ≤ i → Records recs fs → Records (set recs i k) fs
records_more recs i k [] le h = tt
records_more recs i k (frame f p vs st ∷ fs) le h =
    (get_or-set_other recs i (length fs) k no_frame (omega arith) ∙ h.0, records_more recs i k fs (omega arith) h.1)

-- ## Frames take no more slots than they reserve

module _ (P : Program) (plans : Plans) (ok : Accepted P plans) where
  pub stack_low : (f p : ℕ) (vs : List (Option Value)) (ks : List Rattle.bytecode.specs.declared.kind.Kind.Kind) → Fits P plans f p vs ks → length ks ≤ 32
  stack_low f p vs ks w =
      let a = ((good_plan P plans ok f w.self w.known).sized p w.shape w.planned).low in
      let b = ap length w.stack in
      omega arith

  pub taken_slots : (g : ℕ) (fs : List Frame) → Callers P plans g fs → length (flat fs) ≤ reserved P fs
  taken_slots g fs main = omega arith
  taken_slots g fs (more {f = f} {p = p} {vs = vs} {st = st} {rest = rest} w ws) =
      let a = taken_slots f rest ws in
      let b = flat_length f p vs st rest in
      let c = stack_low f p vs _ w in
      let d = length-map st kind_of in
      let e = ap reserve w.known in
      let n = w.sized in
      omega arith
