-- A loop over the instructions of a code marks its starts in the table.
use Rattle.std.proofs.Common.{◌≡◌, ℕ, zero, suc, ◌+◌, ◌-◌, ◌<◌, ◌≤◌, Bool, true, false, ltb, List, [], ◌∷◌, map, length, get_or, set, replicate, Some, None, sym, refl, ap, ◌∙◌, arith}
use Rattle.std.proofs.lemmas.Bool.{lt-ltb, le-ltb, cond-true, cond-false}
use Rattle.std.proofs.lemmas.List.{map-set}
use Rattle.bytecode.specs.declared.instruction.Instruction.{Instruction}
use Rattle.bytecode.specs.Instructions.{walk, onward, decode_at, size_of}
use Rattle.bytecode.specs.Outcome.{good, bad}
use Rattle.shapes.specs.declared.table.ShapeMark.TheVariants.{Start}
use Rattle.shapes.specs.declared.table.ShapeRecord.{ShapeRecord}
use Rattle.shapes.specs.Records.{no_record, empty_record}
use Rattle.verifier.specs.Fresh.{marks_start, fresh_record}

-- ## The walk

module _ (f : ℕ) (code : List ℕ) (k p : ℕ) (marks : List Bool) (h : length code ≤ p + k) (l : p < length code) where
  walk_turn : walk f code k p marks ≡ onward f p (λ q. walk f code (k - 1) q (set marks p true)) (decode_at code p)
  unfolding walk
  walk_turn = go k refl
    where
      go : (n : ℕ) → k ≡ n → walk f code n p marks ≡ onward f p (λ q. walk f code (n - 1) q (set marks p true)) (decode_at code p)
      go zero e = absurd (omega arith)
      go (suc n) e =
          let z : suc n - 1 ≡ n = omega arith in
          cond-true (ltb p (length code)) (onward f p (λ q. walk f code n q (set marks p true)) (decode_at code p)) (good marks) (lt-ltb p (length code) l) ∙
          ap (λ m. onward f p (λ q. walk f code m q (set marks p true)) (decode_at code p)) (sym z)

  pub walk_more : (i : Instruction) → decode_at code p ≡ Some i → walk f code k p marks ≡ walk f code (k - 1) (p + size_of i) (set marks p true)
  walk_more i d = walk_turn ∙ ap (onward f p (λ q. walk f code (k - 1) q (set marks p true))) d

  pub walk_fault : decode_at code p ≡ None → walk f code k p marks ≡ bad (17, f, p)
  walk_fault d = walk_turn ∙ ap (onward f p (λ q. walk f code (k - 1) q (set marks p true))) d

pub walk_end : (f : ℕ) (code : List ℕ) (k p : ℕ) (marks : List Bool) → length code ≤ p → walk f code k p marks ≡ good marks
unfolding walk
walk_end f code zero p marks l = refl
walk_end f code (suc k) p marks l =
    cond-false (ltb p (length code)) (onward f p (λ q. walk f code k q (set marks p true)) (decode_at code p)) (good marks) (le-ltb p (length code) l)

-- ## Marks in records

pub starts_blank : (n : ℕ) → map marks_start (map fresh_record (replicate n false)) ≡ replicate n false
starts_blank zero = refl
starts_blank (suc n) = ap (λ bs. false ∷ bs) (starts_blank n)

-- a record of the table with the mark of a start
abbrev pub started : ShapeRecord → ShapeRecord
started r = record { mark = Start; depth = r.depth; stack = r.stack; variables = r.variables }

started_fresh : (b : Bool) → started (fresh_record b) ≡ empty_record Start
started_fresh true = refl
started_fresh false = refl

pub fresh_started : (rs : List ShapeRecord) (i : ℕ) → rs ≡ map fresh_record (map marks_start rs)
    → set rs i (started (get_or rs i no_record)) ≡ map fresh_record (map marks_start (set rs i (started (get_or rs i no_record))))
fresh_started [] i e = refl
fresh_started (r ∷ rs) zero e =
    let a : r ≡ fresh_record (marks_start r) = cc in
    let b : rs ≡ map fresh_record (map marks_start rs) = cc in
    let c : started r ≡ empty_record Start = ap started a ∙ started_fresh (marks_start r) in
    cc
fresh_started (r ∷ rs) (suc i) e =
    let a : r ≡ fresh_record (marks_start r) = cc in
    let b : rs ≡ map fresh_record (map marks_start rs) = cc in
    let c = fresh_started rs i b in
    cc

pub marks_started : (rs : List ShapeRecord) (i : ℕ) (r : ShapeRecord) → map marks_start (set rs i (started r)) ≡ set (map marks_start rs) i true
marks_started rs i r = map-set marks_start rs i (started r)
