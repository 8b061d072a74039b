use Rattle.std.proofs.Common.{◌≡◌, ℕ, List, ◌++◌, length, take, drop, replicate, Ok, Err, Result, sym, ap, ap₂, ◌∙◌}
use Rattle.std.proofs.lemmas.Result.{err_from_is_err_and}
use Rattle.std.proofs.Math.Seq.{take-append_seam}
use Rattle.bytecode.specs.declared.refusal.Report.{Report}
use Rattle.source.specs.Load.{loaded}
use Rattle.intake.specs.declared.Failure.{Failure}
use Rattle.intake.specs.declared.Failure.TheVariants.{Refused, Broken}
use Rattle.intake.specs.Intake.{front, read, bytes_of_text, Tells, IsBroken}
use Rattle.intake.proofs.hex_bytes.Goals as goal

broken_tells : (f : Failure) (answer : Result (List ℕ) Report) → IsBroken f → Tells f answer
broken_tells (Refused r) answer h = absurd h
broken_tells (Broken e) answer h = tt

-- the front of a memory that is written back over a vector of its length
front_kept : (count n : ℕ) (memory items : List ℕ) → length memory ≡ n → take count (take n (memory ++ drop (length memory) items)) ≡ take count memory
front_kept count n memory items e =
    ap (take count) (ap (λ (k : ℕ). take k (memory ++ drop (length memory) items)) (sym e) ∙ take-append_seam memory (drop (length memory) items))

pub returns-in_err-bytes : goal.returns-in_err-bytes
returns-in_err-bytes c =
    let p = err_from_is_err_and c.from_residual.result c.from_residual.ensures.1 in
    rw p.1 (broken_tells _ (bytes_of_text c.args.text.now) p.2)

pub returns-in_err-count : goal.returns-in_err-count
returns-in_err-count c =
    let p = err_from_is_err_and c.from_residual-in_err-count.result c.from_residual-in_err-count.ensures.1 in
    let zeros : c.deref_mut.result.now ≡ replicate 16384 0 = c.deref_mut.ensures.value ∙ c.in_ok-bytes.ensures.items_if_clones_equal (λ y e. e) in
    let whole = ap read (ap₂ loaded (sym c.new.ensures) (sym zeros) ∙ c.load.ensures) in
    rw (p.1 ∙ ap Err p.2) (whole ∙ ap (λ a. front a c.load.new.buffer) c.in_err-count.was)

pub returns : goal.returns
returns c =
    let zeros : c.deref_mut.result.now ≡ replicate 16384 0 = c.deref_mut.ensures.value ∙ c.in_ok-bytes.ensures.items_if_clones_equal (λ y e. e) in
    let whole = ap read (ap₂ loaded (sym c.new.ensures) (sym zeros) ∙ c.load.ensures) in
    let size : length c.load.new.buffer ≡ c.in_ok-bytes.bytes.len = c.load.auto.buffer ∙ c.deref_mut.ensures.len in
    whole
    ∙ ap (λ a. front a c.load.new.buffer) c.in_ok-count.was
    ∙ ap Ok (sym (c.truncate.ensures.items ∙ front_kept c.in_ok-count.count c.in_ok-bytes.bytes.len c.load.new.buffer c.in_ok-bytes.bytes.items size))
