-- A step of a ready state does not break, and the state that it goes on to is ready.
use Rattle.std.proofs.Common.{◌≡◌, ℕ, ◌+◌, ◌^◌, ◌<◌, length, Some, sym, ap, ◌∙◌, subst}
use Rattle.std.proofs.lemmas.Option.{get_or_from_slice_get}
use Rattle.bytecode.specs.declared.instruction.Instruction.{Instruction}
use Rattle.bytecode.specs.Instructions.{size_of, decode_at}
use Rattle.bytecode.specs.Program.{Program}
use Rattle.host.specs.Hosts.{Host, Lawful}
use Rattle.plan.specs.Programs.{nth, function_at, no_function}
use Rattle.checked.specs.Runs.{Next, goes}
use Rattle.checked.specs.Machine.{frame, Conf, conf, Sizes}
use Rattle.checked.proofs.Pieces.{nth_some}
use Rattle.checked.proofs.Sounding.{Fine, step_fine}
use Rattle.runtime.specs.Runtime.{State, act, acted, fetched as fetches, step}
use Rattle.runtime.specs.Relation.{Represented, Same, go, end, stop}
use Rattle.runtime.proofs.Stepping.{step_same}
use Rattle.ready.specs.Ready.{Ready, Whole}

-- the function with a number below the count
pub nth_function : (P : Program) (f : ℕ) → f < length P.functions → nth P.functions f ≡ Some (function_at P f)
nth_function P f lt = let g = nth_some P.functions f lt in g.1 ∙ ap Some (sym (get_or_from_slice_get P.functions f g.0 no_function g.1))

-- a step is its instruction's
pub step_is : {S : Type 0} (P : Program) (host : Host S) (l : State) (s : S) (i : Instruction) → l.function < length P.functions
    → decode_at (function_at P l.function).code l.place ≡ Some i → step P host l s ≡ act P host i (l.place + size_of i) l s
step_is P host l s i lt e = ap (λ o. fetches P host o l s) (nth_function P l.function lt) ∙ ap (λ o. acted P host o l s) e

-- ## One step

same_whole : {C S : Type 0} (R : C → State → Type 0) {x : Next C S} {y : Next State S} → Same R x y → Whole y
same_whole R (go r) = tt
same_whole R end = tt
same_whole R stop = tt

pub step_whole : {S : Type 0} (P : Program) (host : Host S) → Lawful host → (l : State) (s : S) → Ready P l → Whole (step P host l s)
step_whole P host lawful l s o =
    same_whole (Represented P o.sizes) (step_same P o.plans o.accepted o.small host lawful o.sizes o.checked l s o.sound o.represented)

record Gone {C S : Type 0} (R : C → State → Type 0) (x : Next C S) (m : State) (t : S) : Type 0 where
  conf : C
  same : x ≡ goes conf t
  related : R conf m

same_goes : {C S : Type 0} (R : C → State → Type 0) {x : Next C S} {y : Next State S} (m : State) (t : S) → Same R x y → y ≡ goes m t → Gone R x m t
same_goes R m t (go {c} {d} {s} r) e =
    let q : d ≡ m = cc in
    let u : s ≡ t = cc in
    record { conf = c; same = ap (goes c) u; related = subst (R c) q r }
same_goes R m t end e = cc
same_goes R m t stop e = cc

slots_are : (P : Program) (sizes : Sizes) (c : Conf) (l : State) → Represented P sizes c l → length l.slots ≡ sizes.slots
slots_are P sizes (conf (frame f p vs st) rest h) l r = r.slot_count

frames_are : (P : Program) (sizes : Sizes) (c : Conf) (l : State) → Represented P sizes c l → length l.frames ≡ sizes.frames
frames_are P sizes (conf (frame f p vs st) rest h) l r = r.frame_count

pub stays_ready : {S : Type 0} (P : Program) (host : Host S) → Lawful host → (l m : State) (s t : S) → Ready P l → step P host l s ≡ goes m t → Ready P m
stays_ready P host lawful l m s t o e =
    let x = same_goes (Represented P o.sizes) m t
    (step_same P o.plans o.accepted o.small host lawful o.sizes o.checked l s o.sound o.represented) e in
    let fine = step_fine P o.plans o.accepted host lawful o.sizes o.checked s o.sound in
    record {
      plans = o.plans;
      accepted = o.accepted;
      small = o.small;
      short = o.short;
      sizes = o.sizes;
      checked = x.conf;
      sound = subst (Fine P o.plans) x.same fine;
      represented = x.related;
      few_slots = subst (λ n. n < 2 ^ 32) (slots_are P o.sizes o.checked l o.represented ∙ sym (slots_are P o.sizes x.conf m x.related)) o.few_slots;
      few_frames = subst (λ n. n < 2 ^ 32) (frames_are P o.sizes o.checked l o.represented ∙ sym (frames_are P o.sizes x.conf m x.related)) o.few_frames;
    }
