-- The law of a started machine, from the simulation of one step and the law of the checked machine.
use Rattle.std.proofs.Common.{◌≡◌, ℕ, ◌+◌, List, [], ◌∷◌, length, replicate, None, Option, sym, refl, ap, ◌∙◌, subst, arith}
use Rattle.std.proofs.lemmas.Option.{get_or_from_slice_get}
use lib.ListN.{length-replicate}
use Rattle.std.proofs.lemmas.List.{append-nil}
use Rattle.bytecode.specs.Program.{Program}
use Rattle.heap.proofs.Standing.{stands}
use Rattle.host.specs.Hosts.{Host, Lawful}
use Rattle.plan.specs.Programs.{nth, variables_at, no_function}
use Rattle.checked.specs.Runs.{Next, Request, handle_all, Turn, serve}
use Rattle.checked.specs.Machine.{Value, Frame, frame, Conf, conf, Sizes, reserve, checked_machine}
use Rattle.checked.specs.Machine as checked
use Rattle.checked.specs.Law.{Plans, Accepted, NoLess, AllKeepLaws}
use Rattle.checked.specs.Sound.{Sound}
use Rattle.checked.proofs.Pieces.{nth_some}
use Rattle.checked.proofs.Sounding.{Fine, step_fine}
use Rattle.checked.proofs.Running.{threads}
use Rattle.checked.proofs.Standing.{begins_sound, law_holds}
use Rattle.runtime.specs.Runtime.{State, begins, runtime_machine}
use Rattle.runtime.specs.Runtime as running
use Rattle.runtime.specs.Relation.{Small, flat, Lays, Represented, Same, go, end, stop, Alike, lives}
use Rattle.runtime.specs.Law.{Unused, Memory, sizes_of, Enough, begun, checked_begun, SameCells, Law}
use Rattle.runtime.proofs.Laying.{lays_unset}
use Rattle.runtime.proofs.Stepping.{step_same}
use Rattle.runtime.proofs.Following.{Both, serve_both, handled_alike, responses_same, ended_both, both_ended, stopped_both, both_stopped, alike_weaker}
use Rattle.runtime.proofs.Looking.{newest_same, frame_same}

module _ (P : Program) (plans : Plans) (ok : Accepted P plans) (small : Small P) where
  -- a sound configuration and a state that represents it
  abbrev pub Paired : Sizes → Conf → State → Type 0
  Paired sizes c l = Sound P plans c × Represented P sizes c l

  -- a step keeps both
  paired_step : {S : Type 0} (sizes : Sizes) {x : Next Conf S} {y : Next State S} → Fine P plans x → Same (Represented P sizes) x y → Same (Paired sizes) x y
  paired_step sizes fine (go r) = go (fine, r)
  paired_step sizes fine end = end
  paired_step sizes fine stop = stop

  pub step_paired : {S : Type 0} (host : Host S) → Lawful host → (sizes : Sizes) (c : Conf) (l : State) (s : S) → Paired sizes c l
      → Same (Paired sizes) (checked.step P host sizes c s) (running.step P host l s)
  step_paired host lawful sizes c l s (sound, r) =
      paired_step sizes (step_fine P plans ok host lawful sizes c s sound) (step_same P plans ok small host lawful sizes c l s sound r)

  -- ## The start

  pub begins_paired : (m : Memory) → Enough P m → Paired (sizes_of m) (checked.begins (variables_at P 0)) (begins P m.slots m.frames m.storage)
  begins_paired m enough =
      let g = nth_some P.functions 0 ok.some in
      let e = get_or_from_slice_get P.functions 0 g.0 no_function g.1 in
      let v : variables_at P 0 + 32 ≡ reserve (nth P.functions 0) + 0 =
      (let a = ap reserve g.1 in let b = ap (λ k. k.variables) e in omega arith) in
      let n : length (flat (frame 0 0 (replicate (variables_at P 0) None) [] ∷ [])) ≡ variables_at P 0 =
      ap length (append-nil (replicate (variables_at P 0) None)) ∙ length-replicate {A = Option Value} (variables_at P 0) None in (
        begins_sound P plans ok,
        record {
          function = refl;
          place = refl;
          base = refl;
          top = sym n;
          lays = subst (λ xs. Lays m.storage.count xs m.slots) (sym (append-nil (replicate (variables_at P 0) None)))
              (lays_unset m.storage.count [] (variables_at P 0) m.slots (λ i. tt));
          records = tt;
          callers = refl;
          reserves = v;
          slot_count = refl;
          frame_count = refl;
          roomy = let a = enough.slots in omega arith;
          free = enough.frames;
          heap = stands.begins m.storage enough.unused.used enough.unused.count enough.unused.cells enough.unused.records;
          sized = record {
            bytes = λ j lt. absurd (omega (arith, enough.unused.used));
            counts = λ b lt. absurd (omega (arith, enough.unused.count));
          };
        },
      )

  -- ## The law

  same_cells : (sizes : Sizes) (c : Conf) (l : State) → Paired sizes c l → SameCells sizes c l
  same_cells sizes (conf (frame f p vs st) rest h) l r = r.1.heap

  enough_more : (m twin : Memory) → Unused twin.storage → NoLess (sizes_of m) (sizes_of twin) → Enough P m → Enough P twin
  enough_more m twin fresh le e =
      record { unused = fresh; frames = (let a = le.frames in let b = e.frames in omega arith); slots = (let a = le.slots in let b = e.slots in omega arith) }

  module _ (S : Type 0) (m : Memory) (enough : Enough P m) where
    start : (k : Memory) → Enough P k → Alike (Paired (sizes_of k)) (checked_begun P) (begun P k)
    start k e = lives (begins_paired k e)

    served_both : (k : Memory) → Enough P k → (host : Host S) → Lawful host → (ts : List Turn) (s : S)
        → Both (Paired (sizes_of k)) (serve (checked.step P host (sizes_of k)) ts (checked_begun P) s) (serve (running.step P host) ts (begun P k) s)
    served_both k e host lawful ts s =
        serve_both (Paired (sizes_of k)) (checked.step P host (sizes_of k)) (running.step P host) (step_paired host lawful (sizes_of k)) ts (checked_begun P) (begun P k) (start k e) s

    place_same : (sizes other : Sizes) (c : Conf) (l k : State) → Paired sizes c l → Paired other c k → (k.function ≡ l.function) × (k.place ≡ l.place)
    place_same sizes other (conf (frame f p vs st) rest h) l k a b = (b.1.function ∙ sym a.1.function, b.1.place ∙ sym a.1.place)

    pub law_stands : Law S P plans m
    law_stands =
        record {
          answers = λ ps l. sym (responses_same (Paired sizes) (checked_machine P sizes) (runtime_machine P) sim newests frames ps l (checked_begun P) (begun P m) (start m enough));
          cells = λ ps l. alike_weaker (Paired sizes) (SameCells sizes) (same_cells sizes) (alike ps l);
          slots = λ ps l. alike_weaker (Paired sizes) (Represented P sizes) (λ c d r. r.1) (alike ps l);
          kept = λ ps l. (law_holds P plans ok S sizes).kept ps l;
          threads = λ host ts x s. threads (runtime_machine P) host ts x s;
          ends_alike = λ twin fresh le host lawful s ts us n w l t q le'.
              let a = ended_both (Paired sizes) (served_both m enough host lawful ts s) n w l t q in
              let b = both_ended (Paired (sizes_of twin)) (served_both twin (enough_more m twin fresh le enough) host lawful us s) n w a.0 t
              ((law_holds P plans ok S sizes).ends_alike (sizes_of twin) le host s ts us n w a.0 t a.1 le') in
              (b.0, b.1);
          stops_alike = λ twin fresh le host lawful s ts us n e l t q lasting le'.
              let a = stopped_both (Paired sizes) (served_both m enough host lawful ts s) n e l t q in
              let b = both_stopped (Paired (sizes_of twin)) (served_both twin (enough_more m twin fresh le enough) host lawful us s) n e a.0 t
              ((law_holds P plans ok S sizes).stops_alike (sizes_of twin) le host s ts us n e a.0 t a.1 lasting le') in
              let p = place_same sizes (sizes_of twin) a.0 l b.0 a.2 b.2 in
              (b.0, b.1, p.0, p.1);
        }
      where
        sizes : Sizes
        sizes = sizes_of m

        sim : (host : Host S) → Lawful host → (c : Conf) (l : State) (s : S) → Paired sizes c l → Same (Paired sizes) (checked.step P host sizes c s) (running.step P host l s)
        sim host lawful c l s r = step_paired host lawful sizes c l s r

        newests : (c : Conf) (l : State) → Paired sizes c l → checked.newest c ≡ running.newest P l
        newests c l r = newest_same P plans ok sizes c l r.0 r.1

        frames : (c : Conf) (l : State) → Paired sizes c l → (j : ℕ) → checked.frame_at c j ≡ running.frame_at P l j
        frames c l r j = frame_same P plans ok sizes c l r.0 r.1 j

        alike : (ps : List (Request S)) → AllKeepLaws ps → Alike (Paired sizes) (handle_all (checked_machine P sizes) ps (checked_begun P)) (handle_all (runtime_machine P) ps (begun P m))
        alike ps l = handled_alike (Paired sizes) (checked_machine P sizes) (runtime_machine P) sim newests frames ps l (checked_begun P) (begun P m) (start m enough)
