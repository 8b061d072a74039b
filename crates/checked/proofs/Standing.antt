-- The law over every list of requests, from what one step keeps and from the laws of runs.
use Rattle.std.proofs.Common.{ℕ, zero, suc, ◌-◌, List, [], ◌∷◌, ◌++◌, length, map, replicate, Some, None, Option, sym, refl, ap, ◌∙◌, subst}
use Rattle.std.proofs.lemmas.Option.{get_or_from_slice_get}
use lib.ListN.{length-replicate}
use Rattle.bytecode.specs.declared.kind.Kind.TheVariants.{Unknown}
use Rattle.bytecode.specs.Program.{Program}
use Rattle.host.specs.Hosts.{Host, Lawful}
use Rattle.plan.specs.Programs.{function_at, variables_at, no_function}
use Rattle.plan.specs.Plans.{entry_of}
use Rattle.checked.specs.Runs.{Next, goes, ends, stops, breaks, Status, live, ended, stopped, broken, after, advance, iterate, Request, run, look, handle, handle_all}
use Rattle.checked.specs.Machine.{Value, Frame, frame, Conf, conf, Sizes, step, begins, checked_machine}
use Rattle.checked.specs.Law.{Plans, Accepted, Await, Planned, Kept, KeepsLaws, AllKeepLaws, begun, Law}
use Rattle.checked.specs.Sound.{Holding, Callers, main, more, Sound}
use Rattle.checked.proofs.Running.{iterate_add, threads, twins}
use Rattle.checked.proofs.Growing.{step_grows}
use Rattle.checked.proofs.Pieces.{nth_some, entry_holding}
use Rattle.checked.proofs.Sounding.{Fine, fits_at, step_fine}

module _ (P : Program) (plans : Plans) (ok : Accepted P plans) where
  -- a machine whose frames are sound, if it has any, and that is not broken
  abbrev pub Sane : Status Conf → Type 0
  Sane (live n c) = Sound P plans c
  Sane (ended n w c) = Unit {0}
  Sane (stopped n e c) = Sound P plans c
  Sane (broken n c) = ⊥

  pub begins_sound : Sound P plans (begins (variables_at P 0))
  begins_sound =
      let g = nth_some P.functions 0 ok.some in
      let e = get_or_from_slice_get P.functions 0 g.0 no_function g.1 in (
        fits_at P plans 0 0 g.0 (replicate (variables_at P 0) None) (entry_of (function_at P 0)) [] g.1
            (length-replicate {A = Option Value} (variables_at P 0) None ∙ ap (λ k. k.variables) e)
            (ok.fullest 0 ok.some).sound.begins refl
            (subst (λ k. Holding (replicate (variables_at P 0) None) (k ++ replicate (32 - length k) Unknown)) (sym ok.plain)
            (entry_holding [] (variables_at P 0) 32)),
        main,
      )

  module _ {S : Type 0} (sizes : Sizes) where
    sane_after : (n : ℕ) (c : Conf) (x : Next Conf S) → Sound P plans c → Fine P plans x → Sane (after n c x).machine
    sane_after n c (goes d s) h f = f
    sane_after n c (ends w s) h f = tt
    sane_after n c (stops e s) h f = h
    sane_after n c (breaks s) h f = f

    sane_advance : (host : Host S) → Lawful host → (x : Status Conf) (s : S) → Sane x → Sane (advance (step P host sizes) x s).machine
    sane_advance host l (live n c) s h = sane_after n c (step P host sizes c s) h (step_fine P plans ok host l sizes c s h)
    sane_advance host l (ended n w c) s h = tt
    sane_advance host l (stopped n e c) s h = h
    sane_advance host l (broken n c) s h = h

    pub sane_iterate : (host : Host S) → Lawful host → (k : ℕ) (x : Status Conf) (s : S) → Sane x → Sane (iterate (step P host sizes) k x s).machine
    sane_iterate host l zero x s h = h
    sane_iterate host l (suc k) x s h =
        sane_iterate host l k (advance (step P host sizes) x s).machine (advance (step P host sizes) x s).host (sane_advance host l x s h)

    sane_handle : (p : Request S) → KeepsLaws p → (x : Status Conf) → Sane x → Sane (handle (checked_machine P sizes) p x)
    sane_handle (run host s k) l x h = sane_iterate host l k x s h
    sane_handle (look j) l x h = h

    pub sane_handled : (ps : List (Request S)) → AllKeepLaws ps → (x : Status Conf) → Sane x → Sane (handle_all (checked_machine P sizes) ps x)
    sane_handled [] l x h = h
    sane_handled (p ∷ ps) l x h = sane_handled ps l.1 (handle (checked_machine P sizes) p x) (sane_handle p l.0 x h)

  -- ## Sound machines are as planned

  awaits : (g : ℕ) (fs : List Frame) → Callers P plans g fs → Await P plans g fs
  awaits g fs main = tt
  awaits g fs (more {f = f} {rest = rest} w ws) = ((w.shape, w.planned, w.stack), awaits f rest ws)

  planned : (c : Conf) → Sound P plans c → Planned P plans c
  planned (conf (frame f p vs st) rest h) (d, callers) = ((d.shape, d.planned, d.stack), awaits f rest callers)

  pub sane_kept : (x : Status Conf) → Sane x → Kept P plans x
  sane_kept (live n c) h = planned c h
  sane_kept (ended n w c) h = tt
  sane_kept (stopped n e c) h = planned c h
  sane_kept (broken n c) h = h

  pub law_holds : (S : Type 0) (sizes : Sizes) → Law S P plans sizes
  law_holds S sizes =
      record {
        kept = λ ps l. sane_kept (handle_all (checked_machine P sizes) ps (begun S P plans sizes)) (sane_handled sizes ps l (begun S P plans sizes) begins_sound);
        adds = λ host a b x s. iterate_add (step P host sizes) a b x s;
        threads = λ host ts x s. threads (checked_machine P sizes) host ts x s;
        ends_alike = λ big le host s ts us n w c t h m.
            twins (step P host sizes) (step P host big) (step_grows P host sizes big le) (ended n w c) t tt tt ts us (begins (variables_at P 0)) s h m;
        stops_alike = λ big le host s ts us n e c t h l m.
            twins (step P host sizes) (step P host big) (step_grows P host sizes big le) (stopped n e c) t l tt ts us (begins (variables_at P 0)) s h m;
      }
