-- What follows for a state of which no more is known than that it is ready: facts that have one proof at most.
use Rattle.std.proofs.Common.{◌≡◌, ℕ, ◌+◌, ◌<◌, ◌≤◌, true, length, is_some, Some, None, Ok, Err, Option, Result, sym, ap, ap₂, ◌∙◌, subst}
use Rattle.std.proofs.Math.Logic.{∥∥₁_elim, ∥∥₁_map}
use Rattle.std.proofs.Props.{props}
use Rattle.bytecode.specs.declared.instruction.Instruction.{Instruction}
use Rattle.bytecode.specs.declared.instruction.Instruction.TheVariants.{Nop, Pop, Dup, Swap, AconstNull, Aldc, Bipush, Ildc, Vload, Vstore, Binary, IfCmpeq, IfCmpne, IfIcmp, Goto, Invokestatic, Invokenative, Return, New, Newarray, Arraylength, Aaddf, Aadds, Imload, Cmload, Amload, Imstore, Cmstore, Amstore}
use Rattle.bytecode.specs.declared.stop.Stop.{Stop}
use Rattle.bytecode.specs.Instructions.{size_of, decode_at}
use Rattle.bytecode.specs.Program.{Program}
use Rattle.host.specs.Hosts.{Host, Lawful}
use Rattle.plan.specs.Programs.{function_at}
use Rattle.checked.specs.Runs.{Next, goes, ends, stops, breaks}
use Rattle.runtime.specs.Runtime.{State, step, act}
use Rattle.ready.specs.Ready.{Bounds, Whole, Safe, Framed, Ready}
use Rattle.ready.proofs.Safety.{fetched}
use Rattle.ready.proofs.Staying.{step_is, step_whole, stays_ready}
use Rattle.ready.proofs.Seeing.{frames_inside}
use Rattle.machine.specs.Runs.{Steps}

safe_prop : (P : Program) (i : Instruction) (l : State) → IsProp (Safe P i l)
safe_prop P Nop l = hlevel props
safe_prop P Pop l = hlevel props
safe_prop P Dup l = hlevel props
safe_prop P Swap l = hlevel props
safe_prop P AconstNull l = hlevel props
safe_prop P (Aldc c) l = hlevel props
safe_prop P (Bipush b) l = hlevel props
safe_prop P (Ildc c) l = hlevel props
safe_prop P (Vload v) l = hlevel props
safe_prop P (Vstore v) l = hlevel props
safe_prop P (Binary op) l = hlevel props
safe_prop P (IfCmpeq o) l = hlevel props
safe_prop P (IfCmpne o) l = hlevel props
safe_prop P (IfIcmp order o) l = hlevel props
safe_prop P (Goto o) l = hlevel props
safe_prop P (Invokestatic c) l = hlevel props
safe_prop P (Invokenative c) l = hlevel props
safe_prop P Return l = hlevel props
safe_prop P (New s) l = hlevel props
safe_prop P (Newarray s) l = hlevel props
safe_prop P Arraylength l = hlevel props
safe_prop P (Aaddf f) l = hlevel props
safe_prop P Aadds l = hlevel props
safe_prop P Imload l = hlevel props
safe_prop P Cmload l = hlevel props
safe_prop P Amload l = hlevel props
safe_prop P Imstore l = hlevel props
safe_prop P Cmstore l = hlevel props
safe_prop P Amstore l = hlevel props

whole_prop : {S : Type 0} (n : Next State S) → IsProp (Whole n)
whole_prop (goes m s) = hlevel props
whole_prop (ends w s) = hlevel props
whole_prop (stops e s) = hlevel props
whole_prop (breaks s) = hlevel props

-- an instruction stands at the state's place, and what every instruction relies on is there
pub record Placed (P : Program) (l : State) : Type 0 where
  pub function : l.function < length P.functions
  pub inside : l.place < length (function_at P l.function).code
  pub decodes : is_some (decode_at (function_at P l.function).code l.place) ≡ true
  pub short : length (function_at P l.function).code ≤ 4096
  pub bounds : Bounds l

placed_prop : (P : Program) (l : State) → IsProp (Placed P l)
placed_prop P l = hlevel props

pub placed : (P : Program) (l : State) → ∥ Ready P l ∥₁ → Placed P l
placed P l t =
    ∥∥₁_elim t (placed_prop P l) (λ r. let f = fetched P l r in
    record { function = f.function; inside = f.inside; decodes = ap is_some f.decoded; short = f.short; bounds = f.bounds })

some_same : {A : Type 0} {x y : A} → ◌≡◌ {A = Option A} (Some x) (Some y) → x ≡ y
some_same e = cc

safe_next : (P : Program) (l : State) (i : Instruction) → decode_at (function_at P l.function).code l.place ≡ Some i → ∥ Ready P l ∥₁ → Safe P i l
safe_next P l i e t =
    ∥∥₁_elim t (safe_prop P i l) (λ r. let f = fetched P l r in
    subst (λ j. Safe P j l) (some_same (sym f.decoded ∙ e)) f.safe)

pub whole_next : {S : Type 0} (P : Program) (host : Host S) → Lawful host → (l : State) (s : S) → ∥ Ready P l ∥₁ → Whole (step P host l s)
whole_next P host lawful l s t = ∥∥₁_elim t (whole_prop (step P host l s)) (λ r. step_whole P host lawful l s r)

-- the instruction that was fetched where the state is may be executed, and the step is what it does
pub next_step : {S : Type 0} (P : Program) (host : Host S) (l : State) (s : S) (f p n : ℕ) (i : Instruction) → ∥ Ready P l ∥₁ → f ≡ l.function → p ≡ l.place
    → n ≡ size_of i → decode_at (function_at P f).code p ≡ Some i → Safe P i l × (step P host l s ≡ act P host i (p + n) l s)
next_step P host l s f p n i ready ef ep en e =
    let decoded : decode_at (function_at P l.function).code l.place ≡ Some i = ap₂ (λ h q. decode_at (function_at P h).code q) (sym ef) (sym ep) ∙ e in (
      safe_next P l i decoded ready,
      step_is P host l s i (placed P l ready).function decoded ∙ ap₂ (λ q k. act P host i (q + k) l s) (sym ep) (sym en),
    )

framed_prop : (P : Program) (l : State) → IsProp (Framed P l)
framed_prop P l = hlevel props

pub framed : (P : Program) (l : State) → ∥ Ready P l ∥₁ → Framed P l
framed P l t = ∥∥₁_elim t (framed_prop P l) (λ r. frames_inside P l r)

-- every step leaves a ready state
pub stays : {S : Type 0} (P : Program) (host : Host S) → Lawful host → (l m : State) (s t : S) (r : Result (Option ℕ) Stop) → ∥ Ready P l ∥₁
    → Steps r l m t (step P host l s) → ∥ Ready P m ∥₁
stays P host lawful l m s t (Ok None) ready met = ∥∥₁_map ready (λ x. stays_ready P host lawful l m s t x (sym met))
stays P host lawful l m s t (Ok (Some w)) ready met = subst (λ n. ∥ Ready P n ∥₁) (sym met.1) ready
stays P host lawful l m s t (Err b) ready met = subst (λ n. ∥ Ready P n ∥₁) (sym met.1) ready
