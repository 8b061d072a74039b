-- Arguments as variables and on the stack, and calls.
use denote.Param.Members.{Mut, Called}
use Rattle.std.specs.Array.{IsFromFnResult, IsFromFnResultFrom}
use Rattle.std.proofs.Common.{◌≡◌, ℕ, zero, suc, ◌+◌, ◌-◌, ◌<◌, ◌≤◌, List, [], ◌∷◌, ◌++◌, reverse, length, get_or, take, replicate, Some, None, Option, sym, refl, ap, ◌∙◌, subst, arith}
use Rattle.std.proofs.lemmas.List.{ext_get_or, length-append, length-map, length-replicate}
use Rattle.std.proofs.lemmas.Option.{slice_get-get_or, slice_get_past}
use Rattle.std.proofs.Math.Seq.{take-append_seam}
use Rattle.bytecode.specs.declared.kind.Kind.{Kind}
use Rattle.bytecode.specs.declared.kind.Kind.TheVariants.{Unknown}
use Rattle.bytecode.specs.Program.{Program, Signature as Meaning}
use Rattle.plan.specs.Programs.{nth, no_function}
use Rattle.plan.specs.Effects.{call, call_static, call_native}
use Rattle.reader.specs.declared.package.Package.{Package}
use Rattle.reader.specs.declared.package.Signature.{Signature}
use Rattle.reader.specs.Entries.{signature_of}
use Rattle.reader.specs.Layout.{kind_of}
use Rattle.reader.specs.View.{program_of, function_in, no_native, native_in}
use Rattle.verifier.specs.Acting.{padded, called, Few}
use Rattle.verifier.proofs.Forming.{function_formed}

-- ## Arguments

length-padded : (ks : List Kind) → length ks ≤ 32 → length (padded ks) ≡ 32
length-padded ks h =
    omega (arith, length-append ks (replicate (32 - length ks) Unknown), length-replicate (32 - length ks) Unknown)

unknowns : (n i : ℕ) → get_or (replicate n Unknown) i Unknown ≡ Unknown
unknowns zero i = refl
unknowns (suc n) zero = refl
unknowns (suc n) (suc i) = unknowns n i

padded_front : (ks : List Kind) (n i : ℕ) → get_or (ks ++ replicate n Unknown) i Unknown ≡ get_or ks i Unknown
padded_front [] n i = unknowns n i
padded_front (k ∷ ks) n zero = refl
padded_front (k ∷ ks) n (suc i) = padded_front ks n i

padded_at : (ks : List Kind) (i : ℕ) → get_or (padded ks) i Unknown ≡ get_or ks i Unknown
padded_at ks i = padded_front ks (32 - length ks) i

-- an entry for each of the 32 variables, by calls that leave what is called as it was
module _ {F : Type 0} (g : Mut F (ℕ × Unit {0}) Kind) (f : F) (ks : List Kind) (each : (i : ℕ) (y : Kind) (q : F) → Called g f (i, tt) y q → (y ≡ get_or ks i Unknown) × (q ≡ f)) where
  made_at : (ys : List Kind) (n i : ℕ) → IsFromFnResultFrom g f ys i n → (j : ℕ) → j < n → get_or ys (i + j) Unknown ≡ get_or ks (i + j) Unknown
  made_at ys zero i h j l = absurd (omega arith)
  made_at ys (suc n) i h zero l =
      let z : i + 0 ≡ i = omega arith in
      rw z (h.2.1 Unknown ∙ (each i h.1 h.0 h.3).0)
  made_at ys (suc n) i h (suc j) l =
      let z : i + suc j ≡ (i + 1) + j = omega arith in
      rw z (made_at ys n (i + 1) (subst (λ q. IsFromFnResultFrom g q ys (i + 1) n) (each i h.1 h.0 h.3).1 h.4) j (omega arith))

  pub made_padded : (ys : List Kind) → length ks ≤ 32 → IsFromFnResult g f ys 32 → ys ≡ padded ks
  made_padded ys few h = ext_get_or Unknown ys (padded ks) (h.long ∙ sym (length-padded ks few)) (λ i l. let z : 0 + i ≡ i = omega arith in subst (λ i. get_or ys i Unknown ≡ get_or ks i Unknown) z (made_at ys 32 0 h.each i (omega (arith, h.long))) ∙ sym (padded_at ks i))

-- the front of the variables are the arguments
pub front_kinds : (ks vs : List Kind) (n : ℕ) → vs ≡ padded ks → n ≡ length ks → reverse (take n vs) ≡ reverse ks
front_kinds ks vs n d e = ap (λ xs. reverse (take n xs)) d ∙ ap (λ m. reverse (take m (padded ks))) e ∙ ap reverse (take-append_seam ks (replicate (32 - length ks) Unknown))

-- ## Calls

pub function_none : (P : Program) (f : ℕ) → length P.functions ≤ f → call_static (nth P.functions f) ≡ None
function_none P f h = ap call_static (slice_get_past P.functions f h)

pub function_some : (P : Program) (f : ℕ) (s : Signature) → f < length P.functions → signature_of s ≡ (function_in P f).signature → call_static (nth P.functions f) ≡ called (Some s)
function_some P f s h e = ap call_static (slice_get-get_or P.functions f no_function h) ∙ ap (λ s. Some (call s)) (sym e)

pub native_none : (P : Program) (n : ℕ) → length P.natives ≤ n → call_native (nth P.natives n) ≡ None
native_none P n h = ap call_native (slice_get_past P.natives n h)

pub native_some : (P : Program) (n : ℕ) (s : Signature) → n < length P.natives → signature_of s ≡ (native_in P n).signature → call_native (nth P.natives n) ≡ called (Some s)
native_some P n s h e = ap call_native (slice_get-get_or P.natives n no_native h) ∙ ap (λ s. Some (call s)) (sym e)

-- arguments are few
pub function_few : (p : Package) (f : ℕ) (s : Signature) → f < length (program_of p).functions → signature_of s ≡ (function_in (program_of p) f).signature → Few s
function_few p f s h e =
    let g = function_formed p f h in
    omega (arith, ap (λ (s : Meaning). length s.arguments) e, g.ordered, g.narrow)

pub native_few : (s : Signature) → length s.argument_letters.now ≤ 4 → Few s
native_few s h = omega (arith, length-map s.argument_letters.now kind_of)

pub ruleset calling = (function_none, function_some, function_few, native_none, native_some, native_few)
