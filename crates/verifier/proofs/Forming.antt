-- A package holds a well_formed program.
use Rattle.std.proofs.Common.{ℕ, ◌<◌, List, [], ◌∷◌, length, subst}
use Rattle.std.specs.List.{AllByRecursion}
use Rattle.std.proofs.ByRecursion.{All-get_or}
use Rattle.std.proofs.lemmas.Option.{slice_get_within, get_or_from_slice_get}
use Rattle.bytecode.specs.declared.kind.Kind.{Kind}
use Rattle.bytecode.specs.declared.kind.Kind.TheVariants.{Unknown, Word, Reference}
use Rattle.bytecode.specs.Program.{Function, Native}
use Rattle.plan.specs.Programs.{Known, AllKnown, no_function, function_at, FormedFunction, KnownSignature, WellFormed}
use Rattle.reader.specs.declared.package.Package.{Package}
use Rattle.reader.specs.View.{program_of, KnownKind, FunctionFormed, NativeFormed, no_native}
use Rattle.reader.proofs.Fits.{fitting_of}

known : (k : Kind) → KnownKind k → Known k
known Unknown h = absurd h
known Word h = tt
known Reference h = tt

all_known : (ks : List Kind) → AllByRecursion KnownKind ks → AllKnown ks
all_known [] h = tt
all_known (k ∷ ks) h = (known k h.0, all_known ks h.1)

formed_function : (g : Function) → FunctionFormed g → FormedFunction g
formed_function g h =
    record { signature = record { arguments = all_known _ h.takes; result = known _ h.gives }; counted = h.ordered; few = h.narrow }

known_signature : (g : Native) → NativeFormed g → KnownSignature g.signature
known_signature g h = record { arguments = all_known _ h.takes; result = known _ h.gives }

module _ (p : Package) where
  -- a function of the program
  pub function_formed : (f : ℕ) → f < length (program_of p).functions → FunctionFormed (function_at (program_of p) f)
  function_formed f l = All-get_or FunctionFormed (program_of p).functions f no_function l (fitting_of p).formed

  pub well_formed : WellFormed (program_of p)
  well_formed =
      record {
        functions = λ f g e.
            formed_function g (subst FunctionFormed (get_or_from_slice_get (program_of p).functions f g no_function e)
            (function_formed f (slice_get_within (program_of p).functions f g e)));
        natives = λ n g e.
            known_signature g (subst NativeFormed (get_or_from_slice_get (program_of p).natives n g no_native e)
            (All-get_or NativeFormed (program_of p).natives n no_native (slice_get_within (program_of p).natives n g e) (fitting_of p).natives_formed));
      }
