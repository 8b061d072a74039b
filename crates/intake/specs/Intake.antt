-- What hex text comes to as a package's bytes: it is loaded to a zeroed buffer as long as a package can be.
use Rattle.std.specs.Prelude.{◌≡◌, ℕ, List, take, replicate, Ok, Err, Result}
use Rattle.bytecode.specs.declared.refusal.Report.{Report}
use Rattle.bytecode.specs.Outcome.{report}
use Rattle.source.specs.declared.hex.Position.{Position}
use Rattle.source.specs.declared.hex.TextFault.{TextFault}
use Rattle.source.specs.declared.loader.LoadFault.{LoadFault}
use Rattle.source.specs.Hex.{hex_text}
use Rattle.source.specs.Load.{Loaded, loaded}
use Rattle.source.specs.Numbers.{text_shown}
use Rattle.intake.specs.declared.Failure.{Failure}
use Rattle.intake.specs.declared.Failure.TheVariants.{Refused, Broken}

-- the bytes at the front of the memory, as many as load answers, or the report of its fault
abbrev pub front : Result ℕ (LoadFault Position TextFault) → List ℕ → Result (List ℕ) Report
front (Ok count) memory = Ok (take count memory)
front (Err fault) memory = Err (report (text_shown fault))

abbrev pub read : Loaded Position TextFault → Result (List ℕ) Report
read l = front l.answer l.memory

abbrev pub bytes_of_text : List ℕ → Result (List ℕ) Report
bytes_of_text text = read (loaded (hex_text text) (replicate 16384 0))

abbrev pub IsBroken : Failure → Type 0
IsBroken (Refused r) = ⊥
IsBroken (Broken e) = Unit {0}

-- a failure tells a refusal, unless memory, reading or printing failed
abbrev pub Tells : Failure → Result (List ℕ) Report → Type 0
Tells (Refused r) answer = answer ≡ Err r
Tells (Broken e) answer = Unit {0}
