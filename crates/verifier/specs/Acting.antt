-- Acts of instructions, and arguments as variables.
use Rattle.std.specs.Prelude.{◌-◌, ◌≤◌, List, ◌++◌, length, replicate, Some, None, Option}
use Rattle.bytecode.specs.declared.kind.Kind.{Kind}
use Rattle.bytecode.specs.declared.kind.Kind.TheVariants.{Unknown}
use Rattle.plan.specs.Effects.{Act, call}
use Rattle.reader.specs.declared.package.Signature.{Signature}
use Rattle.reader.specs.Entries.{signature_of}
use Rattle.shapes.specs.declared.act.StackAct.{StackAct}
use Rattle.shapes.specs.Acts.{act_in}

abbrev pub acts_as : Option StackAct → Option Act
acts_as None = None
acts_as (Some a) = Some (act_in a)

-- a call of what takes and gives the kinds of a signature, if there is one
abbrev pub called : Option Signature → Option Act
called None = None
called (Some s) = Some (call (signature_of s))

-- no more arguments than a function has variables
abbrev pub Few : Signature → Type 0
Few s = length (signature_of s).arguments ≤ 32

-- 32 variables, those without an argument Unknown
abbrev pub padded : List Kind → List Kind
padded ks = ks ++ replicate (32 - length ks) Unknown
