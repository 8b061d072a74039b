use Rattle.std.proofs.Common.{◌<◌, arith}
use Rattle.reader.specs.Entries.{function_entry, function_of, FunctionFits, FunctionBehind, FunctionLettered}
use Rattle.reader.specs.View.{no_function}
use Rattle.reader.proofs.Fits.{function_counted}
use Rattle.reader.proofs.Places.{front_at_lem, all_at, entry_at}
use Rattle.reader.proofs.package.Package.function_at.Goals as goal

pub returns : goal.returns
returns c =
    let p = c.args.self.now in
    let inside : c.args.function < p.function_count = omega (arith, function_counted p, c.requires) in
    record {
      met = front_at_lem function_of p.functions p.function_count c.args.function _ no_function (omega arith) inside;
      fits = entry_at function_entry FunctionFits p.functions p.function_count c.args.function _ (omega arith) inside p.functions_known.each;
      behind = entry_at function_entry (FunctionBehind 2) p.functions p.function_count c.args.function _ (omega arith) inside p.functions_known.behind;
      lettered = all_at FunctionLettered p.functions p.function_count c.args.function _ (omega arith) inside p.functions_known.lettered;
    }
