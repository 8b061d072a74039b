use Rattle.std.proofs.Common.{◌<◌, arith}
use Rattle.reader.specs.Entries.{native_entry, native_of, NativeFits, NativeLettered}
use Rattle.reader.specs.View.{no_native}
use Rattle.reader.proofs.Fits.{native_counted}
use Rattle.reader.proofs.Places.{front_at_lem, all_at, entry_at}
use Rattle.reader.proofs.package.Package.native_at.Goals as goal

pub returns : goal.returns
returns c =
    let p = c.args.self.now in
    let inside : c.args.native < p.native_count = omega (arith, native_counted p, c.requires) in
    record {
      met = front_at_lem native_of p.natives p.native_count c.args.native _ no_native (omega arith) inside;
      fits = entry_at native_entry NativeFits p.natives p.native_count c.args.native _ (omega arith) inside p.natives_known.each;
      lettered = all_at NativeLettered p.natives p.native_count c.args.native _ (omega arith) inside p.natives_known.lettered;
    }
