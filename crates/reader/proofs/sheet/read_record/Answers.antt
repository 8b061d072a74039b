use Rattle.std.proofs.Common.{refl}
use Rattle.reader.proofs.Lettering.{letters_inside}
use Rattle.reader.proofs.sheet.read_record.Goals as goal

pub returns-clause-inside : goal.returns-clause-inside
returns-clause-inside c = letters_inside c.args.cursor.now.bytes.now c.in-Ok.record.now c.args.cursor.now.offset c.args.arguments c.in-Ok.ensures.met _ refl refl
