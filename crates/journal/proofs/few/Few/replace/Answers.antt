use Rattle.std.proofs.Common.{arith}
use Rattle.std.proofs.Math.Seq.{take-set-lt}
use Rattle.std.proofs.lemmas.List.{length-take-le}
use Rattle.journal.proofs.few.Few.replace.Goals as goal

pub returns : goal.returns
returns g c =
    let few = c.args.self.now in
    take-set-lt few.len few.places c.args.place c.args.value (omega (arith, c.requires, few.within, few.all_places, length-take-le few.len few.places))
