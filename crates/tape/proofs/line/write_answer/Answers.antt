use Rattle.std.proofs.Common.{length-append, rules}
use Rattle.tape.proofs.Texts.{written-written}
use Rattle.tape.proofs.line.write_answer.Goals as goal

pub returns : goal.returns
returns c = search (rules, written-written, length-append)
