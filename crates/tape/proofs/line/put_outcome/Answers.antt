use Rattle.std.proofs.Common.{rules}
use Rattle.tape.proofs.Decimals.{length-decimal_20}
use Rattle.tape.proofs.Texts.{written-written}
use Rattle.tape.proofs.line.put_outcome.Goals as goal

pub put_decimal-requires : goal.put_decimal-requires
put_decimal-requires c = search (rules, length-decimal_20)

pub put_decimal-requires-in-Err : goal.put_decimal-requires-in-Err
put_decimal-requires-in-Err c = search (rules, length-decimal_20)

pub returns-in-Ok : goal.returns-in-Ok
returns-in-Ok c = search (rules, length-decimal_20)

pub returns-in-Err : goal.returns-in-Err
returns-in-Err c = search (rules, written-written, length-decimal_20)
