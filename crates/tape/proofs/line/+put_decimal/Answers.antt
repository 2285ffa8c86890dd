use Rattle.std.proofs.Common.{rules}
use Rattle.std.proofs.lemmas.Fmt.{decimal_digit}
use Rattle.tape.proofs.Decimals.{decimal_more, length-decimal_more}
use Rattle.tape.proofs.line.+put_decimal.Goals as goal

pub put-requires : goal.put-requires
put-requires t c = search (rules, decimal_digit)

pub returns-then-n-lt10 : goal.returns-then-n-lt10
returns-then-n-lt10 t c = search (rules, decimal_digit)

pub put_decimal-end-requires : goal.put_decimal-end-requires
put_decimal-end-requires t c = search (rules, length-decimal_more)

pub put-requires-2 : goal.put-requires-2
put-requires-2 t c = search (rules, length-decimal_more)

pub returns : goal.returns
returns t c = search (rules, length-decimal_more, decimal_more)
