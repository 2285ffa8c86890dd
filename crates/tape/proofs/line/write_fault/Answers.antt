use Rattle.std.proofs.Common.{rules}
use Rattle.tape.proofs.Decimals.{length-decimal_20}
use Rattle.tape.proofs.Texts.{fault_text, first, regrouped, then}
use Rattle.tape.proofs.line.write_fault.Goals as goal

pub put_decimal-end-requires : goal.put_decimal-end-requires
put_decimal-end-requires c = search (rules, length-decimal_20)

pub put-end-requires-2 : goal.put-end-requires-2
put-end-requires-2 c = search (rules, length-decimal_20)

pub put_decimal-end-requires-2 : goal.put_decimal-end-requires-2
put_decimal-end-requires-2 c = search (rules, length-decimal_20)

pub put-requires : goal.put-requires
put-requires c = search (rules, length-decimal_20)

pub returns : goal.returns
returns c =
    let a = first _ c.put-end.ensures.line c.put-end.ensures.end in
    let b = then _ a c.put_decimal-end.ensures.line c.put_decimal-end.ensures.end in
    let d = then _ b c.put-end-2.ensures.line c.put-end-2.ensures.end in
    let e = then _ d c.put_decimal-end-2.ensures.line c.put_decimal-end-2.ensures.end in
    let f = then _ e c.put.ensures.line c.put.ensures.end in
    let g = regrouped (fault_text c.args.fault c.from-2.result (search rules)) f in
    record { line = g.line; end = g.end; short = search (rules, length-decimal_20) }
