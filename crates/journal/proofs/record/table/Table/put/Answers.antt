use Rattle.std.proofs.Common.{map, ap, ◌∙◌}
use Rattle.std.proofs.lemmas.List.{map-set}
use Rattle.journal.specs.Recorded.{txn}
use Rattle.journal.proofs.record.table.Table.put.Goals as goal

pub returns : goal.returns
returns c = rw (← c.from.ensures) (ap (map txn) c.replace.ensures ∙ map-set txn _ _ c.args.t)
