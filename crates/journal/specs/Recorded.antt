-- What a transaction and a table of the code stand for.
use Rattle.std.specs.Prelude.{map}
use Rattle.journal.specs.Few.{items}
use Rattle.journal.specs.NumberSet.{flags}
use Rattle.journal.specs.Transactions.{Txn}
use Rattle.journal.specs.History.{History}
use Rattle.journal.specs.declared.transaction.Transaction.{Transaction}
use Rattle.journal.specs.declared.record.table.Table.{Table}

abbrev pub txn : Transaction → Txn
txn t = record { kiosk = t.kiosk; mark = t.mark; state = t.state; reads = items t.reads; rows = flags t.rows }

abbrev pub recorded : Table → History
recorded t = map txn (items t.transactions)
