use Rattle.std.proofs.Common.{◌≢◌, List, map, Some, None, ◌+◌, subst}
use Rattle.std.proofs.lemmas.List.Elements.{All-map}
use Rattle.journal.specs.Admission.{IsLatest}
use Rattle.journal.specs.Recorded.{txn}
use Rattle.journal.specs.declared.transaction.Transaction.{Transaction}
use Rattle.journal.proofs.Tables.{latest_is}
use Rattle.journal.proofs.record.table.Table.latest_of.Goals as goal

pub returns-in_err-place : goal.returns-in_err-place
returns-in_err-place c =
    rw c.from_residual.ensures
    (subst (λ (xs : List Transaction). IsLatest (map txn xs) c.args.kiosk None) c.as_slice-transactions.ensures.values
    (All-map (λ t. t.kiosk ≢ c.args.kiosk) txn _ c.in_err-place.ensures.none))

pub returns : goal.returns
returns c =
    let t = c.index-transactions-place.result in
    let p = c.in_ok-place.place in
    let found = c.in_ok-place.ensures in
    rw c.state.ensures
    (subst (λ (xs : List Transaction). IsLatest (map txn xs) c.args.kiosk (Some (p + 1, t.state))) c.as_slice-transactions.ensures.values
    (latest_is _ c.args.kiosk p t found.within c.index-transactions-place.is (rw c.index-transactions-place.is (found.at t)) found.later))
