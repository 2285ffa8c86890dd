-- A kiosk's latest transaction in a table, by its place.
use Rattle.std.proofs.Common.{◌≡◌, ℕ, ◌+◌, ◌-◌, ◌<◌, List, length, get_or, map, drop, All, ◌≢◌, Some, sym, ap, ◌∙◌, arith}
use Rattle.std.proofs.lemmas.List.{length-map, get_or-map, drop-map}
use Rattle.std.proofs.lemmas.List.Elements.{All-map}
use Rattle.journal.specs.Admission.{IsLatest}
use Rattle.journal.specs.History.{nobody, numbered}
use Rattle.journal.specs.Recorded.{txn}
use Rattle.journal.specs.declared.transaction.Transaction.{Transaction}

at_place : (xs : List Transaction) (p : ℕ) (t : Transaction) → p < length xs → t ≡ get_or xs p t → numbered (map txn xs) (p + 1) ≡ txn t
at_place xs p t lt e = let z : p + 1 - 1 ≡ p = omega arith in rw z (get_or-map txn xs p t nobody lt ∙ ap txn (sym e))

pub latest_is : (xs : List Transaction) (k p : ℕ) (t : Transaction) → p < length xs → t ≡ get_or xs p t → t.kiosk ≡ k → All (λ t. t.kiosk ≢ k) (drop (p + 1) xs) → IsLatest (map txn xs) k (Some (p + 1, t.state))
latest_is xs k p t lt e at later =
    let is = at_place xs p t lt e in
    record {
      has = (omega arith, omega (arith, length-map xs txn));
      kiosk = ap (λ t. t.kiosk) is ∙ at;
      state = ap (λ t. t.state) is;
      later = rw drop-map (All-map (λ t. t.kiosk ≢ k) txn (drop (p + 1) xs) later);
    }
