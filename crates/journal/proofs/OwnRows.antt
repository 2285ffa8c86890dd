-- Rows that a transaction has written: reading one, or writing it again, changes nothing.
use Rattle.std.proofs.Common.{◌≡◌, ℕ, ◌-◌, Bool, true, false, not, eqb, leb, List, length, set, Some, Ok, sym, refl, ap, ◌∙◌}
use Rattle.std.proofs.lemmas.List.{set-get_or}
use Rattle.journal.specs.Limits.{kiosk_count, row_count, most_reads}
use Rattle.journal.specs.Transactions.{Txn, has_row, with_row}
use Rattle.journal.specs.History.{History, Step, next, refuse_if, and_then, by_open, nobody, numbered, open_number, changed, reader_after}
use Rattle.journal.specs.Rules.{OwnRowsStay}
use Rattle.journal.specs.declared.refusal.Refusal.{Refusal}
use Rattle.journal.specs.declared.refusal.Refusal.TheVariants.{NotOwnNumber}

-- A refusal leaves the history, so a check leaves it if what comes after does.
refused_stays : (h : History) (b : Bool) (w : Refusal) (rest : Step) → next h rest ≡ h → next h (refuse_if b w rest) ≡ h
refused_stays h true w rest e = refl
refused_stays h false w rest e = e

by_open_stays : (h : History) (k n : ℕ) (f : ℕ → Step) → open_number h k ≡ Some n → next h (f n) ≡ h → next h (by_open h k f) ≡ h
by_open_stays h k n f o e = refused_stays h (leb kiosk_count k) _ _ (rw o e)

changed_same : (h : History) (n : ℕ) → changed h n (numbered h n) ≡ h
changed_same h n = set-get_or h (n - 1) nobody

with_row_same : (t : Txn) (r : ℕ) → has_row t r ≡ true → with_row r t ≡ t
with_row_same t r e =
    ap (λ (rows : List Bool). record { kiosk = t.kiosk; mark = t.mark; state = t.state; reads = t.reads; rows = rows })
    (ap (set t.rows r) (sym e) ∙ set-get_or t.rows r false)

own_read : (h : History) (n r s : ℕ) → has_row (numbered h n) r ≡ true → next h (and_then (reader_after most_reads h n (numbered h n) r s) (λ t. Ok (length t.reads, changed h n t))) ≡ h
own_read h n r s own = rw own (go (not (eqb s n)))
  where
    go : (b : Bool) → next h (and_then (refuse_if b NotOwnNumber (Ok (numbered h n))) (λ t. Ok (length t.reads, changed h n t))) ≡ h
    go true = refl
    go false = changed_same h n

pub own_rows_stay : OwnRowsStay
own_rows_stay h k n r s o own = (
  by_open_stays h k n _ o (refused_stays h (leb row_count r) _ _ (own_read h n r s own)),
  by_open_stays h k n _ o (refused_stays h (leb row_count r) _ _ (ap (changed h n) (with_row_same (numbered h n) r own) ∙ changed_same h n)),
)
