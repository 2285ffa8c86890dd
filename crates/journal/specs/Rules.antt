-- What holds of every history that calls can make.
use Rattle.std.specs.Prelude.{◌≡◌, ℕ, ◌≤◌, true, false, All, ◌⊎◌, List, ◌++◌, length, Some}
use Rattle.journal.specs.Limits.{most_reads}
use Rattle.journal.specs.Marks.{mark_number}
use Rattle.journal.specs.Transactions.{is_open, is_committed, open_at, has_row}
use Rattle.journal.specs.History.{History, Call, read, write, HasNumber, after, history, numbered, open_number}
use Rattle.journal.specs.declared.transaction.OuterRead.{OuterRead}

-- The source is the opening state, or a committed transaction that wrote the row.
abbrev pub Sourced : History → OuterRead → Type 0
Sourced h r = (r.source ≡ 0) ⊎ (HasNumber h r.source × (is_committed (numbered h r.source).state ≡ true) × (has_row (numbered h r.source) r.row ≡ true))

-- Each kiosk has at most one open transaction; every mark is 1 to 6; no transaction has too many outer reads;
-- each source is the opening state or a committed transaction that wrote the row.
pub record Rules (h : History) : Type 0 where
  pub one_open : (k m n : ℕ) → HasNumber h m → HasNumber h n → open_at (numbered h m) k ≡ true → open_at (numbered h n) k ≡ true → m ≡ n
  pub marks : All (λ t. (1 ≤ mark_number t.mark) × (mark_number t.mark ≤ 6)) h
  pub few_reads : All (λ t. length t.reads ≤ most_reads) h
  pub sources : All (λ t. All (Sourced h) t.reads) h

-- A read of a row that its transaction wrote changes nothing, nor does a repeated write.
abbrev pub OwnRowsStay : Type 0
OwnRowsStay = (h : History) (k n r s : ℕ) → open_number h k ≡ Some n → has_row (numbered h n) r ≡ true → (after h (read k r s) ≡ h) × (after h (write k r) ≡ h)

-- What has ended stays as it is, whatever calls come later.
abbrev pub EndedStays : Type 0
EndedStays = (cs ds : List Call) (n : ℕ) → HasNumber (history cs) n → is_open (numbered (history cs) n).state ≡ false → HasNumber (history (cs ++ ds)) n × (numbered (history (cs ++ ds)) n ≡ numbered (history cs) n)
