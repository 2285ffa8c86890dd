-- What the transaction of a number is, and which transactions it depends on. A number that nobody has, has nothing.
use Rattle.std.specs.Prelude.{◌≡◌, ℕ, ◌<◌, Bool, true, false, ◌⊎◌, List, [], length, Some, None, Option, slice_index_or}
use Rattle.std.specs.Option.{option_map}
use Rattle.journal.specs.Limits.{row_count}
use Rattle.journal.specs.Transactions.{Txn, is_committed}
use Rattle.journal.specs.History.{History, at_number}
use Rattle.journal.specs.declared.mark.Mark.{Mark}
use Rattle.journal.specs.declared.transaction.OuterRead.{OuterRead}

abbrev pub reads_in : Option Txn → List OuterRead
reads_in None = []
reads_in (Some t) = t.reads

abbrev pub rows_in : Option Txn → List Bool
rows_in None = []
rows_in (Some t) = t.rows

abbrev pub committed_in : Option Txn → Bool
committed_in None = false
committed_in (Some t) = is_committed t.state

abbrev pub kiosk_at : History → ℕ → Option ℕ
kiosk_at h n = option_map (λ t. t.kiosk) (at_number h n)

abbrev pub mark_at : History → ℕ → Option Mark
mark_at h n = option_map (λ t. t.mark) (at_number h n)

-- Its outer reads, in the order recorded.
abbrev pub reads_at : History → ℕ → List OuterRead
reads_at h n = reads_in (at_number h n)

-- Of each row, whether it wrote it.
abbrev pub rows_at : History → ℕ → List Bool
rows_at h n = rows_in (at_number h n)

abbrev pub wrote : History → ℕ → ℕ → Bool
wrote h n r = slice_index_or (rows_at h n) r false

abbrev pub committed : History → ℕ → Bool
committed h n = committed_in (at_number h n)

abbrev pub no_read : OuterRead
no_read = record { row = 0; source = 0 }

-- The row, and the source, of one of a list of outer reads, counted from 0. Only below the list's length.
abbrev pub row_of : List OuterRead → ℕ → ℕ
row_of reads i = (slice_index_or reads i no_read).row

abbrev pub source_of : List OuterRead → ℕ → ℕ
source_of reads i = (slice_index_or reads i no_read).source

-- u has the same kiosk as t, and the lower number.
pub record SessionBefore (h : History) (u t : ℕ) : Type 0 where
  pub kiosk : (k : ℕ) × (kiosk_at h u ≡ Some k) × (kiosk_at h t ≡ Some k)
  pub lower : u < t

-- u is the source of an outer read of t.
abbrev pub ReadBy : History → ℕ → ℕ → Type 0
ReadBy h u t = (i : ℕ) × (i < length (reads_at h t)) × (source_of (reads_at h t) i ≡ u)

-- u is a direct dependency of t.
abbrev pub Direct : History → ℕ → ℕ → Type 0
Direct h u t = SessionBefore h u t ⊎ ReadBy h u t

-- Some row is written by both.
abbrev pub BothWrote : History → ℕ → ℕ → Type 0
BothWrote h u t = (r : ℕ) × (r < row_count) × ((wrote h u r ≡ true) × (wrote h t r ≡ true))
