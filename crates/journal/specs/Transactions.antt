-- A transaction as a history has it.
use Rattle.std.specs.Prelude.{ℕ, Bool, true, false, ◌&&◌, List, [], ◌∷◌, ◌++◌, replicate, count_by, ◌==◌, slice_index_or, slice_set}
use Rattle.journal.specs.Limits.{row_count}
use Rattle.journal.specs.declared.mark.Mark.{Mark}
use Rattle.journal.specs.declared.transaction.OuterRead.{OuterRead}
use Rattle.journal.specs.declared.transaction.State.{State}
use Rattle.journal.specs.declared.transaction.State.TheVariants.{Open, Committed, Aborted}

-- Its outer reads in the order in which they were made, and of each row whether it was written.
pub record Txn : Type 0 where
  pub kiosk : ℕ
  pub mark : Mark
  pub state : State
  pub reads : List OuterRead
  pub rows : List Bool

abbrev pub is_open : State → Bool
is_open Open = true
is_open Committed = false
is_open Aborted = false

abbrev pub is_committed : State → Bool
is_committed Open = false
is_committed Committed = true
is_committed Aborted = false

-- It is the kiosk's, and open.
abbrev pub open_at : Txn → ℕ → Bool
open_at t k = is_open t.state && t.kiosk == k

-- It has written the row.
abbrev pub has_row : Txn → ℕ → Bool
has_row t r = slice_index_or t.rows r false

-- A value of the row can come from it: it is committed, and has written the row.
abbrev pub serves : Txn → ℕ → Bool
serves t r = is_committed t.state && has_row t r

-- How many rows are written.
abbrev pub counted : List Bool → ℕ
counted rows = count_by (λ b. b) rows

-- An open transaction that has read and written nothing.
abbrev pub begun : ℕ → Mark → Txn
begun k m = record { kiosk = k; mark = m; state = Open; reads = []; rows = replicate row_count false }

-- The same in another state, with one more outer read, with the row among its rows.
abbrev pub with_state : State → Txn → Txn
with_state s t = record { kiosk = t.kiosk; mark = t.mark; state = s; reads = t.reads; rows = t.rows }

abbrev pub with_read : ℕ → ℕ → Txn → Txn
with_read r s t = record { kiosk = t.kiosk; mark = t.mark; state = t.state; reads = t.reads ++ (record { row = r; source = s } ∷ []); rows = t.rows }

abbrev pub with_row : ℕ → Txn → Txn
with_row r t = record { kiosk = t.kiosk; mark = t.mark; state = t.state; reads = t.reads; rows = slice_set t.rows r true }
