-- The history: what a journal is, worked out from the arguments of the calls alone.
use Rattle.std.specs.Prelude.{◌≡◌, ℕ, ◌+◌, ◌-◌, ◌<◌, ◌≤◌, Bool, false, if◌then◌else◌, not, ◌&&◌, ◌||◌, List, [], ◌∷◌, ◌++◌, length, is_some, Some, None, Ok, Err, Option, Result, ◌==◌, nat_le, slice_index_or, slice_set}
use Rattle.std.specs.Option.{ok_or}
use Rattle.journal.specs.Limits.{kiosk_count, row_count, most_transactions, most_reads}
use Rattle.journal.specs.Marks.{mark_of}
use Rattle.journal.specs.Transactions.{Txn, open_at, has_row, serves, counted, begun, with_state, with_read, with_row}
use Rattle.journal.specs.declared.mark.Mark.TheVariants.{ReadCommitted}
use Rattle.journal.specs.declared.refusal.Refusal.{Refusal}
use Rattle.journal.specs.declared.refusal.Refusal.TheVariants.{NoSuchKiosk, NoSuchMark, AlreadyOpen, JournalFull, NothingOpen, NoSuchRow, NotOwnNumber, NoSuchSource, TooManyReads}
use Rattle.journal.specs.declared.transaction.State.{State}
use Rattle.journal.specs.declared.transaction.State.TheVariants.{Committed, Aborted}

-- Transaction n is the n-th of the list, counted from 1. Number 0, the opening state, is not listed.
abbrev pub History : Type 0
History = List Txn

-- What can be asked of a journal. Any numbers can be given.
pub data Call : Type 0 where
  begin : (kiosk mark : ℕ) → Call
  read : (kiosk row source : ℕ) → Call
  write : (kiosk row : ℕ) → Call
  commit : (kiosk : ℕ) → Call
  abort : (kiosk : ℕ) → Call

-- A transaction of the history has the number.
abbrev pub HasNumber : History → ℕ → Type 0
HasNumber h n = (0 < n) × (n ≤ length h)

abbrev pub nobody : Txn
nobody = record { kiosk = kiosk_count; mark = ReadCommitted; state = Aborted; reads = []; rows = [] }

-- The transaction that has the number. Only for a number that a transaction has: of any other this says nothing.
abbrev pub numbered : History → ℕ → Txn
numbered h n = slice_index_or h (n - 1) nobody

-- The transaction that has the number, if one has.
abbrev pub at_number : History → ℕ → Option Txn
at_number h n = if nat_le 1 n && nat_le n (length h) then Some (numbered h n) else None

-- The number of the kiosk's open transaction, if it has one; n is the number before the list's first.
abbrev pub open_from : ℕ → History → ℕ → Option ℕ
open_from n [] k = None
open_from n (t ∷ h) k = if open_at t k then Some (n + 1) else open_from (n + 1) h k

abbrev pub open_number : History → ℕ → Option ℕ
open_number h k = open_from 0 h k

abbrev pub found_serves : Option Txn → ℕ → Bool
found_serves None r = false
found_serves (Some t) r = serves t r

-- A value of the row can come from there: the opening state, or a committed transaction that wrote the row.
abbrev pub can_serve : History → ℕ → ℕ → Bool
can_serve h r s = s == 0 || found_serves (at_number h s) r

-- Another transaction in the place of the one with the number.
abbrev pub changed : History → ℕ → Txn → History
changed h n t = slice_set h (n - 1) t

-- What a call comes to: its answer with the history after it, or the refusal that is due.
abbrev pub Step : Type 0
Step = Result (ℕ × History) Refusal

-- The refusal, where it is due; else the rest.
abbrev pub refuse_if : {A : Type 0} → Bool → Refusal → Result A Refusal → Result A Refusal
refuse_if bad why rest = if bad then Err why else rest

abbrev pub and_then : {A : Type 0} → Result A Refusal → (A → Step) → Step
and_then (Ok x) f = f x
and_then (Err e) f = Err e

abbrev pub begin_at : History → ℕ → ℕ → Step
begin_at h k m =
    refuse_if (nat_le kiosk_count k) NoSuchKiosk
    (and_then (ok_or (mark_of m) NoSuchMark) (λ mark.
    refuse_if (is_some (open_number h k)) AlreadyOpen
    (refuse_if (nat_le most_transactions (length h)) JournalFull
    (Ok (length h + 1, h ++ (begun k mark ∷ []))))))

-- The kiosk's open transaction, by its number, does what f says.
abbrev pub by_open : History → ℕ → (ℕ → Step) → Step
by_open h k f = refuse_if (nat_le kiosk_count k) NoSuchKiosk (and_then (ok_or (open_number h k) NothingOpen) f)

-- Transaction n, which is t, after it has read a row: a row of its own is tested, and another is recorded while it has fewer than `most`.
abbrev pub reader_after : ℕ → History → ℕ → Txn → ℕ → ℕ → Result Txn Refusal
reader_after most h n t r s =
    if has_row t r
    then refuse_if (not (s == n)) NotOwnNumber (Ok t)
    else refuse_if (not (can_serve h r s)) NoSuchSource
    (refuse_if (nat_le most (length t.reads)) TooManyReads
    (Ok (with_read r s t)))

abbrev pub read_at : ℕ → History → ℕ → ℕ → ℕ → Step
read_at most h k r s =
    by_open h k (λ n. refuse_if (nat_le row_count r) NoSuchRow
    (and_then (reader_after most h n (numbered h n) r s) (λ t. Ok (length t.reads, changed h n t))))

abbrev pub write_at : History → ℕ → ℕ → Step
write_at h k r =
    by_open h k (λ n. refuse_if (nat_le row_count r) NoSuchRow
    (Ok (counted (with_row r (numbered h n)).rows, changed h n (with_row r (numbered h n)))))

abbrev pub end_at : History → ℕ → State → Step
end_at h k s = by_open h k (λ n. Ok (n, changed h n (with_state s (numbered h n))))

-- What a call comes to where a transaction may have `most` outer reads.
abbrev pub step_within : ℕ → History → Call → Step
step_within most h (begin k m) = begin_at h k m
step_within most h (read k r s) = read_at most h k r s
step_within most h (write k r) = write_at h k r
step_within most h (commit k) = end_at h k Committed
step_within most h (abort k) = end_at h k Aborted

abbrev pub step : History → Call → Step
step h c = step_within most_reads h c

abbrev pub answered : Step → Result ℕ Refusal
answered (Ok x) = Ok x.0
answered (Err e) = Err e

abbrev pub next : History → Step → History
next h (Ok x) = x.1
next h (Err e) = h

-- What a call answers on a history, and the history after it.
abbrev pub answer : History → Call → Result ℕ Refusal
answer h c = answered (step h c)

abbrev pub after : History → Call → History
after h c = next h (step h c)

abbrev pub history_from : History → List Call → History
history_from h [] = h
history_from h (c ∷ cs) = history_from (after h c) cs

-- The history that a list of calls makes.
abbrev pub history : List Call → History
history cs = history_from [] cs

-- Some list of calls makes the history.
abbrev pub Reached : History → Type 0
Reached h = ∥ ((cs : List Call) × (history cs ≡ h)) ∥₁
