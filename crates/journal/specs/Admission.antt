-- Which transaction an event at a kiosk concerns.
use Rattle.std.specs.Prelude.{◌≡◌, ◌≢◌, ℕ, ◌+◌, Bool, true, false, drop, All, if◌then◌else◌, length, is_some, IfOk, Some, None, Ok, Err, Option, Result, nat_le}
use Rattle.std.specs.Option.{ok_or}
use Rattle.journal.specs.Limits.{kiosk_count}
use Rattle.journal.specs.Transactions.{is_open}
use Rattle.journal.specs.History.{History, HasNumber, numbered, open_number}
use Rattle.journal.specs.declared.event.Event.{Event}
use Rattle.journal.specs.declared.event.Event.TheVariants.{Begin, Read, Write, Commit, Abort}
use Rattle.journal.specs.declared.refusal.Refusal.{Refusal}
use Rattle.journal.specs.declared.refusal.Refusal.TheVariants.{NoSuchKiosk, AlreadyOpen, NothingOpen}
use Rattle.journal.specs.declared.transaction.State.{State}

abbrev pub is_begin : Event → Bool
is_begin Begin = true
is_begin Read = false
is_begin Write = false
is_begin Commit = false
is_begin Abort = false

-- A begin concerns the next number, at a kiosk that has nothing open; any other event the kiosk's open transaction.
abbrev pub admitted : History → ℕ → Event → Result ℕ Refusal
admitted h k e =
    if is_begin e
    then (if is_some (open_number h k) then Err AlreadyOpen else Ok (length h + 1))
    else ok_or (open_number h k) NothingOpen

abbrev pub acting : History → ℕ → Event → Result ℕ Refusal
acting h k e = if nat_le kiosk_count k then Err NoSuchKiosk else admitted h k e

-- What is no begin concerns a transaction that has begun.
abbrev pub Within : History → Event → Result ℕ Refusal → Type 0
Within h e r = is_begin e ≡ false → IfOk r (HasNumber h)

-- The number, with the state, is of the kiosk's latest transaction: none of the kiosk's stands after it.
pub record Latest (h : History) (k n : ℕ) (s : State) : Type 0 where
  pub has : HasNumber h n
  pub kiosk : (numbered h n).kiosk ≡ k
  pub state : (numbered h n).state ≡ s
  pub later : All (λ t. t.kiosk ≢ k) (drop n h)

-- The kiosk's latest transaction, if it has one.
abbrev pub IsLatest : History → ℕ → Option (ℕ × State) → Type 0
IsLatest h k None = All (λ t. t.kiosk ≢ k) h
IsLatest h k (Some x) = Latest h k x.0 x.1

-- Its number, where it is open.
abbrev pub open_of : Option (ℕ × State) → Option ℕ
open_of None = None
open_of (Some x) = if is_open x.1 then Some x.0 else None

-- The transaction that an event concerns, by the kiosk's latest.
abbrev pub admits : Option (ℕ × State) → Event → ℕ → Result ℕ Refusal
admits latest e next =
    if is_begin e
    then (if is_some (open_of latest) then Err AlreadyOpen else Ok next)
    else ok_or (open_of latest) NothingOpen
