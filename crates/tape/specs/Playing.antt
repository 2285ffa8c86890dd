-- What playing one record does.
use Rattle.std.specs.Prelude.{◌≡◌, ℕ, ◌+◌, ◌<◌, ◌≤◌, if◌then◌else◌, List, [], length, Some, None, Ok, Err, Option, Result, nat_lt}
use Rattle.journal.specs.declared.record.Journal.{Journal}
use Rattle.journal.specs.declared.refusal.Refusal.{Refusal}
use Rattle.journal.specs.declared.refusal.Refusal.TheVariants.{ShortLine, NoSuchPlace}
use Rattle.journal.specs.Calls.{Kept, of_journal}
use Rattle.journal.specs.History.{History, answer, after}
use Rattle.tape.specs.Limits.{line_room, longest_tape}
use Rattle.tape.specs.Lines.{answer_line, fault_line, written}
use Rattle.tape.specs.Records.{Found, call_of, letter_of, found_at}

-- The line that it calls for, on the history before it; none at the tape's end.
abbrev pub line_of : History → Found → List ℕ
line_of h (Ok None) = []
line_of h (Ok (Some r)) = answer_line (letter_of r.request) (answer h (call_of r.request))
line_of h (Err f) = fault_line f

abbrev pub history_after : History → Found → History
history_after h (Ok None) = h
history_after h (Ok (Some r)) = after h (call_of r.request)
history_after h (Err f) = h

-- The place of the next record.
abbrev pub next_place : List ℕ → ℕ → Found → ℕ
next_place tape place (Ok None) = place
next_place tape place (Ok (Some r)) = place + r.size
next_place tape place (Err f) = length tape

-- The next place and the line's length, or nothing at the tape's end.
abbrev pub reply : History → List ℕ → ℕ → Found → Option (ℕ × ℕ)
reply h tape place (Ok None) = None
reply h tape place (Ok (Some r)) = Some (next_place tape place (Ok (Some r)), length (line_of h (Ok (Some r))))
reply h tape place (Err f) = Some (next_place tape place (Err f), length (line_of h (Err f)))

-- The journal is the one that came in, but where a record's call was accepted.
abbrev pub LeftAlone : Found → Journal → Journal → Type 0
LeftAlone (Ok None) j j' = j' ≡ j
LeftAlone (Ok (Some r)) j j' = Kept (answer (of_journal j) (call_of r.request)) j j'
LeftAlone (Err f) j j' = j' ≡ j

-- What stands at the place was played: the answer r, and what the journal and the line buffer then are.
pub record Turned (tape : List ℕ) (place : ℕ) (found : Found) (j : Journal) (line : List ℕ) (r : Option (ℕ × ℕ)) (j' : Journal) (line' : List ℕ) : Type 0 where
  pub answers : r ≡ reply (of_journal j) tape place found
  pub writes : line' ≡ written line 0 (line_of (of_journal j) found)
  pub records : of_journal j' ≡ history_after (of_journal j) found
  pub keeps : LeftAlone found j j'

-- Why playing is refused, if it is.
abbrev pub refusal_due : ℕ → List ℕ → ℕ → Option Refusal
refusal_due room tape place =
    if nat_lt room line_room then Some ShortLine
    else (if nat_lt longest_tape (length tape) then Some NoSuchPlace
    else (if nat_lt (length tape) place then Some NoSuchPlace else None))

-- What playing gives: a refusal where one is due, and then all is as it was; else what stands at the place was played.
abbrev pub Played : List ℕ → ℕ → Journal → List ℕ → Result (Option (ℕ × ℕ)) Refusal → Journal → List ℕ → Type 0
Played tape place j line (Err e) j' line' = (refusal_due (length line) tape place ≡ Some e) × (j' ≡ j) × (line' ≡ line)
Played tape place j line (Ok r) j' line' = (refusal_due (length line) tape place ≡ None) × Turned tape place (found_at tape place) j line r j' line'

-- Playing goes forward on the tape, and stops at its end alone.
abbrev pub Forward : List ℕ → ℕ → Option (ℕ × ℕ) → Type 0
Forward tape place None = place ≡ length tape
Forward tape place (Some x) = (place < x.0) × (x.0 ≤ length tape) × (x.1 ≤ line_room)

abbrev pub Onward : List ℕ → ℕ → Result (Option (ℕ × ℕ)) Refusal → Type 0
Onward tape place (Ok r) = Forward tape place r
Onward tape place (Err e) = Unit {0}
