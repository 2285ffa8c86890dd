-- What a call does to a journal.
use Rattle.std.specs.Prelude.{◌≡◌, ℕ, Ok, Err, Result}
use Rattle.journal.specs.History.{History, Call, Step, step, answered, next}
use Rattle.journal.specs.Recorded.{recorded}
use Rattle.journal.specs.declared.record.Journal.{Journal}
use Rattle.journal.specs.declared.refusal.Refusal.{Refusal}

-- What the journal has recorded.
abbrev pub of_journal : Journal → History
of_journal j = recorded j.table

-- Where the answer is a refusal, the journal is the one that came in.
abbrev pub Kept : Result ℕ Refusal → Journal → Journal → Type 0
Kept (Ok _) j j' = Unit {0}
Kept (Err _) j j' = j' ≡ j

-- The step was made on the journal j: r is its answer, and j' records what it makes of the history.
pub record ComesTo (s : Step) (j : Journal) (r : Result ℕ Refusal) (j' : Journal) : Type 0 where
  pub answers : r ≡ answered s
  pub records : of_journal j' ≡ next (of_journal j) s
  pub keeps : Kept r j j'

-- The call was made of the journal j, answered r and left j'.
abbrev pub Done : Call → Journal → Result ℕ Refusal → Journal → Type 0
Done c j r j' = ComesTo (step (of_journal j) c) j r j'
