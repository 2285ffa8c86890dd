use Rattle.std.proofs.Common.{◌≡◌, ℕ, ◌≤◌, ◌&&◌, ltb, Some}
use Rattle.journal.specs.Calls.{of_journal}
use Rattle.journal.specs.Dependencies.{kiosk_at}
use Rattle.journal.specs.Limits.{most_transactions}
use Rattle.journal.specs.Recorded.{txn}
use Rattle.journal.specs.NumberSet.{has}
use Rattle.levels.specs.Tests.{same_kiosk}
use Rattle.levels.proofs.dependencies.sessions_before.Given as goal

abbrev pub invariant-loop-u : goal.invariant-loop-u
invariant-loop-u l = (n : ℕ) → n ≤ most_transactions → has l.found n ≡ (same_kiosk (kiosk_at (of_journal l.journal) n) (Some (txn l.t).kiosk) && ltb n l.u)
