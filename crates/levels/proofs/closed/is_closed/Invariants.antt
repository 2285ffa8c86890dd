use Rattle.std.proofs.Common.{◌≡◌, ℕ, true}
use Rattle.journal.specs.Calls.{of_journal}
use Rattle.journal.specs.NumberSet.{has}
use Rattle.levels.specs.Tests.{all_below, rests, earlier}
use Rattle.levels.proofs.closed.is_closed.Given as goal

-- Each member so far rests on those before it, and the set holds them.
abbrev pub invariant-loop-number : goal.invariant-loop-number
invariant-loop-number l = (all_below (rests (of_journal l.journal) l.run) l.number-index ≡ true) × ((n : ℕ) → has l.seen n ≡ earlier l.run n l.number-index)
