use Rattle.std.proofs.Common.{◌≡◌, length}
use Rattle.journal.proofs.Joins.{Joined}
use Rattle.journal.proofs.number_set.NumberSet.add.Given as goal

abbrev pub invariant-loop-number : goal.invariant-loop-number
invariant-loop-number g l = (length l.self.held ≡ g.row.N) × Joined l.fn.self.held l.held-items l.number l.self.held
