use Rattle.std.proofs.Common.{◌≡◌, ◌≤◌, take, count_by}
use Rattle.journal.proofs.number_set.NumberSet.count.Given as goal

abbrev pub invariant-loop-held : goal.invariant-loop-held
invariant-loop-held g l = (l.number ≤ l.held-index) × (l.number ≡ count_by (λ b. b) (take l.held-index l.self.held))
