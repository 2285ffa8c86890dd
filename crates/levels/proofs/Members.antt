-- The numbers of committed transactions, and of members of closed runs, are those that a set can hold.
use Rattle.std.proofs.Common.{◌≡◌, ℕ, ◌<◌, ◌≤◌, true, List, length, arith}
use Rattle.journal.specs.Limits.{most_transactions}
use Rattle.journal.specs.History.{History, Reached}
use Rattle.journal.specs.Dependencies.{committed}
use Rattle.journal.proofs.Rooms.{room_reached}
use Rattle.levels.specs.Runs.{member, Closed}
use Rattle.levels.specs.Dependent.{committed_number}

pub number_fits : (h : History) → Reached h → (n : ℕ) → committed h n ≡ true → n ≤ most_transactions
number_fits h r n e = let a = (committed_number h n e).1 in let b = room_reached h r in omega arith

pub member_fits : (h : History) → Reached h → (run : List ℕ) → Closed h run → (j : ℕ) → j < length run → member run j ≤ most_transactions
member_fits h r run c j l = number_fits h r (member run j) (c j l).ended
