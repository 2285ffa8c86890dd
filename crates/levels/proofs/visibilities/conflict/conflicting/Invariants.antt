use Rattle.std.proofs.Common.{◌&&◌}
use Rattle.journal.specs.Calls.{of_journal}
use Rattle.levels.specs.Numbers.{HoldsExactly}
use Rattle.levels.specs.Tests.{both_wrote, earlier}
use Rattle.levels.proofs.visibilities.conflict.conflicting.Given as goal

abbrev pub invariant-loop-member : goal.invariant-loop-member
invariant-loop-member l = HoldsExactly l.found (λ n. both_wrote (of_journal l.journal) n l.last && earlier l.earlier n l.member-index)
