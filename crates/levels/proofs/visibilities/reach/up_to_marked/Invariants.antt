use Rattle.levels.specs.Numbers.{HoldsExactly}
use Rattle.levels.specs.Tests.{earlier}
use Rattle.levels.proofs.visibilities.reach.up_to_marked.Given as goal

abbrev pub invariant-loop-member : goal.invariant-loop-member
invariant-loop-member l = HoldsExactly l.found (λ n. earlier l.member-items n l.member-index)
