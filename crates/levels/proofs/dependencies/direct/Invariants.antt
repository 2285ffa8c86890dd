use Rattle.std.proofs.Common.{◌||◌, eqb}
use Rattle.journal.specs.Dependencies.{source_of}
use Rattle.journal.specs.NumberSet.{has}
use Rattle.levels.specs.Numbers.{HoldsExactly}
use Rattle.levels.specs.Tests.{some_below}
use Rattle.levels.proofs.dependencies.direct.Given as goal

abbrev pub invariant-loop-read : goal.invariant-loop-read
invariant-loop-read l = HoldsExactly l.found (λ n. has l.initial.found n || some_below (λ i. eqb (source_of l.read-items i) n) l.read-index)
