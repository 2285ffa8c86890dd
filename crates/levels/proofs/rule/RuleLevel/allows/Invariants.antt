use Rattle.std.proofs.Common.{◌≡◌, true}
use Rattle.journal.specs.Calls.{of_journal}
use Rattle.levels.specs.Rule.{read_kept}
use Rattle.levels.specs.Tests.{all_below}
use Rattle.levels.specs.Visibility.{Shows}
use Rattle.levels.proofs.rule.RuleLevel.allows.Given as goal

-- The reads so far are kept, and the set is what the next one sees.
abbrev pub invariant-loop-read : goal.invariant-loop-read
invariant-loop-read g l = (all_below (read_kept (g.V.Visibility.visible l.self.visibility) (of_journal l.journal) l.run) l.read-index ≡ true) × Shows (g.V.Visibility.visible l.self.visibility) (of_journal l.journal) l.run l.read-index l.seen
