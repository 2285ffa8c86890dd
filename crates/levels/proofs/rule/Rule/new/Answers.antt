use Rattle.levels.specs.Laws.{rule_decides}
use Rattle.levels.proofs.rule.Rule.new.Goals as goal

pub returns-clause-exactly : goal.returns-clause-exactly
returns-clause-exactly g c = rule_decides _ _ (g.met.V.Visibility.tells c.args.visibility)
