use Rattle.levels.proofs.Exactness.{standing_decides}
use Rattle.levels.proofs.levels.standing.Goals as goal

pub returns-clause-exactly : goal.returns-clause-exactly
returns-clause-exactly c = standing_decides
