use Rattle.levels.proofs.Exactness.{snapshot_decides}
use Rattle.levels.proofs.levels.snapshot.Goals as goal

pub returns-clause-exactly : goal.returns-clause-exactly
returns-clause-exactly c = snapshot_decides
