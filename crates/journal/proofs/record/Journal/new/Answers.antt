use Rattle.journal.specs.Recorded.{recorded}
use Rattle.journal.proofs.Conditions.{rules}
use Rattle.journal.proofs.Endings.{ended_stays}
use Rattle.journal.proofs.OwnRows.{own_rows_stay}
use Rattle.journal.proofs.Reaching.{reached_none}
use Rattle.journal.proofs.record.Journal.new.Goals as goal

pub invariant_of-result : goal.invariant_of-result
invariant_of-result c = record { reached = reached_none (recorded c.empty.result) c.empty.ensures }

pub returns : goal.returns
returns c = record { empty = c.empty.ensures; rules = rules; own = own_rows_stay; stays = ended_stays }
