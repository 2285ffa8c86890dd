use Rattle.std.proofs.Common.{rules}
use Rattle.journal.specs.Calls.{of_journal}
use Rattle.journal.specs.Recorded.{recorded}
use Rattle.journal.proofs.Reaching.{reached_end}
use Rattle.journal.proofs.record.Journal.end.Goals as goal

pub invariant_of-self : goal.invariant_of-self
invariant_of-self c = record { reached = reached_end (of_journal c.args.self.now) (recorded c.put.new.self) c.args.kiosk c.args.state c.requires.ended (search rules) c.args.self.now.reached }
