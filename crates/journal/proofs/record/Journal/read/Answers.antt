use Rattle.std.proofs.Common.{rules}
use Rattle.journal.specs.Calls.{of_journal}
use Rattle.journal.specs.History.{read}
use Rattle.journal.specs.Recorded.{recorded}
use Rattle.journal.proofs.Reaching.{reached_after}
use Rattle.journal.proofs.record.Journal.read.Goals as goal

pub invariant_of-self : goal.invariant_of-self
invariant_of-self c = record { reached = reached_after (of_journal c.args.self.now) (recorded c.put.new.self) (read c.args.kiosk c.args.row c.args.source) (search rules) c.args.self.now.reached }
