use Rattle.std.proofs.Common.{rules}
use Rattle.journal.specs.Calls.{of_journal}
use Rattle.journal.specs.History.{begin}
use Rattle.journal.specs.Recorded.{recorded}
use Rattle.journal.proofs.Reaching.{reached_after}
use Rattle.journal.proofs.record.Journal.begin.Goals as goal

pub invariant_of-self : goal.invariant_of-self
invariant_of-self c = record { reached = reached_after (of_journal c.args.self.now) (recorded c.push.new.self) (begin c.args.kiosk c.args.mark) (search rules) c.args.self.now.reached }

pub returns : goal.returns
returns c = record { answers = search rules; records = search rules; keeps = tt }
