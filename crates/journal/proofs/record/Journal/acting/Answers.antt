use Rattle.std.proofs.Common.{sym, subst}
use Rattle.journal.specs.Admission.{Within}
use Rattle.journal.specs.Calls.{of_journal}
use Rattle.journal.proofs.Latest.{admitted_within}
use Rattle.journal.proofs.record.Journal.acting.Goals as goal

pub returns-clause-within : goal.returns-clause-within
returns-clause-within c =
    let h = of_journal c.args.self.now in
    subst (Within h c.args.event) (sym c.admit.ensures) (admitted_within h c.args.kiosk c.args.event)
