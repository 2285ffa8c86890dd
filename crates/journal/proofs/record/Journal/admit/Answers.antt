use Rattle.std.proofs.Common.{◌∙◌}
use Rattle.journal.specs.Calls.{of_journal}
use Rattle.journal.proofs.Latest.{admits-admitted}
use Rattle.journal.proofs.Soundness.{sound_reached}
use Rattle.journal.proofs.record.Journal.admit.Goals as goal

pub returns : goal.returns
returns c =
    let h = of_journal c.args.self.now in
    c.admit.ensures ∙ admits-admitted h c.args.kiosk c.args.event c.latest_of.result c.len.result (sound_reached h c.args.self.now.reached) c.latest_of.ensures c.len.ensures.count
