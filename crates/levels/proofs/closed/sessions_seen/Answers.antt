use Rattle.std.proofs.Common.{◌∙◌, Some, rules, tests, refl, arith}
use Rattle.std.proofs.lemmas.Iterator.{YieldsList-from_range}
use Rattle.std.proofs.lemmas.Iterator.Search.{all_from_yields_List}
use Rattle.journal.specs.Calls.{of_journal}
use Rattle.journal.specs.NumberSet.{has}
use Rattle.levels.specs.Tests.{session_seen}
use Rattle.levels.proofs.Below.{list_all-range}
use Rattle.levels.proofs.closed.sessions_seen.Goals as goal

pub returns : goal.returns
returns c =
    let p = session_seen (of_journal c.args.journal.now) (has c.args.seen.now) (Some c.args.kiosk) in
    all_from_yields_List p _ _ c.all.result c.all.ensures.ran (YieldsList-from_range 0 c.args.below c.args.below refl (omega arith)) (λ x b q k. search (rules, tests)) ∙ list_all-range p c.args.below
