use Rattle.std.proofs.Common.{◌∙◌, rules, tests}
use Rattle.std.proofs.lemmas.Iterator.{YieldsList-from_slice}
use Rattle.std.proofs.lemmas.Iterator.Search.{all_from_yields_List}
use Rattle.journal.specs.Dependencies.{no_read}
use Rattle.journal.specs.NumberSet.{has}
use Rattle.levels.specs.Tests.{source_seen}
use Rattle.levels.proofs.Below.{list_all_below}
use Rattle.levels.proofs.closed.sources_seen.Goals as goal

pub returns : goal.returns
returns c =
    let reads = c.args.reads.now in
    all_from_yields_List (λ read. source_seen (has c.args.seen.now) read.source) _ _ c.all.result c.all.ensures.ran (YieldsList-from_slice reads (cc)) (λ x b q k. search (rules, tests))
    ∙ list_all_below (λ read. source_seen (has c.args.seen.now) read.source) reads no_read
