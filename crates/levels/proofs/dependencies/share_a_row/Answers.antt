use Rattle.std.proofs.Common.{ℕ, Bool, ◌&&◌, ◌∙◌, refl, rules, tests}
use Rattle.std.proofs.lemmas.Iterator.{YieldsList-from_range}
use Rattle.std.proofs.lemmas.Iterator.Search.{any_from_yields_List}
use Rattle.journal.specs.Recorded.{txn}
use Rattle.journal.specs.Transactions.{has_row}
use Rattle.levels.proofs.Below.{list_any-range}
use Rattle.levels.proofs.dependencies.share_a_row.Goals as goal

pub returns : goal.returns
returns c =
    let p : ℕ → Bool = λ n. has_row (txn c.args.a.now) n && has_row (txn c.args.b.now) n in
    any_from_yields_List p _ _ c.any.result c.any.ensures.ran (YieldsList-from_range 0 64 64 refl refl) (λ x b q k. search (rules, tests)) ∙ list_any-range p 64
