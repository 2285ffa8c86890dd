use Rattle.std.proofs.Common.{false, ◌&&◌, get_or, sym, ap}
use Rattle.std.proofs.lemmas.Bool.{and_right}
use Rattle.journal.specs.Calls.{of_journal}
use Rattle.journal.specs.Dependencies.{rows_in, wrote}
use Rattle.levels.proofs.Below.{some_none}
use Rattle.levels.proofs.dependencies.both_wrote.Goals as goal

pub returns-in_default : goal.returns-in_default
returns-in_default c =
    let h = of_journal c.args.journal.now in
    sym (some_none (λ r. wrote h c.args.u r && wrote h c.args.t r) 64 (λ r. and_right (wrote h c.args.u r) _ (ap (λ t. get_or (rows_in t) r false) (sym c.in_default.ensures))))
