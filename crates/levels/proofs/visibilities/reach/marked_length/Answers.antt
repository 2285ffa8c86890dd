use Rattle.std.proofs.Common.{◌≡◌, ◌+◌, ◌∙◌, ap, ltb, length, sym, rules}
use Rattle.std.specs.Option.{option_map_or}
use Rattle.journal.specs.NumberSet.{has}
use Rattle.levels.specs.Runs.{member}
use Rattle.levels.proofs.Places.{IsLastPlace, passes_from}
use Rattle.levels.proofs.visibilities.reach.marked_length.Goals as goal

pub returns-clause-reach : goal.returns-clause-reach
returns-clause-reach c j =
    let members = c.args.members.now in
    let found : IsLastPlace (λ k. has c.args.marked.now (member members k)) (length members) c.rposition.result =
    record { none = λ e k l. search rules; within = λ i e. search rules; passes = λ i e. search rules; last = λ i k e g l. search rules } in
    let reach : c.map_or.result ≡ option_map_or (λ k. k + 1) c.rposition.result 0 = search rules in
    passes_from _ _ c.rposition.result found j ∙ ap (ltb j) (sym reach)
