use Rattle.std.proofs.Common.{◌∙◌, ap, eqb, ltb, length, sym, rules}
use Rattle.levels.specs.Runs.{member}
use Rattle.levels.proofs.Places.{IsLastPlace, passes_after}
use Rattle.levels.proofs.rule.place_of.Goals as goal

pub returns-clause-before : goal.returns-clause-before
returns-clause-before c j =
    let run = c.args.run.now in
    let found : IsLastPlace (λ k. eqb (member run k) c.args.source) (length run) c.rposition.result =
    record { none = λ e k l. search rules; within = λ i e. search rules; passes = λ i e. search rules; last = λ i k e g l. search rules } in
    passes_after _ _ c.rposition.result found j ∙ ap (ltb j) (sym c.unwrap_or.ensures)
