use Rattle.std.proofs.Common.{[], ◌∷◌, ◌++◌, ◌-◌, take, length, sym, ap, ◌∙◌}
use Rattle.journal.specs.Calls.{of_journal}
use Rattle.journal.specs.NumberSet.{has}
use Rattle.levels.specs.Runs.{member, last}
use Rattle.levels.specs.Tests.{direct}
use Rattle.levels.specs.Rule.{prefix}
use Rattle.levels.proofs.Asking.{shows_run}
use Rattle.levels.proofs.Marks.{last_push, marked_shows}
use Rattle.levels.proofs.visibilities.prefix.up_to_direct.Goals as goal

pub returns : goal.returns
returns c =
    let h = of_journal c.args.journal.now in
    let run = c.args.run.now in
    let earlier = take (length run - 1) run in
    let t = last run in
    shows_run prefix h run c.up_to_marked.result c.in-len1-up.len_at_least (λ d j l _.
    marked_shows h c.args.journal.now.reached earlier t d (has c.up_to_marked.result) (has c.direct.result) (λ v. direct h v (last (earlier ++ t ∷ []))) c.up_to_marked.ensures
    (λ k lk fits. c.direct.ensures (member earlier k) fits ∙ ap (direct h (member earlier k)) (sym (last_push earlier t))) j l)
