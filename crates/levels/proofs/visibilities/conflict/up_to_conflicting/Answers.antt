use Rattle.std.proofs.Common.{[], ◌∷◌, ◌++◌, ◌-◌, take, length, sym, refl, ap, ◌∙◌}
use Rattle.journal.specs.Calls.{of_journal}
use Rattle.journal.specs.NumberSet.{has}
use Rattle.levels.specs.Runs.{member, last}
use Rattle.levels.specs.Tests.{both_wrote, earlier as stands_before}
use Rattle.levels.specs.Closedness.{earlier_decides}
use Rattle.levels.specs.Rule.{conflict}
use Rattle.levels.proofs.Asking.{shows_run}
use Rattle.levels.proofs.Marks.{last_push, marked_shows}
use Rattle.levels.proofs.Sets.{and_yes}
use Rattle.levels.proofs.visibilities.conflict.up_to_conflicting.Goals as goal

pub returns : goal.returns
returns c =
    let h = of_journal c.args.journal.now in
    let run = c.args.run.now in
    let earlier = take (length run - 1) run in
    let t = last run in
    shows_run conflict h run c.up_to_marked.result c.in-len1-up.len_at_least (λ d j l _.
    marked_shows h c.args.journal.now.reached earlier t d (has c.up_to_marked.result) (has c.conflicting.result) (λ v. both_wrote h v (last (earlier ++ t ∷ []))) c.up_to_marked.ensures
    (λ k lk fits. c.conflicting.ensures (member earlier k) fits ∙ and_yes (both_wrote h (member earlier k) t) (stands_before earlier (member earlier k) (length earlier)) ((earlier_decides earlier (member earlier k) (length earlier)).1 (k, lk, refl)) ∙ ap (both_wrote h (member earlier k)) (sym (last_push earlier t))) j l)
