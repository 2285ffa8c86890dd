use Rattle.std.proofs.Common.{◌≡◌, ℕ, ◌+◌, ◌-◌, Bool, not, ◌&&◌, eqb, length, take, drop, refl, ap, ◌∙◌, rules, tests, arith, length-drop}
use Rattle.std.proofs.lemmas.List.{length-take, get_or-take, get_or-drop}
use Rattle.std.proofs.lemmas.Iterator.{YieldsList-from_slice}
use Rattle.std.proofs.lemmas.Iterator.Search.{all_from_yields_List}
use Rattle.journal.specs.Calls.{of_journal}
use Rattle.journal.specs.Dependencies.{wrote}
use Rattle.journal.specs.NumberSet.{has}
use Rattle.levels.specs.Runs.{member}
use Rattle.levels.proofs.Below.{list_all_below}
use Rattle.levels.proofs.Places.{kept_after}
use Rattle.levels.proofs.rule.is_kept.Goals as goal

pub returns : goal.returns
returns c =
    let must : ℕ → Bool = λ u. wrote (of_journal c.args.journal.now) u c.args.read.row && (has c.args.seen.now u && not (eqb u c.args.read.source)) in
    let run = c.args.run.now in
    let place = c.place_of.result in
    let after = c.iter.result.rest.now in
    let e = c.iter.ensures.rest in
    let earlier = take (length run - 1) run in
    let within = c.place_of.ensures.within in
    let long : place + length after ≡ length run - 1 = omega (arith, ap length e, length-take {A = ℕ}, length-drop {A = ℕ}) in
    all_from_yields_List (λ u. not (must u)) _ _ c.all.result c.all.ensures.ran (YieldsList-from_slice after refl) (λ x b q k. search (rules, tests))
    ∙ list_all_below (λ u. not (must u)) after 0
    ∙ kept_after (λ j. must (member run j)) _ (λ k. must (member after k)) (length run - 1) place (length after) long
    (λ k l. ap must (ap (λ xs. member xs k) e ∙ get_or-take (length earlier - place) (drop place earlier) k 0 (omega (arith, length-take {A = ℕ})) ∙ get_or-drop place earlier k 0 ∙ get_or-take (length run - 1) run (place + k) 0 (omega arith))) c.place_of.ensures.before
