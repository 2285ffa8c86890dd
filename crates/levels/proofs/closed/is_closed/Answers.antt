use Rattle.std.proofs.Common.{◌≡◌, ◌≤◌, true, ◌||◌, eqb, sym, ap, ◌∙◌, inl, inr, add-one, arith}
use mathlib.Core.Path.{fun_ext}
use Rattle.std.proofs.lemmas.Bool.{and_parts, cases_lt, ne_eqb}
use Rattle.journal.specs.Calls.{of_journal}
use Rattle.journal.specs.Dependencies.{committed}
use Rattle.journal.specs.Limits.{most_transactions}
use Rattle.journal.specs.NumberSet.{has}
use Rattle.levels.specs.Runs.{member}
use Rattle.levels.specs.Tests.{rests, rests_on, earlier}
use Rattle.levels.proofs.Below.{all_fails, all_more}
use Rattle.levels.proofs.Members.{number_fits}
use Rattle.levels.proofs.closed.is_closed.Goals as goal

pub returns-then-not-rests_on : goal.returns-then-not-rests_on
returns-then-not-rests_on c =
    let h = of_journal c.args.journal.now in
    let run = c.args.run.now in
    let i = c.loop-number.number-index in
    let seen : has c.loop-number.seen ≡ (λ n. earlier run n i) = fun_ext c.loop-number.invariant.1 in
    sym (all_fails (rests h run) _ i c.loop-number-test.true (ap (λ f. rests_on h f (member run i)) (sym seen) ∙ sym c.if-not-rests_on.ensures))

pub loop-number-preserved : goal.loop-number-preserved
loop-number-preserved c =
    let h = of_journal c.args.journal.now in
    let run = c.args.run.now in
    let i = c.loop-number.number-index in
    let t = member run i in
    let seen : has c.loop-number.seen ≡ (λ n. earlier run n i) = fun_ext c.loop-number.invariant.1 in
    let yes : rests_on h (has c.loop-number.seen) t ≡ true = sym c.if-not-rests_on.ensures in
    let fits : t ≤ most_transactions = number_fits h c.args.journal.now.reached t (and_parts (committed h t) _ yes).0 in (
      all_more (rests h run) i (ap (λ f. rests_on h f t) (sym seen) ∙ yes) c.loop-number.invariant.0,
      λ n. elim (cases_lt n 33) [
        | inl l ↦ c.insert.ensures.each n (omega arith) ∙ ap (λ b. eqb t n || b) (c.loop-number.invariant.1 n) ∙ sym (ap (earlier run n) (add-one i))
        | inr g ↦ c.insert.ensures.others n (λ z. absurd (omega arith)) ∙ c.loop-number.invariant.1 n ∙ sym (ap (earlier run n) (add-one i) ∙ ap (λ b. b || earlier run n i) (ne_eqb t n (λ z. absurd (omega arith))))
      ],
    )
