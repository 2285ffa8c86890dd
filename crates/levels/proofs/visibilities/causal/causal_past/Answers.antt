use Rattle.std.proofs.Common.{◌≡◌, ℕ, ◌||◌, ◌-◌, List, [], ◌∷◌, ◌++◌, length, take, sym, ap, ◌∙◌, subst}
use mathlib.Core.Bool.{or-false, or_comm}
use mathlib.Core.List.{append-nil}
use Rattle.journal.specs.Calls.{of_journal}
use Rattle.levels.specs.Rule.{causal, linked, past}
use Rattle.levels.specs.Runs.{member, last, Closed}
use Rattle.levels.specs.Tests.{direct}
use Rattle.levels.proofs.Asking.{front_last, shows_run}
use Rattle.levels.proofs.Backward.{all_gone, turned, passed_fits, pass_adds, pass_skips}
use Rattle.levels.proofs.visibilities.causal.causal_past.Goals as goal

pub loop-member-init : goal.loop-member-init
loop-member-init c =
    let run = c.args.run.now in
    let earlier = take (length run - 1) run in
    let t = last run in
    let all : c.into_iter-member-iterator.result.iter.rest.now ≡ earlier = cc in
    ([], append-nil _ ∙ all, λ d n l. c.direct-found.ensures n l ∙ sym (or-false (direct (of_journal c.args.journal.now) n t)))

pub loop-member-preserved-then-holds : goal.loop-member-preserved-then-holds
loop-member-preserved-then-holds c =
    let h = of_journal c.args.journal.now in
    let run = c.args.run.now in
    let earlier = take (length run - 1) run in
    let t = last run in
    let x = c.in-Some.field-0.now in
    let gone = c.loop-member.invariant.0 in
    let held = c.loop-member.invariant.2 in
    let e = turned _ c.next.new.self.iter.rest.now gone earlier x c.in-Some.ensures.steps c.loop-member.invariant.1 in (
      x ∷ gone,
      e,
      λ d n l.
          let fits = passed_fits h c.args.journal.now.reached _ gone earlier x t e d in
          c.add.ensures n
          ∙ (λ i. held d n l i || c.direct.ensures n l i)
          ∙ or_comm (linked h n (past h (gone ++ t ∷ []))) (direct h n x)
          ∙ sym (pass_adds h x gone t n (sym (held d x fits) ∙ sym c.if-holds.ensures.value)),
    )

pub loop-member-preserved : goal.loop-member-preserved
loop-member-preserved c =
    let h = of_journal c.args.journal.now in
    let run = c.args.run.now in
    let earlier = take (length run - 1) run in
    let t = last run in
    let x = c.in-Some.field-0.now in
    let gone = c.loop-member.invariant.0 in
    let held = c.loop-member.invariant.2 in
    let e = turned _ c.next.new.self.iter.rest.now gone earlier x c.in-Some.ensures.steps c.loop-member.invariant.1 in (
      x ∷ gone,
      e,
      λ d n l.
          let fits = passed_fits h c.args.journal.now.reached _ gone earlier x t e d in
          held d n l ∙ sym (pass_skips h x gone t n (sym (held d x fits) ∙ sym c.if-holds.ensures.value)),
    )

pub returns : goal.returns
returns c =
    let h = of_journal c.args.journal.now in
    let run = c.args.run.now in
    let earlier = take (length run - 1) run in
    let t = last run in
    let gone = c.loop-member.invariant.0 in
    let same = front_last run c.in-len1-up.len_at_least in
    let all : gone ≡ earlier = all_gone _ gone earlier c.in-None.ensures.steps.0 c.loop-member.invariant.1 in
    record {
      linked = λ d n l.
          c.loop-member.invariant.2 (subst (λ (xs : List ℕ). Closed h xs) (sym same) d) n l
          ∙ ap (λ xs. linked h n (past h (xs ++ t ∷ []))) all
          ∙ ap (λ xs. linked h n (past h xs)) same;
      shows = shows_run causal h run c.loop-member.found c.in-len1-up.len_at_least (λ d j l fits.
          c.loop-member.invariant.2 d (member (earlier ++ t ∷ []) j) fits
          ∙ ap (λ xs. linked h (member (earlier ++ t ∷ []) j) (past h (xs ++ t ∷ []))) all);
    }
