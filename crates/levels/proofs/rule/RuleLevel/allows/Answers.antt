use Rattle.std.proofs.Common.{◌≡◌, ℕ, true, length, get_or, sym, refl, ap, ◌∙◌, subst, add-one, arith}
use Rattle.journal.specs.Calls.{of_journal}
use Rattle.journal.specs.Dependencies.{no_read, reads_at, reads_in}
use Rattle.levels.specs.Rule.{read_kept}
use Rattle.levels.specs.Runs.{last}
use Rattle.levels.specs.Tests.{all_below}
use Rattle.levels.proofs.Below.{all_more}
use Rattle.levels.specs.Closedness.{closed_decides}
use Rattle.levels.specs.Visibility.{Shows}
use Rattle.levels.proofs.Members.{member_fits}
use Rattle.levels.proofs.Asking.{not_closed, not_kept, all_kept, kept_by, answers}
use Rattle.levels.proofs.rule.RuleLevel.allows.Goals as goal

pub returns-then-not-is_closed : goal.returns-then-not-is_closed
returns-then-not-is_closed g c =
    let v = c.args.self.now.visibility in
    let h = of_journal c.args.journal.now in
    let run = c.args.run.now in
    answers (g.V.Visibility.visible v) h run (g.V.Visibility.sees v) (g.met.V.Visibility.tells v) (not_closed (g.V.Visibility.visible v) h run (sym c.if-not-is_closed.ensures))

pub loop-read-init : goal.loop-read-init
loop-read-init g c =
    let h = of_journal c.args.journal.now in
    let run = c.args.run.now in
    (refl, c.first-seen.ensures ((closed_decides h run).0 (sym c.if-not-is_closed.ensures)))

pub returns-then-not-is_kept : goal.returns-then-not-is_kept
returns-then-not-is_kept g c =
    let v = c.args.self.now.visibility in
    let h = of_journal c.args.journal.now in
    let run = c.args.run.now in
    let i = c.loop-read.read-index in
    let reads : c.reads-read-items.result.now ≡ reads_at h (last run) = c.reads-read-items.ensures.list ∙ ap reads_in c.in-Some.ensures in
    let l = c.loop-read-test.true in
    let fits = member_fits h c.args.journal.now.reached run ((closed_decides h run).0 (sym c.if-not-is_closed.ensures)) in
    answers (g.V.Visibility.visible v) h run (g.V.Visibility.sees v) (g.met.V.Visibility.tells v)
    (not_kept (g.V.Visibility.visible v) h run i (omega (arith, ap length reads)) (sym (kept_by (g.V.Visibility.visible v) h run i c.loop-read.seen _ fits c.loop-read.invariant.1 (ap (λ rs. get_or rs i no_read) (sym reads))) ∙ sym c.if-not-is_kept.ensures))

pub loop-read-preserved : goal.loop-read-preserved
loop-read-preserved g c =
    let v = c.args.self.now.visibility in
    let h = of_journal c.args.journal.now in
    let run = c.args.run.now in
    let i = c.loop-read.read-index in
    let reads : c.reads-read-items.result.now ≡ reads_at h (last run) = c.reads-read-items.ensures.list ∙ ap reads_in c.in-Some.ensures in
    let l = c.loop-read-test.true in
    let at = ap (λ rs. get_or rs i no_read) (sym reads) in
    let is_closed = (closed_decides h run).0 (sym c.if-not-is_closed.ensures) in
    let fits = member_fits h c.args.journal.now.reached run is_closed in (
      all_more (read_kept (g.V.Visibility.visible v) h run) i (sym (kept_by (g.V.Visibility.visible v) h run i c.loop-read.seen _ fits c.loop-read.invariant.1 at) ∙ sym c.if-not-is_kept.ensures) c.loop-read.invariant.0,
      subst (λ (n : ℕ). Shows (g.V.Visibility.visible v) h run n c.next-seen.result) (sym (add-one i)) (c.next-seen.ensures h run i c.args.journal.now.reached is_closed (omega (arith, ap length reads)) at c.loop-read.invariant.1),
    )

pub returns : goal.returns
returns g c =
    let v = c.args.self.now.visibility in
    let h = of_journal c.args.journal.now in
    let run = c.args.run.now in
    let reads : c.reads-read-items.result.now ≡ reads_at h (last run) = c.reads-read-items.ensures.list ∙ ap reads_in c.in-Some.ensures in
    let a = c.loop-read-test.false in
    let b = c.loop-read.auto.read-index-end in
    let e : c.loop-read.read-index ≡ length (reads_at h (last run)) = omega (arith, ap length reads) in
    answers (g.V.Visibility.visible v) h run (g.V.Visibility.sees v) (g.met.V.Visibility.tells v)
    (all_kept (g.V.Visibility.visible v) h run c.in-len1-up.len_at_least (sym c.if-not-is_closed.ensures) (subst (λ (n : ℕ). all_below (read_kept (g.V.Visibility.visible v) h run) n ≡ true) e c.loop-read.invariant.0))
