use Rattle.std.proofs.Common.{◌≡◌, ℕ, Bool, false, ◌&&◌, length, sym, refl, ap, ◌∙◌, add-one, arith}
use Rattle.std.proofs.lemmas.Bool.{and_right}
use Rattle.journal.specs.Calls.{of_journal}
use Rattle.journal.specs.NumberSet.{has}
use Rattle.levels.specs.Runs.{member}
use Rattle.levels.specs.Tests.{both_wrote, earlier}
use Rattle.levels.proofs.Sets.{put_passing, pass_over}
use Rattle.levels.proofs.visibilities.conflict.conflicting.Goals as goal
use Rattle.levels.proofs.visibilities.conflict.conflicting.Goals.{then-both_wrote, else-both_wrote}

pub loop-member-init : goal.loop-member-init
loop-member-init c n l = c.none-found.ensures.each n ∙ sym (and_right (both_wrote (of_journal c.args.journal.now) n c.args.last) false refl)

pub loop-member-preserved : goal.loop-member-preserved
loop-member-preserved c n l =
    let members = c.args.earlier.now in
    let k = c.loop-member.member-index in
    let p : ℕ → Bool = λ m. both_wrote (of_journal c.args.journal.now) m c.args.last in
    let more = sym (ap (λ m. p n && earlier members n m) (add-one k)) in
    elim c.if-both_wrote.branch [
      | then-both_wrote w ↦ ap (λ s. has s n) w.found-is ∙ w.insert.ensures.each n (omega arith) ∙ put_passing p (member members k) n (earlier members n k) (has c.loop-member.found n) (sym w.if-both_wrote.ensures) (c.loop-member.invariant n l) ∙ more
      | else-both_wrote w ↦ ap (λ s. has s n) w.found-is ∙ pass_over p (member members k) n (earlier members n k) (has c.loop-member.found n) (sym w.if-both_wrote.ensures) (c.loop-member.invariant n l) ∙ more
    ]

pub returns : goal.returns
returns c n l =
    let e : c.loop-member.member-index ≡ length c.args.earlier.now = (let a = c.loop-member-test.false in let b = c.loop-member.auto.member-index-end in omega arith) in
    c.loop-member.invariant n l ∙ ap (λ k. both_wrote (of_journal c.args.journal.now) n c.args.last && earlier c.args.earlier.now n k) e
