use Rattle.std.proofs.Common.{◌≡◌, ℕ, sym, ◌∙◌, arith}
use Rattle.std.proofs.lemmas.List.{length-take}
use Rattle.levels.specs.Runs.{member}
use Rattle.levels.proofs.Places.{once_before}
use Rattle.levels.proofs.visibilities.reach.up_to_marked.Goals as goal

pub returns : goal.returns
returns c j lj l once =
    let members = c.args.members.now in
    let reach = c.marked_length.result in
    let within = c.marked_length.ensures.within in
    let end : c.loop-member.member-index ≡ reach = (let a = c.loop-member-test.false in let b = c.loop-member.auto.member-index-end in omega (arith, length-take {A = ℕ})) in
    c.loop-member.invariant (member members j) l ∙ once_before members j reach c.loop-member.member-index once lj within end ∙ sym (c.marked_length.ensures.reach j)
