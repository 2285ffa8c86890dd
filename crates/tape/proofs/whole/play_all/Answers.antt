use Rattle.std.proofs.Common.{rules}
use Rattle.tape.proofs.Wholes.{onto_more, onto_end}
use Rattle.tape.proofs.whole.play_all.Goals as goal

pub loop-lines-preserved : goal.loop-lines-preserved
loop-lines-preserved c =
    record {
      within = search rules;
      room = search rules;
      so_far = rw c.in_ok-extend_from_slice.ensures.items (onto_more (rw c.in-Some.is at c.in_ok-next.ensures.played).1 c.loop-lines.invariant.so_far);
    }

pub returns : goal.returns
returns c = onto_end (rw c.in_default.is at c.in_ok-next.ensures.played).1 c.loop-lines.invariant.so_far (search rules)
