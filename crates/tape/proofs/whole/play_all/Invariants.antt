use Rattle.std.proofs.Common.{◌≡◌, ◌-◌, ◌≤◌, length, vec_items}
use Rattle.journal.specs.Calls.{of_journal}
use Rattle.tape.specs.Limits.{line_room}
use Rattle.tape.proofs.Wholes.{Onto}
use Rattle.tape.proofs.whole.play_all.Given as goal

abbrev pub invariant-loop-lines : goal.invariant-loop-lines
invariant-loop-lines l = record { within : l.place ≤ length l.tape; room : length l.line ≡ line_room; so_far : Onto l.tape (of_journal l.journal) l.place (vec_items l.lines) }

abbrev pub decreases-loop-lines : goal.decreases-loop-lines
decreases-loop-lines l = length l.tape - l.place
