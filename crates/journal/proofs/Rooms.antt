-- There is room for every transaction that has begun.
use Rattle.std.proofs.Common.{◌-◌, ◌≤◌, List, [], ◌∷◌, length, arith}
use mathlib.Core.Logic.{∥∥₁_elim}
use native.Mathlib.Bridge.{le_prop}
use Rattle.std.proofs.lemmas.List.{length-set, length_push}
use Rattle.journal.specs.Limits.{most_transactions}
use Rattle.journal.specs.Transactions.{begun}
use Rattle.journal.specs.History.{History, Call, Reached, history_from, after}
use Rattle.journal.proofs.Changes.{Change, same, more, edited, after_change}

room_after : (h h' : History) → Change h h' → length h ≤ most_transactions → length h' ≤ most_transactions
room_after h h' same few = few
room_after h h' (more k m kl o l) few = omega (arith, length_push h (begun k m))
room_after h h' (edited k n t o d) few = omega (arith, length-set h (n - 1) t)

room_from : (h : History) (cs : List Call) → length h ≤ most_transactions → length (history_from h cs) ≤ most_transactions
room_from h [] few = few
room_from h (c ∷ cs) few = room_from (after h c) cs (room_after h (after h c) (after_change h c) few)

pub room_reached : (h : History) → Reached h → length h ≤ most_transactions
room_reached h r = ∥∥₁_elim r le_prop (λ p. rw p.1 at (room_from [] p.0 (omega arith)))
