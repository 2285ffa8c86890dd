use Rattle.std.proofs.Common.{◌≡◌, ℕ, ◌-◌, List, [], ◌∷◌, ◌++◌, length, take}
use Rattle.journal.specs.Calls.{of_journal}
use Rattle.levels.specs.Numbers.{HoldsExactly}
use Rattle.levels.specs.Rule.{linked, past}
use Rattle.levels.specs.Runs.{last, Closed}
use Rattle.levels.proofs.visibilities.causal.causal_past.Given as goal

-- The set holds the past of what has been gone through.
abbrev pub invariant-loop-member : goal.invariant-loop-member
invariant-loop-member l =
    let earlier = take (length l.run - 1) l.run in
    (gone : List ℕ) × (l.member-iterator.iter.rest.now ++ gone ≡ earlier)
    × (Closed (of_journal l.journal) (earlier ++ last l.run ∷ []) → HoldsExactly l.found (λ n. linked (of_journal l.journal) n (past (of_journal l.journal) (gone ++ last l.run ∷ []))))
