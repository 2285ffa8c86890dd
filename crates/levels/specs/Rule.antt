-- The rules as tests that compute.
use Rattle.std.specs.Prelude.{ℕ, ◌-◌, Bool, true, false, if◌then◌else◌, not, ◌&&◌, ◌||◌, List, [], ◌∷◌, length, ◌==◌, nat_eq, nat_le, nat_lt}
use Rattle.journal.specs.History.{History}
use Rattle.journal.specs.Dependencies.{reads_at, row_of, source_of, wrote}
use Rattle.levels.specs.Runs.{member, last}
use Rattle.levels.specs.Level.{Meaning}
use Rattle.levels.specs.Tests.{all_below, some_below, or_below, implies, session_before, direct, both_wrote, later, closed}

-- Visible to the outer read i of the last member: the member at place j.
abbrev pub Visible : Type 0
Visible = History → List ℕ → ℕ → ℕ → Bool

-- A read of the row from the source is kept by the member at place j, of which it is known whether it is seen.
abbrev pub allowed : History → List ℕ → Bool → ℕ → ℕ → ℕ → Bool
allowed h run seen row source j = implies (wrote h (member run j) row && (seen && not (member run j == source))) (later run source j)

-- Read i of the last member is kept by all earlier members.
abbrev pub read_kept : Visible → History → List ℕ → ℕ → Bool
read_kept visible h run i = all_below (λ j. allowed h run (visible h run i j) (row_of (reads_at h (last run)) i) (source_of (reads_at h (last run)) i) j) (length run - 1)

-- The rule over a visibility.
abbrev pub rule : Visible → Meaning
rule visible h run = nat_lt 0 (length run) && (closed h run && all_below (read_kept visible h run) (length (reads_at h (last run))))

abbrev pub read_committed : Visible
read_committed h run i j = or_below (session_before h (member run j) (last run)) (λ k. nat_eq (source_of (reads_at h (last run)) k) (member run j)) i

abbrev pub read_atomic : Visible
read_atomic h run i j = direct h (member run j) (last run)

-- u is a direct dependency of one of the list.
abbrev pub linked : History → ℕ → List ℕ → Bool
linked h u [] = false
linked h u (v ∷ vs) = direct h u v || linked h u vs

-- The last of the list, and those from which a chain of direct dependencies leads to it.
abbrev pub past : History → List ℕ → List ℕ
past h [] = []
past h (u ∷ []) = u ∷ []
past h (u ∷ (v ∷ vs)) = let after = past h (v ∷ vs) in if linked h u after then u ∷ after else after

abbrev pub causal : Visible
causal h run i j = linked h (member run j) (past h run)

-- The test passes at the place or at a later one, below place n.
abbrev pub from_place : (ℕ → Bool) → List ℕ → ℕ → ℕ → Bool
from_place p xs n j = some_below (λ k. nat_le j k && p (member xs k)) n

-- The test passes at the place or at a later one, before the last.
abbrev pub up_to : (ℕ → Bool) → List ℕ → ℕ → Bool
up_to p run j = from_place p run (length run - 1) j

abbrev pub prefix : Visible
prefix h run i j = up_to (λ v. direct h v (last run)) run j

abbrev pub conflict : Visible
conflict h run i j = up_to (λ v. both_wrote h v (last run)) run j

abbrev pub serializable : Visible
serializable h run i j = true
