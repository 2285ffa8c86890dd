-- The rules, as statements about runs, places and reads.
use Rattle.std.specs.Prelude.{◌≡◌, ℕ, ◌-◌, ◌<◌, ◌≤◌, true, ◌≢◌, ◌⊎◌, List, length, Some}
use Rattle.journal.specs.declared.mark.Mark.{Mark}
use Rattle.journal.specs.declared.mark.Mark.TheVariants as mark
use Rattle.journal.specs.History.{History}
use Rattle.journal.specs.Dependencies.{mark_at, reads_at, row_of, source_of, wrote, SessionBefore, Direct, BothWrote}
use Rattle.levels.specs.Runs.{member, last, Earlier, Later, Closed}

-- Which members are visible: to the outer read i of the last member, the member at place j.
abbrev pub Sight : Type 1
Sight = History → List ℕ → ℕ → ℕ → Type 0

-- The rule over a visibility. For each outer read of the last member, each earlier member that wrote the row,
-- is visible to the read and is not its source stands before the source. Nothing stands before 0, which is in no run.
pub record Obeys (Sees : Sight) (h : History) (run : List ℕ) : Type 0 where
  pub some : 0 < length run
  pub closed : Closed h run
  pub reads : (i j : ℕ) → i < length (reads_at h (last run)) → j < length run - 1 → wrote h (member run j) (row_of (reads_at h (last run)) i) ≡ true → Sees h run i j → member run j ≢ source_of (reads_at h (last run)) i → Later run (source_of (reads_at h (last run)) i) j

-- It is session-before the last member, or an earlier outer read of that one, of whichever row, has it as its source.
abbrev pub ReadCommitted : Sight
ReadCommitted h run i j = SessionBefore h (member run j) (last run) ⊎ ((k : ℕ) × (k < i) × (source_of (reads_at h (last run)) k ≡ member run j))

-- It is a direct dependency of the last member.
abbrev pub ReadAtomic : Sight
ReadAtomic h run i j = Direct h (member run j) (last run)

-- A chain of one or more direct dependencies leads from a number to t, and everything on it is a member.
pub data Chain (h : History) (run : List ℕ) (t : ℕ) : ℕ → Type 0 where
  link : {u : ℕ} → Direct h u t → Chain h run t u
  step : {u v : ℕ} → Direct h u v → Earlier run v (length run) → Chain h run t v → Chain h run t u

abbrev pub Causal : Sight
Causal h run i j = Chain h run (last run) (member run j)

-- It is, or stands before, a member that is a direct dependency of the last one.
abbrev pub Prefix : Sight
Prefix h run i j = (k : ℕ) × (k < length run - 1) × ((j ≤ k) × Direct h (member run k) (last run))

-- It is, or stands before, a member before the last one that wrote a row which the last one wrote too.
abbrev pub Conflict : Sight
Conflict h run i j = (k : ℕ) × (k < length run - 1) × ((j ≤ k) × BothWrote h (member run k) (last run))

-- It stands before the last member.
abbrev pub Serializable : Sight
Serializable h run i j = j < length run - 1

-- Snapshot isolation: the rules of prefix and of conflict together.
abbrev pub Snapshot : History → List ℕ → Type 0
Snapshot h run = Obeys Prefix h run × Obeys Conflict h run

-- What the level of a mark asks of a run.
abbrev pub Axiom : Mark → History → List ℕ → Type 0
Axiom mark.ReadCommitted = Obeys ReadCommitted
Axiom mark.ReadAtomic = Obeys ReadAtomic
Axiom mark.Causal = Obeys Causal
Axiom mark.Prefix = Obeys Prefix
Axiom mark.Snapshot = Snapshot
Axiom mark.Serializable = Obeys Serializable

-- The standing level asks what the level of the last member's mark asks.
abbrev pub Standing : History → List ℕ → Type 0
Standing h run = (m : Mark) × (mark_at h (last run) ≡ Some m) × Axiom m h run
