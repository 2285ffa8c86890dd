-- What a visibility has to show, and what it tells the rule.
use Rattle.std.specs.Prelude.{◌≡◌, ℕ, suc, ◌-◌, ◌<◌, ◌≤◌, List, length, Decides, slice_index_or}
use Rattle.journal.specs.declared.transaction.OuterRead.{OuterRead}
use Rattle.journal.specs.Limits.{most_transactions}
use Rattle.journal.specs.History.{History, Reached}
use Rattle.journal.specs.Dependencies.{no_read, reads_at}
use Rattle.levels.specs.Runs.{member, last, Closed, Thinned, AllAlike}
use Rattle.levels.specs.Axioms.{Sight}
use Rattle.levels.specs.Rule.{Visible}
use Rattle.journal.specs.NumberSet.{has}
use Rattle.journal.specs.declared.number_set.NumberSet.{NumberSet}

-- The test decides the relation, wherever the rule asks.
abbrev pub Tells : Visible → Sight → Type 0
Tells visible Sees = (h : History) (run : List ℕ) (i j : ℕ) → Closed h run → i < length (reads_at h (last run)) → j < length run - 1 → Decides (visible h run i j) (Sees h run i j)

-- What is visible depends on the members alone.
abbrev pub SeesLocally : Sight → Type 0
SeesLocally Sees = (h k : History) (run : List ℕ) → Closed h run → Closed k run → AllAlike h k run → (i j : ℕ) → j < length run - 1 → Sees h run i j → Sees k run i j

-- What is visible in a thinned run is visible in the full one.
abbrev pub SeesThinned : Sight → Type 0
SeesThinned Sees = (h : History) (run part : List ℕ) → Closed h run → Closed h part → (th : Thinned run part) → (i j : ℕ) → j < length part - 1 → Sees h part i j → Sees h run i (th.place j)

-- Of the earlier members, the set holds those that are visible to read i.
abbrev pub Shows : {N : ℕ} → Visible → History → List ℕ → ℕ → NumberSet N → Type 0
Shows visible h run i seen = (j : ℕ) → j < length run - 1 → member run j ≤ most_transactions → has seen (member run j) ≡ visible h run i j

-- Where the run is closed, the set shows what its first read sees.
abbrev pub ShowsFirst : {N : ℕ} → Visible → History → List ℕ → NumberSet N → Type 0
ShowsFirst visible h run seen = Closed h run → Shows visible h run 0 seen

-- In every closed run where the last member makes the read and the set shows what it sees, the next set shows what the next read sees.
abbrev pub ShowsNext : {N : ℕ} → Visible → OuterRead → NumberSet N → NumberSet N → Type 0
ShowsNext visible read seen next = (h : History) (run : List ℕ) (i : ℕ) → Reached h → Closed h run → i < length (reads_at h (last run)) → slice_index_or (reads_at h (last run)) i no_read ≡ read → Shows visible h run i seen → Shows visible h run (suc i) next
