-- Runs of committed transactions, and what an order is. A place in a run is counted from 0.
use Rattle.std.specs.Prelude.{◌≡◌, ℕ, ◌-◌, ◌<◌, true, ◌≢◌, List, length, slice_index}
use Rattle.journal.specs.History.{History}
use Rattle.journal.specs.Dependencies.{committed, kiosk_at, mark_at, reads_at, rows_at, source_of, SessionBefore}

-- The number at a place. Only for a place below the run's length.
abbrev pub member : List ℕ → ℕ → ℕ
member run i = slice_index run i

-- The last member; 0, which nobody has, where there is none.
abbrev pub last : List ℕ → ℕ
last run = member run (length run - 1)

-- n stands in the run before the place.
abbrev pub Earlier : List ℕ → ℕ → ℕ → Type 0
Earlier run n i = (j : ℕ) × (j < i) × (member run j ≡ n)

-- n stands in the run after the place.
abbrev pub Later : List ℕ → ℕ → ℕ → Type 0
Later run n j = (k : ℕ) × (k < length run) × ((j < k) × (member run k ≡ n))

-- The member at the place stands nowhere else.
abbrev pub Once : List ℕ → ℕ → Type 0
Once run j = (k : ℕ) → k < length run → member run k ≡ member run j → k ≡ j

-- The member at the place is committed and does not stand earlier, but all that it rests on does:
-- the committed transactions that are session-before it, and its sources other than the opening state.
pub record Rests (h : History) (run : List ℕ) (i : ℕ) : Type 0 where
  pub ended : committed h (member run i) ≡ true
  pub once : Earlier run (member run i) i → ⊥
  pub sessions : (u : ℕ) → committed h u ≡ true → SessionBefore h u (member run i) → Earlier run u i
  pub sources : (k : ℕ) → k < length (reads_at h (member run i)) → source_of (reads_at h (member run i)) k ≢ 0 → Earlier run (source_of (reads_at h (member run i)) k) i

-- The list is a closed run.
abbrev pub Closed : History → List ℕ → Type 0
Closed h run = (i : ℕ) → i < length run → Rests h run i

-- A closed run of all committed transactions.
pub record Order (h : History) (run : List ℕ) : Type 0 where
  pub closed : Closed h run
  pub all : (n : ℕ) → committed h n ≡ true → Earlier run n (length run)

-- The part leaves out some members of the run; the last one stays, and so does the sequence.
pub record Thinned (run part : List ℕ) : Type 0 where
  -- where a member of the part stands in the run
  pub place : ℕ → ℕ
  pub within : (i : ℕ) → i < length part → place i < length run
  pub same : (i : ℕ) → i < length part → member part i ≡ member run (place i)
  pub rises : (i j : ℕ) → i < j → j < length part → place i < place j
  pub some : 0 < length part
  pub ends : place (length part - 1) ≡ length run - 1

-- The number has the same kiosk, mark, outer reads and rows in both histories.
pub record Alike (h k : History) (n : ℕ) : Type 0 where
  pub kiosk : kiosk_at h n ≡ kiosk_at k n
  pub mark : mark_at h n ≡ mark_at k n
  pub reads : reads_at h n ≡ reads_at k n
  pub rows : rows_at h n ≡ rows_at k n

abbrev pub AllAlike : History → History → List ℕ → Type 0
AllAlike h k run = (i : ℕ) → i < length run → Alike h k (member run i)
