-- What a level is.
use Rattle.std.specs.Prelude.{◌≡◌, ℕ, ◌<◌, ◌≤◌, Bool, true, List, length, take, ◌↔◌, IsTrue}
use Rattle.journal.specs.History.{History, Reached}
use Rattle.levels.specs.Runs.{Closed, Thinned, AllAlike}

-- A yes or a no for each history and list of numbers.
abbrev pub Meaning : Type 0
Meaning = History → List ℕ → Bool

-- The laws of a level, on the histories that calls can reach.
pub record Lawful (level : Meaning) : Type 0 where
  -- A yes is said of closed runs that are not empty, and of nothing else.
  pub closed : (h : History) (run : List ℕ) → Reached h → level h run ≡ true → (0 < length run) × Closed h run
  -- A run that is closed in two histories gets one answer, if its members are alike in both.
  pub local : (h k : History) (run : List ℕ) → Reached h → Reached k → Closed h run → Closed k run → AllAlike h k run → level h run ≡ level k run
  -- A yes on a closed run is a yes on the run thinned, where that is closed still.
  pub thinned : (h : History) (run part : List ℕ) → Reached h → Closed h run → Closed h part → Thinned run part → level h run ≡ true → level h part ≡ true

-- The level says yes of every beginning of the run that is not empty.
abbrev pub Satisfies : Meaning → History → List ℕ → Type 0
Satisfies level h run = (k : ℕ) → 0 < k → k ≤ length run → level h (take k run) ≡ true

-- The level says yes exactly where the axiom holds.
abbrev pub Exact : Meaning → (History → List ℕ → Type 0) → Type 0
Exact level Ax = (h : History) (run : List ℕ) → IsTrue (level h run) ↔ Ax h run
