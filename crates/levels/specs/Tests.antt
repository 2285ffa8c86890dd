-- The words of runs and dependencies as tests that compute.
use Rattle.std.specs.Prelude.{ℕ, zero, suc, Bool, true, false, not, ◌&&◌, ◌||◌, List, length, Some, None, Option, ◌==◌, nat_eq, nat_lt}
use Rattle.journal.specs.Limits.{row_count}
use Rattle.journal.specs.History.{History}
use Rattle.journal.specs.Dependencies.{kiosk_at, reads_at, source_of, wrote, committed}
use Rattle.levels.specs.Runs.{member}

-- The test passes at each number below n; at some number below n.
abbrev pub all_below : (ℕ → Bool) → ℕ → Bool
all_below p zero = true
all_below p (suc n) = p n && all_below p n

abbrev pub some_below : (ℕ → Bool) → ℕ → Bool
some_below p zero = false
some_below p (suc n) = p n || some_below p n

-- It is so from the start, or the test passes at some number below n.
abbrev pub or_below : Bool → (ℕ → Bool) → ℕ → Bool
or_below b p zero = b
or_below b p (suc n) = p n || or_below b p n

abbrev pub implies : Bool → Bool → Bool
implies true b = b
implies false b = true

abbrev pub same_kiosk : Option ℕ → Option ℕ → Bool
same_kiosk None b = false
same_kiosk (Some a) None = false
same_kiosk (Some a) (Some b) = a == b

abbrev pub session_before : History → ℕ → ℕ → Bool
session_before h u t = same_kiosk (kiosk_at h u) (kiosk_at h t) && nat_lt u t

abbrev pub read_by : History → ℕ → ℕ → Bool
read_by h u t = some_below (λ i. nat_eq (source_of (reads_at h t) i) u) (length (reads_at h t))

abbrev pub direct : History → ℕ → ℕ → Bool
direct h u t = session_before h u t || read_by h u t

abbrev pub both_wrote : History → ℕ → ℕ → Bool
both_wrote h u t = some_below (λ r. wrote h u r && wrote h t r) row_count

abbrev pub earlier : List ℕ → ℕ → ℕ → Bool
earlier run n i = some_below (λ j. nat_eq (member run j) n) i

abbrev pub later : List ℕ → ℕ → ℕ → Bool
later run n j = some_below (λ k. nat_lt j k && member run k == n) (length run)

-- u has been seen, if it is a committed transaction of the kiosk.
abbrev pub session_seen : History → (ℕ → Bool) → Option ℕ → ℕ → Bool
session_seen h seen kiosk u = implies (committed h u && same_kiosk (kiosk_at h u) kiosk) (seen u)

-- The source has been seen, if it is not the opening state.
abbrev pub source_seen : (ℕ → Bool) → ℕ → Bool
source_seen seen s = implies (not (s == 0)) (seen s)

-- t is committed and has not been seen, but all that it rests on has.
abbrev pub rests_on : History → (ℕ → Bool) → ℕ → Bool
rests_on h seen t =
    committed h t
    && (not (seen t)
    && (all_below (session_seen h seen (kiosk_at h t)) t
    && all_below (λ k. source_seen seen (source_of (reads_at h t) k)) (length (reads_at h t))))

abbrev pub rests : History → List ℕ → ℕ → Bool
rests h run i = rests_on h (λ n. earlier run n i) (member run i)

abbrev pub closed : History → List ℕ → Bool
closed h run = all_below (rests h run) (length run)
