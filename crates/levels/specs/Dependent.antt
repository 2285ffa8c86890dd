-- What the tests of dependencies decide.
use Rattle.std.specs.Prelude.{◌≡◌, ℕ, true, false, List, [], ◌∷◌, length, Some, None, Decides, Option, refl}
use Rattle.std.proofs.Common.{sym, ap, ◌∙◌, arith}
use Rattle.std.proofs.lemmas.Bool.{both_ways, eqb-true, eq-eqb}
use Rattle.std.proofs.lemmas.Bool.Decides.{Decides-and, Decides-or, Decides-like, Decides-eqb, Decides-ltb}
use Rattle.journal.specs.Limits.{row_count}
use Rattle.journal.specs.History.{History, HasNumber}
use Rattle.journal.specs.Dependencies.{kiosk_at, reads_at, source_of, committed, committed_in, SessionBefore, ReadBy, Direct, BothWrote}
use Rattle.journal.proofs.Numbers.{test_finds}
use Rattle.levels.specs.Runs.{last}
use Rattle.levels.specs.Tests.{same_kiosk, session_before, read_by, direct, both_wrote}
use Rattle.levels.specs.Decided.{decides_itself, decides_some}

pub committed_number : (h : History) (n : ℕ) → committed h n ≡ true → HasNumber h n
committed_number h n e = (test_finds h n committed_in refl e).0

pub same_kiosk_decides : (a b : Option ℕ) → Decides (same_kiosk a b) ((k : ℕ) × (a ≡ Some k) × (b ≡ Some k))
same_kiosk_decides None b = (λ e. absurd (both_ways false refl e), λ p. let q = p.1 in absurd (grind arith))
same_kiosk_decides (Some a) None = (λ e. absurd (both_ways false refl e), λ p. let q = p.2 in absurd (grind arith))
same_kiosk_decides (Some a) (Some b) = (λ e. (b, ap Some (eqb-true a b e), refl), λ p. let q = p.1 ∙ sym p.2 in eq-eqb a b (grind arith))

pub session_decides : (h : History) (u t : ℕ) → Decides (session_before h u t) (SessionBefore h u t)
session_decides h u t =
    Decides-like (session_before h u t) (λ p. record { kiosk = p.0; lower = p.1 }) (λ r. (r.kiosk, r.lower))
    (Decides-and _ _ (same_kiosk_decides (kiosk_at h u) (kiosk_at h t)) (Decides-ltb u t))

pub read_by_decides : (h : History) (u t : ℕ) → Decides (read_by h u t) (ReadBy h u t)
read_by_decides h u t = decides_some _ _ (length (reads_at h t)) (λ i _. Decides-eqb (source_of (reads_at h t) i) u)

pub direct_decides : (h : History) (u t : ℕ) → Decides (direct h u t) (Direct h u t)
direct_decides h u t = Decides-or _ _ (session_decides h u t) (read_by_decides h u t)

pub both_wrote_decides : (h : History) (u t : ℕ) → Decides (both_wrote h u t) (BothWrote h u t)
both_wrote_decides h u t = decides_some _ _ row_count (λ r _. Decides-and _ _ (decides_itself _) (decides_itself _))

-- An empty list ends in 0, which nobody has.
pub last_none : (run : List ℕ) → length run ≡ 0 → last run ≡ 0
last_none [] e = refl
last_none (x ∷ xs) e = absurd (omega arith)
