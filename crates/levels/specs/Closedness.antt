-- The test of a closed run decides what a closed run is.
use Rattle.std.specs.Prelude.{◌≡◌, ℕ, ◌<◌, true, List, length, Decides, refl}
use Rattle.std.proofs.Common.{sym, ◌∙◌, inl, inr, arith}
use Rattle.std.proofs.lemmas.Bool.{cases_order}
use Rattle.std.proofs.lemmas.Bool.Decides.{Decides-and, Decides-not, Decides-like, Decides-eqb, Decides-ltb}
use Rattle.journal.specs.History.{History}
use Rattle.journal.specs.Dependencies.{committed, kiosk_at, reads_at, source_of, Direct}
use Rattle.levels.specs.Runs.{member, Earlier, Later, Rests, Closed}
use Rattle.levels.specs.Tests.{earlier, later, rests, closed}
use Rattle.levels.specs.Decided.{decides_itself, decides_implies, decides_all, decides_some}
use Rattle.levels.specs.Dependent.{committed_number, same_kiosk_decides}

pub earlier_decides : (run : List ℕ) (n i : ℕ) → Decides (earlier run n i) (Earlier run n i)
earlier_decides run n i = decides_some _ _ i (λ j _. Decides-eqb (member run j) n)

pub later_decides : (run : List ℕ) (n j : ℕ) → Decides (later run n j) (Later run n j)
later_decides run n j = decides_some _ _ (length run) (λ k _. Decides-and _ _ (Decides-ltb j k) (Decides-eqb (member run k) n))

pub rests_decides : (h : History) (run : List ℕ) (i : ℕ) → Decides (rests h run i) (Rests h run i)
rests_decides h run i =
    Decides-like (rests h run i)
    (λ p. record { ended = p.0; once = p.1.0; sessions = λ u c s. p.1.1.0 u s.lower (c, s.kiosk); sources = p.1.1.1 })
    (λ r. (r.ended, (r.once, ((λ u l ck. r.sessions u ck.0 (record { kiosk = ck.1; lower = l })), r.sources))))
    (Decides-and _ _ (decides_itself (committed h (member run i)))
    (Decides-and _ _ (Decides-not _ (earlier_decides run (member run i) i))
    (Decides-and _ _
    (decides_all _ _ _ (λ u _. decides_implies _ _ (Decides-and _ _ (decides_itself (committed h u)) (same_kiosk_decides (kiosk_at h u) (kiosk_at h (member run i)))) (earlier_decides run u i)))
    (decides_all _ _ _ (λ k _. decides_implies _ _ (Decides-not _ (Decides-eqb _ 0)) (earlier_decides run (source_of (reads_at h (member run i)) k) i))))))

pub closed_decides : (h : History) (run : List ℕ) → Decides (closed h run) (Closed h run)
closed_decides h run = decides_all (rests h run) (Rests h run) (length run) (λ i _. rests_decides h run i)

pub member_committed : (h : History) (run : List ℕ) → Closed h run → (j : ℕ) → j < length run → committed h (member run j) ≡ true
member_committed h run c j l = (c j l).ended

pub once_same : (h : History) (run : List ℕ) → Closed h run → (p q : ℕ) → p < length run → q < length run → member run p ≡ member run q → p ≡ q
once_same h run c p q lp lq e =
    elim (cases_order p q) [
      | inl s ↦ s
      | inr o ↦ elim o [ inl l ↦ absurd ((c q lq).once (p, l, e)) | inr l ↦ absurd ((c p lp).once (q, l, sym e)) ]
    ]

-- What a member directly depends on stands before it.
pub direct_before : (h : History) (run : List ℕ) → Closed h run → (p q : ℕ) → p < length run → q < length run → Direct h (member run p) (member run q) → p < q
direct_before h run c p q lp lq d =
    elim d [
      | inl s ↦ near (member run p) refl ((c q lq).sessions (member run p) (c p lp).ended s)
      | inr s ↦ near (source_of (reads_at h (member run q)) s.0) s.2 ((c q lq).sources s.0 s.1 (λ z. let n = (committed_number h (member run p) (c p lp).ended).0 in let e = s.2 in absurd (omega arith)))
    ]
  where
    near : (u : ℕ) → u ≡ member run p → Earlier run u q → p < q
    near u e w = let l = w.1 in let m = once_same h run c w.0 p (omega arith) lp (w.2 ∙ e) in omega arith
