-- The rule over a visibility is lawful.
use Rattle.std.specs.Prelude.{◌≡◌, ℕ, ◌-◌, ◌<◌, true, false, ◌≢◌, List, length, Decides, slice_index_or}
use Rattle.std.proofs.Common.{sym, ap, ◌∙◌, subst, inl, inr, arith}
use Rattle.std.proofs.lemmas.Bool.{cases_order}
use Rattle.std.proofs.lemmas.Bool.Decides.{Decides-and, Decides-not, Decides-like, Decides-eqb, Decides-ltb, same_from_decides}
use Rattle.journal.specs.declared.transaction.OuterRead.{OuterRead}
use Rattle.journal.specs.History.{History}
use Rattle.journal.specs.Dependencies.{reads_at, row_of, source_of, wrote}
use Rattle.levels.specs.Runs.{member, last, Later, Closed, Thinned, AllAlike}
use Rattle.levels.specs.Axioms.{Sight, Obeys}
use Rattle.levels.specs.Level.{Lawful}
use Rattle.levels.specs.Rule.{Visible, rule}
use Rattle.levels.specs.Visibility.{Tells, SeesLocally, SeesThinned}
use Rattle.levels.specs.Decided.{decides_itself, decides_implies, decides_and_then, decides_all}
use Rattle.levels.specs.Dependent.{committed_number}
use Rattle.levels.specs.Closedness.{later_decides, closed_decides, once_same}

pub rule_decides : (visible : Visible) (Sees : Sight) → Tells visible Sees → (h : History) (run : List ℕ) → Decides (rule visible h run) (Obeys Sees h run)
rule_decides visible Sees tells h run =
    Decides-like (rule visible h run)
    (λ p. record { some = p.0; closed = p.1.0; reads = λ i j li lj w s n. p.1.1 i li j lj (w, (s, n)) })
    (λ r. (r.some, (r.closed, λ i li j lj f. r.reads i j li lj f.0 f.1.0 f.1.1)))
    (Decides-and _ _ (Decides-ltb 0 (length run))
    (decides_and_then _ _ (closed_decides h run)
    (λ c. decides_all _ _ _ (λ i li. decides_all _ _ _ (λ j lj. decides_implies _ _ (Decides-and _ _ (decides_itself _) (Decides-and _ _ (tells h run i j c li lj) (Decides-not _ (Decides-eqb _ _)))) (later_decides run _ j))))))

alike_back : (h k : History) (run : List ℕ) → AllAlike h k run → AllAlike k h run
alike_back h k run alike i l = let a = alike i l in record { kiosk = sym a.kiosk; mark = sym a.mark; reads = sym a.reads; rows = sym a.rows }

obeys_local : (Sees : Sight) → SeesLocally Sees → (h k : History) (run : List ℕ) → Closed h run → Closed k run → AllAlike h k run → Obeys Sees h run → Obeys Sees k run
obeys_local Sees local h k run c d alike o =
    record {
      some = o.some;
      closed = d;
      reads = λ i j li lj w s n.
          let some = o.some in
          subst (Kept i j) (alike (length run - 1) (omega arith)).reads
          (λ lh wh nh. o.reads i j lh lj (ap (λ rows. slice_index_or rows (row_of (reads_at h (last run)) i) false) (alike j (omega arith)).rows ∙ wh) (local k h run d c (alike_back h k run alike) i j lj s) nh)
          li w n;
    }
  where
    Kept : ℕ → ℕ → List OuterRead → Type 0
    Kept i j reads = i < length reads → wrote k (member run j) (row_of reads i) ≡ true → member run j ≢ source_of reads i → Later run (source_of reads i) j

pub last_same : (run part : List ℕ) → Thinned run part → last part ≡ last run
last_same run part th = let s = th.some in th.same (length part - 1) (omega arith) ∙ ap (member run) th.ends

module _ (run part : List ℕ) (th : Thinned run part) where
  pub place_before_last : (j : ℕ) → j < length part - 1 → th.place j < length run - 1
  place_before_last j lj = let some = th.some in let e = th.ends in let r = th.rises j (length part - 1) lj (omega arith) in omega arith

  -- Members keep their sequence.
  falls : (i j : ℕ) → i < length part → j < length part → th.place i < th.place j → i < j
  falls i j li lj l =
      elim (cases_order i j) [
        | inl e ↦ let q = ap th.place e in absurd (omega arith)
        | inr o ↦ elim o [ inl g ↦ g | inr g ↦ let q = th.rises j i g li in absurd (omega arith) ]
      ]

obeys_thinned : (Sees : Sight) → SeesThinned Sees → (h : History) (run part : List ℕ) → Closed h run → Closed h part → Thinned run part → Obeys Sees h run → Obeys Sees h part
obeys_thinned Sees thinned h run part c d th o =
    record {
      some = th.some;
      closed = d;
      reads = λ i j li lj w s n.
          let some = th.some in
          let same = th.same j (omega arith) in
          still i j li (omega arith)
          (subst (Kept i j) (sym (last_same run part th))
          (λ lr wr nr. o.reads i (th.place j) lr (place_before_last run part th j lj) wr (thinned h run part c d th i j lj s) nr)
          li (subst (λ (v : ℕ). wrote h v (row_of (reads_at h (last part)) i) ≡ true) same w) (λ q. n (same ∙ q)));
    }
  where
    Kept : ℕ → ℕ → ℕ → Type 0
    Kept i j t = i < length (reads_at h t) → wrote h (member run (th.place j)) (row_of (reads_at h t) i) ≡ true → member run (th.place j) ≢ source_of (reads_at h t) i → Later run (source_of (reads_at h t) i) (th.place j)

    -- The source of a read of the last member is in the part, so it stands after the place there too.
    still : (i j : ℕ) → i < length (reads_at h (last part)) → j < length part → Later run (source_of (reads_at h (last part)) i) (th.place j) → Later part (source_of (reads_at h (last part)) i) j
    still i j li lj f =
        let some = th.some in
        let positive = (committed_number h (member run f.0) (c f.0 f.1).ended).0 in
        let w = (d (length part - 1) (omega arith)).sources i li (λ z. let q = f.2.1 in absurd (omega arith)) in
        let lw = w.1 in
        let p : th.place w.0 ≡ f.0 = once_same h run c (th.place w.0) f.0 (th.within w.0 (omega arith)) f.1 (sym (th.same w.0 (omega arith)) ∙ w.2 ∙ sym f.2.1) in
        let lk = f.2.0 in
        (w.0, omega arith, (falls run part th j w.0 lj (omega arith) (omega arith), w.2))

pub rule_lawful : (visible : Visible) (Sees : Sight) → Tells visible Sees → SeesLocally Sees → SeesThinned Sees → Lawful (rule visible)
rule_lawful visible Sees tells local thinned =
    record {
      closed = λ h run r e. let o = (decides h run).0 e in (o.some, o.closed);
      local = λ h k run rh rk c d alike.
          same_from_decides (rule visible h run) (rule visible k run) (decides h run)
          (Decides-like (rule visible k run) (obeys_local Sees local k h run d c (alike_back h k run alike)) (obeys_local Sees local h k run c d alike) (decides k run));
      thinned = λ h run part r c d th e. (decides h part).1 (obeys_thinned Sees thinned h run part c d th ((decides h run).0 e));
    }
  where
    decides : (h : History) (run : List ℕ) → Decides (rule visible h run) (Obeys Sees h run)
    decides = rule_decides visible Sees tells
