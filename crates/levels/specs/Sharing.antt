-- What is visible depends on the members alone, and stays visible when members are put back in.
use Rattle.std.specs.Prelude.{◌≡◌, ℕ, ◌-◌, ◌<◌, ◌≤◌, false, ◌⊎◌, List, length, slice_index_or, refl}
use Rattle.std.proofs.Common.{sym, ap, ◌∙◌, subst, subst₂, inl, inr, arith}
use Rattle.std.proofs.lemmas.Bool.{cases_order}
use Rattle.journal.specs.declared.transaction.OuterRead.{OuterRead}
use Rattle.journal.specs.History.{History}
use Rattle.journal.specs.Dependencies.{reads_at, source_of, SessionBefore, ReadBy, Direct, BothWrote}
use Rattle.levels.specs.Runs.{member, last, Earlier, Thinned, Alike, AllAlike}
use Rattle.levels.specs.Axioms.{ReadCommitted, ReadAtomic, Causal, Prefix, Conflict, Serializable, Chain, link, step}
use Rattle.levels.specs.Visibility.{SeesLocally, SeesThinned}
use Rattle.levels.specs.Laws.{last_same, place_before_last}

module _ (h k : History) (u t : ℕ) (a : Alike h k u) (b : Alike h k t) where
  session_alike : SessionBefore h u t → SessionBefore k u t
  session_alike s = record { kiosk = (s.kiosk.0, sym a.kiosk ∙ s.kiosk.1, sym b.kiosk ∙ s.kiosk.2); lower = s.lower }

  read_by_alike : ReadBy h u t → ReadBy k u t
  read_by_alike s = subst (λ (reads : List OuterRead). (i : ℕ) × (i < length reads) × (source_of reads i ≡ u)) b.reads s

  direct_alike : Direct h u t → Direct k u t
  direct_alike d = elim d [ inl s ↦ inl (session_alike s) | inr s ↦ inr (read_by_alike s) ]

  both_wrote_alike : BothWrote h u t → BothWrote k u t
  both_wrote_alike m = (m.0, m.1, (ap (λ rows. slice_index_or rows m.0 false) (sym a.rows) ∙ m.2.0, ap (λ rows. slice_index_or rows m.0 false) (sym b.rows) ∙ m.2.1))

module _ (h k : History) (run : List ℕ) (alike : AllAlike h k run) where
  member_alike : (u : ℕ) → Earlier run u (length run) → Alike h k u
  member_alike u m = subst (Alike h k) m.2 (alike m.0 m.1)

  chain_alike : (t : ℕ) → Alike h k t → (u : ℕ) → Earlier run u (length run) → Chain h run t u → Chain k run t u
  chain_alike t b u m (link d) = link (direct_alike h k u t (member_alike u m) b d)
  chain_alike t b u m (step {v = v} d n c) = step (direct_alike h k u v (member_alike u m) (member_alike v n) d) n (chain_alike t b v n c)

pub read_committed_local : SeesLocally ReadCommitted
read_committed_local h k run c d alike i j lj s =
    let b = alike (length run - 1) (omega arith) in
    elim s [
      | inl q ↦ inl (session_alike h k (member run j) (last run) (alike j (omega arith)) b q)
      | inr w ↦ inr (subst (λ (reads : List OuterRead). (m : ℕ) × (m < i) × (source_of reads m ≡ member run j)) b.reads w)
    ]

pub read_atomic_local : SeesLocally ReadAtomic
read_atomic_local h k run c d alike i j lj s = direct_alike h k (member run j) (last run) (alike j (omega arith)) (alike (length run - 1) (omega arith)) s

pub causal_local : SeesLocally Causal
causal_local h k run c d alike i j lj s = chain_alike h k run alike (last run) (alike (length run - 1) (omega arith)) (member run j) (j, omega arith, refl) s

pub prefix_local : SeesLocally Prefix
prefix_local h k run c d alike i j lj s =
    let l = s.1 in
    (s.0, s.1, (s.2.0, direct_alike h k (member run s.0) (last run) (alike s.0 (omega arith)) (alike (length run - 1) (omega arith)) s.2.1))

pub conflict_local : SeesLocally Conflict
conflict_local h k run c d alike i j lj s =
    let l = s.1 in
    (s.0, s.1, (s.2.0, both_wrote_alike h k (member run s.0) (last run) (alike s.0 (omega arith)) (alike (length run - 1) (omega arith)) s.2.1))

pub serializable_local : SeesLocally Serializable
serializable_local h k run c d alike i j lj s = s

module _ (run part : List ℕ) (th : Thinned run part) where
  rises_at_most : (i j : ℕ) → i ≤ j → j < length part → th.place i ≤ th.place j
  rises_at_most i j l m =
      elim (cases_order i j) [
        | inl e ↦ let q = ap th.place e in omega arith
        | inr o ↦ elim o [ inl g ↦ let q = th.rises i j g m in omega arith | inr g ↦ absurd (omega arith) ]
      ]

  -- What holds of a member of the part and its last one holds of the two in the run.
  moved : (P : ℕ → ℕ → Type 0) (j : ℕ) → j < length part → P (member part j) (last part) → P (member run (th.place j)) (last run)
  moved P j lj p = subst₂ P (th.same j lj) (last_same run part th) p

  up_to_thinned : (P : ℕ → ℕ → Type 0) (j : ℕ) → ((k : ℕ) × (k < length part - 1) × ((j ≤ k) × P (member part k) (last part))) → (k : ℕ) × (k < length run - 1) × ((th.place j ≤ k) × P (member run k) (last run))
  up_to_thinned P j s =
      let l = s.1 in
      (th.place s.0, place_before_last run part th s.0 l, (rises_at_most j s.0 s.2.0 (omega arith), moved P s.0 (omega arith) s.2.1))

  member_thinned : (u : ℕ) → Earlier part u (length part) → Earlier run u (length run)
  member_thinned u m = (th.place m.0, th.within m.0 m.1, sym (th.same m.0 m.1) ∙ m.2)

  chain_thinned : (h : History) (t u : ℕ) → Chain h part t u → Chain h run t u
  chain_thinned h t u (link d) = link d
  chain_thinned h t u (step {v = v} d n c) = step d (member_thinned v n) (chain_thinned h t v c)

pub read_committed_thinned : SeesThinned ReadCommitted
read_committed_thinned h run part c d th i j lj s = moved run part th (λ u t. SessionBefore h u t ⊎ ((m : ℕ) × (m < i) × (source_of (reads_at h t) m ≡ u))) j (omega arith) s

pub read_atomic_thinned : SeesThinned ReadAtomic
read_atomic_thinned h run part c d th i j lj s = moved run part th (Direct h) j (omega arith) s

pub causal_thinned : SeesThinned Causal
causal_thinned h run part c d th i j lj s = moved run part th (λ u t. Chain h run t u) j (omega arith) (chain_thinned run part th h (last part) (member part j) s)

pub prefix_thinned : SeesThinned Prefix
prefix_thinned h run part c d th i j lj s = up_to_thinned run part th (Direct h) j s

pub conflict_thinned : SeesThinned Conflict
conflict_thinned h run part c d th i j lj s = up_to_thinned run part th (BothWrote h) j s

pub serializable_thinned : SeesThinned Serializable
serializable_thinned h run part c d th i j lj s = place_before_last run part th j s
