-- Layers over lawful levels are lawful.
use Rattle.std.specs.Prelude.{◌≡◌, ℕ, ◌-◌, ◌<◌, Bool, true, false, cond, ◌&&◌, List, [], ◌∷◌, length, Some, None, Option, refl}
use Rattle.std.proofs.Common.{sym, ap, ◌∙◌, subst, arith}
use Rattle.std.proofs.lemmas.Bool.{and_parts, and_from, both_ways}
use Rattle.journal.specs.declared.mark.Mark.{Mark}
use Rattle.journal.specs.declared.mark.Mark.TheVariants as mark
use Rattle.journal.specs.History.{History}
use Rattle.journal.specs.Dependencies.{mark_at}
use Rattle.levels.specs.Runs.{last, Closed, AllAlike}
use Rattle.levels.specs.Level.{Meaning, Lawful}
use Rattle.levels.specs.Layers.{both, never, is_mark, at_mark, of_mark, by, by_mark}
use Rattle.levels.specs.Laws.{last_same}

pub never_lawful : Lawful never
never_lawful =
    record {
      closed = λ h run r e. absurd (both_ways false refl e);
      local = λ h k run rh rk c d alike. refl;
      thinned = λ h run part r c d th e. e;
    }

pub both_lawful : (a b : Meaning) → Lawful a → Lawful b → Lawful (both a b)
both_lawful a b la lb =
    record {
      closed = λ h run r e. la.closed h run r (and_parts (a h run) (b h run) e).0;
      local = λ h k run rh rk c d alike. let p = la.local h k run rh rk c d alike in let q = lb.local h k run rh rk c d alike in λ z. p z && q z;
      thinned = λ h run part r c d th e.
          let p = and_parts (a h run) (b h run) e in
          and_from (a h part) (b h part) (la.thinned h run part r c d th p.0) (lb.thinned h run part r c d th p.1);
    }

-- What both answers give, the chosen one gives.
chosen : (w x y : Bool) (P : Type 0) → (x ≡ true → P) → (y ≡ true → P) → cond w x y ≡ true → P
chosen true x y P p q = p
chosen false x y P p q = q

-- Two answers chosen alike are related as the answers chosen from are.
chosen_alike : (w x y x' y' : Bool) (R : Bool → Bool → Type 0) → R x x' → R y y' → R (cond w x y) (cond w x' y')
chosen_alike true x y x' y' R p q = p
chosen_alike false x y x' y' R p q = q

last_mark : (h k : History) (run : List ℕ) → AllAlike h k run → mark_at h (last run) ≡ mark_at k (last run)
last_mark h k [] alike = refl
last_mark h k (x ∷ xs) alike = (alike (length (x ∷ xs) - 1) (omega arith)).mark

pub at_mark_lawful : (m : Mark) (a b : Meaning) → Lawful a → Lawful b → Lawful (at_mark m a b)
at_mark_lawful m a b la lb =
    record {
      closed = λ h run r. chosen (is_mark (mark_at h (last run)) m) (a h run) (b h run) ((0 < length run) × Closed h run) (la.closed h run r) (lb.closed h run r);
      local = λ h k run rh rk c d alike.
          ap (λ o. cond (is_mark o m) (a h run) (b h run)) (last_mark h k run alike)
          ∙ chosen_alike (is_mark (mark_at k (last run)) m) (a h run) (b h run) (a k run) (b k run) (λ x y. x ≡ y) (la.local h k run rh rk c d alike) (lb.local h k run rh rk c d alike);
      thinned = λ h run part r c d th.
          subst (λ (t : ℕ). at_mark m a b h run ≡ true → cond (is_mark (mark_at h t) m) (a h part) (b h part) ≡ true) (sym (last_same run part th))
          (chosen_alike (is_mark (mark_at h (last run)) m) (a h run) (b h run) (a h part) (b h part) (λ x y. x ≡ true → y ≡ true) (la.thinned h run part r c d th) (lb.thinned h run part r c d th));
    }

-- Six levels nested, each at its own mark, with none beyond, answer by mark.
pub marks_nest : (one two three four five six : Meaning) (h : History) (run : List ℕ) → at_mark mark.ReadCommitted one (at_mark mark.ReadAtomic two (at_mark mark.Causal three (at_mark mark.Prefix four (at_mark mark.Snapshot five (at_mark mark.Serializable six never))))) h run ≡ by_mark one two three four five six h run
marks_nest one two three four five six h run = nest (mark_at h (last run))
  where
    nest : (o : Option Mark) → cond (is_mark o mark.ReadCommitted) (one h run) (cond (is_mark o mark.ReadAtomic) (two h run) (cond (is_mark o mark.Causal) (three h run) (cond (is_mark o mark.Prefix) (four h run) (cond (is_mark o mark.Snapshot) (five h run) (cond (is_mark o mark.Serializable) (six h run) false))))) ≡ by (of_mark one two three four five six) o h run
    nest None = refl
    nest (Some mark.ReadCommitted) = refl
    nest (Some mark.ReadAtomic) = refl
    nest (Some mark.Causal) = refl
    nest (Some mark.Prefix) = refl
    nest (Some mark.Snapshot) = refl
    nest (Some mark.Serializable) = refl

-- A meaning that answers as a lawful one does is lawful.
lawful_like : (a b : Meaning) → ((h : History) (run : List ℕ) → a h run ≡ b h run) → Lawful a → Lawful b
lawful_like a b same la =
    record {
      closed = λ h run r e. la.closed h run r (same h run ∙ e);
      local = λ h k run rh rk c d alike. sym (same h run) ∙ la.local h k run rh rk c d alike ∙ same k run;
      thinned = λ h run part r c d th e. sym (same h part) ∙ la.thinned h run part r c d th (same h run ∙ e);
    }

-- By mark over any six lawful levels is lawful, since it is the six nested, each at its mark.
pub by_mark_lawful : (one two three four five six : Meaning) → Lawful one → Lawful two → Lawful three → Lawful four → Lawful five → Lawful six → Lawful (by_mark one two three four five six)
by_mark_lawful one two three four five six l1 l2 l3 l4 l5 l6 =
    lawful_like _ _ (marks_nest one two three four five six)
    (at_mark_lawful mark.ReadCommitted one _ l1
    (at_mark_lawful mark.ReadAtomic two _ l2
    (at_mark_lawful mark.Causal three _ l3
    (at_mark_lawful mark.Prefix four _ l4
    (at_mark_lawful mark.Snapshot five _ l5
    (at_mark_lawful mark.Serializable six _ l6 never_lawful))))))
