-- What the answers to the parts of a rule's question make of the whole.
use Rattle.std.proofs.Common.{◌≡◌, ℕ, ◌+◌, ◌-◌, ◌<◌, ◌≤◌, Bool, true, false, ltb, List, [], ◌∷◌, ◌++◌, length, take, get_or, Decides, sym, subst, ◌∙◌, arith}
use Rattle.std.proofs.lemmas.Bool.{and_from, and_left, and_right, lt-ltb}
use Rattle.std.proofs.lemmas.List.{take_more, take_all}
use Rattle.std.proofs.lemmas.Bool.Decides.{Decides-at}
use Rattle.journal.specs.declared.transaction.OuterRead.{OuterRead}
use Rattle.journal.specs.Limits.{most_transactions}
use Rattle.journal.specs.History.{History}
use Rattle.journal.specs.Dependencies.{no_read, reads_at}
use Rattle.levels.specs.Axioms.{Sight, Obeys}
use Rattle.journal.specs.NumberSet.{has}
use Rattle.journal.specs.declared.number_set.NumberSet.{NumberSet}
use Rattle.levels.specs.Rule.{Visible, allowed, read_kept, rule}
use Rattle.levels.specs.Runs.{member, last}
use Rattle.levels.specs.Tests.{all_below, closed}
use Rattle.levels.specs.Visibility.{Tells, Shows, ShowsFirst}
use Rattle.levels.proofs.Below.{all_same, all_fails}
use Rattle.levels.specs.Laws.{rule_decides}

module _ (visible : Visible) (h : History) (run : List ℕ) where
  pub not_closed : closed h run ≡ false → false ≡ rule visible h run
  not_closed e = sym (and_right (ltb 0 (length run)) _ (and_left (closed h run) _ e))

  pub not_kept : (i : ℕ) → i < length (reads_at h (last run)) → read_kept visible h run i ≡ false → false ≡ rule visible h run
  not_kept i l e = sym (and_right (ltb 0 (length run)) _ (and_right (closed h run) _ (all_fails (read_kept visible h run) _ i l e)))

  pub all_kept : 0 < length run → closed h run ≡ true → all_below (read_kept visible h run) (length (reads_at h (last run))) ≡ true → true ≡ rule visible h run
  all_kept l c e = sym (and_from (ltb 0 (length run)) _ (lt-ltb 0 (length run) l) (and_from (closed h run) _ c e))

  -- What the set shows is what the read sees.
  pub kept_by : (i : ℕ) {N : ℕ} (seen : NumberSet N) (read : OuterRead) → ((j : ℕ) → j < length run → member run j ≤ most_transactions) → Shows visible h run i seen → get_or (reads_at h (last run)) i no_read ≡ read → all_below (λ j. allowed h run (has seen (member run j)) read.row read.source j) (length run - 1) ≡ read_kept visible h run i
  kept_by i seen read fits shows e =
      all_same (λ j. allowed h run (has seen (member run j)) read.row read.source j) _ (length run - 1)
      (λ j l. let s = shows j l (fits j (omega arith)) in let q = sym e in λ z. allowed h run (s z) (q z).row (q z).source j)

  -- The answer of the meaning is the answer of the axiom.
  pub answers : (Sees : Sight) → Tells visible Sees → {r : Bool} → r ≡ rule visible h run → record { meaning : r ≡ rule visible h run; exactly : Decides r (Obeys Sees h run) }
  answers Sees tells {r} e = record { meaning = e; exactly = Decides-at r (rule visible h run) e (rule_decides visible Sees tells h run) }

-- A run that is not empty is its earlier members and its last one.
pub front_last : (run : List ℕ) → 0 < length run → take (length run - 1) run ++ last run ∷ [] ≡ run
front_last run l = sym (take_more run (length run - 1) 0 (omega arith)) ∙ take_all (length run - 1 + 1) run (omega arith)

-- So what is shown of these is shown of the run.
pub shows_run : (visible : Visible) (h : History) (run : List ℕ) {N : ℕ} (seen : NumberSet N) → 0 < length run → ShowsFirst visible h (take (length run - 1) run ++ last run ∷ []) seen → ShowsFirst visible h run seen
shows_run visible h run seen l f = subst (λ (xs : List ℕ). ShowsFirst visible h xs seen) (front_last run l) f
