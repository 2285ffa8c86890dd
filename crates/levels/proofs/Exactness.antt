-- Each level says yes exactly where its axiom holds.
use Rattle.std.specs.Prelude.{◌≡◌, ◌↔◌, ℕ, Bool, List, IsTrue, false, Some, None, Option, refl}
use Rattle.std.proofs.Common.{subst, arith}
use Rattle.std.proofs.lemmas.Bool.{both_ways}
use Rattle.std.proofs.lemmas.Bool.Decides.{Decides-and}
use Rattle.journal.specs.declared.mark.Mark.{Mark}
use Rattle.journal.specs.declared.mark.Mark.TheVariants as mark
use Rattle.journal.specs.History.{History}
use Rattle.journal.specs.Dependencies.{mark_at}
use Rattle.levels.specs.Axioms.{ReadCommitted, ReadAtomic, Causal, Prefix, Conflict, Serializable, Snapshot, Axiom, Standing}
use Rattle.levels.specs.Causality.{causal_tells}
use Rattle.levels.specs.Isolation.{AxiomOf, meaning_of}
use Rattle.levels.specs.Laws.{rule_decides}
use Rattle.levels.specs.Layers.{of_mark, by, snapshot, standing}
use Rattle.levels.specs.Level.{Meaning, Exact}
use Rattle.levels.specs.declared.isolation.Isolation.{Isolation}
use Rattle.levels.specs.declared.isolation.Isolation.TheVariants as level
use Rattle.levels.specs.Rule.{rule, read_committed, read_atomic, causal, prefix, conflict, serializable}
use Rattle.levels.specs.Runs.{last}
use Rattle.levels.specs.Sights.{read_committed_tells, read_atomic_tells, prefix_tells, conflict_tells, serializable_tells}

pub snapshot_decides : Exact snapshot Snapshot
snapshot_decides h run = Decides-and _ _ (rule_decides prefix Prefix prefix_tells h run) (rule_decides conflict Conflict conflict_tells h run)

-- The level of each mark among the six.
abbrev levels : Mark → Meaning
levels = of_mark (rule read_committed) (rule read_atomic) (rule causal) (rule prefix) snapshot (rule serializable)

axiom_decides : (m : Mark) → Exact (levels m) (Axiom m)
axiom_decides mark.ReadCommitted = rule_decides read_committed ReadCommitted read_committed_tells
axiom_decides mark.ReadAtomic = rule_decides read_atomic ReadAtomic read_atomic_tells
axiom_decides mark.Causal = rule_decides causal Causal causal_tells
axiom_decides mark.Prefix = rule_decides prefix Prefix prefix_tells
axiom_decides mark.Snapshot = snapshot_decides
axiom_decides mark.Serializable = rule_decides serializable Serializable serializable_tells

by_decides : (o : Option Mark) → Exact (by levels o) (λ h run. (m : Mark) × (o ≡ Some m) × Axiom m h run)
by_decides None h run = (λ e. absurd (both_ways false refl e), λ p. let q = p.1 in absurd (grind arith))
by_decides (Some m) h run = (
  λ e. (m, refl, (axiom_decides m h run).0 e),
  λ p. let q = p.1 in let same : p.0 ≡ m = grind arith in (axiom_decides m h run).1 (subst (λ (n : Mark). Axiom n h run) same p.2),
)

pub standing_decides : Exact standing Standing
standing_decides h run = by_decides (mark_at h (last run)) h run

level_decides : (l : Isolation) → Exact (meaning_of l) (AxiomOf l)
level_decides level.ReadCommitted = rule_decides read_committed ReadCommitted read_committed_tells
level_decides level.ReadAtomic = rule_decides read_atomic ReadAtomic read_atomic_tells
level_decides level.Causal = rule_decides causal Causal causal_tells
level_decides level.Prefix = rule_decides prefix Prefix prefix_tells
level_decides level.Conflict = rule_decides conflict Conflict conflict_tells
level_decides level.Snapshot = snapshot_decides
level_decides level.Serializable = rule_decides serializable Serializable serializable_tells
level_decides level.Standing = standing_decides

-- So an answer that is the meaning's is a yes exactly where the axiom holds.
pub answer_decides : (l : Isolation) (h : History) (run : List ℕ) (r : Bool) → r ≡ meaning_of l h run → IsTrue r ↔ AxiomOf l h run
answer_decides l h run r e = rw e (level_decides l h run)
