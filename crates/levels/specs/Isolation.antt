-- The levels by name: what each answers, and its axiom.
use Rattle.std.specs.Prelude.{ℕ, List}
use Rattle.journal.specs.History.{History}
use Rattle.levels.specs.Axioms.{ReadCommitted, ReadAtomic, Causal, Prefix, Conflict, Serializable, Obeys, Snapshot, Standing}
use Rattle.levels.specs.Causality.{causal_tells}
use Rattle.levels.specs.Laws.{rule_lawful}
use Rattle.levels.specs.Layering.{both_lawful, by_mark_lawful}
use Rattle.levels.specs.Layers.{snapshot, standing}
use Rattle.levels.specs.Level.{Meaning, Lawful}
use Rattle.levels.specs.Rule.{rule, read_committed, read_atomic, causal, prefix, conflict, serializable}
use Rattle.levels.specs.Sharing.{read_committed_local, read_atomic_local, causal_local, prefix_local, conflict_local, serializable_local, read_committed_thinned, read_atomic_thinned, causal_thinned, prefix_thinned, conflict_thinned, serializable_thinned}
use Rattle.levels.specs.Sights.{read_committed_tells, read_atomic_tells, prefix_tells, conflict_tells, serializable_tells}
use Rattle.levels.specs.declared.isolation.Isolation.{Isolation}
use Rattle.levels.specs.declared.isolation.Isolation.TheVariants as level

-- What the level answers.
abbrev pub meaning_of : Isolation → Meaning
meaning_of level.ReadCommitted = rule read_committed
meaning_of level.ReadAtomic = rule read_atomic
meaning_of level.Causal = rule causal
meaning_of level.Prefix = rule prefix
meaning_of level.Conflict = rule conflict
meaning_of level.Snapshot = snapshot
meaning_of level.Serializable = rule serializable
meaning_of level.Standing = standing

-- What the level asks of a run.
abbrev pub AxiomOf : Isolation → History → List ℕ → Type 0
AxiomOf level.ReadCommitted = Obeys ReadCommitted
AxiomOf level.ReadAtomic = Obeys ReadAtomic
AxiomOf level.Causal = Obeys Causal
AxiomOf level.Prefix = Obeys Prefix
AxiomOf level.Conflict = Obeys Conflict
AxiomOf level.Snapshot = Snapshot
AxiomOf level.Serializable = Obeys Serializable
AxiomOf level.Standing = Standing

-- Each is lawful: the six rules, both of prefix and conflict, and by mark over those.
pub isolation_lawful : (level : Isolation) → Lawful (meaning_of level)
isolation_lawful =
    let of_read_committed = rule_lawful read_committed ReadCommitted read_committed_tells read_committed_local read_committed_thinned in
    let of_read_atomic = rule_lawful read_atomic ReadAtomic read_atomic_tells read_atomic_local read_atomic_thinned in
    let of_causal = rule_lawful causal Causal causal_tells causal_local causal_thinned in
    let of_prefix = rule_lawful prefix Prefix prefix_tells prefix_local prefix_thinned in
    let of_conflict = rule_lawful conflict Conflict conflict_tells conflict_local conflict_thinned in
    let of_snapshot = both_lawful (rule prefix) (rule conflict) of_prefix of_conflict in
    let of_serializable = rule_lawful serializable Serializable serializable_tells serializable_local serializable_thinned in
    elim [
      | level.ReadCommitted ↦ of_read_committed
      | level.ReadAtomic ↦ of_read_atomic
      | level.Causal ↦ of_causal
      | level.Prefix ↦ of_prefix
      | level.Conflict ↦ of_conflict
      | level.Snapshot ↦ of_snapshot
      | level.Serializable ↦ of_serializable
      | level.Standing ↦ by_mark_lawful _ _ _ _ _ _ of_read_committed of_read_atomic of_causal of_prefix of_snapshot of_serializable
    ]
