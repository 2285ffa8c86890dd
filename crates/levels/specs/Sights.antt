-- What the tests of visibility decide, but for that of chains.
use Rattle.std.specs.Prelude.{ℕ, ◌-◌, ◌<◌, ◌≤◌, Bool, List, length, Decides, refl}
use Rattle.std.proofs.lemmas.Bool.Decides.{Decides-and, Decides-eqb}
use Rattle.journal.specs.Dependencies.{reads_at, source_of, Direct, BothWrote}
use Rattle.levels.specs.Runs.{member, last}
use Rattle.levels.specs.Axioms.{ReadCommitted, ReadAtomic, Prefix, Conflict, Serializable}
use Rattle.levels.specs.Tests.{direct, both_wrote}
use Rattle.levels.specs.Rule.{up_to, read_committed, read_atomic, prefix, conflict, serializable}
use Rattle.levels.specs.Visibility.{Tells}
use Rattle.levels.specs.Decided.{decides_leb, decides_some, decides_or_below}
use Rattle.levels.specs.Dependent.{session_decides, direct_decides, both_wrote_decides}

pub read_committed_tells : Tells read_committed ReadCommitted
read_committed_tells h run i j c li lj = decides_or_below _ _ _ i (session_decides h (member run j) (last run)) (λ k _. Decides-eqb (source_of (reads_at h (last run)) k) (member run j))

pub read_atomic_tells : Tells read_atomic ReadAtomic
read_atomic_tells h run i j c li lj = direct_decides h (member run j) (last run)

up_to_decides : (p : ℕ → Bool) (P : ℕ → Type 0) → ((v : ℕ) → Decides (p v) (P v)) → (run : List ℕ) (j : ℕ) → Decides (up_to p run j) ((k : ℕ) × (k < length run - 1) × ((j ≤ k) × P (member run k)))
up_to_decides p P each run j = decides_some _ _ (length run - 1) (λ k _. Decides-and _ _ (decides_leb j k) (each (member run k)))

pub prefix_tells : Tells prefix Prefix
prefix_tells h run i j c li lj = up_to_decides (λ v. direct h v (last run)) (λ v. Direct h v (last run)) (λ v. direct_decides h v (last run)) run j

pub conflict_tells : Tells conflict Conflict
conflict_tells h run i j c li lj = up_to_decides (λ v. both_wrote h v (last run)) (λ v. BothWrote h v (last run)) (λ v. both_wrote_decides h v (last run)) run j

pub serializable_tells : Tells serializable Serializable
serializable_tells h run i j c li lj = (λ _. lj, λ _. refl)
