-- Sets of transaction numbers.
use Rattle.std.specs.Prelude.{◌≡◌, ℕ, ◌≤◌, Bool}
use Rattle.journal.specs.Limits.{most_transactions}
use Rattle.journal.specs.NumberSet.{has}
use Rattle.journal.specs.declared.number_set.NumberSet.{NumberSet}

-- Of the numbers that transactions can have, the set holds those that pass the test.
abbrev pub HoldsExactly : {N : ℕ} → NumberSet N → (ℕ → Bool) → Type 0
HoldsExactly s p = (n : ℕ) → n ≤ most_transactions → has s n ≡ p n
