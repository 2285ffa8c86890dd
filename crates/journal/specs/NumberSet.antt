-- Sets of numbers.
use Rattle.std.specs.Prelude.{ℕ, Bool, false, List, slice_index_or}
use Rattle.journal.specs.declared.number_set.NumberSet.{NumberSet}

-- Of each number from 0, whether it is in the set.
abbrev pub flags : {N : ℕ} → NumberSet N → List Bool
flags s = s.held

-- The set holds the number; none beyond the list's end is held.
abbrev pub has : {N : ℕ} → NumberSet N → ℕ → Bool
has s n = slice_index_or (flags s) n false
