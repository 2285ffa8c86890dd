-- What a list of at most so many values stands for.
use Rattle.std.specs.Prelude.{ℕ, List, take}
use Rattle.journal.specs.declared.few.Few.{Few}

abbrev pub items : {T : Type 0} {N : ℕ} → Few T N → List T
items f = take f.len f.places
