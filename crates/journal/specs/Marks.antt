-- Marks and their numbers.
use Rattle.std.specs.Prelude.{ℕ, if◌then◌else◌, Some, None, Option, ◌==◌}
use Rattle.journal.specs.declared.mark.Mark.{Mark}
use Rattle.journal.specs.declared.mark.Mark.TheVariants.{ReadCommitted, ReadAtomic, Causal, Prefix, Snapshot, Serializable}

abbrev pub mark_number : Mark → ℕ
mark_number ReadCommitted = 1
mark_number ReadAtomic = 2
mark_number Causal = 3
mark_number Prefix = 4
mark_number Snapshot = 5
mark_number Serializable = 6

-- The mark that has the number, where there is one.
abbrev pub mark_of : ℕ → Option Mark
mark_of n =
    if n == 1 then Some ReadCommitted
    else (if n == 2 then Some ReadAtomic
    else (if n == 3 then Some Causal
    else (if n == 4 then Some Prefix
    else (if n == 5 then Some Snapshot
    else (if n == 6 then Some Serializable else None)))))
