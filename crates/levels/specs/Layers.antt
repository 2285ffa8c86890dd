-- What layers over levels answer.
use Rattle.std.specs.Prelude.{Bool, false, if◌then◌else◌, ◌&&◌, Some, None, Option, ◌==◌}
use Rattle.journal.specs.declared.mark.Mark.{Mark}
use Rattle.journal.specs.declared.mark.Mark.TheVariants as mark
use Rattle.journal.specs.Marks.{mark_number}
use Rattle.journal.specs.Dependencies.{mark_at}
use Rattle.levels.specs.Runs.{last}
use Rattle.levels.specs.Level.{Meaning}
use Rattle.levels.specs.Rule.{rule, read_committed, read_atomic, causal, prefix, conflict, serializable}

-- Yes where both levels say yes.
abbrev pub both : Meaning → Meaning → Meaning
both a b h run = a h run && b h run

abbrev pub never : Meaning
never h run = false

abbrev pub is_mark : Option Mark → Mark → Bool
is_mark None m = false
is_mark (Some n) m = mark_number n == mark_number m

-- One level where the last member has the mark, and the other elsewhere.
abbrev pub at_mark : Mark → Meaning → Meaning → Meaning
at_mark m a b h run = if is_mark (mark_at h (last run)) m then a h run else b h run

-- The level of a mark among six.
abbrev pub of_mark : (one two three four five six : Meaning) → Mark → Meaning
of_mark one two three four five six mark.ReadCommitted = one
of_mark one two three four five six mark.ReadAtomic = two
of_mark one two three four five six mark.Causal = three
of_mark one two three four five six mark.Prefix = four
of_mark one two three four five six mark.Snapshot = five
of_mark one two three four five six mark.Serializable = six

abbrev pub by : (Mark → Meaning) → Option Mark → Meaning
by levels None h run = false
by levels (Some m) h run = levels m h run

-- The answer of the level with the number of the last member's mark; no, where there is no such member.
abbrev pub by_mark : (one two three four five six : Meaning) → Meaning
by_mark one two three four five six h run = by (of_mark one two three four five six) (mark_at h (last run)) h run

abbrev pub snapshot : Meaning
snapshot = both (rule prefix) (rule conflict)

abbrev pub standing : Meaning
standing = by_mark (rule read_committed) (rule read_atomic) (rule causal) (rule prefix) snapshot (rule serializable)
