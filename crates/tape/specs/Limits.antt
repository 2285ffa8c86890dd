-- The limits of playing.
use Rattle.std.specs.Prelude.{ℕ}

-- The fewest bytes that a line buffer may have, and the most that a line takes.
abbrev pub line_room : ℕ
line_room = 96

-- The most bytes that a tape may have.
abbrev pub longest_tape : ℕ
longest_tape = 65536
