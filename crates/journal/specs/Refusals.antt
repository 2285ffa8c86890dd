-- The numbers by which refusals are published.
use Rattle.std.specs.Prelude.{ℕ}
use Rattle.journal.specs.declared.refusal.Refusal.{Refusal}
use Rattle.journal.specs.declared.refusal.Refusal.TheVariants.{NoSuchKiosk, NoSuchMark, AlreadyOpen, JournalFull, NothingOpen, NoSuchRow, NotOwnNumber, NoSuchSource, TooManyReads, UnknownKind, CutShort, ShortLine, NoSuchPlace}

abbrev pub refusal_number : Refusal → ℕ
refusal_number NoSuchKiosk = 1
refusal_number NoSuchMark = 2
refusal_number AlreadyOpen = 3
refusal_number JournalFull = 4
refusal_number NothingOpen = 5
refusal_number NoSuchRow = 6
refusal_number NotOwnNumber = 7
refusal_number NoSuchSource = 8
refusal_number TooManyReads = 9
refusal_number UnknownKind = 12
refusal_number CutShort = 13
refusal_number ShortLine = 14
refusal_number NoSuchPlace = 15
