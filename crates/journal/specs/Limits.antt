-- The limits of a journal.
use Rattle.std.specs.Prelude.{ℕ}

-- Kiosks are numbered from 0, and there are as many.
abbrev pub kiosk_count : ℕ
kiosk_count = 8

-- Rows are numbered from 0, and there are as many.
abbrev pub row_count : ℕ
row_count = 64

-- The most transactions that can begin.
abbrev pub most_transactions : ℕ
most_transactions = 32

-- The most outer reads that a transaction can have.
abbrev pub most_reads : ℕ
most_reads = 16
