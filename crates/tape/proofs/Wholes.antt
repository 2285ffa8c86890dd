-- One line after another, along a tape.
use Rattle.std.proofs.Common.{◌≡◌, ℕ, ◌+◌, ◌≤◌, List, [], ◌++◌, length, take, Some, None, Ok, Option, ap, ◌∙◌, append_assoc, append-nil, rules}
use Rattle.journal.specs.declared.record.Journal.{Journal}
use Rattle.journal.specs.Calls.{of_journal}
use Rattle.journal.specs.History.{History}
use Rattle.tape.specs.Limits.{longest_tape}
use Rattle.tape.specs.Playing.{Turned, reply, next_place, line_of}
use Rattle.tape.specs.Records.{Found, found_at}
use Rattle.tape.specs.Whole.{AllLines, Lines, answers_of, ended, played}
use Rattle.tape.proofs.Requests.{lines_of_requests}
use Rattle.tape.proofs.Texts.{front_of_written}

-- The lines out were written up to the place: each list of lines from there on makes a whole with them.
pub record Onto (tape : List ℕ) (h : History) (place : ℕ) (out : List ℕ) : Type 0 where
  pub whole : (rest : List ℕ) → Lines tape h place rest → Lines tape [] 0 (out ++ rest)

-- What an answer of playing says of what stands at the place.
some_at : (h : History) (tape : List ℕ) (place n len : ℕ) (f : Found) → ◌≡◌ {A = Option (ℕ × ℕ)} (Some (n, len)) (reply h tape place f) →
    (f ≡ Ok None → ⊥) × (n ≡ next_place tape place f) × (len ≡ length (line_of h f))
some_at h tape place n len f e = search rules

none_at : (h : History) (tape : List ℕ) (place : ℕ) (f : Found) → ◌≡◌ {A = Option (ℕ × ℕ)} None (reply h tape place f) → f ≡ Ok None
none_at h tape place f e = search rules

-- One record was played, and its line is the front of the buffer.
pub onto_more : {tape : List ℕ} {place n len : ℕ} {j j' : Journal} {line line' out : List ℕ} → Turned tape place (found_at tape place) j line (Some (n, len)) j' line' →
    Onto tape (of_journal j) place out → Onto tape (of_journal j') n (out ++ take len line')
onto_more {tape} {place} {n} {len} {j} {j'} {line} {line'} {out} t k =
    let h : History = of_journal j in
    let f : Found = found_at tape place in
    let s = some_at h tape place n len f t.answers in
    let text : take len line' ≡ line_of h f = ap (take len) t.writes ∙ front_of_written line (line_of h f) len s.2 in
    record { whole = λ rest l. rw (append_assoc, text) (k.whole (line_of h f ++ rest) (played h place rest s.0 (rw (t.records, s.1) at l))) }

-- A tape calls for one list of lines.
lines_unique : (tape : List ℕ) (h : History) (place : ℕ) (a b : List ℕ) → Lines tape h place a → Lines tape h place b → a ≡ b
lines_unique tape h place a b (ended h₁ p₁ e) (ended h₂ p₂ f) = cc
lines_unique tape h place a b (ended h₁ p₁ e) (played h₂ p₂ more ne l) = absurd (ne e)
lines_unique tape h place a b (played h₁ p₁ more ne l) (ended h₂ p₂ e) = absurd (ne e)
lines_unique tape h place a b (played h₁ p₁ more ne l) (played h₂ p₂ more' ne' l') =
    ap (λ (x : List ℕ). line_of h (found_at tape place) ++ x) (lines_unique tape _ _ more more' l l')

-- The tape's end is reached: the lines so far are all.
pub onto_end : {tape : List ℕ} {place : ℕ} {j j' : Journal} {line line' out : List ℕ} → Turned tape place (found_at tape place) j line None j' line' →
    Onto tape (of_journal j) place out → length tape ≤ longest_tape → AllLines tape out
onto_end {tape} {place} {j} {j'} {line} {line'} {out} t k short =
    let h : History = of_journal j in
    let due : Lines tape [] 0 out = rw append-nil at (k.whole [] (ended h place (none_at h tape place (found_at tape place) t.answers))) in
    record {
      short = short;
      due = due;
      only = λ others l. lines_unique tape [] 0 others out l due;
      answers = λ qs e. lines_unique tape [] 0 out (answers_of [] qs) due (rw e (lines_of_requests [] [] qs));
    }
