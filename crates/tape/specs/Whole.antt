-- What a whole tape prints.
use Rattle.std.specs.Prelude.{◌≡◌, ℕ, ◌<◌, ◌≤◌, List, [], ◌∷◌, ◌++◌, length, None, Ok, ◌≢◌}
use Rattle.journal.specs.declared.refusal.Refusal.TheVariants.{NoSuchPlace}
use Rattle.journal.specs.History.{History, answer, after}
use Rattle.tape.specs.declared.failure.Failure.{Failure}
use Rattle.tape.specs.declared.failure.Failure.TheVariants.{NoMemory, Refused}
use Rattle.tape.specs.Limits.{longest_tape}
use Rattle.tape.specs.Playing.{line_of, history_after, next_place}
use Rattle.tape.specs.Lines.{answer_line}
use Rattle.tape.specs.Records.{bytes_of, call_of, found_at, letter_of}
use Rattle.tape.specs.declared.request.Request.{Request}

-- The lines that a tape calls for from a place on, where the records before it made the history:
-- at the tape's end none; else the line of what stands there, and then those from the next place on.
pub data Lines (tape : List ℕ) : History → ℕ → List ℕ → Type 0 where
  ended : (h : History) (place : ℕ) → found_at tape place ≡ Ok None → Lines tape h place []
  played : (h : History) (place : ℕ) (more : List ℕ) → (found_at tape place ≢ Ok None) →
      Lines tape (history_after h (found_at tape place)) (next_place tape place (found_at tape place)) more →
      Lines tape h place (line_of h (found_at tape place) ++ more)

-- The tape of a list of requests: their bytes, one after another.
abbrev pub tape_of : List Request → List ℕ
tape_of [] = []
tape_of (q ∷ qs) = bytes_of q ++ tape_of qs

-- The answers of a list of requests, a line each: each call's own, on the history that the calls before it make of h.
abbrev pub answers_of : History → List Request → List ℕ
answers_of h [] = []
answers_of h (q ∷ qs) = answer_line (letter_of q) (answer h (call_of q)) ++ answers_of (after h (call_of q)) qs

-- These and no others are the lines of the whole tape, played on a new journal; a tape of requests prints their answers.
pub record AllLines (tape lines : List ℕ) : Type 0 where
  pub short : length tape ≤ longest_tape
  pub due : Lines tape [] 0 lines
  pub only : (others : List ℕ) → Lines tape [] 0 others → others ≡ lines
  pub answers : (qs : List Request) → tape ≡ tape_of qs → lines ≡ answers_of [] qs

-- There are none for want of memory, or since the tape is too long.
abbrev pub Failed : List ℕ → Failure → Type 0
Failed tape NoMemory = length tape ≤ longest_tape
Failed tape (Refused e) = (longest_tape < length tape) × (e ≡ NoSuchPlace)
