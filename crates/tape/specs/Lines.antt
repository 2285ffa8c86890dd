-- The lines that playing prints.
use Rattle.std.specs.Prelude.{ℕ, ◌+◌, List, ◌∷◌, ◌++◌, codes, length, take, drop, Ok, Err, decimal, Result}
use Rattle.journal.specs.declared.refusal.Refusal.{Refusal}
use Rattle.journal.specs.Refusals.{refusal_number}
use Rattle.tape.specs.declared.decoding.Fault.{Fault}

-- The bytes xs after the text was written over them from a place on.
unfoldable pub written : List ℕ → ℕ → List ℕ → List ℕ
written xs at text = take at xs ++ (text ++ drop (at + length text) xs)

-- The number of an answer, or ! and that of a refusal.
abbrev pub outcome : Result ℕ Refusal → List ℕ
outcome (Ok n) = decimal n
outcome (Err e) = codes "!" ++ decimal (refusal_number e)

-- The letter, a space, the outcome and a newline.
abbrev pub answer_line : ℕ → Result ℕ Refusal → List ℕ
answer_line letter r = (letter ∷ codes " ") ++ (outcome r ++ codes "\n")

-- `? `, the number, ` at `, the place and a newline.
abbrev pub fault_line : Fault → List ℕ
fault_line f = codes "? " ++ (decimal (refusal_number f.why) ++ (codes " at " ++ (decimal f.place ++ codes "\n")))
