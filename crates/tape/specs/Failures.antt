-- What is said of a failure.
use Rattle.std.specs.Prelude.{ℕ, ◌++◌, List, codes, decimal}
use Rattle.tape.specs.Limits.{longest_tape}
use Rattle.tape.specs.declared.failure.Failure.{Failure}
use Rattle.tape.specs.declared.failure.Failure.TheVariants.{NoMemory, Refused}

-- The text that is printed; a whole tape is refused only where it is too long.
abbrev pub text_of : Failure → List ℕ
text_of NoMemory = codes "there is not enough memory for the lines of the tape"
text_of (Refused e) = codes "the tape is longer than " ++ decimal longest_tape ++ codes " bytes"
