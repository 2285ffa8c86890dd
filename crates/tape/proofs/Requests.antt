-- A tape of requests prints their answers.
use Rattle.std.proofs.Common.{◌≡◌, ℕ, List, [], ◌∷◌, ◌++◌, length, Some, Ok, refl, ap, ◌∙◌, append_assoc, arith, length-append, rules}
use Rattle.std.proofs.lemmas.List.{drop_all, drop_at}
use Rattle.journal.specs.History.{History, after}
use Rattle.tape.specs.declared.request.Request.{Request}
use Rattle.tape.specs.Playing.{line_of}
use Rattle.tape.specs.Records.{ReadsBack, bytes_of, call_of, decoded, found_at}
use Rattle.tape.specs.Whole.{Lines, answers_of, ended, played, tape_of}

reads_back : ReadsBack
reads_back = search rules

-- Behind other bytes, a tape of requests calls for their answers.
pub lines_of_requests : (front : List ℕ) (h : History) (qs : List Request) → Lines (front ++ tape_of qs) h (length front) (answers_of h qs)
lines_of_requests front h [] = ended h (length front) (rw (drop_all (length front) (front ++ []) (omega (arith, length-append front []))))
lines_of_requests front h (q ∷ qs) =
    let place : ℕ = length front in
    let tape : List ℕ = front ++ (bytes_of q ++ tape_of qs) in
    let more : List ℕ = answers_of (after h (call_of q)) qs in
    let here : found_at tape place ≡ Ok (Some (record { request = q; size = length (bytes_of q) })) = ap (λ (l : List ℕ). decoded l place) (drop_at front (bytes_of q ++ tape_of qs) place refl) ∙ reads_back q (tape_of qs) place in
    let rest = rw (append_assoc front (bytes_of q) (tape_of qs), length-append front (bytes_of q)) at (lines_of_requests (front ++ bytes_of q) (after h (call_of q)) qs) in
    let line : Lines tape h place (line_of h (found_at tape place) ++ more) = played h place more (rw here (λ e. cc)) (rw here rest) in
    rw here at line
