-- What stands on a tape.
use Rattle.std.specs.Prelude.{◌≡◌, ℕ, ◌+◌, ◌<◌, ◌≤◌, if◌then◌else◌, ◌⊎◌, List, [], ◌∷◌, ◌++◌, length, drop, Some, None, Ok, Err, Option, Result, ◌==◌, nat_le, slice_index}
use Rattle.journal.specs.declared.refusal.Refusal.{Refusal}
use Rattle.journal.specs.declared.refusal.Refusal.TheVariants.{UnknownKind, CutShort}
use Rattle.journal.specs.History.{Call, begin, read, write, commit, abort}
use Rattle.tape.specs.declared.request.Request.{Request}
use Rattle.tape.specs.declared.request.Request.TheVariants.{Begin, Read, Write, Commit, Abort}
use Rattle.tape.specs.declared.decoding.Fault.{Fault}
use Rattle.tape.specs.declared.decoding.Record.{Record}

abbrev pub call_of : Request → Call
call_of (Begin k m) = begin k m
call_of (Read k r s) = read k r s
call_of (Write k r) = write k r
call_of (Commit k) = commit k
call_of (Abort k) = abort k

-- The letters B, R, W, C and A.
abbrev pub letter_of : Request → ℕ
letter_of (Begin k m) = 66
letter_of (Read k r s) = 82
letter_of (Write k r) = 87
letter_of (Commit k) = 67
letter_of (Abort k) = 65

abbrev pub body_of : Request → List ℕ
body_of (Begin k m) = k ∷ m ∷ []
body_of (Read k r s) = k ∷ r ∷ s ∷ []
body_of (Write k r) = k ∷ r ∷ []
body_of (Commit k) = k ∷ []
body_of (Abort k) = k ∷ []

-- The bytes of a record: the letter of its kind, then its body.
abbrev pub bytes_of : Request → List ℕ
bytes_of q = letter_of q ∷ body_of q

-- How long a body the kind fixes; no other kind is known.
abbrev pub body_size : ℕ → Option ℕ
body_size kind =
    if kind == 66 then Some 2
    else (if kind == 82 then Some 3
    else (if kind == 87 then Some 2
    else (if kind == 67 then Some 1
    else (if kind == 65 then Some 1 else None))))

-- A kind that is not known, or a body that the tape's end cuts short.
abbrev pub Fails : ℕ → List ℕ → Refusal → Type 0
Fails kind body why =
    ((body_size kind ≡ None) × (why ≡ UnknownKind))
    ⊎ ((n : ℕ) × (body_size kind ≡ Some n) × (length body < n) × (why ≡ CutShort))

-- What stands at a place of a tape: nothing, at its end; a record; or a fault.
abbrev pub Found : Type 0
Found = Result (Option Record) Fault

-- What stands at the front of a part of a tape that begins at the place: nothing, where it has ended;
-- a record, with its length; or a fault, with the place of the kind byte.
abbrev pub Stands : List ℕ → ℕ → Found → Type 0
Stands tape place (Ok None) = tape ≡ []
Stands tape place (Ok (Some r)) = (rest : List ℕ) × (tape ≡ bytes_of r.request ++ rest) × (r.size ≡ length (bytes_of r.request))
Stands tape place (Err f) = (kind : ℕ) × (body : List ℕ) × (tape ≡ kind ∷ body) × Fails kind body f.why × (f.place ≡ place)

-- A body of n bytes, if there are as many.
abbrev pub with_body : ℕ → List ℕ → ℕ → Request → Found
with_body n body place request =
    if nat_le n (length body) then Ok (Some (record { request = request; size = n + 1 }))
    else Err (record { why = CutShort; place = place })

abbrev pub of_kind : ℕ → List ℕ → ℕ → Found
of_kind kind body place =
    if kind == 66 then with_body 2 body place (Begin (slice_index body 0) (slice_index body 1))
    else (if kind == 82 then with_body 3 body place (Read (slice_index body 0) (slice_index body 1) (slice_index body 2))
    else (if kind == 87 then with_body 2 body place (Write (slice_index body 0) (slice_index body 1))
    else (if kind == 67 then with_body 1 body place (Commit (slice_index body 0))
    else (if kind == 65 then with_body 1 body place (Abort (slice_index body 0))
    else Err (record { why = UnknownKind; place = place })))))

-- What stands there, worked out.
abbrev pub decoded : List ℕ → ℕ → Found
decoded tape place = if length tape == 0 then Ok None else of_kind (slice_index tape 0) (drop 1 tape) place

-- What stands at a place of the tape.
abbrev pub found_at : List ℕ → ℕ → Found
found_at tape place = decoded (drop place tape) place

-- Every record is read back from its bytes, whatever follows them.
abbrev pub ReadsBack : Type 0
ReadsBack = (q : Request) (rest : List ℕ) (place : ℕ) → decoded (bytes_of q ++ rest) place ≡ Ok (Some (record { request = q; size = length (bytes_of q) }))

-- A record is not empty and lies within the tape; without one the tape is at its end, or there is a fault.
abbrev pub Fitting : List ℕ → ℕ → Found → Type 0
Fitting tape place (Ok None) = length tape ≤ place
Fitting tape place (Ok (Some r)) = (0 < r.size) × (place + r.size ≤ length tape)
Fitting tape place (Err f) = place < length tape
