-- What has ended stays as it is.
use Rattle.std.proofs.Common.{◌≡◌, ℕ, ◌-◌, ◌<◌, false, List, [], ◌∷◌, length, refl, ap, ◌∙◌, arith}
use Rattle.std.proofs.lemmas.List.{length-set, length_push, get_or_append_left}
use Rattle.std.proofs.lemmas.Bool.{both_ways}
use Rattle.journal.specs.Transactions.{is_open, begun}
use Rattle.journal.specs.History.{History, Call, HasNumber, history, history_from, after, nobody, numbered}
use Rattle.journal.specs.Rules.{EndedStays}
use Rattle.journal.proofs.Numbers.{set_cases}
use Rattle.journal.proofs.Reaching.{history-append}
use Rattle.journal.proofs.Opens.{opened}
use Rattle.journal.proofs.Changes.{Change, same, more, edited, after_change}

stays_change : (h h' : History) → Change h h' → (n : ℕ) → HasNumber h n → is_open (numbered h n).state ≡ false → HasNumber h' n × (numbered h' n ≡ numbered h n)
stays_change h h' same n p e = (p, refl)
stays_change h h' (more k m kl o l) n p e =
    let lt : n - 1 < length h = omega (arith, p) in
    ((p.0, omega (arith, p, length_push h (begun k m))), get_or_append_left h (begun k m ∷ []) nobody (n - 1) lt)
stays_change h h' (edited k q t o d) n p e =
    let f = opened h k q o in (
      (p.0, omega (arith, p, length-set h (q - 1) t)),
      set_cases (λ x. x ≡ numbered h n) h (q - 1) (n - 1) t f.place
          (λ z. absurd (both_ways (is_open (numbered h q).state) (rw z at e) f.still_open))
          (λ ne. refl),
    )

stays_from : (h : History) (cs : List Call) (n : ℕ) → HasNumber h n → is_open (numbered h n).state ≡ false → HasNumber (history_from h cs) n × (numbered (history_from h cs) n ≡ numbered h n)
stays_from h [] n p e = (p, refl)
stays_from h (c ∷ cs) n p e =
    let a = stays_change h (after h c) (after_change h c) n p e in
    let b = stays_from (after h c) cs n a.0 (ap (λ t. is_open t.state) a.1 ∙ e) in
    (b.0, b.1 ∙ a.1)

pub ended_stays : EndedStays
ended_stays cs ds n p e = rw (history-append cs ds) (stays_from (history cs) ds n p e)
