-- What can serve a row, and that later calls leave it so.
use Rattle.std.proofs.Common.{◌≡◌, ℕ, ◌-◌, ◌<◌, true, false, eqb, ◌⊎◌, [], ◌∷◌, length, refl, inl, inr, arith}
use Rattle.std.proofs.lemmas.List.{length-set, length_push, get_or_append_left}
use Rattle.std.proofs.lemmas.Bool.{or_cases, or_left, or_right, and_parts, eqb-true, eq-eqb, both_ways}
use Rattle.journal.specs.Transactions.{is_open, is_committed, has_row, serves, begun}
use Rattle.journal.specs.History.{History, HasNumber, nobody, numbered, at_number, found_serves, can_serve}
use Rattle.journal.specs.declared.transaction.State.{State}
use Rattle.journal.specs.declared.transaction.State.TheVariants.{Open, Committed, Aborted}
use Rattle.journal.proofs.Numbers.{at_number_is, set_cases, test_finds}
use Rattle.journal.proofs.Opens.{opened}
use Rattle.journal.proofs.Changes.{Change, same, more, edited}

pub not_both : (s : State) → is_open s ≡ true → is_committed s ≡ true → ⊥
not_both Open a b = both_ways false refl b
not_both Committed a b = both_ways false refl a
not_both Aborted a b = both_ways false refl a

-- What a source needs, taken apart and put together.
pub serve_parts : (h : History) (r s : ℕ) → can_serve h r s ≡ true → (s ≡ 0) ⊎ (HasNumber h s × (serves (numbered h s) r ≡ true))
serve_parts h r s e =
    elim (or_cases (eqb s 0) (found_serves (at_number h s) r) e) [
      | inl z ↦ inl (eqb-true s 0 z)
      | inr b ↦ inr (test_finds h s (λ o. found_serves o r) refl b)
    ]

serve_zero : (h : History) (r s : ℕ) → s ≡ 0 → can_serve h r s ≡ true
serve_zero h r s e = or_left (eqb s 0) (found_serves (at_number h s) r) (eq-eqb s 0 e)

serve_from : (h : History) (r s : ℕ) → HasNumber h s → serves (numbered h s) r ≡ true → can_serve h r s ≡ true
serve_from h r s p e = or_right (eqb s 0) (found_serves (at_number h s) r) (rw (at_number_is h s p) e)

pub serve_kept : (h h' : History) → Change h h' → (r s : ℕ) → can_serve h r s ≡ true → can_serve h' r s ≡ true
serve_kept h h' same r s e = e
serve_kept h h' (more k m kl o l) r s e =
    elim (serve_parts h r s e) [
      | inl z ↦ serve_zero h' r s z
      | inr p ↦
          let lt : s - 1 < length h = omega (arith, p.0) in
          serve_from h' r s (p.0.0, omega (arith, p.0, length_push h (begun k m))) (rw (get_or_append_left h (begun k m ∷ []) nobody (s - 1) lt) p.1)
    ]
serve_kept h h' (edited k n t o d) r s e =
    elim (serve_parts h r s e) [
      | inl z ↦ serve_zero h' r s z
      | inr p ↦
          let f = opened h k n o in
          serve_from h' r s (p.0.0, omega (arith, p.0, length-set h (n - 1) t))
          (set_cases (λ x. serves x r ≡ true) h (n - 1) (s - 1) t f.place
          (λ q. absurd (not_both (numbered h n).state f.still_open (rw q at (and_parts (is_committed (numbered h s).state) (has_row (numbered h s) r) p.1).0)))
          (λ ne. p.1))
    ]
