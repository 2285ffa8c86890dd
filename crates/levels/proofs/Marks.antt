-- Marks on the earlier members of a closed run, and what they show of the run.
use Rattle.std.proofs.Common.{◌≡◌, ℕ, ◌-◌, ◌<◌, ◌≤◌, Bool, ◌&&◌, leb, List, [], ◌∷◌, ◌++◌, length, sym, ap, ◌∙◌, length-append, arith}
use Rattle.std.proofs.Math.ListN.{get_or-append}
use Rattle.std.proofs.lemmas.List.{get_or_push}
use Rattle.journal.specs.Limits.{most_transactions}
use Rattle.journal.specs.History.{History, Reached}
use Rattle.levels.specs.Runs.{member, last, Once, Closed}
use Rattle.levels.specs.Rule.{from_place, up_to}
use Rattle.levels.specs.Tests.{some_below}
use Rattle.levels.proofs.Below.{some_same}
use Rattle.levels.specs.Closedness.{once_same}
use Rattle.levels.proofs.Members.{member_fits}

pub last_push : (xs : List ℕ) (t : ℕ) → last (xs ++ t ∷ []) ≡ t
last_push xs t = get_or_push xs t 0 (length (xs ++ t ∷ []) - 1) (omega (arith, length-append xs (t ∷ [])))

module _ (h : History) (r : Reached h) (xs : List ℕ) (t : ℕ) (c : Closed h (xs ++ t ∷ [])) where
  long : length (xs ++ t ∷ []) - 1 ≡ length xs
  long = omega (arith, length-append xs (t ∷ []))

  same : (k : ℕ) → k < length xs → member (xs ++ t ∷ []) k ≡ member xs k
  same k l = get_or-append xs (t ∷ []) 0 k l

  fits : (k : ℕ) → k < length xs → member xs k ≤ most_transactions
  fits k l = rw (same k l) at (member_fits h r (xs ++ t ∷ []) c k (omega (arith, long)))

  once : (j : ℕ) → j < length xs → Once xs j
  once j lj k lk e = once_same h (xs ++ t ∷ []) c k j (omega (arith, long)) (omega (arith, long)) (same k lk ∙ e ∙ sym (same j lj))

  -- Marks that tell a test tell, of the members up to a marked one, those up to one that passes.
  pub marked_shows : (held marked p : ℕ → Bool) → ((j : ℕ) → j < length xs → member xs j ≤ most_transactions → Once xs j → held (member xs j) ≡ from_place marked xs (length xs) j) → ((k : ℕ) → k < length xs → member xs k ≤ most_transactions → marked (member xs k) ≡ p (member xs k)) → (j : ℕ) → j < length (xs ++ t ∷ []) - 1 → held (member (xs ++ t ∷ []) j) ≡ up_to p (xs ++ t ∷ []) j
  marked_shows held marked p shows tells j l =
      let lj : j < length xs = omega (arith, long) in
      ap held (same j lj) ∙ shows j lj (fits j lj) (once j lj)
      ∙ some_same _ (λ k. leb j k && p (member (xs ++ t ∷ []) k)) (length xs) (λ k lk. ap (λ b. leb j k && b) (tells k lk (fits k lk) ∙ ap p (sym (same k lk))))
      ∙ (λ i. some_below (λ k. leb j k && p (member (xs ++ t ∷ []) k)) (sym long i))
