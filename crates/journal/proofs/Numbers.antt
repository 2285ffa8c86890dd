-- Looking a transaction up by its number.
use Rattle.std.proofs.Common.{◌≡◌, ℕ, suc, ◌+◌, ◌-◌, ◌<◌, ◌≤◌, Bool, true, false, cond, ◌&&◌, leb, ◌∷◌, length, get_or, set, Some, None, Option, refl, inl, inr, arith}
use Rattle.std.proofs.lemmas.List.{get_or-set_same, get_or-set_other}
use Rattle.std.proofs.lemmas.Bool.{cases_eq, cond-true, and_from, and_parts, leb-true, le-leb, both_ways}
use Rattle.journal.specs.Transactions.{Txn}
use Rattle.journal.specs.History.{History, HasNumber, nobody, numbered, at_number}

pub at_number_is : (h : History) (n : ℕ) → HasNumber h n → at_number h n ≡ Some (numbered h n)
at_number_is h n p = cond-true (leb 1 n && leb n (length h)) (Some (numbered h n)) None (and_from (leb 1 n) (leb n (length h)) (le-leb 1 n p.0) (le-leb n (length h) p.1))

-- A test that fails where there is nobody, and that the number's transaction passes.
pub test_finds : (h : History) (n : ℕ) (test : Option Txn → Bool) → test None ≡ false → test (at_number h n) ≡ true → HasNumber h n × (test (Some (numbered h n)) ≡ true)
test_finds h n test none e = go (leb 1 n && leb n (length h)) refl e
  where
    go : (b : Bool) → (leb 1 n && leb n (length h)) ≡ b → test (cond b (Some (numbered h n)) None) ≡ true → HasNumber h n × (test (Some (numbered h n)) ≡ true)
    go true q f = let p = and_parts (leb 1 n) (leb n (length h)) q in ((leb-true 1 n p.0, leb-true n (length h) p.1), f)
    go false q f = absurd (both_ways (test None) none f)

-- The number belongs to a transaction of the list for which P holds; i is the number before the list's first.
pub record Found (P : Txn → Type 0) (i : ℕ) (h : History) (n : ℕ) : Type 0 where
  pub above : i < n
  pub within : n ≤ i + length h
  pub holds : P (get_or h (n - 1 - i) nobody)

module _ (P : Txn → Type 0) (i : ℕ) (t : Txn) (h : History) (n : ℕ) where
  pub found_first : n ≡ i + 1 → P t → Found P i (t ∷ h) n
  found_first e p = let z : n - 1 - i ≡ 0 = omega arith in record { above = omega arith; within = omega arith; holds = rw z p }

  pub found_later : Found P (i + 1) h n → Found P i (t ∷ h) n
  found_later f =
      let z : n - 1 - i ≡ suc (n - 1 - (i + 1)) = omega (arith, f.above) in
      record { above = omega (arith, f.above); within = omega (arith, f.within); holds = rw z f.holds }

pub found_number : (P : Txn → Type 0) (h : History) (n : ℕ) → Found P 0 h n → HasNumber h n × P (numbered h n)
found_number P h n f = let z : n - 1 - 0 ≡ n - 1 = omega arith in ((f.above, omega (arith, f.within)), rw z at f.holds)

-- A history with another transaction at one place: what holds of the new one there, and of the others elsewhere.
pub set_cases : (P : Txn → Type 0) (h : History) (p i : ℕ) (t : Txn) → p < length h → (i ≡ p → P t) → ((i ≡ p → ⊥) → P (get_or h i nobody)) → P (get_or (set h p t) i nobody)
set_cases P h p i t lt f g =
    elim (cases_eq i p) [
      | inl e ↦ rw (e, get_or-set_same h p t nobody lt) (f e)
      | inr ne ↦ rw (get_or-set_other h p i t nobody ne) (g ne)
    ]
