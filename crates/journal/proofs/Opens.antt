-- The open transaction of a kiosk: where it stands.
use Rattle.std.proofs.Common.{◌≡◌, ℕ, zero, suc, ◌+◌, ◌-◌, ◌<◌, Bool, true, false, cond, eqb, [], ◌∷◌, length, get_or, Some, None, refl, arith}
use Rattle.std.proofs.lemmas.Bool.{and_parts, eqb-true}
use Rattle.journal.specs.Transactions.{Txn, is_open, open_at}
use Rattle.journal.specs.History.{History, HasNumber, nobody, numbered, open_from, open_number}
use Rattle.journal.proofs.Numbers.{Found, found_first, found_later, found_number}

pub open_at_parts : (t : Txn) (k : ℕ) → open_at t k ≡ true → (is_open t.state ≡ true) × (t.kiosk ≡ k)
open_at_parts t k e = let p = and_parts (is_open t.state) (eqb t.kiosk k) e in (p.0, eqb-true t.kiosk k p.1)

open_found : (i : ℕ) (h : History) (k n : ℕ) → open_from i h k ≡ Some n → Found (λ t. open_at t k ≡ true) i h n
open_found i [] k n e = let z : ◌≡◌ {A = ℕ} 0 1 = cc in absurd (omega arith)
open_found i (t ∷ h) k n e = go (open_at t k) refl e (open_found (i + 1) h k n)
  where
    go : (b : Bool) → open_at t k ≡ b → cond b (Some (i + 1)) (open_from (i + 1) h k) ≡ Some n → (open_from (i + 1) h k ≡ Some n → Found (λ t. open_at t k ≡ true) (i + 1) h n) → Found (λ t. open_at t k ≡ true) i (t ∷ h) n
    go true o q ih = let next : n ≡ i + 1 = cc in found_first (λ t. open_at t k ≡ true) i t h n next o
    go false o q ih = found_later (λ t. open_at t k ≡ true) i t h n (ih q)

-- Transaction n, at place n - 1 of the list, is open at the kiosk.
pub record Opened (h : History) (k n : ℕ) : Type 0 where
  pub has : HasNumber h n
  pub place : n - 1 < length h
  pub at_kiosk : (numbered h n).kiosk ≡ k
  pub still_open : is_open (numbered h n).state ≡ true

pub opened : (h : History) (k n : ℕ) → open_number h k ≡ Some n → Opened h k n
opened h k n e =
    let f = found_number (λ t. open_at t k ≡ true) h n (open_found 0 h k n e) in
    let p = open_at_parts (numbered h n) k f.1 in
    record { has = f.0; place = omega (arith, f.0); at_kiosk = p.1; still_open = p.0 }

none_found : (i : ℕ) (h : History) (k : ℕ) → open_from i h k ≡ None → (j : ℕ) → j < length h → open_at (get_or h j nobody) k ≡ false
none_found i [] k e j l = absurd (omega arith)
none_found i (t ∷ h) k e j l = go (open_at t k) refl e (none_found (i + 1) h k) j l
  where
    go : (b : Bool) → open_at t k ≡ b → cond b (Some (i + 1)) (open_from (i + 1) h k) ≡ None →
        (open_from (i + 1) h k ≡ None → (j : ℕ) → j < length h → open_at (get_or h j nobody) k ≡ false) → (j : ℕ) → j < length (t ∷ h) → open_at (get_or (t ∷ h) j nobody) k ≡ false
    go true o q ih j l = let z : ◌≡◌ {A = ℕ} 0 1 = cc in absurd (omega arith)
    go false o q ih zero l = o
    go false o q ih (suc j) l = ih q j (omega arith)

-- A kiosk with no open transaction: none of its transactions is open.
pub none_open : (h : History) (k : ℕ) → open_number h k ≡ None → (i : ℕ) → i < length h → open_at (get_or h i nobody) k ≡ false
none_open h k e i l = none_found 0 h k e i l
