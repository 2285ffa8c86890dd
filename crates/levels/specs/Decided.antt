-- Tests and what they decide.
use Rattle.std.specs.Prelude.{◌≡◌, ℕ, zero, suc, ◌+◌, ◌<◌, ◌≤◌, Bool, true, false, ◌&&◌, ◌||◌, ◌⊎◌, Decides, nat_le, refl}
use Rattle.std.proofs.Common.{sym, ap, ◌∙◌, inl, inr, arith, add-one}
use Rattle.std.proofs.Math.Bool.{or_assoc, or_comm}
use Rattle.std.proofs.lemmas.Bool.{and_parts, and_from, or_cases, or_from, or_left, or_right, leb-true, le-leb, both_ways, cases_order}
use Rattle.std.proofs.lemmas.Bool.Decides.{Decides-at, Decides-or}
use Rattle.levels.specs.Tests.{all_below, some_below, or_below, implies}

pub decides_leb : (a b : ℕ) → Decides (nat_le a b) (a ≤ b)
decides_leb a b = (leb-true a b, le-leb a b)

pub decides_itself : (b : Bool) → Decides b (b ≡ true)
decides_itself b = (λ e. e, λ e. e)

pub decides_implies : {P Q : Type 0} (x y : Bool) → Decides x P → Decides y Q → Decides (implies x y) (P → Q)
decides_implies true y p q = (λ e _. q.0 e, λ f. q.1 (f (p.0 refl)))
decides_implies false y p q = (λ _ a. absurd (both_ways false refl (p.1 a)), λ _. refl)

-- The second test counts only where the first passes.
pub decides_and_then : {P Q : Type 0} (x y : Bool) → Decides x P → (P → Decides y Q) → Decides (x && y) (P × Q)
decides_and_then true y p q = (λ e. (p.0 refl, (q (p.0 refl)).0 e), λ a. (q a.0).1 a.1)
decides_and_then false y p q = (λ e. absurd (both_ways false refl e), λ a. p.1 a.0)

-- What holds below n and at n holds up to n.
up_to_here : (P : ℕ → Type 0) (n k : ℕ) → k < suc n → ((j : ℕ) → j < n → P j) → P n → P k
up_to_here P n k l below here =
    elim (cases_order k n) [
      | inl e ↦ rw e here
      | inr o ↦ elim o [ inl l' ↦ below k l' | inr g ↦ absurd (omega arith) ]
    ]

pub decides_all : (p : ℕ → Bool) (P : ℕ → Type 0) (n : ℕ) → ((k : ℕ) → k < n → Decides (p k) (P k)) → Decides (all_below p n) ((k : ℕ) → k < n → P k)
decides_all p P zero each = (λ _ k l. absurd (omega arith), λ _. refl)
decides_all p P (suc n) each =
    let rest = decides_all p P n (λ k l. each k (omega arith)) in
    let here = each n (omega arith) in (
      λ e k l. let parts = and_parts (p n) (all_below p n) e in up_to_here P n k l (rest.0 parts.1) (here.0 parts.0),
      λ f. and_from (p n) (all_below p n) (here.1 (f n (omega arith))) (rest.1 (λ k l. f k (omega arith))),
    )

pub decides_some : (p : ℕ → Bool) (P : ℕ → Type 0) (n : ℕ) → ((k : ℕ) → k < n → Decides (p k) (P k)) → Decides (some_below p n) ((k : ℕ) × (k < n) × P k)
decides_some p P zero each = (λ e. absurd (both_ways false refl e), λ f. let l = f.1 in absurd (omega arith))
decides_some p P (suc n) each =
    let rest = decides_some p P n (λ k l. each k (omega arith)) in
    let here = each n (omega arith) in (
      λ e. elim (or_cases (p n) (some_below p n) e) [
        | inl t ↦ (n, omega arith, here.0 t)
        | inr t ↦ let f = rest.0 t in (f.0, (let l = f.1 in omega arith), f.2)
      ],
      λ f. let l = f.1 in elim (cases_order f.0 n) [
        | inl e ↦ or_left (p n) (some_below p n) (here.1 (rw e at f.2))
        | inr o ↦ elim o [ inl l' ↦ or_right (p n) (some_below p n) (rest.1 (f.0, l', f.2)) | inr g ↦ absurd (omega arith) ]
      ],
    )

pub some_holds : (p : ℕ → Bool) (n k : ℕ) → k < n → p k ≡ true → some_below p n ≡ true
some_holds p n k l e = (decides_some p (λ m. p m ≡ true) n (λ m _. decides_itself (p m))).1 (k, l, e)

pub some_more : (p : ℕ → Bool) (k : ℕ) → p k ≡ false → some_below p k ≡ false → some_below p (k + 1) ≡ false
some_more p k e f = rw add-one (or_from (p k) _ e f)

pub or_swap : (a b c : Bool) → (a || (b || c)) ≡ (b || (a || c))
or_swap a b c = sym (or_assoc a b c) ∙ ap (λ x. x || c) (or_comm a b) ∙ or_assoc b a c

or_below_is : (b : Bool) (p : ℕ → Bool) (n : ℕ) → or_below b p n ≡ (b || some_below p n)
or_below_is true p zero = refl
or_below_is false p zero = refl
or_below_is b p (suc n) = ap (λ x. p n || x) (or_below_is b p n) ∙ or_swap (p n) b (some_below p n)

pub decides_or_below : {P : Type 0} (b : Bool) (p : ℕ → Bool) (Q : ℕ → Type 0) (n : ℕ) → Decides b P → ((k : ℕ) → k < n → Decides (p k) (Q k)) → Decides (or_below b p n) (P ⊎ ((k : ℕ) × (k < n) × Q k))
decides_or_below b p Q n first each = Decides-at (or_below b p n) (b || some_below p n) (or_below_is b p n) (Decides-or b (some_below p n) first (decides_some p Q n each))
