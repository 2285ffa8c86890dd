-- The tests of all and of some below a number, and those of lists.
use Rattle.std.proofs.Common.{◌≡◌, ℕ, zero, suc, ◌+◌, ◌<◌, ◌≤◌, Bool, ◌&&◌, ◌||◌, List, length, get_or, take, refl, sym, ap, ◌∙◌, add-one, inl, inr, true, false, arith}
use Rattle.std.specs.List.{list_all, list_any, range_with_len}
use Rattle.std.proofs.Math.Bool.{and_comm, or_comm}
use Rattle.std.proofs.lemmas.Bool.{and_from, and_left, and_right, or_from, cases_eq}
use Rattle.std.proofs.lemmas.List.{take_all}
use Rattle.std.proofs.lemmas.List.Folds.{list_all_more, list_any_more}
use Rattle.std.proofs.lemmas.List.FromFn.{length-range_with_len, get_or-range_with_len}
use Rattle.levels.specs.Tests.{all_below, some_below}

pub all_same : (p q : ℕ → Bool) (n : ℕ) → ((k : ℕ) → k < n → p k ≡ q k) → all_below p n ≡ all_below q n
all_same p q zero e = refl
all_same p q (suc n) e = let h = e n (omega arith) in let r = all_same p q n (λ k l. e k (omega arith)) in cc

pub some_same : (p q : ℕ → Bool) (n : ℕ) → ((k : ℕ) → k < n → p k ≡ q k) → some_below p n ≡ some_below q n
some_same p q zero e = refl
some_same p q (suc n) e = let h = e n (omega arith) in let r = some_same p q n (λ k l. e k (omega arith)) in cc

pub all_fails : (p : ℕ → Bool) (n k : ℕ) → k < n → p k ≡ false → all_below p n ≡ false
all_fails p zero k l e = absurd (omega arith)
all_fails p (suc n) k l e =
    elim (cases_eq k n) [ inl q ↦ and_left (p n) _ (rw q at e) | inr d ↦ and_right (p n) _ (all_fails p n k (omega arith) e) ]

pub all_more : (p : ℕ → Bool) (k : ℕ) → p k ≡ true → all_below p k ≡ true → all_below p (k + 1) ≡ true
all_more p k e f = rw add-one (and_from (p k) _ e f)

pub some_none : (p : ℕ → Bool) (n : ℕ) → ((k : ℕ) → p k ≡ false) → some_below p n ≡ false
some_none p zero f = refl
some_none p (suc n) f = or_from (p n) (some_below p n) (f n) (some_none p n f)

module _ {X : Type 0} (p : X → Bool) (xs : List X) (d : X) where
  list_all-take : (n : ℕ) → n ≤ length xs → list_all p (take n xs) ≡ all_below (λ k. p (get_or xs k d)) n
  list_all-take zero l = refl
  list_all-take (suc n) l = ap (λ k. list_all p (take k xs)) (sym (add-one n)) ∙ list_all_more p xs n d (omega arith) ∙ and_comm (list_all p (take n xs)) (p (get_or xs n d)) ∙ ap (λ b. p (get_or xs n d) && b) (list_all-take n (omega arith))

  list_any-take : (n : ℕ) → n ≤ length xs → list_any p (take n xs) ≡ some_below (λ k. p (get_or xs k d)) n
  list_any-take zero l = refl
  list_any-take (suc n) l = ap (λ k. list_any p (take k xs)) (sym (add-one n)) ∙ list_any_more p xs n d (omega arith) ∙ or_comm (list_any p (take n xs)) (p (get_or xs n d)) ∙ ap (λ b. p (get_or xs n d) || b) (list_any-take n (omega arith))

  -- Of all of a list, and of some of it, by its places.
  pub list_all_below : list_all p xs ≡ all_below (λ k. p (get_or xs k d)) (length xs)
  list_all_below = ap (list_all p) (sym (take_all (length xs) xs (omega arith))) ∙ list_all-take (length xs) (omega arith)

  pub list_any_below : list_any p xs ≡ some_below (λ k. p (get_or xs k d)) (length xs)
  list_any_below = ap (list_any p) (sym (take_all (length xs) xs (omega arith))) ∙ list_any-take (length xs) (omega arith)

module _ (p : ℕ → Bool) (n : ℕ) where
  at : (k : ℕ) → k < n → p (get_or (range_with_len 0 n) k 0) ≡ p k
  at k l = ap p (get_or-range_with_len 0 n k 0 l ∙ omega arith)

  -- Of all numbers below n, and of some of them.
  pub list_all-range : list_all p (range_with_len 0 n) ≡ all_below p n
  list_all-range = list_all_below p (range_with_len 0 n) 0 ∙ ap (all_below _) (length-range_with_len 0 n) ∙ all_same _ p n at

  pub list_any-range : list_any p (range_with_len 0 n) ≡ some_below p n
  list_any-range = list_any_below p (range_with_len 0 n) 0 ∙ ap (some_below _) (length-range_with_len 0 n) ∙ some_same _ p n at
