-- The last place at which a test passes.
use Rattle.std.proofs.Common.{◌≡◌, ℕ, suc, ◌+◌, ◌-◌, ◌<◌, ◌≤◌, Bool, true, false, not, ◌&&◌, ltb, leb, List, length, take, Some, None, Option, sym, ap, ◌∙◌, refl, inl, inr, arith}
use Rattle.std.specs.Option.{unwrap_or, option_map_or}
use Rattle.std.proofs.lemmas.List.{get_or-take}
use Rattle.std.proofs.lemmas.Bool.{both_ways, cases_lt}
use Rattle.std.proofs.lemmas.Bool.Decides.{nat_tests, same_from_decides, Decides-and, Decides-at, Decides-like, Decides-ltb, Decides-not}
use Rattle.levels.specs.Runs.{member, Once}
use Rattle.levels.specs.Tests.{all_below, some_below, implies, earlier}
use Rattle.levels.specs.Closedness.{earlier_decides}
use Rattle.levels.specs.Decided.{decides_leb, decides_itself, decides_implies, decides_all, decides_some}

-- r is the last place below n at which the test passes, if it passes at one.
pub record IsLastPlace (p : ℕ → Bool) (n : ℕ) (r : Option ℕ) : Type 0 where
  pub none : r ≡ None → (k : ℕ) → k < n → p k ≡ false
  pub within : (i : ℕ) → r ≡ Some i → i < n
  pub passes : (i : ℕ) → r ≡ Some i → p i ≡ true
  pub last : (i k : ℕ) → r ≡ Some i → i < k → k < n → p k ≡ false

module _ (p : ℕ → Bool) (n : ℕ) where
  -- It passes at the place j or at a later one, where j stands in the beginning that ends in the last place at which it passes.
  pub passes_from : (r : Option ℕ) → IsLastPlace p n r → (j : ℕ) → some_below (λ k. leb j k && p k) n ≡ ltb j (option_map_or (λ k. k + 1) r 0)
  passes_from None f j =
      same_from_decides _ _ (decides_some _ (λ k. (j ≤ k) × (p k ≡ true)) n (λ k _. Decides-and _ _ (decides_leb j k) (decides_itself (p k))))
      (Decides-like (ltb j 0) (λ l. absurd (omega arith)) (λ s. absurd (both_ways (p s.0) (f.none refl s.0 s.1) s.2.1)) (Decides-ltb j 0))
  passes_from (Some i) f j =
      same_from_decides _ _ (decides_some _ (λ k. (j ≤ k) × (p k ≡ true)) n (λ k _. Decides-and _ _ (decides_leb j k) (decides_itself (p k))))
      (Decides-like (ltb j (i + 1)) (λ l. (i, f.within i refl, (omega arith, f.passes i refl)))
      (λ s. let l = s.2.0 in elim (cases_lt i s.0) [ inl g ↦ absurd (both_ways (p s.0) (f.last i s.0 refl g s.1) s.2.1) | inr g ↦ omega arith ]) (Decides-ltb j (i + 1)))

  -- It passes after the place j, where j stands before that last place.
  pub passes_after : (r : Option ℕ) → IsLastPlace p n r → (j : ℕ) → some_below (λ k. ltb j k && p k) n ≡ ltb j (unwrap_or r 0)
  passes_after None f j = passes_from None f (suc j) ∙ grind (arith, nat_tests)
  passes_after (Some i) f j = passes_from (Some i) f (suc j) ∙ grind (arith, nat_tests)

-- What must hold from a place on holds everywhere, where it is asked only of what does not stand before the place.
pub kept_after : (w before v : ℕ → Bool) (n place m : ℕ) → place + m ≡ n → ((k : ℕ) → k < m → v k ≡ w (place + k)) → ((j : ℕ) → before j ≡ ltb j place) → all_below (λ k. not (v k)) m ≡ all_below (λ j. implies (w j) (before j)) n
kept_after w before v n place m e at is_before =
    same_from_decides _ _
    (Decides-like _
    (λ f j l t. elim (cases_lt j place) [ inl q ↦ q | inr q ↦ absurd (f (j - place) (omega arith) (at (j - place) (omega arith) ∙ ap w (omega arith) ∙ t)) ])
    (λ f k l t. let q = f (place + k) (omega arith) (sym (at k l) ∙ t) in omega arith)
    (decides_all (λ k. not (v k)) (λ k. v k ≡ true → ⊥) m (λ k _. Decides-not _ (decides_itself (v k)))))
    (decides_all _ (λ j. w j ≡ true → j < place) n (λ j _. decides_implies (w j) (before j) (decides_itself (w j)) (Decides-at _ _ (is_before j) (Decides-ltb j place))))

-- A member that stands once stands in the beginning of a list, where its place is nearer the start than the beginning is long.
pub once_before : (xs : List ℕ) (j reach k : ℕ) → Once xs j → j < length xs → reach ≤ length xs → k ≡ reach → earlier (take reach xs) (member xs j) k ≡ ltb j reach
once_before xs j reach k once lj lr e =
    ap (earlier (take reach xs) (member xs j)) e
    ∙ same_from_decides _ (ltb j reach)
    ((λ t. let f = (earlier_decides (take reach xs) (member xs j) reach).0 t in let l = f.1 in let q = once f.0 (omega arith) (sym (get_or-take reach xs f.0 0 l) ∙ f.2) in omega arith), λ l. (earlier_decides (take reach xs) (member xs j) reach).1 (j, l, get_or-take reach xs j 0 l))
    (Decides-ltb j reach)
