-- What putting a number into a set makes of what it holds.
use Rattle.std.proofs.Common.{◌≡◌, ℕ, Bool, true, false, ◌&&◌, ◌||◌, eqb, ap, ◌∙◌, arith}
use Rattle.std.proofs.Math.Bool.{and-true}
use Rattle.std.proofs.lemmas.Bool.Decides.{nat_tests}

pub and_yes : (a b : Bool) → b ≡ true → (a && b) ≡ a
and_yes a b e = ap (λ x. a && x) e ∙ and-true a

-- Of those that pass a test, the next one that passes.
pub put_passing : (p : ℕ → Bool) (u n : ℕ) (e held : Bool) → p u ≡ true → held ≡ (p n && e) → (eqb u n || held) ≡ (p n && (eqb u n || e))
put_passing p u n e held t q = grind (arith, nat_tests)

-- The next one does not pass.
pub pass_over : (p : ℕ → Bool) (u n : ℕ) (e held : Bool) → p u ≡ false → held ≡ (p n && e) → held ≡ (p n && (eqb u n || e))
pass_over p u n e held f q = grind (arith, nat_tests)
