-- One turn of the backward pass that gathers a causal past.
use Rattle.std.proofs.Common.{◌≡◌, ℕ, ◌<◌, ◌≤◌, true, false, cond, ◌||◌, List, [], ◌∷◌, ◌++◌, length, refl, sym, ap, ◌∙◌, append_assoc, length-append, arith}
use Rattle.std.proofs.Math.ListN.{get_or-append}
use Rattle.std.proofs.Math.Seq.{get_or-append_seam}
use Rattle.std.specs.List.{push}
use Rattle.journal.specs.Limits.{most_transactions}
use Rattle.journal.specs.History.{History, Reached}
use Rattle.levels.specs.Rule.{linked, past}
use Rattle.levels.specs.Runs.{member, Closed}
use Rattle.levels.specs.Tests.{direct}
use Rattle.levels.proofs.Members.{member_fits}

-- What is left shrinks by its last member, and that one goes before what has been gone through.
pub turned : (left rest gone all : List ℕ) (x : ℕ) → left ≡ push rest x → left ++ gone ≡ all → rest ++ x ∷ gone ≡ all
turned left rest gone all x e a = sym (append_assoc rest (x ∷ []) gone) ∙ ap (λ xs. xs ++ gone) (sym e) ∙ a

-- Where nothing is left, all has been gone through.
pub all_gone : (left gone all : List ℕ) → length left ≡ 0 → left ++ gone ≡ all → gone ≡ all
all_gone [] gone all e a = a
all_gone (x ∷ left) gone all e a = absurd (omega arith)

-- A member that is gone through is one of a closed run.
pub passed_fits : (h : History) → Reached h → (rest gone all : List ℕ) (x t : ℕ) → rest ++ x ∷ gone ≡ all → Closed h (all ++ t ∷ []) → x ≤ most_transactions
passed_fits h r rest gone all x t e c =
    let l : length rest < length all = omega (arith, ap length e, length-append rest (x ∷ gone)) in
    let here : member (all ++ t ∷ []) (length rest) ≡ x = get_or-append all (t ∷ []) 0 (length rest) l ∙ ap (λ xs. member xs (length rest)) (sym e) ∙ get_or-append_seam rest x gone 0 in
    rw here at (member_fits h r (all ++ t ∷ []) c (length rest) (omega (arith, length-append all (t ∷ []))))

module _ (h : History) (x : ℕ) where
  past-cons : (xs : List ℕ) (t : ℕ) → past h (x ∷ xs ++ t ∷ []) ≡ cond (linked h x (past h (xs ++ t ∷ []))) (x ∷ past h (xs ++ t ∷ [])) (past h (xs ++ t ∷ []))
  past-cons [] t = refl
  past-cons (y ∷ xs) t = refl

  -- A member that is among those gathered adds its own.
  pub pass_adds : (xs : List ℕ) (t n : ℕ) → linked h x (past h (xs ++ t ∷ [])) ≡ true → linked h n (past h (x ∷ xs ++ t ∷ [])) ≡ (direct h n x || linked h n (past h (xs ++ t ∷ [])))
  pass_adds xs t n e = ap (linked h n) (past-cons xs t ∙ ap (λ b. cond b (x ∷ past h (xs ++ t ∷ [])) (past h (xs ++ t ∷ []))) e)

  -- Any other adds nothing.
  pub pass_skips : (xs : List ℕ) (t n : ℕ) → linked h x (past h (xs ++ t ∷ [])) ≡ false → linked h n (past h (x ∷ xs ++ t ∷ [])) ≡ linked h n (past h (xs ++ t ∷ []))
  pass_skips xs t n e = ap (linked h n) (past-cons xs t ∙ ap (λ b. cond b (x ∷ past h (xs ++ t ∷ [])) (past h (xs ++ t ∷ []))) e)
