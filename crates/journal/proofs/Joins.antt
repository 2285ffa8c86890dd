-- Two sets of numbers joined, as lists that say of each number whether it is held.
use Rattle.std.proofs.Common.{◌≡◌, ℕ, ◌+◌, ◌<◌, Bool, true, false, ◌&&◌, ◌||◌, ltb, List, length, get_or, set, ap, ◌∙◌, inl, inr, arith}
use Rattle.std.proofs.lemmas.Bool.{cases_eq, lt-ltb, le-ltb}
use Rattle.std.proofs.lemmas.List.{get_or-set_same, get_or-set_other}
use Rattle.std.proofs.lemmas.Bool.Decides.{nat_tests}

-- The first i numbers of the other set have been put in.
abbrev pub Joined : List Bool → List Bool → ℕ → List Bool → Type 0
Joined old other i new = (n : ℕ) → get_or new n false ≡ (get_or old n false || (get_or other n false && ltb n i))

joins : (a o x y z : Bool) → x ≡ (a || (o && y)) → y ≡ false → z ≡ true → (x || o) ≡ (a || (o && z))
joins true o x y z e f g = ap (λ b. b || o) e
joins false true x y z e f g = cc
joins false false x y z e f g = ap (λ b. b || false) e

-- One more number is joined.
pub join_more : (old other : List Bool) (i : ℕ) (new : List Bool) → i < length new → Joined old other i new → Joined old other (i + 1) (set new i (get_or new i false || get_or other i false))
join_more old other i new l e n =
    elim (cases_eq n i) [
      | inl q ↦ rw q (get_or-set_same new i _ false l ∙ joins (get_or old i false) (get_or other i false) (get_or new i false) (ltb i i) (ltb i (i + 1)) (e i) (le-ltb i i (omega arith)) (lt-ltb i (i + 1) (omega arith)))
      | inr d ↦
          let same : ltb n i ≡ ltb n (i + 1) = grind (arith, nat_tests) in
          get_or-set_other new i n _ false d ∙ e n ∙ ap (λ b. get_or old n false || (get_or other n false && b)) same
    ]
