-- A backward pass finds the chains of direct dependencies.
use Rattle.std.specs.Prelude.{◌≡◌, ℕ, zero, suc, ◌+◌, ◌-◌, ◌<◌, Bool, true, false, cond, if◌then◌else◌, ◌⊎◌, List, [], ◌∷◌, length, refl}
use Rattle.std.proofs.Common.{sym, ap, ◌∙◌, subst, inl, inr, arith, add-zero, zero-add}
use Rattle.std.proofs.lemmas.Bool.{or_cases, or_left, or_right, both_ways}
use Rattle.journal.specs.History.{History}
use Rattle.journal.specs.Dependencies.{Direct}
use Rattle.levels.specs.Runs.{member, last, Earlier, Closed}
use Rattle.levels.specs.Axioms.{Causal, Chain, link, step}
use Rattle.levels.specs.Tests.{direct}
use Rattle.levels.specs.Rule.{linked, past, causal}
use Rattle.levels.specs.Visibility.{Tells}
use Rattle.levels.specs.Dependent.{direct_decides}
use Rattle.levels.specs.Closedness.{once_same, direct_before}

-- One more in front joins the past where it leads to it.
pub past_cons : (h : History) (u : ℕ) (xs : List ℕ) → 0 < length xs → past h (u ∷ xs) ≡ (if linked h u (past h xs) then u ∷ past h xs else past h xs)
past_cons h u [] l = absurd (omega arith)
past_cons h u (v ∷ vs) l = refl

-- The number stands in the list.
abbrev In : ℕ → List ℕ → Type 0
In n [] = ⊥
In n (x ∷ xs) = (x ≡ n) ⊎ In n xs

linked_to : (h : History) (u : ℕ) (ws : List ℕ) → linked h u ws ≡ true → (w : ℕ) × (In w ws) × Direct h u w
linked_to h u [] e = absurd (both_ways false refl e)
linked_to h u (w ∷ ws) e =
    elim (or_cases (direct h u w) (linked h u ws) e) [
      | inl d ↦ (w, inl refl, (direct_decides h u w).0 d)
      | inr l ↦ let s = linked_to h u ws l in (s.0, inr s.1, s.2)
    ]

linked_from : (h : History) (u w : ℕ) (ws : List ℕ) → In w ws → Direct h u w → linked h u ws ≡ true
linked_from h u w [] i d = absurd i
linked_from h u w (x ∷ ws) i d =
    elim i [
      | inl e ↦ or_left (direct h u x) (linked h u ws) ((direct_decides h u x).1 (rw e d))
      | inr l ↦ or_right (direct h u x) (linked h u ws) (linked_from h u w ws l d)
    ]

-- What is put in front only where a test passes.
in_first : (b : Bool) (x : ℕ) (xs : List ℕ) → b ≡ true → In x (cond b (x ∷ xs) xs)
in_first true x xs e = inl refl
in_first false x xs e = absurd (both_ways false refl e)

in_rest : (b : Bool) (x n : ℕ) (xs : List ℕ) → In n xs → In n (cond b (x ∷ xs) xs)
in_rest true x n xs i = inr i
in_rest false x n xs i = i

in_cases : (b : Bool) (x n : ℕ) (xs : List ℕ) → In n (cond b (x ∷ xs) xs) → ((b ≡ true) × (x ≡ n)) ⊎ In n xs
in_cases true x n xs i = elim i [ inl e ↦ inl (refl, e) | inr l ↦ inr l ]
in_cases false x n xs i = inr i

-- The list is what stands in the run from the place on.
record Rest (run : List ℕ) (j : ℕ) (xs : List ℕ) : Type 0 where
  at : (i : ℕ) → i < length xs → member xs i ≡ member run (j + i)
  long : j + length xs ≡ length run

rest_all : (run : List ℕ) → Rest run 0 run
rest_all run = record { at = λ i l. ap (member run) (sym (zero-add i)); long = zero-add (length run) }

module _ {run : List ℕ} {j x : ℕ} {xs : List ℕ} (r : Rest run j (x ∷ xs)) where
  rest_next : Rest run (suc j) xs
  rest_next = record { at = λ i l. r.at (suc i) (omega arith) ∙ ap (member run) (omega arith); long = let e = r.long in omega arith }

  rest_first : x ≡ member run j
  rest_first = r.at 0 (omega arith) ∙ ap (member run) (add-zero j)

module _ (h : History) (run : List ℕ) where
  -- The number is the last member, or a chain leads from it to that one.
  abbrev Reaches : ℕ → Type 0
  Reaches u = (u ≡ last run) ⊎ Chain h run (last run) u

  extended : (u w : ℕ) → Direct h u w → Reaches w → Earlier run w (length run) → Chain h run (last run) u
  extended u w d r m = elim r [ inl e ↦ link (rw e at d) | inr c ↦ step d m c ]

  first_link : {u : ℕ} → 0 < length run → Chain h run (last run) u → (q : ℕ) × (q < length run) × (Direct h u (member run q) × Reaches (member run q))
  first_link some (link d) = (length run - 1, omega arith, (d, inl refl))
  first_link some (step {u} {v} d m c) = (m.0, m.1, (rw m.2 d, rw m.2 (inr c)))

  found_reaches : (j : ℕ) (xs : List ℕ) → Rest run j xs → (u : ℕ) → In u (past h xs) → Reaches u × Earlier run u (length run)
  found_reaches j [] t u i = absurd i
  found_reaches j (x ∷ []) t u i =
      elim i [
        | inl q ↦
            let l = t.long in
            let e : u ≡ member run j = sym q ∙ rest_first t in
            let z : j ≡ length run - 1 = omega arith in
            (inl (e ∙ ap (member run) z), (j, omega arith, sym e))
        | inr z ↦ absurd z
      ]
  found_reaches j (x ∷ (v ∷ vs)) t u i =
      elim (in_cases (linked h x (past h (v ∷ vs))) x u (past h (v ∷ vs)) i) [
        | inl q ↦
            let w = linked_to h x (past h (v ∷ vs)) q.0 in
            let ih = found_reaches (suc j) (v ∷ vs) (rest_next t) w.0 w.1 in
            let l = t.long in
            (inr (rw (← q.1) (extended x w.0 w.2 ih.0 ih.1)), (j, omega arith, sym (rest_first t) ∙ q.1))
        | inr l ↦ found_reaches (suc j) (v ∷ vs) (rest_next t) u l
      ]

  reaches_found : Closed h run → (j : ℕ) (xs : List ℕ) → Rest run j xs → (i : ℕ) → i < length xs → Reaches (member xs i) → In (member xs i) (past h xs)
  reaches_found c j [] t i l r = absurd (omega arith)
  reaches_found c j (x ∷ []) t zero l r = inl refl
  reaches_found c j (x ∷ []) t (suc i) l r = absurd (omega arith)
  reaches_found c j (x ∷ (v ∷ vs)) t (suc i) l r = in_rest (linked h x (past h (v ∷ vs))) x (member (v ∷ vs) i) (past h (v ∷ vs)) (reaches_found c (suc j) (v ∷ vs) (rest_next t) i (omega arith) r)
  reaches_found c j (x ∷ (v ∷ vs)) t zero l r =
      in_first (linked h x (past h (v ∷ vs))) x (past h (v ∷ vs))
      (elim r [
        | inl e ↦
            let n = t.long in
            let s = once_same h run c j (length run - 1) (omega arith) (omega arith) (sym (rest_first t) ∙ e) in
            absurd (omega arith)
        | inr k ↦
            let n = t.long in
            let f = first_link (omega arith) k in
            let lq = f.1 in
            let lt : j < f.0 = direct_before h run c j f.0 (omega arith) f.1 (subst (λ (w : ℕ). Direct h w (member run f.0)) (rest_first t) f.2.0) in
            let i : ℕ = f.0 - suc j in
            let li : i < length (v ∷ vs) = omega arith in
            let e : member (v ∷ vs) i ≡ member run f.0 = (rest_next t).at i li ∙ ap (member run) (omega arith) in
            linked_from h x (member (v ∷ vs) i) (past h (v ∷ vs)) (reaches_found c (suc j) (v ∷ vs) (rest_next t) i li (rw e f.2.1)) (rw e f.2.0)
      ])

pub causal_tells : Tells causal Causal
causal_tells h run i j c li lj = (
  λ e.
      let w = linked_to h (member run j) (past h run) e in
      let s = found_reaches h run 0 run (rest_all run) w.0 w.1 in
      extended h run (member run j) w.0 w.2 s.0 s.1,
  λ k.
      let f = first_link h run (omega arith) k in
      linked_from h (member run j) (member run f.0) (past h run) (reaches_found h run c 0 run (rest_all run) f.0 f.1 f.2.1) f.2.0,
)
