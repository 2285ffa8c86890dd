-- A kiosk's open transaction, where it has one, is its latest.
use Rattle.std.proofs.Common.{◌≡◌, ℕ, ◌+◌, ◌-◌, Bool, true, false, length, IfOk, Some, None, Option, sym, refl, ap, ◌∙◌, inl, inr, arith}
use Rattle.std.proofs.lemmas.Bool.{eq-eqb, both_ways, and_from, cases_order}
use Rattle.std.proofs.lemmas.List.{length-drop, get_or-drop}
use Rattle.std.specs.Option.{ok_or}
use Rattle.journal.specs.Admission.{IsLatest, Within, admits, admitted, open_of}
use Rattle.journal.specs.Transactions.{is_open}
use Rattle.journal.specs.History.{History, HasNumber, nobody, numbered, open_number}
use Rattle.journal.specs.declared.event.Event.{Event}
use Rattle.journal.specs.declared.refusal.Refusal.TheVariants.{NothingOpen}
use Rattle.journal.specs.declared.transaction.State.{State}
use Rattle.journal.proofs.Opens.{opened, none_open}
use Rattle.journal.proofs.Soundness.{Sound}

-- The open one is none of an earlier number, since those have ended, and none stands later.
open_is : (h : History) (k n : ℕ) (x : ℕ × State) → Sound h → IsLatest h k (Some x) → open_number h k ≡ Some n → n ≡ x.0
open_is h k n x s l e =
    let o = opened h k n e in
    elim (cases_order n x.0) [
      | inl is ↦ is
      | inr z ↦ elim z [
        | inl lt ↦ absurd (both_ways _ (s.ended (n - 1) (x.0 - 1) (omega (arith, o.has)) (omega (arith, l.has)) (o.at_kiosk ∙ sym l.kiosk)) o.still_open)
        | inr gt ↦
            let place : x.0 + (n - 1 - x.0) ≡ n - 1 = omega (arith, o.has) in
            absurd (l.later (n - 1 - x.0) nobody (omega (arith, length-drop x.0 h, o.has)) (ap (λ t. t.kiosk) (get_or-drop x.0 h (n - 1 - x.0) nobody) ∙ rw place o.at_kiosk))
      ]
    ]

pub open_of_latest : (h : History) (k : ℕ) (l : Option (ℕ × State)) → Sound h → IsLatest h k l → open_of l ≡ open_number h k
open_of_latest h k None s l = go (open_number h k) refl
  where
    go : (o : Option ℕ) → open_number h k ≡ o → None ≡ open_number h k
    go None e = sym e
    go (Some n) e = let o = opened h k n e in absurd (l (n - 1) nobody o.place o.at_kiosk)
open_of_latest h k (Some x) s l = go (open_number h k) (is_open x.1) refl refl
  where
    state : is_open (numbered h x.0).state ≡ is_open x.1
    state = ap is_open l.state

    go : (o : Option ℕ) (b : Bool) → open_number h k ≡ o → is_open x.1 ≡ b → open_of (Some x) ≡ open_number h k
    go None false e q = rw (q, e) refl
    go None true e q = absurd (both_ways _ (none_open h k e (x.0 - 1) (omega (arith, l.has))) (and_from _ _ (state ∙ q) (eq-eqb _ _ l.kiosk)))
    go (Some n) true e q = rw (q, e) (ap Some (sym (open_is h k n x s l e)))
    go (Some n) false e q = absurd (both_ways _ (state ∙ q) (rw (← open_is h k n x s l e) (opened h k n e).still_open))

-- So the latest decides what an event concerns.
pub admits-admitted : (h : History) (k : ℕ) (e : Event) (l : Option (ℕ × State)) (begun : ℕ) → Sound h → IsLatest h k l → begun ≡ length h → admits l e (begun + 1) ≡ admitted h k e
admits-admitted h k e l begun s is n = rw (n, open_of_latest h k l s is) refl

-- Who acts has a number.
open_within : (h : History) (k : ℕ) (o : Option ℕ) → open_number h k ≡ o → IfOk (ok_or o NothingOpen) (HasNumber h)
open_within h k (Some n) q = (opened h k n q).has
open_within h k None q = tt

pub admitted_within : (h : History) (k : ℕ) (e : Event) → Within h e (admitted h k e)
admitted_within h k e a = rw a (open_within h k (open_number h k) refl)
