-- What every call keeps, and so what holds of every history that calls make.
use Rattle.std.proofs.Common.{◌≡◌, ℕ, ◌-◌, ◌<◌, ◌≤◌, Bool, true, false, eqb, All, List, [], ◌∷◌, length, get_or, sym, refl, ◌∙◌, inl, inr, arith}
use mathlib.Core.Bool.{Bool-set}
use mathlib.Core.Logic.{∥∥₁_elim}
use native.Mathlib.Bridge.{le_prop}
use Rattle.std.proofs.lemmas.List.{length-set, length_push, get_or_append_left, get_or_push}
use Rattle.std.proofs.lemmas.List.Elements.{All-nil, All-get_or, All-set, All-push, All-weaker}
use Rattle.std.proofs.lemmas.Bool.{cases_lt, and_from, eq-eqb, both_ways}
use Rattle.journal.specs.Limits.{most_reads}
use Rattle.journal.specs.Transactions.{Txn, is_open, open_at, begun}
use Rattle.journal.specs.History.{History, Call, Reached, history, history_from, after, nobody, numbered, can_serve}
use Rattle.journal.specs.declared.transaction.OuterRead.{OuterRead}
use Rattle.journal.proofs.Numbers.{set_cases}
use Rattle.journal.proofs.Opens.{opened, none_open}
use Rattle.journal.proofs.Changes.{Edit, stays, reads, writes, ends, Change, same, more, edited, after_change}
use Rattle.journal.proofs.Sources.{serve_kept}

abbrev pub Serves : History → OuterRead → Type 0
Serves h r = can_serve h r.row r.source ≡ true

-- Few reads, every source can serve, and of two transactions of a kiosk the earlier has ended.
pub record Sound (h : History) : Type 0 where
  pub few : All (λ t. length t.reads ≤ most_reads) h
  pub served : All (λ t. All (Serves h) t.reads) h
  pub ended : (i j : ℕ) → i < j → j < length h → (get_or h i nobody).kiosk ≡ (get_or h j nobody).kiosk → is_open (get_or h i nobody).state ≡ false

edit_few : (h : History) (t t' : Txn) → Edit h t t' → length t.reads ≤ most_reads → length t'.reads ≤ most_reads
edit_few h t t' stays f = f
edit_few h t t' (reads r s a b d l) f = omega (arith, length_push t.reads (record { row = r; source = s }))
edit_few h t t' (writes r l) f = f
edit_few h t t' (ends s e) f = f

edit_served : (h h' : History) (t t' : Txn) → Edit h t t' → ((r s : ℕ) → can_serve h r s ≡ true → can_serve h' r s ≡ true) → All (Serves h') t.reads → All (Serves h') t'.reads
edit_served h h' t t' stays kept f = f
edit_served h h' t t' (reads r s a b d l) kept f = All-push (Serves h') t.reads (record { row = r; source = s }) f (kept r s d)
edit_served h h' t t' (writes r l) kept f = f
edit_served h h' t t' (ends s e) kept f = f

edit_kiosk : (h : History) (t t' : Txn) → Edit h t t' → t'.kiosk ≡ t.kiosk
edit_kiosk h t t' stays = refl
edit_kiosk h t t' (reads r s a b d l) = refl
edit_kiosk h t t' (writes r l) = refl
edit_kiosk h t t' (ends s e) = refl

edit_ended : (h : History) (t t' : Txn) → Edit h t t' → is_open t.state ≡ false → is_open t'.state ≡ false
edit_ended h t t' stays f = f
edit_ended h t t' (reads r s a b d l) f = f
edit_ended h t t' (writes r l) f = f
edit_ended h t t' (ends s e) f = e

all_served : (h h' : History) → Change h h' → All (λ t. All (Serves h) t.reads) h → All (λ t. All (Serves h') t.reads) h
all_served h h' c a =
    All-weaker (λ t. All (Serves h) t.reads) (λ t. All (Serves h') t.reads)
    (λ t. All-weaker (Serves h) (Serves h') (λ r. serve_kept h h' c r.row r.source) t.reads) h a

-- What is not open at its own kiosk is not open.
not_open : (t : Txn) (k : ℕ) → open_at t k ≡ false → t.kiosk ≡ k → is_open t.state ≡ false
not_open t k e q = go (is_open t.state) refl
  where
    go : (b : Bool) → is_open t.state ≡ b → is_open t.state ≡ false
    go true o = absurd (both_ways (open_at t k) e (and_from (is_open t.state) (eqb t.kiosk k) o (eq-eqb t.kiosk k q)))
    go false o = o

pub sound_change : (h h' : History) → Change h h' → Sound h → Sound h'
sound_change h h' same s = s
sound_change h h' (more k m kl o l) s =
    record {
      few = All-push (λ t. length t.reads ≤ most_reads) h (begun k m) s.few (omega arith);
      served = All-push (λ t. All (Serves h') t.reads) h (begun k m) (all_served h h' (more k m kl o l) s.served) (All-nil (Serves h'));
      ended = λ i j lt jl e. elim (cases_lt j (length h)) [
        | inl jh ↦
            let ih : i < length h = omega arith in
            let a = get_or_append_left h (begun k m ∷ []) nobody i ih in
            let b = get_or_append_left h (begun k m ∷ []) nobody j jh in
            rw a (s.ended i j lt jh (rw (a, b) at e))
        | inr jh ↦
            let ih : i < length h = omega (arith, length_push h (begun k m)) in
            let jn : length h ≡ j = omega (arith, length_push h (begun k m)) in
            let a = get_or_append_left h (begun k m ∷ []) nobody i ih in
            let b = get_or_push h (begun k m) nobody j jn in
            let q : (get_or h i nobody).kiosk ≡ k = rw (a, b) at e in
            rw a (not_open (get_or h i nobody) k (none_open h k o i ih) q)
      ];
    }
sound_change h h' (edited k n t o d) s =
    let f = opened h k n o in
    let lt = f.place in
    let kiosk : (i : ℕ) → (get_or h' i nobody).kiosk ≡ (get_or h i nobody).kiosk = λ i. set_cases (λ x. x.kiosk ≡ (get_or h i nobody).kiosk) h (n - 1) i t lt (λ e. rw e (edit_kiosk h (numbered h n) t d)) (λ ne. refl) in
    let over : (i : ℕ) → is_open (get_or h i nobody).state ≡ false → is_open (get_or h' i nobody).state ≡ false = λ i. set_cases (λ x. is_open (get_or h i nobody).state ≡ false → is_open x.state ≡ false) h (n - 1) i t lt (λ e. rw e (edit_ended h (numbered h n) t d)) (λ ne z. z) in
    record {
      few = All-set (λ t. length t.reads ≤ most_reads) h (n - 1) t (edit_few h (numbered h n) t d (All-get_or (λ t. length t.reads ≤ most_reads) h (n - 1) nobody lt s.few)) s.few;
      served =
          let a = all_served h h' (edited k n t o d) s.served in
          All-set (λ t. All (Serves h') t.reads) h (n - 1) t (edit_served h h' (numbered h n) t d (serve_kept h h' (edited k n t o d)) (All-get_or (λ t. All (Serves h') t.reads) h (n - 1) nobody lt a)) a;
      ended = λ i j ij jl e. over i (s.ended i j ij (omega (arith, length-set h (n - 1) t)) (sym (kiosk i) ∙ e ∙ kiosk j));
    }

pub sound_none : Sound []
sound_none = record { few = All-nil _; served = All-nil _; ended = λ i j ij jl e. absurd (omega arith) }

pub sound_from : (h : History) (cs : List Call) → Sound h → Sound (history_from h cs)
sound_from h [] s = s
sound_from h (c ∷ cs) s = sound_from (after h c) cs (sound_change h (after h c) (after_change h c) s)

pub sound : (cs : List Call) → Sound (history cs)
sound cs = sound_from [] cs sound_none

-- It is one fact, so it holds of a history of which it is only known that some calls make it.
all_prop : {X : Type 0} (P : X → Type 0) → ((x : X) → IsProp (P x)) → (xs : List X) → IsProp (All P xs)
all_prop P p xs a b = λ i k d l. p (get_or xs k d) (a k d l) (b k d l) i

sound_prop : (h : History) → IsProp (Sound h)
sound_prop h a b = λ i. record {
  few = all_prop (λ (t : Txn). length t.reads ≤ most_reads) (λ t. le_prop) h a.few b.few i;
  served = all_prop (λ (t : Txn). All (Serves h) t.reads) (λ t. all_prop (Serves h) (λ r. Bool-set _ _) t.reads) h a.served b.served i;
  ended = λ m n x y u. Bool-set _ _ (a.ended m n x y u) (b.ended m n x y u) i;
}

pub sound_reached : (h : History) → Reached h → Sound h
sound_reached h r = ∥∥₁_elim r (sound_prop h) (λ p. rw p.1 at (sound p.0))
