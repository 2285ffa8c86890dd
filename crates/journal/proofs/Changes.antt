-- What a call can do to a history: nothing, one more transaction, or an edit of an open one.
use Rattle.std.proofs.Common.{◌≡◌, ℕ, ◌<◌, Bool, true, false, cond, not, eqb, leb, [], ◌∷◌, ◌++◌, length, is_some, Some, None, Ok, Err, Option, Result, refl, subst, arith}
use Rattle.std.proofs.lemmas.Bool.{leb-false, not-false}
use Rattle.std.specs.Option.{ok_or}
use Rattle.journal.specs.Limits.{kiosk_count, row_count, most_transactions, most_reads}
use Rattle.journal.specs.Marks.{mark_of}
use Rattle.journal.specs.Transactions.{Txn, is_open, has_row, begun, with_state, with_read, with_row}
use Rattle.journal.specs.History.{History, Call, begin, read, write, commit, abort, Step, after, next, refuse_if, and_then, by_open, numbered, open_number, can_serve, changed, reader_after}
use Rattle.journal.specs.declared.mark.Mark.{Mark}
use Rattle.journal.specs.declared.refusal.Refusal.{Refusal}
use Rattle.journal.specs.declared.refusal.Refusal.TheVariants.{NotOwnNumber, NoSuchSource, TooManyReads}
use Rattle.journal.specs.declared.transaction.State.{State}
use Rattle.journal.specs.declared.transaction.State.TheVariants.{Committed, Aborted}

pub data Edit (h : History) (t : Txn) : Txn → Type 0 where
  stays : Edit h t t
  reads : (r s : ℕ) → r < row_count → has_row t r ≡ false → can_serve h r s ≡ true → length t.reads < most_reads → Edit h t (with_read r s t)
  writes : (r : ℕ) → r < row_count → Edit h t (with_row r t)
  ends : (s : State) → is_open s ≡ false → Edit h t (with_state s t)

pub data Change (h : History) : History → Type 0 where
  same : Change h h
  more : (k : ℕ) (m : Mark) → k < kiosk_count → open_number h k ≡ None → length h < most_transactions → Change h (h ++ (begun k m ∷ []))
  edited : (k n : ℕ) (t : Txn) → open_number h k ≡ Some n → Edit h (numbered h n) t → Change h (changed h n t)

-- One check after another: what holds of the history as it is, and of what is left once the checks are passed.
module _ (h : History) (P : History → Type 0) (same : P h) where
  by_refuse : (b : Bool) (w : Refusal) (rest : Step) → (b ≡ false → P (next h rest)) → P (next h (refuse_if b w rest))
  by_refuse true w rest f = same
  by_refuse false w rest f = f refl

  by_then : {A : Type 0} (r : Result A Refusal) (f : A → Step) → ((x : A) → r ≡ Ok x → P (next h (f x))) → P (next h (and_then r f))
  by_then (Ok x) f g = g x refl
  by_then (Err e) f g = same

  by_found : {A : Type 0} (o : Option A) (w : Refusal) (f : A → Step) → ((x : A) → o ≡ Some x → P (next h (f x))) → P (next h (and_then (ok_or o w) f))
  by_found (Some x) w f g = g x refl
  by_found None w f g = same

nothing_there : {A : Type 0} (o : Option A) → is_some o ≡ false → o ≡ None
nothing_there None e = refl
nothing_there (Some x) e = cc

by_open_edit : (h : History) (k : ℕ) (f : ℕ → Step) → ((n : ℕ) → open_number h k ≡ Some n → Change h (next h (f n))) → Change h (next h (by_open h k f))
by_open_edit h k f g =
    by_refuse h (Change h) same (leb kiosk_count k) _ _ (λ kl.
    by_found h (Change h) same (open_number h k) _ _ g)

-- A reader stays as it is, or has one more read.
reader_edit : (h : History) (n : ℕ) (t : Txn) (r s : ℕ) (t' : Txn) → r < row_count → reader_after most_reads h n t r s ≡ Ok t' → Edit h t t'
reader_edit h n t r s t' rl e = go (has_row t r) (not (eqb s n)) (not (can_serve h r s)) (leb most_reads (length t.reads)) refl refl refl e
  where
    go : (own other unserved full : Bool) → has_row t r ≡ own → not (can_serve h r s) ≡ unserved → leb most_reads (length t.reads) ≡ full →
        cond own (refuse_if other NotOwnNumber (Ok t)) (refuse_if unserved NoSuchSource (refuse_if full TooManyReads (Ok (with_read r s t)))) ≡ Ok t' → Edit h t t'
    go true true unserved full a b d e = absurd (let z : ◌≡◌ {A = ℕ} 0 1 = cc in omega arith)
    go true false unserved full a b d e = let is : t ≡ t' = cc in subst (Edit h t) is stays
    go false other true full a b d e = absurd (let z : ◌≡◌ {A = ℕ} 0 1 = cc in omega arith)
    go false other false true a b d e = absurd (let z : ◌≡◌ {A = ℕ} 0 1 = cc in omega arith)
    go false other false false a b d e =
        let is : with_read r s t ≡ t' = cc in
        subst (Edit h t) is (reads r s rl a (not-false (can_serve h r s) b) (leb-false most_reads (length t.reads) d))

pub after_change : (h : History) (c : Call) → Change h (after h c)
after_change h (begin k m) =
    by_refuse h (Change h) same (leb kiosk_count k) _ _ (λ kl.
    by_found h (Change h) same (mark_of m) _ _ (λ mark _.
    by_refuse h (Change h) same (is_some (open_number h k)) _ _ (λ o.
    by_refuse h (Change h) same (leb most_transactions (length h)) _ _ (λ l.
    more k mark (leb-false kiosk_count k kl) (nothing_there (open_number h k) o) (leb-false most_transactions (length h) l)))))
after_change h (read k r s) =
    by_open_edit h k _ (λ n o.
    by_refuse h (Change h) same (leb row_count r) _ _ (λ rl.
    by_then h (Change h) same (reader_after most_reads h n (numbered h n) r s) _ (λ t e.
    edited k n t o (reader_edit h n (numbered h n) r s t (leb-false row_count r rl) e))))
after_change h (write k r) =
    by_open_edit h k _ (λ n o.
    by_refuse h (Change h) same (leb row_count r) _ _ (λ rl.
    edited k n _ o (writes r (leb-false row_count r rl))))
after_change h (commit k) = by_open_edit h k _ (λ n o. edited k n _ o (ends Committed refl))
after_change h (abort k) = by_open_edit h k _ (λ n o. edited k n _ o (ends Aborted refl))
