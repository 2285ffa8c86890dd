-- One text after another, written over a line.
use Rattle.std.proofs.Common.{◌≡◌, ℕ, ◌+◌, ◌≤◌, List, [], ◌∷◌, ◌++◌, length, take, drop, decimal, sym, refl, ap, ◌∙◌, subst, append_assoc, zero-add, arith, length-append}
use lib.Seq.{paste}
use borrow.Rule.Slice.PartMut.{put_mid}
use Rattle.std.proofs.lemmas.List.Edits.{paste_none, paste_all, paste-paste}
use Rattle.std.proofs.lemmas.List.{take_at}
use Rattle.std.proofs.lemmas.Slice.{put_mid-paste}
use Rattle.journal.specs.Refusals.{refusal_number}
use Rattle.tape.specs.declared.decoding.Fault.{Fault}
use Rattle.tape.specs.Lines.{fault_line, written}

written-paste : (xs : List ℕ) (at : ℕ) (ys : List ℕ) (n : ℕ) → n ≡ length ys → written xs at ys ≡ paste xs at ys n
unfolding written
written-paste xs at ys n e = sym (paste_all xs at ys n e ∙ ap (λ (k : ℕ). take at xs ++ (ys ++ drop (at + k) xs)) e)

pub put_mid-written : (a k : ℕ) (xs ys zs : List ℕ) → ys ≡ zs → length zs ≡ k → put_mid a k xs ys ≡ written xs a zs
put_mid-written a k xs ys zs e l = put_mid-paste a k xs ys zs (length zs) e l refl ∙ sym (written-paste xs a zs (length zs) refl)

-- What is written after a text makes one text with it.
pub written-written : (xs : List ℕ) (a n : ℕ) (ys zs : List ℕ) → n ≡ a + length ys → a ≤ length xs → written (written xs a ys) n zs ≡ written xs a (ys ++ zs)
written-written xs a n ys zs e le =
    ap (λ (m : ℕ). written (written xs a ys) m zs) e
    ∙ written-paste (written xs a ys) (a + length ys) zs (length zs) refl
    ∙ ap (λ (l : List ℕ). paste l (a + length ys) zs (length zs)) (written-paste xs a ys (length ys) refl)
    ∙ paste-paste xs a ys zs (length ys) (length zs) refl refl le
    ∙ sym (written-paste xs a (ys ++ zs) (length ys + length zs) (sym (length-append ys zs)))

-- Nothing written leaves all as it was.
pub written_none : (xs : List ℕ) (at : ℕ) → xs ≡ written xs at []
written_none xs at = paste_none xs at [] ∙ sym (written-paste xs at [] 0 refl)

-- The text that was written at the front.
pub front_of_written : (xs ys : List ℕ) (n : ℕ) → n ≡ length ys → take n (written xs 0 ys) ≡ ys
unfolding written
front_of_written xs ys n e = take_at ys (drop (0 + length ys) xs) n (sym e)

-- The line l is xs with the text ys written over its front, and n is the place after it.
pub record Holds (xs l : List ℕ) (n : ℕ) (ys : List ℕ) : Type 0 where
  pub line : l ≡ written xs 0 ys
  pub end : n ≡ length ys

pub first : {xs l : List ℕ} {n : ℕ} (ys : List ℕ) → l ≡ written xs 0 ys → n ≡ 0 + length ys → Holds xs l n ys
first ys e f = record { line = e; end = f ∙ zero-add (length ys) }

pub then : {xs l m : List ℕ} {n k : ℕ} {ys : List ℕ} (zs : List ℕ) → Holds xs l n ys → m ≡ written l n zs → k ≡ n + length zs → Holds xs m k (ys ++ zs)
then {xs = xs} {n = n} {ys = ys} zs h e f =
    record {
      line = e ∙ ap (λ (x : List ℕ). written x n zs) h.line ∙ written-written xs 0 n ys zs (h.end ∙ sym (zero-add (length ys))) (omega arith);
      end = f ∙ ap (λ (x : ℕ). x + length zs) h.end ∙ sym (length-append ys zs);
    }

pub regrouped : {xs l : List ℕ} {n : ℕ} {ys zs : List ℕ} → ys ≡ zs → Holds xs l n ys → Holds xs l n zs
regrouped {xs = xs} {l = l} {n = n} e h = subst (λ (t : List ℕ). Holds xs l n t) e h

-- The parts of a fault's line, put together.
pub fault_text : (f : Fault) (m : ℕ) → m ≡ refusal_number f.why → ((((63 ∷ 32 ∷ []) ++ decimal m) ++ (32 ∷ 97 ∷ 116 ∷ 32 ∷ [])) ++ decimal f.place) ++ (10 ∷ []) ≡ fault_line f
fault_text f m e = ap (λ (k : ℕ). ((((63 ∷ 32 ∷ []) ++ decimal k) ++ (32 ∷ 97 ∷ 116 ∷ 32 ∷ [])) ++ decimal f.place) ++ (10 ∷ [])) e ∙ simp append_assoc
