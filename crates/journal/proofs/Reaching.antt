-- Histories, one call after another.
use Rattle.std.proofs.Common.{◌≡◌, ℕ, true, false, List, [], ◌∷◌, ◌++◌, sym, refl, ap, ◌∙◌}
use mathlib.Core.Logic.{∥∥₁_map}
use Rattle.std.proofs.lemmas.Bool.{both_ways}
use Rattle.journal.specs.Transactions.{is_open}
use Rattle.journal.specs.History.{History, Call, commit, abort, Reached, history, history_from, after, next, end_at}
use Rattle.journal.specs.declared.transaction.State.{State}
use Rattle.journal.specs.declared.transaction.State.TheVariants.{Open, Committed, Aborted}

pub history_from-append : (h : History) (cs ds : List Call) → history_from h (cs ++ ds) ≡ history_from (history_from h cs) ds
history_from-append h [] ds = refl
history_from-append h (c ∷ cs) ds = history_from-append (after h c) cs ds

pub history-append : (cs ds : List Call) → history (cs ++ ds) ≡ history_from (history cs) ds
history-append cs ds = history_from-append [] cs ds

pub reached_none : (h : History) → h ≡ [] → Reached h
reached_none h e = ∣ ([], sym e) ∣₁

pub reached_after : (h h' : History) (c : Call) → h' ≡ after h c → Reached h → Reached h'
reached_after h h' c e r =
    ∥∥₁_map r (λ p. (p.0 ++ (c ∷ []), history-append p.0 (c ∷ []) ∙ ap (λ x. after x c) p.1 ∙ sym e))

-- A step that ends the kiosk's open transaction is a commit or an abort.
pub reached_end : (h h' : History) (k : ℕ) (s : State) → is_open s ≡ false → h' ≡ next h (end_at h k s) → Reached h → Reached h'
reached_end h h' k Open o e r = absurd (both_ways true o refl)
reached_end h h' k Committed o e r = reached_after h h' (commit k) e r
reached_end h h' k Aborted o e r = reached_after h h' (abort k) e r
