-- A layer by mark, and what it means by the meanings of its six levels.
use Rattle.std.specs.Prelude.{◌≡◌, ℕ, List}
use Rattle.journal.specs.History.{History}
use Rattle.levels.specs.Level.{Meaning}
use Rattle.levels.specs.Layers.{by_mark}
use Rattle.levels.specs.declared.layers.marks.ByMark.{ByMark}

abbrev pub meaning_of : {A B C D E F : Type 0} → (A → Meaning) → (B → Meaning) → (C → Meaning) → (D → Meaning) → (E → Meaning) → (F → Meaning) → ByMark A B C D E F → Meaning
meaning_of a b c d e f l = by_mark (a l.read_committed) (b l.read_atomic) (c l.causal) (d l.prefix) (e l.snapshot) (f l.serializable)

-- Whatever the six levels mean, the layer answers by mark.
abbrev pub AnswersByMark : {A B C D E F : Type 0} → A → B → C → D → E → F → ByMark A B C D E F → Type 0
AnswersByMark {A} {B} {C} {D} {E} {F} one two three four five six r =
    (a : A → Meaning) (b : B → Meaning) (c : C → Meaning) (d : D → Meaning) (e : E → Meaning) (f : F → Meaning) (h : History) (run : List ℕ) → meaning_of a b c d e f r h run ≡ by_mark (a one) (b two) (c three) (d four) (e five) (f six) h run
