-- The rules that every history meets.
use Rattle.std.proofs.Common.{◌-◌, ◌≤◌, All, get_or, sym, ◌∙◌, inl, inr, arith}
use Rattle.std.proofs.lemmas.List.Elements.{All-from_get_or, All-weaker}
use Rattle.std.proofs.lemmas.Bool.{and_parts, both_ways, cases_order}
use Rattle.journal.specs.Marks.{mark_number}
use Rattle.journal.specs.Transactions.{is_committed, has_row}
use Rattle.journal.specs.History.{History, Reached, nobody, numbered}
use Rattle.journal.specs.Rules.{Rules, Sourced}
use Rattle.journal.specs.declared.mark.Mark.{Mark}
use Rattle.journal.specs.declared.mark.Mark.TheVariants.{ReadCommitted, ReadAtomic, Causal, Prefix, Snapshot, Serializable}
use Rattle.journal.specs.declared.transaction.OuterRead.{OuterRead}
use Rattle.journal.proofs.Opens.{open_at_parts}
use Rattle.journal.proofs.Sources.{serve_parts}
use Rattle.journal.proofs.Soundness.{Serves, Sound, sound_reached}

mark_within : (m : Mark) → (1 ≤ mark_number m) × (mark_number m ≤ 6)
mark_within ReadCommitted = omega arith
mark_within ReadAtomic = omega arith
mark_within Causal = omega arith
mark_within Prefix = omega arith
mark_within Snapshot = omega arith
mark_within Serializable = omega arith

sourced : (h : History) (r : OuterRead) → Serves h r → Sourced h r
sourced h r e =
    elim (serve_parts h r.row r.source e) [
      | inl z ↦ inl z
      | inr p ↦
          let q = and_parts (is_committed (numbered h r.source).state) (has_row (numbered h r.source) r.row) p.1 in
          inr (p.0, q.0, q.1)
    ]

rules_of : (h : History) → Sound h → Rules h
rules_of h s =
    record {
      one_open = λ k m n hm hn om on.
          let a = open_at_parts (numbered h m) k om in
          let b = open_at_parts (numbered h n) k on in
          elim (cases_order m n) [
            | inl e ↦ e
            | inr z ↦ elim z [
              | inl lt ↦ absurd (both_ways _ (s.ended (m - 1) (n - 1) (omega (arith, hm, hn)) (omega (arith, hm, hn)) (a.1 ∙ sym b.1)) a.0)
              | inr gt ↦ absurd (both_ways _ (s.ended (n - 1) (m - 1) (omega (arith, hm, hn)) (omega (arith, hm, hn)) (b.1 ∙ sym a.1)) b.0)
            ]
          ];
      marks = All-from_get_or (λ t. (1 ≤ mark_number t.mark) × (mark_number t.mark ≤ 6)) h nobody (λ i _. mark_within (get_or h i nobody).mark);
      few_reads = s.few;
      sources = All-weaker (λ t. All (Serves h) t.reads) (λ t. All (Sourced h) t.reads) (λ t. All-weaker (Serves h) (Sourced h) (sourced h) t.reads) h s.served;
    }

pub rules : (h : History) → Reached h → Rules h
rules h r = rules_of h (sound_reached h r)
