use Rattle.std.proofs.Common.{sym, ap, ◌∙◌}
use Rattle.std.specs.Prelude.{string_bytes}
use Rattle.mau_declare.specs.Flattened.{name_at, is_maximal_in}
use Rattle.mau_declare.proofs.Listed.{named_next, passed_over}
use Rattle.mau_declare.proofs.sort_names.push_maximal_sorts.Goals as goal
use Rattle.mau_declare.proofs.sort_names.push_maximal_sorts.Goals.{then-is_maximal_in+in_ok-push_next, else-is_maximal_in}

pub loop-sort-preserved : goal.loop-sort-preserved
loop-sort-preserved c = elim c.if-is_maximal_in.branch [
  | then-is_maximal_in+in_ok-push_next w ↦
      let r = named_next (is_maximal_in c.args.poset.now c.args.kind) (name_at c.args.sorts.now) c.loop-sort.sort (string_bytes c.args.text.now) (string_bytes c.loop-sort.text) _ c.loop-sort.is_first
      (sym c.is_maximal_in.ensures ∙ w.if-is_maximal_in.true) c.loop-sort.invariant.first c.loop-sort.invariant.written w.in_ok-push_next.ensures in
      record { written = ap string_bytes w.text-is ∙ r.0; first = w.is_first-is ∙ r.1 }
  | else-is_maximal_in w ↦
      let r = passed_over (is_maximal_in c.args.poset.now c.args.kind) (name_at c.args.sorts.now) c.loop-sort.sort (string_bytes c.args.text.now) (string_bytes c.loop-sort.text) c.loop-sort.is_first
      (sym c.is_maximal_in.ensures ∙ w.if-is_maximal_in.false) c.loop-sort.invariant.first c.loop-sort.invariant.written in
      record { written = ap string_bytes w.text-is ∙ r.0; first = w.is_first-is ∙ r.1 }
]
