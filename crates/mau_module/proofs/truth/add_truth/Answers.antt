use Rattle.std.proofs.Common.{◌+◌, ◌++◌, ap, sym, ◌∙◌, append_assoc}
use Rattle.std.specs.List.{flat_map, range_with_len}
use Rattle.mau_module.specs.Truth.{truth_over}
use Rattle.mau_module.proofs.Truths.{flat_range_more}
use Rattle.mau_module.proofs.truth.add_truth.Goals as goal

pub loop-i-preserved : goal.loop-i-preserved
loop-i-preserved c = record {
  decls = c.in_ok-add_truth_over.ensures.decls ∙ ap (λ n. c.loop-i.decls.items ++ truth_over c.args.bool (n + c.loop-i.i)) c.sorts.ensures.value ∙ ap (λ xs. xs ++ truth_over c.args.bool (c.args.poset.now.sorts + c.loop-i.i)) c.loop-i.invariant.decls
      ∙ append_assoc c.args.decls.now.items (flat_map (truth_over c.args.bool) (range_with_len c.args.poset.now.sorts c.loop-i.i)) (truth_over c.args.bool (c.args.poset.now.sorts + c.loop-i.i))
      ∙ sym (ap (λ xs. c.args.decls.now.items ++ xs) (flat_range_more (truth_over c.args.bool) c.args.poset.now.sorts c.loop-i.i));
  sorts = λ a. c.in_ok-add_truth_over.ensures.sorts (c.loop-i.invariant.sorts a);
}
