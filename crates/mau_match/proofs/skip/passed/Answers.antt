use Rattle.std.proofs.Common.{sym, subst}
use Rattle.std.proofs.lemmas.Result.{IfOk-weaker}
use Rattle.mau_terms.specs.Order.{sort_trees}
use Rattle.mau_signature.specs.Signature.{theory_at}
use Rattle.mau_store.specs.Trees.{tree_at, trees_at}
use Rattle.mau_store.specs.View.{numbers}
use Rattle.mau_listing.specs.Places.{operator_number}
use Rattle.mau_match.specs.Values.{IsValueOfAny}
use Rattle.mau_match.specs.Walked.{parts_in}
use Rattle.mau_match.specs.Skipped.{IsPassed}
use Rattle.mau_match.proofs.Skipping.{passed_any}
use Rattle.mau_match.proofs.skip.passed.Goals as goal

pub passed_list-requires-clause-items : goal.passed_list-requires-clause-items
passed_list-requires-clause-items c = c.in-Some-only_items.ensures.within c.args.store.now c.requires.parts

pub returns-in-Some-only_items-clause-passed : goal.returns-in-Some-only_items-clause-passed
returns-in-Some-only_items-clause-passed c =
    let th = theory_at c.args.sig.now in
    let nodes = c.args.store.now in
    IfOk-weaker c.passed_list.result _ _
    (λ id h.
    subst (λ u. IsPassed th (operator_number u) (IsValueOfAny th (parts_in nodes c.args.parts.now)) c.args.least (tree_at nodes c.args.value.0) (tree_at c.passed_list.new.store id.0)) (sym c.in-Some.is)
    (passed_any th c.in-Some.op.0 (sort_trees (trees_at nodes (numbers c.in-Some-only_items.items.now))) c.args.least (tree_at nodes c.args.value.0) (tree_at c.passed_list.new.store id.0) (IsValueOfAny th (parts_in nodes c.args.parts.now)) (c.in-Some-only_items.ensures.values nodes) h))
    c.passed_list.ensures.passed
