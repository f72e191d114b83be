use Rattle.std.proofs.Common.{subst}
use Rattle.mau_signature.specs.Signature.{theory_at}
use Rattle.mau_store.specs.Trees.{trees_at}
use Rattle.mau_store.specs.View.{numbers}
use Rattle.mau_lists.specs.Lists.{IsNextOrEnd}
use Rattle.mau_lists.specs.Terms.{IsBefore}
use Rattle.mau_listing.specs.Places.{operator_number}
use Rattle.mau_domains.specs.Stored.{reach_of, tree_in, list_in}
use Rattle.mau_domains.specs.Lists.{IsLongIn}
use Rattle.mau_domains.proofs.ListValues.{least_long, none_long}
use Rattle.mau_domains.proofs.next.long_behind.Goals as goal
use Rattle.mau_terms.proofs.Outcomes.{IfOk-then}

pub returns-in-Some-clause-next : goal.returns-in-Some-clause-next
returns-in-Some-clause-next c =
    let th = theory_at c.args.sig.now in
    let f = c.args.op.0 in
    let nodes = c.args.store.now in
    let ts = trees_at nodes (numbers c.args.items.now) in
    let r = reach_of c.args.reach in
    let start = trees_at nodes (numbers c.in-Some.start.now) in
    IfOk-then _ _
    (λ list h. least_long th c.is_lawful.ensures.lawful.theories f c.requires.operator.assoc ts c.requires.items.pieces r (operator_number c.args.under) (tree_in nodes c.args.after) start c.in-Some.ensures.start (list_in nodes list)
    (subst (λ w. IsNextOrEnd IsBefore (IsLongIn w.comm r ts) start (list_in nodes list)) c.theory.ensures.value h))
    c.next_long.result c.next_long.ensures.next

pub returns-in-None-clause-next : goal.returns-in-None-clause-next
returns-in-None-clause-next c =
    let nodes = c.args.store.now in
    none_long (theory_at c.args.sig.now) c.is_lawful.ensures.lawful.theories c.args.op.0 c.requires.operator.assoc (trees_at nodes (numbers c.args.items.now)) c.requires.items.pieces (reach_of c.args.reach) (operator_number c.args.under) (tree_in nodes c.args.after) c.in-None.ensures.start
