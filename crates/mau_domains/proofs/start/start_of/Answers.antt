use Rattle.std.proofs.Common.{◌∙◌, Some, drop, get_or, sym, subst}
use Rattle.std.specs.Option.{option_map}
use Rattle.mau_signature.specs.Signature.{theory_at}
use Rattle.mau_store.specs.Node.{IsOf}
use Rattle.mau_store.specs.Trees.{tree_at, trees_at}
use Rattle.mau_store.specs.View.{numbers}
use Rattle.mau_lists.specs.Terms.{no_term}
use Rattle.mau_listing.specs.Places.{operator_number}
use Rattle.mau_domains.specs.Stored.{tree_in}
use Rattle.mau_domains.specs.Lists.{StartsAt}
use Rattle.mau_domains.proofs.Longer.{own_start, first_start}
use Rattle.mau_domains.proofs.LongerIds.{first_id, first_term}
use Rattle.mau_domains.proofs.start.start_of.Goals as goal

pub returns-then-is_own-clause-start : goal.returns-then-is_own-clause-start
returns-then-is_own-clause-start c =
    let nodes = c.args.store.now in
    let th = theory_at c.args.sig.now in
    let o = operator_number c.args.under in
    let ks = trees_at nodes (numbers c.key_of-key.result.now) in
    subst (λ a. StartsAt th o c.args.op.0 (tree_in nodes a) (Some ks)) (sym c.in-Some.is)
    (own_start th o c.args.op.0 c.requires.operator.assoc (sym c.is_own.ensures ∙ c.if-is_own.true) (tree_at nodes c.in-Some.last.0) ks c.key_of-key.ensures.key)

pub start_behind-requires : goal.start_behind-requires
start_behind-requires c = first_id (IsOf c.args.store.now) c.key_of-key.result.now no_term c.in-len1-up.len_at_least c.key_of-key.ensures.there

pub returns-in-len1-up-clause-start : goal.returns-in-len1-up-clause-start
returns-in-len1-up-clause-start c =
    let nodes = c.args.store.now in
    let th = theory_at c.args.sig.now in
    let o = operator_number c.args.under in
    let key = c.key_of-key.result.now in
    let start = option_map (λ list. trees_at nodes (numbers list.now)) c.start_behind.result in
    subst (λ a. StartsAt th o c.args.op.0 (tree_in nodes a) start) (sym c.in-Some.is)
    (first_start th o c.args.op.0 (sym c.is_own.ensures ∙ c.if-is_own.false) (tree_at nodes c.in-Some.last.0) (tree_at nodes (get_or key 0 no_term).0) (trees_at nodes (numbers (drop 1 key)))
    (sym (first_term nodes key no_term c.in-len1-up.len_at_least) ∙ c.key_of-key.ensures.key) start c.start_behind.ensures.start)
