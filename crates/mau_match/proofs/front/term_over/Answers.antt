use Rattle.std.proofs.Common.{◌≡◌, true, refl, sym, ◌∙◌}
use Rattle.std.specs.declared.cmp.Ordering.{Ordering}
use Rattle.std.specs.declared.cmp.Ordering.TheVariants.{Less, Equal, Greater}
use Rattle.std.specs.Ordering.{is_eq}
use Rattle.mau_terms.specs.Order.{tree_cmp}
use Rattle.mau_terms.proofs.Orders.{tree_tied}
use Rattle.mau_terms.proofs.Ties.{lists_tied}
use Rattle.mau_signature.specs.Signature.{theory_at}
use Rattle.mau_store.specs.View.{numbers}
use Rattle.mau_store.proofs.Growth.{trees_at-extends}
use Rattle.mau_canon.proofs.Standing.{stand_there}
use Rattle.mau_match.proofs.front.term_over.Goals as goal

equal : (o : Ordering) → is_eq o ≡ true → o ≡ Equal
equal Less e = cc
equal Equal e = refl
equal Greater e = cc

pub returns-then-is_eq-clause-list : goal.returns-then-is_eq-clause-list
returns-then-is_eq-clause-list c =
    let old = c.args.store.now in
    let new = c.from_list.new.store in
    let ids = numbers c.args.list.now in
    sym c.list_of.ensures.list
    ∙ lists_tied tree_cmp tree_tied _ _ (sym c.compare_lists.ensures ∙ equal c.compare_lists.result (sym c.is_eq.ensures ∙ c.if-is_eq.true))
    ∙ trees_at-extends old new ids c.from_list.ensures.extends (stand_there (theory_at c.args.sig.now) old ids c.requires.list)
