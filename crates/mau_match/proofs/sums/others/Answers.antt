use Rattle.std.proofs.Common.{[], ◌∷◌, ◌++◌, take, get_or, sym, ◌∙◌, ap}
use Rattle.mau_terms.specs.declared.ids.TermId.{TermId}
use Rattle.mau_store.specs.Trees.{tree_at, trees_at}
use Rattle.mau_store.specs.View.{numbers}
use Rattle.mau_match.specs.Sums.{apart}
use Rattle.mau_match.proofs.Taking.{terms_more}
use Rattle.mau_match.proofs.Uneven.{apart-append}
use Rattle.mau_match.proofs.sums.others.Goals as goal

abbrev no_term : TermId
no_term = record { 0 = 0 }

pub loop-item-preserved : goal.loop-item-preserved
loop-item-preserved c =
    let nodes = c.args.store.now in
    let ids = c.args.items.now in
    let i = c.loop-item.item-index in
    let t = tree_at nodes c.args.term.0 in
    let u = tree_at nodes (get_or ids i no_term).0 in
    let seen = trees_at nodes (numbers (take i ids)) in
    c.in_ok-push_other.ensures
    ∙ ap (λ w. w ++ apart t (u ∷ [])) c.loop-item.invariant
    ∙ sym (apart-append t seen (u ∷ []))
    ∙ ap (apart t) (sym (terms_more nodes ids i no_term c.loop-item-test.true))
