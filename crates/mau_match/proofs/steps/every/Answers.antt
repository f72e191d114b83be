use Rattle.std.proofs.Common.{◌≡◌, ◌+◌, ◌/◌, ◌∷◌, [], ◌++◌, nat_lt, All, Contains, take, drop, get_or, sym, ◌∙◌, ap, ap₂, subst}
use Rattle.std.proofs.lemmas.List.Elements.{All-append, All-cons, All-nil, All-contains_itself}
use Rattle.mau_terms.specs.declared.ids.TermId.{TermId}
use Rattle.mau_store.specs.Trees.{tree_at, trees_at}
use Rattle.mau_store.specs.View.{numbers}
use Rattle.mau_canon.proofs.Elements.{trees_at-append}
use Rattle.mau_match.specs.Parts.{how_many, every}
use Rattle.mau_match.proofs.Taking.{terms_more, terms_from, every_kept, every_passed}
use Rattle.mau_match.proofs.steps.every.Goals as goal
use Rattle.mau_match.proofs.steps.every.Goals.{then-is_due+in_ok-push, else-is_due}

abbrev no_term : TermId
no_term = record { 0 = 0 }

pub loop-i-preserved : goal.loop-i-preserved
loop-i-preserved c =
    let nodes = c.args.store.now in
    let ids = c.args.items.now in
    let i = c.loop-i.i in
    let m = c.args.times in
    let id = get_or ids i no_term in
    let t = tree_at nodes id.0 in
    let out = c.loop-i.out.items in
    let seen = trees_at nodes (numbers (take i ids)) in
    let kept = trees_at nodes (numbers out) in
    let us = trees_at nodes (numbers (drop (i + 1) ids)) in
    let from = terms_from nodes ids i no_term c.loop-i-test.true in
    let now = terms_more nodes ids i no_term c.loop-i-test.true in
    let due : nat_lt (how_many t kept) ((how_many t seen + 1) / m) ≡ c.is_due.result = sym (c.is_due.ensures ∙ ap (λ (l : _). nat_lt (how_many t (trees_at nodes (numbers l))) ((how_many t seen + 1) / m)) c.deref.ensures.value) in
    elim c.if-is_due.branch [
      | then-is_due+in_ok-push w ↦
          let items : c.if-is_due.out.items ≡ out ++ id ∷ [] = ap (λ v. v.items) w.out-is ∙ w.in_ok-push.ensures.items in
          let after : trees_at nodes (numbers c.if-is_due.out.items) ≡ kept ++ t ∷ [] = ap (λ l. trees_at nodes (numbers l)) items ∙ trees_at-append nodes out (id ∷ []) in
          record {
            same =
                ap₂ (λ k s. k ++ every m s k us) after now
                ∙ sym (every_kept m seen kept t us (due ∙ w.if-is_due.true))
                ∙ ap (λ l. kept ++ every m seen kept l) (sym from)
                ∙ c.loop-i.invariant.same;
            among = subst (All (Contains ids)) (sym items) (All-append (Contains ids) out (id ∷ []) c.loop-i.invariant.among (All-cons (Contains ids) id [] (All-contains_itself ids i no_term c.loop-i-test.true) (All-nil (Contains ids))));
          }
      | else-is_due w ↦
          let items : c.if-is_due.out.items ≡ out = ap (λ v. v.items) w.out-is in
          record {
            same =
                ap₂ (λ l s. trees_at nodes (numbers l) ++ every m s (trees_at nodes (numbers l)) us) items now
                ∙ sym (every_passed m seen kept t us (due ∙ w.if-is_due.false))
                ∙ ap (λ l. kept ++ every m seen kept l) (sym from)
                ∙ c.loop-i.invariant.same;
            among = subst (All (Contains ids)) (sym items) c.loop-i.invariant.among;
          }
    ]
