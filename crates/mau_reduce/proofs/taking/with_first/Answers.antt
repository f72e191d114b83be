use Rattle.std.proofs.Common.{◌≡◌, ◌-◌, List, [], ◌∷◌, ◌++◌, take, drop, length, sym, ap, ap₂, ◌∙◌, subst}
use Rattle.std.proofs.Math.Seq.{take-length}
use Rattle.std.proofs.Math.ListN.{drop_of_length-le}
use Rattle.std.proofs.lemmas.List.{length-drop}
use Rattle.mau_terms.specs.declared.ids.TermId.{TermId}
use Rattle.mau_signature.specs.Signature.{theory_at}
use Rattle.mau_store.specs.Trees.{trees_at}
use Rattle.mau_store.specs.View.{numbers}
use Rattle.mau_canon.specs.Standing.{StandWithin}
use Rattle.mau_reduce.proofs.KindsKept.{under_term}
use Rattle.mau_reduce.proofs.Taken.{with_first_trees, with_first_within}
use Rattle.mau_reduce.proofs.taking.with_first.Goals as goal

pub returns-then-ids-le2-clause-operator : goal.returns-then-ids-le2-clause-operator
returns-then-ids-le2-clause-operator c = (under_term c.args.sig.now c.requires.lawful c.args.store.now c.in-App.ensures.nodes c.args.term.0 c.in-App.op.0 c.requires.term.bare.0 (numbers c.in-App.ids.now) c.in-App.ensures.node record { within = c.requires.term.within; bare = c.requires.term.bare.1 }).0.operator

pub returns-then-ids-le2-clause-list : goal.returns-then-ids-le2-clause-list
returns-then-ids-le2-clause-list c =
    let items : c.push.new.self.items ≡ c.args.first ∷ [] = c.in_ok-push-in-App.ensures.items ∙ ap (λ (xs : List TermId). xs ++ c.args.first ∷ []) c.new-args.ensures.items in (
      trees_at c.args.store.now (numbers c.in-App.ids.now),
      c.in-App.ensures.tree,
      ap (λ (xs : List TermId). trees_at c.args.store.now (numbers xs)) (items ∙ ap (λ (ys : List TermId). c.args.first ∷ ys) (sym (drop_of_length-le c.in-App.ids.now c.if-ids-le2.true)))
          ∙ with_first_trees c.args.store.now c.args.first c.in-App.ids.now,
    )

pub returns-in_ok-extend_from_slice-in-App-clause-within : goal.returns-in_ok-extend_from_slice-in-App-clause-within
returns-in_ok-extend_from_slice-in-App-clause-within c =
    let ids = c.in-App.ids.now in
    let first : c.push.new.self.items ≡ c.args.first ∷ [] = c.in_ok-push-in-App.ensures.items ∙ ap (λ (xs : List TermId). xs ++ c.args.first ∷ []) c.new-args.ensures.items in
    let rest : take (length ids - 2) (drop 2 ids) ≡ drop 2 ids = ap (λ n. take n (drop 2 ids)) (sym (length-drop 2 ids)) ∙ take-length (drop 2 ids) in
    let items : c.extend_from_slice.new.self.items ≡ c.args.first ∷ drop 2 ids = c.in_ok-extend_from_slice-in-App.ensures.items ∙ ap₂ (λ (xs ys : List TermId). xs ++ ys) first rest in
    subst (λ (xs : List TermId). StandWithin (theory_at c.args.sig.now) c.args.store.now (numbers xs)) (sym items)
    (with_first_within (theory_at c.args.sig.now) c.args.store.now c.args.first ids c.requires.first (under_term c.args.sig.now c.requires.lawful c.args.store.now c.in-App.ensures.nodes c.args.term.0 c.in-App.op.0 c.requires.term.bare.0 (numbers c.in-App.ids.now) c.in-App.ensures.node record { within = c.requires.term.within; bare = c.requires.term.bare.1 }).0.within)
