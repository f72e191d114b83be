use Rattle.std.proofs.Common.{◌≡◌, ◌≤◌, ◌++◌, ◌∷◌, [], Contains, Some, IfSome, take, length, inl, inr, sym, ap, ap₂, ◌∙◌, subst, arith}
use Rattle.std.proofs.lemmas.List.Elements.{All-take, All-cons, All-nil, All-contains_itself}
use Rattle.std.proofs.lemmas.Result.{IfOk-weaker}
use Rattle.mau_terms.specs.Solution.{list_under, value_key}
use Rattle.mau_terms.specs.declared.ids.TermId.{TermId}
use Rattle.mau_signature.specs.Signature.{theory_at}
use Rattle.mau_store.specs.Trees.{tree_at, trees_at}
use Rattle.mau_store.specs.View.{numbers}
use Rattle.mau_store.proofs.Growth.{trees_at-extends}
use Rattle.mau_store.proofs.Standing.{tree_at-extends}
use Rattle.mau_canon.specs.Standing.{StandsWithin, StandWithin}
use Rattle.mau_canon.proofs.Standing.{stand_there, stand_among, stand_within_extended, stands_within_extended}
use Rattle.mau_match.specs.Fronts.{NoneGoesOn}
use Rattle.mau_match.specs.Skipped.{IsFurther}
use Rattle.mau_match.proofs.DeadFronts.{passed_none, passed_to}
use Rattle.mau_match.proofs.Skipping.{stand_joined, terms_take}
use Rattle.mau_match.proofs.Places.{terms_joined}
use Rattle.mau_listing.proofs.Growth.{trees_long}
use Rattle.mau_match.proofs.candidates.passed_front.Goals as goal

pub dead_front-requires-clause-list : goal.dead_front-requires-clause-list
dead_front-requires-clause-list c =
    let th = theory_at c.args.sig.now in
    let nodes = c.args.store.now in
    subst (λ l. StandWithin th nodes (numbers l)) (sym (c.deref.ensures.value ∙ c.in_ok-list.ensures)) (c.list_of.ensures.within c.requires.value)

pub value_over-requires-clause-list : goal.value_over-requires-clause-list
value_over-requires-clause-list c =
    let th = theory_at c.args.sig.now in
    let nodes = c.args.store.now in
    let mid = c.dead_front.new.store in
    let l = c.deref.result.now in
    let own : StandWithin th nodes (numbers l) = subst (λ l. StandWithin th nodes (numbers l)) (sym (c.deref.ensures.value ∙ c.in_ok-list.ensures)) (c.list_of.ensures.within c.requires.value) in
    let whole : StandWithin th nodes (numbers c.deref-in-Some-2.result.now) = subst (λ w. StandWithin th nodes (numbers w)) (c.deref.ensures.value ∙ sym c.deref-in-Some-2.ensures.value) own in
    let n = c.in-Some-2.count in
    let ids = c.deref-in-Some-2.result.now in
    let first : StandWithin th nodes (numbers (take n ids)) = stand_among th nodes (take n ids) ids (All-take (Contains ids) n ids (All-contains_itself ids)) whole in
    let last : StandWithin th nodes (numbers (c.in-Some.last ∷ [])) = All-cons (StandsWithin th nodes) c.in-Some.last.0 [] (subst (λ o. IfSome o (λ id. StandsWithin th nodes id.0)) c.in-Some.is c.greatest_item.ensures) (All-nil (StandsWithin th nodes)) in
    let all : StandWithin th nodes (numbers (take n ids ++ c.in-Some.last ∷ [])) = stand_joined th nodes (take n ids) (c.in-Some.last ∷ []) first last in
    subst (λ w. StandWithin th mid (numbers w)) (sym (c.deref-in-Some-2-2.ensures.value ∙ c.in_ok-far-in-Some-2.ensures ∙ ap (λ w. take n ids ++ w) c.from_ref.ensures.value)) (stand_within_extended th nodes mid (numbers (take n ids ++ c.in-Some.last ∷ [])) c.dead_front.ensures.extends all)

pub value_over-requires-clause-value : goal.value_over-requires-clause-value
value_over-requires-clause-value c = stands_within_extended (theory_at c.args.sig.now) c.args.store.now c.dead_front.new.store c.dead_front.ensures.extends c.args.value.0 c.requires.value

pub returns-in-Some-2-clause-passed : goal.returns-in-Some-2-clause-passed
returns-in-Some-2-clause-passed c =
    let s = c.args.sig.now in
    let th = theory_at s in
    let nodes = c.args.store.now in
    let mid = c.dead_front.new.store in
    let new = c.value_over.new.store in
    let e = c.dead_front.ensures.extends in
    let ls = c.args.limits.now in
    let t = c.args.trial.now in
    let ps = c.args.places.now in
    let ids = c.args.chosen.now in
    let f = c.args.op.0 in
    let v = tree_at nodes c.args.value.0 in
    let n = c.in-Some-2.count in
    let l = c.deref.result.now in
    let list = trees_at nodes (numbers l) in
    let key : value_key th (Some f) v ≡ list = ap (list_under (th f) f) c.requires.value.normal ∙ sym c.list_of.ensures.list ∙ ap (λ w. trees_at nodes (numbers w)) (sym (c.deref.ensures.value ∙ c.in_ok-list.ensures)) in
    let own : StandWithin th nodes (numbers l) = subst (λ l. StandWithin th nodes (numbers l)) (sym (c.deref.ensures.value ∙ c.in_ok-list.ensures)) (c.list_of.ensures.within c.requires.value) in
    let first : StandWithin th nodes (numbers (take n l)) = stand_among th nodes (take n l) l (All-take (Contains l) n l (All-contains_itself l)) own in
    let same_list : c.deref-in-Some-2.result.now ≡ l = c.deref-in-Some-2.ensures.value ∙ sym c.deref.ensures.value in
    let far : trees_at mid (numbers c.deref-in-Some-2-2.result.now) ≡ take n list ++ tree_at mid c.in-Some.last.0 ∷ [] =
    ap (λ w. trees_at mid (numbers w)) (c.deref-in-Some-2-2.ensures.value ∙ c.in_ok-far-in-Some-2.ensures ∙ ap₂ (λ a b. take n a ++ b) same_list c.from_ref.ensures.value)
    ∙ terms_joined mid (take n l) (c.in-Some.last ∷ [])
    ∙ ap (λ w. w ++ tree_at mid c.in-Some.last.0 ∷ []) (trees_at-extends nodes mid (numbers (take n l)) e (stand_there th nodes (numbers (take n l)) first) ∙ terms_take nodes n l) in
    let dead : NoneGoesOn s ls nodes t ps ids f (take n list) = subst (NoneGoesOn s ls nodes t ps ids f) (terms_take nodes n l) (rw c.in-Some-2.is at c.in_ok-count.ensures.dead) in
    let room : n ≤ length list = omega (arith, trees_long nodes l, (let r : n ≤ length l = rw c.in-Some-2.is at c.in_ok-count.ensures.room in r)) in
    let at : tree_at mid c.args.value.0 ≡ v = tree_at-extends nodes mid c.args.value.0 e c.requires.value.there in
    IfOk-weaker c.value_over.result _ _
    (λ id over.
    elim over [
      | inl same ↦
          passed_none s ls nodes t ps ids f v (tree_at new id.0)
          (sym (ap (λ (i : TermId). tree_at new i.0) same ∙ tree_at-extends mid new c.args.value.0 c.value_over.ensures.extends (stands_within_extended th nodes mid e c.args.value.0 c.requires.value).there ∙ at))
      | inr k ↦
          passed_to s ls nodes t ps ids f v (tree_at new id.0) list (trees_at mid (numbers c.deref-in-Some-2-2.result.now)) n (tree_at mid c.in-Some.last.0) key room far dead
          (subst (λ w. IsFurther th f w (trees_at mid (numbers c.deref-in-Some-2-2.result.now)) (tree_at new id.0)) at k)
    ])
    c.value_over.ensures.over

pub returns-clause-passed : goal.returns-clause-passed
returns-clause-passed c =
    let nodes = c.args.store.now in
    let mid = c.dead_front.new.store in
    let v = c.args.value.0 in
    passed_none c.args.sig.now c.args.limits.now nodes c.args.trial.now c.args.places.now c.args.chosen.now c.args.op.0 (tree_at nodes v) (tree_at mid v) (sym (tree_at-extends nodes mid v c.dead_front.ensures.extends c.requires.value.there))

pub returns-clause-within : goal.returns-clause-within
returns-clause-within c = stands_within_extended (theory_at c.args.sig.now) c.args.store.now c.dead_front.new.store c.dead_front.ensures.extends c.args.value.0 c.requires.value
