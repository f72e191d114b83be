use Rattle.std.proofs.Common.{◌++◌, ap, ◌∙◌, subst}
use Rattle.mau_signature.specs.Signature.{theory_at}
use Rattle.mau_store.specs.Trees.{tree_at}
use Rattle.mau_store.proofs.Standing.{tree_at-extends}
use Rattle.mau_canon.proofs.Standing.{stands_within_extended}
use Rattle.mau_domains.specs.Stored.{AddsTerms}
use Rattle.mau_domains.proofs.Adding.{adds_both_terms}
use Rattle.mau_free.specs.Arguments.{one_before, beside_unit}
use Rattle.mau_free.proofs.taken.all_taken.Goals as goal

pub push_unit-requires-clause-term : goal.push_unit-requires-clause-term
push_unit-requires-clause-term c = stands_within_extended (theory_at c.args.sig.now) c.args.store.now c.push_before.new.store c.push_before.ensures.extends c.args.term.0 c.requires.term

pub returns-clause-terms : goal.returns-clause-terms
returns-clause-terms c =
    let s = c.args.sig.now in
    let th = theory_at s in
    let f = c.args.op.0 in
    let old = c.args.store.now in
    let mid = c.push_before.new.store in
    let new = c.push_unit.new.store in
    let t = tree_at old c.args.term.0 in
    let before = one_before (th f).succ t in
    let same = tree_at-extends old mid c.args.term.0 c.push_before.ensures.extends c.requires.term.there in
    let second : AddsTerms s mid new c.push_before.new.values.items c.push_unit.new.values.items (beside_unit (th f).id t) =
    subst (λ w. AddsTerms s mid new c.push_before.new.values.items c.push_unit.new.values.items (beside_unit (th f).id w)) same c.in_ok-push_unit.ensures.ok in
    (adds_both_terms s old mid new c.in_ok-values.values.items c.push_before.new.values.items c.push_unit.new.values.items before (beside_unit (th f).id t) c.in_ok-push_before.ensures.ok second).terms
    ∙ ap (λ w. w ++ (before ++ beside_unit (th f).id t)) c.in_ok-values.ensures.terms
