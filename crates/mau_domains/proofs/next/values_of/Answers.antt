use Rattle.std.proofs.Common.{◌≡◌, ◌∙◌, sym, ap, subst}
use Rattle.mau_signature.specs.Signature.{theory_at}
use Rattle.mau_store.specs.Trees.{trees_at}
use Rattle.mau_store.specs.View.{numbers}
use Rattle.mau_listing.specs.Places.{operator_number}
use Rattle.mau_domains.specs.Parts.{whole, some_of}
use Rattle.mau_domains.specs.Values.{IsValueOf, by_key}
use Rattle.mau_domains.specs.Nearest.{HoldsNext}
use Rattle.mau_domains.specs.Stored.{reach_of, part_in, tree_in, IsListOperator, AreItems, IsPartOver}
use Rattle.mau_domains.specs.Lists.{whole_of}
use Rattle.mau_domains.proofs.ListValues.{whole_holds}
use Rattle.mau_domains.proofs.next.values_of.Goals as goal
use Rattle.mau_terms.proofs.Outcomes.{IfOk-then}

pub returns-in-Whole-clause-next : goal.returns-in-Whole-clause-next
returns-in-Whole-clause-next c =
    let s = c.args.sig.now in
    let th = theory_at s in
    let f = c.in-ListOf.op.0 in
    let old = c.args.store.now in
    let new = c.whole_values.new.store in
    let ts = trees_at old (numbers c.in-ListOf.items) in
    let o = operator_number c.args.under in
    let after = tree_in old c.args.after in
    let over : IsListOperator s f × AreItems s old f c.in-ListOf.items = subst (IsPartOver s old) c.in-ListOf.is c.requires.part in
    let part : part_in old c.args.part.now ≡ some_of whole f ts = ap (part_in old) c.in-ListOf.is ∙ ap (λ r. some_of (reach_of r) f ts) c.in-Whole.is in
    IfOk-then _ _
    (λ values e.
    subst (HoldsNext (by_key th o) (IsValueOf th (part_in old c.args.part.now)) 0 after) (sym (e ∙ ap (λ w. whole_of (th f) f (trees_at old (numbers w))) c.items.ensures))
    (subst (λ q. HoldsNext (by_key th o) (IsValueOf th q) 0 after (whole_of (th f) f ts)) (sym part)
    (whole_holds th c.is_lawful.ensures.lawful.theories f over.0.assoc ts over.1.pieces o after)))
    c.whole_values.result c.whole_values.ensures.terms
