use Rattle.std.proofs.Common.{sym, ap, ◌∙◌, subst, rules, tests}
use Rattle.mau_terms.specs.Bare.{IsBare}
use Rattle.mau_terms.specs.Reading.{reading}
use Rattle.mau_terms.specs.View.{tree_of}
use Rattle.mau_signature.specs.Signature.{theory_at, terms_over}
use Rattle.mau_store.specs.Trees.{tree_at}
use Rattle.mau_trial.proofs.Instances.{places_are_sorted, bare_of_kinds, kinds_of_bare, one_value, some_kind}
use Rattle.mau_trial.proofs.tried.is_bare_instance.Goals as goal

pub are_of_kinds_at-requires-clause-sorts : goal.are_of_kinds_at-requires-clause-sorts
are_of_kinds_at-requires-clause-sorts c = places_are_sorted c.args.sig.now (tree_of c.args.pattern.now) c.requires.pattern c.args.places.now c.requires.places.variables

pub returns-in-Var : goal.returns-in-Var
returns-in-Var c =
    let s = c.args.sig.now in
    let e = one_value s c.args.store.now (tree_of c.args.pattern.now) c.requires.pattern c.args.places.now c.requires.places.variables c.args.values.now c.in-Var.field-0.index c.in-Var.field-0.sort (ap tree_of c.in-Var.is) c.requires.each _ in
    let both = some_kind (terms_over s) (reading (theory_at s) (tree_at c.args.store.now _)) c.kind_of.result c.kind_of.ensures.some c.kind_of.ensures.none in (
      λ h. subst (IsBare (terms_over s)) (sym e) (both.0 (sym c.is_some.ensures ∙ search (rules, tests))),
      λ b. let yes = c.is_some.ensures ∙ both.1 (subst (IsBare (terms_over s)) e b) in search (rules, tests),
    )

pub returns-in-App : goal.returns-in-App
returns-in-App c =
    let s = c.args.sig.now in
    let p = tree_of c.args.pattern.now in (
      λ h. bare_of_kinds s c.args.store.now p c.requires.pattern c.args.places.now c.requires.places.variables c.args.values.now (c.are_of_kinds_at.ensures.0 h),
      λ b. c.are_of_kinds_at.ensures.1 (kinds_of_bare s c.args.store.now p c.requires.pattern c.args.places.now c.requires.places.variables c.args.values.now _ _ (ap tree_of c.in-App.is) c.requires.each b),
    )
