use Rattle.std.proofs.Common.{map, sym, ◌∙◌, ap, ap₂, subst}
use Rattle.mau_terms.specs.Tree.{node}
use Rattle.mau_terms.specs.Bare.{IsBare}
use Rattle.mau_terms.specs.Norm.{norm}
use Rattle.mau_terms.specs.View.{tree_of}
use Rattle.mau_signature.specs.Signature.{terms_over, theory_at}
use Rattle.mau_terms.proofs.BareTerms.{bare_node}
use Rattle.mau_signature.proofs.Operators.{is_operator}
use Rattle.mau_statement.specs.Tops.{top_of, IsTopOver, over_one_top, over_two_top}
use Rattle.mau_statement.proofs.Topped.{list_none, list_one, list_two, list_many, one_over, two_over}
use Rattle.mau_statement.proofs.tops.+normal_top.Goals as goal

pub returns-in-empty-clause-value : goal.returns-in-empty-clause-value
returns-in-empty-clause-value t c =
    let s = terms_over c.args.signature.now in
    let e = bare_node c.args.term.now c.in-App.op _ c.items.result.now c.in-App.is c.items.ensures in
    let bare : IsBare s (node c.in-App.op.0 (map tree_of c.items.result.now)) = subst (IsBare s) e c.requires in
    sym (ap (λ v. top_of (norm s.theory v)) e ∙ list_none s c.theory-theory.ensures.lawful c.in-App.op.0 bare.0 c.items.result.now bare.1 c.in-empty.len_below)

pub returns-in-len1-clause-value : goal.returns-in-len1-clause-value
returns-in-len1-clause-value t c =
    let s = terms_over c.args.signature.now in
    let e = bare_node c.args.term.now c.in-App.op _ c.items.result.now c.in-App.is c.items.ensures in
    let bare : IsBare s (node c.in-App.op.0 (map tree_of c.items.result.now)) = subst (IsBare s) e c.requires in
    let whole = ap (λ v. top_of (norm s.theory v)) e ∙ list_one s c.theory-theory.ensures.lawful c.in-App.op.0 bare.0 c.items.result.now c.only-item.result bare.1 c.in-len1.len_at_least c.in-len1.len_below c.only-item.is in
    c.over_one.ensures
    ∙ ap₂ (λ h x. over_one_top h.succ c.in-App.op x) c.theory-theory.ensures.value c.normal_top.ensures.value
    ∙ sym whole

pub returns-in-len2-clause-value : goal.returns-in-len2-clause-value
returns-in-len2-clause-value t c =
    let s = terms_over c.args.signature.now in
    let th = theory_at c.args.signature.now in
    let op = c.in-App.op in
    let e = bare_node c.args.term.now op _ c.items.result.now c.in-App.is c.items.ensures in
    let bare : IsBare s (node op.0 (map tree_of c.items.result.now)) = subst (IsBare s) e c.requires in
    let whole = ap (λ v. top_of (norm s.theory v)) e ∙ list_two s c.theory-theory.ensures.lawful op.0 bare.0 c.items.result.now c.left-item.result c.right-item.result bare.1 c.in-len2.len_at_least c.in-len2.len_below c.left-item.is c.right-item.is in
    c.over_two.ensures
    ∙ ap (λ h. over_two_top h.id op c.normal_top-in-len2.result c.normal_top-in-len2-2.result) c.theory-theory.ensures.value
    ∙ ap₂ (λ x y. over_two_top (th op.0).id op x y) c.normal_top-in-len2.ensures.value c.normal_top-in-len2-2.ensures.value
    ∙ sym whole

pub returns-in_default-clause-value : goal.returns-in_default-clause-value
returns-in_default-clause-value t c =
    let s = terms_over c.args.signature.now in
    let e = bare_node c.args.term.now c.in-App.op _ c.items.result.now c.in-App.is c.items.ensures in
    let bare : IsBare s (node c.in-App.op.0 (map tree_of c.items.result.now)) = subst (IsBare s) e c.requires in
    sym (ap (λ v. top_of (norm s.theory v)) e ∙ list_many s c.theory-theory.ensures.lawful c.in-App.op.0 bare.0 c.items.result.now bare.1 c.in_default.len_at_least)

pub returns-in-empty-clause-over : goal.returns-in-empty-clause-over
returns-in-empty-clause-over t c =
    let e = bare_node c.args.term.now c.in-App.op _ c.items.result.now c.in-App.is c.items.ensures in
    let bare : IsBare (terms_over c.args.signature.now) (node c.in-App.op.0 (map tree_of c.items.result.now)) = subst (IsBare (terms_over c.args.signature.now)) e c.requires in
    is_operator c.args.signature.now c.in-App.op.0 bare.1.0

pub returns-in-len1-clause-over : goal.returns-in-len1-clause-over
returns-in-len1-clause-over t c =
    let e = bare_node c.args.term.now c.in-App.op _ c.items.result.now c.in-App.is c.items.ensures in
    let bare : IsBare (terms_over c.args.signature.now) (node c.in-App.op.0 (map tree_of c.items.result.now)) = subst (IsBare (terms_over c.args.signature.now)) e c.requires in
    subst (IsTopOver c.args.signature.now) (sym c.over_one.ensures) (one_over c.args.signature.now _ c.in-App.op c.normal_top.result (is_operator c.args.signature.now c.in-App.op.0 bare.1.0))

pub returns-in-len2-clause-over : goal.returns-in-len2-clause-over
returns-in-len2-clause-over t c =
    let e = bare_node c.args.term.now c.in-App.op _ c.items.result.now c.in-App.is c.items.ensures in
    let bare : IsBare (terms_over c.args.signature.now) (node c.in-App.op.0 (map tree_of c.items.result.now)) = subst (IsBare (terms_over c.args.signature.now)) e c.requires in
    subst (IsTopOver c.args.signature.now) (sym c.over_two.ensures)
    (two_over c.args.signature.now _ c.in-App.op c.normal_top-in-len2.result c.normal_top-in-len2-2.result (is_operator c.args.signature.now c.in-App.op.0 bare.1.0) c.normal_top-in-len2.ensures.over c.normal_top-in-len2-2.ensures.over)

pub returns-in_default-clause-over : goal.returns-in_default-clause-over
returns-in_default-clause-over t c =
    let e = bare_node c.args.term.now c.in-App.op _ c.items.result.now c.in-App.is c.items.ensures in
    let bare : IsBare (terms_over c.args.signature.now) (node c.in-App.op.0 (map tree_of c.items.result.now)) = subst (IsBare (terms_over c.args.signature.now)) e c.requires in
    is_operator c.args.signature.now c.in-App.op.0 bare.1.0
