use Rattle.std.proofs.Common.{◌<◌, ◌≤◌, length, ◌∷◌, take, get_or, List, sym, ap, ◌∙◌, subst, arith}
use Rattle.std.proofs.lemmas.List.{take_all}
use Rattle.std.proofs.lemmas.Result.{IfOk-weaker}
use Rattle.mau_terms.specs.View.{tree_of, variable_of}
use Rattle.mau_terms.specs.declared.ids.TermId.{TermId}
use Rattle.mau_signature.specs.Signature.{theory_at}
use Rattle.mau_store.specs.Trees.{tree_at, trees_at}
use Rattle.mau_store.specs.View.{numbers}
use Rattle.mau_store.proofs.Growth.{extension_is_preorder}
use Rattle.mau_store.proofs.Standing.{tree_at-extends}
use Rattle.mau_canon.proofs.Standing.{stands_within_extended, stand_at, stand_within_extended}
use Rattle.mau_match.specs.Led.{AreNeverWith, IsChoice}
use Rattle.mau_match.proofs.Leading.{agrees_with, given_with, never_no_value, never_more}
use Rattle.mau_match.proofs.Refusing.{agrees_stay}
use Rattle.mau_match.proofs.Adding.{trees_more}
use Rattle.mau_match.proofs.lead.+lead.Goals as goal

abbrev no_term : TermId
no_term = record { 0 = 0 }

pub may_lead-narrowest-requires-clause-values : goal.may_lead-narrowest-requires-clause-values
may_lead-narrowest-requires-clause-values t c = stand_within_extended (theory_at c.args.sig.now) c.args.store.now c.may_match.new.store (numbers c.args.given.now.values) c.may_match.ensures.extends c.requires.values

pub may_lead-narrowest-requires-clause-subject : goal.may_lead-narrowest-requires-clause-subject
may_lead-narrowest-requires-clause-subject t c = stands_within_extended (theory_at c.args.sig.now) c.args.store.now c.may_match.new.store c.may_match.ensures.extends c.args.subject.0 c.requires.subject

pub may_lead-may_lead_with-requires : goal.may_lead-may_lead_with-requires
may_lead-may_lead_with-requires t c =
    let th = theory_at c.args.sig.now in
    let old = c.args.store.now in
    let mid = c.narrowest.new.store in
    let e = extension_is_preorder.transitive old c.may_match.new.store mid c.may_match.ensures.extends c.narrowest.ensures.extends in
    let choice = rw c.in-Some.is at c.in_ok-choice.ensures.choice in (
      omega (arith, c.if-depth-eq0.false),
      (c.requires.bare, (stand_within_extended th old mid (numbers c.args.given.now.values) e c.requires.values, (stands_within_extended th old mid e c.args.subject.0 c.requires.subject, choice.within))),
    )

pub may_lead-returns-in-Some-clause-refused : goal.may_lead-returns-in-Some-clause-refused
may_lead-returns-in-Some-clause-refused t c =
    let s = c.args.sig.now in
    let old = c.args.store.now in
    let first = c.may_match.new.store in
    let mid = c.narrowest.new.store in
    let g = c.args.given.now in
    let w = c.requires.values in
    let e = c.may_match.ensures.extends in
    let f = extension_is_preorder.transitive old first mid e c.narrowest.ensures.extends in
    let id = c.args.subject.0 in
    let p = tree_of c.args.pattern.now in
    let choice : IsChoice s first mid g p (tree_at first id) c.in-Some.choice = rw c.in-Some.is at c.in_ok-choice.ensures.choice in
    IfOk-weaker c.may_lead_with.result _ _
    (λ b h no gg ag fair whole.
    h no gg (agrees_stay s old mid f g w gg ag) fair (whole ∙ sym (tree_at-extends old mid id f c.requires.subject.there))
    (choice.values gg (agrees_stay s old first e g w gg ag) fair (whole ∙ sym (tree_at-extends old first id e c.requires.subject.there))))
    c.may_lead_with.ensures.refused

-- ---- values one after another

pub may_lead_with-loop-value-init : goal.may_lead_with-loop-value-init
may_lead_with-loop-value-init t c = record {
  extends = extension_is_preorder.reflexive c.args.store.now;
  never = never_no_value c.args.sig.now c.args.store.now c.args.given.now (tree_of c.args.pattern.now) (tree_at c.args.store.now c.args.subject.0) (variable_of c.args.choice.now.variable);
}

pub may_lead_with-may_lead-requires : goal.may_lead_with-may_lead-requires
may_lead_with-may_lead-requires t c =
    let s = c.args.sig.now in
    let th = theory_at s in
    let old = c.args.store.now in
    let mid = c.loop-value.store in
    let e = c.loop-value.invariant.extends in
    let ids = c.args.choice.now.values.items in
    let i = c.loop-value.value-index in
    let id = get_or ids i no_term in
    let lt = subst (λ l. i < length l) c.deref-value-items.ensures.value c.loop-value-test.true in
    let here = stand_at th old ids i no_term lt c.requires.choice in (
      omega arith,
      (
        c.requires.bare,
        (
          given_with s c.is_lawful.ensures.lawful.theories mid c.args.given.now c.in_ok-more.more c.args.choice.now.variable id c.in_ok-more.ensures.variables (c.in_ok-more.ensures.values ∙ ap (λ l. get_or l i no_term ∷ c.args.given.now.values) c.deref-value-items.ensures.value)
              (stand_within_extended th old mid (numbers c.args.given.now.values) e c.requires.values) (stands_within_extended th old mid e id.0 here),
          stands_within_extended th old mid e c.args.subject.0 c.requires.subject,
        ),
      ),
    )

pub may_lead_with-loop-value-preserved : goal.may_lead_with-loop-value-preserved
may_lead_with-loop-value-preserved t c =
    let s = c.args.sig.now in
    let th = theory_at s in
    let old = c.args.store.now in
    let mid = c.loop-value.store in
    let new = c.may_lead.new.store in
    let g = c.args.given.now in
    let w = c.requires.values in
    let inv = c.loop-value.invariant in
    let e = inv.extends in
    let p = tree_of c.args.pattern.now in
    let x = c.args.choice.now.variable in
    let t' = tree_at old c.args.subject.0 in
    let ids = c.args.choice.now.values.items in
    let i = c.loop-value.value-index in
    let id = get_or ids i no_term in
    let lt = subst (λ l. i < length l) c.deref-value-items.ensures.value c.loop-value-test.true in
    let here = stand_at th old ids i no_term lt c.requires.choice in
    let same = tree_at-extends old mid id.0 e here.there in
    record {
      extends = extension_is_preorder.transitive old mid new e c.may_lead.ensures.extends;
      never =
          subst (AreNeverWith s old g p t' (variable_of x)) (sym (trees_more old ids i no_term lt))
          (never_more s old g p t' (variable_of x) (trees_at old (numbers (take i ids))) (tree_at old id.0) inv.never
          (λ gg ag fair whole is.
          c.in_ok-may_lead.ensures.refused c.if-branch.false gg
          (agrees_with s c.is_lawful.ensures.lawful.theories mid g c.in_ok-more.more x id c.in_ok-more.ensures.variables (c.in_ok-more.ensures.values ∙ ap (λ l. get_or l i no_term ∷ g.values) c.deref-value-items.ensures.value) c.in_ok-more.ensures.limits gg (agrees_stay s old mid e g w gg ag) (is ∙ sym same))
          fair (whole ∙ sym (tree_at-extends old mid c.args.subject.0 e c.requires.subject.there))));
    }

pub may_lead_with-returns-clause-refused : goal.may_lead_with-returns-clause-refused
may_lead_with-returns-clause-refused t c = λ no.
    subst (λ (l : List TermId). AreNeverWith c.args.sig.now c.args.store.now c.args.given.now (tree_of c.args.pattern.now) (tree_at c.args.store.now c.args.subject.0) (variable_of c.args.choice.now.variable) (trees_at c.args.store.now (numbers l)))
    (take_all c.loop-value.value-index c.args.choice.now.values.items (subst (λ l. length l ≤ c.loop-value.value-index) c.deref-value-items.ensures.value c.loop-value-test.false)) c.loop-value.invariant.never
