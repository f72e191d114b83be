use Rattle.std.proofs.Common.{sym, ap, ◌∙◌, subst}
use Rattle.mau_terms.specs.Tree.{trees_of}
use Rattle.mau_signature.specs.Signature.{theory_at}
use Rattle.mau_signature.specs.OverSignature.{IsTreeOver}
use Rattle.mau_store.specs.Trees.{tree_at, trees_at}
use Rattle.mau_store.specs.View.{numbers}
use Rattle.mau_evaluation.specs.Evaluation.{native_by}
use Rattle.mau_api.specs.BuiltIns.{name_at}
use Rattle.mau_evaluation.specs.Program.{equality}
use Rattle.mau_reduce.specs.declared.built_in.BuiltIn.TheVariants.{Native}
use Rattle.mau_reduce.specs.BuiltOperators.{constant_tree, meaning_of, answer_of}
use Rattle.mau_reduce.proofs.KindsKept.{under_term}
use Rattle.mau_reduce.proofs.Taken.{normal_if_any}
use Rattle.mau_reduce.proofs.PlainTables.{term_over}
use Rattle.mau_reduce.proofs.Answering.{built_at, not_zero}
use Rattle.mau_reduce.proofs.given.given_at.Goals as goal

pub branch-store-requires-clause-some : goal.branch-store-requires-clause-some
branch-store-requires-clause-some g c = not_zero c.args.sig.now c.args.store.now c.in-App.ids.now (subst (IsTreeOver c.args.sig.now) c.in-App.ensures.tree (term_over c.args.sig.now c.requires.lawful c.args.store.now c.args.term.0 c.requires.term)).2

pub native_given-requires-clause-operator : goal.native_given-requires-clause-operator
native_given-requires-clause-operator g c = (subst (IsTreeOver c.args.sig.now) c.in-App.ensures.tree (term_over c.args.sig.now c.requires.lawful c.args.store.now c.args.term.0 c.requires.term)).0

pub returns-in-Nothing-clause-value : goal.returns-in-Nothing-clause-value
returns-in-Nothing-clause-value g c =
    built_at c.args.sig.now (g.N.Natives.operators c.args.natives.now) (tree_at c.args.store.now c.args.term.0) c.in-App.op.0 (trees_at c.args.store.now (numbers c.in-App.ids.now)) (meaning_of (g.N.Natives.operators c.args.natives.now) (name_at c.args.sig.now c.in-App.op.0) c.args.built_in) c.in-App.ensures.tree (c.requires.built_in c.in-App.op.0 (trees_of (trees_at c.args.store.now (numbers c.in-App.ids.now))) c.in-App.ensures.tree)
    ∙ (ap (λ b. native_by (meaning_of (g.N.Natives.operators c.args.natives.now) (name_at c.args.sig.now c.in-App.op.0) b) (theory_at c.args.sig.now c.in-App.op.0) c.in-App.op.0 (trees_at c.args.store.now (numbers c.in-App.ids.now))) c.in-Nothing.is)

pub returns-in-Branch-clause-value : goal.returns-in-Branch-clause-value
returns-in-Branch-clause-value g c =
    built_at c.args.sig.now (g.N.Natives.operators c.args.natives.now) (tree_at c.args.store.now c.args.term.0) c.in-App.op.0 (trees_at c.args.store.now (numbers c.in-App.ids.now)) (meaning_of (g.N.Natives.operators c.args.natives.now) (name_at c.args.sig.now c.in-App.op.0) c.args.built_in) c.in-App.ensures.tree (c.requires.built_in c.in-App.op.0 (trees_of (trees_at c.args.store.now (numbers c.in-App.ids.now))) c.in-App.ensures.tree)
    ∙ (ap (λ b. native_by (meaning_of (g.N.Natives.operators c.args.natives.now) (name_at c.args.sig.now c.in-App.op.0) b) (theory_at c.args.sig.now c.in-App.op.0) c.in-App.op.0 (trees_at c.args.store.now (numbers c.in-App.ids.now))) c.in-Branch.is ∙ c.branch-store.ensures.value (theory_at c.args.sig.now c.in-App.op.0) c.in-App.op.0 (theory_at c.args.sig.now) (tree_at c.args.store.now c.args.term.0))

pub returns-in-Same-clause-value : goal.returns-in-Same-clause-value
returns-in-Same-clause-value g c =
    built_at c.args.sig.now (g.N.Natives.operators c.args.natives.now) (tree_at c.args.store.now c.args.term.0) c.in-App.op.0 (trees_at c.args.store.now (numbers c.in-App.ids.now)) (meaning_of (g.N.Natives.operators c.args.natives.now) (name_at c.args.sig.now c.in-App.op.0) c.args.built_in) c.in-App.ensures.tree (c.requires.built_in c.in-App.op.0 (trees_of (trees_at c.args.store.now (numbers c.in-App.ids.now))) c.in-App.ensures.tree)
    ∙ (ap (λ b. native_by (meaning_of (g.N.Natives.operators c.args.natives.now) (name_at c.args.sig.now c.in-App.op.0) b) (theory_at c.args.sig.now c.in-App.op.0) c.in-App.op.0 (trees_at c.args.store.now (numbers c.in-App.ids.now))) c.in-Same.is ∙ c.same.ensures.value (theory_at c.args.sig.now c.in-App.op.0) c.in-App.op.0 (theory_at c.args.sig.now) (tree_at c.args.store.now c.args.term.0))

pub returns-in-Native-clause-value : goal.returns-in-Native-clause-value
returns-in-Native-clause-value g c =
    built_at c.args.sig.now (g.N.Natives.operators c.args.natives.now) (tree_at c.args.store.now c.args.term.0) c.in-App.op.0 (trees_at c.args.store.now (numbers c.in-App.ids.now)) (meaning_of (g.N.Natives.operators c.args.natives.now) (name_at c.args.sig.now c.in-App.op.0) c.args.built_in) c.in-App.ensures.tree (c.requires.built_in c.in-App.op.0 (trees_of (trees_at c.args.store.now (numbers c.in-App.ids.now))) c.in-App.ensures.tree)
    ∙ (ap (λ b. native_by (meaning_of (g.N.Natives.operators c.args.natives.now) (name_at c.args.sig.now c.in-App.op.0) b) (theory_at c.args.sig.now c.in-App.op.0) c.in-App.op.0 (trees_at c.args.store.now (numbers c.in-App.ids.now))) c.in-Native.is ∙ (c.native_given.ensures.value ∙ ap (λ t. answer_of c.args.store.now (theory_at c.args.sig.now) t c.native_given.result) (sym c.in-App.ensures.tree)))

pub returns-in-Branch-clause-taken : goal.returns-in-Branch-clause-taken
returns-in-Branch-clause-taken g c = λ gives.
    c.branch-store.ensures.taken c.args.sig.now
    (under_term c.args.sig.now c.requires.lawful c.args.store.now c.in-App.ensures.nodes c.args.term.0 c.in-App.op.0 c.requires.term.bare.0 (numbers c.in-App.ids.now) c.in-App.ensures.node record { within = c.requires.term.within; bare = c.requires.term.bare.1 }).0.within

pub returns-in-Same-clause-taken : goal.returns-in-Same-clause-taken
returns-in-Same-clause-taken g c = λ gives.
    c.same.ensures.taken c.args.sig.now (gives.normal c.in-App.op.0 (equality (constant_tree c.in-Same.truths.yes) (constant_tree c.in-Same.truths.no)) ((subst (IsTreeOver c.args.sig.now) c.in-App.ensures.tree (term_over c.args.sig.now c.requires.lawful c.args.store.now c.args.term.0 c.requires.term)).0) (c.requires.built_in c.in-App.op.0 (trees_of (trees_at c.args.store.now (numbers c.in-App.ids.now))) c.in-App.ensures.tree ∙ ap (meaning_of (g.N.Natives.operators c.args.natives.now) (name_at c.args.sig.now c.in-App.op.0)) c.in-Same.is))

pub returns-in-Native-clause-taken : goal.returns-in-Native-clause-taken
returns-in-Native-clause-taken g c = λ gives.
    c.native_given.ensures.taken
    (normal_if_any c.args.sig.now (g.N.Natives.operators c.args.natives.now) c.in-App.op.0 (meaning_of (g.N.Natives.operators c.args.natives.now) (name_at c.args.sig.now c.in-App.op.0) (Native c.in-Native.wanted c.in-Native.truths)) gives ((subst (IsTreeOver c.args.sig.now) c.in-App.ensures.tree (term_over c.args.sig.now c.requires.lawful c.args.store.now c.args.term.0 c.requires.term)).0) (c.requires.built_in c.in-App.op.0 (trees_of (trees_at c.args.store.now (numbers c.in-App.ids.now))) c.in-App.ensures.tree ∙ ap (meaning_of (g.N.Natives.operators c.args.natives.now) (name_at c.args.sig.now c.in-App.op.0)) c.in-Native.is))
