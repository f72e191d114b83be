use Rattle.std.proofs.Common.{All, sym, ap, ◌∙◌, subst}
use Rattle.std.proofs.lemmas.Result.{IfOk-weaker}
use Rattle.mau_terms.specs.View.{tree_of, variable_of}
use Rattle.mau_store.specs.Trees.{tree_at}
use Rattle.mau_match.specs.Parts.{occurs}
use Rattle.mau_match.specs.Walked.{IsPartWithin}
use Rattle.mau_match.proofs.Leading.{same_given, walked_values, gathered_within}
use Rattle.mau_match.proofs.lead.few_values.Goals as goal

pub parts_for-requires-clause-values : goal.parts_for-requires-clause-values
parts_for-requires-clause-values c = same_given c.args.sig.now c.args.store.now c.args.given.now c.in_ok-aim.aim c.in_ok-aim.ensures.variables c.in_ok-aim.ensures.values c.requires.values

pub parts_for-requires-clause-occurs : goal.parts_for-requires-clause-occurs
parts_for-requires-clause-occurs c = ap (λ x. occurs (variable_of x) (tree_of c.args.pattern.now)) c.in_ok-aim.ensures.target ∙ c.requires.occurs

pub gathered-requires : goal.gathered-requires
gathered-requires c = record { parts = subst (All (IsPartWithin c.args.sig.now c.parts_for.new.store)) (sym c.deref.ensures.value) c.in-Ok.ensures.ok.within }

pub returns-in-Ok-clause-within : goal.returns-in-Ok-clause-within
returns-in-Ok-clause-within c = IfOk-weaker c.gathered.result _ _ (λ o h. gathered_within _ _ _ _ _ _ o h) c.gathered.ensures.few

pub returns-in-Ok-clause-values : goal.returns-in-Ok-clause-values
returns-in-Ok-clause-values c =
    IfOk-weaker c.gathered.result _ _
    (λ o h.
    walked_values c.args.sig.now c.is_lawful.ensures.lawful.theories c.args.store.now c.args.given.now c.in_ok-aim.aim c.in_ok-aim.ensures.variables c.in_ok-aim.ensures.values c.args.variable c.in_ok-aim.ensures.target (tree_of c.args.pattern.now) c.requires.occurs
    (tree_at c.args.store.now c.args.subject.0) c.parts_for.new.store c.gathered.new.store c.in-Ok.parts.items c.in-Ok.ensures.ok _ c.items.ensures _ c.deref.ensures.value o h)
    c.gathered.ensures.few
