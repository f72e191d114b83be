use Rattle.std.proofs.Common.{◌<◌, ◌∷◌, ◌++◌, [], length, get_or, sym, ap, ◌∙◌, subst}
use Rattle.std.proofs.lemmas.Option.{slice_get_within}
use Rattle.mau_terms.specs.Tree.{numeral}
use Rattle.mau_terms.specs.declared.ids.TermId.{TermId}
use Rattle.mau_signature.specs.Signature.{theory_at}
use Rattle.mau_store.specs.Trees.{trees_at}
use Rattle.mau_store.specs.View.{numbers}
use Rattle.mau_store.proofs.Growth.{extension_is_preorder}
use Rattle.mau_canon.proofs.Standing.{stand_at}
use Rattle.mau_syntactic.specs.Parts.{after_part, CanFollow}
use Rattle.mau_syntactic.proofs.Filling.{pushed_trees, pushed_stand, numeral_stands, variable_stands}
use Rattle.mau_syntactic.proofs.Instances.{value_tree}
use Rattle.mau_syntactic.proofs.template.add.Goals as goal

pub returns-in_ok-push-in-Numeral-clause-trees : goal.returns-in_ok-push-in-Numeral-clause-trees
returns-in_ok-push-in-Numeral-clause-trees c =
    let th = theory_at c.args.sig.now in
    let old = c.args.store.now in
    let ts = trees_at old (numbers c.args.stack.now.items) in
    pushed_trees th old c.intern.new.self c.args.stack.now.items c.push.new.stack.items c.in_ok-id-in-Numeral.id c.intern.ensures.extends c.requires.stack c.in_ok-push-in-Numeral.ensures
    ∙ ap (λ t. ts ++ t ∷ []) c.in_ok-id-in-Numeral.ensures.tree
    ∙ ap (λ p. after_part th (trees_at old (numbers c.args.values.now)) p ts) (sym c.in-Numeral.is)

pub returns-in_ok-push-in-Numeral-clause-stack : goal.returns-in_ok-push-in-Numeral-clause-stack
returns-in_ok-push-in-Numeral-clause-stack c =
    let th = theory_at c.args.sig.now in
    pushed_stand th c.args.store.now c.intern.new.self c.args.stack.now.items c.push.new.stack.items c.in_ok-id-in-Numeral.id c.intern.ensures.extends c.requires.stack c.in_ok-push-in-Numeral.ensures
    (numeral_stands th c.intern.new.self c.in_ok-id-in-Numeral.id.0 c.in-Numeral.n (slice_get_within c.intern.new.self c.in_ok-id-in-Numeral.id.0 _ c.in_ok-id-in-Numeral.ensures.ok) c.in_ok-id-in-Numeral.ensures.tree)

value_low : (c : goal.In_ok-push-in-Value) → c.in-Value.place < length c.args.values.now
value_low c = subst (CanFollow c.args.sig.now (length c.args.values.now) (length c.args.stack.now.items)) c.in-Value.is c.requires.part

pub returns-in_ok-push-in-Value-clause-trees : goal.returns-in_ok-push-in-Value-clause-trees
returns-in_ok-push-in-Value-clause-trees c =
    let th = theory_at c.args.sig.now in
    let old = c.args.store.now in
    let ts = trees_at old (numbers c.args.stack.now.items) in
    let none : TermId = record { 0 = 0 } in
    pushed_trees th old old c.args.stack.now.items c.push-in-Value.new.stack.items (get_or c.args.values.now c.in-Value.place none) (extension_is_preorder.reflexive old) c.requires.stack c.in_ok-push-in-Value.ensures
    ∙ ap (λ t. ts ++ t ∷ []) (value_tree old c.args.values.now c.in-Value.place none (numeral 0) (value_low c))
    ∙ ap (λ p. after_part th (trees_at old (numbers c.args.values.now)) p ts) (sym c.in-Value.is)

pub returns-in_ok-push-in-Value-clause-stack : goal.returns-in_ok-push-in-Value-clause-stack
returns-in_ok-push-in-Value-clause-stack c =
    let th = theory_at c.args.sig.now in
    let old = c.args.store.now in
    let none : TermId = record { 0 = 0 } in
    pushed_stand th old old c.args.stack.now.items c.push-in-Value.new.stack.items (get_or c.args.values.now c.in-Value.place none) (extension_is_preorder.reflexive old) c.requires.stack c.in_ok-push-in-Value.ensures
    (stand_at th old c.args.values.now c.in-Value.place none (value_low c) c.requires.values)

pub returns-in_ok-push-in-Unbound-clause-trees : goal.returns-in_ok-push-in-Unbound-clause-trees
returns-in_ok-push-in-Unbound-clause-trees c =
    let th = theory_at c.args.sig.now in
    let old = c.args.store.now in
    let ts = trees_at old (numbers c.args.stack.now.items) in
    pushed_trees th old c.intern-in-Unbound.new.self c.args.stack.now.items c.push-in-Unbound.new.stack.items c.in_ok-id-in-Unbound.id c.intern-in-Unbound.ensures.extends c.requires.stack c.in_ok-push-in-Unbound.ensures
    ∙ ap (λ t. ts ++ t ∷ []) c.in_ok-id-in-Unbound.ensures.tree
    ∙ ap (λ p. after_part th (trees_at old (numbers c.args.values.now)) p ts) (sym c.in-Unbound.is)

pub returns-in_ok-push-in-Unbound-clause-stack : goal.returns-in_ok-push-in-Unbound-clause-stack
returns-in_ok-push-in-Unbound-clause-stack c =
    let th = theory_at c.args.sig.now in
    pushed_stand th c.args.store.now c.intern-in-Unbound.new.self c.args.stack.now.items c.push-in-Unbound.new.stack.items c.in_ok-id-in-Unbound.id c.intern-in-Unbound.ensures.extends c.requires.stack c.in_ok-push-in-Unbound.ensures
    (variable_stands th c.intern-in-Unbound.new.self c.in_ok-id-in-Unbound.id.0 c.in-Unbound.variable.index c.in-Unbound.variable.sort (slice_get_within c.intern-in-Unbound.new.self c.in_ok-id-in-Unbound.id.0 _ c.in_ok-id-in-Unbound.ensures.ok) c.in_ok-id-in-Unbound.ensures.tree)
