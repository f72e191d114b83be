use Rattle.std.proofs.Common.{◌≡◌, List, map, IfOk, IfErr, ap, ◌∙◌, subst}
use Rattle.mau_terms.specs.Tree.{Tree}
use Rattle.mau_terms.specs.Norm.{norm}
use Rattle.mau_terms.specs.Subst.{Variable, instance}
use Rattle.mau_terms.specs.View.{tree_of, variable_of}
use Rattle.mau_signature.specs.Signature.{theory_at}
use Rattle.mau_store.specs.Trees.{StandsFor}
use Rattle.mau_store.specs.View.{numbers}
use Rattle.mau_canon.specs.Values.{values_in}
use Rattle.mau_canon.specs.Within.{IsCause}
use Rattle.mau_canon.proofs.Standing.{stand_within_extended}
use Rattle.mau_canon.proofs.Values.{values_in-extends}
use Rattle.mau_syntactic.specs.Filled.{filled}
use Rattle.mau_syntactic.proofs.template.Template.build.Goals as goal

pub build_instance-requires-clause-values : goal.build_instance-requires-clause-values
build_instance-requires-clause-values c = stand_within_extended (theory_at c.args.sig.now) c.args.store.now c.run.new.store (numbers c.args.values.now) c.run.ensures.extends c.requires.values

pub returns-in-Err-clause-ok : goal.returns-in-Err-clause-ok
returns-in-Err-clause-ok c =
    let th = theory_at c.args.sig.now in
    let same : instance (values_in c.run.new.store c.deref.result.now c.args.values.now) (tree_of c.self.inside.term) ≡ filled c.args.store.now c.args.values.now c.args.self.now =
    ap (λ g. instance g (tree_of c.self.inside.term)) (values_in-extends th c.args.store.now c.run.new.store c.deref.result.now c.args.values.now c.run.ensures.extends c.requires.values)
    ∙ ap (λ xs. filled c.args.store.now c.args.values.now (tree_of c.self.inside.term, map variable_of xs)) c.deref.ensures.value
    ∙ ap (λ (t : Tree × List Variable). filled c.args.store.now c.args.values.now t) c.self.view_is in
    subst (λ t. IfOk c.build_instance.result (λ id. StandsFor th c.build_instance.new.store id.0 t)) same c.build_instance.ensures.ok

pub returns-in-Err-clause-refused : goal.returns-in-Err-clause-refused
returns-in-Err-clause-refused c =
    let th = theory_at c.args.sig.now in
    let same : instance (values_in c.run.new.store c.deref.result.now c.args.values.now) (tree_of c.self.inside.term) ≡ filled c.args.store.now c.args.values.now c.args.self.now =
    ap (λ g. instance g (tree_of c.self.inside.term)) (values_in-extends th c.args.store.now c.run.new.store c.deref.result.now c.args.values.now c.run.ensures.extends c.requires.values)
    ∙ ap (λ xs. filled c.args.store.now c.args.values.now (tree_of c.self.inside.term, map variable_of xs)) c.deref.ensures.value
    ∙ ap (λ (t : Tree × List Variable). filled c.args.store.now c.args.values.now t) c.self.view_is in
    subst (λ t. IfErr c.build_instance.result (IsCause th (norm th t))) same c.build_instance.ensures.refused
