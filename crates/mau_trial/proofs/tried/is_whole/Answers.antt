use Rattle.std.proofs.Common.{◌≡◌, sym, ap, ◌∙◌, rules, tests}
use Rattle.std.specs.declared.cmp.Ordering.TheVariants.{Equal}
use Rattle.mau_terms.specs.Norm.{norm}
use Rattle.mau_terms.specs.Order.{tree_cmp}
use Rattle.mau_terms.specs.Subst.{instance, value_at, with_values}
use Rattle.mau_terms.specs.View.{tree_of}
use Rattle.mau_terms.proofs.Orders.{tree_total, tree_tied}
use Rattle.std.proofs.lemmas.Cmp.{tied_itself}
use Rattle.mau_signature.specs.Signature.{theory_at}
use Rattle.mau_store.specs.Trees.{tree_at, trees_at}
use Rattle.mau_store.specs.View.{numbers}
use Rattle.mau_store.proofs.Standing.{tree_at-extends}
use Rattle.mau_trial.proofs.tried.is_whole.Goals as goal

pub returns-in-Ok-clause-whole : goal.returns-in-Ok-clause-whole
returns-in-Ok-clause-whole c =
    let th = theory_at c.args.sig.now in
    let p = tree_of c.args.pattern.now in
    let ws = trees_at c.args.store.now (numbers c.args.values.now) in
    let whole : tree_at c.build_instance.new.store c.in-Ok.id.0 ≡ norm th (with_values p ws) =
    c.in-Ok.ensures.ok ∙ ap (λ xs. norm th (instance (value_at xs ws) p)) c.requires.variables in
    let asked : tree_at c.build_instance.new.store c.args.subject.0 ≡ tree_at c.args.store.now c.args.subject.0 =
    tree_at-extends c.args.store.now c.build_instance.new.store c.args.subject.0 c.build_instance.ensures.extends c.requires.subject.there in (
      λ h.
          let tied : c.compare.result ≡ Equal = search (rules, tests) in
          sym whole ∙ tree_tied (tree_at c.build_instance.new.store c.in-Ok.id.0) (tree_at c.build_instance.new.store c.args.subject.0) (sym c.compare.ensures.order ∙ tied) ∙ asked,
      λ e.
          let tied : c.compare.result ≡ Equal = c.compare.ensures.order
          ∙ ap (λ t. tree_cmp t (tree_at c.build_instance.new.store c.args.subject.0)) (whole ∙ e ∙ sym asked)
          ∙ tied_itself tree_total (tree_at c.build_instance.new.store c.args.subject.0) in
          search (rules, tests),
    )
