use Rattle.std.proofs.Common.{sym, ◌∙◌, subst}
use Rattle.mau_terms.specs.View.{tree_of}
use Rattle.mau_signature.specs.Signature.{theory_at}
use Rattle.mau_store.specs.View.{numbers}
use Rattle.mau_canon.specs.Standing.{StandWithin}
use Rattle.mau_canon.specs.Within.{IsWithin}
use Rattle.mau_check.proofs.Filled.{instance_by_norms}
use Rattle.mau_check.proofs.Results.{some_then, none_then}
use Rattle.mau_check.proofs.instances.instance_of.Goals as goal

pub instance_within-requires-clause-values : goal.instance_within-requires-clause-values
instance_within-requires-clause-values c = subst (λ is. StandWithin (theory_at c.args.sig.now) c.args.store.now (numbers is)) (sym c.deref-2.ensures.value) c.requires.values

pub returns-clause-some : goal.returns-clause-some
returns-clause-some c vs h =
    some_then _ _
    (λ id e. e ∙ instance_by_norms c.args.sig.now c.operators.ensures.lawful c.args.store.now c.deref.result.now c.args.values.now.variables.items c.deref-2.result.now c.args.values.now.ids.items vs (tree_of c.args.term.now) c.deref.ensures.value c.deref-2.ensures.value h)
    c.instance_within.result c.instance_within.ensures.some

pub returns-clause-none : goal.returns-clause-none
returns-clause-none c vs h =
    none_then _ _
    (λ f w. f (subst (IsWithin (theory_at c.args.sig.now))
    (sym (instance_by_norms c.args.sig.now c.operators.ensures.lawful c.args.store.now c.deref.result.now c.args.values.now.variables.items c.deref-2.result.now c.args.values.now.ids.items vs (tree_of c.args.term.now) c.deref.ensures.value c.deref-2.ensures.value h)) w))
    c.instance_within.result c.instance_within.ensures.none
