use Rattle.std.proofs.Common.{◌++◌, codes, ◌∙◌, ap, ap₂}
use Rattle.std.proofs.lemmas.Result.{on_ok_weaker}
use Rattle.mau_terms.specs.Norm.{norm}
use Rattle.mau_terms.specs.Subst.{with_values}
use Rattle.mau_terms.specs.View.{tree_of}
use Rattle.mau_signature.specs.Signature.{theory_at}
use Rattle.mau_store.specs.Trees.{trees_at}
use Rattle.mau_store.specs.View.{numbers}
use Rattle.mau_session.specs.Answers.{term_line}
use Rattle.mau_session.proofs.part.write_portion.Goals as goal

pub returns-clause-gained : goal.returns-clause-gained
returns-clause-gained c =
    on_ok_weaker c.write_labelled.result
    (λ e. e ∙ ap₂ (λ printer t. c.args.out.now.items ++ term_line printer c.args.vars.now (codes "Matched portion") t) c.requires.printer
    (c.in_ok-id.ensures.instance.tree ∙ ap (λ s. norm (theory_at s) (with_values (tree_of c.args.pattern.now) (trees_at c.args.store.now (numbers c.args.values.now)))) c.signature.ensures.value)) c.write_labelled.ensures
