use Rattle.std.proofs.Common.{sym, ◌∙◌, refl}
use Rattle.mau_store.proofs.Standing.{tree_at-extends}
use Rattle.mau_prove.proofs.certified.leads.Goals as goal

pub returns-clause-from : goal.returns-clause-from
returns-clause-from c = λ e.
    sym (tree_at-extends c.args.conclusion.store c.copy_terms.new.store c.args.conclusion.from.0 c.in-Ok.ensures.extends c.requires.from) ∙ c.if-not-is_copy.ensures refl

pub returns-clause-to : goal.returns-clause-to
returns-clause-to c = λ e.
    sym (tree_at-extends c.args.conclusion.store c.copy_terms.new.store c.args.conclusion.to.0 c.in-Ok.ensures.extends c.requires.to) ∙ c.is_copy-2.ensures e
