use Rattle.std.proofs.Common.{◌∙◌, sym, subst}
use Rattle.mau_domains.specs.Stored.{AreItems}
use Rattle.mau_domains.proofs.StoredValues.{own_items}
use Rattle.mau_domains.proofs.taken.inside_of.Goals as goal

pub returns-clause-over : goal.returns-clause-over
returns-clause-over c = (
  c.requires.operator,
  subst (AreItems c.args.sig.now c.args.store.now c.args.op.0) (sym (c.new.ensures ∙ c.in_ok-items.ensures.items))
      (own_items c.args.sig.now c.is_lawful.ensures.lawful.theories c.args.store.now c.args.op.0 c.args.term.0 c.list_of.result.now c.requires.operator.assoc c.requires.term
      (c.list_of.ensures.within c.requires.term) c.list_of.ensures.list),
)
