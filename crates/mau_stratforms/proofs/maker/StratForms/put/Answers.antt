use Rattle.mau_stratforms.specs.Meanings.{meant}
use Rattle.mau_stratforms.proofs.Making.{if_ok, put_strategy, put_goes}
use Rattle.mau_stratforms.proofs.maker.StratForms.put.Goals as goal

pub returns-clause-strategy : goal.returns-clause-strategy
returns-clause-strategy c leaf =
    if_ok c.add.result c.add.ensures.ok (λ id h. put_strategy c.args.self.now.forms c.add.new.self c.args.form c.add.ensures.added c.add.ensures.forms c.requires.parts leaf id.0 h)

pub returns-clause-goes : goal.returns-clause-goes
returns-clause-goes c = put_goes c.args.self.now.forms c.add.new.self c.args.form c.add.ensures.added (meant c.args.self.now.leaves) c.add.ensures.forms c.requires.leaf c.requires.leaves
