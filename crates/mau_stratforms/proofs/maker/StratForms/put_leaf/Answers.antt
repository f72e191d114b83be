use Rattle.mau_strat.specs.declared.forms.Form.TheVariants.{Leaf}
use Rattle.mau_stratforms.specs.Meanings.{meaning_of, meant}
use Rattle.mau_stratforms.proofs.Leaves.{table_extends}
use Rattle.mau_stratforms.proofs.Making.{if_ok, put_made, made_over, leaf_made, goes_through, goes_to_table}
use Rattle.mau_stratforms.proofs.maker.StratForms.put_leaf.Goals as goal

pub returns-clause-made : goal.returns-clause-made
returns-clause-made c =
    if_ok c.put.result (put_made c.put.result c.args.self.now.forms (Leaf c.in-Ok.id) c.put.new.self.forms c.put.ensures.id c.put.ensures.strategy)
    (λ id p. made_over c.put.new.self.forms c.add.new.self c.put.new.self.leaves (meaning_of c.args.leaf.now) id.0 c.put.ensures.same (leaf_made c.args.self.now.forms (meant c.add.new.self) c.put.new.self.forms id.0 c.in-Ok.id (meaning_of c.args.leaf.now) c.in-Ok.ensures.ok p))

pub returns-clause-goes : goal.returns-clause-goes
returns-clause-goes c =
    goes_through c.args.self.now.forms (meant c.args.self.now.leaves) c.args.self.now.forms (meant c.add.new.self) c.put.new.self.forms (meant c.put.new.self.leaves)
    (goes_to_table c.args.self.now.forms (meant c.args.self.now.leaves) (meant c.add.new.self) c.len.ensures.forms c.requires.leaves (table_extends c.args.self.now.leaves c.add.new.self c.args.leaf.now c.add.ensures.added))
    c.put.ensures.goes
