use Rattle.std.proofs.Common.{◌≡◌, length, ◌∙◌, ap, subst}
use Rattle.mau_stratforms.specs.Meanings.{meaning_of, meant}
use Rattle.mau_stratforms.specs.Parts.{AreMade}
use Rattle.mau_stratforms.proofs.Bodies.{number_is, bodies_are, made_stay}
use Rattle.mau_stratforms.proofs.maker.forms_of.Goals as goal

pub returns : goal.returns
returns c =
    let f = c.add_bodies.new.self.forms in
    let t = meant c.add_bodies.new.self.leaves in
    let g = c.add.new.self.forms in
    let u = meant c.add.new.self.leaves in
    let ds = c.args.program.now.strategies in
    let ids = c.in_ok-bodies.bodies.items in
    let count : length ids ≡ length ds = c.in_ok-bodies.ensures.count ∙ ap length c.items.ensures in
    record {
      are_forms = c.add.ensures.goes.are_forms;
      leaves = c.add.ensures.goes.leaves;
      is_table = c.len.ensures.table;
      strategy = number_is g u (meaning_of c.args.strategy.now) c.in_ok-strategy.strategy.0 c.in_ok-strategy.ensures.made;
      count = count;
      numbers = bodies_are g u ds ids count (made_stay f t g u c.add.ensures.goes ds ids (subst (λ xs. AreMade f t xs ids) c.items.ensures c.in_ok-bodies.ensures.made));
    }
