use Rattle.std.proofs.Common.{◌≡◌, ◌+◌, [], ◌∷◌, ◌++◌, length, slice_get, Some, refl, sym, ◌∙◌, ap, subst, rules, length-append}
use Rattle.std.proofs.lemmas.Option.{slice_get_read}
use Rattle.mau_stratforms.specs.Meanings.{meant}
use Rattle.mau_stratforms.specs.Parts.{AreMade}
use Rattle.mau_stratforms.proofs.Making.{goes_through}
use Rattle.mau_stratforms.proofs.Bodies.{next_made}
use Rattle.mau_stratforms.proofs.maker.StratForms.add_bodies.Goals as goal

pub loop-definition-preserved : goal.loop-definition-preserved
loop-definition-preserved c =
    let f = c.loop-definition.self.forms in
    let t = meant c.loop-definition.self.leaves in
    let g = c.add.new.self.forms in
    let u = meant c.add.new.self.leaves in
    let ids = c.loop-definition.bodies.items in
    let items : c.push.new.self.items ≡ ids ++ c.in-Ok.body ∷ [] = search rules in
    let count : length ids ≡ c.loop-definition.definition-index = c.loop-definition.invariant.count in
    let at = slice_get_read c.args.definitions.now (length c.args.definitions.now) c.loop-definition.definition-index c.definition-item.result refl c.loop-definition-test.true c.definition-item.is in
    record {
      count = ap length items ∙ (length-append ids (c.in-Ok.body ∷ []) ∙ ap (λ n. n + 1) count);
      made = subst (AreMade g u c.args.definitions.now) (sym items)
          (next_made f t g u c.add.ensures.goes c.args.definitions.now ids c.definition-item.result c.in-Ok.body c.loop-definition.invariant.made (subst (λ k. slice_get c.args.definitions.now k ≡ Some c.definition-item.result) (sym count) at) c.in-Ok.ensures.made);
      goes = goes_through c.args.self.now.forms (meant c.args.self.now.leaves) f t g u c.loop-definition.invariant.goes c.add.ensures.goes;
    }
