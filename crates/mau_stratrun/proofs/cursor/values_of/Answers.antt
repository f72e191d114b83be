use Rattle.std.proofs.Common.{◌≡◌, ◌<◌, [], ◌∷◌, ◌++◌, ap, sym, ◌∙◌, append_assoc, rules, arith}
use Rattle.mau_strat.specs.Sharing.{list_at}
use Rattle.mau_stratrun.proofs.cursor.values_of.Goals as goal

pub loop-first-preserved : goal.loop-first-preserved
loop-first-preserved c =
    let parts : list_at c.args.interner.now.bindings c.loop-first.rest.0 ≡ c.in-Some.first ∷ list_at c.args.interner.now.bindings c.in-Some.behind.0 = search rules in
    let older : c.in-Some.behind.0 < c.loop-first.rest.0 = search rules in
    let items : c.push.new.self.items ≡ c.loop-first.values.items ++ c.in-Some.first ∷ [] = search rules in
    let within = c.loop-first.invariant.within in
    record {
      within = omega arith;
      items = ap (λ xs. xs ++ list_at c.args.interner.now.bindings c.in-Some.behind.0) items
          ∙ (append_assoc c.loop-first.values.items (c.in-Some.first ∷ []) (list_at c.args.interner.now.bindings c.in-Some.behind.0) ∙ (ap (λ xs. c.loop-first.values.items ++ xs) (sym parts) ∙ c.loop-first.invariant.items));
    }
