use Rattle.std.proofs.Common.{◌<◌, length, sym, subst}
use Rattle.std.proofs.lemmas.List.Elements.{All-append, All-map}
use Rattle.mau_declare.specs.Elements.{AreOver, declared}
use Rattle.mau_declare.proofs.elements.add_variables.Goals as goal

pub returns-in_ok-add_declared-in-Ok-clause-over : goal.returns-in_ok-add_declared-in-Ok-clause-over
returns-in_ok-add_declared-in-Ok-clause-over c h =
    let n = length c.args.sorts.now in
    let i = subst (AreOver n) (sym c.elements.view_is) h in
    record {
      pairs = i.pairs;
      operators = i.operators;
      variables = rw (c.in_ok-add_declared-in-Ok.ensures, c.deref.ensures.value, c.in_ok-more-in-Ok.ensures)
          (All-append (λ v. v.sort.sort < n) _ _ i.variables (All-map (λ v. v.sort.sort < n) (declared c.args.words.now c.in-Ok.sort) _ (λ k d b. c.in-Ok.ensures.within)));
    }
