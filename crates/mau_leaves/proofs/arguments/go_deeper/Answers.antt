use Rattle.std.proofs.Common.{◌≡◌, List, Some, refl, sym, ap, ◌∙◌, subst}
use Rattle.std.specs.Option.{option_map}
use Rattle.mau_terms.specs.View.{tree_of}
use Rattle.mau_terms.specs.declared.ids.TermId.{TermId}
use Rattle.mau_terms.specs.declared.ids.VarId.{VarId}
use Rattle.mau_leaves.specs.Searches.{variables_in}
use Rattle.mau_leaves.specs.Arguments.{last_found, IsPatternSearch}
use Rattle.mau_leaves.proofs.arguments.go_deeper.Goals as goal

pub returns-clause-deeper : goal.returns-clause-deeper
returns-clause-deeper g c =
    let f = c.in-Some.found.now in
    let at : last_found c.args.search.now.searches.items ≡ Some f = ap last_found (sym c.deref.ensures.value) ∙ (sym c.values_found.ensures ∙ ap (option_map (λ x. x.now)) c.in-Some.is) in
    let copy = c.in_ok-bound.ensures in
    record {
      next = c.in_ok-next.next;
      found = f;
      at = at;
      bound = c.in_ok-next.ensures.under ∙ copy;
      begun = c.in_ok-next.ensures.begun;
      search = subst (λ (bs : List (VarId × TermId)). IsPatternSearch g.L.Lister.asked g.L.Lister.given g.L.Lister.is_for g.L.Lister.with_context c.args.program.now (g.E.Evaluator.meanings c.args.evaluator.now) c.args.store.now (g.E.Evaluator.table c.args.evaluator.now) (variables_in bs)
          (tree_of c.args.pattern.now) c.args.value c.in_ok-next.next) copy c.in_ok-next.ensures.search;
      searches = c.in_ok-push.ensures.items;
      due = refl;
    }
