use Rattle.std.proofs.Common.{◌≡◌, ◌++◌, length, get_or, slice_get, sym, ap, ◌∙◌, add-one, arith}
use Rattle.std.proofs.lemmas.List.{length-map}
use Rattle.std.proofs.lemmas.Option.{slice_get-get_or}
use Rattle.mau_terms.specs.Finite.{arguments_of}
use Rattle.mau_terms.specs.declared.ids.TermId.{TermId}
use Rattle.mau_terms.proofs.Pieces.{list_of-trees_of}
use Rattle.mau_store.specs.Trees.{tree_at, trees_at}
use Rattle.mau_store.specs.View.{numbers}
use Rattle.mau_rules.proofs.Walking.{number_there}
use Rattle.mau_leaves.specs.Subterms.{subterms, subterms_from}
use Rattle.mau_leaves.proofs.Subtrees.{from_next, from_none, tree_there}
use Rattle.mau_leaves.proofs.subterms.next_argument.Goals as goal

pub returns-then-at-args-clause-some : goal.returns-then-at-args-clause-some
returns-then-at-args-clause-some c =
    let nodes = c.args.store.now in
    let t = tree_at nodes c.args.at.term.0 in
    let n = c.args.at.next in
    let d : TermId = record { 0 = 0 } in
    let ids = c.in-App.args.now in
    let child = get_or ids n d in
    let arguments : arguments_of t ≡ trees_at nodes (numbers ids) = ap arguments_of c.in-App.ensures.tree ∙ list_of-trees_of (trees_at nodes (numbers ids)) in
    let at = ap (λ us. slice_get us n) arguments ∙ tree_there nodes (numbers ids) n child.0 (number_there ids n child (slice_get-get_or ids n d c.if-at-args.true)) in
    from_next t n (tree_at nodes child.0) at ∙ ap (λ k. subterms (tree_at nodes child.0) ++ subterms_from t k) (sym (add-one n))

pub returns-then-at-args-clause-step : goal.returns-then-at-args-clause-step
returns-then-at-args-clause-step c =
    let n = c.args.at.next in
    let d : TermId = record { 0 = 0 } in
    record {
      operator = c.in-App.field-0.0;
      ids = numbers c.in-App.args.now;
      at = c.in-App.ensures.node;
      place = n;
      next = add-one n;
      argument = number_there c.in-App.args.now n (get_or c.in-App.args.now n d) (slice_get-get_or c.in-App.args.now n d c.if-at-args.true);
    }

pub returns-else-at-args-clause-none : goal.returns-else-at-args-clause-none
returns-else-at-args-clause-none c =
    let nodes = c.args.store.now in
    let t = tree_at nodes c.args.at.term.0 in
    let ids = c.in-App.args.now in
    let arguments : arguments_of t ≡ trees_at nodes (numbers ids) = ap arguments_of c.in-App.ensures.tree ∙ list_of-trees_of (trees_at nodes (numbers ids)) in
    from_none t c.args.at.next (omega (arith, ap length arguments, length-map (numbers ids) (tree_at nodes), length-map ids (λ (x : TermId). x.0), c.if-at-args.false))
