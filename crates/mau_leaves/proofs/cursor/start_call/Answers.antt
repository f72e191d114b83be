use Rattle.std.proofs.Common.{◌≡◌, List, [], map, All, Vec, Global, Option, Some, None, refl, sym, ap, ◌∙◌, subst}
use Rattle.std.specs.Option.{option_map}
use Rattle.std.proofs.lemmas.List.Elements.{All-map}
use Rattle.mau_terms.specs.Tree.{Tree}
use Rattle.mau_terms.specs.Bare.{IsBare}
use Rattle.mau_terms.specs.View.{tree_of}
use Rattle.mau_terms.specs.declared.bare.Bare.{Bare}
use Rattle.mau_terms.specs.declared.ids.TermId.{TermId}
use Rattle.mau_terms.specs.declared.ids.VarId.{VarId}
use Rattle.mau_signature.specs.Signature.{terms_over}
use Rattle.mau_store.specs.Trees.{tree_at}
use Rattle.mau_api.specs.Answers.{binding_in, IsValueOf}
use Rattle.mau_cond.proofs.Grown.{each}
use Rattle.mau_strat.specs.declared.forms.LeafId.{LeafId}
use Rattle.mau_stratrun.specs.Worlds.{values_of}
use Rattle.mau_leaves.specs.Given.{pair_by}
use Rattle.mau_leaves.specs.Cursors.{leaf_at, call_in, IsOver}
use Rattle.mau_leaves.proofs.Calling.{call_begins, called_there}
use Rattle.mau_leaves.proofs.Givens.{pairs_are, pairs_have}
use Rattle.mau_leaves.proofs.Cursors.{called_leaf}
use Rattle.mau_leaves.proofs.cursor.start_call.Goals as goal

pub returns : goal.returns
returns g c =
    let p = c.args.program.now in
    let m = g.E.Evaluator.meanings c.args.evaluator.now in
    let leaves = c.args.leaves.now in
    let nodes = c.args.store.now in
    let table = g.E.Evaluator.table c.args.evaluator.now in
    let s = c.call_cursor.result in
    let bs = c.args.values.now in
    let call = called_there leaves c.args.leaf.0 c.args.args.now c.requires.called in
    let parts = c.call_cursor.ensures.parts in
    let begun = c.call_cursor.ensures.begun in
    let own = c.in_ok-bound.ensures in
    let bound = ap (λ (v : Vec (VarId × TermId) Global). v.items) parts.2 ∙ own in
    record {
      yields = call_begins g.L.Lister.asked g.L.Lister.given g.L.Lister.is_for g.L.Lister.with_context p m leaves nodes table s begun.2 begun.1 begun.0
          (record { form = leaf_at leaves c.args.leaf.0; calls = c.args.calls; values = values_of (tree_at nodes) bs }) (tree_at nodes c.args.term.0) call.0 c.args.args.now
          (ap (λ (l : LeafId). call_in leaves l.0) parts.0 ∙ call.1) (called_leaf leaves c.args.leaf.0 call.0 c.args.args.now call.1) (sym parts.1)
          (sym (pairs_are nodes bs) ∙ ap (binding_in nodes) (sym bound))
          (subst (All (IsValueOf p.sig nodes table)) (sym bound) (pairs_have p.sig nodes table bs c.requires.values))
          (subst (All (IsBare (terms_over p.sig))) c.items.ensures (All-map (IsBare (terms_over p.sig)) tree_of c.items.result.now
          (each (IsOver p.sig) (λ (t : Bare). IsBare (terms_over p.sig) (tree_of t)) (λ t h. h.bare) c.items.result.now (c.are_bare.ensures c.if-not-are_bare.false))));
    }
