use Rattle.std.proofs.Common.{◌≡◌, [], Some, refl, sym, ap, ◌∙◌}
use Rattle.std.specs.Option.{option_map}
use Rattle.mau_store.specs.Trees.{tree_at}
use Rattle.mau_stratrun.specs.Worlds.{values_of}
use Rattle.mau_leaves.specs.Cursors.{leaf_at, label_in}
use Rattle.mau_leaves.proofs.Cursors.{everywhere_of_label}
use Rattle.mau_leaves.proofs.cursor.start_labelled.Goals as goal

pub returns-in-Some : goal.returns-in-Some
returns-in-Some g c =
    let p = c.args.program.now in
    let m = g.E.Evaluator.meanings c.args.evaluator.now in
    let leaves = c.args.leaves.now in
    let nodes = c.args.store.now in
    let l = c.args.leaf in
    let named : label_in leaves l.0 ≡ Some c.in-Some.field-0.now = sym c.label_of.ensures ∙ ap (option_map (λ x. x.now)) c.in-Some.is in
    let form = everywhere_of_label leaves l c.in-Some.field-0.now named in
    record {
      yields = record {
        results = [];
        yielded = refl;
        form = form;
        search = c.start_everywhere.ensures.everywhere g.L.Lister.with_context p m nodes (g.E.Evaluator.table c.args.evaluator.now) c.requires.term c.requires.settled;
        rest = c.start_everywhere.ensures.begins p m.hooks nodes (label_in leaves l.0) (record { form = leaf_at leaves l.0; calls = c.args.calls; values = values_of (tree_at nodes) c.args.values.now }) form;
      };
    }
