use Rattle.std.proofs.Common.{sym, arith}
use Rattle.std.proofs.lemmas.List.{length-map}
use Rattle.mau_store.specs.Trees.{tree_at, trees_at}
use Rattle.mau_store.specs.View.{numbers}
use Rattle.mau_canon.proofs.Elements.{no_greatest}
use Rattle.mau_canon.proofs.normal.is_greatest.Goals as goal

pub returns-in_default-2 : goal.returns-in_default-2
returns-in_default-2 c =
    let terms = c.args.terms.now in
    let g = tree_at c.args.store.now in
    sym (no_greatest (trees_at c.args.store.now (numbers terms)) (omega (arith, c.in_default.len_at_least, length-map (numbers terms) g, length-map terms (λ id. id.0))))
