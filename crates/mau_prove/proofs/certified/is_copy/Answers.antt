use Rattle.std.proofs.Common.{◌≡◌, sym, ◌∙◌, ap, arith, eqb-true, get_or}
use Rattle.mau_terms.specs.declared.ids.TermId.{TermId}
use Rattle.mau_store.specs.Trees.{tree_at}
use Rattle.mau_prove.proofs.certified.is_copy.Goals as goal

pub returns : goal.returns
returns c = λ e.
    let zero : TermId = record { 0 = 0 } in
    let same : (get_or c.args.ids.now c.args.of.0 zero).0 ≡ c.args.id.0 = eqb-true (get_or c.args.ids.now c.args.of.0 zero).0 c.args.id.0 e in
    sym (ap (tree_at c.args.copies.now) same) ∙ c.requires.copies.trees c.args.of.0 zero (omega (arith, c.requires.there, c.requires.all))
