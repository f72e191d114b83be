use Rattle.std.proofs.Common.{length, List, sym, ◌∙◌, ap}
use Rattle.mau_signature.specs.Signature.{theory_at}
use Rattle.mau_store.specs.Trees.{trees_at}
use Rattle.mau_store.specs.View.{numbers}
use Rattle.mau_terms.specs.declared.ids.TermId.{TermId}
use Rattle.mau_canon.proofs.Standing.{stand_among}
use Rattle.mau_listing.proofs.Growth.{trees_long}
use Rattle.mau_extend.proofs.OneNarrowed.{around_long_back}
use Rattle.mau_extend.proofs.search.accepted.Goals as goal

pub is_behind-requires-clause-solution : goal.is_behind-requires-clause-solution
is_behind-requires-clause-solution c =
    stand_among (theory_at c.args.sig.now) c.args.store.now c.in_ok-solution.solution.values c.args.found.now.values c.in_ok-solution.ensures.among c.requires.within

pub is_behind-requires-clause-each : goal.is_behind-requires-clause-each
is_behind-requires-clause-each c =
    let nodes = c.args.store.now in
    let h = c.args.shape.left in
    let k = c.args.shape.right in
    let x = c.in_ok-solution.solution in
    let is = c.in_ok-solution.ensures.narrowed in
    let l = c.requires.around.0 in
    let r = c.requires.around.1 in
    let vs = c.requires.around.2 in
    sym (trees_long nodes x.values)
    ∙ around_long_back h k is.left (trees_at nodes (numbers x.values)) is.right l vs r
    (sym (ap (λ ts. length ts) is.values) ∙ trees_long nodes c.args.found.now.values ∙ ap (λ (us : List TermId). length us) c.requires.around.3)
    ∙ c.requires.around.4
