use Rattle.std.proofs.Common.{◌+◌, ◌∙◌, sym, ap, drop, arith}
use Rattle.std.proofs.lemmas.List.{drop_more, drop_all}
use Rattle.mau_signature.specs.Signature.{theory_at}
use Rattle.mau_store.specs.Trees.{trees_at}
use Rattle.mau_store.specs.View.{numbers}
use Rattle.mau_canon.proofs.Standing.{stand_at}
use Rattle.mau_lists.specs.Terms.{no_term}
use Rattle.mau_listing.specs.Places.{operator_number}
use Rattle.mau_domains.specs.Values.{by_key}
use Rattle.mau_domains.specs.Stored.{tree_in}
use Rattle.mau_domains.specs.Nearest.{nearest_of}
use Rattle.mau_domains.proofs.nearest.nearest_behind.Goals as goal

pub nearer-best-requires-clause-value : goal.nearer-best-requires-clause-value
nearer-best-requires-clause-value c = stand_at (theory_at c.args.sig.now) c.args.store.now c.args.values.now c.loop-value.value-index no_term c.loop-value-test.true c.requires.values

pub loop-value-preserved : goal.loop-value-preserved
loop-value-preserved c =
    let nodes = c.args.store.now in
    let th = theory_at c.args.sig.now in
    let o = operator_number c.args.under in
    let i = c.loop-value.value-index in
    record {
      same =
          c.loop-value.invariant.same
          ∙ ap (λ w. nearest_of (by_key th o) 0 (tree_in nodes c.args.after) (tree_in nodes c.loop-value.best) (trees_at nodes (numbers w))) (drop_more c.args.values.now i no_term c.loop-value-test.true)
          ∙ ap (λ w. nearest_of (by_key th o) 0 (tree_in nodes c.args.after) w (trees_at nodes (numbers (drop (i + 1) c.args.values.now)))) (sym c.nearer-best.ensures.value);
      within = c.nearer-best.ensures.within;
    }

pub returns-clause-value : goal.returns-clause-value
returns-clause-value c =
    let nodes = c.args.store.now in
    let th = theory_at c.args.sig.now in
    let o = operator_number c.args.under in
    let i = c.loop-value.value-index in
    sym (c.loop-value.invariant.same
    ∙ ap (λ w. nearest_of (by_key th o) 0 (tree_in nodes c.args.after) (tree_in nodes c.loop-value.best) (trees_at nodes (numbers w))) (drop_all i c.args.values.now (omega arith)))
