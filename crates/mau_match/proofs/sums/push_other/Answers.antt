use Rattle.std.proofs.Common.{◌≡◌, [], ◌∷◌, ◌++◌, true, false, append-nil, sym, ◌∙◌, ap}
use Rattle.std.specs.Ordering.{is_eq}
use Rattle.mau_store.specs.Trees.{tree_at, trees_at}
use Rattle.mau_store.specs.View.{numbers}
use Rattle.mau_canon.proofs.Elements.{trees_at-append}
use Rattle.mau_match.specs.Parts.{same_tree}
use Rattle.mau_match.proofs.Uneven.{apart_one}
use Rattle.mau_match.proofs.sums.push_other.Goals as goal

pub returns-then-is_eq : goal.returns-then-is_eq
returns-then-is_eq c =
    let nodes = c.args.store.now in
    let t = tree_at nodes c.args.term.0 in
    let u = tree_at nodes c.args.item.0 in
    let before = trees_at nodes (numbers c.args.out.now.items) in
    let same : same_tree t u ≡ true = ap is_eq (sym c.compare.ensures.order) ∙ sym c.is_eq.ensures ∙ c.if-is_eq.true in
    sym (ap (λ w. before ++ w) (apart_one t u true same) ∙ append-nil before)

pub returns : goal.returns
returns c =
    let nodes = c.args.store.now in
    let t = tree_at nodes c.args.term.0 in
    let u = tree_at nodes c.args.item.0 in
    let before = trees_at nodes (numbers c.args.out.now.items) in
    let other : same_tree t u ≡ false = ap is_eq (sym c.compare.ensures.order) ∙ sym c.is_eq.ensures ∙ c.if-is_eq.false in
    ap (λ l. trees_at nodes (numbers l)) c.in_ok-push.ensures.items ∙ trees_at-append nodes c.args.out.now.items (c.args.item ∷ []) ∙ ap (λ w. before ++ w) (sym (apart_one t u false other))
