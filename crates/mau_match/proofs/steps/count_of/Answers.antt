use Rattle.std.proofs.Common.{◌≡◌, ◌+◌, take, get_or, if◌then◌else◌, sym, ◌∙◌, ap, arith}
use Rattle.std.specs.Ordering.{is_eq}
use Rattle.mau_terms.specs.declared.ids.TermId.{TermId}
use Rattle.mau_store.specs.Trees.{tree_at, trees_at}
use Rattle.mau_store.specs.View.{numbers}
use Rattle.mau_match.specs.Parts.{same_tree, how_many}
use Rattle.mau_match.proofs.Taking.{many_more, terms_more}
use Rattle.mau_match.proofs.steps.count_of.Goals as goal
use Rattle.mau_match.proofs.steps.count_of.Goals.{then-is_eq, else-is_eq}

abbrev no_term : TermId
no_term = record { 0 = 0 }

pub loop-item-preserved : goal.loop-item-preserved
loop-item-preserved c =
    let nodes = c.args.store.now in
    let ids = c.args.items.now in
    let i = c.loop-item.item-index in
    let t = tree_at nodes c.args.term.0 in
    let u = tree_at nodes (get_or ids i no_term).0 in
    let seen = trees_at nodes (numbers (take i ids)) in
    let more : how_many t (trees_at nodes (numbers (take (i + 1) ids))) ≡ how_many t seen + (if same_tree t u then 1 else 0) = ap (how_many t) (terms_more nodes ids i no_term c.loop-item-test.true) ∙ many_more t seen u in
    let same : same_tree t u ≡ c.is_eq.result = ap is_eq (sym c.compare.ensures.order) ∙ sym c.is_eq.ensures in
    elim c.if-is_eq.branch [
      | then-is_eq w ↦
          let one : how_many t (trees_at nodes (numbers (take (i + 1) ids))) ≡ how_many t seen + 1 = more ∙ ap (λ b. how_many t seen + (if b then 1 else 0)) (same ∙ w.if-is_eq.true) in
          record { same = omega (arith, w.count-is, c.loop-item.invariant.same, one); room = omega (arith, w.count-is, c.loop-item.invariant.room) }
      | else-is_eq w ↦
          let none : how_many t (trees_at nodes (numbers (take (i + 1) ids))) ≡ how_many t seen + 0 = more ∙ ap (λ b. how_many t seen + (if b then 1 else 0)) (same ∙ w.if-is_eq.false) in
          record { same = omega (arith, w.count-is, c.loop-item.invariant.same, none); room = omega (arith, w.count-is, c.loop-item.invariant.room) }
    ]
