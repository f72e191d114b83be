use Rattle.std.proofs.Common.{◌≡◌, true, false, sym, ◌∙◌, ap, subst}
use Rattle.std.specs.Ordering.{is_eq}
use Rattle.mau_store.specs.Trees.{tree_at}
use Rattle.mau_domains.specs.Parts.{IsOf}
use Rattle.mau_domains.specs.Stored.{part_in}
use Rattle.mau_match.specs.Parts.{same_tree}
use Rattle.mau_match.proofs.Removal.{same_itself}
use Rattle.mau_match.proofs.may_match.may_be.Goals as goal

pub returns-in-One : goal.returns-in-One
returns-in-One c = λ r th o.
    let v = tree_at c.args.store.now c.args.value.0 in
    let w = tree_at c.args.store.now c.in-One.id.0 in
    let same : v ≡ w = subst (λ q. IsOf th (part_in c.args.store.now q) v) c.in-One.is o in
    let k : same_tree v w ≡ true = subst (λ u. same_tree v u ≡ true) same (same_itself v) in
    let n : true ≡ false = sym k ∙ ap is_eq (sym c.compare.ensures.order) ∙ sym c.is_eq.ensures ∙ r in
    absurd (cc)
