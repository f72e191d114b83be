-- The order of values by their keys is total, and only one normal form has a key.
use Rattle.std.proofs.Common.{◌≡◌, ℕ, Option, sym, ◌∙◌}
use Rattle.std.specs.declared.cmp.Ordering.TheVariants.{Equal}
use Rattle.std.specs.Cmp.{IsTotalOrder, on_total}
use Rattle.std.specs.Cmp.Lexicographic.{lists_total}
use Rattle.mau_terms.specs.Tree.{Tree}
use Rattle.mau_terms.specs.Order.{tree_cmp}
use Rattle.mau_terms.specs.Norm.{norm}
use Rattle.mau_terms.specs.Lawful.{AreLawful}
use Rattle.mau_terms.specs.Solution.{value_key}
use Rattle.mau_terms.specs.declared.theory.Theory.{Theory}
use Rattle.mau_terms.proofs.Orders.{tree_total, tree_tied}
use Rattle.mau_terms.proofs.Ties.{lists_tied, IsPlace, key_tied}
use Rattle.mau_domains.specs.Values.{by_key}

pub key_total : (th : ℕ → Theory) (o : Option ℕ) (k : ℕ) → IsTotalOrder (by_key th o k)
key_total th o k = on_total (value_key th o) (lists_total tree_total)

pub key_ties : (th : ℕ → Theory) → AreLawful th → (o : Option ℕ) → IsPlace th o → (k : ℕ) (v w : Tree) → norm th v ≡ v → norm th w ≡ w → by_key th o k v w ≡ Equal → v ≡ w
key_ties th lawful o p k v w nv nw e = sym nv ∙ key_tied th lawful o v w p (lists_tied tree_cmp tree_tied (value_key th o v) (value_key th o w) e) ∙ nw
