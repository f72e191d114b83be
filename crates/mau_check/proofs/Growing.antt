-- What is kept in a store that grows.
use Rattle.std.proofs.Common.{◌≡◌, ℕ, List, [], ◌∷◌, ◌++◌, append_assoc, map, refl, sym, ap, ◌∙◌, subst}
use Rattle.mau_terms.specs.Tree.{Tree}
use Rattle.mau_terms.specs.Norm.{norm}
use Rattle.mau_terms.specs.Bare.{IsBare, IsBareIn, IsLawful}
use Rattle.mau_terms.specs.Subst.{instance, value_at}
use Rattle.mau_signature.specs.Signature.{SignatureOf, theory_at, terms_over}
use Rattle.mau_store.specs.Node.{Node, IsOf, Extends}
use Rattle.mau_store.specs.Trees.{tree_at, trees_at, StandsFor}
use Rattle.mau_store.specs.View.{numbers}
use Rattle.mau_store.proofs.Growth.{IsOf-extends, trees_at-extends, extension_keeps_terms}
use Rattle.mau_store.proofs.Standing.{tree_at-extends}
use Rattle.mau_sorts.specs.SortSets.{IsKeptOf}
use Rattle.mau_sorts.specs.HasSort.{HasSort}
use Rattle.mau_sorts.specs.Table.{Table}
use Rattle.mau_canon.specs.Standing.{StandsWithin, StandWithin}
use Rattle.mau_canon.proofs.Standing.{stand_there}
use Rattle.mau_check.specs.declared.instances.Values.{Values}
use Rattle.mau_check.specs.Told.{IsPlainTable}
use Rattle.mau_check.specs.Variables.{variables_in}
use Rattle.mau_check.specs.Instances.{AreBound}
use Rattle.mau_check.proofs.Filled.{instance_bare}
use Rattle.mau_check.proofs.Shown.{Stands}

module _ (s : SignatureOf) (old new : List Node) (x : Extends old new) where
  pub plain_extended : (table : Table) → IsPlainTable s old table → IsPlainTable s new table
  plain_extended table h = record {
    over = h.over;
    entries = λ i e at.
        let here = h.entries i e at in
        let keeps = extension_keeps_terms old new x i here.0 in
        (keeps.number, subst (λ u. IsKeptOf s.hierarchy (HasSort s [] u) e) (sym keeps.tree) here.1);
  }

  pub stands_extended : (i : ℕ) (t : Tree) → Stands s old i t → Stands s new i t
  stands_extended i t h = record { bare = h.bare; there = IsOf-extends old new i x h.there; stands = tree_at-extends old new i x h.there ∙ h.stands }

  pub bound_extended : (values : Values) (vs : List Tree) → StandWithin (theory_at s) old (numbers values.ids.items) → AreBound s old values vs → AreBound s new values vs
  bound_extended values vs w h = record {
    values = trees_at-extends old new (numbers values.ids.items) x (stand_there (theory_at s) old (numbers values.ids.items) w) ∙ h.values;
    kinds = h.kinds;
  }

-- an instance that was built stands for the instance
pub instance_stands : (s : SignatureOf) (lawful : IsLawful (terms_over s)) (old new : List Node) (values : Values) (vs : List Tree) → AreBound s old values vs → (t : Tree) → IsBare (terms_over s) t → (i : ℕ) →
    StandsWithin (theory_at s) new i → StandsFor (theory_at s) new i (instance (value_at (variables_in values.variables.items) vs) t) → Stands s new i (instance (value_at (variables_in values.variables.items) vs) t)
instance_stands s lawful old new values vs h t b i w e = record {
  bare = (b.0, instance_bare s lawful (variables_in values.variables.items) vs h.kinds t b.0 b.1);
  there = w.there;
  stands = e;
}

pub extends_trans : (old mid new : List Node) → Extends old mid → Extends mid new → Extends old new
extends_trans old mid new (a, e) (b, f) = (a ++ b, f ∙ ap (λ ns. ns ++ b) e ∙ append_assoc old a b)
