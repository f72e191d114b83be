-- The values that variables have before a strategy is run, in pairs.
use Rattle.std.proofs.Common.{◌≡◌, List, [], ◌∷◌, map, All, refl, ap}
use Rattle.std.proofs.lemmas.List.Elements.{All-map}
use Rattle.mau_signature.specs.Signature.{SignatureOf}
use Rattle.mau_store.specs.Node.{Node}
use Rattle.mau_store.specs.Trees.{tree_at}
use Rattle.mau_sorts.specs.Table.{Table}
use Rattle.mau_api.specs.Answers.{binding_in, IsValueOf}
use Rattle.mau_strat.specs.declared.configs.Bound.{Bound}
use Rattle.mau_stratrun.specs.Worlds.{values_of}
use Rattle.mau_leaves.specs.Given.{pair_by}

pub pairs_are : (nodes : List Node) (bs : List Bound) → binding_in nodes (map pair_by bs) ≡ values_of (tree_at nodes) bs
pairs_are nodes [] = refl
pairs_are nodes (b ∷ bs) = ap (λ vs. ((b.variable.index, b.variable.sort), tree_at nodes b.value.0) ∷ vs) (pairs_are nodes bs)

pub pairs_have : (s : SignatureOf) (nodes : List Node) (table : Table) (bs : List Bound) → All (λ (b : Bound). IsValueOf s nodes table (b.variable, b.value)) bs → All (IsValueOf s nodes table) (map pair_by bs)
pairs_have s nodes table bs h = All-map (IsValueOf s nodes table) pair_by bs h
