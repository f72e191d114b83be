-- Which rules may apply at the top of a term, by the operator there; and terms in which no rule may apply anywhere.
use Rattle.std.specs.Prelude.{◌≡◌, ◌<◌, ◌≤◌, ◌&&◌, ℕ, suc, List, [], ◌∷◌, length, map, slice_index_or, Bool, true, false}
use Rattle.mau_terms.specs.Tree.{Tree, variable, numeral, apply, Trees, no_trees, tree}
use Rattle.mau_terms.specs.declared.theory.Theory.{Theory}
use Rattle.mau_signature.specs.Signature.{theory_at}
use Rattle.mau_store.specs.Node.{Node}
use Rattle.mau_store.specs.Trees.{tree_at}
use Rattle.mau_program.specs.declared.program.Program as Typed
use Rattle.mau_evaluation.specs.Listing.{keep}
use Rattle.mau_evaluation.specs.Program.{Rule}
use Rattle.mau_evaluation.specs.RuleRuns.{numbered}
use Rattle.mau_api.specs.Programs.{rule_of}
use Rattle.mau_reduce.specs.ByTop.{firm_top, may_apply}
use Rattle.mau_rules.specs.declared.by_top.RulesByTop.{RulesByTop}

-- ---- rules by tops

-- whether a rule may apply under the top g: it is executable, and its left side may match a term with this top
abbrev pub may_rewrite : (ℕ → Theory) → ℕ → ℕ × Rule → Bool
may_rewrite th g q = q.1.exec && may_apply (firm_top th q.1.left) g

-- the rules that may apply under the top g, with their numbers, in ascending order
abbrev pub rules_under : Typed.Program → ℕ → List (ℕ × Rule)
rules_under p g = keep (may_rewrite (theory_at p.sig) g) (numbered 0 (map rule_of p.rules))

-- their numbers alone
abbrev pub numbers_under : Typed.Program → ℕ → List ℕ
numbers_under p g = map (λ q. q.0) (rules_under p g)

-- there is a list for each top, and it has the numbers of the rules that may apply under it
pub record AreRulesByTop (p : Typed.Program) (lists : List (List ℕ)) : Type 0 where
  pub one_each : length lists ≡ suc (length p.sig.declarations)
  pub under : (g : ℕ) → g < length lists → slice_index_or lists g [] ≡ numbers_under p g

-- ---- terms in which no rule may apply

abbrev pub is_empty : List ℕ → Bool
is_empty [] = true
is_empty (i ∷ is) = false

-- whether the top g has a list, and it is empty
abbrev pub has_none : List (List ℕ) → ℕ → Bool
has_none lists g = is_empty (slice_index_or lists g (0 ∷ []))

-- whether no rule may apply at the top of a term or below it
abbrev mutual
  pub is_idle : List (List ℕ) → Tree → Bool
  is_idle lists (variable i s) = has_none lists 0
  is_idle lists (numeral n) = has_none lists 0
  is_idle lists (apply f ts) = has_none lists f && are_idle lists ts

  pub are_idle : List (List ℕ) → Trees → Bool
  are_idle lists no_trees = true
  are_idle lists (tree t ts) = is_idle lists t && are_idle lists ts

-- of the first nodes of a store it is kept which are idle
pub record IsIdleTable (lists : List (List ℕ)) (nodes : List Node) (idle : List Bool) : Type 0 where
  pub within : length idle ≤ length nodes
  pub each : (i : ℕ) → i < length idle → slice_index_or idle i false ≡ is_idle lists (tree_at nodes i)

-- x has the rules of p by their tops, and keeps of the first nodes which are idle
pub record IsByTop (p : Typed.Program) (nodes : List Node) (x : RulesByTop) : Type 0 where
  pub rules : AreRulesByTop p (map (λ list. list.items) x.orders.items)
  pub idle : IsIdleTable (map (λ list. list.items) x.orders.items) nodes x.idle.items
