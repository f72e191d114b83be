-- A code for strategies, which a contract that sees a value as a strategy needs: no definition speaks of it. A strategy is written as a
-- tree whose nodes have what a form holds beside its parts.
use Rattle.std.specs.Prelude.{◌≡◌, ℕ, List, [], ◌∷◌, refl}
use Rattle.std.specs.Coded.{Coded, code_by}
use Rattle.std.proofs.Common.{ap, ap₂, subst, sym}
use base.Stored.{Gv, gnil, gnum, gcons}
use Rattle.mau_terms.specs.Tree.{Tree}
use Rattle.mau_terms.specs.declared.ids.VarId.{VarId}
use Rattle.mau_terms.specs.declared.bare.Bare.{Bare}
use Rattle.mau_program.specs.declared.statements.Fragment.{Fragment}
use Rattle.mau_program.specs.declared.strategies.TestKind.{TestKind}
use Rattle.mau_program.specs.declared.strategies.Assign.{Assign}
use Rattle.mau_program.specs.Trees.{StrategyOf, idle, fail, every_rule, label, top_only, call, test, star, plus, to_normal, in_turn, either, or_else, branch, negation, attempt, test_of, part_rewrite, label_by, Strategies, no_strategies, strategy, Uses, no_uses, use_of}

-- what a strategy holds beside its parts
pub data Head : Type 0 where
  is_idle : Head
  is_fail : Head
  is_every_rule : Head
  is_label : List ℕ → List Assign → Head
  is_top_only : Head
  is_call : List ℕ → List Tree → Head
  is_test : TestKind → Bare → List Fragment → Head
  is_star : Head
  is_plus : Head
  is_to_normal : Head
  is_in_turn : Head
  is_either : Head
  is_or_else : Head
  is_branch : Head
  is_negation : Head
  is_attempt : Head
  is_test_of : Head
  is_part_rewrite : TestKind → Bare → List Fragment → List VarId → Head
  is_label_by : List ℕ → List Assign → Head

mutual
  pub data Node : Type 0 where
    node : Head → Nodes → Node

  pub data Nodes : Type 0 where
    no_nodes : Nodes
    one_node : Node → Nodes → Nodes

-- ---- from strategies to nodes and back

abbrev mutual
  pub node_of : StrategyOf → Node
  node_of idle = node is_idle no_nodes
  node_of fail = node is_fail no_nodes
  node_of every_rule = node is_every_rule no_nodes
  node_of (label l xs) = node (is_label l xs) no_nodes
  node_of (top_only s) = node is_top_only (one_node (node_of s) no_nodes)
  node_of (call f ts) = node (is_call f ts) no_nodes
  node_of (test k p c) = node (is_test k p c) no_nodes
  node_of (star s) = node is_star (one_node (node_of s) no_nodes)
  node_of (plus s) = node is_plus (one_node (node_of s) no_nodes)
  node_of (to_normal s) = node is_to_normal (one_node (node_of s) no_nodes)
  node_of (in_turn s t) = node is_in_turn (one_node (node_of s) (one_node (node_of t) no_nodes))
  node_of (either s t) = node is_either (one_node (node_of s) (one_node (node_of t) no_nodes))
  node_of (or_else s t) = node is_or_else (one_node (node_of s) (one_node (node_of t) no_nodes))
  node_of (branch s t u) = node is_branch (one_node (node_of s) (one_node (node_of t) (one_node (node_of u) no_nodes)))
  node_of (negation s) = node is_negation (one_node (node_of s) no_nodes)
  node_of (attempt s) = node is_attempt (one_node (node_of s) no_nodes)
  node_of (test_of s) = node is_test_of (one_node (node_of s) no_nodes)
  node_of (part_rewrite k p c us) = node (is_part_rewrite k p c (variables us)) (nodes_of_uses us)
  node_of (label_by l xs ss) = node (is_label_by l xs) (nodes_of ss)

  pub nodes_of : Strategies → Nodes
  nodes_of no_strategies = no_nodes
  nodes_of (strategy s ss) = one_node (node_of s) (nodes_of ss)

  pub nodes_of_uses : Uses → Nodes
  nodes_of_uses no_uses = no_nodes
  nodes_of_uses (use_of v s us) = one_node (node_of s) (nodes_of_uses us)

  pub variables : Uses → List VarId
  variables no_uses = []
  variables (use_of v s us) = v ∷ variables us

abbrev pub all_of : List StrategyOf → Strategies
all_of [] = no_strategies
all_of (s ∷ ss) = strategy s (all_of ss)

abbrev pub with_variables : List VarId → List StrategyOf → Uses
with_variables (v ∷ vs) (s ∷ ss) = use_of v s (with_variables vs ss)
with_variables _ _ = no_uses

abbrev pub by_head : Head → List StrategyOf → StrategyOf
by_head is_idle _ = idle
by_head is_fail _ = fail
by_head is_every_rule _ = every_rule
by_head (is_label l xs) _ = label l xs
by_head is_top_only (s ∷ _) = top_only s
by_head (is_call f ts) _ = call f ts
by_head (is_test k p c) _ = test k p c
by_head is_star (s ∷ _) = star s
by_head is_plus (s ∷ _) = plus s
by_head is_to_normal (s ∷ _) = to_normal s
by_head is_in_turn (s ∷ t ∷ _) = in_turn s t
by_head is_either (s ∷ t ∷ _) = either s t
by_head is_or_else (s ∷ t ∷ _) = or_else s t
by_head is_branch (s ∷ t ∷ u ∷ _) = branch s t u
by_head is_negation (s ∷ _) = negation s
by_head is_attempt (s ∷ _) = attempt s
by_head is_test_of (s ∷ _) = test_of s
by_head (is_part_rewrite k p c vs) ss = part_rewrite k p c (with_variables vs ss)
by_head (is_label_by l xs) ss = label_by l xs (all_of ss)
by_head _ _ = idle

abbrev mutual
  pub at_node : Node → StrategyOf
  at_node (node h ns) = by_head h (at_nodes ns)

  pub at_nodes : Nodes → List StrategyOf
  at_nodes no_nodes = []
  at_nodes (one_node n ns) = at_node n ∷ at_nodes ns

mutual
  pub at_node-node_of : (s : StrategyOf) → at_node (node_of s) ≡ s
  at_node-node_of idle = refl
  at_node-node_of fail = refl
  at_node-node_of every_rule = refl
  at_node-node_of (label l xs) = refl
  at_node-node_of (top_only s) = ap top_only (at_node-node_of s)
  at_node-node_of (call f ts) = refl
  at_node-node_of (test k p c) = refl
  at_node-node_of (star s) = ap star (at_node-node_of s)
  at_node-node_of (plus s) = ap plus (at_node-node_of s)
  at_node-node_of (to_normal s) = ap to_normal (at_node-node_of s)
  at_node-node_of (in_turn s t) = ap₂ in_turn (at_node-node_of s) (at_node-node_of t)
  at_node-node_of (either s t) = ap₂ either (at_node-node_of s) (at_node-node_of t)
  at_node-node_of (or_else s t) = ap₂ or_else (at_node-node_of s) (at_node-node_of t)
  at_node-node_of (branch s t u) = λ i. branch (at_node-node_of s i) (at_node-node_of t i) (at_node-node_of u i)
  at_node-node_of (negation s) = ap negation (at_node-node_of s)
  at_node-node_of (attempt s) = ap attempt (at_node-node_of s)
  at_node-node_of (test_of s) = ap test_of (at_node-node_of s)
  at_node-node_of (part_rewrite k p c us) = ap (part_rewrite k p c) (at_nodes-nodes_of_uses us)
  at_node-node_of (label_by l xs ss) = ap (label_by l xs) (at_nodes-nodes_of ss)

  at_nodes-nodes_of : (ss : Strategies) → all_of (at_nodes (nodes_of ss)) ≡ ss
  at_nodes-nodes_of no_strategies = refl
  at_nodes-nodes_of (strategy s ss) = ap₂ strategy (at_node-node_of s) (at_nodes-nodes_of ss)

  at_nodes-nodes_of_uses : (us : Uses) → with_variables (variables us) (at_nodes (nodes_of_uses us)) ≡ us
  at_nodes-nodes_of_uses no_uses = refl
  at_nodes-nodes_of_uses (use_of v s us) = ap₂ (use_of v) (at_node-node_of s) (at_nodes-nodes_of_uses us)

-- ---- the code of a node, from one of what it holds

abbrev first : Gv → Gv
first gnil = gnil
first (gnum n) = gnil
first (gcons a b) = a

abbrev second : Gv → Gv
second gnil = gnil
second (gnum n) = gnil
second (gcons a b) = b

abbrev IsPair : Gv → Type 0
IsPair gnil = ⊥
IsPair (gnum n) = ⊥
IsPair (gcons a b) = Unit {0}

module _ (c : Coded Head) where
  abbrev mutual
    pub code_of : Node → Gv
    code_of (node h ns) = gcons (c.code h) (codes_of ns)

    pub codes_of : Nodes → Gv
    codes_of no_nodes = gnil
    codes_of (one_node n ns) = gcons (code_of n) (codes_of ns)

  mutual
    pub one_to_one : (m n : Node) → code_of m ≡ code_of n → m ≡ n
    one_to_one (node h ns) (node k ms) e = ap₂ node (c.inj h k (ap first e)) (all_one_to_one ns ms (ap second e))

    all_one_to_one : (ms ns : Nodes) → codes_of ms ≡ codes_of ns → ms ≡ ns
    all_one_to_one no_nodes no_nodes e = refl
    all_one_to_one (one_node m ms) (one_node n ns) e = ap₂ one_node (one_to_one m n (ap first e)) (all_one_to_one ms ns (ap second e))
    all_one_to_one no_nodes (one_node n ns) e = absurd (subst IsPair (sym e) tt)
    all_one_to_one (one_node m ms) no_nodes e = absurd (subst IsPair e tt)

  abbrev pub node_code : Coded Node
  node_code = record { code = code_of; inj = one_to_one }

  abbrev pub strategy_code : Coded StrategyOf
  strategy_code = code_by Node node_code node_of at_node at_node-node_of
