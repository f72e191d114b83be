-- The term that a use of a rule leads to, by the numbers of a store, where the rule is used at the root.
use Rattle.std.specs.Prelude.{ℕ, List}
use Rattle.mau_terms.specs.Tree.{Tree}
use Rattle.mau_terms.specs.Subst.{instance}
use Rattle.mau_terms.specs.View.{tree_of}
use Rattle.mau_terms.specs.declared.ids.TermId.{TermId}
use Rattle.mau_terms.specs.declared.ids.VarId.{VarId}
use Rattle.mau_signature.specs.Signature.{SignatureOf, theory_at}
use Rattle.mau_store.specs.Node.{Node}
use Rattle.mau_store.specs.Trees.{tree_at, trees_at}
use Rattle.mau_store.specs.View.{numbers}
use Rattle.mau_listing.specs.declared.solution.Solution as Listed
use Rattle.mau_program.specs.declared.statements.Rule as Written
use Rattle.mau_evaluation.specs.Evaluation.{look_up, in_context}
use Rattle.mau_api.specs.Answers.{binding_in}

-- between the contexts of a solution, the instance of the rule's right side by the values of its variables
abbrev pub made_by : SignatureOf → List Node → Written.Rule → ℕ → Listed.Solution → List (VarId × TermId) → Tree
made_by s nodes rule term x bound =
    in_context (theory_at s) (tree_at nodes term) (trees_at nodes (numbers x.left)) (trees_at nodes (numbers x.right)) (instance (look_up (binding_in nodes bound)) (tree_of rule.right))
