-- The step that is told of a use of a rule.
use Rattle.std.proofs.Common.{◌≡◌, ℕ, suc, List, ◌∷◌, [], All, length, map, slice_get, Some, sym, ap, ap₂, ◌∙◌, subst}
use Rattle.std.proofs.lemmas.List.{length-map}
use Rattle.mau_terms.specs.Tree.{Tree}
use Rattle.mau_terms.specs.Norm.{norm}
use Rattle.mau_terms.specs.Bare.{IsBareIn, IsLawful}
use Rattle.mau_terms.specs.Subst.{Variable, value_at, instance}
use Rattle.mau_terms.specs.Solution.{HaveSorts}
use Rattle.mau_terms.specs.View.{tree_of, variable_of}
use Rattle.mau_terms.specs.declared.ids.TermId.{TermId}
use Rattle.mau_terms.specs.declared.theory.Theory.{Theory}
use Rattle.mau_signature.specs.Signature.{theory_at, terms_over}
use Rattle.mau_store.specs.Node.{Node}
use Rattle.mau_store.specs.Trees.{tree_at, trees_at}
use Rattle.mau_store.specs.View.{numbers}
use Rattle.mau_program.specs.declared.program.Program as Typed
use Rattle.mau_program.specs.declared.statements.Rule as Written
use Rattle.mau_api.specs.Terms.{IsTerm, IsBareWithin, IsNormalTerm, fill, holes}
use Rattle.mau_api.specs.Variables.{statement_variables}
use Rattle.mau_api.specs.Told.{step_in}
use Rattle.mau_api.specs.declared.step.Statement.TheVariants.{Rule as ByRule}
use Rattle.mau_api.specs.declared.step.Step.{Step}
use Rattle.mau_reduce.specs.declared.binding.Binding.{Binding as Kept}
use Rattle.mau_reduce.specs.Bindings.{AreValues}
use Rattle.mau_reduce.proofs.Stepped.{term_told, values_told}
use Rattle.mau_rules.specs.Telling.{IsRuleStep}

module _ (p : Typed.Program) (lawful : IsLawful (terms_over p.sig)) (P : ℕ → Tree → Type 0) (nodes : List Node) (i : ℕ) (e : Written.Rule) (at : slice_get p.rules i ≡ Some e) (b : Kept)
    (named : map variable_of b.variables.items ≡ statement_variables (tree_of e.left) e.cond (tree_of e.right)) (values : AreValues p.sig nodes b) (sorted : HaveSorts P (map variable_of b.variables.items) (trees_at nodes (numbers b.values.items)))
  where
    abbrev th : ℕ → Theory
    th = theory_at p.sig

    abbrev xs : List Variable
    xs = statement_variables (tree_of e.left) e.cond (tree_of e.right)

    abbrev vs : List Tree
    vs = trees_at nodes (numbers b.values.items)

    as_many : length vs ≡ length xs
    as_many =
        length-map (numbers b.values.items) (tree_at nodes) ∙ (length-map b.values.items (λ (v : TermId). v.0) ∙ (values.one_each ∙ (sym (length-map b.variables.items variable_of) ∙ ap length named)))

    pub rule_told : (x : Step) (term after k : ℕ) → x.statement ≡ ByRule (suc i) → x.values ≡ b.values.items →
        norm th (instance (value_at (map variable_of b.variables.items) vs) (tree_of e.left)) ≡ tree_at nodes x.before.0 →
        norm th (instance (value_at (map variable_of b.variables.items) vs) (tree_of e.right)) ≡ tree_at nodes x.after.0 →
        IsBareIn (terms_over p.sig) (tree_of e.left) k → holes (tree_of x.context) ≡ k ∷ [] → IsBareWithin p.sig (tree_of x.context) →
        norm th (fill (tree_of x.context) (tree_at nodes x.before.0)) ≡ tree_at nodes term → norm th (fill (tree_of x.context) (tree_at nodes x.after.0)) ≡ tree_at nodes after →
        IsTerm p.sig nodes after → IsRuleStep p P i vs (tree_at nodes term) (tree_at nodes after) (step_in nodes x)
    rule_told x term after k statement given before reached left one within from to is = record {
      rule = e;
      at = at;
      statement = statement;
      values = same;
      instance = record {
        one_each = ap length same ∙ as_many;
        sorted = subst (λ ys. HaveSorts P ys (trees_at nodes (numbers x.values))) named (subst (HaveSorts P (map variable_of b.variables.items)) (sym same) sorted);
        before = ap₂ (λ ys ws. norm th (instance (value_at ys ws) (tree_of e.left))) (sym named) same ∙ before;
        after = ap₂ (λ ys ws. norm th (instance (value_at ys ws) (tree_of e.right))) (sym named) same ∙ reached;
        context = (k, left, one);
      };
      leads = record {
        from = from;
        to = to;
        normal = term_told p.sig lawful nodes after is;
        context = within;
        values = subst (All (IsNormalTerm p.sig)) (sym same)
            (values_told p.sig lawful nodes (map variable_of b.variables.items) (numbers b.values.items)
            (length-map b.values.items (λ (v : TermId). v.0) ∙ (values.one_each ∙ sym (length-map b.variables.items variable_of))) values.within values.kinds);
      };
    }
      where
        same : trees_at nodes (numbers x.values) ≡ vs
        same = ap (λ (ids : List TermId). trees_at nodes (numbers ids)) given
