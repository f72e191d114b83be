-- What is bound, with the values of a pattern's variables behind it that have none yet: its variables, its values, and the condition that is asked for it.
use Rattle.std.proofs.Common.{◌≡◌, List, [], ◌∷◌, length, map, refl, sym, ap, ap₂, ◌∙◌, subst, arith}
use Rattle.std.proofs.lemmas.List.{length-map}
use Rattle.std.specs.List.{zip}
use Rattle.mau_terms.specs.Tree.{Tree}
use Rattle.mau_terms.specs.Subst.{Variable, add_variables, variables}
use Rattle.mau_terms.specs.View.{tree_of, variable_of}
use Rattle.mau_terms.specs.declared.ids.TermId.{TermId}
use Rattle.mau_terms.specs.declared.ids.VarId.{VarId}
use Rattle.mau_signature.specs.Signature.{SignatureOf}
use Rattle.mau_store.specs.Node.{Node}
use Rattle.mau_store.specs.Trees.{tree_at, trees_at}
use Rattle.mau_store.specs.View.{numbers}
use Rattle.mau_listing.specs.declared.solution.Solution as Listed
use Rattle.mau_listing.proofs.Growth.{trees_long}
use Rattle.mau_cond.specs.Bound.{extended}
use Rattle.mau_cond.proofs.Tellings.{extended_is}
use Rattle.mau_program.specs.declared.statements.Fragment as Written
use Rattle.mau_program.specs.declared.statements.Rule as WrittenRule
use Rattle.mau_evaluation.specs.Evaluation.{extend}
use Rattle.mau_api.specs.Answers.{binding_in, IsAskable}
use Rattle.mau_choices.proofs.Agreeing.{bound_variables}
use Rattle.mau_choices.proofs.Added.{variables_extended}
use Rattle.mau_leaves.specs.Searches.{variables_in, IsUsable, bound_at}
use Rattle.mau_leaves.proofs.Agreeing.{bound_variables_in}

-- ---- by numbers

zip_variables : (xs : List VarId) (ids : List TermId) → length ids ≡ length xs → variables_in (zip xs ids) ≡ map variable_of xs
zip_variables [] ids e = refl
zip_variables (x ∷ xs) [] e = absurd (omega (arith, e))
zip_variables (x ∷ xs) (i ∷ ids) e = ap (λ ys. variable_of x ∷ ys) (zip_variables xs ids (omega (arith, e)))

zip_values : (nodes : List Node) (xs : List VarId) (ids : List TermId) → length ids ≡ length xs → map (λ (b : VarId × TermId). tree_at nodes b.1.0) (zip xs ids) ≡ trees_at nodes (numbers ids)
zip_values nodes [] [] e = refl
zip_values nodes [] (i ∷ ids) e = absurd (omega (arith, e))
zip_values nodes (x ∷ xs) [] e = absurd (omega (arith, e))
zip_values nodes (x ∷ xs) (i ∷ ids) e = ap (λ ts. tree_at nodes i.0 ∷ ts) (zip_values nodes xs ids (omega (arith, e)))

-- the pairs that are bound in the end, where xs are a pattern's variables and ids their values
module _ (rule : WrittenRule.Rule) (bound : List (VarId × TermId)) (x : Listed.Solution) (xs : List VarId) (names : map variable_of xs ≡ variables (tree_of rule.left)) (many : length x.values ≡ length (variables (tree_of rule.left)))
    (all : List (VarId × TermId)) (is : all ≡ extended bound (zip xs x.values)) where
  one_each : length x.values ≡ length xs
  one_each = many ∙ (ap length (sym names) ∙ length-map xs variable_of)

  pub all_bound : (nodes : List Node) → binding_in nodes all ≡ bound_at nodes rule bound x
  all_bound nodes =
      ap (binding_in nodes) is
      ∙ (extended_is nodes (zip xs x.values) bound
      ∙ ap₂ (λ (ys : List Variable) (ts : List Tree). extend (binding_in nodes bound) ys ts) (zip_variables xs x.values one_each ∙ names) (zip_values nodes xs x.values one_each))

  -- its variables are those that were bound, and then those of the pattern
  pub all_variables : variables_in all ≡ add_variables (variables_in bound) (tree_of rule.left)
  all_variables =
      sym (bound_variables_in [] all)
      ∙ (ap bound_variables (all_bound [])
      ∙ (variables_extended (tree_of rule.left) (trees_at [] (numbers x.values)) (binding_in [] bound) (trees_long [] x.values ∙ many)
      ∙ ap (λ xs. add_variables xs (tree_of rule.left)) (bound_variables_in [] bound)))

  pub all_askable : (s : SignatureOf) → IsUsable s (variables_in bound) rule → (cond : List Written.Fragment) → cond ≡ rule.cond → IsAskable s (variables_in all) cond
  all_askable s usable cond same =
      subst (λ (ys : List Variable). IsAskable s ys cond) (sym all_variables)
      (subst (λ (cs : List Written.Fragment). IsAskable s (add_variables (variables_in bound) (tree_of rule.left)) cs) (sym same) usable.condition)
