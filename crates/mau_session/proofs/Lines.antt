-- Lines that are written one after another.
use Rattle.std.proofs.Common.{◌≡◌, ℕ, ◌<◌, ◌+◌, List, [], ◌∷◌, ◌++◌, length, get_or, take, drop, refl, ◌∙◌, ap, ap₂, append_assoc}
use Rattle.mau_terms.specs.declared.ids.TermId.{TermId}
use Rattle.mau_terms.specs.declared.ids.VarId.{VarId}
use Rattle.mau_terms.specs.Vars.{IsGiven}
use Rattle.mau_terms.specs.Subst.{Variable}
use Rattle.mau_module.specs.Modules.{ModuleOf}
use Rattle.mau_session.specs.Terms.{Pairs}
use Rattle.mau_session.specs.KeptQuery.{id_tree, id_trees}
use Rattle.mau_store.specs.Node.{Node}
use Rattle.mau_session.specs.Matching.{numbered_from}
use Rattle.mau_session.specs.Answers.{value_line, value_lines}
use Rattle.mau_session.proofs.Values.{variables_next, values_next, no_values_behind}

pub four_parts : (o a b c d : List ℕ) → (((o ++ a) ++ b) ++ c) ++ d ≡ o ++ (((a ++ b) ++ c) ++ d)
four_parts o a b c d = simp append_assoc

module _ (m : ModuleOf) (ns : Pairs) where
  no_values : (xs : List Variable) → value_lines m ns xs [] ≡ []
  no_values [] = refl
  no_values (x ∷ xs) = refl

module _ (m : ModuleOf) (ns : Pairs) (nodes : List Node) (values : List TermId) where
  -- one line more
  pub lines_next : (i : ℕ) (x : VarId) (d : TermId) → x.index ≡ i → IsGiven ns x → i < length values
      → value_lines m ns (drop i (numbered_from 0 (take (length values) ns))) (drop i (id_trees nodes values))
      ≡ value_line m ns (x.index, x.sort) (id_tree nodes (get_or values i d)) ++ value_lines m ns (drop (i + 1) (numbered_from 0 (take (length values) ns))) (drop (i + 1) (id_trees nodes values))
  lines_next i x d e g h = ap₂ (value_lines m ns) (variables_next ns nodes values i x e g h) (values_next ns nodes values i d h)

  pub no_lines : (i : ℕ) → length values ≡ i → (xs : List Variable) → value_lines m ns xs (drop i (id_trees nodes values)) ≡ []
  no_lines i e xs = ap (value_lines m ns xs) (no_values_behind ns nodes values i e) ∙ no_values m ns xs
