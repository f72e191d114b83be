-- Whether all variables of a statement are among some, where the first ones are.
use Rattle.std.proofs.Common.{◌≡◌, ℕ, suc, ◌<◌, ◌≤◌, ◌+◌, ◌&&◌, List, [], ◌∷◌, Bool, true, false, Some, slice_get, length, get_or, drop, add-one, sym, ap, ◌∙◌, subst}
use Rattle.std.proofs.lemmas.List.{at_drop_more, at_drop_all}
use Rattle.std.proofs.lemmas.Option.{slice_get_within, get_or_from_slice_get}
use Rattle.std.specs.List.{list_all}
use Rattle.mau_terms.specs.Subst.{Variable, has_variable}
use Rattle.mau_terms.specs.Vars.{IsGiven}
use Rattle.mau_terms.specs.View.{variable_of}
use Rattle.mau_terms.specs.declared.ids.VarId.{VarId}
use Rattle.mau_program.specs.Binding.{listed_from}

-- those behind the first i
abbrev pub has_rest : List Variable → List (List ℕ × ℕ) → ℕ → Bool
has_rest xs ps i = list_all (has_variable xs) (listed_from i (drop i ps))

module _ (xs : List Variable) (ps : List (List ℕ × ℕ)) (i : ℕ) where
  next_at : (name : List ℕ) (s : ℕ) → slice_get ps i ≡ Some (name, s) → has_rest xs ps i ≡ (has_variable xs (i, s) && has_rest xs ps (i + 1))
  next_at name s at =
      at_drop_more (λ rest. list_all (has_variable xs) (listed_from i rest)) ps i (name, s) (slice_get_within ps i (name, s) at)
      ∙ (ap (λ (p : List ℕ × ℕ). has_variable xs (i, p.1) && list_all (has_variable xs) (listed_from (suc i) (drop (i + 1) ps))) (get_or_from_slice_get ps i (name, s) (name, s) at)
      ∙ ap (λ j. has_variable xs (i, s) && list_all (has_variable xs) (listed_from j (drop (i + 1) ps))) (sym (add-one i)))

  next : (v : VarId) → v.index ≡ i → IsGiven ps v → has_rest xs ps i ≡ (has_variable xs (variable_of v) && has_rest xs ps (i + 1))
  next v e given =
      next_at given.0 v.sort (subst (λ j. slice_get ps j ≡ Some (given.0, v.sort)) e given.1)
      ∙ ap (λ j. has_variable xs (j, v.sort) && has_rest xs ps (i + 1)) (sym e)

  -- the next one is among them
  pub one_more : (v : VarId) (whole : Bool) → v.index ≡ i → IsGiven ps v → has_rest xs ps i ≡ whole → has_variable xs (variable_of v) ≡ true → has_rest xs ps (i + 1) ≡ whole
  one_more v whole e given rest found = sym (next v e given ∙ ap (λ b. b && has_rest xs ps (i + 1)) found) ∙ rest

  -- it is not
  pub other : (v : VarId) (whole : Bool) → v.index ≡ i → IsGiven ps v → has_rest xs ps i ≡ whole → has_variable xs (variable_of v) ≡ false → false ≡ whole
  other v whole e given rest missed = sym (next v e given ∙ ap (λ b. b && has_rest xs ps (i + 1)) missed) ∙ rest
