-- Variables with their values, written one after another.
use Rattle.std.proofs.Common.{◌≡◌, ◌≤◌, ◌<◌, ◌+◌, ◌++◌, ◌∷◌, [], List, ℕ, zero, suc, length, drop, take, get_or, min, map, refl, sym, ap, ap₂, ◌∙◌, arith, append_assoc, append-nil}
use Rattle.std.proofs.lemmas.List.{drop_more, take_more, map_more}
use Rattle.mau_terms.specs.View.{variable_of}
use Rattle.mau_terms.specs.declared.ids.VarId.{VarId}
use Rattle.mau_terms.specs.declared.ids.TermId.{TermId}
use Rattle.mau_store.specs.Node.{Node}
use Rattle.mau_store.specs.Trees.{tree_at, trees_at}
use Rattle.mau_store.specs.View.{numbers}
use Rattle.mau_print.specs.Printed.{Pairs}
use Rattle.mau_module.specs.Modules.{ModuleOf}
use Rattle.mau_making.specs.Variables.{variables_in}
use Rattle.mau_making.specs.Trace.{value_line, value_lines}

module _ (m : ModuleOf) (own ns : Pairs) (nodes : List Node) where
  -- the lines of variables with the values that have these numbers
  abbrev pub lines : List VarId → List TermId → List ℕ
  lines vs ids = value_lines m own ns (variables_in vs) (trees_at nodes (numbers ids))

  abbrev pub line : VarId → TermId → List ℕ
  line v id = value_line m own ns (variable_of v) (tree_at nodes id.0)

  first_line : (vs : List VarId) (ids : List TermId) (i : ℕ) (v : VarId) (id : TermId) → i < length vs → i < length ids →
      lines (drop i vs) (drop i ids) ≡ line (get_or vs i v) (get_or ids i id) ++ lines (drop (i + 1) vs) (drop (i + 1) ids)
  first_line vs ids i v id h k = ap₂ lines (drop_more vs i v h) (drop_more ids i id k)

  -- one line more is written
  pub one_line : (before after all : List ℕ) (vs : List VarId) (ids : List TermId) (i : ℕ) (v : VarId) (id : TermId) → i < min (length vs) (length ids) → after ≡ before ++ line (get_or vs i v) (get_or ids i id) →
      before ++ lines (drop i vs) (drop i ids) ≡ all → after ++ lines (drop (i + 1) vs) (drop (i + 1) ids) ≡ all
  one_line before after all vs ids i v id h is k =
      ap (λ zs. zs ++ lines (drop (i + 1) vs) (drop (i + 1) ids)) is
      ∙ append_assoc before (line (get_or vs i v) (get_or ids i id)) (lines (drop (i + 1) vs) (drop (i + 1) ids))
      ∙ ap (λ zs. before ++ zs) (sym (first_line vs ids i v id (omega arith) (omega arith)))
      ∙ k

  none_left : (vs : List VarId) (ids : List TermId) (i : ℕ) → min (length vs) (length ids) ≤ i → lines (drop i vs) (drop i ids) ≡ []
  none_left [] ids zero h = refl
  none_left [] ids (suc i) h = refl
  none_left (v ∷ vs) [] zero h = refl
  none_left (v ∷ vs) [] (suc i) h = none (drop i vs)
    where
      none : (zs : List VarId) → lines zs [] ≡ []
      none [] = refl
      none (z ∷ zs) = refl
  none_left (v ∷ vs) (id ∷ ids) zero h = absurd (omega arith)
  none_left (v ∷ vs) (id ∷ ids) (suc i) h = none_left vs ids i (omega arith)

  -- all are written
  pub all_lines : (before all : List ℕ) (vs : List VarId) (ids : List TermId) (i : ℕ) → min (length vs) (length ids) ≤ i → before ++ lines (drop i vs) (drop i ids) ≡ all → before ≡ all
  all_lines before all vs ids i h k = sym (append-nil before) ∙ ap (λ zs. before ++ zs) (sym (none_left vs ids i h)) ∙ k
