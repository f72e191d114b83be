-- The operators of truth values, which are declared over each kind.
use Rattle.std.specs.Prelude.{ℕ, List, [], ◌∷◌, Some, codes}
use Rattle.std.specs.List.{flat_map, range_with_len}
use Rattle.mau_poset.specs.Order.{Hierarchy, kinds}
use Rattle.mau_signature.specs.declared.form.Piece.{Piece}
use Rattle.mau_signature.specs.declared.form.Piece.TheVariants.{Hole, Word}
use Rattle.mau_signature.specs.declared.decl.Decl.{Decl}
use Rattle.mau_signature.specs.Attributes.{no_attributes}

-- `if b then t else u fi` evaluates b alone, before it is one of t and u
abbrev pub if_form : List Piece
if_form = Word (codes "if") ∷ Hole ∷ Word (codes "then") ∷ Hole ∷ Word (codes "else") ∷ Hole ∷ Word (codes "fi") ∷ []

abbrev pub if_declaration : ℕ → ℕ → Decl
if_declaration bool k = record {
  form = if_form;
  args = bool ∷ k ∷ k ∷ [];
  result = k;
  attrs = record no_attributes { strat = Some (1 ∷ 0 ∷ []); builtin = Some (codes "branch") };
}

-- `t == u` and `t =/= u`
abbrev pub between : List ℕ → List Piece
between sign = Hole ∷ Word sign ∷ Hole ∷ []

abbrev pub comparison : ℕ → ℕ → List ℕ → List ℕ → Decl
comparison bool k sign name = record {
  form = between sign;
  args = k ∷ k ∷ [];
  result = bool;
  attrs = record no_attributes { prec = Some 51; builtin = Some name };
}

-- those over one kind, and over all kinds in the order of their numbers
abbrev pub truth_over : ℕ → ℕ → List Decl
truth_over bool k = if_declaration bool k ∷ comparison bool k (codes "==") (codes "same") ∷ comparison bool k (codes "=/=") (codes "differ") ∷ []

abbrev pub truth_declarations : Hierarchy → ℕ → List Decl
truth_declarations h bool = flat_map (truth_over bool) (range_with_len h.sorts (kinds h))
