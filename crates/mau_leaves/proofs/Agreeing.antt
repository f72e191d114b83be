-- What is bound, by the numbers of a store, as mau_choices speaks of agreement with a binding.
use Rattle.std.proofs.Common.{◌≡◌, List, [], ◌∷◌, All, refl, sym, ap, subst}
use Rattle.std.proofs.lemmas.List.Elements.{All-head, All-tail}
use Rattle.mau_terms.specs.Subst.{Variable}
use Rattle.mau_terms.specs.View.{variable_of}
use Rattle.mau_terms.specs.declared.ids.TermId.{TermId}
use Rattle.mau_terms.specs.declared.ids.VarId.{VarId}
use Rattle.mau_signature.specs.Signature.{SignatureOf, theory_at}
use Rattle.mau_store.specs.Node.{Node}
use Rattle.mau_sorts.specs.Table.{Table}
use Rattle.mau_choices.proofs.Agreeing.{bound_variables, HaveNorms}
use Rattle.mau_api.specs.Answers.{binding_in, IsValueOf, AreApart}
use Rattle.mau_leaves.specs.Searches.{variables_in}

pub bound_variables_in : (nodes : List Node) (bound : List (VarId × TermId)) → bound_variables (binding_in nodes bound) ≡ variables_in bound
bound_variables_in nodes [] = refl
bound_variables_in nodes (b ∷ bound) = ap (λ (xs : List Variable). variable_of b.0 ∷ xs) (bound_variables_in nodes bound)

pub bound_norms : (s : SignatureOf) (nodes : List Node) (table : Table) (bound : List (VarId × TermId)) → All (IsValueOf s nodes table) bound → HaveNorms (theory_at s) (binding_in nodes bound)
bound_norms s nodes table [] h = tt
bound_norms s nodes table (b ∷ bound) h = (
  (All-head (IsValueOf s nodes table) b bound h).term.within.normal,
  bound_norms s nodes table bound (All-tail (IsValueOf s nodes table) b bound h),
)

pub bound_apart : (nodes : List Node) (bound : List (VarId × TermId)) → AreApart (variables_in bound) → AreApart (bound_variables (binding_in nodes bound))
bound_apart nodes bound h = subst AreApart (sym (bound_variables_in nodes bound)) h
