-- The last candidate, from what was found and tried, and the values with which it begins.
use Rattle.std.proofs.Common.{◌≡◌, ℕ, ◌≤◌, List, [], ◌∷◌, Bool, true, Option, Some, None, IfSome, IsSome, length, map, slice_get, refl, sym, ap, ◌∙◌, subst, arith}
use Rattle.std.proofs.lemmas.Option.{slice_get_past}
use Rattle.mau_terms.specs.Tree.{Tree}
use Rattle.mau_terms.specs.Norm.{norm}
use Rattle.mau_terms.specs.Subst.{Variable, variables}
use Rattle.mau_terms.specs.Solution.{HaveSorts}
use Rattle.mau_terms.specs.View.{tree_of, variable_of}
use Rattle.mau_terms.specs.declared.ids.TermId.{TermId}
use Rattle.mau_terms.specs.declared.theory.Theory.{Theory}
use Rattle.mau_signature.specs.Signature.{theory_at}
use Rattle.mau_store.specs.Node.{Node}
use Rattle.mau_store.specs.Trees.{trees_at}
use Rattle.mau_store.specs.View.{numbers}
use Rattle.mau_sorts.specs.Table.{Table}
use Rattle.mau_listing.specs.Asked.{Asked, HasEntry, IsGiven, CanBeLast}
use Rattle.mau_listing.specs.declared.solution.Solution as Listed
use Rattle.mau_program.specs.declared.program.Program as Typed
use Rattle.mau_reduce.specs.declared.given.Given.{Given}
use Rattle.mau_reduce.specs.declared.given.Given.TheVariants.{Nothing, TooLarge, Argument, Whole, Before}
use Rattle.mau_reduce.specs.declared.trying.Found.{Found}
use Rattle.mau_reduce.specs.declared.binding.Binding.{Binding as Kept}
use Rattle.mau_reduce.specs.Trying.{IsTried}
use Rattle.mau_reduce.specs.Giving.{GivesValue}
use Rattle.mau_reduce.specs.Lasts.{left_variables_of, left_variables, first_values, IsLast, IsListed, IsLastListed}

-- ---- of an equation

-- what a listing gave last
pub listed_by : (c : Bool) → c ≡ true → (p : Typed.Program) (nodes : List Node) (table : Table) (term : TermId) (i : ℕ) (asked : Asked) (given : Option Listed.Solution) (is_for : Type 0) (x : Listed.Solution) → given ≡ Some x →
    IsTried c p nodes table term i asked given is_for → IsListed p nodes table term i x
listed_by c with_contexts p nodes table term i asked given is_for x last tried = record {
  equation = tried.equation;
  at = tried.at;
  solves =
      subst (λ a. IsGiven true p.sig nodes table a x) tried.asked
      (subst (λ b. CanBeLast b p.sig nodes table asked x) with_contexts
      (subst (λ (w : Option Listed.Solution). IfSome w (CanBeLast c p.sig nodes table asked)) last tried.ready.given));
}

pub begun_of : (last : Option Found) (ids : List TermId) → IsSome last → IfSome last (λ y. ids ≡ y.solution.values) → ids ≡ first_values Nothing last
begun_of None ids some e = cc
begun_of (Some y) ids some e = e

-- ---- of a built-in

pub last_built : (p : Typed.Program) (nodes : List Node) (t : Tree) (i : ℕ) (given : Given) (last : Option Found) → GivesValue given → i ≡ length p.equations → IsLast p nodes t i given last
last_built p nodes t i Nothing last h e = absurd h
last_built p nodes t i TooLarge last h e = absurd h
last_built p nodes t i (Argument j) last h e = e
last_built p nodes t i (Whole l) last h e = e
last_built p nodes t i (Before l) last h e = e

pub listed_built : (p : Typed.Program) (nodes : List Node) (table : Table) (term : TermId) (i : ℕ) (given : Given) (last : Option Found) → GivesValue given → IsLastListed p nodes table term i given last
listed_built p nodes table term i Nothing last h = absurd h
listed_built p nodes table term i TooLarge last h = absurd h
listed_built p nodes table term i (Argument j) last h = tt
listed_built p nodes table term i (Whole l) last h = tt
listed_built p nodes table term i (Before l) last h = tt

pub begun_built : (given : Given) (last : Option Found) → GivesValue given → first_values given last ≡ []
begun_built Nothing last h = absurd h
begun_built TooLarge last h = absurd h
begun_built (Argument j) last h = refl
begun_built (Whole l) last h = refl
begun_built (Before l) last h = refl

-- there is no variable behind all equations
pub none_behind_all : (p : Typed.Program) (i : ℕ) → i ≡ length p.equations → left_variables p i ≡ []
none_behind_all p i e = ap (λ j. left_variables_of (slice_get p.equations j)) e ∙ ap left_variables_of (slice_get_past p.equations (length p.equations) (le_self (length p.equations)))
  where
    le_self : (n : ℕ) → n ≤ n
    le_self n = omega arith

-- ---- the values have the sorts of the variables

have_norms : (P : ℕ → Tree → Type 0) (th : ℕ → Theory) (xs : List Variable) (vs : List Tree) → HaveSorts (λ r v. P r (norm th v)) xs vs → HaveSorts P xs (map (norm th) vs)
have_norms P th [] vs h = tt
have_norms P th (x ∷ xs) [] h = absurd h
have_norms P th (x ∷ xs) (v ∷ vs) h = (h.0, have_norms P th xs vs h.1)

module _ (p : Typed.Program) (nodes : List Node) (table : Table) (term : TermId) (i : ℕ) (b : Kept) (vars : map variable_of b.variables.items ≡ left_variables p i) where
  abbrev Have : List Variable → List Tree → Type 0
  Have xs vs = HaveSorts (HasEntry p.sig nodes table) xs vs

  pub sorts_of : (x : Listed.Solution) → IsListed p nodes table term i x → b.values.items ≡ x.values → Have (map variable_of b.variables.items) (trees_at nodes (numbers b.values.items))
  sorts_of x is begun =
      let left : List Variable = variables (tree_of is.equation.left) in
      let own : Have left (trees_at nodes (numbers x.values)) =
      subst (Have left) is.solves.solves.values (have_norms (HasEntry p.sig nodes table) (theory_at p.sig) left is.solves.solves.bare is.solves.solves.solves.1) in
      subst (λ xs. Have xs (trees_at nodes (numbers b.values.items))) (sym (vars ∙ ap left_variables_of is.at)) (subst (λ ids. Have left (trees_at nodes (numbers ids))) (sym begun) own)

  pub sorts_of_last : (last : Option Found) → IsSome last → IsLastListed p nodes table term i Nothing last → IfSome last (λ y. b.values.items ≡ y.solution.values) → Have (map variable_of b.variables.items) (trees_at nodes (numbers b.values.items))
  sorts_of_last None some is begun = cc
  sorts_of_last (Some y) some is begun = sorts_of y.solution is begun

  pub sorts_of_none : i ≡ length p.equations → Have (map variable_of b.variables.items) (trees_at nodes (numbers b.values.items))
  sorts_of_none e = subst (λ xs. Have xs (trees_at nodes (numbers b.values.items))) (sym (vars ∙ none_behind_all p i e)) tt
