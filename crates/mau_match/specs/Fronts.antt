-- Values whose list begins with some elements and goes on.
use Rattle.std.specs.Prelude.{◌≡◌, ◌⊎◌, ℕ, List, ◌∷◌, ◌++◌, All, Contains, Some, None, false, if◌then◌else◌}
use Rattle.mau_terms.specs.Tree.{Tree, variable, apply, no_trees, tree}
use Rattle.mau_terms.specs.Solution.{value_key}
use Rattle.mau_terms.specs.Subst.{Variable, same_variable}
use Rattle.mau_terms.specs.View.{variable_of}
use Rattle.mau_terms.specs.declared.ids.OpId.{OpId}
use Rattle.mau_terms.specs.declared.ids.TermId.{TermId}
use Rattle.mau_terms.specs.declared.ids.VarId.{VarId}
use Rattle.mau_terms.specs.declared.theory.Theory.{Theory}
use Rattle.mau_signature.specs.Signature.{SignatureOf, theory_at}
use Rattle.mau_sorts.specs.HasSort.{Known}
use Rattle.mau_store.specs.Node.{Node}
use Rattle.mau_store.specs.Trees.{trees_at}
use Rattle.mau_store.specs.View.{numbers}
use Rattle.mau_listing.specs.declared.places.Place.{Place}
use Rattle.mau_listing.specs.Places.{variables_in}
use Rattle.mau_trial.specs.declared.tried.Trial.{Trial}
use Rattle.mau_domains.specs.Search.{IsValueBehind}
use Rattle.mau_domains.specs.Values.{by_key}
use Rattle.mau_match.specs.Limited.{IsLimitOf}
use Rattle.mau_match.specs.Searched.{AnswerIn}
use Rattle.mau_match.specs.declared.part.Limit.{Limit}

-- f over y and x in place of x, and each other variable as it is
abbrev pub split_at : ℕ → Variable → Variable → Variable → Tree
split_at f x y z = if same_variable z x then apply f (tree (variable y.0 y.1) (tree (variable z.0 z.1) no_trees)) else variable z.0 z.1

-- a limit of another variable than x, or that x has an element at least
abbrev pub IsOtherLimit : List Limit → OpId → VarId → Limit → Type 0
IsOtherLimit ls op x l =
    (Contains ls l × (same_variable (variable_of l.variable) (variable_of x) ≡ false))
    ⊎ ((l.op ≡ op) × (l.variable ≡ x) × (l.least ≡ 1) × (l.most ≡ None))

-- u's list under f begins with these elements, and has more
abbrev pub GoesOnWith : (ℕ → Theory) → ℕ → List Tree → Tree → Type 0
GoesOnWith th f xs u = (y : Tree) × (ys : List Tree) × (value_key th (Some f) u ≡ xs ++ y ∷ ys)

-- in no answer that begins with the chosen values the next one does so
abbrev pub NoneGoesOn : SignatureOf → List Limit → List Node → Trial → List Place → List TermId → ℕ → List Tree → Type 0
NoneGoesOn s ls nodes t ps chosen f xs =
    (known : Known) (u : Tree) (us : List Tree) → All (IsLimitOf s known (variables_in ps)) ls → AnswerIn s known nodes t (trees_at nodes (numbers chosen) ++ u ∷ us) →
    GoesOnWith (theory_at s) f xs u → ⊥

-- each value behind v that the next one has in such an answer stands behind w, which is v or behind it
pub record IsPassedFront (s : SignatureOf) (ls : List Limit) (nodes : List Node) (t : Trial) (ps : List Place) (chosen : List TermId) (f : ℕ) (v w : Tree) : Type 0 where
  pub onward : (known : Known) (u : Tree) (us : List Tree) → All (IsLimitOf s known (variables_in ps)) ls → AnswerIn s known nodes t (trees_at nodes (numbers chosen) ++ u ∷ us) →
      IsValueBehind (by_key (theory_at s) (Some f)) 0 (Some v) u → IsValueBehind (by_key (theory_at s) (Some f)) 0 (Some w) u
  pub back : (u : Tree) → IsValueBehind (by_key (theory_at s) (Some f)) 0 (Some w) u → IsValueBehind (by_key (theory_at s) (Some f)) 0 (Some v) u
