-- What facts say.
use Rattle.std.specs.Prelude.{ℕ, suc, List, [], ◌∷◌, ◌++◌, fold, Bool, true, false, ◌&&◌, not, Option, Some, None}
use Rattle.mau_terms.specs.Tree.{Tree}
use Rattle.mau_facts.specs.declared.document.Fact.{Fact}
use Rattle.mau_facts.specs.declared.document.Fact.TheVariants.{Same, Step, Built, Under, Chain, SortDecl, SortMb}
use Rattle.mau_logic.specs.Lines.{all_numbered, term_at}

-- One term leads to another, by equations alone where the Bool is true; or a term has a sort. A fact that names what is not there says nothing, and
-- is not justified.
pub data Says : Type 0 where
  leads : Bool → Tree → Tree → Says
  of_sort : Tree → ℕ → Says
  says_nothing : Says

abbrev pub leads_if : Bool → Option Tree → Option Tree → Says
leads_if e (Some t) (Some u) = leads e t u
leads_if e _ _ = says_nothing

-- documents count sorts from 1
abbrev pub of_sort_if : Option Tree → ℕ → Says
of_sort_if (Some t) (suc r) = of_sort t r
of_sort_if _ _ = says_nothing

-- all lead by equations
abbrev pub all_equational : List Says → Bool
all_equational [] = true
all_equational (leads e t u ∷ xs) = e && all_equational xs
all_equational (x ∷ xs) = false

-- where the first begins
abbrev pub start_of : List Says → Option Tree
start_of (leads e t u ∷ xs) = Some t
start_of _ = None

-- where the last ends
abbrev pub end_of : List Says → Option Tree
end_of [] = None
end_of (leads e t u ∷ []) = Some u
end_of (x ∷ []) = None
end_of (x ∷ y ∷ xs) = end_of (y ∷ xs)

abbrev pub or_none : Option (List Says) → List Says
or_none (Some xs) = xs
or_none None = []

-- what the facts with these numbers say, where all are there
abbrev pub facts_at : List Says → List ℕ → List Says
facts_at before ns = or_none (all_numbered before ns)

-- what a fact says, where terms are those of its section and before is what the facts before it say
abbrev pub said : List (Option Tree) → List Says → Fact → Says
said terms before (Same t u axioms) = leads_if true (term_at terms t) (term_at terms u)
said terms before (Step f) = leads_if (not f.rule) (term_at terms f.from) (term_at terms f.to)
said terms before (Built f) = leads_if true (term_at terms f.from) (term_at terms f.to)
said terms before (Under f) = leads_if (all_equational (facts_at before f.facts)) (term_at terms f.from) (term_at terms f.to)
said terms before (Chain ns) = leads_if (all_equational (facts_at before ns)) (start_of (facts_at before ns)) (end_of (facts_at before ns))
said terms before (SortDecl f) = of_sort_if (term_at terms f.term) f.sort
said terms before (SortMb f) = of_sort_if (term_at terms f.term) f.sort

abbrev pub all_said : List (Option Tree) → List Fact → List Says
all_said terms fs = fold (λ xs f. xs ++ said terms xs f ∷ []) [] fs
