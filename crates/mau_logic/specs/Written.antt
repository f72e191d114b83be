-- The terms that a derivation names.
use Rattle.std.specs.Prelude.{◌≡◌, ℕ, List, [], ◌∷◌, ◌++◌, Option, Some, Contains}
use Rattle.mau_terms.specs.Tree.{Tree}
use Rattle.mau_formula.specs.Operator.{Operator}
use Rattle.mau_program.specs.declared.program.Program.{Program}
use Rattle.mau_logic.specs.Lines.{term_at}
use Rattle.mau_logic.specs.Says.{Says}
use Rattle.mau_logic.specs.Derivable.{Follows, same, by_equation, by_rule, by_built_in, under, chain, declared, member, Derivable, derives, AreDerivable, no_facts, one_fact}

module _ (p : Program) (hooks : List Operator) where
  abbrev pub named_by : {us : List Says} {x : Says} → Follows p hooks us x → List Tree
  named_by (same t u bt bu e) = t ∷ u ∷ []
  named_by (by_equation n e c t u vs at bc bt bu bvs is) = c ∷ t ∷ u ∷ vs
  named_by (by_rule n q c t u vs at bc bt bu bvs is) = c ∷ t ∷ u ∷ vs
  named_by (by_built_in f c t u ts bc bt bu bts is) = c ∷ t ∷ u ∷ ts
  named_by (under f t u bt bu is) = t ∷ u ∷ []
  named_by (chain t u on e d) = []
  named_by (declared t r b low has) = t ∷ []
  named_by (member n m t r vs at b low bvs is) = t ∷ vs

  abbrev mutual
    pub named : {x : Says} → Derivable p hooks x → List Tree
    named (derives us ds f) = all_named ds ++ named_by f

    pub all_named : {us : List Says} → AreDerivable p hooks us → List Tree
    all_named no_facts = []
    all_named (one_fact d ds) = named d ++ all_named ds

-- each of these is among the terms of a section
abbrev pub HasTerms : List (Option Tree) → List Tree → Type 0
HasTerms terms ts = (t : Tree) → Contains ts t → (n : ℕ) × (term_at terms n ≡ Some t)
