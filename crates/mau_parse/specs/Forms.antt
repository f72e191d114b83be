-- Forms of productions that are put behind others, where a text may be read by them.
use Rattle.std.specs.Prelude.{◌≡◌, ℕ, List, ◌++◌, Some, slice_get}
use Rattle.mau_grammar.specs.declared.production.Production.{Production as Written}
use Rattle.mau_chart.specs.declared.grammar.Production.{Production}
use Rattle.mau_parse.specs.Charted.{AreThere, HasForm, IsOneOf}

-- those that are there are forms of the productions
abbrev pub AllAreForms : List (List ℕ) → List Written → List Production → Type 0
AllAreForms ws ps qs = (n : ℕ) (q : Production) → slice_get qs n ≡ Some q → IsOneOf ws ps q

-- where the production n may read the text, its form is there
abbrev pub HasFormAt : List (List ℕ) → List Written → List Production → ℕ → Type 0
HasFormAt ws ps qs n = (p : Written) → slice_get ps n ≡ Some p → AreThere ws p.parts → HasForm ws qs p

-- forms were put behind others, so that those of these productions are there
pub record PutsForms (ws : List (List ℕ)) (ps : List Written) (ns : List ℕ) (old new : List Production) : Type 0 where
  pub more : List Production
  pub behind : new ≡ old ++ more
  pub right : AllAreForms ws ps more
  pub all : (m n : ℕ) → slice_get ns m ≡ Some n → HasFormAt ws ps new n

-- so was that of one
pub record PutsForm (ws : List (List ℕ)) (ps : List Written) (n : ℕ) (old new : List Production) : Type 0 where
  pub more : List Production
  pub behind : new ≡ old ++ more
  pub right : AllAreForms ws ps more
  pub there : HasFormAt ws ps new n
