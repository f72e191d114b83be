-- The kind of a term, by its top, is that in which it is bare.
use Rattle.std.proofs.Common.{◌≡◌, ℕ, ◌<◌, ◌≤◌, Result, Ok, Err, sym, ap, subst}
use Rattle.std.specs.Prelude.{IfOk}
use Rattle.std.specs.Option.{option_map_or}
use Rattle.mau_terms.specs.Tree.{Tree, variable, numeral, apply}
use Rattle.mau_terms.specs.Bare.{IsBareIn}
use Rattle.mau_terms.specs.declared.bare.Bare.{Bare}
use Rattle.mau_parse.specs.declared.goals.Goal.{Goal}
use Rattle.mau_grammar.specs.Grammar.{GrammarOf}
use Rattle.mau_parse.specs.Goal.{highest}
use Rattle.mau_parse.specs.Laws.{IsBareFor}
use Rattle.mau_statement.specs.Context.{IsItsGrammar}
use Rattle.mau_module.specs.Modules.{ModuleOf}
use Rattle.mau_session.specs.Terms.{terms_in, kind_of_term}
use Rattle.mau_session.specs.Reading.{IsBareOf}

pub kind_is : (m : ModuleOf) (t : Tree) (k : ℕ) → IsBareIn (terms_in m) t k → kind_of_term m t ≡ k
kind_is m (variable i s) k h = h.2
kind_is m (numeral n) k h = ap (λ o. option_map_or (λ k. k) o 0) h.1
kind_is m (apply f ts) k h = h.1

-- what the grammar of a module reads is bare
pub bare_there : {E : Type 0} (m : ModuleOf) (g : GrammarOf) (goal : Goal) (r : Result Bare E) → g ≡ m.grammar → IsItsGrammar m.sorts m.signature m.grammar → IfOk r (IsBareFor g goal)
    → IfOk r (λ b. highest m.grammar goal ≤ m.grammar.last_kind → IsBareOf m goal b)
bare_there m g goal (Ok b) e its h = λ l. (subst (λ g. IsBareFor g goal b) e h) m.signature m.sorts its.variables its.grammar l
bare_there m g goal (Err x) e its h = tt
