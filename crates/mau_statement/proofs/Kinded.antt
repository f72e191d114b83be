-- What a grammar reads is bare over its signature.
use Rattle.std.proofs.Common.{◌≡◌, ◌≤◌, ◌+◌, ℕ, List, length, Result, Ok, Err, OnOk, subst, arith}
use Rattle.std.specs.Prelude.{IfOk}
use Rattle.mau_terms.specs.Tree.{Tree, variable, numeral, apply}
use Rattle.mau_terms.specs.Bare.{TermSignature, IsBareIn}
use Rattle.mau_terms.specs.declared.bare.Bare.{Bare}
use Rattle.mau_grammar.specs.Grammar.{GrammarOf}
use Rattle.mau_parse.specs.declared.goals.Goal.{Goal}
use Rattle.mau_parse.specs.Goal.{highest}
use Rattle.mau_parse.specs.Laws.{IsBareFor}
use Rattle.mau_parse.specs.Parsed.{IsParsed}
use Rattle.mau_statement.specs.Context.{IsItsGrammar}
use Rattle.mau_statement.specs.Context.{ContextOf}
use Rattle.mau_statement.specs.Parts.{IsBareOf, LiesIn}

pub bare_there : {E : Type 0} (c : ContextOf) (g : GrammarOf) (goal : Goal) (r : Result Bare E) → g ≡ c.grammar → IsItsGrammar c.sorts c.signature c.grammar → IfOk r (IsBareFor g goal)
    → IfOk r (λ b. highest c.grammar goal ≤ c.grammar.last_kind → IsBareOf c goal b)
bare_there c g goal (Ok b) e its h = λ l. (subst (λ g. IsBareFor g goal b) e h) c.signature c.sorts its.variables its.grammar l
bare_there c g goal (Err x) e its h = tt

-- a term has at most a thousand tokens, and not more variables
pub few_there : {E : Type 0} (g : GrammarOf) (ws : List (List ℕ)) (goal : Goal) (old new : List (List ℕ × ℕ)) (n : ℕ) (r : Result Bare E) → IfOk r (IsParsed g ws goal old new)
    → n ≡ length ws → length new ≤ length old + n → OnOk r (length new ≤ length old + 1000)
few_there g ws goal old new n (Ok b) p e l = omega (arith, p.readable.few, e, l)
few_there g ws goal old new n (Err x) p e l = tt

-- a bare term lies in its kind
pub bare_lies : (s : TermSignature) (t : Tree) (k : ℕ) → IsBareIn s t k → LiesIn s t k
bare_lies s (variable i r) k b = b.2
bare_lies s (numeral n) k b = b.1
bare_lies s (apply f ts) k b = b.1
