-- What a strategy is over its parts.
use Rattle.std.specs.Prelude.{◌≡◌, ℕ, List, slice_get, Some}
use Rattle.mau_evaluation.specs.Strategy.{Strategy, top_only, star, plus, to_normal, in_turn, either, or_else, negation, attempt, test_of}
use Rattle.mau_terms.specs.Subst.{Variable}
use Rattle.mau_terms.specs.View.{variable_of}
use Rattle.mau_program.specs.declared.strategies.PartUse.{PartUse}
use Rattle.mau_program.specs.declared.definitions.StratDef.{StratDef}
use Rattle.mau_strat.specs.declared.configs.StrategyId.{StrategyId}
use Rattle.mau_strat.specs.declared.forms.Form.{Form}
use Rattle.mau_strat.specs.declared.forms.Form.TheVariants as form
use Rattle.mau_stratforms.specs.Meanings.{meaning_of}
use Rattle.mau_stratforms.specs.Made.{IsMade}
use Rattle.mau_stratforms.specs.declared.maker.One.{One}
use Rattle.mau_stratforms.specs.declared.maker.One.TheVariants as one
use Rattle.mau_stratforms.specs.declared.maker.Two.{Two}
use Rattle.mau_stratforms.specs.declared.maker.Two.TheVariants as two

-- bodies of definitions have these numbers
abbrev pub AreMade : List Form → List Strategy → List StratDef → List StrategyId → Type 0
AreMade forms table definitions ids = (k : ℕ) (b : StrategyId) (d : StratDef) → slice_get ids k ≡ Some b → slice_get definitions k ≡ Some d → IsMade forms table (meaning_of d.body) b.0

-- ---- strategies with one part, and with two

-- a variable of a pattern with the strategy for its value
abbrev pub part_of : PartUse → Variable × Strategy
part_of u = (variable_of u.var, meaning_of u.strategy)

abbrev pub form_one : One → StrategyId → Form
form_one one.Top e = form.Top e
form_one one.Star e = form.Star e
form_one one.Plus e = form.Plus e
form_one one.Normal e = form.Normal e
form_one one.Not e = form.Not e
form_one one.Try e = form.Try e
form_one one.TestOf e = form.TestOf e

abbrev pub over_one : One → Strategy → Strategy
over_one one.Top e = top_only e
over_one one.Star e = star e
over_one one.Plus e = plus e
over_one one.Normal e = to_normal e
over_one one.Not e = negation e
over_one one.Try e = attempt e
over_one one.TestOf e = test_of e

abbrev pub form_two : Two → StrategyId → StrategyId → Form
form_two two.Then e f = form.Then e f
form_two two.Or e f = form.Or e f
form_two two.OrElse e f = form.OrElse e f

abbrev pub over_two : Two → Strategy → Strategy → Strategy
over_two two.Then e f = in_turn e f
over_two two.Or e f = either e f
over_two two.OrElse e f = or_else e f
