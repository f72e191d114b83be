-- The terms of a command in the kinds that are asked for, by the grammar of a module. How tokens read as a term is said of the parts of statements.
use Rattle.std.specs.Prelude.{ℕ, ◌≤◌, ◌<◌}
use Rattle.mau_terms.specs.Bare.{IsBareIn}
use Rattle.mau_terms.specs.View.{tree_of}
use Rattle.mau_terms.specs.declared.bare.Bare.{Bare}
use Rattle.mau_module.specs.Modules.{ModuleOf}
use Rattle.mau_parse.specs.declared.goals.Goal.{Goal}
use Rattle.mau_parse.specs.Goal.{lowest, highest}
use Rattle.mau_session.specs.Terms.{terms_in}

-- b is a bare term of one of the kinds that are asked for
abbrev pub IsBareOf : ModuleOf → Goal → Bare → Type 0
IsBareOf m goal b = (k : ℕ) × (lowest m.grammar goal ≤ k) × (k < highest m.grammar goal) × IsBareIn (terms_in m) (tree_of b) k
