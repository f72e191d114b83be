-- The terms of a match command that were read: what a query needs of them.
use Rattle.std.specs.Prelude.{◌≡◌, ◌<◌, ◌≤◌, length, take}
use Rattle.mau_terms.specs.Bare.{IsBare}
use Rattle.mau_terms.specs.Subst.{variables}
use Rattle.mau_terms.specs.View.{tree_of}
use Rattle.mau_module.specs.Modules.{ModuleOf}
use Rattle.mau_session.specs.Terms.{terms_in}
use Rattle.mau_session.specs.Matching.{numbered_from}
use Rattle.mau_session.specs.declared.terms.Terms.{Terms}

-- they are bare terms over the module, and the variables of the pattern are the first ones
pub record AreUsable (m : ModuleOf) (t : Terms) : Type 0 where
  pub pattern : IsBare (terms_in m) (tree_of t.pattern)
  pub subject : IsBare (terms_in m) (tree_of t.subject)
  pub numbered : variables (tree_of t.pattern) ≡ numbered_from 0 (take (length (variables (tree_of t.pattern))) t.vars)
  pub few : length (variables (tree_of t.pattern)) ≤ length t.vars
  pub small : length t.vars < 4294967296
