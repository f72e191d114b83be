-- The variables that a fragment of a condition matches.
use Rattle.std.specs.Prelude.{List, []}
use Rattle.mau_terms.specs.Subst.{Variable, variables}
use Rattle.mau_terms.specs.View.{tree_of}
use Rattle.mau_program.specs.declared.statements.Fragment.{Fragment}
use Rattle.mau_program.specs.declared.statements.Fragment.TheVariants.{Equal, Match, Sort, Reach}

abbrev pub matched_in : Fragment → List Variable
matched_in (Equal t u) = []
matched_in (Match p u) = variables (tree_of p)
matched_in (Sort t s) = []
matched_in (Reach t u) = []
