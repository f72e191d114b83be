-- What a term can take as an argument of an operator that is not associative, as a list.
use Rattle.std.specs.Prelude.{ℕ, ◌-◌, ◌==◌, ◌&&◌, nat_lt, List, [], ◌∷◌, ◌++◌, Bool, Option, Some, None, if◌then◌else◌}
use Rattle.mau_terms.specs.Tree.{Tree, variable, numeral, apply, list_of}
use Rattle.mau_terms.specs.Norm.{unit_tree}
use Rattle.mau_terms.specs.declared.theory.Identity.{Identity}
use Rattle.mau_terms.specs.declared.theory.Theory.{Theory}

-- the arguments of t, where f is its top
abbrev pub arguments_at : ℕ → Tree → List Tree
arguments_at f (variable i s) = []
arguments_at f (numeral n) = []
arguments_at f (apply g ts) = if g == f then list_of ts else []

-- the numeral before t, where f is the successor
abbrev pub one_before : Bool → Tree → List Tree
one_before succ (variable i s) = []
one_before succ (numeral n) = if succ && nat_lt 0 n then numeral (n - 1) ∷ [] else []
one_before succ (apply g ts) = []

-- the identity, and t itself beside it
abbrev pub beside_unit : Option Identity → Tree → List Tree
beside_unit None t = []
beside_unit (Some i) t = unit_tree i ∷ t ∷ []

-- all that t can take under f
abbrev pub taken_of : Theory → ℕ → Tree → List Tree
taken_of h f t = arguments_at f t ++ (one_before h.succ t ++ beside_unit h.id t)
