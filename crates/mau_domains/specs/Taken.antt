-- What a term can take as an argument of an associative operator.
use Rattle.std.specs.Prelude.{ℕ, Bool, false, Option, Some, None}
use Rattle.std.specs.Ordering.{is_eq}
use Rattle.mau_terms.specs.Tree.{Tree}
use Rattle.mau_terms.specs.Order.{tree_cmp}
use Rattle.mau_terms.specs.Solution.{list_under}
use Rattle.mau_terms.specs.declared.theory.Theory.{Theory}
use Rattle.mau_domains.specs.Parts.{inside, Part, some_of}

-- all whose list under f stands anywhere in that of t
abbrev pub inside_part : (ℕ → Theory) → ℕ → Tree → Part
inside_part th f t = some_of inside f (list_under (th f) f t)

-- there is a value, and it is t
abbrev pub is_tree : Option Tree → Tree → Bool
is_tree None t = false
is_tree (Some v) t = is_eq (tree_cmp v t)
