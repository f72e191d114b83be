-- The top of a normal form: what may be the left side of an equation, and what the head of a membership.
use Rattle.std.specs.Prelude.{ℕ, Bool, true, false, not, ◌||◌, is_some}
use Rattle.mau_terms.specs.Tree.{Tree, variable, apply}
use Rattle.mau_terms.specs.Norm.{norm}
use Rattle.mau_terms.specs.declared.theory.Theory.{Theory}

abbrev pub is_variable : Tree → Bool
is_variable (variable i s) = true
is_variable _ = false

-- the normal form of a left side is no variable
abbrev pub is_left_side : (ℕ → Theory) → Tree → Bool
is_left_side th t = not (is_variable (norm th t))

-- an operator may be the top of a head: it isn't associative, has no identity, and is not the successor
abbrev pub is_head_operator : Theory → Bool
is_head_operator h = not (h.assoc || (is_some h.id || h.succ))

-- a normal form may be a head: it has such an operator
abbrev pub has_head_operator : (ℕ → Theory) → Tree → Bool
has_head_operator th (apply f ts) = is_head_operator (th f)
has_head_operator th _ = false

abbrev pub is_head : (ℕ → Theory) → Tree → Bool
is_head th t = has_head_operator th (norm th t)
