-- A term as the list of its parts, each operator behind its arguments, and what a part adds to a list of normal forms.
use Rattle.std.specs.Prelude.{ℕ, ◌-◌, ◌<◌, ◌≤◌, List, [], ◌∷◌, ◌++◌, length, take, drop, get_or, if◌then◌else◌}
use Rattle.mau_terms.specs.Tree.{Tree, variable, numeral, apply, Trees, no_trees, tree, node}
use Rattle.mau_terms.specs.Norm.{norm}
use Rattle.mau_terms.specs.Subst.{Variable, has_variable}
use Rattle.mau_terms.specs.declared.theory.Theory.{Theory}
use Rattle.mau_signature.specs.Signature.{SignatureOf, IsOperator}
use Rattle.mau_syntactic.specs.declared.part.Part.{Part}
use Rattle.mau_syntactic.specs.declared.part.Part.TheVariants.{Operator, Numeral, Value, Unbound}
use Rattle.mau_syntactic.specs.Steps.{place_in, count_trees}

-- ---- the parts of a term

-- a variable that is among xs stands for the value at its place, and another one for itself
abbrev pub part_of : List Variable → Variable → Part
part_of xs x = if has_variable xs x then Value (place_in xs x) else Unbound (record { index = x.0; sort = x.1 })

abbrev mutual
  pub parts_of : List Variable → Tree → List Part
  parts_of xs (variable i s) = part_of xs (i, s) ∷ []
  parts_of xs (numeral n) = Numeral n ∷ []
  parts_of xs (apply f ts) = all_parts_of xs ts ++ Operator (record { 0 = f }) (count_trees ts) ∷ []

  pub all_parts_of : List Variable → Trees → List Part
  all_parts_of xs no_trees = []
  all_parts_of xs (tree t ts) = parts_of xs t ++ all_parts_of xs ts

-- ---- what a part adds

-- the list ts behind a part, where vs are the values: an operator takes its arguments off the end
abbrev pub after_part : (ℕ → Theory) → List Tree → Part → List Tree → List Tree
after_part th vs (Operator op n) ts = take (length ts - n) ts ++ norm th (node op.0 (drop (length ts - n) ts)) ∷ []
after_part th vs (Numeral n) ts = ts ++ numeral n ∷ []
after_part th vs (Value k) ts = ts ++ get_or vs k (numeral 0) ∷ []
after_part th vs (Unbound v) ts = ts ++ variable v.index v.sort ∷ []

-- an operator finds its arguments on a list of m terms, and a value is one of n
abbrev pub CanFollow : SignatureOf → ℕ → ℕ → Part → Type 0
CanFollow s n m (Operator op k) = IsOperator s op.0 × (k ≤ m)
CanFollow s n m (Numeral k) = Unit {0}
CanFollow s n m (Value k) = k < n
CanFollow s n m (Unbound v) = Unit {0}
