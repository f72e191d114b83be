-- The top of a normal form, as the code keeps it.
use Rattle.std.specs.Prelude.{ℕ, ◌+◌, ◌==◌, nat_lt, Bool, false, ◌&&◌, if◌then◌else◌, Option, Some}
use Rattle.mau_terms.specs.Tree.{Tree, variable, numeral, apply, no_trees, tree}
use Rattle.mau_terms.specs.Norm.{greatest_numeral}
use Rattle.mau_terms.specs.declared.ids.OpId.{OpId}
use Rattle.mau_terms.specs.declared.theory.Identity.{Identity}
use Rattle.mau_terms.specs.declared.theory.Identity.TheVariants.{Const, Num}
use Rattle.mau_signature.specs.Signature.{SignatureOf, IsOperator}
use Rattle.mau_statement.specs.declared.tops.Top.{Top}
use Rattle.mau_statement.specs.declared.tops.Top.TheVariants.{Variable, Numeral, Constant, Operator}

abbrev pub operator : ℕ → OpId
operator f = record { 0 = f }

abbrev pub top_of : Tree → Top
top_of (variable i s) = Variable
top_of (numeral n) = Numeral n
top_of (apply f no_trees) = Constant (operator f)
top_of (apply f (tree t ts)) = Operator (operator f)

-- that of an identity
abbrev pub is_unit_top : Option Identity → Top → Bool
is_unit_top (Some (Const c)) (Constant g) = c.0 == g.0
is_unit_top (Some (Num n)) (Numeral m) = n == m
is_unit_top _ _ = false

-- the top of an operator over one term with this top
abbrev pub over_one_top : Bool → OpId → Top → Top
over_one_top succ f (Numeral n) = if succ && nat_lt n greatest_numeral then Numeral (n + 1) else Operator f
over_one_top succ f t = Operator f

-- that of an operator over two
abbrev pub over_two_top : Option Identity → OpId → Top → Top → Top
over_two_top id f t u = if is_unit_top id t then u else (if is_unit_top id u then t else Operator f)

-- its operator is one of the signature
abbrev pub IsTopOver : SignatureOf → Top → Type 0
IsTopOver s Variable = Unit {0}
IsTopOver s (Numeral n) = Unit {0}
IsTopOver s (Constant f) = IsOperator s f.0
IsTopOver s (Operator f) = IsOperator s f.0
