-- The formulas of the source.
use Rattle.mau_formula.specs.declared.formula.Formula.{Formula, Arg, Lit, Add', Mul', Monus', Quo', Rem', Gcd', Min', Max', Pow', IfLess'}
use Rattle.mau_formula.specs.Expr.{Expr, arg, lit, add, mul, monus, quo, rem, gcd, min_of, max_of, pow, if_less}

-- the formula, wherever its parts are stored
abbrev pub expr_of : Formula → Expr
expr_of (Arg b) = arg b
expr_of (Lit n) = lit n
expr_of (Add' p f q g) = add (expr_of f) (expr_of g)
expr_of (Mul' p f q g) = mul (expr_of f) (expr_of g)
expr_of (Monus' p f q g) = monus (expr_of f) (expr_of g)
expr_of (Quo' p f q g) = quo (expr_of f) (expr_of g)
expr_of (Rem' p f q g) = rem (expr_of f) (expr_of g)
expr_of (Gcd' p f q g) = gcd (expr_of f) (expr_of g)
expr_of (Min' p f q g) = min_of (expr_of f) (expr_of g)
expr_of (Max' p f q g) = max_of (expr_of f) (expr_of g)
expr_of (Pow' p f q g) = pow (expr_of f) (expr_of g)
expr_of (IfLess' p f q g r x s y) = if_less (expr_of f) (expr_of g) (expr_of x) (expr_of y)
