-- Formulas over two numbers, wherever they are stored, and their values. Numbers here have no upper bound.
use Rattle.std.specs.Prelude.{ℕ, ◌+◌, ◌-◌, ◌*◌, ◌/◌, ◌%◌, ◌^◌, ◌==◌, min, max, Bool, true, false, nat_lt, if◌then◌else◌}
use Rattle.mau_formula.specs.Divisor.{gcd_of}
use Rattle.mau_formula.specs.declared.formula.HookAnswer.{HookAnswer}
use Rattle.mau_formula.specs.declared.formula.HookAnswer.TheVariants.{Value, NoValue, Overflow}

pub data Expr : Type 0 where
  -- the first argument for false, the second for true
  arg : Bool → Expr
  lit : ℕ → Expr
  add : Expr → Expr → Expr
  mul : Expr → Expr → Expr
  monus : Expr → Expr → Expr
  quo : Expr → Expr → Expr
  rem : Expr → Expr → Expr
  gcd : Expr → Expr → Expr
  min_of : Expr → Expr → Expr
  max_of : Expr → Expr → Expr
  pow : Expr → Expr → Expr
  -- the third where the first is less than the second, else the fourth
  if_less : Expr → Expr → Expr → Expr → Expr

-- a whole number, where it is below 2 ^ 128
abbrev pub fitting : ℕ → HookAnswer
fitting n = if nat_lt n (2 ^ 128) then Value n else Overflow

-- a number that a division by n gives: none by 0
abbrev pub divided : ℕ → ℕ → HookAnswer
divided n q = if n == 0 then NoValue else Value q

-- what follows from a value; NoValue and Overflow stay as they are
abbrev pub on_value : HookAnswer → (ℕ → HookAnswer) → HookAnswer
on_value (Value n) f = f n
on_value NoValue f = NoValue
on_value Overflow f = Overflow

-- what follows from two values: of two answers that are none, the first stays
abbrev pub on_values : HookAnswer → HookAnswer → (ℕ → ℕ → HookAnswer) → HookAnswer
on_values r s f = on_value r (λ m. on_value s (f m))

-- the value of a formula at two arguments. Its parts are valued from left to right, and the first that has no value
-- decides; of an if_less only one branch is valued.
abbrev pub value : Expr → ℕ → ℕ → HookAnswer
value (arg false) a b = Value a
value (arg true) a b = Value b
value (lit n) a b = Value n
value (add f g) a b = on_values (value f a b) (value g a b) (λ m n. fitting (m + n))
value (mul f g) a b = on_values (value f a b) (value g a b) (λ m n. fitting (m * n))
value (monus f g) a b = on_values (value f a b) (value g a b) (λ m n. Value (m - n))
value (quo f g) a b = on_values (value f a b) (value g a b) (λ m n. divided n (m / n))
value (rem f g) a b = on_values (value f a b) (value g a b) (λ m n. divided n (m % n))
value (gcd f g) a b = on_values (value f a b) (value g a b) (λ m n. Value (gcd_of m n))
value (min_of f g) a b = on_values (value f a b) (value g a b) (λ m n. Value (min m n))
value (max_of f g) a b = on_values (value f a b) (value g a b) (λ m n. Value (max m n))
value (pow f g) a b = on_values (value f a b) (value g a b) (λ m n. fitting (m ^ n))
value (if_less f g x y) a b = on_values (value f a b) (value g a b) (λ m n. if nat_lt m n then value x a b else value y a b)
