-- The programs of the examples: a vending machine, and small systems of rules over constants.
use Rattle.std.proofs.Common.{ℕ, List, [], ◌∷◌, true, false, ◌==◌, ◌||◌, if◌then◌else◌, nat_lt, Some, None}
use Rattle.mau_terms.specs.Tree.{Tree, variable, node}
use Rattle.mau_terms.specs.Bare.{TermSignature}
use Rattle.mau_terms.specs.declared.theory.Theory.{Theory}
use Rattle.mau_evaluation.specs.Program.{Fragment, Equation, Rule, Program}
use Rattle.mau_evaluation.specs.Engine.{Engine, engine_of}
use Rattle.mau_evaluation.specs.Strategy.{Strategy, label}

-- ---- sorts: 1 Coin, 2 Item, 3 Place, with Coin and Item below Place; the kind is 10

abbrev pub above : ℕ → List ℕ
above r = if nat_lt r 3 then r ∷ 3 ∷ 10 ∷ [] else if r == 3 then 3 ∷ 10 ∷ [] else r ∷ []

-- ---- operators: 1 $ and 2 q, Coins; 3 a, 4 c, 5 b, 7 d and 8 e, Items; 6 __ : Place Place -> Place [assoc comm]; 9 h : Place Place -> Place [frozen (2)];
-- 10 g : Place -> Place

abbrev pub free : Theory
free = record { assoc = false; comm = false; id = None; succ = false }

abbrev pub both : Theory
both = record { assoc = true; comm = true; id = None; succ = false }

abbrev th : ℕ → Theory
th f = if f == 6 then both else free

abbrev arity : ℕ → List ℕ
arity f = if (f == 6) || (f == 9) then 10 ∷ 10 ∷ [] else if f == 10 then 10 ∷ [] else []

abbrev result : ℕ → ℕ
result f = if nat_lt f 3 then 1 else if nat_lt f 6 || ((f == 7) || (f == 8)) then 2 else 3

abbrev pub signature : TermSignature
signature = record {
  theory = th;
  has_operator = λ f. nat_lt 0 f;
  arguments = arity;
  result = λ f. 10;
  has_sort = λ r. nat_lt 0 r;
  kind_of = λ r. 10;
  numerals = None;
}

abbrev pub system : List Equation → List Rule → Program
system es rs = record {
  sign = signature;
  above = above;
  numeral_sorts = λ n. [];
  declared = λ f ss. above (result f);
  equations = es;
  memberships = [];
  rules = rs;
  strat = λ f. if f == 10 then 0 ∷ [] else 0 ∷ 1 ∷ [];
  frozen = λ f i. (if f == 9 then i == 1 else false);
  built_in = λ f. None;
  units = [];
}

abbrev pub dollar : Tree
dollar = node 1 []

abbrev pub q : Tree
q = node 2 []

abbrev pub a : Tree
a = node 3 []

abbrev pub c : Tree
c = node 4 []

abbrev pub b : Tree
b = node 5 []

abbrev pub d : Tree
d = node 7 []

abbrev pub e : Tree
e = node 8 []

-- the operator over two terms, as a term has it, and over a list, as a normal form has it
abbrev pub pair : Tree → Tree → Tree
pair t u = node 6 (t ∷ u ∷ [])

abbrev pub together : List Tree → Tree
together ts = node 6 ts

abbrev pub h : Tree → Tree → Tree
h t u = node 9 (t ∷ u ∷ [])

abbrev pub g : Tree → Tree
g t = node 10 (t ∷ [])

-- X:Place and Y:Place, the variables 0 and 1
abbrev pub x : Tree
x = variable 0 3

abbrev pub y : Tree
y = variable 1 3

abbrev pub eq : Tree → Tree → Equation
eq l r = record { left = l; right = r; cond = []; owise = false; exec = true }

-- labels and other names are numbers here
abbrev pub name : ℕ → List ℕ
name n = n ∷ []

abbrev pub rl : ℕ → Tree → Tree → Rule
rl n l r = record { label = Some (name n); vars = []; left = l; right = r; cond = []; exec = true }

abbrev pub crl : ℕ → Tree → Tree → List Fragment → Rule
crl n l r c = record (rl n l r) { vars = (name 120, 3) ∷ []; cond = c }

-- with the attribute nonexec, and the variable X:Place
abbrev pub nonexec : Rule → Rule
nonexec r = record r { vars = (name 120, 3) ∷ []; exec = false }

abbrev pub by : ℕ → Strategy
by n = label (name n) []

-- rl [buy-c] : $ => c . rl [buy-a] : $ => a q . rl [change] : q q q q => $ .
abbrev pub vending : Program
vending = system [] (rl 1 dollar c ∷ rl 2 dollar (pair a q) ∷ rl 3 (pair q (pair q (pair q q))) dollar ∷ [])

-- rl a => b . rl a => c . rl b => a . rl b => e .
abbrev pub cycle : Program
cycle = system [] (rl 1 a b ∷ rl 1 a c ∷ rl 1 b a ∷ rl 1 b e ∷ [])

-- eq g(a) = a . eq g(c) = g(c) . eq d = d .
abbrev pub endless : Program
endless = system (eq (g a) a ∷ eq (g c) (g c) ∷ eq d d ∷ []) []

-- 2,000 levels, so that conditions have one less, and the limit 1,000,000
abbrev pub engine : Program → Engine
engine P = engine_of P 1999 1000000 1000000

-- the same with the limit 5
abbrev pub short : Program → Engine
short P = engine_of P 1999 5 5
