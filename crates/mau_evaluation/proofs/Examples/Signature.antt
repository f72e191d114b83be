-- The signature of the examples: numbers with native operators, truth values, pairs, lists and sets.
use Rattle.std.proofs.Common.{ℕ, zero, suc, ◌+◌, ◌-◌, ◌*◌, List, [], ◌∷◌, ◌++◌, map, Bool, true, false, ◌==◌, ◌&&◌, ◌||◌, if◌then◌else◌, nat_lt, nat_le, Option, Some, None}
use Rattle.mau_terms.specs.Tree.{Tree, numeral, node}
use Rattle.mau_terms.specs.Norm.{greatest_numeral}
use Rattle.mau_terms.specs.Axioms.{binary}
use Rattle.mau_terms.specs.Bare.{TermSignature}
use Rattle.mau_terms.specs.declared.theory.Identity.{Identity}
use Rattle.mau_terms.specs.declared.theory.Identity.TheVariants.{Const}
use Rattle.mau_terms.specs.declared.theory.Theory.{Theory}
use Rattle.mau_evaluation.specs.Run.{Outcome}
use Rattle.mau_evaluation.specs.Program.{Fragment, Equation, Membership, Answer, value, no_value, too_large, BuiltIn, on_numerals, choice, equality, Program}
use Rattle.mau_evaluation.specs.Evaluation.{has_number, joined, eval}

-- ---- sorts: 0 Zero, 1 NzNat, 2 Nat, 3 Bool, 4 Up, 5 Pair, 6 Elt, 7 Lst; and the kinds 10 of Nat, 11 of Bool, 12 of Pair, 13 of Lst

abbrev pub kind_of : ℕ → ℕ
kind_of r =
    if nat_lt r 3 then 10 else
    if r == 3 then 11 else
    if nat_lt r 6 then 12 else
    if nat_lt r 8 then 13 else
    r

-- subsorts Zero NzNat < Nat . subsort Up < Pair . subsort Elt < Lst .
abbrev pub above : ℕ → List ℕ
above r =
    if nat_lt r 2 then r ∷ 2 ∷ 10 ∷ [] else
    if r == 4 then 4 ∷ 5 ∷ 12 ∷ [] else
    if r == 6 then 6 ∷ 7 ∷ 13 ∷ [] else
    if nat_lt r 8 then r ∷ kind_of r ∷ [] else
    r ∷ []

-- ---- operators, by number

abbrev pub free : Theory
free = record { assoc = false; comm = false; id = None; succ = false }

abbrev pub constant : ℕ → Identity
constant c = Const (record { 0 = c })

-- an operator: its axioms, its strategy with the arguments numbered from 0, and its declarations, each with the sorts of the arguments and of the result
pub record Op : Type 0 where
  pub axioms : Theory
  pub strategy : List ℕ
  pub declarations : List (List ℕ × ℕ)

-- all arguments from left to right
abbrev pub all_of : List ℕ → List ℕ
all_of [] = []
all_of (r ∷ []) = 0 ∷ []
all_of (r ∷ rs) = 0 ∷ 1 ∷ []

abbrev pub op : List ℕ → ℕ → Op
op args result = record { axioms = free; strategy = all_of args; declarations = (args, result) ∷ [] }

abbrev pub operators : List Op
operators =
    -- 0 is none
    op [] 13 ∷
    -- 1: s_ : Nat -> NzNat
    record (op (2 ∷ []) 1) { axioms = record free { succ = true } } ∷
    -- 2: _+_ : Nat Nat -> Nat [assoc comm], NzNat Nat -> NzNat
    record (op (2 ∷ 2 ∷ []) 2) { axioms = record free { assoc = true; comm = true }; declarations = (2 ∷ 2 ∷ [], 2) ∷ (1 ∷ 2 ∷ [], 1) ∷ [] } ∷
    -- 3: _*_ : Nat Nat -> Nat [assoc comm], NzNat NzNat -> NzNat
    record (op (2 ∷ 2 ∷ []) 2) { axioms = record free { assoc = true; comm = true }; declarations = (2 ∷ 2 ∷ [], 2) ∷ (1 ∷ 1 ∷ [], 1) ∷ [] } ∷
    -- 4: _! : Nat -> NzNat
    op (2 ∷ []) 1 ∷
    -- 5 and 6: _<=_ _<_ : Nat Nat -> Bool
    op (2 ∷ 2 ∷ []) 3 ∷
    op (2 ∷ 2 ∷ []) 3 ∷
    -- 7 and 8: true false : -> Bool
    op [] 3 ∷
    op [] 3 ∷
    -- 9: big : Nat Nat -> Nat
    op (2 ∷ 2 ∷ []) 2 ∷
    -- 10: pair : Nat Nat -> Pair
    op (2 ∷ 2 ∷ []) 5 ∷
    -- 11: __ : Lst Lst -> Lst [assoc]
    record (op (7 ∷ 7 ∷ []) 7) { axioms = record free { assoc = true } } ∷
    -- 12: last : Lst -> Elt
    op (7 ∷ []) 6 ∷
    -- 13 to 17: a b c d l : -> Elt
    op [] 6 ∷
    op [] 6 ∷
    op [] 6 ∷
    op [] 6 ∷
    op [] 6 ∷
    -- 18: g : Lst -> Lst
    op (7 ∷ []) 7 ∷
    -- 19: lazy : Nat Nat -> Nat [strat (1 0)]
    record (op (2 ∷ 2 ∷ []) 2) { strategy = 0 ∷ [] } ∷
    -- 20: set : Lst Lst -> Lst [assoc comm id: none]
    record (op (7 ∷ 7 ∷ []) 7) { axioms = record { assoc = true; comm = true; id = Some (constant 21); succ = false } } ∷
    -- 21: none : -> Lst
    op [] 7 ∷
    -- 22: k : Lst Lst -> Lst [id: nil]
    record (op (7 ∷ 7 ∷ []) 7) { axioms = record free { id = Some (constant 23) } } ∷
    -- 23: nil : -> Lst
    op [] 7 ∷
    -- 24: m : Lst Lst -> Lst [comm strat (1 0)]
    record (op (7 ∷ 7 ∷ []) 7) { axioms = record free { comm = true }; strategy = 0 ∷ [] } ∷
    -- 25: if_then_else_fi : Bool Lst Lst -> Lst [strat (1 0)]
    record (op (3 ∷ 7 ∷ 7 ∷ []) 7) { strategy = 0 ∷ [] } ∷
    -- 26: _==_ : Lst Lst -> Bool
    op (7 ∷ 7 ∷ []) 3 ∷
    -- 27: _-_ : Nat Nat -> Nat [assoc]
    record (op (2 ∷ 2 ∷ []) 2) { axioms = record free { assoc = true } } ∷
    -- 28: still : Lst Lst -> Lst [assoc strat (0)]
    record (op (7 ∷ 7 ∷ []) 7) { axioms = record free { assoc = true }; strategy = [] } ∷
    []

abbrev pub nth : List Op → ℕ → Op
nth [] n = op [] 13
nth (o ∷ os) zero = o
nth (o ∷ os) (suc n) = nth os n

abbrev pub at_number : ℕ → Op
at_number f = nth operators f

abbrev pub first_declaration : List (List ℕ × ℕ) → List ℕ × ℕ
first_declaration [] = ([], 13)
first_declaration (d ∷ ds) = d

abbrev pub signature : TermSignature
signature = record {
  theory = λ f. (at_number f).axioms;
  has_operator = λ f. nat_lt 0 f && nat_lt f 29;
  arguments = λ f. map kind_of ((first_declaration (at_number f).declarations).0);
  result = λ f. kind_of ((first_declaration (at_number f).declarations).1);
  has_sort = λ r. nat_lt r 14;
  kind_of = kind_of;
  numerals = Some 10;
}

-- ---- what declarations give

abbrev pub have_these : List (List ℕ) → List ℕ → Bool
have_these [] [] = true
have_these [] (r ∷ rs) = false
have_these (ss ∷ sorts) [] = false
have_these (ss ∷ sorts) (r ∷ rs) = has_number ss r && have_these sorts rs

abbrev pub swapped : List ℕ → List ℕ
swapped (a ∷ b ∷ []) = b ∷ a ∷ []
swapped rs = rs

abbrev pub given_by : Op → List (List ℕ) → List ℕ
given_by o sorts = joined (map (λ d. if have_these sorts d.0 || (o.axioms.comm && have_these sorts (swapped d.0)) then above d.1 else []) o.declarations) ++ kind_of ((first_declaration o.declarations).1) ∷ []

abbrev pub of_list : Op → List (List ℕ) → List ℕ
of_list o [] = []
of_list o (ss ∷ []) = ss
of_list o (ss ∷ rs ∷ sorts) = given_by o (ss ∷ of_list o (rs ∷ sorts) ∷ [])

abbrev pub declared : ℕ → List (List ℕ) → List ℕ
declared f sorts = let o = at_number f in if o.axioms.assoc then of_list o sorts else given_by o sorts

-- ---- built-ins

-- a number, where it is a numeral
abbrev pub number : ℕ → Answer
number n = if nat_le n greatest_numeral then value (numeral n) else too_large

abbrev pub yes : Tree
yes = node 7 []

abbrev pub no : Tree
no = node 8 []

abbrev pub truth : Bool → Answer
truth b = value (if b then yes else no)

abbrev pub built_in : ℕ → Option BuiltIn
built_in f =
    if f == 2 then Some (on_numerals (λ m n. number (m + n))) else
    if f == 3 then Some (on_numerals (λ m n. number (m * n))) else
    if f == 5 then Some (on_numerals (λ m n. truth (nat_le m n))) else
    if f == 6 then Some (on_numerals (λ m n. truth (nat_lt m n))) else
    if f == 25 then Some (choice yes no) else
    if f == 26 then Some (equality yes no) else
    if f == 27 then Some (on_numerals (λ m n. if nat_le n m then value (numeral (m - n)) else no_value)) else
    None

abbrev pub program : List Equation → List Membership → Program
program es ms = record {
  sign = signature;
  above = above;
  numeral_sorts = λ n. if n == 0 then above 0 else above 1;
  declared = declared;
  equations = es;
  memberships = ms;
  rules = [];
  strat = λ f. (at_number f).strategy;
  frozen = λ f i. false;
  built_in = built_in;
  units = node 21 [] ∷ node 23 [] ∷ [];
}

-- ---- statements and terms

abbrev pub eq : Tree → Tree → Equation
eq l r = record { left = l; right = r; cond = []; owise = false; exec = true }

abbrev pub ceq : Tree → Tree → List Fragment → Equation
ceq l r c = record (eq l r) { cond = c }

abbrev pub owise : Tree → Tree → Equation
owise l r = record (eq l r) { owise = true }

abbrev pub cmb : Tree → ℕ → List Fragment → Membership
cmb l r c = record { left = l; sort = r; cond = c; exec = true }

abbrev pub sum : Tree → Tree → Tree
sum = binary 2

abbrev pub a : Tree
a = node 13 []

abbrev pub b : Tree
b = node 14 []

abbrev pub c : Tree
c = node 15 []

abbrev pub d : Tree
d = node 16 []

abbrev pub l : Tree
l = node 17 []

abbrev pub g : Tree → Tree
g t = node 18 (t ∷ [])

-- the command `reduce t .`: 2,000 levels, and the limit 1,000,000 both for the item and for each condition of a membership
abbrev pub reduce : Program → Tree → Outcome Tree
reduce P t = eval P 2000 1000000 t 1000000
