-- The signature of the examples: one kind, operators with all axioms, and numerals. It is lawful.
use Rattle.std.proofs.Common.{◌≡◌, ℕ, List, [], ◌∷◌, Bool, true, false, ◌==◌, if◌then◌else◌, nat_lt, Some, None, refl, subst, lit≤}
use Rattle.mau_terms.specs.Tree.{Tree, variable, node}
use Rattle.mau_terms.specs.Norm.{unit_tree}
use Rattle.mau_terms.specs.Axioms.{binary}
use Rattle.mau_terms.specs.Bare.{TermSignature, IsBareIn, IsLawful}
use Rattle.mau_terms.specs.declared.theory.Identity.{Identity}
use Rattle.mau_terms.specs.declared.theory.Identity.TheVariants.{Const, Num}
use Rattle.mau_terms.specs.declared.theory.Theory.{Theory}

abbrev pub constant : ℕ → Identity
constant c = Const (record { 0 = c })

-- no axiom
abbrev pub plain : Theory
plain = record { assoc = false; comm = false; id = None; succ = false }

-- ---- the operators: 0 s, 1 __, 6 k, 8 f, 9 h, 10 g, 11 p, 12 m, and the constants 2 none, 3 a, 4 b, 5 c, 7 nil

-- the successor
abbrev pub s_axioms : Theory
s_axioms = record plain { succ = true }

-- assoc comm id: none, written as a space in the comments below
abbrev pub set_axioms : Theory
set_axioms = record { assoc = true; comm = true; id = Some (constant 2); succ = false }

-- id: nil
abbrev pub k_axioms : Theory
k_axioms = record plain { id = Some (constant 7) }

-- assoc
abbrev pub f_axioms : Theory
f_axioms = record plain { assoc = true }

-- comm
abbrev pub h_axioms : Theory
h_axioms = record plain { comm = true }

-- assoc id: 0
abbrev pub p_axioms : Theory
p_axioms = record { assoc = true; comm = false; id = Some (Num 0); succ = false }

-- comm id: none
abbrev pub m_axioms : Theory
m_axioms = record { assoc = false; comm = true; id = Some (constant 2); succ = false }

abbrev pub theory : ℕ → Theory
theory f =
    if f == 0 then s_axioms else
    if f == 1 then set_axioms else
    if f == 6 then k_axioms else
    if f == 8 then f_axioms else
    if f == 9 then h_axioms else
    if f == 11 then p_axioms else
    if f == 12 then m_axioms else
    plain

-- the one kind has the number 2; the sorts are 0 and 1
abbrev pub arguments : ℕ → List ℕ
arguments f =
    if f == 0 then 2 ∷ [] else
    if f == 1 then 2 ∷ 2 ∷ [] else
    if f == 6 then 2 ∷ 2 ∷ [] else
    if f == 8 then 2 ∷ 2 ∷ [] else
    if f == 9 then 2 ∷ 2 ∷ [] else
    if f == 11 then 2 ∷ 2 ∷ [] else
    if f == 12 then 2 ∷ 2 ∷ [] else
    if f == 10 then 2 ∷ 2 ∷ [] else
    []

abbrev pub signature : TermSignature
signature = record {
  theory = theory;
  has_operator = λ f. nat_lt f 13;
  arguments = arguments;
  result = λ f. 2;
  has_sort = λ r. nat_lt r 3;
  kind_of = λ r. 2;
  numerals = Some 2;
}

-- ---- its terms

abbrev pub none : Tree
none = node 2 []

abbrev pub a : Tree
a = node 3 []

abbrev pub b : Tree
b = node 4 []

abbrev pub c : Tree
c = node 5 []

abbrev pub nil : Tree
nil = node 7 []

abbrev pub s : Tree → Tree
s t = node 0 (t ∷ [])

abbrev pub set : Tree → Tree → Tree
set = binary 1

abbrev pub k : Tree → Tree → Tree
k = binary 6

abbrev pub f : Tree → Tree → Tree
f = binary 8

abbrev pub h : Tree → Tree → Tree
h = binary 9

abbrev pub g : Tree → Tree → Tree
g = binary 10

abbrev pub p : Tree → Tree → Tree
p = binary 11

abbrev pub m : Tree → Tree → Tree
m = binary 12

-- variables of the sort 1
abbrev pub X : Tree
X = variable 0 1

abbrev pub Y : Tree
Y = variable 1 1

abbrev pub Z : Tree
Z = variable 2 1

-- ---- it is lawful

-- what holds of each operator's axioms and arguments, by cases
each : (P : Theory → List ℕ → Type 0) → P s_axioms (2 ∷ []) → P set_axioms (2 ∷ 2 ∷ []) → P k_axioms (2 ∷ 2 ∷ []) → P f_axioms (2 ∷ 2 ∷ []) → P h_axioms (2 ∷ 2 ∷ []) → P p_axioms (2 ∷ 2 ∷ []) → P m_axioms (2 ∷ 2 ∷ []) → P plain (2 ∷ 2 ∷ []) → P plain [] → (o : ℕ) → P (theory o) (arguments o)
each P ps pset pk pf ph pp pm pg pc o = by (o == 0) (o == 1) (o == 6) (o == 8) (o == 9) (o == 11) (o == 12) (o == 10)
  where
    by : (o0 o1 o6 o8 o9 o11 o12 o10 : Bool) → P
        (if o0 then s_axioms else if o1 then set_axioms else if o6 then k_axioms else if o8 then f_axioms else if o9 then h_axioms else if o11 then p_axioms else if o12 then m_axioms else plain)
        (if o0 then 2 ∷ [] else if o1 then 2 ∷ 2 ∷ [] else if o6 then 2 ∷ 2 ∷ [] else if o8 then 2 ∷ 2 ∷ [] else if o9 then 2 ∷ 2 ∷ [] else if o11 then 2 ∷ 2 ∷ [] else if o12 then 2 ∷ 2 ∷ [] else if o10 then 2 ∷ 2 ∷ [] else [])
    by true o1 o6 o8 o9 o11 o12 o10 = ps
    by false true o6 o8 o9 o11 o12 o10 = pset
    by false false true o8 o9 o11 o12 o10 = pk
    by false false false true o9 o11 o12 o10 = pf
    by false false false false true o11 o12 o10 = ph
    by false false false false false true o12 o10 = pp
    by false false false false false false true o10 = pm
    by false false false false false false false true = pg
    by false false false false false false false false = pc

abbrev HasNone : Identity → Type 0
HasNone (Const o) = (theory o.0).id ≡ None
HasNone (Num n) = Unit {0}

-- an identity that is a constant has none itself
none_of : (i j : Identity) → Some i ≡ Some j → HasNone i → HasNone j
none_of i j e n = let same : i ≡ j = cc in subst HasNone same n

bare_unit : (i j : Identity) → Some i ≡ Some j → IsBareIn signature (unit_tree i) 2 → IsBareIn signature (unit_tree j) 2
bare_unit i j e n = let same : i ≡ j = cc in subst (λ v. IsBareIn signature (unit_tree v) 2) same n

pub lawful : IsLawful signature
lawful = record {
  theories = record {
    succ_assoc = each (λ q ks. q.succ ≡ true → q.assoc ≡ false) (λ e. refl) (λ e. cc) (λ e. refl) (λ e. cc) (λ e. refl) (λ e. cc) (λ e. refl) (λ e. refl) (λ e. refl);
    succ_comm = each (λ q ks. q.succ ≡ true → q.comm ≡ false) (λ e. refl) (λ e. cc) (λ e. refl) (λ e. refl) (λ e. cc) (λ e. refl) (λ e. cc) (λ e. refl) (λ e. refl);
    succ_id = each (λ q ks. q.succ ≡ true → q.id ≡ None) (λ e. refl) (λ e. cc) (λ e. cc) (λ e. refl) (λ e. refl) (λ e. cc) (λ e. cc) (λ e. refl) (λ e. refl);
    plain_unit = λ o i. each (λ q ks. q.id ≡ Some (Const i) → HasNone (Const i)) (λ e. cc) (λ e. none_of (constant 2) (Const i) e refl) (λ e. none_of (constant 7) (Const i) e refl) (λ e. cc) (λ e. cc) (λ e. cc) (λ e. none_of (constant 2) (Const i) e refl) (λ e. cc) (λ e. cc) o;
  };
  assoc_kinds = each (λ q ks. q.assoc ≡ true → ks ≡ 2 ∷ 2 ∷ []) (λ e. cc) (λ e. refl) (λ e. refl) (λ e. refl) (λ e. refl) (λ e. refl) (λ e. refl) (λ e. refl) (λ e. cc);
  comm_kinds = each (λ q ks. q.comm ≡ true → (n : ℕ) × (ks ≡ n ∷ n ∷ [])) (λ e. cc) (λ e. (2, refl)) (λ e. (2, refl)) (λ e. (2, refl)) (λ e. (2, refl)) (λ e. (2, refl)) (λ e. (2, refl)) (λ e. (2, refl)) (λ e. cc);
  unit_kinds = λ o i. each (λ q ks. q.id ≡ Some i → (ks ≡ 2 ∷ 2 ∷ []) × IsBareIn signature (unit_tree i) 2)
      (λ e. cc)
      (λ e. (refl, bare_unit (constant 2) i e (refl, refl, tt)))
      (λ e. (refl, bare_unit (constant 7) i e (refl, refl, tt)))
      (λ e. cc)
      (λ e. cc)
      (λ e. (refl, bare_unit (Num 0) i e (lit≤ tt, refl)))
      (λ e. (refl, bare_unit (constant 2) i e (refl, refl, tt)))
      (λ e. cc)
      (λ e. cc)
      o;
  succ_kinds = each (λ q ks. q.succ ≡ true → (ks ≡ 2 ∷ []) × (signature.numerals ≡ Some 2)) (λ e. (refl, refl)) (λ e. cc) (λ e. cc) (λ e. cc) (λ e. cc) (λ e. cc) (λ e. cc) (λ e. cc) (λ e. cc);
}
