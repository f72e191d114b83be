-- What is built in: operators of the prelude's modules of truth values and of numbers. An operator that has something built in is declared as
-- the prelude declares it, and what the built-in takes and gives is there.
use Rattle.std.specs.Prelude.{◌≡◌, ℕ, suc, List, [], ◌∷◌, All, Some, bytes_eq, codes, position}
use Rattle.mau_poset.specs.Order.{kind_of}
use Rattle.mau_terms.specs.Tree.{apply, no_trees}
use Rattle.mau_terms.specs.Bare.{IsBareIn}
use Rattle.mau_terms.specs.Finite.{IsIn}
use Rattle.mau_signature.specs.declared.decl.Decl.{Decl}
use Rattle.mau_signature.specs.declared.form.Piece.{Piece}
use Rattle.mau_signature.specs.declared.form.Piece.TheVariants.{Hole, Word}
use Rattle.mau_signature.specs.Faults.{IsSort}
use Rattle.mau_signature.specs.Names.{constant_of, place_of}
use Rattle.mau_signature.specs.Signature.{SignatureOf, IsOperator, declarations_at, attributes_of, form_of, terms_over}

-- ---- how the prelude declares them

-- a sort by its name; or the kind for which the row stands, of which there is one for each kind
pub data Place : Type 0 where
  sort : List ℕ → Place
  kind : Place

-- the sorts of the arguments and that of the result
pub record Shape : Type 0 where
  pub args : List Place
  pub result : Place

-- an operator: the name of what it has built in, its form, and its declarations
pub record Row : Type 0 where
  pub name : List ℕ
  pub form : List Piece
  pub shapes : List Shape

abbrev pub row : List ℕ → List Piece → List Shape → Row
row name form shapes = record { name = name; form = form; shapes = shapes }

-- a word alone, a word before a hole, a word between two holes
abbrev pub word_form : List ℕ → List Piece
word_form w = Word w ∷ []

abbrev pub prefix_form : List ℕ → List Piece
prefix_form w = Word w ∷ Hole ∷ []

abbrev pub infix_form : List ℕ → List Piece
infix_form w = Hole ∷ Word w ∷ Hole ∷ []

abbrev pub bool : Place
bool = sort (codes "Bool")

abbrev pub nz_nat : Place
nz_nat = sort (codes "NzNat")

abbrev pub nat : Place
nat = sort (codes "Nat")

-- two arguments and a result
abbrev pub of_two : Place → Place → Place → Shape
of_two a b r = record { args = a ∷ b ∷ []; result = r }

-- those of truth values, for each kind K
abbrev pub truth_rows : List Row
truth_rows =
    -- if_then_else_fi : Bool K K -> K
    row (codes "branch") (Word (codes "if") ∷ Hole ∷ Word (codes "then") ∷ Hole ∷ Word (codes "else") ∷ Hole ∷ Word (codes "fi") ∷ [])
    (record { args = bool ∷ kind ∷ kind ∷ []; result = kind } ∷ [])
    -- _==_ and _=/=_ : K K -> Bool
    ∷ row (codes "same") (infix_form (codes "==")) (of_two kind kind bool ∷ [])
    ∷ row (codes "differ") (infix_form (codes "=/=")) (of_two kind kind bool ∷ [])
    ∷ []

-- those of numbers
abbrev pub number_rows : List Row
number_rows =
    row (codes "succ") (prefix_form (codes "s")) (record { args = nat ∷ []; result = nz_nat } ∷ [])
    ∷ row (codes "nat-add") (infix_form (codes "+")) (of_two nz_nat nat nz_nat ∷ of_two nat nat nat ∷ [])
    ∷ row (codes "nat-sd") (word_form (codes "sd")) (of_two nat nat nat ∷ [])
    ∷ row (codes "nat-mul") (infix_form (codes "*")) (of_two nz_nat nz_nat nz_nat ∷ of_two nat nat nat ∷ [])
    ∷ row (codes "nat-quo") (infix_form (codes "quo")) (of_two nat nz_nat nat ∷ [])
    ∷ row (codes "nat-rem") (infix_form (codes "rem")) (of_two nat nz_nat nat ∷ [])
    ∷ row (codes "nat-pow") (infix_form (codes "^")) (of_two nz_nat nat nz_nat ∷ of_two nat nat nat ∷ [])
    ∷ row (codes "nat-gcd") (word_form (codes "gcd")) (of_two nz_nat nat nz_nat ∷ of_two nat nat nat ∷ [])
    ∷ row (codes "nat-min") (word_form (codes "min")) (of_two nz_nat nz_nat nz_nat ∷ of_two nat nat nat ∷ [])
    ∷ row (codes "nat-max") (word_form (codes "max")) (of_two nz_nat nat nz_nat ∷ of_two nat nat nat ∷ [])
    ∷ row (codes "nat-lt") (infix_form (codes "<")) (of_two nat nat bool ∷ [])
    ∷ row (codes "nat-le") (infix_form (codes "<=")) (of_two nat nat bool ∷ [])
    ∷ row (codes "nat-gt") (infix_form (codes ">")) (of_two nat nat bool ∷ [])
    ∷ row (codes "nat-ge") (infix_form (codes ">=")) (of_two nat nat bool ∷ [])
    ∷ []

-- ---- an operator is declared by a row

-- the sort a is the first one of these names that is x
abbrev pub IsNamed : List (List ℕ) → List ℕ → ℕ → Type 0
IsNamed names x a = position (bytes_eq x) names ≡ Some a

-- a is the sort, or the kind k, that stands in a place
abbrev pub IsAt : List (List ℕ) → ℕ → Place → ℕ → Type 0
IsAt names k (sort x) a = IsNamed names x a
IsAt names k kind a = a ≡ k

abbrev pub AreAt : List (List ℕ) → ℕ → List Place → List ℕ → Type 0
AreAt names k [] [] = Unit {0}
AreAt names k [] (a ∷ as_) = ⊥
AreAt names k (p ∷ ps) [] = ⊥
AreAt names k (p ∷ ps) (a ∷ as_) = IsAt names k p a × AreAt names k ps as_

-- one of the declarations has a shape
pub record HasShape (names : List (List ℕ)) (k : ℕ) (ds : List Decl) (shape : Shape) : Type 0 where
  pub declaration : Decl
  pub declared : IsIn declaration ds
  pub args : AreAt names k shape.args declaration.args
  pub result : IsAt names k shape.result declaration.result

-- the operator f has the form and the declarations of a row, for some kind
pub record IsDeclaredBy (names : List (List ℕ)) (s : SignatureOf) (f : ℕ) (r : Row) : Type 0 where
  pub form : form_of (declarations_at s f) ≡ r.form
  pub for_kind : ℕ
  pub there : IsSort s.hierarchy for_kind
  pub is_kind : kind_of s.hierarchy for_kind ≡ for_kind
  pub shapes : All (HasShape names for_kind (declarations_at s f)) r.shapes

-- ---- what built-ins take and give

-- the one word is a constant in the kind k
pub record IsConstantIn (s : SignatureOf) (word : List ℕ) (k : ℕ) : Type 0 where
  pub place : ℕ
  pub found : place_of s.names (constant_of (Word word ∷ []) k) ≡ Some place
  pub bare : IsBareIn (terms_over s) (apply (suc place) no_trees) k

-- truth values: the sort Bool, with true and false in its kind
pub record HasTruth (names : List (List ℕ)) (s : SignatureOf) : Type 0 where
  pub bool : ℕ
  pub named : IsNamed names (codes "Bool") bool
  pub yes : IsConstantIn s (codes "true") (kind_of s.hierarchy bool)
  pub no : IsConstantIn s (codes "false") (kind_of s.hierarchy bool)

-- numbers: the sorts Nat and NzNat in one kind, which is that of the numerals
pub record HasNumbers (names : List (List ℕ)) (s : SignatureOf) : Type 0 where
  pub nat : ℕ
  pub named : IsNamed names (codes "Nat") nat
  pub nz_nat : ℕ
  pub nz_named : IsNamed names (codes "NzNat") nz_nat
  pub one_kind : kind_of s.hierarchy nz_nat ≡ kind_of s.hierarchy nat
  pub numerals : (terms_over s).numerals ≡ Some (kind_of s.hierarchy nat)

-- ---- what an operator has built in under a name

pub data HasBuiltIn (names : List (List ℕ)) (s : SignatureOf) (f : ℕ) : List ℕ → Type 0 where
  of_truth_values : (r : Row) → IsIn r truth_rows → IsDeclaredBy names s f r → HasTruth names s → HasBuiltIn names s f r.name
  of_numbers : (r : Row) → IsIn r number_rows → IsDeclaredBy names s f r → HasTruth names s → HasNumbers names s → HasBuiltIn names s f r.name

-- so it is for each operator that has something built in
abbrev pub AreBuiltIn : List (List ℕ) → SignatureOf → Type 0
AreBuiltIn names s = (f : ℕ) (name : List ℕ) → IsOperator s f → (attributes_of (declarations_at s f)).builtin ≡ Some name → HasBuiltIn names s f name
