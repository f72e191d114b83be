-- How the rows of the tables are written: sorts, declarations, and equations of truth values.
use Rattle.std.specs.Prelude.{ℕ, List, [], ◌∷◌, true, false, codes}
use Rattle.mau_terms.specs.Tree.{Tree, variable, numeral, apply, node, list_of}
use Rattle.mau_terms.specs.declared.bare.Bare.{Bare}
use Rattle.mau_terms.specs.declared.bare.Bare.TheVariants.{Var, Num, App}
use Rattle.mau_signature.specs.declared.attributes.Attrs.{Attrs}
use Rattle.mau_signature.specs.declared.decl.Decl.{Decl}
use Rattle.mau_signature.specs.declared.form.Piece.{Piece}
use Rattle.mau_signature.specs.declared.form.Piece.TheVariants.{Hole, Word}
use Rattle.mau_grammar.specs.declared.aliases.Alias.{Alias}
use Rattle.mau_program.specs.declared.statements.Equation.{Equation}

-- ---- sorts, by their numbers in the whole module

abbrev pub bool : ℕ
bool = 0

abbrev pub zero_nat : ℕ
zero_nat = 1

abbrev pub nz_nat : ℕ
nz_nat = 2

abbrev pub nat : ℕ
nat = 3

-- ---- declarations

-- a word alone
abbrev pub word_form : List ℕ → List Piece
word_form w = Word w ∷ []

-- a word before a hole
abbrev pub prefix_form : List ℕ → List Piece
prefix_form w = Word w ∷ Hole ∷ []

-- a word between two holes
abbrev pub infix_form : List ℕ → List Piece
infix_form w = Hole ∷ Word w ∷ Hole ∷ []

-- a form, the sorts of the arguments, the sort of the result, attributes
abbrev pub declare : List Piece → List ℕ → ℕ → Attrs → Decl
declare form args sort attrs = record { form = form; args = args; result = sort; attrs = attrs }

-- a declared variable: its name and its sort
abbrev pub declare_variable : List ℕ → ℕ → Alias
declare_variable name sort = record { name = name; sort = sort }

-- ---- terms of truth values

-- the variables A, B and C, each numbered where it comes first in its equation
abbrev pub a : Tree
a = variable 0 bool

abbrev pub b : Tree
b = variable 1 bool

abbrev pub c : Tree
c = variable 2 bool

-- the operators, numbered in the order of their declarations from 1
abbrev pub true_term : Tree
true_term = node 1 []

abbrev pub false_term : Tree
false_term = node 2 []

abbrev pub and : Tree → Tree → Tree
and t u = node 3 (t ∷ u ∷ [])

abbrev pub or : Tree → Tree → Tree
or t u = node 4 (t ∷ u ∷ [])

abbrev pub xor : Tree → Tree → Tree
xor t u = node 5 (t ∷ u ∷ [])

abbrev pub not : Tree → Tree
not t = node 6 (t ∷ [])

abbrev pub implies : Tree → Tree → Tree
implies t u = node 7 (t ∷ u ∷ [])

-- ---- equations

-- the term with a tree
abbrev pub bare_of : Tree → Bare
bare_of (variable i s) = Var (record { index = i; sort = s })
bare_of (numeral n) = Num n
bare_of (apply f ts) = App (record { 0 = f }) (list_of ts)

-- the variables of an equation, as they are written, each with its sort
abbrev pub of_a : List (List ℕ × ℕ)
of_a = (codes "A", bool) ∷ []

abbrev pub of_ab : List (List ℕ × ℕ)
of_ab = (codes "A", bool) ∷ (codes "B", bool) ∷ []

abbrev pub of_abc : List (List ℕ × ℕ)
of_abc = (codes "A", bool) ∷ (codes "B", bool) ∷ (codes "C", bool) ∷ []

-- an equation without a condition and without attributes, with its variables
abbrev pub equation : List (List ℕ × ℕ) → Tree → Tree → Equation
equation vars left right = record { left = bare_of left; right = bare_of right; cond = []; owise = false; exec = true; vars = vars }
