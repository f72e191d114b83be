-- What the modules of truth values declare. Each row stands below its line of the text.
use Rattle.std.specs.Prelude.{List, [], ◌∷◌, true, Some, codes}
use Rattle.mau_signature.specs.Attributes.{no_attributes}
use Rattle.mau_signature.specs.declared.attributes.Gather.TheVariants.{Upto, Below}
use Rattle.mau_signature.specs.declared.decl.Decl.{Decl}
use Rattle.mau_grammar.specs.declared.aliases.Alias.{Alias}
use Rattle.mau_program.specs.declared.statements.Equation.{Equation}
use Rattle.mau_prelude.specs.Rows.{bool, word_form, prefix_form, infix_form, declare, declare_variable, a, b, c, true_term, false_term, and, or, xor, not, implies, of_a, of_ab, of_abc, equation}

abbrev pub constants : List Decl
constants =
    -- ops true false : -> Bool [ctor] .
    declare (word_form (codes "true")) [] bool no_attributes
    ∷ declare (word_form (codes "false")) [] bool no_attributes
    ∷ []

abbrev pub connectives : List Decl
connectives =
    -- op _and_ : Bool Bool -> Bool [assoc comm prec 55] .
    declare (infix_form (codes "and")) (bool ∷ bool ∷ []) bool (record no_attributes { assoc = true; comm = true; prec = Some 55 })
    -- op _or_ : Bool Bool -> Bool [assoc comm prec 59] .
    ∷ declare (infix_form (codes "or")) (bool ∷ bool ∷ []) bool (record no_attributes { assoc = true; comm = true; prec = Some 59 })
    -- op _xor_ : Bool Bool -> Bool [assoc comm prec 57] .
    ∷ declare (infix_form (codes "xor")) (bool ∷ bool ∷ []) bool (record no_attributes { assoc = true; comm = true; prec = Some 57 })
    -- op not_ : Bool -> Bool [prec 53] .
    ∷ declare (prefix_form (codes "not")) (bool ∷ []) bool (record no_attributes { prec = Some 53 })
    -- op _implies_ : Bool Bool -> Bool [prec 61 gather (e E)] .
    ∷ declare (infix_form (codes "implies")) (bool ∷ bool ∷ []) bool (record no_attributes { prec = Some 61; gather = Some (Below ∷ Upto ∷ []) })
    ∷ []

abbrev pub variables : List Alias
variables =
    -- vars A B C : Bool .
    declare_variable (codes "A") bool
    ∷ declare_variable (codes "B") bool
    ∷ declare_variable (codes "C") bool
    ∷ []

-- An operator binds its arguments by its precedence, and xor, which is associative, nests to the right.
abbrev pub equations_of_and_and_xor : List Equation
equations_of_and_and_xor =
    -- eq true and A = A .
    equation of_a (and true_term a) a
    -- eq false and A = false .
    ∷ equation of_a (and false_term a) false_term
    -- eq A and A = A .
    ∷ equation of_a (and a a) a
    -- eq false xor A = A .
    ∷ equation of_a (xor false_term a) a
    -- eq A xor A = false .
    ∷ equation of_a (xor a a) false_term
    ∷ []

abbrev pub equations_that_reduce_to_xor : List Equation
equations_that_reduce_to_xor =
    -- eq A and (B xor C) = A and B xor A and C .
    equation of_abc (and a (xor b c)) (xor (and a b) (and a c))
    -- eq not A = A xor true .
    ∷ equation of_a (not a) (xor a true_term)
    -- eq A or B = A and B xor A xor B .
    ∷ equation of_ab (or a b) (xor (and a b) (xor a b))
    -- eq A implies B = not (A xor A and B) .
    ∷ equation of_ab (implies a b) (not (xor a (and a b)))
    ∷ []
