-- What the module of numbers declares. Each row stands below its line of the text. A native operator has the name of its native function,
-- and the successor the word succ, as the attribute `builtin` of each of its declarations.
use Rattle.std.specs.Prelude.{ℕ, List, [], ◌∷◌, true, Some, codes}
use Rattle.mau_signature.specs.Attributes.{no_attributes}
use Rattle.mau_signature.specs.declared.attributes.Gather.TheVariants.{Upto, Below}
use Rattle.mau_signature.specs.declared.decl.Decl.{Decl}
use Rattle.mau_prelude.specs.Rows.{bool, zero_nat, nz_nat, nat, word_form, prefix_form, infix_form, declare}

-- subsorts Zero NzNat < Nat .
abbrev pub number_pairs : List (ℕ × ℕ)
number_pairs = (zero_nat, nat) ∷ (nz_nat, nat) ∷ []

abbrev pub sums : List Decl
sums =
    -- op s_ : Nat -> NzNat [ctor] .
    declare (prefix_form (codes "s")) (nat ∷ []) nz_nat (record no_attributes { builtin = Some (codes "succ") })
    -- op _+_ : NzNat Nat -> NzNat [assoc comm prec 33] .
    ∷ declare (infix_form (codes "+")) (nz_nat ∷ nat ∷ []) nz_nat (record no_attributes { assoc = true; comm = true; prec = Some 33; builtin = Some (codes "nat-add") })
    -- op _+_ : Nat Nat -> Nat .
    ∷ declare (infix_form (codes "+")) (nat ∷ nat ∷ []) nat (record no_attributes { builtin = Some (codes "nat-add") })
    -- op sd : Nat Nat -> Nat [comm] .
    ∷ declare (word_form (codes "sd")) (nat ∷ nat ∷ []) nat (record no_attributes { comm = true; builtin = Some (codes "nat-sd") })
    ∷ []

abbrev pub products : List Decl
products =
    -- op _*_ : NzNat NzNat -> NzNat [assoc comm prec 31] .
    declare (infix_form (codes "*")) (nz_nat ∷ nz_nat ∷ []) nz_nat (record no_attributes { assoc = true; comm = true; prec = Some 31; builtin = Some (codes "nat-mul") })
    -- op _*_ : Nat Nat -> Nat .
    ∷ declare (infix_form (codes "*")) (nat ∷ nat ∷ []) nat (record no_attributes { builtin = Some (codes "nat-mul") })
    -- op _quo_ : Nat NzNat -> Nat [prec 31 gather (E e)] .
    ∷ declare (infix_form (codes "quo")) (nat ∷ nz_nat ∷ []) nat (record no_attributes { prec = Some 31; gather = Some (Upto ∷ Below ∷ []); builtin = Some (codes "nat-quo") })
    -- op _rem_ : Nat NzNat -> Nat [prec 31 gather (E e)] .
    ∷ declare (infix_form (codes "rem")) (nat ∷ nz_nat ∷ []) nat (record no_attributes { prec = Some 31; gather = Some (Upto ∷ Below ∷ []); builtin = Some (codes "nat-rem") })
    -- op _^_ : NzNat Nat -> NzNat [prec 29 gather (E e)] .
    ∷ declare (infix_form (codes "^")) (nz_nat ∷ nat ∷ []) nz_nat (record no_attributes { prec = Some 29; gather = Some (Upto ∷ Below ∷ []); builtin = Some (codes "nat-pow") })
    -- op _^_ : Nat Nat -> Nat .
    ∷ declare (infix_form (codes "^")) (nat ∷ nat ∷ []) nat (record no_attributes { builtin = Some (codes "nat-pow") })
    ∷ []

abbrev pub choices : List Decl
choices =
    -- op gcd : NzNat Nat -> NzNat [assoc comm] .
    declare (word_form (codes "gcd")) (nz_nat ∷ nat ∷ []) nz_nat (record no_attributes { assoc = true; comm = true; builtin = Some (codes "nat-gcd") })
    -- op gcd : Nat Nat -> Nat .
    ∷ declare (word_form (codes "gcd")) (nat ∷ nat ∷ []) nat (record no_attributes { builtin = Some (codes "nat-gcd") })
    -- op min : NzNat NzNat -> NzNat [assoc comm] .
    ∷ declare (word_form (codes "min")) (nz_nat ∷ nz_nat ∷ []) nz_nat (record no_attributes { assoc = true; comm = true; builtin = Some (codes "nat-min") })
    -- op min : Nat Nat -> Nat .
    ∷ declare (word_form (codes "min")) (nat ∷ nat ∷ []) nat (record no_attributes { builtin = Some (codes "nat-min") })
    -- op max : NzNat Nat -> NzNat [assoc comm] .
    ∷ declare (word_form (codes "max")) (nz_nat ∷ nat ∷ []) nz_nat (record no_attributes { assoc = true; comm = true; builtin = Some (codes "nat-max") })
    -- op max : Nat Nat -> Nat .
    ∷ declare (word_form (codes "max")) (nat ∷ nat ∷ []) nat (record no_attributes { builtin = Some (codes "nat-max") })
    ∷ []

abbrev pub comparisons : List Decl
comparisons =
    -- ops _<_ _<=_ _>_ _>=_ : Nat Nat -> Bool [prec 37] .
    declare (infix_form (codes "<")) (nat ∷ nat ∷ []) bool (record no_attributes { prec = Some 37; builtin = Some (codes "nat-lt") })
    ∷ declare (infix_form (codes "<=")) (nat ∷ nat ∷ []) bool (record no_attributes { prec = Some 37; builtin = Some (codes "nat-le") })
    ∷ declare (infix_form (codes ">")) (nat ∷ nat ∷ []) bool (record no_attributes { prec = Some 37; builtin = Some (codes "nat-gt") })
    ∷ declare (infix_form (codes ">=")) (nat ∷ nat ∷ []) bool (record no_attributes { prec = Some 37; builtin = Some (codes "nat-ge") })
    ∷ []
