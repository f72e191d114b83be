-- Computed facts about what is built in. A module with the sort S, constants true, false, a and b of it, and an operator on two of S that compares them.
use Rattle.std.proofs.Common.{◌≡◌, ℕ, List, [], ◌∷◌, true, false, Option, Some, None, refl, sym, ap, ◌∙◌, arith, lit<, lit≤}
use Rattle.std.specs.Prelude.{codes}
use Rattle.std.proofs.lemmas.List.Elements.{All-nil, All-cons}
use Rattle.mau_poset.specs.Order.{kind_of, first_sort, kinds_before}
use Rattle.mau_terms.specs.Tree.{Tree, variable, apply, no_trees, tree}
use Rattle.mau_terms.specs.Bare.{IsBareIn, same_term}
use Rattle.mau_signature.specs.Attributes.{no_attributes}
use Rattle.mau_signature.specs.declared.decl.Decl.{Decl}
use Rattle.mau_signature.specs.declared.form.Piece.TheVariants.{Word, Hole}
use Rattle.mau_signature.specs.Signature.{SignatureOf, terms_over, theory_at, signature_of}
use Rattle.mau_evaluation.specs.Program.{Answer, no_value, value}
use Rattle.mau_program.specs.declared.program.Program.{Program}
use Rattle.mau_facts.specs.declared.document.Fact.{Fact}
use Rattle.mau_facts.specs.declared.document.Fact.TheVariants.{Built}
use Rattle.mau_api.specs.BuiltIns.{built_answer}
use Rattle.mau_api.specs.Terms.{IsBareWithin, hole_index}
use Rattle.mau_logic.specs.Says.{Says, leads, all_said}
use Rattle.mau_logic.specs.Justified.{IsJustified}

abbrev constant : List ℕ → Decl
constant w = record { form = Word w ∷ []; args = []; result = 0; attrs = no_attributes }

abbrev equality_decl : Decl
equality_decl = record { form = Hole ∷ Word (codes "==") ∷ Hole ∷ []; args = 0 ∷ 0 ∷ []; result = 0; attrs = record no_attributes { builtin = Some (codes "same") } }

abbrev compared : SignatureOf
compared = signature_of (record { sorts = 1; pairs = [] }) (constant (codes "true") ∷ constant (codes "false") ∷ constant (codes "a") ∷ constant (codes "b") ∷ equality_decl ∷ []) None

abbrev module_b : Program
module_b = record { sig = compared; sorts = codes "S" ∷ []; equations = []; memberships = []; rules = []; strategies = [] }

abbrev yes : Tree
yes = apply 1 no_trees

abbrev no : Tree
no = apply 2 no_trees

abbrev a : Tree
a = apply 3 no_trees

abbrev b : Tree
b = apply 4 no_trees

abbrev is_equal : Tree → Tree → Tree
is_equal t u = apply 5 (tree t (tree u no_trees))

-- the kind of S has the number 1
abbrev the_hole : Tree
the_hole = variable hole_index 1

-- ---- what it gives

alike_give_true : built_answer compared [] 5 (a ∷ a ∷ []) ≡ value yes
unfolding kind_of first_sort kinds_before
alike_give_true = refl

others_give_false : built_answer compared [] 5 (a ∷ b ∷ []) ≡ value no
unfolding kind_of first_sort kinds_before
others_give_false = refl

-- an operator with nothing built in gives nothing
constants_give_nothing : built_answer compared [] 3 [] ≡ no_value
unfolding kind_of first_sort kinds_before
constants_give_nothing = refl

-- ---- its terms

bare_yes : IsBareIn (terms_over compared) yes 1
unfolding kind_of first_sort kinds_before
bare_yes = (refl, refl, tt)

bare_no : IsBareIn (terms_over compared) no 1
unfolding kind_of first_sort kinds_before
bare_no = (refl, refl, tt)

bare_a : IsBareIn (terms_over compared) a 1
unfolding kind_of first_sort kinds_before
bare_a = (refl, refl, tt)

bare_b : IsBareIn (terms_over compared) b 1
unfolding kind_of first_sort kinds_before
bare_b = (refl, refl, tt)

bare_hole : IsBareIn (terms_over compared) the_hole 1
unfolding kind_of first_sort kinds_before
bare_hole = (lit< tt, refl, refl)

bare_equal : (t u : Tree) → IsBareIn (terms_over compared) t 1 → IsBareIn (terms_over compared) u 1 → IsBareIn (terms_over compared) (is_equal t u) 1
unfolding kind_of first_sort kinds_before
bare_equal t u h k = (refl, refl, (h, (k, tt)))

-- ---- HOLE:[S], a, b, true, a == a, and a == b; the fact that a == a is true by what is built in is justified

abbrev terms : List (Option Tree)
terms = Some the_hole ∷ Some a ∷ Some b ∷ Some yes ∷ Some (is_equal a a) ∷ Some (is_equal a b) ∷ []

abbrev built : ℕ → ℕ → Fact
built from second = Built (record { op = 5; context = 1; from = from; to = 4; args = 2 ∷ second ∷ [] })

built_is : IsJustified module_b [] terms [] (built 5 2)
unfolding kind_of first_sort kinds_before
built_is = (
  ((1, bare_hole), record { shallow = lit≤ tt; no_overflow = refl }),
  (
    ((1, bare_equal a a bare_a bare_a), record { shallow = lit≤ tt; no_overflow = refl }),
    (
      ((1, bare_yes), record { shallow = lit≤ tt; no_overflow = refl }),
      (
        All-cons (IsBareWithin compared) a (a ∷ []) ((1, bare_a), record { shallow = lit≤ tt; no_overflow = refl })
            (All-cons (IsBareWithin compared) a [] ((1, bare_a), record { shallow = lit≤ tt; no_overflow = refl }) (All-nil (IsBareWithin compared))),
        record {
          operator = (lit< tt, lit≤ tt);
          whole = is_equal a a;
          over_arguments = refl;
          answer = yes;
          gives = alike_give_true;
          context = (1, bare_equal a a bare_a bare_a, refl);
          from = same_term (1, bare_equal a a bare_a bare_a);
          to = same_term (1, bare_yes);
        },
      ),
    ),
  ),
)

said_is : all_said terms (built 5 2 ∷ []) ≡ leads true (is_equal a a) yes ∷ []
said_is = refl

-- ---- altered facts, which are not

-- by an operator with nothing built in
nothing_is_not : IsJustified module_b [] terms [] (Built (record { op = 3; context = 1; from = 2; to = 4; args = [] })) → ⊥
unfolding kind_of first_sort kinds_before
nothing_is_not h = let u = h.1.1.1.1 in let e : no_value ≡ value u.answer = u.gives in cc

-- over one argument alone
one_argument_is_not : IsJustified module_b [] terms [] (Built (record { op = 5; context = 1; from = 5; to = 4; args = 2 ∷ [] })) → ⊥
unfolding kind_of first_sort kinds_before
one_argument_is_not h = let u = h.1.1.1.1 in let e : no_value ≡ value u.answer = u.gives in cc

-- true, where a and b are compared: what is given is false
other_answer : (h : IsJustified module_b [] terms [] (built 6 3)) → h.1.1.1.1.answer ≡ no
unfolding kind_of first_sort kinds_before
other_answer h = let e : value no ≡ value h.1.1.1.1.answer = sym others_give_false ∙ h.1.1.1.1.gives in cc
