-- Computed facts about conditions, rules and memberships. A module with sorts S and T, of which T is a subsort of S, constants a and b of S, an operator g on S,
-- the equation g(X:S) = X if X = b, the membership g(a) : T and the rule b => a.
use Rattle.std.proofs.Common.{◌≡◌, ℕ, zero, suc, List, [], ◌∷◌, true, false, Option, Some, None, inl, inr, refl, sym, ap, subst, arith, lit<, lit≤}
use Rattle.std.specs.Prelude.{Contains, codes}
use Rattle.std.proofs.lemmas.List.Elements.{All-nil, All-cons}
use Rattle.mau_poset.specs.Order.{Chain, Leads, kind_of, first_sort, kinds_before, no_step, step, IsAtOrBelow}
use Rattle.mau_terms.specs.Tree.{Tree, variable, apply, no_trees, tree}
use Rattle.mau_terms.specs.Bare.{IsBareIn, same_term}
use Rattle.mau_terms.specs.declared.bare.Bare.{Bare}
use Rattle.mau_terms.specs.declared.bare.Bare.TheVariants.{Var as Variable, App as Over}
use Rattle.mau_signature.specs.Attributes.{no_attributes}
use Rattle.mau_signature.specs.declared.decl.Decl.{Decl}
use Rattle.mau_signature.specs.declared.form.Piece.TheVariants.{Word, Hole}
use Rattle.mau_signature.specs.Signature.{SignatureOf, terms_over}
use Rattle.mau_sorts.specs.HasSort.{HasSort}
use Rattle.mau_program.specs.declared.statements.Fragment.TheVariants.{Equal}
use Rattle.mau_program.specs.declared.program.Program.{Program}
use Rattle.mau_facts.specs.declared.document.Fact.{Fact}
use Rattle.mau_facts.specs.declared.document.Fact.TheVariants.{Same, Step, Chain as ChainOf, SortDecl, SortMb}
use Rattle.mau_api.specs.Terms.{IsBareWithin, hole_index}
use Rattle.mau_logic.specs.Says.{Says, leads, of_sort, all_said}
use Rattle.mau_logic.specs.Shown.{LeadsTo, HasSortBy}
use Rattle.mau_logic.specs.Justified.{IsJustified}

abbrev constant : List ℕ → Decl
constant w = record { form = Word w ∷ []; args = []; result = 0; attrs = no_attributes }

abbrev g_decl : Decl
g_decl = record { form = Word (codes "g") ∷ Hole ∷ []; args = 0 ∷ []; result = 0; attrs = no_attributes }

abbrev two_sorts : SignatureOf
two_sorts = record {
  hierarchy = record { sorts = 2; pairs = (1, 0) ∷ [] };
  names = [];
  declarations = (constant (codes "a") ∷ []) ∷ (constant (codes "b") ∷ []) ∷ (g_decl ∷ []) ∷ [];
  numerals = None;
}

abbrev x_term : Bare
x_term = Variable (record { index = 0; sort = 0 })

abbrev module_q : Program
module_q = record {
  sig = two_sorts;
  sorts = codes "S" ∷ codes "T" ∷ [];
  equations = record {
    left = Over (record { 0 = 3 }) (variable 0 0 ∷ []);
    right = x_term;
    cond = Equal x_term (Over (record { 0 = 2 }) []) ∷ [];
    owise = false;
    exec = true;
    vars = (codes "X", 0) ∷ [];
  } ∷ [];
  memberships = record { left = Over (record { 0 = 3 }) (apply 1 no_trees ∷ []); sort = 1; cond = []; exec = true; vars = [] } ∷ [];
  rules = record { label = None; left = Over (record { 0 = 2 }) []; right = Over (record { 0 = 1 }) []; cond = []; exec = true; vars = [] } ∷ [];
  strategies = [];
}

abbrev a : Tree
a = apply 1 no_trees

abbrev b : Tree
b = apply 2 no_trees

abbrev g : Tree → Tree
g t = apply 3 (tree t no_trees)

-- the kind of S and T has the number 2
abbrev the_hole : Tree
the_hole = variable hole_index 2

bare_a : IsBareIn (terms_over two_sorts) a 2
unfolding kind_of first_sort kinds_before
bare_a = (refl, refl, tt)

bare_b : IsBareIn (terms_over two_sorts) b 2
unfolding kind_of first_sort kinds_before
bare_b = (refl, refl, tt)

bare_g : (t : Tree) → IsBareIn (terms_over two_sorts) t 2 → IsBareIn (terms_over two_sorts) (g t) 2
unfolding kind_of first_sort kinds_before
bare_g t h = (refl, refl, (h, tt))

bare_gx : IsBareIn (terms_over two_sorts) (g (variable 0 0)) 2
unfolding kind_of first_sort kinds_before
bare_gx = (refl, refl, ((lit< tt, refl, refl), tt))

bare_hole : IsBareIn (terms_over two_sorts) the_hole 2
unfolding kind_of first_sort kinds_before
bare_hole = (lit< tt, refl, refl)

term_a : IsBareWithin two_sorts a
term_a = ((2, bare_a), record { shallow = lit≤ tt; no_overflow = refl })

term_b : IsBareWithin two_sorts b
term_b = ((2, bare_b), record { shallow = lit≤ tt; no_overflow = refl })

term_ga : IsBareWithin two_sorts (g a)
term_ga = ((2, bare_g a bare_a), record { shallow = lit≤ tt; no_overflow = refl })

term_gb : IsBareWithin two_sorts (g b)
term_gb = ((2, bare_g b bare_b), record { shallow = lit≤ tt; no_overflow = refl })

term_hole : IsBareWithin two_sorts the_hole
term_hole = ((2, bare_hole), record { shallow = lit≤ tt; no_overflow = refl })

abbrev terms : List (Option Tree)
terms = Some a ∷ Some b ∷ Some the_hole ∷ Some (g a) ∷ Some (g b) ∷ []

-- step eq 1 in the hole from g(b) to b, X being b, with these facts in use; and step rl 1 from b to a
abbrev by_condition : List ℕ → Fact
by_condition uses = Step (record { rule = false; number = 1; context = 3; from = 5; to = 2; bind = 2 ∷ []; uses = uses })

abbrev by_the_rule : Fact
by_the_rule = Step (record { rule = true; number = 1; context = 3; from = 2; to = 1; bind = []; uses = [] })

abbrev by_the_membership : Fact
by_the_membership = SortMb (record { term = 4; sort = 2; membership = 1; bind = []; uses = [] })

abbrev by_declarations : List ℕ → Fact
by_declarations uses = SortDecl (record { term = 4; sort = 2; uses = uses })

said_are : all_said terms (Same 2 2 None ∷ by_condition (1 ∷ []) ∷ by_the_rule ∷ ChainOf (2 ∷ 3 ∷ []) ∷ by_the_membership ∷ by_declarations (5 ∷ []) ∷ [])
    ≡ leads true b b ∷ leads true (g b) b ∷ leads false b a ∷ leads false (g b) a ∷ of_sort (g a) 1 ∷ of_sort (g a) 1 ∷ []
said_are = refl

-- ---- a condition, shown by a fact

b_leads : LeadsTo two_sorts (leads true b b ∷ []) true b b
b_leads = record { start = b; end = b; by_equations = true; fact = (0, lit< tt, refl); kind = λ e. refl; from = same_term (2, bare_b); to = same_term (2, bare_b) }

b_has : (us : List Says) → HasSortBy two_sorts us 0 b
b_has us = inl (inl (record { declaration = constant (codes "b"); declared = (0, lit< tt, refl); suits = inl tt; below = inl no_step }))

condition_is : IsJustified module_q [] terms (leads true b b ∷ []) (by_condition (1 ∷ []))
condition_is = (
  term_hole,
  (
    term_gb,
    (
      term_b,
      (
        All-cons (IsBareWithin two_sorts) b [] term_b (All-nil (IsBareWithin two_sorts)),
        record {
          context = (2, bare_gx, refl);
          one_each = refl;
          from = same_term (2, bare_g b bare_b);
          to = same_term (2, bare_b);
          sorted = (b_has (leads true b b ∷ []), tt);
          shown = ((b, b_leads, b_leads), tt);
        },
      ),
    ),
  ),
)

-- without the fact
condition_is_not : IsJustified module_q [] terms (leads true b b ∷ []) (by_condition []) → ⊥
condition_is_not h = let l = h.1.1.1.1.shown.0.1.fact.1 in absurd (omega arith)

-- ---- a rule, and a chain that uses it

rule_is : (before : List Says) → IsJustified module_q [] terms before by_the_rule
rule_is before = (
  term_hole,
  (
    term_b,
    (
      term_a,
      (
        All-nil (IsBareWithin two_sorts),
        record {
          context = (2, bare_b, refl);
          one_each = refl;
          from = same_term (2, bare_b);
          to = same_term (2, bare_a);
          sorted = tt;
          shown = tt;
        },
      ),
    ),
  ),
)

chain_is : IsJustified module_q [] terms (leads true b b ∷ leads true (g b) b ∷ leads false b a ∷ []) (ChainOf (2 ∷ 3 ∷ []))
chain_is = (same_term (2, bare_b), tt)

-- ---- a membership, and what rests on it

membership_is : (before : List Says) → IsJustified module_q [] terms before by_the_membership
membership_is before = (
  term_ga,
  (
    (lit≤ tt, lit≤ tt),
    (
      All-nil (IsBareWithin two_sorts),
      record {
        one_each = refl;
        head = same_term (2, bare_g a bare_a);
        sort = inl no_step;
        sorted = tt;
        shown = tt;
      },
    ),
  ),
)

told_is : IsJustified module_q [] terms (of_sort (g a) 1 ∷ []) (by_declarations (1 ∷ []))
told_is = (term_ga, ((lit≤ tt, lit≤ tt), inr (1, (0, lit< tt, refl), inl no_step)))

-- declarations alone do not give T
none_below : (q r : ℕ) → q ≡ 0 → r ≡ 1 → Chain (Leads ((1, 0) ∷ [])) q r → ⊥
none_below q r e d no_step = cc
none_below q r e d (step (zero, l, s) rest) = let k : 1 ≡ q = ap (λ (z : ℕ × ℕ). z.0) s in absurd (omega arith)
none_below q r e d (step (suc i, l, s) rest) = absurd (omega arith)

two_is_not_one : suc (suc zero) ≡ suc zero → ⊥
two_is_not_one d = cc

not_below : IsAtOrBelow two_sorts.hierarchy 0 1 → ⊥
unfolding kind_of first_sort kinds_before
not_below (inl chain) = none_below 0 1 refl refl chain
not_below (inr e) = two_is_not_one e

kind_differs : kind_of two_sorts.hierarchy 0 ≡ 1 → ⊥
unfolding kind_of first_sort kinds_before
kind_differs e = two_is_not_one e

told_is_not : (before : List Says) → IsJustified module_q [] terms before (by_declarations []) → ⊥
told_is_not before h = by h.1.1
  where
    by : HasSort two_sorts [] (g a) 1 → ⊥
    by (inr (q, c, low)) = absurd (let l = c.1 in omega arith)
    by (inl (inr e)) = kind_differs e
    by (inl (inl d)) = declared d.declaration d.declared d.below
      where
        declared : (d : Decl) → Contains (g_decl ∷ []) d → IsAtOrBelow two_sorts.hierarchy d.result 1 → ⊥
        declared d (zero, l, e) low = not_below (subst (λ (z : Decl). IsAtOrBelow two_sorts.hierarchy z.result 1) (sym e) low)
        declared d (suc i, l, e) low = absurd (omega arith)
