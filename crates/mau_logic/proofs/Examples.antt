-- Computed sections. A module with the sort S, constants a and b, an operator g on S, a commutative operator f on two of S, and the equation a = b.
use Rattle.std.proofs.Common.{◌≡◌, ℕ, zero, suc, ◌<◌, ◌≤◌, ◌-◌, List, [], ◌∷◌, map, get_or, true, false, Option, Some, None, inl, refl, sym, subst, arith, lit<, lit≤}
use Rattle.std.specs.Prelude.{codes, slice_get, take}
use Rattle.std.proofs.lemmas.List.Elements.{All-nil}
use Rattle.mau_poset.specs.Order.{kind_of, first_sort, kinds_before, no_step}
use Rattle.mau_terms.specs.Tree.{Tree, variable, apply, no_trees, tree}
use Rattle.mau_terms.specs.Norm.{norm}
use Rattle.mau_terms.specs.Axioms.{left_to_right, commutativity}
use Rattle.mau_terms.specs.Bare.{IsBareIn, IsLawful, EqualModulo, same_term, one_step}
use Rattle.mau_terms.specs.declared.bare.Bare.TheVariants.{App as Over}
use Rattle.mau_terms.proofs.Law.{equal_norm}
use Rattle.mau_signature.specs.Attributes.{no_attributes}
use Rattle.mau_signature.specs.declared.decl.Decl.{Decl}
use Rattle.mau_signature.specs.declared.form.Piece.TheVariants.{Word, Hole}
use Rattle.mau_signature.specs.Signature.{SignatureOf, terms_over, theory_at, attributes_of, arguments_of, result_of, identity_in}
use Rattle.mau_signature.specs.Faults.{is_successor}
use Rattle.mau_program.specs.declared.program.Program.{Program}
use Rattle.mau_facts.specs.declared.document.TermLine.TheVariants.{Var, App}
use Rattle.mau_facts.specs.declared.document.Fact.{Fact}
use Rattle.mau_facts.specs.declared.document.Fact.TheVariants.{Same, Step, Under, Chain, SortDecl}
use Rattle.mau_facts.specs.declared.document.Section.{Section}
use Rattle.mau_api.specs.Terms.{IsBareWithin, hole_index}
use Rattle.mau_logic.specs.Lines.{cut, in_brackets, is_hole, section_terms}
use Rattle.mau_logic.specs.Says.{Says, leads, of_sort, all_said}
use Rattle.mau_logic.specs.Justified.{IsJustified, IsJustifiedSection, IsFirstUnjustified}

-- ---- variables, as they are written

last_colon : cut (codes "X:Y:S") ≡ Some (codes "X:Y", codes "S")
last_colon = refl

no_colon : cut (codes "X") ≡ None
no_colon = refl

kind_of_sort : in_brackets (codes "[S]") ≡ Some (codes "S")
kind_of_sort = refl

no_kind : in_brackets (codes "[S") ≡ None
no_kind = refl

a_hole : is_hole (codes "HOLE:[S]") ≡ true
a_hole = refl

no_hole : is_hole (codes "HOLE:S") ≡ false
no_hole = refl

-- ---- the module

abbrev constant : List ℕ → Decl
constant w = record { form = Word w ∷ []; args = []; result = 0; attrs = no_attributes }

abbrev one_sort : SignatureOf
one_sort = record {
  hierarchy = record { sorts = 1; pairs = [] };
  names = [];
  declarations =
      (constant (codes "a") ∷ [])
      ∷ (constant (codes "b") ∷ [])
      ∷ (record { form = Word (codes "g") ∷ Hole ∷ []; args = 0 ∷ []; result = 0; attrs = no_attributes } ∷ [])
      ∷ (record { form = Word (codes "f") ∷ Hole ∷ Hole ∷ []; args = 0 ∷ 0 ∷ []; result = 0; attrs = record no_attributes { comm = true } } ∷ [])
      ∷ [];
  numerals = None;
}

abbrev module_p : Program
module_p = record {
  sig = one_sort;
  sorts = codes "S" ∷ [];
  equations = record { left = Over (record { 0 = 1 }) []; right = Over (record { 0 = 2 }) []; cond = []; owise = false; exec = true; vars = [] } ∷ [];
  memberships = [];
  rules = [];
  strategies = [];
}

abbrev a : Tree
a = apply 1 no_trees

abbrev b : Tree
b = apply 2 no_trees

abbrev g : Tree → Tree
g t = apply 3 (tree t no_trees)

abbrev f : Tree → Tree → Tree
f t u = apply 4 (tree t (tree u no_trees))

-- the kind of S has the number 1
abbrev the_hole : Tree
the_hole = variable hole_index 1

-- ---- its terms

bare_a : IsBareIn (terms_over one_sort) a 1
unfolding kind_of first_sort kinds_before
bare_a = (refl, refl, tt)

bare_b : IsBareIn (terms_over one_sort) b 1
unfolding kind_of first_sort kinds_before
bare_b = (refl, refl, tt)

bare_hole : IsBareIn (terms_over one_sort) the_hole 1
unfolding kind_of first_sort kinds_before
bare_hole = (lit< tt, refl, refl)

bare_g : (t : Tree) → IsBareIn (terms_over one_sort) t 1 → IsBareIn (terms_over one_sort) (g t) 1
unfolding kind_of first_sort kinds_before
bare_g t h = (refl, refl, (h, tt))

bare_f : (t u : Tree) → IsBareIn (terms_over one_sort) t 1 → IsBareIn (terms_over one_sort) u 1 → IsBareIn (terms_over one_sort) (f t u) 1
unfolding kind_of first_sort kinds_before
bare_f t u h k = (refl, refl, (h, (k, tt)))

term_a : IsBareWithin one_sort a
term_a = ((1, bare_a), record { shallow = lit≤ tt; no_overflow = refl })

term_b : IsBareWithin one_sort b
term_b = ((1, bare_b), record { shallow = lit≤ tt; no_overflow = refl })

term_hole : IsBareWithin one_sort the_hole
term_hole = ((1, bare_hole), record { shallow = lit≤ tt; no_overflow = refl })

term_ga : IsBareWithin one_sort (g a)
term_ga = ((1, bare_g a bare_a), record { shallow = lit≤ tt; no_overflow = refl })

term_gb : IsBareWithin one_sort (g b)
term_gb = ((1, bare_g b bare_b), record { shallow = lit≤ tt; no_overflow = refl })

term_fab : IsBareWithin one_sort (f a b)
term_fab = ((1, bare_f a b bare_a bare_b), record { shallow = lit≤ tt; no_overflow = refl })

term_fba : IsBareWithin one_sort (f b a)
term_fba = ((1, bare_f b a bare_b bare_a), record { shallow = lit≤ tt; no_overflow = refl })

-- ---- a section, which is justified

abbrev step : ℕ → ℕ → ℕ → Fact
step c t u = Step (record { rule = false; number = 1; context = c; from = t; to = u; bind = []; uses = [] })

-- a, b, HOLE:[S], g(a), g(b), f(a, b), f(b, a); and the facts: step eq 1 from a to b, under g, chain of that, sort of g(a), same
abbrev section : List Fact → Section
section facts = record {
  item = 2;
  «module» = codes "P";
  terms = App 1 [] ∷ App 2 [] ∷ Var (codes "HOLE:[S]") ∷ App 3 (1 ∷ []) ∷ App 3 (2 ∷ []) ∷ App 4 (1 ∷ 2 ∷ []) ∷ App 4 (2 ∷ 1 ∷ []) ∷ [];
  facts = facts;
}

abbrev terms : List (Option Tree)
terms = Some a ∷ Some b ∷ Some the_hole ∷ Some (g a) ∷ Some (g b) ∷ Some (f a b) ∷ Some (f b a) ∷ []

terms_are : (facts : List Fact) → section_terms module_p (section facts) ≡ terms
unfolding kind_of first_sort kinds_before
terms_are facts = refl

abbrev five : List Fact
five =
    step 3 1 2
    ∷ Under (record { op = 3; facts = 1 ∷ []; from = 4; to = 5 })
    ∷ Chain (2 ∷ [])
    ∷ SortDecl (record { term = 4; sort = 1; uses = [] })
    ∷ Same 6 7 None
    ∷ []

said_are : all_said terms five ≡ leads true a b ∷ leads true (g a) (g b) ∷ leads true (g a) (g b) ∷ of_sort (g a) 0 ∷ leads true (f a b) (f b a) ∷ []
said_are = refl

-- each fact is, from those before it
step_is : IsJustified module_p [] terms [] (step 3 1 2)
step_is = (
  term_hole,
  (
    term_a,
    (
      term_b,
      (
        All-nil (IsBareWithin one_sort),
        record {
          context = (1, bare_a, refl);
          one_each = refl;
          from = same_term (1, bare_a);
          to = same_term (1, bare_b);
          sorted = tt;
          shown = tt;
        },
      ),
    ),
  ),
)

under_is : IsJustified module_p [] terms (leads true a b ∷ []) (Under (record { op = 3; facts = 1 ∷ []; from = 4; to = 5 }))
under_is = (
  term_ga,
  (
    term_gb,
    record {
      operator = (lit< tt, lit≤ tt);
      starts = a ∷ [];
      ends = b ∷ [];
      lead = ([], [], (refl, refl), refl, refl);
      some = λ e. cc;
      from = same_term (1, bare_g a bare_a);
      to = same_term (1, bare_g b bare_b);
    },
  ),
)

chain_is : IsJustified module_p [] terms (leads true a b ∷ leads true (g a) (g b) ∷ []) (Chain (2 ∷ []))
chain_is = tt

sort_is : IsJustified module_p [] terms (leads true a b ∷ leads true (g a) (g b) ∷ leads true (g a) (g b) ∷ []) (SortDecl (record { term = 4; sort = 1; uses = [] }))
sort_is = (
  term_ga,
  (
    (lit≤ tt, lit≤ tt),
    inl (inl (record {
      declaration = record { form = Word (codes "g") ∷ Hole ∷ []; args = 0 ∷ []; result = 0; attrs = no_attributes };
      declared = (0, lit< tt, refl);
      suits = inl (inl (inl (record { declaration = constant (codes "a"); declared = (0, lit< tt, refl); suits = inl tt; below = inl no_step })), tt);
      below = inl no_step;
    })),
  ),
)

same_is : (before : List Says) → IsJustified module_p [] terms before (Same 6 7 None)
same_is before = (term_fab, (term_fba, one_step (1, bare_f a b bare_a bare_b) (left_to_right (commutativity 4 a b refl)) (same_term (1, bare_f b a bare_b bare_a))))

section_is : IsJustifiedSection module_p [] (section five)
section_is i f l e = subst (λ ts. IsJustified module_p [] ts (all_said ts (take i five)) f) (sym (terms_are five)) (by i f l e)
  where
    by : (i : ℕ) (f : Fact) → i < 5 → slice_get five i ≡ Some f → IsJustified module_p [] terms (all_said terms (take i five)) f
    by zero f l e = subst (IsJustified module_p [] terms []) (let d : step 3 1 2 ≡ f = cc in d) step_is
    by (suc zero) f l e =
        subst (IsJustified module_p [] terms (leads true a b ∷ [])) (let d : Under (record { op = 3; facts = 1 ∷ []; from = 4; to = 5 }) ≡ f = cc in d) under_is
    by (suc (suc zero)) f l e = subst (IsJustified module_p [] terms (leads true a b ∷ leads true (g a) (g b) ∷ [])) (let d : Chain (2 ∷ []) ≡ f = cc in d) chain_is
    by (suc (suc (suc zero))) f l e =
        subst (IsJustified module_p [] terms (leads true a b ∷ leads true (g a) (g b) ∷ leads true (g a) (g b) ∷ []))
        (let d : SortDecl (record { term = 4; sort = 1; uses = [] }) ≡ f = cc in d) sort_is
    by (suc (suc (suc (suc zero)))) f l e =
        subst (IsJustified module_p [] terms (leads true a b ∷ leads true (g a) (g b) ∷ leads true (g a) (g b) ∷ of_sort (g a) 0 ∷ [])) (let d : Same 6 7 None ≡ f = cc in d)
        (same_is (leads true a b ∷ leads true (g a) (g b) ∷ leads true (g a) (g b) ∷ of_sort (g a) 0 ∷ []))
    by (suc (suc (suc (suc (suc i))))) f l e = absurd (omega arith)

-- below f, in a context, up to commutativity: from f(b, a) to f(b, b) with f(HOLE, b)
below_is : IsJustified module_p [] (Some (f the_hole b) ∷ Some (f b a) ∷ Some (f b b) ∷ []) [] (step 1 2 3)
below_is = (
  ((1, bare_f the_hole b bare_hole bare_b), record { shallow = lit≤ tt; no_overflow = refl }),
  (
    term_fba,
    (
      ((1, bare_f b b bare_b bare_b), record { shallow = lit≤ tt; no_overflow = refl }),
      (
        All-nil (IsBareWithin one_sort),
        record {
          context = (1, bare_a, refl);
          one_each = refl;
          from = one_step (1, bare_f b a bare_b bare_a) (left_to_right (commutativity 4 b a refl)) (same_term (1, bare_f a b bare_a bare_b));
          to = same_term (1, bare_f b b bare_b bare_b);
          sorted = tt;
          shown = tt;
        },
      ),
    ),
  ),
)

-- ---- altered facts, which are not

-- the axioms of the operators: f is commutative, and there is no other axiom
record HasAxioms (ds : List Decl) : Type 0 where
  no_assoc : (attributes_of ds).assoc ≡ false
  no_succ : is_successor (attributes_of ds) ≡ false
  no_id : identity_in one_sort.names (kind_of one_sort.hierarchy (result_of ds)) (attributes_of ds).id ≡ None
  comm : (attributes_of ds).comm ≡ true → (k : ℕ) × (map (kind_of one_sort.hierarchy) (arguments_of ds) ≡ k ∷ k ∷ [])

has_axioms : (n : ℕ) → HasAxioms (get_or one_sort.declarations n [])
has_axioms zero = record { no_assoc = refl; no_succ = refl; no_id = refl; comm = λ e. cc }
has_axioms (suc zero) = record { no_assoc = refl; no_succ = refl; no_id = refl; comm = λ e. cc }
has_axioms (suc (suc zero)) = record { no_assoc = refl; no_succ = refl; no_id = refl; comm = λ e. cc }
has_axioms (suc (suc (suc zero))) = record { no_assoc = refl; no_succ = refl; no_id = refl; comm = λ e. (kind_of one_sort.hierarchy 0, refl) }
has_axioms (suc (suc (suc (suc n)))) = record { no_assoc = refl; no_succ = refl; no_id = refl; comm = λ e. cc }

lawful : IsLawful (terms_over one_sort)
lawful = record {
  theories = record {
    succ_assoc = λ f e. (has_axioms (f - 1)).no_assoc;
    succ_comm = λ f e. absurd (let d = (has_axioms (f - 1)).no_succ in cc);
    succ_id = λ f e. (has_axioms (f - 1)).no_id;
    plain_unit = λ f c e. (has_axioms (c.0 - 1)).no_id;
  };
  assoc_kinds = λ f e. absurd (let d = (has_axioms (f - 1)).no_assoc in cc);
  comm_kinds = λ f e. (has_axioms (f - 1)).comm e;
  unit_kinds = λ f i e. absurd (let d = (has_axioms (f - 1)).no_id in cc);
  succ_kinds = λ f e. absurd (let d = (has_axioms (f - 1)).no_succ in cc);
}

-- equal terms have one normal form
not_equal : (t u : Tree) → EqualModulo (terms_over one_sort) t u → norm (theory_at one_sort) t ≡ norm (theory_at one_sort) u
not_equal t u e = equal_norm (terms_over one_sort) lawful e

-- the other way round
turned_is_not : IsJustified module_p [] terms [] (step 3 2 1) → ⊥
turned_is_not h = let e : b ≡ a = not_equal b a h.1.1.1.1.from in cc

-- in a context without a hole
no_hole_is_not : IsJustified module_p [] terms [] (step 4 1 2) → ⊥
no_hole_is_not h = let e : [] ≡ h.1.1.1.1.context.0 ∷ [] = h.1.1.1.1.context.2 in cc

-- a statement that is not there
no_statement_is_not : IsJustified module_p [] terms [] (Step (record { rule = true; number = 1; context = 3; from = 1; to = 2; bind = []; uses = [] })) → ⊥
no_statement_is_not h = h.1.1.1.1

-- a term for no variable
one_value_is_not : IsJustified module_p [] terms [] (Step (record { rule = false; number = 1; context = 3; from = 1; to = 2; bind = 1 ∷ []; uses = [] })) → ⊥
one_value_is_not h = differ h.1.1.1.1.one_each
  where
    differ : suc zero ≡ zero → ⊥
    differ e = cc

-- by a fact that does not stand before
later_is_not : IsJustified module_p [] terms [] (Under (record { op = 3; facts = 1 ∷ []; from = 4; to = 5 })) → ⊥
later_is_not h = h.1.1

-- of no sort
no_sort_is_not : IsJustified module_p [] terms [] (SortDecl (record { term = 4; sort = 2; uses = [] })) → ⊥
no_sort_is_not h = let l : 2 ≤ 1 = h.1.0.1 in absurd (omega arith)

-- ends that do not meet
chain_is_not : IsJustified module_p [] terms (leads true a b ∷ leads true (g a) (g b) ∷ []) (Chain (1 ∷ 2 ∷ [])) → ⊥
chain_is_not h = let e : b ≡ g a = not_equal b (g a) h.0 in cc

-- different terms
different_are_not : IsJustified module_p [] terms [] (Same 6 4 None) → ⊥
different_are_not h = let e : f a b ≡ g a = not_equal (f a b) (g a) h.1.1 in cc

-- the section with the step turned is rejected at its first fact
rejected_at_first : IsFirstUnjustified module_p [] (section (step 3 2 1 ∷ [])) 1
rejected_at_first = record {
  fact = step 3 2 1;
  at = refl;
  before = λ i f l e. absurd (omega arith);
  unjustified = λ h. turned_is_not (subst (λ ts. IsJustified module_p [] ts [] (step 3 2 1)) (terms_are (step 3 2 1 ∷ [])) h);
}
