-- Steps that are told.
use Rattle.std.proofs.Common.{◌≡◌, ℕ, suc, ◌+◌, ◌<◌, ◌^◌, get_or, ◌==◌, ◌&&◌, List, [], ◌∷◌, ◌++◌, Bool, true, false, if◌then◌else◌, All, length, map, slice_get, Some, refl, sym, ap, ap₂, ◌∙◌, subst, arith, eqb-true}
use Rattle.std.specs.Option.{option_map}
use Rattle.std.proofs.lemmas.Bool.{lt-ltb}
use Rattle.std.proofs.lemmas.List.{length-map}
use Rattle.std.proofs.lemmas.List.Elements.{All-nil, All-cons, All-head, All-tail}
use Rattle.mau_terms.specs.Tree.{Tree, variable, numeral, apply, Trees, no_trees, tree, list_of}
use Rattle.mau_terms.specs.Norm.{norm}
use Rattle.mau_terms.specs.Bare.{IsBareIn, IsLawful}
use Rattle.mau_terms.specs.Reading.{reading}
use Rattle.mau_terms.specs.Subst.{Variable, same_variable, value_at, instance, instances}
use Rattle.mau_terms.specs.Solution.{HaveSorts}
use Rattle.mau_terms.specs.View.{tree_of, variable_of}
use Rattle.mau_terms.specs.declared.ids.OpId.{OpId}
use Rattle.mau_terms.specs.declared.ids.TermId.{TermId}
use Rattle.mau_terms.specs.declared.theory.Theory.{Theory}
use Rattle.mau_terms.proofs.Pieces.{trees_of-list_of}
use Rattle.mau_terms.proofs.Variables.{same_itself}
use Rattle.mau_poset.specs.Order.{kinds, kind_of}
use Rattle.mau_poset.proofs.Orders.{kind_of-kind, kind_of-above}
use Rattle.mau_signature.specs.Signature.{SignatureOf, theory_at, terms_over}
use Rattle.mau_formula.specs.Operator.{Operator}
use Rattle.mau_store.specs.Node.{Node}
use Rattle.mau_store.specs.Trees.{tree_at, trees_at}
use Rattle.mau_store.specs.View.{numbers}
use Rattle.mau_canon.specs.Within.{IsWithin}
use Rattle.mau_canon.specs.Standing.{StandsWithin, StandWithin}
use Rattle.mau_program.specs.declared.program.Program as Typed
use Rattle.mau_program.specs.declared.statements.Equation as Written
use Rattle.mau_evaluation.specs.Evaluation.{native}
use Rattle.mau_evaluation.proofs.BareTerms.{norm-reading-is}
use Rattle.mau_api.specs.Terms.{IsTerm, IsBareWithin, IsNormalTerm, hole_index, filler, fill, holes, holes_in}
use Rattle.mau_api.specs.Variables.{statement_variables}
use Rattle.mau_api.specs.Programs.{program_over}
use Rattle.mau_api.specs.Told.{step_in}
use Rattle.mau_api.specs.declared.step.Statement.TheVariants.{Equation as ByEquation, BuiltIn}
use Rattle.mau_api.specs.declared.step.Step.{Step}
use Rattle.mau_reduce.specs.declared.given.Given.{Given}
use Rattle.mau_reduce.specs.declared.binding.Binding.{Binding as Kept}
use Rattle.mau_reduce.specs.Kinds.{IsTermIn}
use Rattle.mau_reduce.specs.Bindings.{HaveKinds, AreValues}
use Rattle.mau_reduce.specs.Giving.{GivesValue, IsGivenAt, given_value}
use Rattle.mau_reduce.specs.Steps.{equation_variables_of, equation_variables, IsEquationStep, IsBuiltInStep}
use Rattle.mau_reduce.proofs.AttemptsLeft.{native_over}
use Rattle.mau_reduce.proofs.Taken.{given_answer}

-- ---- a term in the holes of a context

-- all of some kinds are k
abbrev pub AreAll : ℕ → List ℕ → Type 0
AreAll k [] = Unit {0}
AreAll k (m ∷ ms) = (m ≡ k) × AreAll k ms

pub all_left : (k : ℕ) (ms ns : List ℕ) → AreAll k (ms ++ ns) → AreAll k ms
all_left k [] ns h = tt
all_left k (m ∷ ms) ns h = (h.0, all_left k ms ns h.1)

pub all_right : (k : ℕ) (ms ns : List ℕ) → AreAll k (ms ++ ns) → AreAll k ns
all_right k [] ns h = h
all_right k (m ∷ ms) ns h = all_right k ms ns h.1

module _ (u : Tree) (k : ℕ) where
  abbrev hole : Variable
  hole = (hole_index, k)

  variable_fill : (i r : ℕ) (b : Bool) → (i == hole_index) ≡ b → AreAll k (if b then r ∷ [] else []) → (if same_variable hole (i, r) then u else variable i r) ≡ (if b then u else variable i r)
  variable_fill i r true e h = ap (λ c. if c then u else variable i r) (subst (λ (y : Variable). same_variable hole y ≡ true) pair (same_itself hole))
    where
      pair : hole ≡ (i, r)
      pair = ap₂ (λ (a : ℕ) (b : ℕ). (a, b)) (sym (eqb-true i hole_index e)) (sym h.0)
  variable_fill i r false e h = by (hole_index == i) refl
    where
      by : (b : Bool) → (hole_index == i) ≡ b → (if same_variable hole (i, r) then u else variable i r) ≡ variable i r
      by false q = ap (λ c. if (c && (k == r)) then u else variable i r) q
      by true q = let again : (i == hole_index) ≡ true = subst (λ n. (n == hole_index) ≡ true) (eqb-true hole_index i q) refl in cc

  -- a hole is a variable like others
  mutual
    pub filled : (c : Tree) → AreAll k (holes c) → instance (value_at (hole ∷ []) (u ∷ [])) c ≡ fill c u
    filled (variable i r) h = variable_fill i r (i == hole_index) refl h
    filled (numeral n) h = refl
    filled (apply f cs) h = ap (apply f) (all_filled cs h)

    all_filled : (cs : Trees) → AreAll k (holes_in cs) → instances (value_at (hole ∷ []) (u ∷ [])) cs ≡ instances (filler u) cs
    all_filled no_trees h = refl
    all_filled (tree c cs) h = ap₂ tree (filled c (all_left k (holes c) (holes_in cs) h)) (all_filled cs (all_right k (holes c) (holes_in cs) h))

-- the same by the numbers of a store
pub filled_in : (nodes : List Node) (index sort : ℕ) (inner : TermId) (c : Tree) → index ≡ hole_index → holes c ≡ sort ∷ [] →
    instance (value_at ((index, sort) ∷ []) (trees_at nodes (numbers (inner ∷ [])))) c ≡ fill c (tree_at nodes inner.0)
filled_in nodes index sort inner c i h =
    ap (λ n. instance (value_at ((n, sort) ∷ []) (tree_at nodes inner.0 ∷ [])) c) i
    ∙ filled (tree_at nodes inner.0) sort c (subst (AreAll sort) (sym h) (refl, tt))

-- a list of one element
pub one_item : (xs : List ℕ) (k d : ℕ) → length xs ≡ 1 → get_or xs 0 d ≡ k → xs ≡ k ∷ []
one_item [] k d e h = absurd (omega (arith, e))
one_item (x ∷ []) k d e h = ap (λ y. y ∷ []) h
one_item (x ∷ y ∷ xs) k d e h = absurd (omega (arith, e))

-- ---- kinds of terms, by their tops

module _ (s : SignatureOf) where
  pub own_kind : (i k : ℕ) → i < 2 ^ 32 → k < s.hierarchy.sorts + kinds s.hierarchy → kind_of s.hierarchy k ≡ k → IsBareIn (terms_over s) (variable i k) k
  own_kind i k small there own = (small, lt-ltb k (s.hierarchy.sorts + kinds s.hierarchy) there, own)

  pub kind_itself : (a k : ℕ) → k ≡ kind_of s.hierarchy a → kind_of s.hierarchy k ≡ k
  kind_itself a k e = ap (kind_of s.hierarchy) e ∙ (kind_of-kind s.hierarchy (kind_of s.hierarchy a) (kind_of-above s.hierarchy a) ∙ sym e)

  module _ (nodes : List Node) (i : ℕ) (is : IsTerm s nodes i) where
    pub numeral_kind : (n first other k : ℕ) → tree_at nodes i ≡ numeral n → s.numerals ≡ Some (first, other) → k ≡ kind_of s.hierarchy first → IsTermIn s nodes k i
    numeral_kind n first other k e nums same =
        let b = subst (λ t. IsBareIn (terms_over s) (reading (theory_at s) t) is.bare.0) e is.bare.1 in
        record {
          within = is.within;
          bare = subst (λ t. IsBareIn (terms_over s) (reading (theory_at s) t) k) (sym e) (b.0, ap (option_map (λ (p : ℕ × ℕ). kind_of s.hierarchy p.0)) nums ∙ ap Some (sym same));
        }

    pub variable_there : (v r : ℕ) → tree_at nodes i ≡ variable v r → (terms_over s).has_sort r ≡ true
    variable_there v r e = (subst (λ t. IsBareIn (terms_over s) (reading (theory_at s) t) is.bare.0) e is.bare.1).1

    pub variable_kind : (v r k : ℕ) → tree_at nodes i ≡ variable v r → k ≡ kind_of s.hierarchy r → IsTermIn s nodes k i
    variable_kind v r k e same =
        let b = subst (λ t. IsBareIn (terms_over s) (reading (theory_at s) t) is.bare.0) e is.bare.1 in
        record {
          within = is.within;
          bare = subst (λ t. IsBareIn (terms_over s) (reading (theory_at s) t) k) (sym e) (b.0, b.1, sym same);
        }

    pub of_kind : (k : ℕ) → k ≡ is.bare.0 → IsTermIn s nodes k i
    of_kind k e = record { within = is.within; bare = subst (IsBareIn (terms_over s) (reading (theory_at s) (tree_at nodes i))) (sym e) is.bare.1 }

-- ---- terms that may be told

module _ (s : SignatureOf) (lawful : IsLawful (terms_over s)) (nodes : List Node) where
  abbrev th : ℕ → Theory
  th = theory_at s

  read_within : (i : ℕ) → StandsWithin th nodes i → IsWithin th (norm th (reading th (tree_at nodes i)))
  read_within i w = subst (IsWithin th) (sym (norm-reading-is th lawful.theories (tree_at nodes i) w.normal)) w.within

  pub term_told : (i : ℕ) → IsTerm s nodes i → IsNormalTerm s (tree_at nodes i)
  term_told i is = record { normal = is.within.normal; term = (is.bare, read_within i is.within) }

  -- what is read of a term of a kind
  pub read_told : (k i : ℕ) (c : Tree) → IsTermIn s nodes k i → c ≡ reading th (tree_at nodes i) → IsBareWithin s c
  read_told k i c is e = subst (IsBareWithin s) (sym e) ((k, is.bare), read_within i is.within)

  pub values_told : (xs : List Variable) (ids : List ℕ) → length ids ≡ length xs → StandWithin th nodes ids → HaveKinds s xs (trees_at nodes ids) → All (IsNormalTerm s) (trees_at nodes ids)
  values_told [] [] e w k = All-nil (IsNormalTerm s)
  values_told [] (i ∷ ids) e w k = absurd (omega (arith, e))
  values_told (x ∷ xs) [] e w k = All-nil (IsNormalTerm s)
  values_told (x ∷ xs) (i ∷ ids) e w k =
      let own = All-head (StandsWithin th nodes) i ids w in
      All-cons (IsNormalTerm s) (tree_at nodes i) (trees_at nodes ids)
      (record { normal = own.normal; term = (((terms_over s).kind_of x.1, k.0), read_within i own) })
      (values_told xs ids (omega (arith, e)) (All-tail (StandsWithin th nodes) i ids w) k.1)

-- ---- the step of an equation

module _ (p : Typed.Program) (lawful : IsLawful (terms_over p.sig)) (P : ℕ → Tree → Type 0) (nodes : List Node) (i : ℕ) (e : Written.Equation) (at : slice_get p.equations i ≡ Some e) (exec : e.exec ≡ true) (b : Kept)
    (vars : map variable_of b.variables.items ≡ equation_variables p i) (values : AreValues p.sig nodes b) (sorted : HaveSorts P (map variable_of b.variables.items) (trees_at nodes (numbers b.values.items)))
  where
    abbrev th' : ℕ → Theory
    th' = theory_at p.sig

    abbrev xs : List Variable
    xs = statement_variables (tree_of e.left) e.cond (tree_of e.right)

    abbrev vs : List Tree
    vs = trees_at nodes (numbers b.values.items)

    own : map variable_of b.variables.items ≡ xs
    own = vars ∙ ap equation_variables_of at

    as_many : length vs ≡ length xs
    as_many =
        length-map (numbers b.values.items) (tree_at nodes) ∙ (length-map b.values.items (λ (v : TermId). v.0) ∙ (values.one_each ∙ (sym (length-map b.variables.items variable_of) ∙ ap length own)))

    pub equation_told : (x : Step) (term after k : ℕ) → x.statement ≡ ByEquation (suc i) → x.values ≡ b.values.items →
        norm th' (instance (value_at (map variable_of b.variables.items) vs) (tree_of e.left)) ≡ tree_at nodes x.before.0 →
        norm th' (instance (value_at (map variable_of b.variables.items) vs) (tree_of e.right)) ≡ tree_at nodes x.after.0 →
        IsBareIn (terms_over p.sig) (tree_of e.left) k → holes (tree_of x.context) ≡ k ∷ [] → IsBareWithin p.sig (tree_of x.context) →
        norm th' (fill (tree_of x.context) (tree_at nodes x.before.0)) ≡ tree_at nodes term → norm th' (fill (tree_of x.context) (tree_at nodes x.after.0)) ≡ tree_at nodes after →
        IsTerm p.sig nodes after → IsEquationStep p P i vs (tree_at nodes term) (tree_at nodes after) (step_in nodes x)
    equation_told x term after k statement given before reached left one within from to is = record {
      equation = e;
      at = at;
      exec = exec;
      statement = statement;
      values = same;
      instance = record {
        one_each = ap length same ∙ as_many;
        sorted = subst (λ ys. HaveSorts P ys (trees_at nodes (numbers x.values))) own (subst (HaveSorts P (map variable_of b.variables.items)) (sym same) sorted);
        before = ap₂ (λ ys ws. norm th' (instance (value_at ys ws) (tree_of e.left))) (sym own) same ∙ before;
        after = ap₂ (λ ys ws. norm th' (instance (value_at ys ws) (tree_of e.right))) (sym own) same ∙ reached;
        context = (k, left, one);
      };
      leads = record {
        from = from;
        to = to;
        normal = term_told p.sig lawful nodes after is;
        context = within;
        values = subst (All (IsNormalTerm p.sig)) (sym same)
            (values_told p.sig lawful nodes (map variable_of b.variables.items) (numbers b.values.items)
            (length-map b.values.items (λ (v : TermId). v.0) ∙ (values.one_each ∙ sym (length-map b.variables.items variable_of))) values.within values.kinds);
      };
    }
      where
        same : trees_at nodes (numbers x.values) ≡ vs
        same = ap (λ (ids : List TermId). trees_at nodes (numbers ids)) given

-- ---- the step of a built-in

pub built_in_told : (p : Typed.Program) (lawful : IsLawful (terms_over p.sig)) (hooks : List Operator) (nodes : List Node) (given : Given) (op : OpId) (x : Step) (term : ℕ) (ts : Trees) (k : ℕ) →
    GivesValue given → IsGivenAt p.sig hooks nodes (tree_at nodes term) given → tree_at nodes term ≡ apply op.0 ts → IsTermIn p.sig nodes k term → IsTerm p.sig nodes x.after.0 →
    tree_at nodes x.after.0 ≡ norm (theory_at p.sig) (given_value nodes (theory_at p.sig) (tree_at nodes term) given) →
    x.statement ≡ BuiltIn op → x.values ≡ [] → x.before.0 ≡ term → tree_of x.context ≡ variable hole_index k → IsBareIn (terms_over p.sig) (variable hole_index k) k →
    IsBuiltInStep p hooks (tree_at nodes term) (tree_at nodes x.after.0) (step_in nodes x)
built_in_told p lawful hooks nodes given op x term ts k some is top in_kind after e statement none before context bare = record {
  operator = op;
  statement = statement;
  built = record {
    no_values = values;
    normal = subst (λ t. norm th t ≡ t) (sym same) in_kind.within.normal;
    arguments = list_of ts;
    before = same ∙ (top ∙ ap (apply op.0) (sym (trees_of-list_of ts)));
    result = given_value nodes th (tree_at nodes term) given;
    gives = ap (native (program_over p hooks)) same ∙ (native_over p hooks (tree_at nodes term) ∙ (is.answer ∙ given_answer nodes th (tree_at nodes term) given some));
    after = sym e;
    context = (k, subst (λ t. IsBareIn (terms_over p.sig) (reading th t) k) (sym same) in_kind.bare, ap holes context);
  };
  leads = record {
    from = ap (λ c. norm th (fill c (tree_at nodes x.before.0))) context ∙ (ap (norm th) same ∙ in_kind.within.normal);
    to = ap (λ c. norm th (fill c (tree_at nodes x.after.0))) context ∙ after.within.normal;
    normal = term_told p.sig lawful nodes x.after.0 after;
    context = subst (IsBareWithin p.sig) (sym context) ((k, bare), record { shallow = omega arith; no_overflow = refl });
    values = subst (All (IsNormalTerm p.sig)) (sym values) (All-nil (IsNormalTerm p.sig));
  };
}
  where
    th : ℕ → Theory
    th = theory_at p.sig

    same : tree_at nodes x.before.0 ≡ tree_at nodes term
    same = ap (tree_at nodes) before

    values : trees_at nodes (numbers x.values) ≡ []
    values = ap (λ (ids : List TermId). trees_at nodes (numbers ids)) none
