-- The values of the solutions of a head in a term whose arguments are settled: their sorts are known, so it is known which solutions have values of the variables' sorts.
use Rattle.std.proofs.Common.{◌≡◌, ◌⊎◌, inl, inr, ℕ, ◌+◌, ◌<◌, ◌≤◌, List, [], ◌∷◌, map, length, Bool, true, false, if◌then◌else◌, Some, None, refl, sym, ap, ◌∙◌, subst, arith}
use Rattle.std.specs.Prelude.{◌↔◌}
use Rattle.mau_terms.specs.Tree.{Tree, variable, numeral, apply, Trees, no_trees, tree}
use Rattle.mau_terms.specs.Norm.{norm, unit_tree}
use Rattle.mau_terms.specs.Bare.{TermSignature, IsBareIn, AreBareIn, IsBare, IsLawful}
use Rattle.mau_terms.specs.Reading.{reading}
use Rattle.mau_terms.specs.Subst.{Variable, variables, with_values, value_at, instance, instances, Occurs, OccursIn}
use Rattle.mau_terms.specs.Solution.{HaveSorts, Fits}
use Rattle.mau_terms.specs.Laws.{AreNorms}
use Rattle.mau_terms.specs.Finite.{IsIn}
use Rattle.mau_terms.specs.declared.theory.Identity.{Identity}
use Rattle.mau_terms.specs.declared.theory.Theory.{Theory}
use Rattle.mau_terms.proofs.Chains.{first_bare}
use Rattle.mau_terms.proofs.Law.{equal_norm}
use Rattle.mau_terms.proofs.Variables.{variables_occur, values_of_variables}
use Rattle.mau_signature.specs.Signature.{SignatureOf, theory_at, terms_over}
use Rattle.mau_formula.specs.Operator.{Operator}
use Rattle.mau_store.specs.Node.{Node}
use Rattle.mau_sorts.specs.Table.{Table}
use Rattle.mau_sigcheck.specs.Built.{IsBuiltAndAccepted}
use Rattle.mau_listing.specs.Asked.{IsTreeSettled, IsBelow, BySort}
use Rattle.mau_listing.specs.Question.{Question, AgreesWith}
use Rattle.mau_listing.proofs.Readied.{IsFit, CanBeSettled, fit_value}
use Rattle.mau_listing.proofs.Valued.{value_may_be}
use Rattle.mau_program.specs.declared.program.Program as Typed
use Rattle.mau_evaluation.specs.Run.{Outcome, done, ended, Run}
use Rattle.mau_evaluation.specs.Program.{Membership, Program}
use Rattle.mau_evaluation.specs.Listing.{Solution, keep, solutions}
use Rattle.mau_evaluation.specs.Evaluation.{has_number, have_sorts, size, sizes, sorts_in}
use Rattle.mau_evaluation.specs.HasSort.{HasHeads, IsHead}
use Rattle.mau_evaluation.proofs.BareTerms.{norm-reading-is}
use Rattle.mau_evaluation.proofs.Heads.{each_in, norm_in, heads_fall}
use Rattle.mau_evaluation.proofs.Listed.{from_map}
use Rattle.mau_evaluation.proofs.Solved.{solutions_are_listed}
use Rattle.mau_api.specs.Programs.{program_over}
use Rattle.mau_api.specs.Meanings.{meanings_by}
use Rattle.mau_api.specs.Answers.{IsDerivedTable}
use Rattle.mau_api.specs.KnownSorts.{HasKnownSorts}
use Rattle.mau_api.specs.Remaining.{as_matcher, AreLeftOf}
use Rattle.mau_api.specs.Terms.{IsNormalBare}
use Rattle.mau_api.proofs.Bridge.{listed_are_left}
use Rattle.mau_api.proofs.KnownSorts.{value_known}
use Rattle.mau_api.proofs.ValuesFit.{IsSettledValue}
use Rattle.mau_deriving.specs.Known.{IsKnownFrom, AreKnownFrom}
use Rattle.mau_deriving.specs.Given.{asks_by}
use Rattle.mau_deriving.specs.Derivations.{head_binding, AreQuestions}
use Rattle.mau_deriving.proofs.Known.{IsSoFrom}
use Rattle.mau_deriving.proofs.Members.{sorts_known, fuelled, have_all, having_known}

-- ---- values of a pattern's variables

value_of_one : (p : Tree) (vs : List Tree) → length vs ≡ length (variables p) → (v : Tree) → IsIn v vs → (y : Variable) × Occurs y p × (v ≡ value_at (variables p) vs y)
value_of_one p vs one_each v i =
    let m = from_map (value_at (variables p) vs) (variables p) v (subst (IsIn v) (sym (values_of_variables p vs one_each)) i) in
    (m.0, each_in (λ w. Occurs w p) (variables p) m.0 (variables_occur p) m.1, m.2)

in_readings : (F : Tree → Tree) (vs : List Tree) (v : Tree) → IsIn v vs → IsIn (F v) (map F vs)
in_readings F [] v i = absurd i
in_readings F (u ∷ vs) v (inl e) = inl (ap F e)
in_readings F (u ∷ vs) v (inr i) = inr (in_readings F vs v i)

-- in a bare instance of a bare pattern they are of their variables' kinds
module _ (s : TermSignature) (g : Variable → Tree) (y : Variable) where
  mutual
    value_kind : (p : Tree) (k : ℕ) → IsBareIn s p k → Occurs y p → IsBareIn s (instance g p) k → IsBareIn s (g y) (s.kind_of y.1)
    value_kind (variable i r) k b o c =
        let e : k ≡ s.kind_of y.1 = sym b.2 ∙ sym (ap (λ (z : Variable). s.kind_of z.1) o) in
        subst (IsBareIn s (g y)) e (subst (λ w. IsBareIn s (g w) k) (sym o) c)
    value_kind (numeral n) k b o c = absurd o
    value_kind (apply f ps) k b o c = value_kinds ps (s.arguments f) b.2 o c.2

    value_kinds : (ps : Trees) (ks : List ℕ) → AreBareIn s ps ks → OccursIn y ps → AreBareIn s (instances g ps) ks → IsBareIn s (g y) (s.kind_of y.1)
    value_kinds no_trees ks b o c = absurd o
    value_kinds (tree p ps) [] b o c = absurd b
    value_kinds (tree p ps) (k ∷ ks) b (inl o) c = value_kind p k b.0 o c.0
    value_kinds (tree p ps) (k ∷ ks) b (inr o) c = value_kinds ps ks b.1 o c.1

  -- a pattern whose normal form is an operator over arguments is one itself
  head_kind : (p : Tree) → IsHead s.theory (norm s.theory p) → (k j : ℕ) → IsBareIn s p k → Occurs y p → IsBareIn s (instance g p) j → IsBareIn s (g y) (s.kind_of y.1)
  head_kind (variable i r) h k j b o c = absurd h
  head_kind (numeral n) h k j b o c = absurd o
  head_kind (apply f ps) h k j b o c = value_kinds ps (s.arguments f) b.2 o c.2

-- what is known of a value of a head's solution
record IsHeadValue (s : SignatureOf) (nodes : List Node) (table : Table) (v : Tree) : Type 0 where
  settled : IsSettledValue s nodes table v

module _ (s : SignatureOf) (lawful : IsLawful (terms_over s)) (p : Tree) (bare : IsBare (terms_over s) p) (head : IsHead (theory_at s) (norm (theory_at s) p)) (t : Tree) (normal : IsNormalBare s t) where
  abbrev th : ℕ → Theory
  th = theory_at s

  read : norm (theory_at s) (reading (theory_at s) t) ≡ t
  read = norm-reading-is th lawful.theories t normal.0

  pub listed : (x : Solution) → IsIn x (solutions (terms_over s) p t) → (x.left ≡ []) × (x.right ≡ []) × AreNorms (theory_at s) x.values × Fits (terms_over s) p (reading (theory_at s) t) (map (reading (theory_at s)) x.values)
  listed x i = (solutions_are_listed (terms_over s) lawful p (reading th t) normal.1).0 x (subst (λ u. IsIn x (solutions (terms_over s) p u)) (sym read) i)

  -- which variable a value is of, and its kind
  record IsOne (x : Solution) (v : Tree) : Type 0 where
    of_variable : Variable
    occurs : Occurs of_variable p
    reads : reading (theory_at s) v ≡ value_at (variables p) (map (reading (theory_at s)) x.values) of_variable
    norms : norm (theory_at s) v ≡ v
    kind : IsBareIn (terms_over s) (reading (theory_at s) v) ((terms_over s).kind_of of_variable.1)

  is_one : (x : Solution) → IsIn x (solutions (terms_over s) p t) → (v : Tree) → IsIn v x.values → IsOne x v
  is_one x i v j =
      let h = listed x i in
      let us = map (reading th) x.values in
      let y = value_of_one p us h.3.one_each (reading th v) (in_readings (reading th) x.values v j) in
      let b : IsBare (terms_over s) (with_values p us) = first_bare h.3.equal in
      record {
        of_variable = y.0;
        occurs = y.1;
        reads = y.2;
        norms = norm_in th x.values v h.2 j;
        kind = subst (λ w. IsBareIn (terms_over s) w ((terms_over s).kind_of y.0.1)) (sym y.2)
            (head_kind (terms_over s) (value_at (variables p) us) y.0 p head bare.0 b.0 bare.1 y.1 b.1);
      }

  module _ (nodes : List Node) (table : Table) (identities : (f : ℕ) (i : Identity) → (theory_at s f).id ≡ Some i → IsTreeSettled nodes table (unit_tree i))
      (below : (u : Tree) → IsBelow u t → IsTreeSettled nodes table u) where
    abbrev Fit : Tree → Type 0
    Fit = IsFit (theory_at s) nodes table t identities

    made_fits : (x : Solution) → IsIn x (solutions (terms_over s) p t) → Fit (norm (theory_at s) (with_values p (map (reading (theory_at s)) x.values)))
    made_fits x i = subst Fit (sym (equal_norm (terms_over s) lawful (listed x i).3.equal ∙ read)) (record { fits = inl refl; below = below })

    pub value_settled : (x : Solution) → IsIn x (solutions (terms_over s) p t) → (v : Tree) → IsIn v x.values → (v ≡ t → ⊥) → IsSettledValue s nodes table v
    value_settled x i v j never =
        let us = map (reading th) x.values in
        let one = is_one x i v j in
        let g = value_at (variables p) us in
        let value : norm th (g one.of_variable) ≡ v = ap (norm th) (sym one.reads) ∙ norm-reading-is th lawful.theories v one.norms in
        let fit : Fit v = subst Fit value (fit_value th nodes table t identities p (norm th (with_values p us)) (norm th (g one.of_variable)) (made_fits x i) (value_may_be th lawful.theories g one.of_variable p one.occurs)) in
        record {
          normal = one.norms;
          bare = (_, one.kind);
          fits = by fit.fits;
        }
      where
        by : (v ≡ t) ⊎ CanBeSettled (theory_at s) nodes table v → CanBeSettled (theory_at s) nodes table v
        by (inl e) = absurd (never e)
        by (inr c) = c

-- ---- which solutions have values of the variables' sorts

-- the truth value of an outcome
abbrev truth : Outcome Bool → Bool
truth (done b r c) = b
truth (ended e) = false

module _ (f : ℕ → Solution → Run Bool) (H : Solution → Type 0) where
  -- it is known whether x has its sorts
  pub record IsDecided (x : Solution) : Type 0 where
    pub has : Bool
    pub known : IsKnownFrom (λ j. f j x) has
    pub tells : (has ≡ true) ↔ H x

  most : (xs : List Solution) → ((x : Solution) → IsIn x xs → IsDecided x) → ℕ
  most [] d = 0
  most (x ∷ xs) d = (d x (inl refl)).known.enough + most xs (λ y i. d y (inr i))

  -- the test by so many levels tells it
  abbrev pub IsTold : (Solution → Bool) → Solution → Type 0
  IsTold test x = IsKnownFrom (λ j. f j x) (test x) × ((test x ≡ true) ↔ H x)

  abbrev pub test_by : ℕ → Solution → Bool
  test_by n x = truth (f n x 0)

  one_told : (x : Solution) → (d : IsDecided x) → (n : ℕ) → d.known.enough ≤ n → IsTold (test_by n) x
  one_told x d n l = by (d.known.known n 0)
    where
      is : f n x 0 ≡ done d.has 0 0 → IsTold (test_by n) x
      is e =
          let same : d.has ≡ test_by n x = sym (ap truth e) in
          (subst (IsKnownFrom (λ j. f j x)) same d.known, subst (λ w. (w ≡ true) ↔ H x) same d.tells)

      by : IsSoFrom d.known.enough n (f n x 0) (done d.has 0 0) → IsTold (test_by n) x
      by (inl e) = is e
      by (inr e) = absurd (omega (arith, e.0, l))

  all_told : (xs : List Solution) (d : (x : Solution) → IsIn x xs → IsDecided x) (n : ℕ) → most xs d ≤ n → (x : Solution) → IsIn x xs → IsTold (test_by n) x
  unfolding most
  all_told [] d n l x i = absurd i
  all_told (y ∷ xs) d n l x (inl e) = subst (IsTold (test_by n)) (sym e) (one_told y (d y (inl refl)) n (omega (arith, l)))
  all_told (y ∷ xs) d n l x (inr i) = all_told xs (λ z k. d z (inr k)) n (omega (arith, l)) x i

  -- a test that tells it
  pub some_test : (xs : List Solution) → ((x : Solution) → IsIn x xs → IsDecided x) → (test : Solution → Bool) × ((x : Solution) → IsIn x xs → IsTold test x)
  some_test xs d = (test_by (most xs d), all_told xs d (most xs d) (omega arith))

-- ---- the solutions of the head of a membership

module _ (p : Typed.Program) (hooks : List Operator) (limit : ℕ) (remembers : Bool) (heads : HasHeads (program_over p hooks)) (accepted : IsBuiltAndAccepted p.sig)
    (nodes : List Node) (table : Table) (derived : IsDerivedTable (meanings_by p hooks limit remembers) nodes table) (f : ℕ) (ts : Trees) (normal : IsNormalBare p.sig (apply f ts))
    (identities : (f : ℕ) (i : Identity) → (theory_at p.sig f).id ≡ Some i → IsTreeSettled nodes table (unit_tree i)) (below : (u : Tree) → IsBelow u (apply f ts) → IsTreeSettled nodes table u)
    (m : Membership) (among : IsIn m (program_over p hooks).memberships) where
  abbrev P : Program
  P = program_over p hooks

  abbrev s : SignatureOf
  s = p.sig

  abbrev t : Tree
  t = apply f ts

  abbrev sols : List Solution
  sols = solutions (terms_over p.sig) m.left (apply f ts)

  abbrev smaller : ℕ → Tree → Run (List ℕ)
  smaller j = sorts_in (program_over p hooks) limit (asks_by (program_over p hooks) limit j) (sizes ts)

  not_itself : (v : Tree) → size v < size t → v ≡ t → ⊥
  not_itself v l e = let k : size t < size t = subst (λ u. size u < size t) e l in omega (arith, k)

  pub settled_value : (x : Solution) → IsIn x sols → (v : Tree) → IsIn v x.values → IsSettledValue p.sig nodes table v
  settled_value x i v j =
      value_settled s heads.signature m.left (heads.bare m among) (heads.head m among) t normal nodes table identities below x i v j (not_itself v (heads_fall P heads m among t x i v j))

  -- what is known of values
  record ValuesAre (vs : List Tree) : Type 0 where
    sorts : List (List ℕ)
    known : AreKnownFrom smaller vs sorts
    have : (xs : List Variable) → (have_all (program_over p hooks) limit xs sorts ≡ true) ↔ HaveSorts (BySort p.sig derived.known) xs vs

  abbrev IsSmall : Tree → Type 0
  IsSmall v = IsSettledValue p.sig nodes table v × (size v ≤ sizes ts)

  one_more : (v : Tree) (vs : List Tree) → HasKnownSorts (program_over p hooks) p.sig derived.known limit v → IsSmall v → ValuesAre vs → ValuesAre (v ∷ vs)
  one_more v vs own small rest = record {
    sorts = own.sorts ∷ rest.sorts;
    known = (fuelled P limit heads v own.sorts (sizes ts) small.1 (sorts_known P limit v own.sorts own.levels small.0.normal own.known_at), rest.known);
    have = λ xs. each xs;
  }
    where
      by : (x : Variable) (xs : List Variable) (b : Bool) → has_number own.sorts x.1 ≡ b →
          ((if b then have_all P limit xs rest.sorts else false) ≡ true) ↔ (BySort s derived.known x.1 v × HaveSorts (BySort s derived.known) xs vs)
      by x xs true e = ((λ h. ((own.exact x.1).0 e, (rest.have xs).0 h)), (λ h. (rest.have xs).1 h.1))
      by x xs false e = ((λ h. cc), (λ h. let k : true ≡ false = sym ((own.exact x.1).1 h.0) ∙ e in cc))

      each : (xs : List Variable) → (have_all P limit xs (own.sorts ∷ rest.sorts) ≡ true) ↔ HaveSorts (BySort s derived.known) xs (v ∷ vs)
      each [] = ((λ h. tt), (λ h. refl))
      each (x ∷ xs) = by x xs (has_number own.sorts x.1) refl

  values_are : (vs : List Tree) → ((v : Tree) → IsIn v vs → IsSmall v) → ValuesAre vs
  values_are [] small = record { sorts = []; known = tt; have = λ xs. none xs }
    where
      none : (xs : List Variable) → (have_all P limit xs [] ≡ true) ↔ HaveSorts (BySort s derived.known) xs []
      none [] = ((λ h. tt), (λ h. refl))
      none (x ∷ xs) = ((λ h. cc), (λ h. absurd h))
  values_are (v ∷ vs) small =
      let own = small v (inl refl) in
      one_more v vs (value_known p hooks limit remembers heads accepted nodes table derived v own.0) own (values_are vs (λ w i. small w (inr i)))

  abbrev asked_sorts : ℕ → Solution → Run Bool
  asked_sorts j x = have_sorts (sorts_in (program_over p hooks) limit (asks_by (program_over p hooks) limit j) (sizes ts)) (variables m.left) x.values

  abbrev Has : Solution → Type 0
  Has x = HaveSorts (BySort p.sig derived.known) (variables m.left) x.values

  decided : (x : Solution) → IsIn x sols → IsDecided asked_sorts Has x
  decided x i =
      let own = values_are x.values (λ v j. let l : size v < size t = heads_fall P heads m among t x i v j in (settled_value x i v j, omega (arith, l))) in
      record {
        has = have_all P limit (variables m.left) own.sorts;
        known = having_known P limit smaller (variables m.left) x.values own.sorts own.known;
        tells = own.have (variables m.left);
      }

  the_test : (test : Solution → Bool) × ((x : Solution) → IsIn x sols → IsTold asked_sorts Has test x)
  the_test = some_test asked_sorts Has sols decided

  abbrev pub question : Question
  question = record { pattern = m.left; bound = []; subject = apply f ts }

  nothing_bound : (x : Solution) → AgreesWith m.left [] x.values
  nothing_bound x b c h = absurd (let below : c.0 < 0 = c.1 in omega arith)

  -- what a listing has to give, and what is then asked
  pub record AreListed : Type 0 where
    pub chosen : List Solution
    pub left : AreLeftOf false p.sig derived.known question None (map as_matcher chosen)
    pub questions : AreQuestions (program_over p hooks) limit f ts m (map (head_binding m) chosen)
    pub among_all : (x : Solution) → IsIn x chosen → IsIn x sols

  from_keep_in : (g : Solution → Bool) (xs : List Solution) (x : Solution) → IsIn x (keep g xs) → IsIn x xs
  from_keep_in g [] x i = absurd i
  from_keep_in g (y ∷ xs) x i = by (g y) i (λ k. from_keep_in g xs x k)
    where
      by : (b : Bool) → IsIn x (if b then y ∷ keep g xs else keep g xs) → (IsIn x (keep g xs) → IsIn x xs) → IsIn x (y ∷ xs)
      by true (inl e) rest = inl e
      by true (inr k) rest = inr (rest k)
      by false k rest = inr (rest k)

  pub are_listed : AreListed
  are_listed = record {
    chosen = keep the_test.0 sols;
    left = listed_are_left false s heads.signature derived.known question normal.0 normal.1 the_test.0
        (λ x i. let told = (the_test.1 x i).1 in ((λ e. (told.0 e, nothing_bound x)), (λ a. told.1 a.0)));
    questions = record { test = the_test.0; tells = λ x i. (the_test.1 x i).0; are = refl };
    among_all = λ x i. from_keep_in the_test.0 sols x i;
  }
