-- Solutions by bare terms, and answers by their normal forms.
use Rattle.std.proofs.Common.{◌≡◌, ℕ, List, [], ◌∷◌, map, Bool, true, false, if◌then◌else◌, refl, sym, ap, ap₂, ◌∙◌, subst}
use Rattle.mau_terms.specs.Tree.{Tree, variable, numeral, apply, Trees, no_trees, tree}
use Rattle.mau_terms.specs.Norm.{norm}
use Rattle.mau_terms.specs.Lawful.{AreLawful}
use Rattle.mau_terms.specs.Bare.{TermSignature, IsBareIn, AreBareIn, IsBare, IsLawful}
use Rattle.mau_terms.specs.Reading.{reading}
use Rattle.mau_terms.specs.Laws.{AreNorms}
use Rattle.mau_terms.specs.Subst.{Variable, same_variable, value_at, variables, with_values, instance, instances}
use Rattle.mau_terms.specs.Solution.{HaveSorts}
use Rattle.mau_terms.specs.declared.theory.Theory.{Theory}
use Rattle.mau_terms.proofs.Normal.{IsNormal, norm_normal, norm-norm}
use Rattle.mau_terms.proofs.Chains.{chain_end, first_bare}
use Rattle.mau_terms.proofs.Readings.{lead_norm}
use Rattle.mau_terms.proofs.Law.{equal_norm, norm_equal}
use Rattle.mau_terms.proofs.Wholes.{norm-reading}
use Rattle.mau_terms.proofs.Solutions.{length-map, with_values_norms}
use Rattle.mau_signature.specs.Signature.{SignatureOf, theory_at, terms_over}
use Rattle.mau_listing.specs.Question.{Question, OfNorm, AgreesWith, IsWhole}
use Rattle.mau_listing.specs.Matcher.{Matcher}
use Rattle.mau_listing.specs.Answers.{IsAnswer}
use Rattle.mau_listing.specs.Asked.{BySort}
use Rattle.mau_listing.specs.Laws.{AnswersAreSolutions}

-- ---- values

-- what leaves variables as they are may be done to the values or afterwards
value_mapped : (F : Tree → Tree) → ((i r : ℕ) → F (variable i r) ≡ variable i r) → (xs : List Variable) (vs : List Tree) (y : Variable) → value_at xs (map F vs) y ≡ F (value_at xs vs y)
value_mapped F stays [] vs y = sym (stays y.0 y.1)
value_mapped F stays (x ∷ xs) [] y = sym (stays y.0 y.1)
value_mapped F stays (x ∷ xs) (v ∷ vs) y = by (value_mapped F stays xs vs y) (same_variable x y)
  where
    by : value_at xs (map F vs) y ≡ F (value_at xs vs y) → (b : Bool) → (if b then F v else value_at xs (map F vs) y) ≡ F (if b then v else value_at xs vs y)
    by ih true = refl
    by ih false = ih

pub normal_is : (th : ℕ → Theory) → AreLawful th → (t : Tree) → norm th t ≡ t → IsNormal th t
normal_is th lawful t e = subst (IsNormal th) e (norm_normal th lawful t)

pub norm-reading-is : (th : ℕ → Theory) → AreLawful th → (t : Tree) → norm th t ≡ t → norm th (reading th t) ≡ t
norm-reading-is th lawful t e = norm-reading th lawful t (normal_is th lawful t e)

-- the normal forms of readings
norms-readings : (th : ℕ → Theory) → AreLawful th → (vs : List Tree) → AreNorms th vs → map (norm th) (map (reading th) vs) ≡ vs
norms-readings th lawful [] n = refl
norms-readings th lawful (v ∷ vs) n = ap₂ (λ u us. u ∷ us) (norm-reading-is th lawful v n.0) (norms-readings th lawful vs n.1)

norms_normal : (th : ℕ → Theory) → AreLawful th → (vs : List Tree) → AreNorms th (map (norm th) vs)
norms_normal th lawful [] = tt
norms_normal th lawful (v ∷ vs) = (norm-norm th lawful v, norms_normal th lawful vs)

norms-norms : (th : ℕ → Theory) (vs : List Tree) → AreNorms th vs → map (norm th) vs ≡ vs
norms-norms th [] n = refl
norms-norms th (v ∷ vs) n = ap₂ (λ u us. u ∷ us) n.0 (norms-norms th vs n.1)

-- ---- bare instances

module _ (s : TermSignature) (lawful : IsLawful s) (g : Variable → Tree) where
  abbrev read : Variable → Tree
  read y = reading s.theory (norm s.theory (g y))

  mutual
    -- the normal form of each value may take its place
    read_bare : (p : Tree) (k : ℕ) → IsBareIn s (instance g p) k → IsBareIn s (instance read p) k
    read_bare (variable i r) k b = chain_end (lead_norm s lawful k (g (i, r)) b)
    read_bare (numeral n) k b = b
    read_bare (apply f ts) k b = (b.0, b.1, reads_bare ts (s.arguments f) b.2)

    reads_bare : (ps : Trees) (ks : List ℕ) → AreBareIn s (instances g ps) ks → AreBareIn s (instances read ps) ks
    reads_bare no_trees ks b = b
    reads_bare (tree p ps) [] b = b
    reads_bare (tree p ps) (k ∷ ks) b = (read_bare p k b.0, reads_bare ps ks b.1)

mutual
  instance_same : (g h : Variable → Tree) → ((y : Variable) → g y ≡ h y) → (p : Tree) → instance g p ≡ instance h p
  instance_same g h e (variable i r) = e (i, r)
  instance_same g h e (numeral n) = refl
  instance_same g h e (apply f ts) = ap (apply f) (instances_same g h e ts)

  instances_same : (g h : Variable → Tree) → ((y : Variable) → g y ≡ h y) → (ps : Trees) → instances g ps ≡ instances h ps
  instances_same g h e no_trees = refl
  instances_same g h e (tree p ps) = ap₂ tree (instance_same g h e p) (instances_same g h e ps)

-- ---- sorts

module _ (s : SignatureOf) (P : ℕ → Tree → Type 0) where
  sorts_of_norms : (xs : List Variable) (vs : List Tree) → HaveSorts (OfNorm P s) xs vs → HaveSorts P xs (map (norm (theory_at s)) vs)
  sorts_of_norms [] vs h = tt
  sorts_of_norms (x ∷ xs) [] h = h
  sorts_of_norms (x ∷ xs) (v ∷ vs) h = (h.0, sorts_of_norms xs vs h.1)

  sorts_of_readings : AreLawful (theory_at s) → (xs : List Variable) (vs : List Tree) → AreNorms (theory_at s) vs → HaveSorts P xs vs → HaveSorts (OfNorm P s) xs (map (reading (theory_at s)) vs)
  sorts_of_readings lawful [] vs n h = tt
  sorts_of_readings lawful (x ∷ xs) [] n h = h
  sorts_of_readings lawful (x ∷ xs) (v ∷ vs) n h = (subst (P x.1) (sym (norm-reading-is (theory_at s) lawful v n.0)) h.0, sorts_of_readings lawful xs vs n.1 h.1)

-- ---- both ways

module _ (s : SignatureOf) (lawful : IsLawful (terms_over s)) (P : ℕ → Tree → Type 0) (q : Question) (normal : norm (theory_at s) q.subject ≡ q.subject) where
  abbrev th : ℕ → Theory
  th = theory_at s

  pub solution_is_answer : (x : Matcher) → IsWhole s P q x → IsAnswer s P q x.values
  solution_is_answer x is =
      let p = q.pattern in
      let xs = variables p in
      let vs = map (norm th) is.bare in
      let b : IsBare (terms_over s) (with_values p is.bare) = first_bare is.solves.0.equal in
      let read : IsBareIn (terms_over s) (instance (λ y. reading th (norm th (value_at xs is.bare y))) p) b.0 = read_bare (terms_over s) lawful (value_at xs is.bare) p b.0 b.1 in
      let same : instance (λ y. reading th (norm th (value_at xs is.bare y))) p ≡ with_values p (map (reading th) vs) =
      instance_same (λ y. reading th (norm th (value_at xs is.bare y))) (value_at xs (map (reading th) vs))
      (λ y. sym (value_mapped (reading th) (λ i r. refl) xs vs y ∙ ap (reading th) (value_mapped (norm th) (λ i r. refl) xs is.bare y))) p in
      subst (IsAnswer s P q) is.values (record {
        one_each = length-map (norm th) is.bare ∙ is.solves.0.one_each;
        normal = norms_normal th lawful.theories is.bare;
        bare = (b.0, subst (λ t. IsBareIn (terms_over s) t b.0) same read);
        whole =
            with_values_norms th p vs is.bare (norms-norms th vs (norms_normal th lawful.theories is.bare))
            ∙ equal_norm (terms_over s) lawful is.solves.0.equal
            ∙ norm-reading-is th lawful.theories q.subject normal;
        sorts = sorts_of_norms s P xs is.bare is.solves.1;
        agrees = subst (AgreesWith p q.bound) (sym is.values) is.agrees;
      })

  pub answer_is_solution : IsBare (terms_over s) (reading th q.subject) → (x : Matcher) → x.left ≡ [] → x.right ≡ [] → IsAnswer s P q x.values → IsWhole s P q x
  answer_is_solution bare x l r is =
      let p = q.pattern in
      let us = map (reading th) x.values in
      let norms = norms-readings th lawful.theories x.values is.normal in
      record {
        bare = us;
        values = norms;
        solves = (
          record {
            one_each = length-map (reading th) x.values ∙ is.one_each;
            equal = norm_equal (terms_over s) lawful (with_values p us) (reading th q.subject) is.bare bare
                (with_values_norms th p us x.values (norms ∙ sym (norms-norms th x.values is.normal))
                ∙ is.whole
                ∙ sym (norm-reading-is th lawful.theories q.subject normal));
          },
          sorts_of_readings s P lawful.theories (variables p) x.values is.normal is.sorts,
        );
        agrees = is.agrees;
        no_left = l;
        no_right = r;
      }

pub answers_are_solutions : AnswersAreSolutions
answers_are_solutions s lawful known q normal bare x = (
  λ is. (is.no_left, is.no_right, solution_is_answer s lawful (BySort s known) q normal x is),
  λ is. answer_is_solution s lawful (BySort s known) q normal bare x is.0 is.1 is.2,
)
