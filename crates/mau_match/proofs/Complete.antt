-- In each answer the value of a variable is of one of the parts that the walk gives.
use Rattle.std.proofs.Common.{◌≡◌, ℕ, suc, List, [], ◌∷◌, ◌++◌, length, map, Bool, true, false, ◌||◌, Contains, inl, inr, if◌then◌else◌, refl, sym, ◌∙◌, ap, subst, arith}
use Rattle.std.proofs.lemmas.Bool.{or_left, or_right}
use Rattle.mau_terms.specs.Tree.{Tree, variable, numeral, apply, Trees, no_trees, tree}
use Rattle.mau_terms.specs.Norm.{norm, norms}
use Rattle.mau_terms.specs.Lawful.{AreLawful}
use Rattle.mau_terms.specs.Reading.{reading}
use Rattle.mau_terms.specs.Bare.{IsLawful}
use Rattle.mau_terms.specs.Subst.{Variable, same_variable, has_variable, value_at, variables, instance, Occurs, OccursIn}
use Rattle.mau_terms.specs.Laws.{AreNorms}
use Rattle.mau_terms.specs.declared.theory.Theory.{Theory}
use Rattle.mau_terms.proofs.Variables.{same-is, same_itself, values_of_variables, variables_occur, EachVar}
use Rattle.mau_terms.proofs.Solutions.{all_instances_by_norms}
use Rattle.mau_signature.specs.Signature.{SignatureOf, terms_over, theory_at}
use Rattle.mau_listing.specs.Question.{Question}
use Rattle.mau_listing.specs.Answers.{IsAnswer}
use Rattle.mau_listing.specs.Asked.{BySort}
use Rattle.mau_listing.proofs.Answered.{norm-reading-is}
use Rattle.mau_domains.specs.Parts.{just}
use Rattle.mau_match.specs.Parts.{AnyOf, occurs, occurs_among, parts_of, IsFairAt, IsFair, AreFair}
use Rattle.mau_match.specs.Given.{given_variables, given_at}
use Rattle.mau_match.specs.Laws.{PartsHoldAnswers}
use Rattle.mau_match.specs.Possible.{Agrees}
use Rattle.mau_match.specs.Hidden.{IsHidden}
use Rattle.mau_match.proofs.Hiding.{with_other, same_instance, fair_hidden, agrees_hidden}
use Rattle.mau_match.proofs.Fair.{bare_fair}
use Rattle.mau_match.proofs.Occurring.{occurring_among, instance_along, instances_along}
use Rattle.mau_match.proofs.NothingMissed.{walk}

mutual
  pub occurs_has : (x : Variable) (p : Tree) → Occurs x p → occurs x p ≡ true
  occurs_has x (variable i s) o = subst (λ y. same_variable y x ≡ true) o (same_itself x)
  occurs_has x (numeral n) o = absurd o
  occurs_has x (apply f ps) o = occur_have x ps o

  occur_have : (x : Variable) (ps : Trees) → OccursIn x ps → occurs_among x ps ≡ true
  occur_have x no_trees o = absurd o
  occur_have x (tree p ps) (inl o) = or_left (occurs x p) (occurs_among x ps) (occurs_has x p o)
  occur_have x (tree p ps) (inr o) = or_right (occurs x p) (occurs_among x ps) (occur_have x ps o)

-- ---- values at their places

pub each_var_at : (P : Variable → Type 0) (xs : List Variable) (x : Variable) (zs : List Variable) → EachVar P (xs ++ x ∷ zs) → P x
each_var_at P [] x zs h = h.0
each_var_at P (y ∷ xs) x zs h = each_var_at P xs x zs h.1

pub value_there : (F : Variable → Tree) (xs : List Variable) (x : Variable) (zs : List Variable) (vs : List Tree) (u : Tree) (us : List Tree) → length xs ≡ length vs → map F (xs ++ x ∷ zs) ≡ vs ++ u ∷ us → F x ≡ u
value_there F [] x zs [] u us l e = cc
value_there F [] x zs (v ∷ vs) u us l e = cc
value_there F (y ∷ xs) x zs [] u us l e = cc
value_there F (y ∷ xs) x zs (v ∷ vs) u us l e =
    let k : length xs ≡ length vs = cc in
    let j : map F (xs ++ x ∷ zs) ≡ vs ++ u ∷ us = cc in
    value_there F xs x zs vs u us k j

value_of_front : (xs zs : List Variable) (vs ws : List Tree) (y : Variable) → length xs ≡ length vs → has_variable xs y ≡ true → value_at xs vs y ≡ value_at (xs ++ zs) (vs ++ ws) y
value_of_front [] zs vs ws y l h = cc
value_of_front (x ∷ xs) zs [] ws y l h = cc
value_of_front (x ∷ xs) zs (v ∷ vs) ws y l h = by (value_of_front xs zs vs ws y (let k : length xs ≡ length vs = cc in k)) (same_variable x y) refl
  where
    by : (has_variable xs y ≡ true → value_at xs vs y ≡ value_at (xs ++ zs) (vs ++ ws) y) → (b : Bool) → same_variable x y ≡ b → (if b then v else value_at xs vs y) ≡ (if b then v else value_at (xs ++ zs) (vs ++ ws) y)
    by ih true e = refl
    by ih false e = ih (sym (ap (λ b. b || has_variable xs y) e) ∙ h)

pub norm_at : (th : ℕ → Theory) (vs : List Tree) (u : Tree) (us : List Tree) → AreNorms th (vs ++ u ∷ us) → norm th u ≡ u
norm_at th [] u us h = h.0
norm_at th (v ∷ vs) u us h = norm_at th vs u us h.1

-- ---- an answer's instance, where each value is read as a bare term

reading_at : (th : ℕ → Theory) → AreLawful th → (xs : List Variable) (vs : List Tree) → AreNorms th vs → (y : Variable) → norm th (value_at xs (map (reading th) vs) y) ≡ norm th (value_at xs vs y)
reading_at th lawful [] vs n y = refl
reading_at th lawful (x ∷ xs) [] n y = refl
reading_at th lawful (x ∷ xs) (v ∷ vs) n y = by (reading_at th lawful xs vs n.1 y) (same_variable x y)
  where
    by : norm th (value_at xs (map (reading th) vs) y) ≡ norm th (value_at xs vs y) → (b : Bool) → norm th (if b then reading th v else value_at xs (map (reading th) vs) y) ≡ norm th (if b then v else value_at xs vs y)
    by ih true = norm-reading-is th lawful v n.0 ∙ sym n.0
    by ih false = ih

module _ (th : ℕ → Theory) (g h : Variable → Tree) where
  mutual
    pub fair_by_norms : ((x : Variable) → norm th (g x) ≡ norm th (h x)) → (p : Tree) → IsFair th g p → IsFair th h p
    fair_by_norms e (variable i s) f = tt
    fair_by_norms e (numeral n) f = tt
    fair_by_norms e (apply f ps) a = (subst (IsFairAt th f) (all_instances_by_norms th g h e ps) a.0, all_fair_by_norms e ps a.1)

    all_fair_by_norms : ((x : Variable) → norm th (g x) ≡ norm th (h x)) → (ps : Trees) → AreFair th g ps → AreFair th h ps
    all_fair_by_norms e no_trees a = tt
    all_fair_by_norms e (tree p ps) a = (fair_by_norms e p a.0, all_fair_by_norms e ps a.1)

  mutual
    fair_along : (p : Tree) → ((x : Variable) → Occurs x p → g x ≡ h x) → IsFair th g p → IsFair th h p
    fair_along (variable i s) e f = tt
    fair_along (numeral n) e f = tt
    fair_along (apply f ps) e a = (subst (λ w. IsFairAt th f (norms th w)) (instances_along g h ps e) a.0, all_fair_along ps e a.1)

    all_fair_along : (ps : Trees) → ((x : Variable) → OccursIn x ps → g x ≡ h x) → AreFair th g ps → AreFair th h ps
    all_fair_along no_trees e a = tt
    all_fair_along (tree p ps) e a = (fair_along p (λ x o. e x (inl o)) a.0, all_fair_along ps (λ x o. e x (inr o)) a.1)

-- ---- what is given agrees with an answer

abbrev AgreesAt : (Variable → Tree) → List (Variable × Tree) → Variable → Type 0
AgreesAt F bs y = (b : Variable × Tree) → Contains bs b → b.0 ≡ y → F b.0 ≡ b.1

given_agrees : (F : Variable → Tree) (bs : List (Variable × Tree)) (xs zs : List Variable) (vs ws : List Tree) (y : Variable) → length xs ≡ length vs
    → AgreesAt F bs y → value_at (xs ++ zs) (vs ++ ws) y ≡ F y
    → has_variable (map {B = Variable} (λ b. b.0) bs ++ xs) y ≡ true → value_at (map {B = Variable} (λ b. b.0) bs ++ xs) (map {B = Tree} (λ b. b.1) bs ++ vs) y ≡ F y
given_agrees F [] xs zs vs ws y l a e h = value_of_front xs zs vs ws y l h ∙ e
given_agrees F (b ∷ bs) xs zs vs ws y l a e h =
    by (given_agrees F bs xs zs vs ws y l (λ c k m. a c (suc k.0, omega arith, k.2) m) e) (same_variable b.0 y) refl
  where
    ys : List Variable
    ys = map {B = Variable} (λ b. b.0) bs ++ xs

    by : (has_variable (map {B = Variable} (λ b. b.0) bs ++ xs) y ≡ true → value_at (map {B = Variable} (λ b. b.0) bs ++ xs) (map {B = Tree} (λ b. b.1) bs ++ vs) y ≡ F y) → (d : Bool) → same_variable b.0 y ≡ d
        → (if d then b.1 else value_at (map {B = Variable} (λ b. b.0) bs ++ xs) (map {B = Tree} (λ b. b.1) bs ++ vs) y) ≡ F y
    by ih true k = let same : b.0 ≡ y = same-is b.0 y k in sym (a b (0, omega arith, refl) same) ∙ ap F same
    by ih false k = ih (sym (ap (λ d. d || has_variable ys y) k) ∙ h)

module _ (s : SignatureOf) (lawful : IsLawful (terms_over s)) (P : ℕ → Tree → Type 0) (q : Question) (xs : List Variable) (x : Variable) (zs : List Variable) (ev : variables q.pattern ≡ xs ++ x ∷ zs) (vs : List Tree) (l : length xs ≡ length vs) (u : Tree) (us : List Tree) (a : IsAnswer s P q (vs ++ u ∷ us)) where
  abbrev th : ℕ → Theory
  th = theory_at s

  abbrev all : List Tree
  all = vs ++ u ∷ us

  -- the values of the answer
  abbrev pub F : Variable → Tree
  F = value_at (variables q.pattern) (vs ++ u ∷ us)

  abbrev g : Variable → Tree
  g = given_at q xs vs

  -- the same, and what is given for variables that the pattern does not have
  abbrev pub gg : Variable → Tree
  gg y = if has_variable (variables q.pattern) y then value_at (variables q.pattern) (vs ++ u ∷ us) y else given_at q xs vs y

  abbrev gg_at : Bool → Variable → Tree
  gg_at b y = if b then value_at (variables q.pattern) (vs ++ u ∷ us) y else given_at q xs vs y

  pub same : (y : Variable) → Occurs y q.pattern → F y ≡ gg y
  same y o = sym (ap (λ b. gg_at b y) (occurring_among q.pattern y o))

  fair : IsFair (theory_at s) gg q.pattern
  fair =
      let th = theory_at s in
      let R : Variable → Tree = value_at (variables q.pattern) (map (reading th) (vs ++ u ∷ us)) in
      fair_along th F gg q.pattern same (fair_by_norms th R F (reading_at th lawful.theories (variables q.pattern) (vs ++ u ∷ us) a.normal) q.pattern (bare_fair (terms_over s) lawful R q.pattern a.bare.0 a.bare.1))

  pub agree : (y : Variable) → has_variable (given_variables q xs) y ≡ true → norm (theory_at s) (given_at q xs vs y) ≡ norm (theory_at s) (gg y)
  agree y h = by (has_variable (variables q.pattern) y) refl
    where
      by : (b : Bool) → has_variable (variables q.pattern) y ≡ b → norm (theory_at s) (given_at q xs vs y) ≡ norm (theory_at s) (gg_at b y)
      by false e = refl
      by true e = ap (norm (theory_at s)) (given_agrees F q.bound xs (x ∷ zs) vs (u ∷ us) y l (λ b k m. a.agrees b k (ap (has_variable (variables q.pattern)) m ∙ e)) (ap (λ w. value_at w (vs ++ u ∷ us) y) (sym ev)) h)

  pub value_is_of_part : AnyOf (theory_at s) (parts_of (theory_at s) (given_variables q xs) (given_at q xs vs) x q.pattern (just q.subject)) u
  value_is_of_part =
      let th = theory_at s in
      let p = q.pattern in
      let ys = given_variables q xs in
      let occ : Occurs x p = each_var_at (λ y. Occurs y p) xs x zs (subst (EachVar (λ y. Occurs y p)) ev (variables_occur p)) in
      let at : gg x ≡ u = sym (same x occ) ∙ value_there F xs x zs vs u us l (ap (map F) (sym ev) ∙ values_of_variables p (vs ++ u ∷ us) a.one_each) in
      let whole : norm th (instance gg p) ≡ q.subject = ap (norm th) (sym (instance_along F gg p same)) ∙ a.whole in
      let found : AnyOf th (parts_of th ys g x p (just q.subject)) (norm th (gg x)) = walk th lawful.theories ys g gg x agree p fair (occurs_has x p occ) (just q.subject) whole in
      subst (AnyOf th (parts_of th ys g x p (just q.subject))) (ap (norm th) at ∙ norm_at th vs u us a.normal) found

  -- with another name for x at some of its places, which the pattern does not have, the walk leaves out no value either
  pub value_is_of_hidden : (y : Variable) (p : Tree) → occurs y q.pattern ≡ false → has_variable (given_variables q xs) y ≡ false → IsHidden x y q.pattern p → occurs x p ≡ true → AnyOf (theory_at s) (parts_of (theory_at s) (given_variables q xs) (given_at q xs vs) x p (just q.subject)) u
  value_is_of_hidden y p unused unknown hidden there =
      let th = theory_at s in
      let ys = given_variables q xs in
      let occ : Occurs x q.pattern = each_var_at (λ y. Occurs y q.pattern) xs x zs (subst (EachVar (λ y. Occurs y q.pattern)) ev (variables_occur q.pattern)) in
      let at : gg x ≡ u = sym (same x occ) ∙ value_there F xs x zs vs u us l (ap (map F) (sym ev) ∙ values_of_variables q.pattern (vs ++ u ∷ us) a.one_each) in
      let whole : norm th (instance (with_other x y gg) p) ≡ q.subject = ap (norm th) (same_instance x y gg q.pattern p unused hidden) ∙ ap (norm th) (sym (instance_along F gg q.pattern same)) ∙ a.whole in
      let found : AnyOf th (parts_of th ys g x p (just q.subject)) (norm th (with_other x y gg x)) =
      walk th lawful.theories ys g (with_other x y gg) x (agrees_hidden th ys g gg x y unknown agree) p (fair_hidden x y gg th q.pattern p unused hidden fair) there (just q.subject) whole in
      subst (AnyOf th (parts_of th ys g x p (just q.subject))) (ap (norm th) (own (same_variable x y)) ∙ ap (norm th) at ∙ norm_at th vs u us a.normal) found
    where
      own : (b : Bool) → (if b then gg x else gg x) ≡ gg x
      own true = refl
      own false = refl

  -- no test may say that the values of the answer are impossible
  pub not_impossible : ((gg' : Variable → Tree) → Agrees (theory_at s) (given_variables q xs) (given_at q xs vs) gg' → IsFair (theory_at s) gg' q.pattern → norm (theory_at s) (instance gg' q.pattern) ≡ q.subject
      → ((y : Variable) → has_variable (variables q.pattern) y ≡ true → gg' y ≡ value_at (variables q.pattern) (vs ++ u ∷ us) y) → ⊥) → ⊥
  not_impossible h = h gg agree fair (ap (norm (theory_at s)) (sym (instance_along F gg q.pattern same)) ∙ a.whole) (λ y e. ap (λ b. gg_at b y) e)

pub parts_hold_answers : PartsHoldAnswers
parts_hold_answers s lawful known q xs x zs ev vs l u us a = value_is_of_part s lawful (BySort s known) q xs x zs ev vs l u us a
