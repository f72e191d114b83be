-- What is built in gives terms of the kind of its operator.
use Rattle.std.proofs.Common.{◌≡◌, ℕ, suc, ◌≤◌, ◌==◌, List, [], ◌∷◌, map, Bool, true, false, Option, Some, None, inl, inr, ◌⊎◌, refl, sym, ap, ap₂, ◌∙◌, subst, arith, if◌then◌else◌}
use Rattle.std.specs.Prelude.{All, Contains, codes, bytes_eq, find}
use Rattle.std.proofs.lemmas.List.Elements.{All-contains}
use Rattle.mau_terms.specs.Tree.{Tree, numeral, apply, no_trees, node, trees_of}
use Rattle.mau_terms.specs.Norm.{norm, build, finish, arrange, greatest_numeral}
use Rattle.mau_terms.specs.Reading.{nest, nest_from, reading}
use Rattle.mau_terms.specs.Bare.{IsBareIn, AreBareIn, IsLawful}
use Rattle.mau_terms.specs.declared.theory.Theory.{Theory}
use Rattle.mau_terms.specs.declared.theory.Identity.{Identity}
use Rattle.mau_terms.proofs.Induction.{norm-node}
use Rattle.mau_terms.proofs.Leads.{two_bare, two_made}
use Rattle.mau_terms.proofs.Normal.{norm-norm}
use Rattle.mau_terms.proofs.Pieces.{Each}
use Rattle.mau_terms.proofs.Wholes.{reading_top}
use Rattle.mau_signature.proofs.Operators.{is_operator}
use Rattle.mau_signature.specs.declared.form.Piece.TheVariants.{Word}
use Rattle.mau_signature.specs.Names.{constant_of, place_of}
use Rattle.mau_signature.specs.Signature.{SignatureOf, theory_at, terms_over}
use Rattle.mau_canon.proofs.Standing.{list_stands_for_nested}
use Rattle.mau_formula.specs.Operator.{Operator}
use Rattle.mau_formula.specs.declared.formula.Gives.{Gives}
use Rattle.mau_formula.specs.declared.formula.Gives.TheVariants.{Nat as Numbers, Bool as Truths}
use Rattle.mau_formula.specs.declared.formula.HookAnswer.{HookAnswer}
use Rattle.mau_formula.specs.declared.formula.HookAnswer.TheVariants.{Value, NoValue, Overflow}
use Rattle.mau_formula.specs.Native.{name_of}
use Rattle.mau_formula.specs.Expr.{value as value_of}
use Rattle.mau_evaluation.specs.Program.{Answer, no_value, value, too_large, BuiltIn, on_numerals, choice, equality}
use Rattle.mau_evaluation.specs.Evaluation.{native_on, native_by, over_rest, before_rest}
use Rattle.mau_evaluation.specs.Listing.{same_tree}
use Rattle.mau_program.specs.declared.program.Program.{Program}
use Rattle.mau_api.specs.BuiltIns.{constant_in, true_in, false_in, result_kind, answer_in, IsBuiltIn, is_branch, is_same, is_differ, is_native, built_in_at}
use Rattle.mau_api.specs.Terms.{IsNormalTerm}
use Rattle.mau_api.proofs.BuiltIns.{built_ins_are_named}
use Rattle.mau_built_ins.specs.NativeNumerals.{GivesNumerals}
use Rattle.mau_built_ins.specs.Declared.{HasTruthIn, HasAnswersIn, IsDeclaredAsBuilt, AreDeclaredAsBuilt}
use Rattle.mau_built_ins.proofs.NormalTerms.{read_bare, normal_of, read_norm}
use Rattle.mau_built_ins.proofs.Arguments.{reading_over, arguments_normal}
use Rattle.mau_built_ins.specs.Laws.{GivesNormal, AnswersAreInKind, AnswersAreNormal, BuiltInsGiveTheirKind}
use Rattle.mau_built_ins.proofs.FromRows.{lawful_declares}

found_in : (test : Operator → Bool) (os : List Operator) (o : Operator) → find test os ≡ Some o → Contains os o
found_in test [] o e = cc
found_in test (x ∷ os) o e = by (found_in test os o) (test x) e
  where
    by : (find test os ≡ Some o → Contains os o) → (b : Bool) → (if b then Some x else find test os) ≡ Some o → Contains (x ∷ os) o
    by rest true d = (0, omega arith, cc)
    by rest false d = let r = rest d in (suc r.0, omega (arith, r.1), r.2)

module _ (s : SignatureOf) (lawful : IsLawful (terms_over s)) where
  -- a normal form of the kind k
  record IsNormalIn (a : Tree) (k : ℕ) : Type 0 where
    normal : norm (theory_at s) a ≡ a
    bare : IsBareIn (terms_over s) a k

  constant_normal : (c k : ℕ) → IsBareIn (terms_over s) (apply c no_trees) k → IsNormalIn (apply c no_trees) k
  constant_normal c k b = record { normal = by (theory_at s c).comm (theory_at s c).id refl; bare = b }
    where
      no_arguments : (i : Identity) → (theory_at s c).id ≡ Some i → ⊥
      no_arguments i e = subst (AreBareIn (terms_over s) no_trees) ((lawful.unit_kinds c i e).0) b.2

      by : (m : Bool) (u : Option Identity) → (theory_at s c).id ≡ u → finish (theory_at s c).assoc u (theory_at s c).succ c (arrange m []) ≡ apply c no_trees
      by true None e = refl
      by false None e = refl
      by m (Some i) e = absurd (no_arguments i e)

  -- what is built in gives, and takes
  abbrev Fits : ℕ → BuiltIn → Type 0
  Fits f (on_numerals op) = (m n : ℕ) (a : Tree) → m ≤ greatest_numeral → n ≤ greatest_numeral → op m n ≡ value a → IsNormalIn a (result_kind s f)
  Fits f (choice x y) = (k : ℕ) × ((terms_over s).arguments f ≡ k ∷ result_kind s f ∷ result_kind s f ∷ [])
  Fits f (equality x y) = IsNormalIn x (result_kind s f) × IsNormalIn y (result_kind s f)

  constant_in_normal : (j k : ℕ) (w : List ℕ) → IsBareIn (terms_over s) (constant_in s j w) k → IsNormalIn (constant_in s j w) k
  constant_in_normal j k w = by (place_of s.names (constant_of (Word w ∷ []) j))
    where
      by : (o : Option ℕ) → IsBareIn (terms_over s) (elim o [ Some i ↦ apply (suc i) no_trees | None ↦ apply 0 no_trees ]) k → IsNormalIn (elim o [ Some i ↦ apply (suc i) no_trees | None ↦ apply 0 no_trees ]) k
      by None b = constant_normal 0 k b
      by (Some i) b = constant_normal (suc i) k b

  truth_normal : (k : ℕ) → HasTruthIn s k → IsNormalIn (true_in s k) k × IsNormalIn (false_in s k) k
  truth_normal k h = (constant_in_normal k k (codes "true") h.0, constant_in_normal k k (codes "false") h.1)

  answer_fits : (k : ℕ) (g : Gives) → HasAnswersIn s g k → (h : HookAnswer) → ((n : ℕ) → h ≡ Value n → n ≤ greatest_numeral) → (a : Tree) → answer_in g (true_in s k) (false_in s k) h ≡ value a → IsNormalIn a k
  answer_fits k g i NoValue fits a e = cc
  answer_fits k g i Overflow fits a e = cc
  answer_fits k Numbers i (Value n) fits a e = let d : numeral n ≡ a = cc in subst (λ t. IsNormalIn t k) d (record { normal = refl; bare = (fits n refl, i) })
  answer_fits k Truths i (Value n) fits a e = by (n == 1) e
    where
      by : (c : Bool) → value (if c then true_in s k else false_in s k) ≡ value a → IsNormalIn a k
      by true d = let q : true_in s k ≡ a = cc in subst (λ t. IsNormalIn t k) q (truth_normal k i).0
      by false d = let q : false_in s k ≡ a = cc in subst (λ t. IsNormalIn t k) q (truth_normal k i).1

  fits : (hooks : List Operator) → All GivesNumerals hooks → (f : ℕ) → IsDeclaredAsBuilt s f → (b : BuiltIn) → IsBuiltIn s hooks f b → Fits f b
  fits hooks numerals f d _ (is_branch e) = d.branch e
  fits hooks numerals f d _ (is_same e) = truth_normal (result_kind s f) (d.same e)
  fits hooks numerals f d _ (is_differ e) = let t = truth_normal (result_kind s f) (d.differ e) in (t.1, t.0)
  fits hooks numerals f d _ (is_native o n) = λ x y a lx ly e.
      answer_fits (result_kind s f) o.gives (subst (λ g. HasAnswersIn s g (result_kind s f)) n.gives (d.native n.native n.named)) (value_of o.formula x y)
      (λ k q. All-contains GivesNumerals hooks o numerals (found_in (λ w. bytes_eq w.name (name_of n.native)) hooks o n.hook) x y k lx ly q) a e

-- ---- answers

two_numerals : (op : ℕ → ℕ → Answer) (h : Theory) (f : ℕ) (us : List Tree) (a : Tree) → native_on (on_numerals op) h f us ≡ value a →
    (m : ℕ) × (n : ℕ) × (ts : List Tree) × (us ≡ numeral m ∷ numeral n ∷ ts) × (over_rest h f ts (op m n) ≡ value a)
two_numerals op h f (numeral m ∷ numeral n ∷ ts) a e = (m, n, ts, refl, e)
two_numerals op h f _ a e = cc

three_terms : (x y : Tree) (h : Theory) (f : ℕ) (us : List Tree) (a : Tree) → native_on (choice x y) h f us ≡ value a → (c t u : Tree) × (us ≡ c ∷ t ∷ u ∷ []) × ((t ≡ a) ⊎ (u ≡ a))
three_terms x y h f (c ∷ t ∷ u ∷ []) a e = (c, t, u, refl, by (same_tree c x) (same_tree c y) e)
  where
    by : (b d : Bool) → (if b then value t else if d then value u else no_value) ≡ value a → (t ≡ a) ⊎ (u ≡ a)
    by true d q = inl cc
    by false true q = inr cc
    by false false q = cc
three_terms x y h f _ a e = cc

two_terms : (x y : Tree) (h : Theory) (f : ℕ) (us : List Tree) (a : Tree) → native_on (equality x y) h f us ≡ value a → (x ≡ a) ⊎ (y ≡ a)
two_terms x y h f (t ∷ u ∷ []) a e = by (same_tree t u) e
  where
    by : (b : Bool) → value (if b then x else y) ≡ value a → (x ≡ a) ⊎ (y ≡ a)
    by true q = inl cc
    by false q = inr cc
two_terms x y h f _ a e = cc

module _ (s : SignatureOf) (lawful : IsLawful (terms_over s)) where
  -- the value in place of the first two of a list
  rest_bare : (f : ℕ) (x y v t : Tree) (ts : List Tree) (k : ℕ) → (theory_at s f).assoc ≡ true → IsBareIn (terms_over s) (nest true f (x ∷ y ∷ t ∷ ts)) k → IsBareIn (terms_over s) v (result_kind s f) →
      IsBareIn (terms_over s) (nest true f (v ∷ t ∷ ts)) k
  rest_bare f x y v t ts k a b bv =
      let r = (terms_over s).result f in
      let kinds = lawful.assoc_kinds f a in
      let outer = two_bare (terms_over s) f k r r x (nest_from f y (t ∷ ts)) kinds b in
      let inner = two_bare (terms_over s) f r r r y (nest_from f t ts) kinds outer.1 in
      two_made (terms_over s) f k r r x (nest_from f y (t ∷ ts)) v (nest_from f t ts) kinds b bv inner.1

  each_normal : (us : List Tree) → Each (IsNormalTerm s) us → map (norm (theory_at s)) us ≡ us
  each_normal [] n = refl
  each_normal (u ∷ us) n = ap₂ (λ v vs. v ∷ vs) (n.0).normal (each_normal us n.1)

  each_read : (us : List Tree) → Each (IsNormalTerm s) us → map (norm (theory_at s)) (map (reading (theory_at s)) us) ≡ us
  each_read [] n = refl
  each_read (u ∷ us) n = ap₂ (λ v vs. v ∷ vs) (read_norm s lawful u n.0) (each_read us n.1)

  rest_norm : (f : ℕ) (v : Tree) (us : List Tree) → (theory_at s f).assoc ≡ true → norm (theory_at s) v ≡ v → Each (IsNormalTerm s) us →
      norm (theory_at s) (nest true f (v ∷ map (reading (theory_at s)) us)) ≡ build (theory_at s f) f (v ∷ us)
  rest_norm f v us a nv n =
      ap (λ c. norm (theory_at s) (nest c f (v ∷ map (reading (theory_at s)) us))) (sym a)
      ∙ sym (list_stands_for_nested (theory_at s) lawful.theories f (v ∷ map (reading (theory_at s)) us))
      ∙ ap (λ ws. norm (theory_at s) (node f ws)) (ap₂ (λ w ws. w ∷ ws) nv (each_read us n))
      ∙ norm-node (theory_at s) f (v ∷ us)
      ∙ ap (build (theory_at s f) f) (ap₂ (λ w ws. w ∷ ws) nv (each_normal us n))

  of_kind : (k : ℕ) (a : Tree) → IsNormalIn s lawful a k → IsBareIn (terms_over s) (reading (theory_at s) (norm (theory_at s) a)) k
  of_kind k a n = read_bare s lawful a k n.bare

  module _ (f : ℕ) (k : ℕ) (top : result_kind s f ≡ k) where
    rest_answer : (m n : ℕ) (t : Tree) (ts : List Tree) (o : Answer) (a : Tree) → Each (IsNormalTerm s) (t ∷ ts) →
        IsBareIn (terms_over s) (nest (theory_at s f).assoc f (numeral m ∷ numeral n ∷ map (reading (theory_at s)) (t ∷ ts))) k → (theory_at s f).comm ≡ true →
        ((v : Tree) → o ≡ value v → IsNormalIn s lawful v (result_kind s f)) → before_rest (theory_at s f) f (t ∷ ts) o ≡ value a → IsBareIn (terms_over s) (reading (theory_at s) (norm (theory_at s) a)) k
    rest_answer m n t ts no_value a normal b comm fits e = cc
    rest_answer m n t ts too_large a normal b comm fits e = cc
    rest_answer m n t ts (value v) a normal b comm fits e = by (theory_at s f).assoc refl
      where
        built : build (theory_at s f) f (v ∷ t ∷ ts) ≡ a
        built = cc

        by : (c : Bool) → (theory_at s f).assoc ≡ c → IsBareIn (terms_over s) (reading (theory_at s) (norm (theory_at s) a)) k
        by false c =
            let d = lawful.comm_kinds f comm in
            let bs : AreBareIn (terms_over s) (trees_of (numeral m ∷ numeral n ∷ map (reading (theory_at s)) (t ∷ ts))) (d.0 ∷ d.0 ∷ []) =
            subst (AreBareIn (terms_over s) (trees_of (numeral m ∷ numeral n ∷ map (reading (theory_at s)) (t ∷ ts)))) d.1
            (subst (λ z. IsBareIn (terms_over s) (nest z f (numeral m ∷ numeral n ∷ map (reading (theory_at s)) (t ∷ ts))) k) c b).2 in
            absurd bs.1.1
        by true c =
            let fit = fits v refl in
            let w : Tree = nest true f (v ∷ map (reading (theory_at s)) (t ∷ ts)) in
            let bw : IsBareIn (terms_over s) w k =
            rest_bare f (numeral m) (numeral n) v (reading (theory_at s) t) (map (reading (theory_at s)) ts) k c
            (subst (λ z. IsBareIn (terms_over s) (nest z f (numeral m ∷ numeral n ∷ map (reading (theory_at s)) (t ∷ ts))) k) c b) fit.bare in
            let nw : norm (theory_at s) w ≡ a = rest_norm f v (t ∷ ts) c fit.normal normal ∙ built in
            let nn : norm (theory_at s) w ≡ norm (theory_at s) a = sym (norm-norm (theory_at s) lawful.theories w) ∙ ap (norm (theory_at s)) nw in
            subst (λ z. IsBareIn (terms_over s) (reading (theory_at s) z) k) nn (read_bare s lawful w k bw)

    over_rest_answer : (m n : ℕ) (ts : List Tree) (o : Answer) (a : Tree) → Each (IsNormalTerm s) ts →
        IsBareIn (terms_over s) (nest (theory_at s f).assoc f (numeral m ∷ numeral n ∷ map (reading (theory_at s)) ts)) k →
        ((v : Tree) → o ≡ value v → IsNormalIn s lawful v (result_kind s f)) → over_rest (theory_at s f) f ts o ≡ value a → IsBareIn (terms_over s) (reading (theory_at s) (norm (theory_at s) a)) k
    over_rest_answer m n [] o a normal b fits e = subst (IsBareIn (terms_over s) (reading (theory_at s) (norm (theory_at s) a))) top (of_kind (result_kind s f) a (fits a e))
    over_rest_answer m n (t ∷ ts) o a normal b fits e = by (theory_at s f).comm refl e
      where
        by : (c : Bool) → (theory_at s f).comm ≡ c → (if c then before_rest (theory_at s f) f (t ∷ ts) o else no_value) ≡ value a → IsBareIn (terms_over s) (reading (theory_at s) (norm (theory_at s) a)) k
        by false c d = cc
        by true c d = rest_answer m n t ts o a normal b c fits d

    choice_answer : (c t u a : Tree) (j : ℕ) → (terms_over s).arguments f ≡ j ∷ result_kind s f ∷ result_kind s f ∷ [] → Each (IsNormalTerm s) (c ∷ t ∷ u ∷ []) →
        IsBareIn (terms_over s) (nest (theory_at s f).assoc f (map (reading (theory_at s)) (c ∷ t ∷ u ∷ []))) k → (t ≡ a) ⊎ (u ≡ a) → IsBareIn (terms_over s) (reading (theory_at s) (norm (theory_at s) a)) k
    choice_answer c t u a j kinds normal b is = by (theory_at s f).assoc refl b
      where
        r : ℕ
        r = result_kind s f

        at : (v : Tree) → norm (theory_at s) v ≡ v → v ≡ a → IsBareIn (terms_over s) (reading (theory_at s) v) r → IsBareIn (terms_over s) (reading (theory_at s) (norm (theory_at s) a)) k
        at v n e d =
            subst (IsBareIn (terms_over s) (reading (theory_at s) (norm (theory_at s) a))) top
            (subst (λ z. IsBareIn (terms_over s) (reading (theory_at s) z) r) (sym n ∙ ap (norm (theory_at s)) e) d)

        by : (q : Bool) → (theory_at s f).assoc ≡ q → IsBareIn (terms_over s) (nest q f (map (reading (theory_at s)) (c ∷ t ∷ u ∷ []))) k → IsBareIn (terms_over s) (reading (theory_at s) (norm (theory_at s) a)) k
        by true q d = absurd (let e : (terms_over s).result f ∷ (terms_over s).result f ∷ [] ≡ j ∷ result_kind s f ∷ result_kind s f ∷ [] = sym (lawful.assoc_kinds f q) ∙ kinds in cc)
        by false q d =
            let bs : AreBareIn (terms_over s) (trees_of (map (reading (theory_at s)) (c ∷ t ∷ u ∷ []))) (j ∷ r ∷ r ∷ []) = subst (AreBareIn (terms_over s) (trees_of (map (reading (theory_at s)) (c ∷ t ∷ u ∷ [])))) kinds d.2 in
            which bs is
          where
            which : AreBareIn (terms_over s) (trees_of (map (reading (theory_at s)) (c ∷ t ∷ u ∷ []))) (j ∷ r ∷ r ∷ []) → (t ≡ a) ⊎ (u ≡ a) → IsBareIn (terms_over s) (reading (theory_at s) (norm (theory_at s) a)) k
            which bs (inl e) = at t (normal.1.0).normal e bs.1.0
            which bs (inr e) = at u (normal.1.1.0).normal e bs.1.1.0

    numeral_bound : (m : ℕ) → IsNormalTerm s (numeral m) → m ≤ greatest_numeral
    numeral_bound m n = n.term.0.1.0

    -- what b gives over the arguments of a normal form
    answer_kind : (b : BuiltIn) → Fits s lawful f b → (us : List Tree) (a : Tree) → Each (IsNormalTerm s) us → IsBareIn (terms_over s) (nest (theory_at s f).assoc f (map (reading (theory_at s)) us)) k →
        native_on b (theory_at s f) f us ≡ value a → IsBareIn (terms_over s) (reading (theory_at s) (norm (theory_at s) a)) k
    answer_kind (on_numerals op) fits us a normal b e =
        let d = two_numerals op (theory_at s f) f us a e in
        let n : Each (IsNormalTerm s) (numeral d.0 ∷ numeral d.1 ∷ d.2) = subst (Each (IsNormalTerm s)) d.3 normal in
        let c : IsBareIn (terms_over s) (nest (theory_at s f).assoc f (map (reading (theory_at s)) (numeral d.0 ∷ numeral d.1 ∷ d.2))) k =
        subst (λ ws. IsBareIn (terms_over s) (nest (theory_at s f).assoc f (map (reading (theory_at s)) ws)) k) d.3 b in
        over_rest_answer d.0 d.1 d.2 (op d.0 d.1) a n.1.1 c (λ v q. fits d.0 d.1 v (numeral_bound d.0 n.0) (numeral_bound d.1 n.1.0) q) d.4
    answer_kind (choice x y) fits us a normal b e =
        let d = three_terms x y (theory_at s f) f us a e in
        choice_answer d.0 d.1 d.2 a fits.0 fits.1 (subst (Each (IsNormalTerm s)) d.3 normal) (subst (λ ws. IsBareIn (terms_over s) (nest (theory_at s f).assoc f (map (reading (theory_at s)) ws)) k) d.3 b) d.4
    answer_kind (equality x y) fits us a normal b e = by (two_terms x y (theory_at s f) f us a e)
      where
        by : (x ≡ a) ⊎ (y ≡ a) → IsBareIn (terms_over s) (reading (theory_at s) (norm (theory_at s) a)) k
        by (inl d) = subst (IsBareIn (terms_over s) (reading (theory_at s) (norm (theory_at s) a))) top (of_kind (result_kind s f) a (subst (λ z. IsNormalIn s lawful z (result_kind s f)) d fits.0))
        by (inr d) = subst (IsBareIn (terms_over s) (reading (theory_at s) (norm (theory_at s) a))) top (of_kind (result_kind s f) a (subst (λ z. IsNormalIn s lawful z (result_kind s f)) d fits.1))

pub answers_in_kind : (p : Program) (hooks : List Operator) → IsLawful (terms_over p.sig) → AreDeclaredAsBuilt p.sig → All GivesNumerals hooks → AnswersAreInKind p hooks
answers_in_kind p hooks lawful declared numerals f us a k n b e = by (built_in_at p.sig hooks f) refl e
  where
    top : ((terms_over p.sig).has_operator f ≡ true) × ((terms_over p.sig).result f ≡ k)
    top = reading_top (terms_over p.sig) f (trees_of us) k (normal_of p.sig lawful (apply f (trees_of us)) n) b

    by : (o : Option BuiltIn) → built_in_at p.sig hooks f ≡ o → native_by o (theory_at p.sig f) f us ≡ value a → IsBareIn (terms_over p.sig) (reading (theory_at p.sig) (norm (theory_at p.sig) a)) k
    by None q d = cc
    by (Some x) q d =
        answer_kind p.sig lawful f k top.1 x (fits p.sig lawful hooks numerals f (declared f (is_operator p.sig f top.0)) x ((built_ins_are_named p.sig hooks f x).0 q)) us a (arguments_normal p.sig lawful f us n)
        (subst (λ t. IsBareIn (terms_over p.sig) t k) (reading_over p.sig lawful f us) b) d

-- and normal forms, but for an argument or a whole list
pub answers_normal : (p : Program) (hooks : List Operator) → IsLawful (terms_over p.sig) → AreDeclaredAsBuilt p.sig → All GivesNumerals hooks → AnswersAreNormal p hooks
answers_normal p hooks lawful declared numerals f b there e = by b (fits p.sig lawful hooks numerals f (declared f there) b ((built_ins_are_named p.sig hooks f b).0 e))
  where
    by : (b : BuiltIn) → Fits p.sig lawful f b → GivesNormal p.sig b
    by (on_numerals op) d = λ m n a h k g. (d m n a h k g).normal
    by (choice x y) d = tt
    by (equality x y) d = ((d.0).normal, (d.1).normal)

pub built_ins_give_their_kind : BuiltInsGiveTheirKind
built_ins_give_their_kind p l lawful hooks numerals =
    let declared = lawful_declares p l in
    (answers_in_kind p hooks lawful declared numerals, answers_normal p hooks lawful declared numerals)
