-- An operator that has no identity and is not the successor stays on top of a normal form, so the left side of an equation with such an operator on top
-- matches nothing that has another one there.
use Rattle.std.proofs.Common.{◌≡◌, ℕ, ◌≤◌, ◌==◌, List, [], ◌∷◌, ◌++◌, length, map, All, Bool, true, false, if◌then◌else◌, Option, Some, None, refl, sym, ap, ◌∙◌, subst, arith, eq-eqb, eqb-true}
use Rattle.std.specs.Bool.{MatchBool}
use Rattle.std.proofs.lemmas.List.{length-append}
use Rattle.mau_terms.specs.Tree.{Tree, variable, numeral, apply, Trees, no_trees, tree, node, list_of, trees_of}
use Rattle.mau_terms.specs.Norm.{norm, norms, finish, arrange, pieces, all_pieces, elements, is_unit}
use Rattle.mau_terms.specs.Bare.{IsBare, IsBareIn, AreBareIn, IsLawful}
use Rattle.mau_terms.specs.Reading.{reading}
use Rattle.mau_terms.specs.Subst.{variables, value_at, instances}
use Rattle.mau_terms.specs.Solution.{FitsAt, FitsUnder, FitsWithin, assoc_top, list_under, over_list}
use Rattle.mau_terms.specs.declared.theory.Theory.{Theory}
use Rattle.mau_terms.proofs.Chains.{first_bare}
use Rattle.mau_terms.proofs.Finite.{length-arrange}
use Rattle.mau_terms.proofs.Law.{equal_norm}
use Rattle.mau_terms.proofs.Normal.{finish_long, norm_normal, normal_fixed}
use Rattle.mau_terms.proofs.Pieces.{list_of-trees_of, trees_of-list_of}
use Rattle.mau_signature.specs.Signature.{SignatureOf, theory_at, terms_over}
use Rattle.mau_trial.proofs.OfKind.{bare_arguments}
use Rattle.mau_reduce.specs.ByTop.{top_number}
use Rattle.mau_reduce.proofs.KindsKept.{kind_of_norm}

module _ (s : SignatureOf) (lawful : IsLawful (terms_over s)) (f : ℕ) (no_id : (theory_at s f).id ≡ None) (no_succ : (theory_at s f).succ ≡ false) where
  abbrev th : ℕ → Theory
  th = theory_at s

  -- ---- under an associative operator

  -- a list has two elements or more
  long_list : (th f).assoc ≡ true → (us : List Tree) → norm th (node f us) ≡ node f us → IsBare (terms_over s) (reading th (node f us)) → 2 ≤ length us
  long_list a us n b =
      (subst (λ c. MatchBool c ((2 ≤ length us) × All (λ t. IsBareIn (terms_over s) (reading th t) ((terms_over s).result f)) us) (AreBareIn (terms_over s) (trees_of (map (reading th) us)) ((terms_over s).arguments f))) a
      (bare_arguments s lawful f us n b)).0

  some : (th f).assoc ≡ true → (t : Tree) → norm th t ≡ t → IsBare (terms_over s) (reading th t) → 1 ≤ length (elements true f t)
  some a (variable i r) n b = omega arith
  some a (numeral m) n b = omega arith
  some a (apply g us) n b = by (g == f) refl
    where
      by : (c : Bool) → (g == f) ≡ c → 1 ≤ length (if c then list_of us else apply g us ∷ [])
      by false e = omega arith
      by true e =
          let same : g ≡ f = eqb-true g f e in
          let whole : apply f us ≡ node f (list_of us) = ap (apply f) (sym (trees_of-list_of us)) in
          let m : norm th (node f (list_of us)) ≡ node f (list_of us) = subst (λ t. norm th t ≡ t) whole (subst (λ h. norm th (apply h us) ≡ apply h us) same n) in
          let two = long_list a (list_of us) m (subst (λ t. IsBare (terms_over s) (reading th t)) whole (subst (λ h. IsBare (terms_over s) (reading th (apply h us))) same b)) in
          omega (arith, two)

  -- ---- what is built

  record Stands (t : Tree) : Type 0 where
    pub args : List Tree
    pub is : t ≡ node f args
    pub long : (th f).assoc ≡ true → 2 ≤ length args

  finish_firm : (a : Bool) (xs : List Tree) → (a ≡ true → 2 ≤ length xs) → finish a None false f xs ≡ node f xs
  finish_firm true [] h = absurd (omega (arith, h refl))
  finish_firm true (x ∷ []) h = absurd (omega (arith, h refl))
  finish_firm false [] h = refl
  finish_firm false (variable i r ∷ []) h = refl
  finish_firm false (numeral m ∷ []) h = refl
  finish_firm false (apply g us ∷ []) h = refl
  finish_firm true (x ∷ y ∷ xs) h = finish_long true None false f x y xs
  finish_firm false (x ∷ y ∷ xs) h = finish_long false None false f x y xs

  finished : (xs : List Tree) → ((th f).assoc ≡ true → 2 ≤ length xs) → Stands (over_list (th f) f xs)
  finished xs h = record {
    args = arrange (th f).comm xs;
    is =
        ap (λ o. finish (th f).assoc o (th f).succ f (arrange (th f).comm xs)) no_id
        ∙ (ap (λ c. finish (th f).assoc None c f (arrange (th f).comm xs)) no_succ
        ∙ finish_firm (th f).assoc (arrange (th f).comm xs) (λ a. let k = h a in omega (arith, k, length-arrange (th f).comm xs)));
    long = λ a. let k = h a in omega (arith, k, length-arrange (th f).comm xs);
  }

  abbrev bits : Tree → List Tree
  bits t = pieces (th f).assoc (th f).id f t

  bits_some : (th f).assoc ≡ true → (t : Tree) → norm th t ≡ t → IsBare (terms_over s) (reading th t) → 1 ≤ length (bits t)
  bits_some a t n b =
      subst (λ o. 1 ≤ length (pieces (th f).assoc o f t)) (sym no_id) (subst (λ c. 1 ≤ length (if is_unit None t then [] else elements c f t)) (sym a) (by t (some a t n b)))
    where
      by : (t : Tree) → 1 ≤ length (elements true f t) → 1 ≤ length (if is_unit None t then [] else elements true f t)
      by (variable i r) h = h
      by (numeral m) h = h
      by (apply g us) h = h

  -- the normal form of a bare term with f on top
  built : (qs : Trees) → IsBare (terms_over s) (apply f qs) → Stands (norm th (apply f qs))
  built qs b = finished (all_pieces (th f).assoc (th f).id f (norms th qs)) long
    where
      normal : (q : Tree) (k : ℕ) → IsBareIn (terms_over s) q k → (norm th (norm th q) ≡ norm th q) × IsBare (terms_over s) (reading th (norm th q))
      normal q k c = (normal_fixed th (norm th q) (norm_normal th lawful.theories q), (k, kind_of_norm (terms_over s) lawful q k c))

      two : (qs : Trees) (k : ℕ) → (th f).assoc ≡ true → AreBareIn (terms_over s) qs (k ∷ k ∷ []) → 2 ≤ length (all_pieces (th f).assoc (th f).id f (norms th qs))
      two no_trees k a c = absurd c
      two (tree q no_trees) k a c = absurd c.1
      two (tree q (tree r no_trees)) k a c =
          let one = normal q k c.0 in
          let other = normal r k c.1.0 in
          let first = bits_some a (norm th q) one.0 one.1 in
          let second = bits_some a (norm th r) other.0 other.1 in
          omega (arith, first, second, length-append (bits (norm th q)) (bits (norm th r) ++ []), length-append (bits (norm th r)) [])
      two (tree q (tree r (tree z qs))) k a c = absurd c.1.1

      long : (th f).assoc ≡ true → 2 ≤ length (all_pieces (th f).assoc (th f).id f (norms th qs))
      long a = two qs ((terms_over s).result f) a (subst (AreBareIn (terms_over s) qs) (lawful.assoc_kinds f a) b.1.2)

  top_of_one : (t : Tree) → Stands t → top_number t ≡ f
  top_of_one t h = ap top_number h.is

  -- ---- solutions

  module _ (ps : Trees) (bare : IsBare (terms_over s) (apply f ps)) (u : Tree) (vs left right : List Tree) where
    -- the top of the pattern's normal form
    whole_top : (g : ℕ) → assoc_top th (norm th (apply f ps)) ≡ Some g → (g ≡ f) × ((th f).assoc ≡ true)
    whole_top g e = by (norm th (apply f ps)) (built ps bare).is e
      where
        by : (t : Tree) → t ≡ node f (built ps bare).args → assoc_top th t ≡ Some g → (g ≡ f) × ((th f).assoc ≡ true)
        by t i e = of (th f).assoc refl (sym (ap (assoc_top th) i) ∙ e)
          where
            of : (c : Bool) → (th f).assoc ≡ c → (if c then Some f else None) ≡ Some g → (g ≡ f) × ((th f).assoc ≡ true)
            of true a k = (cc, a)
            of false a k = cc

    abbrev qs : Trees
    qs = instances (value_at (variables (apply f ps)) vs) ps

    its_list : (t : Tree) → (th f).assoc ≡ true → Stands t → 2 ≤ length (list_under (th f) f t)
    its_list t a h =
        subst (λ w. 2 ≤ length (list_under (th f) f w)) (sym h.is)
        (subst (λ o. 2 ≤ length (pieces (th f).assoc o f (node f h.args))) (sym no_id)
        (subst (λ c. 2 ≤ length (if is_unit None (node f h.args) then [] else elements c f (node f h.args))) (sym a) (listed (f == f) (eq-eqb f f refl))))
      where
        listed : (c : Bool) → c ≡ true → 2 ≤ length (if c then list_of (trees_of h.args) else node f h.args ∷ [])
        listed true e = subst (λ us. 2 ≤ length us) (sym (list_of-trees_of h.args)) (h.long a)
        listed false e = cc

    pub at_top : FitsWithin (terms_over s) (apply f ps) u vs left right → top_number (norm th u) ≡ f
    at_top = by (assoc_top th (norm th (apply f ps))) refl
      where
        by : (o : Option ℕ) → assoc_top th (norm th (apply f ps)) ≡ o → FitsAt (terms_over s) o (apply f ps) u vs left right → top_number (norm th u) ≡ f
        by None e h =
            let one = built qs (first_bare h.0.equal) in
            ap top_number (sym (equal_norm (terms_over s) lawful h.0.equal)) ∙ top_of_one (norm th (apply f qs)) one
        by (Some g) e h =
            let w = whole_top g e in
            let k : FitsUnder (terms_over s) f (apply f ps) u vs left right = subst (λ x. FitsUnder (terms_over s) x (apply f ps) u vs left right) w.0 h in
            let one = built qs k.bare in
            let inner = list_under (th f) f (norm th (apply f qs)) in
            let two = its_list (norm th (apply f qs)) w.1 one in
            let all = finished (left ++ (inner ++ right)) (λ a. omega (arith, two, length-append left (inner ++ right), length-append inner right)) in
            ap top_number k.whole ∙ top_of_one (over_list (th f) f (left ++ (inner ++ right))) all
