-- Kinds of normal forms that are read as bare terms.
use Rattle.std.proofs.Common.{◌≡◌, ℕ, zero, suc, ◌≤◌, ◌<◌, List, [], ◌∷◌, true, false, All, Option, None, Some, map, length, take, get_or, Bool, refl, sym, ap, ap₂, subst, arith}
use Rattle.std.proofs.lemmas.List.Elements.{All-nil, All-cons, All-head, All-tail}
use Rattle.mau_terms.specs.Tree.{Tree, no_trees, tree, node, trees_of}
use Rattle.mau_terms.specs.Depth.{depth, list_depth}
use Rattle.mau_terms.specs.Bare.{TermSignature, IsBareIn, AreBareIn, IsBare, IsLawful}
use Rattle.mau_terms.specs.Reading.{reading, readings, nest_from, nest}
use Rattle.std.specs.Bool.{MatchBool}
use Rattle.mau_terms.specs.Norm.{norm, finish}
use Rattle.mau_terms.specs.declared.ids.TermId.{TermId}
use Rattle.mau_terms.specs.declared.theory.Identity.{Identity}
use Rattle.mau_terms.specs.declared.theory.Theory.{Theory}
use Rattle.mau_terms.proofs.Normal.{IsNormal, norm_normal}
use Rattle.mau_signature.specs.Signature.{SignatureOf, IsOperator, theory_at, terms_over}
use Rattle.mau_signature.proofs.Operators.{is_operator}
use Rattle.mau_trial.specs.Arguments.{AreArguments}
use Rattle.mau_store.specs.Node.{Node}
use Rattle.mau_store.specs.Trees.{tree_at, trees_at}
use Rattle.mau_store.specs.View.{numbers}
use Rattle.mau_store.proofs.Depths.{depth-node}

pub take_whole : {A : Type 0} (xs : List A) (n : ℕ) → length xs ≤ n → take n xs ≡ xs
take_whole [] zero h = refl
take_whole [] (suc n) h = refl
take_whole (x ∷ xs) zero h = absurd (omega arith)
take_whole (x ∷ xs) (suc n) h = ap (λ ys. x ∷ ys) (take_whole xs n (omega arith))

-- ---- numbers in a list

pub number_depth : (nodes : List Node) (ids : List TermId) (i : ℕ) (d : TermId) → i < length ids → depth (tree_at nodes (get_or ids i d).0) ≤ list_depth (trees_at nodes (numbers ids))
number_depth nodes [] i d h = absurd (omega arith)
number_depth nodes (x ∷ ids) zero d h = omega arith
number_depth nodes (x ∷ ids) (suc i) d h = omega (arith, number_depth nodes ids i d (omega arith))

module _ (nodes : List Node) (P : Tree → Type 0) where
  pub all_more : (ids : List TermId) (i : ℕ) (d : TermId) → i < length ids → All P (trees_at nodes (numbers (take i ids))) → P (tree_at nodes (get_or ids i d).0) → All P (trees_at nodes (numbers (take (suc i) ids)))
  all_more [] i d h all p = absurd (omega arith)
  all_more (x ∷ ids) zero d h all p = All-cons P (tree_at nodes x.0) [] p (All-nil P)
  all_more (x ∷ ids) (suc i) d h all p =
      All-cons P (tree_at nodes x.0) (trees_at nodes (numbers (take (suc i) ids))) (All-head P (tree_at nodes x.0) (trees_at nodes (numbers (take i ids))) all)
      (all_more ids i d (omega arith) (All-tail P (tree_at nodes x.0) (trees_at nodes (numbers (take i ids))) all) p)

  pub all_at : (ids : List TermId) (i : ℕ) (d : TermId) → i < length ids → All P (trees_at nodes (numbers ids)) → P (tree_at nodes (get_or ids i d).0)
  all_at [] i d h all = absurd (omega arith)
  all_at (x ∷ ids) zero d h all = All-head P (tree_at nodes x.0) (trees_at nodes (numbers ids)) all
  all_at (x ∷ ids) (suc i) d h all = all_at ids i d (omega arith) (All-tail P (tree_at nodes x.0) (trees_at nodes (numbers ids)) all)

module _ (s : TermSignature) (R : Tree → Tree) (kind : ℕ → ℕ) (nodes : List Node) where
  pub bare_more : (ids : List TermId) (ss : List ℕ) (i : ℕ) (d : TermId) (e : ℕ) → i < length ids → i < length ss → AreBareIn s (trees_of (map R (trees_at nodes (numbers (take i ids))))) (map kind (take i ss))
      → IsBareIn s (R (tree_at nodes (get_or ids i d).0)) (kind (get_or ss i e)) → AreBareIn s (trees_of (map R (trees_at nodes (numbers (take (suc i) ids))))) (map kind (take (suc i) ss))
  bare_more [] ss i d e h k all b = absurd (omega arith)
  bare_more (x ∷ ids) [] i d e h k all b = absurd (omega arith)
  bare_more (x ∷ ids) (r ∷ ss) zero d e h k all b = (b, tt)
  bare_more (x ∷ ids) (r ∷ ss) (suc i) d e h k all b = (all.0, bare_more ids ss i d e (omega arith) (omega arith) all.1 b)

  pub bare_at : (ids : List TermId) (ss : List ℕ) (i : ℕ) (d : TermId) (e : ℕ) → i < length ids → AreBareIn s (trees_of (map R (trees_at nodes (numbers ids)))) (map kind ss) → IsBareIn s (R (tree_at nodes (get_or ids i d).0)) (kind (get_or ss i e))
  bare_at [] ss i d e h all = absurd (omega arith)
  bare_at (x ∷ ids) [] i d e h all = absurd all
  bare_at (x ∷ ids) (r ∷ ss) zero d e h all = all.0
  bare_at (x ∷ ids) (r ∷ ss) (suc i) d e h all = bare_at ids ss i d e (omega arith) all.1

  pub as_many : (ids : List TermId) (ss : List ℕ) → AreBareIn s (trees_of (map R (trees_at nodes (numbers ids)))) (map kind ss) → length ids ≡ length ss
  as_many [] [] all = refl
  as_many [] (r ∷ ss) all = absurd all
  as_many (x ∷ ids) [] all = absurd all
  as_many (x ∷ ids) (r ∷ ss) all = ap suc (as_many ids ss all.1)

-- ---- lists

module _ (s : TermSignature) (lawful : IsLawful s) (f : ℕ) (a : (s.theory f).assoc ≡ true) (R : Tree → Tree) where
  abbrev r : ℕ
  r = s.result f

  abbrev Each : List Tree → Type 0
  Each ts = All (λ t. IsBareIn s (R t) (s.result f)) ts

  pub nest_bare : (t : Tree) (ts : List Tree) → s.has_operator f ≡ true → Each (t ∷ ts) → IsBareIn s (nest_from f (R t) (map R ts)) (s.result f)
  nest_bare t [] op all = All-head (λ u. IsBareIn s (R u) (s.result f)) t [] all
  nest_bare t (u ∷ ts) op all = (
    op,
    refl,
    subst (AreBareIn s (tree (R t) (tree (nest_from f (R u) (map R ts)) no_trees))) (sym (lawful.assoc_kinds f a))
        (All-head (λ v. IsBareIn s (R v) (s.result f)) t (u ∷ ts) all, (nest_bare u ts op (All-tail (λ v. IsBareIn s (R v) (s.result f)) t (u ∷ ts) all), tt)),
  )

  pub bare_nest : (t u : Tree) (ts : List Tree) (k : ℕ) → IsBareIn s (nest_from f (R t) (map R (u ∷ ts))) k → (s.result f ≡ k) × Each (t ∷ u ∷ ts)
  bare_nest t u [] k b =
      let both = subst (AreBareIn s (tree (R t) (tree (R u) no_trees))) (lawful.assoc_kinds f a) b.2 in
      (b.1, All-cons (λ v. IsBareIn s (R v) (s.result f)) t (u ∷ []) both.0 (All-cons (λ v. IsBareIn s (R v) (s.result f)) u [] both.1.0 (All-nil (λ v. IsBareIn s (R v) (s.result f)))))
  bare_nest t u (w ∷ ts) k b =
      let both = subst (AreBareIn s (tree (R t) (tree (nest_from f (R u) (map R (w ∷ ts))) no_trees))) (lawful.assoc_kinds f a) b.2 in
      (b.1, All-cons (λ v. IsBareIn s (R v) (s.result f)) t (u ∷ w ∷ ts) both.0 (bare_nest u w ts (s.result f) both.1.0).1)

  pub no_list : ¬ IsBare s (nest true f (map R []))
  no_list b = subst (AreBareIn s no_trees) (lawful.assoc_kinds f a) b.1.2

-- ---- readings

pub reading_node : (th : ℕ → Theory) (a : Bool) (f : ℕ) (ts : List Tree) → (th f).assoc ≡ a → reading th (node f ts) ≡ nest a f (map (reading th) ts)
reading_node th a f ts e = ap₂ (λ b us. nest b f us) e (go ts)
  where
    go : (us : List Tree) → readings th (trees_of us) ≡ map (reading th) us
    go [] = refl
    go (u ∷ us) = ap (λ vs. reading th u ∷ vs) (go us)

-- a list of two or more is of the kind of its operator, or of none
module _ (s : TermSignature) (lawful : IsLawful s) (f : ℕ) (op : s.has_operator f ≡ true) (a : (s.theory f).assoc ≡ true) (R : Tree → Tree) where
  pub two_of_kind : (ts : List Tree) → 2 ≤ length ts → All (λ t. IsBareIn s (R t) (s.result f)) ts → IsBareIn s (nest true f (map R ts)) (s.result f)
  two_of_kind [] h all = absurd (omega arith)
  two_of_kind (t ∷ ts) h all = nest_bare s lawful f a R t ts op all

  pub kind_of_two : (ts : List Tree) → 2 ≤ length ts → IsBare s (nest true f (map R ts)) → All (λ t. IsBareIn s (R t) (s.result f)) ts
  kind_of_two [] h b = absurd (omega arith)
  kind_of_two (t ∷ []) h b = absurd (omega arith)
  kind_of_two (t ∷ u ∷ ts) h b = (bare_nest s lawful f a R t u ts b.0 b.1).1

-- ---- an operator over normal forms

module _ (s : SignatureOf) (lawful : IsLawful (terms_over s)) (f : ℕ) where
  abbrev th : ℕ → Theory
  th = theory_at s

  -- one element is no list
  lone : (t : Tree) → (th f).assoc ≡ true → norm th (node f (t ∷ [])) ≡ node f (t ∷ []) → ⊥
  lone t a n = deep (th f).id (subst (λ b. finish b (th f).id (th f).succ f (t ∷ []) ≡ node f (t ∷ [])) a normal.1.long)
    where
      normal : IsNormal th (node f (t ∷ []))
      normal = subst (IsNormal th) n (norm_normal th lawful.theories (node f (t ∷ [])))

      deep : (u : Option Identity) → finish true u (th f).succ f (t ∷ []) ≡ node f (t ∷ []) → ⊥
      deep None k = let d : depth t ≡ depth (node f (t ∷ [])) = ap depth k in omega (arith, d, depth-node f (t ∷ []))
      deep (Some i) k = let d : depth t ≡ depth (node f (t ∷ [])) = ap depth k in omega (arith, d, depth-node f (t ∷ []))

  module _ (ts : List Tree) (n : norm th (node f ts) ≡ node f ts) where
    -- what is read as a bare term is of an operator
    pub bare_operator : IsBare (terms_over s) (reading th (node f ts)) → IsOperator s f
    bare_operator b = by (th f).assoc refl ts n (subst (IsBare (terms_over s)) (reading_node th (th f).assoc f ts refl) b)
      where
        by : (a : Bool) → (th f).assoc ≡ a → (us : List Tree) → norm th (node f us) ≡ node f us → IsBare (terms_over s) (nest a f (map (reading th) us)) → IsOperator s f
        by false e us k h = is_operator s f h.1.0
        by true e [] k h = is_operator s f h.1.0
        by true e (u ∷ []) k h = absurd (lone u e k)
        by true e (u ∷ v ∷ us) k h = is_operator s f h.1.0

    pub bare_arguments : IsBare (terms_over s) (reading th (node f ts)) → AreArguments s f ts
    bare_arguments b = by (th f).assoc refl ts n (subst (IsBare (terms_over s)) (reading_node th (th f).assoc f ts refl) b)
      where
        by : (a : Bool) → (th f).assoc ≡ a → (us : List Tree) → norm th (node f us) ≡ node f us → IsBare (terms_over s) (nest a f (map (reading th) us))
            → MatchBool a ((2 ≤ length us) × All (λ t. IsBareIn (terms_over s) (reading th t) ((terms_over s).result f)) us) (AreBareIn (terms_over s) (trees_of (map (reading th) us)) ((terms_over s).arguments f))
        by false e us k h = h.1.2
        by true e [] k h = absurd (no_list (terms_over s) lawful f e (reading th) h)
        by true e (u ∷ []) k h = absurd (lone u e k)
        by true e (u ∷ v ∷ us) k h = (omega arith, (bare_nest (terms_over s) lawful f e (reading th) u v us h.0 h.1).1)

    pub arguments_bare : (terms_over s).has_operator f ≡ true → AreArguments s f ts → IsBareIn (terms_over s) (reading th (node f ts)) ((terms_over s).result f)
    arguments_bare op args = subst (λ t. IsBareIn (terms_over s) t ((terms_over s).result f)) (sym (reading_node th (th f).assoc f ts refl)) (by (th f).assoc refl ts args)
      where
        by : (a : Bool) → (th f).assoc ≡ a → (us : List Tree)
            → MatchBool a ((2 ≤ length us) × All (λ t. IsBareIn (terms_over s) (reading th t) ((terms_over s).result f)) us) (AreBareIn (terms_over s) (trees_of (map (reading th) us)) ((terms_over s).arguments f))
            → IsBareIn (terms_over s) (nest a f (map (reading th) us)) ((terms_over s).result f)
        by false e us h = (op, refl, h)
        by true e us h = two_of_kind (terms_over s) lawful f op e (reading th) us h.0 h.1
