-- What a term can take as an argument of an associative operator: the values of the part of its list that reaches anywhere, but not the
-- whole where the operator has no identity.
use Rattle.std.proofs.Common.{◌≡◌, ℕ, ◌+◌, ◌≤◌, List, [], ◌∷◌, ◌++◌, map, length, Bool, true, false, Option, Some, None, inl, inr, refl, sym, ◌∙◌, ap, ap₂, subst, arith, append_assoc, append-nil, length-append}
use Rattle.mau_terms.specs.Tree.{Tree, apply, Trees, no_trees, tree, node, list_of, trees_of}
use Rattle.mau_terms.specs.Norm.{unit_tree, pieces, all_pieces, arrange, finish, build, norm}
use Rattle.mau_terms.specs.Reading.{nest_from, nest, reading, readings}
use Rattle.mau_terms.specs.Bare.{TermSignature, IsBareIn, AreBareIn, IsBare, IsLawful}
use Rattle.mau_terms.specs.CanTake.{CanTakeNormal}
use Rattle.mau_terms.specs.Solution.{list_under, over_list}
use Rattle.mau_terms.specs.Finite.{IsIn, units_of}
use Rattle.mau_terms.specs.declared.theory.Identity.{Identity}
use Rattle.mau_terms.specs.declared.theory.Identity.TheVariants.{Const, Num}
use Rattle.mau_terms.specs.declared.theory.Theory.{Theory}
use Rattle.mau_terms.proofs.Pieces.{Split, unit, many, one, split, Each, Each-append, list_of-trees_of, IsPiece, arrange-arrange, unit-pieces}
use Rattle.mau_terms.proofs.Normal.{IsNormal, norm_normal, normal_fixed, pieces_all, whole_pieces, normal_pieces, whole_all_pieces, unit_normal, finish_long}
use Rattle.mau_terms.proofs.Solutions.{list_of_made}
use Rattle.mau_terms.proofs.Finite.{over_its_list, finish_true_one, in_left, in_right, in_arrange, length-arrange, each_in}
use Rattle.mau_terms.proofs.Leads.{two_bare}
use Rattle.mau_terms.proofs.Law.{equal_reading}
use Rattle.mau_terms.proofs.Taken.{norm-nest, are_normal}
use Rattle.mau_terms.proofs.Wholes.{norm-reading}
use Rattle.mau_terms.specs.Bare.{EqualModulo, same_term, one_step}
use Rattle.mau_domains.specs.Parts.{inside, some_of}
use Rattle.mau_domains.specs.Values.{IsValueOf}

-- ---- lists of several terms, joined

module _ (b : Bool) (u : Option Identity) (f : ℕ) where
  -- the list of one of them stands between others
  pieces_between : (zs : List Tree) (v : Tree) → IsIn v zs → (left : List Tree) × (right : List Tree) × (all_pieces b u f zs ≡ left ++ (pieces b u f v ++ right))
  pieces_between [] v h = absurd h
  pieces_between (z ∷ zs) v (inl e) = ([], all_pieces b u f zs, ap (λ w. pieces b u f w ++ all_pieces b u f zs) (sym e))
  pieces_between (z ∷ zs) v (inr h) =
      let p = pieces_between zs v h in
      (pieces b u f z ++ p.0, p.1, ap (λ w. pieces b u f z ++ w) p.2 ∙ sym (append_assoc (pieces b u f z) p.0 (pieces b u f v ++ p.1)))

  joined : (zs ws : List Tree) → all_pieces b u f (zs ++ ws) ≡ all_pieces b u f zs ++ all_pieces b u f ws
  joined [] ws = refl
  joined (z ∷ zs) ws = ap (λ w. pieces b u f z ++ w) (joined zs ws) ∙ sym (append_assoc (pieces b u f z) (all_pieces b u f zs) (all_pieces b u f ws))

  abbrev HasSome : Tree → Type 0
  HasSome z = pieces b u f z ≡ [] → ⊥

  some_length : (l : List Tree) → (l ≡ [] → ⊥) → 1 ≤ length l
  some_length [] h = absurd (h refl)
  some_length (t ∷ l) h = omega arith

  count : (zs : List Tree) → Each HasSome zs → length zs ≤ length (all_pieces b u f zs)
  count [] h = omega arith
  count (z ∷ zs) h = omega (arith, some_length (pieces b u f z) h.0, count zs h.1, length-append (pieces b u f z) (all_pieces b u f zs))

  -- beside one of two or more there is an element of another
  less : (zs : List Tree) (v : Tree) → IsIn v zs → Each HasSome zs → length (pieces b u f v) + length zs ≤ length (all_pieces b u f zs) + 1
  less [] v h s = absurd h
  less (z ∷ zs) v (inl e) s =
      let k : length (pieces b u f v) ≡ length (pieces b u f z) = ap (λ w. length (pieces b u f w)) e in
      omega (arith, k, count zs s.1, length-append (pieces b u f z) (all_pieces b u f zs))
  less (z ∷ zs) v (inr h) s = omega (arith, some_length (pieces b u f z) s.0, less zs v h s.1, length-append (pieces b u f z) (all_pieces b u f zs))

-- ---- readings

module _ (s : TermSignature) where
  pub readings_map : (ts : Trees) → readings s.theory ts ≡ map (reading s.theory) (list_of ts)
  readings_map no_trees = refl
  readings_map (tree t ts) = ap (λ w. reading s.theory t ∷ w) (readings_map ts)

  pub reading_unit : (i : Identity) → reading s.theory (unit_tree i) ≡ unit_tree i
  reading_unit (Const c) = by (s.theory c.0).assoc
    where
      by : (d : Bool) → nest d c.0 [] ≡ apply c.0 no_trees
      by true = refl
      by false = refl
  reading_unit (Num n) = refl

  pub norms_of_readings : IsLawful s → (ts : List Tree) → Each (IsNormal s.theory) ts → map (norm s.theory) (map (reading s.theory) ts) ≡ ts
  norms_of_readings lawful [] n = refl
  norms_of_readings lawful (t ∷ ts) n = ap₂ (λ v w. v ∷ w) (norm-reading s.theory lawful.theories t n.0) (norms_of_readings lawful ts n.1)

-- ---- bare terms

bare_end : (s : TermSignature) {t u : Tree} → EqualModulo s t u → IsBare s u
bare_end s (same_term b) = b
bare_end s (one_step b x p) = bare_end s p

module _ (s : TermSignature) (lawful : IsLawful s) (f : ℕ) (a : (s.theory f).assoc ≡ true) where
  abbrev th : ℕ → Theory
  th = s.theory

  abbrev r : ℕ
  r = s.result f

  abbrev P : Tree → Type 0
  P = IsPiece (s.theory f).assoc (s.theory f).id f

  -- no bare term has the empty list as its normal form
  never_empty : (t : Tree) → IsBare s t → norm s.theory t ≡ apply f no_trees → ⊥
  never_empty t b e = by (subst (λ w. IsBare s (reading s.theory w)) e (bare_end s (equal_reading s lawful t b)))
    where
      by : IsBare s (reading s.theory (apply f no_trees)) → ⊥
      by h =
          let b' : IsBare s (apply f no_trees) = subst (λ c. IsBare s (nest c f [])) a h in
          subst (AreBareIn s no_trees) (lawful.assoc_kinds f a) b'.1.2

  pub bare_filled : (t : Tree) → IsBare s t → (s.theory f).id ≡ None → list_under (s.theory f) f (norm s.theory t) ≡ [] → ⊥
  bare_filled t b n e = by (split (s.theory f).assoc (s.theory f).id f (norm s.theory t))
    where
      by : Split (s.theory f).assoc (s.theory f).id f (norm s.theory t) → ⊥
      by (unit i u k p) = cc
      by (one p) = cc
      by (many ts h k p) = none ts (sym p ∙ e) k
        where
          none : (ts : Trees) → list_of ts ≡ [] → norm s.theory t ≡ apply f ts → ⊥
          none no_trees j k = never_empty t b k
          none (tree v vs) j k = cc

  -- the arguments of a nested list
  all_bare : (u : Tree) (us : List Tree) → IsBareIn s (nest_from f u us) (s.result f) → Each (λ t. IsBareIn s t (s.result f)) (u ∷ us)
  all_bare u [] b = (b, tt)
  all_bare u (w ∷ us) b =
      let two = two_bare s f r r r u (nest_from f w us) (lawful.assoc_kinds f a) b in
      (two.0, all_bare w us two.1)

  arguments_bare : (us : List Tree) → 2 ≤ length us → IsBare s (nest true f us) → Each (λ t. IsBareIn s t (s.result f)) us
  arguments_bare [] l b = absurd (omega arith)
  arguments_bare (u ∷ []) l b = absurd (omega arith)
  arguments_bare (u ∷ w ∷ us) l b =
      let two = two_bare s f b.0 r r u (nest_from f w us) (lawful.assoc_kinds f a) b.1 in
      (two.0, all_bare w us two.1)

  -- and back
  all_made : s.has_operator f ≡ true → (u : Tree) (us : List Tree) → Each (λ t. IsBareIn s t (s.result f)) (u ∷ us) → IsBareIn s (nest_from f u us) (s.result f)
  all_made h u [] b = b.0
  all_made h u (w ∷ us) b = (h, refl, subst (AreBareIn s (tree u (tree (nest_from f w us) no_trees))) (sym (lawful.assoc_kinds f a)) (b.0, (all_made h w us b.1, tt)))

  -- ---- what can be taken is a value of the part

  have_some : (us : List Tree) → (s.theory f).id ≡ None → Each (λ t. IsBareIn s t (s.result f)) us → Each (λ z. list_under (s.theory f) f z ≡ [] → ⊥) (map (norm s.theory) us)
  have_some [] n b = tt
  have_some (u ∷ us) n b = (bare_filled u (r, b.0) n, have_some us n b.1)

  length_map : (us : List Tree) → length (map (norm s.theory) us) ≡ length us
  length_map [] = refl
  length_map (u ∷ us) = omega (arith, length_map us)

  module _ (t v : Tree) (x : CanTakeNormal s f t v) where
    abbrev us : List Tree
    us = x.arguments

    abbrev zs : List Tree
    zs = map (norm s.theory) x.arguments

    abbrev all : List Tree
    all = all_pieces (s.theory f).assoc (s.theory f).id f zs

    two_us : 2 ≤ length x.arguments
    two_us = x.two_at_least a

    whole_of_args : over_list (s.theory f) f all ≡ t
    whole_of_args = sym (norm-nest th lawful.theories (s.theory f).assoc f refl x.arguments x.two_at_least) ∙ x.whole

    list_of_args : list_under (s.theory f) f t ≡ arrange (s.theory f).comm all
    list_of_args = ap (list_under (s.theory f) f) (sym whole_of_args) ∙ list_of_made th f all a (whole_all_pieces th f zs (are_normal th lawful.theories x.arguments))

    bare_us : Each (λ w. IsBareIn s w (s.result f)) x.arguments
    bare_us = arguments_bare x.arguments two_us (subst (λ b. IsBare s (nest b f x.arguments)) a x.bare)

    pub taken_value : IsValueOf s.theory (some_of inside f (list_under (s.theory f) f t)) v
    taken_value = record {
      normal = normal_fixed th v (each_in th (IsNormal th) v zs (are_normal th lawful.theories x.arguments) x.taken);
      of =
          let p = pieces_between (s.theory f).assoc (s.theory f).id f zs v x.taken in
          let e : arrange (s.theory f).comm (p.0 ++ (list_under (s.theory f) f v ++ p.1)) ≡ arrange (s.theory f).comm (list_under (s.theory f) f t) =
          ap (arrange (s.theory f).comm) (sym p.2) ∙ sym (arrange-arrange (s.theory f).comm all) ∙ ap (arrange (s.theory f).comm) (sym list_of_args) in
          record { left = p.0; right = p.1; leaves = tt; all = e };
      filled = λ n. each_in th (λ z. list_under (s.theory f) f z ≡ [] → ⊥) v zs (have_some x.arguments n bare_us) x.taken;
    }

    -- without an identity it is not the whole
    pub taken_less : (s.theory f).id ≡ None → v ≡ t → ⊥
    taken_less n e =
        let k : length (list_under (s.theory f) f v) ≡ length (list_under (s.theory f) f t) = ap (λ w. length (list_under (s.theory f) f w)) e in
        let l : length (list_under (s.theory f) f v) + length zs ≤ length all + 1 = less (s.theory f).assoc (s.theory f).id f zs v x.taken (have_some x.arguments n bare_us) in
        omega (arith, k, l, ap length list_of_args, length-arrange (s.theory f).comm all, length_map x.arguments, two_us)

  -- ---- a value of the part can be taken

  abbrev IsFit : Tree → Type 0
  IsFit t = IsBareIn s (reading s.theory t) (s.result f)

  fit_nested : (ts : List Tree) → IsBareIn s (nest true f (map (reading s.theory) ts)) (s.result f) → Each IsFit ts
  fit_nested [] b = tt
  fit_nested (t ∷ ts) b = go t ts (all_bare (reading th t) (map (reading th) ts) b)
    where
      go : (t : Tree) (ts : List Tree) → Each (λ w. IsBareIn s w (s.result f)) (map (reading s.theory) (t ∷ ts)) → Each IsFit (t ∷ ts)
      go t [] b = (b.0, tt)
      go t (u ∷ ts) b = (b.0, go u ts b.1)

  map_fit : (ts : List Tree) → Each IsFit ts → Each (λ w. IsBareIn s w (s.result f)) (map (reading s.theory) ts)
  map_fit [] h = tt
  map_fit (t ∷ ts) h = (h.0, map_fit ts h.1)

  -- the elements of a term of the operator's kind are of that kind
  fit_elements : (t : Tree) → IsFit t → Each IsFit (list_under (s.theory f) f t)
  fit_elements t b = by (split (s.theory f).assoc (s.theory f).id f t)
    where
      by : Split (s.theory f).assoc (s.theory f).id f t → Each IsFit (list_under (s.theory f) f t)
      by (unit i u e p) = subst (Each IsFit) (sym p) tt
      by (one p) = subst (Each IsFit) (sym p) (b, tt)
      by (many ts d e p) =
          let c : IsBareIn s (nest (s.theory f).assoc f (readings th ts)) r = subst (λ w. IsBareIn s (reading s.theory w) r) e b in
          subst (Each IsFit) (sym p) (fit_nested (list_of ts) (subst (λ w. IsBareIn s (nest true f w) r) (readings_map s ts) (subst (λ d. IsBareIn s (nest d f (readings th ts)) r) a c)))

  module _ (h : s.has_operator f ≡ true) where
    fit_nest : (t : Tree) (ts : List Tree) → Each IsFit (t ∷ ts) → IsFit (node f (t ∷ ts))
    fit_nest t ts b =
        let e : readings th (tree t (trees_of ts)) ≡ map (reading s.theory) (t ∷ ts) = readings_map s (tree t (trees_of ts)) ∙ ap (λ w. reading th t ∷ map (reading s.theory) w) (list_of-trees_of ts) in
        let c : IsBareIn s (nest true f (map (reading s.theory) (t ∷ ts))) r = all_made h (reading th t) (map (reading s.theory) ts) (map_fit (t ∷ ts) b) in
        subst (λ d. IsBareIn s (nest d f (readings th (tree t (trees_of ts)))) r) (sym a) (subst (λ w. IsBareIn s (nest true f w) r) (sym e) c)

    -- a term over some elements of the kind is of that kind
    fit_over : (xs : List Tree) → arrange (s.theory f).comm xs ≡ xs → ((s.theory f).id ≡ None → xs ≡ [] → ⊥) → Each IsFit xs → IsFit (over_list (s.theory f) f xs)
    fit_over xs o n b = subst (λ w. IsFit (finish (s.theory f).assoc (s.theory f).id (s.theory f).succ f w)) (sym o) (by xs n b)
      where
        none : (u : Option Identity) → (s.theory f).id ≡ u → (u ≡ None → ⊥) → IsFit (finish true u (s.theory f).succ f [])
        none None e k = absurd (k refl)
        none (Some i) e k = subst (λ w. IsBareIn s w (s.result f)) (sym (reading_unit s i)) (lawful.unit_kinds f i e).1

        by : (xs : List Tree) → ((s.theory f).id ≡ None → xs ≡ [] → ⊥) → Each IsFit xs → IsFit (finish (s.theory f).assoc (s.theory f).id (s.theory f).succ f xs)
        by [] n b = subst (λ d. IsFit (finish d (s.theory f).id (s.theory f).succ f [])) (sym a) (none (s.theory f).id refl (λ e. n e refl))
        by (t ∷ []) n b = subst (λ d. IsFit (finish d (s.theory f).id (s.theory f).succ f (t ∷ []))) (sym a) (subst IsFit (sym (finish_true_one (s.theory f).id (s.theory f).succ f t)) b.0)
        by (t ∷ u ∷ xs) n b = subst IsFit (sym (finish_long (s.theory f).assoc (s.theory f).id (s.theory f).succ f t u xs)) (fit_nest t (u ∷ xs) b)

    Each-in : (Q : Tree → Type 0) (ts : List Tree) → ((t : Tree) → IsIn t ts → Q t) → Each Q ts
    Each-in Q [] g = tt
    Each-in Q (t ∷ ts) g = (g t (inl refl), Each-in Q ts (λ u i. g u (inr i)))

    units_normal : (u : Option Identity) → (s.theory f).id ≡ u → Each (IsNormal s.theory) (units_of u)
    units_normal None e = tt
    units_normal (Some i) e = (unit_normal th lawful.theories f i e, tt)

    units_fit : (u : Option Identity) → (s.theory f).id ≡ u → Each IsFit (units_of u)
    units_fit None e = tt
    units_fit (Some i) e = (subst (λ w. IsBareIn s w (s.result f)) (sym (reading_unit s i)) (lawful.unit_kinds f i e).1, tt)

    units_pieces : (u : Option Identity) → all_pieces (s.theory f).assoc u f (units_of u) ≡ []
    units_pieces None = refl
    units_pieces (Some i) = append-nil (pieces (s.theory f).assoc (Some i) f (unit_tree i)) ∙ unit-pieces (s.theory f).assoc i f

    in_readings : (t : Tree) (ts : List Tree) → IsIn t ts → Each (IsNormal s.theory) ts → IsIn t (map (norm s.theory) (map (reading s.theory) ts))
    in_readings t ts i n = subst (IsIn t) (sym (norms_of_readings s lawful ts n)) i

    length_readings : (ts : List Tree) → length (map (reading s.theory) ts) ≡ length ts
    length_readings [] = refl
    length_readings (t ∷ ts) = omega (arith, length_readings ts)

    bare_nest : (ts : List Tree) → 1 ≤ length ts → Each IsFit ts → IsBare s (nest true f (map (reading s.theory) ts))
    bare_nest [] l b = absurd (omega arith)
    bare_nest (t ∷ ts) l b = (s.result f, all_made h (reading th t) (map (reading s.theory) ts) (map_fit (t ∷ ts) b))

    -- what can be taken, by normal forms of the arguments
    taken_by : (t v : Tree) (ts : List Tree) → Each (IsNormal s.theory) ts → Each IsFit ts → 2 ≤ length ts → IsIn v ts → build (s.theory f) f ts ≡ t → CanTakeNormal s f t v
    taken_by t v ts n b l i e =
        let us = map (reading s.theory) ts in
        let two : 2 ≤ length us = omega (arith, l, length_readings ts) in
        record {
          arguments = us;
          two_at_least = λ k. two;
          bare = subst (λ d. IsBare s (nest d f us)) (sym a) (bare_nest ts (omega (arith, l)) b);
          taken = in_readings v ts i n;
          whole = norm-nest th lawful.theories (s.theory f).assoc f refl us (λ k. two) ∙ ap (build (s.theory f) f) (norms_of_readings s lawful ts n) ∙ e;
        }

    pub value_taken : (t v : Tree) → norm s.theory t ≡ t → IsBareIn s (reading s.theory t) (s.result f) → IsValueOf s.theory (some_of inside f (list_under (s.theory f) f t)) v → ((s.theory f).id ≡ None → v ≡ t → ⊥) → CanTakeNormal s f t v
    value_taken t v nt bt w g = taken_by t v all normal fit two (in_right v (units_of (s.theory f).id) _ (in_right v w.of.left (v ∷ w.of.right) (inl refl))) made
      where
        left : List Tree
        left = w.of.left

        right : List Tree
        right = w.of.right

        own : List Tree
        own = list_under (s.theory f) f v

        all : List Tree
        all = units_of (s.theory f).id ++ (w.of.left ++ (v ∷ w.of.right))

        normal_t : IsNormal s.theory t
        normal_t = subst (IsNormal th) nt (norm_normal th lawful.theories t)

        normal_v : IsNormal s.theory v
        normal_v = subst (IsNormal th) w.normal (norm_normal th lawful.theories v)

        -- the list of t stands in order
        ordered : arrange (s.theory f).comm (list_under (s.theory f) f t) ≡ list_under (s.theory f) f t
        ordered = sym (list_of_made th f (list_under (s.theory f) f t) a (whole_pieces th f t normal_t)) ∙ ap (list_under (s.theory f) f) (over_its_list th f t a normal_t)

        ordered_v : arrange (s.theory f).comm (list_under (s.theory f) f v) ≡ list_under (s.theory f) f v
        ordered_v = sym (list_of_made th f (list_under (s.theory f) f v) a (whole_pieces th f v normal_v)) ∙ ap (list_under (s.theory f) f) (over_its_list th f v a normal_v)

        there : (x : Tree) → IsIn x (w.of.left ++ (list_under (s.theory f) f v ++ w.of.right)) → IsIn x (list_under (s.theory f) f t)
        there x i = subst (IsIn x) (w.of.all ∙ ordered) (in_arrange (s.theory f).comm x (w.of.left ++ (list_under (s.theory f) f v ++ w.of.right)) i)

        elements : (Q : Tree → Type 0) → Each Q (list_under (s.theory f) f t) → (x : Tree) → IsIn x (w.of.left ++ (list_under (s.theory f) f v ++ w.of.right)) → Q x
        elements Q e x i = each_in th Q x (list_under (s.theory f) f t) e (there x i)

        on_left : (Q : Tree → Type 0) → Each Q (list_under (s.theory f) f t) → Each Q w.of.left
        on_left Q e = Each-in Q w.of.left (λ x i. elements Q e x (in_left x w.of.left _ i))

        on_right : (Q : Tree → Type 0) → Each Q (list_under (s.theory f) f t) → Each Q w.of.right
        on_right Q e = Each-in Q w.of.right (λ x i. elements Q e x (in_right x w.of.left _ (in_right x (list_under (s.theory f) f v) w.of.right i)))

        within : (Q : Tree → Type 0) → Each Q (list_under (s.theory f) f t) → Each Q (list_under (s.theory f) f v)
        within Q e = Each-in Q (list_under (s.theory f) f v) (λ x i. elements Q e x (in_right x w.of.left _ (in_left x (list_under (s.theory f) f v) w.of.right i)))

        fit_v : IsFit v
        fit_v = subst IsFit (over_its_list th f v a normal_v) (fit_over (list_under (s.theory f) f v) ordered_v w.filled (within IsFit (fit_elements t bt)))

        three : (Q : Tree → Type 0) → Each Q (units_of (s.theory f).id) → Each Q w.of.left → Q v → Each Q w.of.right → Each Q all
        three Q e l m q = Each-append Q (units_of (s.theory f).id) _ e (Each-append Q w.of.left (v ∷ w.of.right) l (m, q))

        normal : Each (IsNormal s.theory) all
        normal = three (IsNormal th) (units_normal (s.theory f).id refl) (on_left (IsNormal th) (normal_pieces th f t normal_t)) normal_v (on_right (IsNormal th) (normal_pieces th f t normal_t))

        fit : Each IsFit all
        fit = three IsFit (units_fit (s.theory f).id refl) (on_left IsFit (fit_elements t bt)) fit_v (on_right IsFit (fit_elements t bt))

        -- the lists of the arguments, joined
        pieces_left : all_pieces (s.theory f).assoc (s.theory f).id f w.of.left ≡ w.of.left
        pieces_left = pieces_all th (s.theory f).assoc (s.theory f).id f w.of.left (on_left P (whole_pieces th f t normal_t))

        pieces_right : all_pieces (s.theory f).assoc (s.theory f).id f w.of.right ≡ w.of.right
        pieces_right = pieces_all th (s.theory f).assoc (s.theory f).id f w.of.right (on_right P (whole_pieces th f t normal_t))

        lists : all_pieces (s.theory f).assoc (s.theory f).id f all ≡ w.of.left ++ (list_under (s.theory f) f v ++ w.of.right)
        lists =
            joined (s.theory f).assoc (s.theory f).id f (units_of (s.theory f).id) _
            ∙ ap (λ x. x ++ all_pieces (s.theory f).assoc (s.theory f).id f (w.of.left ++ (v ∷ w.of.right))) (units_pieces (s.theory f).id)
            ∙ joined (s.theory f).assoc (s.theory f).id f w.of.left (v ∷ w.of.right)
            ∙ ap₂ (λ x y. x ++ (list_under (s.theory f) f v ++ y)) pieces_left pieces_right

        made : build (s.theory f) f all ≡ t
        made =
            ap (over_list (s.theory f) f) lists
            ∙ ap (finish (s.theory f).assoc (s.theory f).id (s.theory f).succ f) w.of.all
            ∙ over_its_list th f t a normal_t

        two : 2 ≤ length all
        two = by (s.theory f).id refl
          where
            counted : length all ≡ length (units_of (s.theory f).id) + (length w.of.left + (1 + length w.of.right))
            counted = omega (arith, length-append (units_of (s.theory f).id) (w.of.left ++ (v ∷ w.of.right)), length-append w.of.left (v ∷ w.of.right))

            -- with nothing beside it, it is the whole
            alone : w.of.left ≡ [] → w.of.right ≡ [] → v ≡ t
            alone l q =
                sym (over_its_list th f v a normal_v)
                ∙ ap (finish (s.theory f).assoc (s.theory f).id (s.theory f).succ f)
                (ap (arrange (s.theory f).comm) (sym (append-nil (list_under (s.theory f) f v))) ∙ ap₂ (λ x y. arrange (s.theory f).comm (x ++ (list_under (s.theory f) f v ++ y))) (sym l) (sym q) ∙ w.of.all)
                ∙ over_its_list th f t a normal_t

            beside : (l q : List Tree) → w.of.left ≡ l → w.of.right ≡ q → (v ≡ t → ⊥) → 1 ≤ length w.of.left + length w.of.right
            beside [] [] el eq n = absurd (n (alone el eq))
            beside (x ∷ l) q el eq n = omega (arith, ap length el)
            beside [] (x ∷ q) el eq n = omega (arith, ap length eq)

            by : (u : Option Identity) → (s.theory f).id ≡ u → 2 ≤ length all
            by None e = omega (arith, counted, beside w.of.left w.of.right refl refl (g e))
            by (Some i) e = let k : length (units_of (s.theory f).id) ≡ 1 = ap (λ u. length (units_of u)) e in omega (arith, counted, k)
