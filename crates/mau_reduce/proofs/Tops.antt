-- Whether an operator over normal forms has kept its top.
use Rattle.std.proofs.Common.{◌≡◌, ℕ, zero, suc, ◌<◌, ◌≤◌, List, [], ◌∷◌, Bool, true, false, ◌||◌, ◌&&◌, not, nat_lt, nat_eq, Option, Some, None, slice_get, inl, inr, ◌⊎◌, length, map, refl, sym, ap, ap₂, ◌∙◌, subst, arith, eq-eqb, eqb-true}
use Rattle.std.proofs.lemmas.Bool.{lt-ltb, le-ltb}
use Rattle.mau_terms.specs.Tree.{Tree, numeral, apply, Trees, node, trees_of}
use Rattle.mau_terms.specs.Norm.{norm, build, all_pieces, arrange, finish, made, is_unit, pieces}
use Rattle.mau_terms.specs.Order.{sort_trees}
use Rattle.mau_terms.specs.Lawful.{AreLawful}
use Rattle.mau_terms.specs.declared.theory.Identity.{Identity}
use Rattle.mau_terms.specs.declared.theory.Identity.TheVariants.{Const, Num}
use Rattle.mau_terms.specs.declared.theory.Theory.{Theory}
use Rattle.mau_terms.proofs.Finite.{length-arrange}
use Rattle.mau_terms.proofs.Normal.{IsNormal, finish_long, whole_all_pieces}
use Rattle.mau_terms.proofs.Pieces.{Each, Each-arrange, IsPiece, same_arguments, list_of-trees_of}
use Rattle.std.specs.Bool.{MatchBool}
use Rattle.mau_terms.proofs.Sorting.{above, insert_here, insert_past, sort_swap}
use Rattle.mau_canon.proofs.Elements.{list_of_top}
use Rattle.std.proofs.lemmas.List.{length-map}
use Rattle.std.proofs.lemmas.List.Elements.{All-nil, All-cons, All-head, All-tail}
use Rattle.mau_terms.specs.Bare.{TermSignature, AreBareIn, IsLawful}
use Rattle.mau_terms.specs.Reading.{reading}
use Rattle.mau_terms.specs.declared.ids.TermId.{TermId}
use Rattle.mau_signature.specs.Signature.{SignatureOf, theory_at, terms_over}
use Rattle.mau_store.specs.Node.{Node, AreNodes, AreOf, operator_node}
use Rattle.mau_store.specs.Trees.{tree_at, trees_at}
use Rattle.mau_store.specs.View.{numbers}
use Rattle.mau_store.proofs.Numbers.{one_number}
use Rattle.mau_canon.specs.Standing.{StandsWithin, StandWithin}
use Rattle.mau_canon.proofs.Elements.{fine_each}
use Rattle.mau_canon.proofs.Judged.{norm-fine}
use Rattle.mau_canon.proofs.Standing.{stand_there, arguments_stand_within}
use Rattle.mau_listing.proofs.Answered.{normal_is}
use Rattle.mau_evaluation.specs.Listing.{same_tree}
use Rattle.mau_reduce.specs.Kinds.{AreUnder}
use Rattle.mau_reduce.specs.Exchanged.{AreExchanged}
use Rattle.mau_evaluation.specs.Evaluation.{count_up, is_none, names_all, top_changed, top_changed_by}
use Rattle.mau_evaluation.proofs.Reduced.{same_tree_true}
use Rattle.mau_evaluation.proofs.Still.{same_tree_itself}

-- trees that are not equal are not the same
pub same_tree_not : (t u : Tree) → (t ≡ u → ⊥) → same_tree t u ≡ false
same_tree_not t u h = by (same_tree t u) refl
  where
    by : (b : Bool) → same_tree t u ≡ b → b ≡ false
    by true e = absurd (h (same_tree_true t u e))
    by false e = refl

pub same_tops : (f g : ℕ) (ts us : Trees) → apply f ts ≡ apply g us → f ≡ g
same_tops f g ts us e = cc

-- t has the top f over no list of two or more
abbrev pub IsNoList : ℕ → Tree → Type 0
IsNoList f t = (us : List Tree) → t ≡ node f us → 2 ≤ length us → ⊥

-- ---- under an associative operator

data Cases (n : ℕ) : Type 0 where
  few : n < 2 → Cases n
  many : 2 ≤ n → Cases n

cases : (n : ℕ) → Cases n
cases zero = few (omega arith)
cases (suc zero) = few (omega arith)
cases (suc (suc n)) = many (omega arith)

module _ (u : Option Identity) (succ : Bool) (f : ℕ) where
  -- what is made of one piece or of none is no list
  few_no_list : (qs : List Tree) → Each (IsPiece true u f) qs → length qs < 2 → IsNoList f (finish true u succ f qs)
  few_no_list [] whole less us e two = none u refl e
    where
      none : (v : Option Identity) → u ≡ v → finish true u succ f [] ≡ node f us → ⊥
      none None k e = let a : [] ≡ us = same_arguments f f [] us (subst (λ w. finish true w succ f [] ≡ node f us) k e) in omega (arith, ap length a, two)
      none (Some (Const c)) k e = let a : [] ≡ us = same_arguments c.0 f [] us (subst (λ w. finish true w succ f [] ≡ node f us) k e) in omega (arith, ap length a, two)
      none (Some (Num n)) k e = let a : numeral n ≡ node f us = subst (λ w. finish true w succ f [] ≡ node f us) k e in cc
  few_no_list (x ∷ []) whole less us e two = omega (arith, ap length one, two)
    where
      is : x ≡ node f us
      is = one_left u e
        where
          one_left : (v : Option Identity) → finish true v succ f (x ∷ []) ≡ node f us → x ≡ node f us
          one_left None k = k
          one_left (Some i) k = k

      no_unit : (v : Option Identity) (ws : List Tree) → 2 ≤ length ws → is_unit v (node f ws) ≡ false
      no_unit None ws h = refl
      no_unit (Some (Const c)) [] h = absurd (omega arith)
      no_unit (Some (Const c)) (w ∷ ws) h = refl
      no_unit (Some (Num n)) ws h = refl

      all : pieces true u f x ≡ us
      all = list_of_top (record { assoc = true; comm = false; id = u; succ = false }) f f us x is (ap (is_unit u) is ∙ no_unit u us two) refl (eq-eqb f f refl)

      one : us ≡ x ∷ []
      one = sym all ∙ whole.0
  few_no_list (x ∷ y ∷ zs) whole less us e two = absurd (omega (arith, less))

  -- and of two or more it is their list
  many_list : (qs : List Tree) → 2 ≤ length qs → finish true u succ f qs ≡ node f qs
  many_list [] h = absurd (omega arith)
  many_list (x ∷ []) h = absurd (omega arith)
  many_list (x ∷ y ∷ zs) h = finish_long true u succ f x y zs

module _ (th : ℕ → Theory) (f : ℕ) (order : List ℕ) (ts : List Tree) (normal : Each (IsNormal th) ts) (t : Tree) (built : t ≡ build (th f) f ts) where
  abbrev h : Theory
  h = th f

  module _ (a : (th f).assoc ≡ true) where
    abbrev ps : List Tree
    ps = all_pieces true (th f).id f ts

    abbrev qs : List Tree
    qs = arrange (th f).comm (all_pieces true (th f).id f ts)

    finished : t ≡ finish true (th f).id (th f).succ f qs
    finished = built ∙ ap (λ b. made b (th f).comm (th f).id (th f).succ f ts) a

    parts : Each (IsPiece true (th f).id f) qs
    parts = Each-arrange (IsPiece true (th f).id f) (th f).comm ps (subst (λ b. Each (IsPiece b (th f).id f) (all_pieces b (th f).id f ts)) a (whole_all_pieces th f ts normal))

    opened : top_changed (th f) order f ts t ≡ nat_lt (length ps) 2
    opened = ap (λ b. top_changed_by b (th f) order f ts t) a

    as_many : length qs ≡ length ps
    as_many = length-arrange (th f).comm ps

    -- a list of two or more
    pub list_kept : (us : List Tree) → t ≡ node f us → 2 ≤ length us → top_changed (th f) order f ts t ≡ false
    list_kept us e two = opened ∙ by (cases (length ps))
      where
        by : Cases (length ps) → nat_lt (length ps) 2 ≡ false
        by (few k) = absurd (few_no_list (th f).id (th f).succ f qs parts (omega (arith, as_many, k)) us (sym finished ∙ e) two)
        by (many k) = le-ltb (length ps) 2 k

    -- what is no such list
    pub list_lost : IsNoList f t → top_changed (th f) order f ts t ≡ true
    list_lost lost = opened ∙ by (cases (length ps))
      where
        by : Cases (length ps) → nat_lt (length ps) 2 ≡ true
        by (few k) = lt-ltb (length ps) 2 k
        by (many k) = absurd (lost qs (finished ∙ many_list (th f).id (th f).succ f qs (omega (arith, as_many, k))) (omega (arith, as_many, k)))

  module _ (a : (th f).assoc ≡ false) where
    abbrev tests : Bool → Bool → Bool
    tests x y = not x || (not (is_none order) && (not (names_all (count_up 0 ts) order) && not y))

    opened_free : (x y : Bool) → same_tree t (node f (arrange (th f).comm ts)) ≡ x → same_tree t (node f ts) ≡ y → top_changed (th f) order f ts t ≡ tests x y
    opened_free x y e k = ap (λ b. top_changed_by b (th f) order f ts t) a ∙ ap₂ tests e k

    -- another top, or other arguments
    pub other_top : (t ≡ node f (arrange (th f).comm ts) → ⊥) → top_changed (th f) order f ts t ≡ true
    other_top other = opened_free false (same_tree t (node f ts)) (same_tree_not t (node f (arrange (th f).comm ts)) other) refl

    -- the same arguments
    pub same_top : t ≡ node f ts → IsNormal th t → top_changed (th f) order f ts t ≡ false
    same_top e n =
        let m : IsNormal th (node f ts) = subst (IsNormal th) e n in
        let o : arrange (th f).comm ts ≡ ts = subst (λ us. arrange (th f).comm us ≡ us) (list_of-trees_of ts) m.1.ordered in
        opened_free true true (ap (λ us. same_tree t (node f us)) o ∙ (ap (λ x. same_tree x (node f ts)) e ∙ same_tree_itself (node f ts))) (ap (λ x. same_tree x (node f ts)) e ∙ same_tree_itself (node f ts))
        ∙ none (is_none order) (names_all (count_up 0 ts) order)
      where
        none : (x y : Bool) → (not true || (not x && (not y && not true))) ≡ false
        none true y = refl
        none false true = refl
        none false false = refl

    -- two arguments that have changed places
    pub exchanged : (x y : Tree) → ts ≡ x ∷ y ∷ [] → (th f).comm ≡ true → t ≡ node f (y ∷ x ∷ []) → (t ≡ node f ts → ⊥) → IsNormal th t →
        top_changed (th f) order f ts t ≡ (not (is_none order) && not (names_all (count_up 0 ts) order))
    exchanged x y two c e differ n =
        let m : IsNormal th (node f (y ∷ x ∷ [])) = subst (IsNormal th) e n in
        let o : arrange (th f).comm (y ∷ x ∷ []) ≡ y ∷ x ∷ [] = m.1.ordered in
        let p : arrange true (y ∷ x ∷ []) ≡ y ∷ x ∷ [] = subst (λ b. arrange b (y ∷ x ∷ []) ≡ y ∷ x ∷ []) c o in
        let q : arrange (th f).comm ts ≡ y ∷ x ∷ [] = ap₂ arrange c two ∙ (sort_swap (x ∷ []) (y ∷ []) ∙ p) in
        opened_free true false (ap (λ us. same_tree t (node f us)) q ∙ (ap (λ z. same_tree z (node f (y ∷ x ∷ []))) e ∙ same_tree_itself (node f (y ∷ x ∷ [])))) (same_tree_not t (node f ts) differ)
        ∙ last (not (is_none order)) (not (names_all (count_up 0 ts) order))
      where
        last : (v w : Bool) → (not true || (v && (w && not false))) ≡ (v && w)
        last true true = refl
        last true false = refl
        last false w = refl

  -- another operator on top
  pub no_such_top : ((us : List Tree) → t ≡ node f us → ⊥) → top_changed (th f) order f ts t ≡ true
  no_such_top other = by (th f).assoc refl
    where
      by : (b : Bool) → (th f).assoc ≡ b → top_changed (th f) order f ts t ≡ true
      by true e = list_lost e (λ us k two. other us k)
      by false e = other_top e (other (arrange (th f).comm ts))

-- ---- two elements

sorted_two : (t u : Tree) → (sort_trees (t ∷ u ∷ []) ≡ t ∷ u ∷ []) ⊎ (sort_trees (t ∷ u ∷ []) ≡ u ∷ t ∷ [])
sorted_two t u = by (above t u) refl
  where
    by : (b : Bool) → above t u ≡ b → (sort_trees (t ∷ u ∷ []) ≡ t ∷ u ∷ []) ⊎ (sort_trees (t ∷ u ∷ []) ≡ u ∷ t ∷ [])
    by true e = inr (insert_past t u [] e)
    by false e = inl (insert_here t u [] e)

as_pair : (s : TermSignature) (R : Tree → Tree) (k : ℕ) (ts : List Tree) → AreBareIn s (trees_of (map R ts)) (k ∷ k ∷ []) → length ts ≡ 2
as_pair s R k [] h = absurd h
as_pair s R k (t ∷ []) h = absurd h.1
as_pair s R k (t ∷ u ∷ []) h = refl
as_pair s R k (t ∷ u ∷ v ∷ ts) h = absurd h.1.1

kinds_free : (X Y : Type 0) (b : Bool) → b ≡ false → MatchBool b X Y → Y
kinds_free X Y true e h = cc
kinds_free X Y false e h = h

-- an order of none has no number
pub none_of : (order : List ℕ) (b : Bool) → b ≡ nat_eq (length order) 0 → is_none order ≡ b
none_of [] b e = sym e
none_of (i ∷ is) b e = by b e
  where
    by : (b : Bool) → b ≡ nat_eq (length (i ∷ is)) 0 → false ≡ b
    by true k = let h : length (i ∷ is) ≡ 0 = eqb-true (length (i ∷ is)) 0 (sym k) in absurd (omega (arith, h))
    by false k = refl

-- ---- by the numbers of a store

each_normal_of : (th : ℕ → Theory) → AreLawful th → (nodes : List Node) (ids : List ℕ) → StandWithin th nodes ids → Each (IsNormal th) (trees_at nodes ids)
each_normal_of th lawful nodes [] h = tt
each_normal_of th lawful nodes (i ∷ ids) h = (normal_is th lawful (tree_at nodes i) (All-head (StandsWithin th nodes) i ids h).normal, each_normal_of th lawful nodes ids (All-tail (StandsWithin th nodes) i ids h))

-- numbers of a store that stand for the same terms are the same
pub same_numbers : (nodes : List Node) → AreNodes nodes → (is js : List ℕ) → AreOf nodes is → AreOf nodes js → trees_at nodes is ≡ trees_at nodes js → is ≡ js
same_numbers nodes are [] [] a b e = refl
same_numbers nodes are [] (j ∷ js) a b e = cc
same_numbers nodes are (i ∷ is) [] a b e = cc
same_numbers nodes are (i ∷ is) (j ∷ js) a b e =
    let first : tree_at nodes i ≡ tree_at nodes j = cc in
    let rest : trees_at nodes is ≡ trees_at nodes js = cc in
    ap₂ (λ x xs. x ∷ xs) (one_number nodes are i j (All-head (λ k. k < length nodes) i is a) (All-head (λ k. k < length nodes) j js b) first)
    (same_numbers nodes are is js (All-tail (λ k. k < length nodes) i is a) (All-tail (λ k. k < length nodes) j js b) rest)

pub same_ids : (is js : List TermId) → numbers is ≡ numbers js → is ≡ js
same_ids [] [] e = refl
same_ids [] (j ∷ js) e = cc
same_ids (i ∷ is) [] e = cc
same_ids (i ∷ is) (j ∷ js) e =
    let first : i.0 ≡ j.0 = cc in
    let rest : numbers is ≡ numbers js = cc in
    ap₂ (λ (x : TermId) (xs : List TermId). x ∷ xs) (λ k. record { 0 = first k }) (same_ids is js rest)

module _ (s : SignatureOf) (lawful : IsLawful (terms_over s)) (nodes : List Node) (are : AreNodes nodes) (f : ℕ) (order : List ℕ) (args : List TermId) (under : AreUnder s nodes f (numbers args)) (i : ℕ)
    (stands : StandsWithin (theory_at s) nodes i) (is : tree_at nodes i ≡ norm (theory_at s) (node f (trees_at nodes (numbers args)))) where
  abbrev ths : ℕ → Theory
  ths = theory_at s

  abbrev ts : List Tree
  ts = trees_at nodes (numbers args)

  abbrev t : Tree
  t = tree_at nodes i

  normals : Each (IsNormal ths) ts
  normals = each_normal_of ths lawful.theories nodes (numbers args) under.within

  pub built_is : t ≡ build (ths f) f ts
  built_is = is ∙ norm-fine ths f ts (fine_each ths nodes (numbers args) under.within)

  itself : IsNormal ths t
  itself = normal_is ths lawful.theories t stands.normal

  -- the arguments that it has are there
  pub there_of : (g : ℕ) (ids : List ℕ) → slice_get nodes i ≡ Some (operator_node g ids) → AreOf nodes ids
  there_of g ids at = stand_there ths nodes ids (arguments_stand_within ths lawful.theories nodes are i (operator_node g ids) at stands)

  -- no operator, or another one
  pub is_no_node : ((us : List Tree) → t ≡ node f us → ⊥) → true ≡ top_changed (ths f) order f ts t
  is_no_node other = sym (no_such_top ths f order ts normals t built_is other)

  module _ (ids : List TermId) (there : AreOf nodes (numbers ids)) (e : t ≡ node f (trees_at nodes (numbers ids))) where
    pub is_list : (ths f).assoc ≡ true → nat_lt (length ids) 2 ≡ top_changed (ths f) order f ts t
    is_list a = by (cases (length ids))
      where
        long : length (trees_at nodes (numbers ids)) ≡ length ids
        long = length-map (numbers ids) (tree_at nodes) ∙ length-map ids (λ (x : TermId). x.0)

        by : Cases (length ids) → nat_lt (length ids) 2 ≡ top_changed (ths f) order f ts t
        by (few k) = lt-ltb (length ids) 2 k ∙ sym (list_lost ths f order ts normals t built_is a (λ us h two. let same : trees_at nodes (numbers ids) ≡ us = same_arguments f f (trees_at nodes (numbers ids)) us (sym e ∙ h) in omega (arith, ap length same, long, two, k)))
        by (many k) = le-ltb (length ids) 2 k ∙ sym (list_kept ths f order ts normals t built_is a (trees_at nodes (numbers ids)) e (omega (arith, long, k)))

    module _ (a : (ths f).assoc ≡ false) where
      pub is_same : ids ≡ args → false ≡ top_changed (ths f) order f ts t
      is_same q = sym (same_top ths f order ts normals t built_is a (e ∙ ap (λ xs. node f (trees_at nodes (numbers xs))) q) itself)

      module _ (differ : ids ≡ args → ⊥) where
        other_list : t ≡ node f ts → ⊥
        other_list h = differ (same_ids ids args (same_numbers nodes are (numbers ids) (numbers args) there (stand_there ths nodes (numbers args) under.within) (same_arguments f f (trees_at nodes (numbers ids)) ts (sym e ∙ h))))

        pub is_free : (ths f).comm ≡ false → true ≡ top_changed (ths f) order f ts t
        is_free c = sym (other_top ths f order ts normals t built_is a (λ h. other_list (h ∙ ap (λ b. node f (arrange b ts)) c)))

        pub is_exchanged : (ths f).comm ≡ true → AreExchanged ids args → top_changed (ths f) order f ts t ≡ (not (is_none order) && not (names_all (count_up 0 ts) order))
        is_exchanged c x =
            exchanged ths f order ts normals t built_is a (tree_at nodes x.0.0) (tree_at nodes x.1.0) (ap (λ xs. trees_at nodes (numbers xs)) x.2) c (e ∙ ap (λ xs. node f (trees_at nodes (numbers xs))) x.3) other_list itself

        pub is_other : (ths f).comm ≡ true → (AreExchanged ids args → ⊥) → true ≡ top_changed (ths f) order f ts t
        is_other c never = sym (other_top ths f order ts normals t built_is a (λ h. two args refl (subst (λ b. t ≡ node f (arrange b ts)) c h)))
          where
            pair : length args ≡ 2
            pair =
                let k = lawful.comm_kinds f c in
                let bare : AreBareIn (terms_over s) (trees_of (map (reading ths) ts)) ((terms_over s).arguments f) = kinds_free _ _ (ths f).assoc a under.kinds in
                let two = as_pair (terms_over s) (reading ths) k.0 ts (subst (AreBareIn (terms_over s) (trees_of (map (reading ths) ts))) k.1 bare) in
                omega (arith, two, length-map (numbers args) (tree_at nodes), length-map args (λ (x : TermId). x.0))

            straight : (x y : TermId) → args ≡ x ∷ y ∷ [] → t ≡ node f (trees_at nodes (numbers (x ∷ y ∷ []))) → ⊥
            straight x y q h = other_list (h ∙ ap (λ xs. node f (trees_at nodes (numbers xs))) (sym q))

            crossed : (x y : TermId) → args ≡ x ∷ y ∷ [] → t ≡ node f (trees_at nodes (numbers (y ∷ x ∷ []))) → ⊥
            crossed x y q h =
                let all : AreOf nodes (numbers (x ∷ y ∷ [])) = subst (λ zs. AreOf nodes (numbers zs)) q (stand_there ths nodes (numbers args) under.within) in
                let low = All-head (λ k. k < length nodes) x.0 (y.0 ∷ []) all in
                let high = All-tail (λ k. k < length nodes) x.0 (y.0 ∷ []) all in
                let back : AreOf nodes (numbers (y ∷ x ∷ [])) = All-cons (λ k. k < length nodes) y.0 (x.0 ∷ []) (All-head (λ k. k < length nodes) y.0 [] high) (All-cons (λ k. k < length nodes) x.0 [] low (All-nil (λ k. k < length nodes))) in
                never (x, y, q, same_ids ids (y ∷ x ∷ []) (same_numbers nodes are (numbers ids) (numbers (y ∷ x ∷ [])) there back (same_arguments f f (trees_at nodes (numbers ids)) (trees_at nodes (numbers (y ∷ x ∷ []))) (sym e ∙ h))))

            two : (zs : List TermId) → args ≡ zs → t ≡ node f (arrange true ts) → ⊥
            two [] q h = omega (arith, pair, ap length q)
            two (x ∷ []) q h = omega (arith, pair, ap length q)
            two (x ∷ y ∷ w ∷ zs) q h = omega (arith, pair, ap length q)
            two (x ∷ y ∷ []) q h = elim (sorted_two (tree_at nodes x.0) (tree_at nodes y.0)) [
              | inl o ↦ straight x y q (h ∙ (ap (λ xs. node f (sort_trees (trees_at nodes (numbers xs)))) q ∙ ap (node f) o))
              | inr o ↦ crossed x y q (h ∙ (ap (λ xs. node f (sort_trees (trees_at nodes (numbers xs)))) q ∙ ap (node f) o))
            ]
