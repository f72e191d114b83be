-- What a term can take as an argument of an operator that is not associative is just what is listed.
use Rattle.std.proofs.Common.{◌≡◌, ℕ, ◌+◌, ◌-◌, ◌<◌, ◌≤◌, ◌==◌, ◌&&◌, nat_lt, List, [], ◌∷◌, ◌++◌, map, length, Bool, true, false, Option, Some, None, if◌then◌else◌, inl, inr, ◌⊎◌, refl, sym, ◌∙◌, ap, ap₂, subst, arith, eq-eqb, eqb-true}
use Rattle.std.proofs.lemmas.Bool.{lt-ltb, ltb-true}
use Rattle.mau_terms.specs.Tree.{Tree, variable, numeral, apply, no_trees, tree, node, list_of, trees_of}
use Rattle.mau_terms.specs.Norm.{greatest_numeral, unit_tree, elements, pieces, all_pieces, arrange, finish, over_one, build, norm}
use Rattle.mau_terms.specs.Reading.{nest, reading}
use Rattle.mau_terms.specs.Bare.{TermSignature, IsBareIn, AreBareIn, IsBare, IsLawful}
use Rattle.mau_terms.specs.CanTake.{CanTakeNormal}
use Rattle.mau_terms.specs.Finite.{IsIn}
use Rattle.mau_terms.specs.declared.theory.Identity.{Identity}
use Rattle.mau_terms.specs.declared.theory.Theory.{Theory}
use Rattle.mau_terms.proofs.Induction.{norm-node}
use Rattle.mau_terms.proofs.Pieces.{Split, unit, many, one, split, alone_element, arrange_none, arrange_one, unit_is_unit, list_of-trees_of}
use Rattle.mau_terms.proofs.Normal.{IsNormal, norm_normal, normal_fixed, each_normal, unit_normal, finish_long}
use Rattle.mau_terms.proofs.Finite.{in_left, in_right, in_arrange, length-arrange}
use Rattle.mau_terms.proofs.Wholes.{norm-reading}
use Rattle.mau_free.specs.Arguments.{arguments_at, one_before, beside_unit, taken_of}
use Rattle.mau_domains.proofs.TakenLists.{readings_map, norms_of_readings}

module _ (s : TermSignature) (lawful : IsLawful s) (f : ℕ) (a : (s.theory f).assoc ≡ false) (h : s.has_operator f ≡ true) where
  abbrev th : ℕ → Theory
  th = s.theory

  abbrev r : ℕ
  r = s.result f

  -- f over bare arguments, which are not nested
  taken_by : (t v : Tree) (us zs : List Tree) → IsBareIn s (node f us) (s.result f) → map (norm s.theory) us ≡ zs → IsIn v zs → build (s.theory f) f zs ≡ t → CanTakeNormal s f t v
  taken_by t v us zs b e i w = record {
    arguments = us;
    two_at_least = λ k. absurd (let j : true ≡ false = sym k ∙ a in cc);
    bare = (r, subst (λ d. IsBareIn s (nest d f us) r) (sym a) b);
    taken = subst (IsIn v) (sym e) i;
    whole = subst (λ d. norm s.theory (nest d f us) ≡ t) (sym a) (norm-node th f us ∙ ap (build (s.theory f) f) e ∙ w);
  }

  module _ (t : Tree) (n : norm s.theory t ≡ t) (b : IsBareIn s (reading s.theory t) (s.result f)) where
    normal_t : IsNormal s.theory t
    normal_t = subst (IsNormal th) n (norm_normal th lawful.theories t)

    -- ---- what is listed can be taken

    taken_argument : (v u : Tree) → t ≡ u → IsIn v (arguments_at f u) → CanTakeNormal s f t v
    taken_argument v (variable i q) e k = absurd k
    taken_argument v (numeral m) e k = absurd k
    taken_argument v (apply g ts) e k = by (g == f) refl k
      where
        by : (d : Bool) → (g == f) ≡ d → IsIn v (if d then list_of ts else []) → CanTakeNormal s f t v
        by false j i = absurd i
        by true j i =
            let top : t ≡ apply f ts = e ∙ ap (λ x. apply x ts) (eqb-true g f j) in
            let m : IsNormal s.theory (apply f ts) = subst (IsNormal th) top normal_t in
            let zs = list_of ts in
            let us = map (reading s.theory) zs in
            let norms : map (norm s.theory) us ≡ zs = norms_of_readings s lawful zs (each_normal th ts m.0) in
            let same : reading s.theory t ≡ node f us = ap (reading th) top ∙ ap₂ (λ c w. nest c f w) a (readings_map s ts) in
            taken_by t v us zs (subst (λ w. IsBareIn s w r) same b) norms i
            (ap (build (s.theory f) f) (sym norms) ∙ sym (norm-node th f us) ∙ ap (norm th) (sym same) ∙ norm-reading th lawful.theories t normal_t)

    taken_before : (v u : Tree) → t ≡ u → IsIn v (one_before (s.theory f).succ u) → CanTakeNormal s f t v
    taken_before v (variable i q) e k = absurd k
    taken_before v (apply g ts) e k = absurd k
    taken_before v (numeral m) e k = by (s.theory f).succ (nat_lt 0 m) refl refl k
      where
        by : (c d : Bool) → (s.theory f).succ ≡ c → nat_lt 0 m ≡ d → IsIn v (if c && d then numeral (m - 1) ∷ [] else []) → CanTakeNormal s f t v
        by false d ec ed i = absurd i
        by true false ec ed i = absurd i
        by true true ec ed (inr i) = absurd i
        by true true ec ed (inl i) =
            let low : 0 < m = ltb-true 0 m ed in
            let bare_t : IsBareIn s (numeral m) r = subst (λ w. IsBareIn s (reading s.theory w) r) e b in
            let small : m - 1 < greatest_numeral = omega (arith, low, bare_t.0) in
            let z = numeral (m - 1) in
            let sk = lawful.succ_kinds f ec in
            let one : AreBareIn s (tree (numeral (m - 1)) no_trees) (s.result f ∷ []) = ((let q : m - 1 ≤ greatest_numeral = omega (arith, bare_t.0) in q, sk.1), tt) in
            let kinds : AreBareIn s (tree (numeral (m - 1)) no_trees) (s.arguments f) = subst (AreBareIn s (tree (numeral (m - 1)) no_trees)) (sym sk.0) one in
            let up : numeral (m - 1 + 1) ≡ numeral m = ap numeral (let q : m - 1 + 1 ≡ m = omega arith in q) in
            taken_by t v (numeral (m - 1) ∷ []) (numeral (m - 1) ∷ []) (h, refl, kinds) refl (inl i)
            (no_unit_one z (s.theory f).comm (s.theory f).id ec (lawful.theories.succ_id f ec) (m - 1) refl small ∙ up ∙ sym e)
          where
            no_unit_one : (z : Tree) (c : Bool) (u : Option Identity) → (s.theory f).succ ≡ true → u ≡ None → (k : ℕ) → z ≡ numeral k → k < greatest_numeral → finish (s.theory f).assoc u (s.theory f).succ f (arrange c (all_pieces (s.theory f).assoc u f (numeral k ∷ []))) ≡ numeral (k + 1)
            no_unit_one z c (Some j) es eu k ez l = cc
            no_unit_one z c None es eu k ez l =
                ap₂ (λ p q. finish p None q f (arrange c (numeral k ∷ []))) a es
                ∙ ap (finish false None true f) (arrange_one c (numeral k))
                ∙ ap (λ d. if d then numeral (k + 1) else node f (numeral k ∷ [])) (lt-ltb k greatest_numeral l)

    -- the identity beside t makes t
    unit_beside : (i : Identity) → (s.theory f).id ≡ Some i → build (s.theory f) f (unit_tree i ∷ t ∷ []) ≡ t
    unit_beside i e =
        ap₂ (λ p u. finish p u (s.theory f).succ f (arrange (s.theory f).comm (all_pieces p u f (unit_tree i ∷ t ∷ [])))) a e
        ∙ ap (λ d. finish false (Some i) (s.theory f).succ f (arrange (s.theory f).comm ((if d then [] else elements false f (unit_tree i)) ++ (pieces false (Some i) f t ++ [])))) (unit_is_unit i)
        ∙ by (split false (Some i) f t)
      where
        c : Bool
        c = (s.theory f).comm

        same_unit : (j : Identity) → Some i ≡ Some j → unit_tree i ≡ unit_tree j
        same_unit j k = let q : i ≡ j = cc in ap unit_tree q

        by : Split false (Some i) f t → finish false (Some i) (s.theory f).succ f (arrange (s.theory f).comm (pieces false (Some i) f t ++ [])) ≡ t
        by (unit j k q p) = ap (λ w. finish false (Some i) (s.theory f).succ f (arrange (s.theory f).comm (w ++ []))) p ∙ ap (finish false (Some i) (s.theory f).succ f) (arrange_none (s.theory f).comm) ∙ same_unit j k ∙ sym q
        by (many ts k q p) = cc
        by (one p) = ap (λ w. finish false (Some i) (s.theory f).succ f (arrange (s.theory f).comm (w ++ []))) p ∙ ap (finish false (Some i) (s.theory f).succ f) (arrange_one (s.theory f).comm t)

    taken_beside : (v : Tree) (u : Option Identity) → (s.theory f).id ≡ u → IsIn v (beside_unit u t) → CanTakeNormal s f t v
    taken_beside v None e k = absurd k
    taken_beside v (Some i) e k =
        let uk = lawful.unit_kinds f i e in
        let two : AreBareIn s (tree (unit_tree i) (tree (reading s.theory t) no_trees)) (s.result f ∷ s.result f ∷ []) = (uk.1, (b, tt)) in
        let kinds : AreBareIn s (tree (unit_tree i) (tree (reading s.theory t) no_trees)) (s.arguments f) = subst (AreBareIn s (tree (unit_tree i) (tree (reading s.theory t) no_trees))) (sym uk.0) two in
        taken_by t v (unit_tree i ∷ reading s.theory t ∷ []) (unit_tree i ∷ t ∷ []) (h, refl, kinds)
        (ap₂ (λ x y. x ∷ y ∷ []) (normal_fixed th (unit_tree i) (unit_normal th lawful.theories f i e)) (norm-reading th lawful.theories t normal_t)) k (unit_beside i e)

    in_two : (v : Tree) (xs ys : List Tree) → IsIn v (xs ++ ys) → IsIn v xs ⊎ IsIn v ys
    in_two v [] ys i = inr i
    in_two v (x ∷ xs) ys (inl e) = inl (inl e)
    in_two v (x ∷ xs) ys (inr i) = elim (in_two v xs ys i) [ inl j ↦ inl (inr j) | inr j ↦ inr j ]

    pub listed_taken : (v : Tree) → IsIn v (taken_of (s.theory f) f t) → CanTakeNormal s f t v
    listed_taken v i = elim (in_two v (arguments_at f t) (one_before (s.theory f).succ t ++ beside_unit (s.theory f).id t) i) [
      | inl j ↦ taken_argument v t refl j
      | inr j ↦ elim (in_two v (one_before (s.theory f).succ t) (beside_unit (s.theory f).id t) j) [ inl k ↦ taken_before v t refl k | inr k ↦ taken_beside v (s.theory f).id refl k ]
    ]

    -- ---- what can be taken is listed

    free_pieces : (zs : List Tree) → all_pieces false None f zs ≡ zs
    free_pieces [] = refl
    free_pieces (z ∷ zs) = ap₂ (λ v w. v ++ w) (alone_element f z) (free_pieces zs)

    listed_argument : (v : Tree) (zs : List Tree) → node f zs ≡ t → IsIn v zs → IsIn v (arguments_at f t)
    listed_argument v zs e i =
        subst (λ w. IsIn v (arguments_at f w)) e
        (subst (λ d. IsIn v (if d then list_of (trees_of zs) else [])) (sym (eq-eqb f f refl)) (subst (IsIn v) (sym (list_of-trees_of zs)) i))

    from_argument : (v : Tree) → IsIn v (arguments_at f t) → IsIn v (taken_of (s.theory f) f t)
    from_argument v i = in_left v (arguments_at f t) _ i

    from_before : (v : Tree) → IsIn v (one_before (s.theory f).succ t) → IsIn v (taken_of (s.theory f) f t)
    from_before v i = in_right v (arguments_at f t) _ (in_left v (one_before (s.theory f).succ t) _ i)

    from_beside : (v : Tree) → IsIn v (beside_unit (s.theory f).id t) → IsIn v (taken_of (s.theory f) f t)
    from_beside v i = in_right v (arguments_at f t) _ (in_right v (one_before (s.theory f).succ t) _ i)

    -- one argument, without an identity
    listed_one : (v z : Tree) → v ≡ z → over_one (s.theory f).succ f z ≡ t → IsIn v (taken_of (s.theory f) f t)
    listed_one v (variable i q) e k = from_argument v (listed_argument v (variable i q ∷ []) k (inl e))
    listed_one v (apply g ts) e k = from_argument v (listed_argument v (apply g ts ∷ []) k (inl e))
    listed_one v (numeral m) e k = by (s.theory f).succ (nat_lt m greatest_numeral) refl k
      where
        by : (c d : Bool) → (s.theory f).succ ≡ c → (if c && d then numeral (m + 1) else node f (numeral m ∷ [])) ≡ t → IsIn v (taken_of (s.theory f) f t)
        by false d ec j = from_argument v (listed_argument v (numeral m ∷ []) j (inl e))
        by true false ec j = from_argument v (listed_argument v (numeral m ∷ []) j (inl e))
        by true true ec j =
            let back : numeral m ≡ numeral (m + 1 - 1) = ap numeral (let q : m ≡ m + 1 - 1 = omega arith in q) in
            let low : nat_lt 0 (m + 1) ≡ true = lt-ltb 0 (m + 1) (omega arith) in
            from_before v
            (subst (λ w. IsIn v (one_before (s.theory f).succ w)) j
            (subst (λ c. IsIn v (if c && nat_lt 0 (m + 1) then numeral (m + 1 - 1) ∷ [] else [])) (sym ec)
            (subst (λ d. IsIn v (if d then numeral (m + 1 - 1) ∷ [] else [])) (sym low) (inl (e ∙ back)))))

    listed_free : (v : Tree) (ws : List Tree) → IsIn v ws → finish false None (s.theory f).succ f ws ≡ t → IsIn v (taken_of (s.theory f) f t)
    listed_free v [] i e = absurd i
    listed_free v (z ∷ []) (inl i) e = listed_one v z i e
    listed_free v (z ∷ []) (inr i) e = absurd i
    listed_free v (z ∷ y ∷ ws) i e = from_argument v (listed_argument v (z ∷ y ∷ ws) e i)

    -- two arguments, with an identity
    listed_two : (i : Identity) → (s.theory f).id ≡ Some i → (v x y : Tree) → (v ≡ x) ⊎ (v ≡ y) → finish false (Some i) (s.theory f).succ f (arrange (s.theory f).comm (pieces false (Some i) f x ++ (pieces false (Some i) f y ++ []))) ≡ t → IsIn v (taken_of (s.theory f) f t)
    listed_two i e v x y o k = by (split false (Some i) f x) (split false (Some i) f y) o
      where
        c : Bool
        c = (s.theory f).comm

        is_the_unit : (z : Tree) (j : Identity) → Some i ≡ Some j → z ≡ unit_tree j → v ≡ z → IsIn v (taken_of (s.theory f) f t)
        is_the_unit z j q p w =
            let same : unit_tree j ≡ unit_tree i = (let q' : j ≡ i = cc in ap unit_tree q') in
            from_beside v (subst (λ u. IsIn v (beside_unit u t)) (sym e) (inl (w ∙ p ∙ same)))

        is_the_whole : v ≡ t → IsIn v (taken_of (s.theory f) f t)
        is_the_whole w = from_beside v (subst (λ u. IsIn v (beside_unit u t)) (sym e) (inr (inl w)))

        over : (xs ys : List Tree) → pieces false (Some i) f x ≡ xs → pieces false (Some i) f y ≡ ys → finish false (Some i) (s.theory f).succ f (arrange (s.theory f).comm (xs ++ (ys ++ []))) ≡ t
        over xs ys p q = subst (λ w. finish false (Some i) (s.theory f).succ f (arrange (s.theory f).comm (w ++ (ys ++ []))) ≡ t) p (subst (λ w. finish false (Some i) (s.theory f).succ f (arrange (s.theory f).comm (pieces false (Some i) f x ++ (w ++ []))) ≡ t) q k)

        by : Split false (Some i) f x → Split false (Some i) f y → (v ≡ x) ⊎ (v ≡ y) → IsIn v (taken_of (s.theory f) f t)
        by (many ts d q p) sy w = cc
        by sx (many ts d q p) w = cc
        by (unit j q p l) sy (inl w) = is_the_unit x j q p w
        by sx (unit j q p l) (inr w) = is_the_unit y j q p w
        by (unit j q p l) (one m) (inr w) = is_the_whole (w ∙ sym (ap (finish false (Some i) (s.theory f).succ f) (arrange_one (s.theory f).comm y)) ∙ over [] (y ∷ []) l m)
        by (one m) (unit j q p l) (inl w) = is_the_whole (w ∙ sym (ap (finish false (Some i) (s.theory f).succ f) (arrange_one (s.theory f).comm x)) ∙ over (x ∷ []) [] m l)
        by (one m) (one l) w =
            let zs = x ∷ y ∷ [] in
            let i' : IsIn v zs = elim w [ inl p ↦ inl p | inr p ↦ inr (inl p) ] in
            longer (arrange (s.theory f).comm zs) (in_arrange (s.theory f).comm v zs i') (two_stay (s.theory f).comm) (over (x ∷ []) (y ∷ []) m l)
          where
            two_stay : (d : Bool) → length (arrange d (x ∷ y ∷ [])) ≡ 2
            two_stay d = length-arrange d (x ∷ y ∷ [])

            longer : (ws : List Tree) → IsIn v ws → length ws ≡ 2 → finish false (Some i) (s.theory f).succ f ws ≡ t → IsIn v (taken_of (s.theory f) f t)
            longer [] q d z = absurd q
            longer (p ∷ []) q d z = absurd (omega arith)
            longer (p ∷ p' ∷ ws) q d z = from_argument v (listed_argument v (p ∷ p' ∷ ws) (sym (finish_long false (Some i) (s.theory f).succ f p p' ws) ∙ z) q)

    as_many : (us : List Tree) (ks : List ℕ) → AreBareIn s (trees_of us) ks → length us ≡ length ks
    as_many [] [] q = refl
    as_many [] (k ∷ ks) q = absurd q
    as_many (u ∷ us) [] q = absurd q
    as_many (u ∷ us) (k ∷ ks) q = omega (arith, as_many us ks q.1)

    pub taken_listed : (v : Tree) → CanTakeNormal s f t v → IsIn v (taken_of (s.theory f) f t)
    taken_listed v x = by (s.theory f).id refl
      where
        us : List Tree
        us = x.arguments

        bare : IsBare s (node f x.arguments)
        bare = subst (λ d. IsBare s (nest d f x.arguments)) a x.bare

        whole : build (s.theory f) f (map (norm s.theory) x.arguments) ≡ t
        whole = sym (norm-node th f x.arguments) ∙ ap (λ d. norm s.theory (nest d f x.arguments)) (sym a) ∙ x.whole

        at : (u : Option Identity) → (s.theory f).id ≡ u → (zs : List Tree) → build (s.theory f) f zs ≡ t → finish false u (s.theory f).succ f (arrange (s.theory f).comm (all_pieces false u f zs)) ≡ t
        at u e zs w = sym (ap₂ (λ p q. finish p q (s.theory f).succ f (arrange (s.theory f).comm (all_pieces p q f zs))) a e) ∙ w

        two : (i : Identity) → (s.theory f).id ≡ Some i → length x.arguments ≡ 2
        two i e = as_many x.arguments (s.arguments f) bare.1.2 ∙ ap length (lawful.unit_kinds f i e).0

        both : (i : Identity) → (s.theory f).id ≡ Some i → (ws : List Tree) → length ws ≡ 2 → IsIn v (map (norm s.theory) ws) → finish false (Some i) (s.theory f).succ f (arrange (s.theory f).comm (all_pieces false (Some i) f (map (norm s.theory) ws))) ≡ t → IsIn v (taken_of (s.theory f) f t)
        both i e [] d q w = absurd q
        both i e (p ∷ []) d q w = absurd (omega arith)
        both i e (p ∷ p' ∷ []) d q w = listed_two i e v (norm th p) (norm th p') (either q) w
          where
            either : IsIn v (norm s.theory p ∷ norm s.theory p' ∷ []) → (v ≡ norm s.theory p) ⊎ (v ≡ norm s.theory p')
            either (inl z) = inl z
            either (inr (inl z)) = inr z
            either (inr (inr z)) = absurd z
        both i e (p ∷ p' ∷ p'' ∷ ws) d q w = absurd (omega arith)

        by : (u : Option Identity) → (s.theory f).id ≡ u → IsIn v (taken_of (s.theory f) f t)
        by None e =
            let zs = map (norm s.theory) x.arguments in
            listed_free v (arrange (s.theory f).comm zs) (in_arrange (s.theory f).comm v zs x.taken)
            (subst (λ ws. finish false None (s.theory f).succ f (arrange (s.theory f).comm ws) ≡ t) (free_pieces zs) (at None e zs whole))
        by (Some i) e = both i e x.arguments (two i e) x.taken (at (Some i) e (map (norm s.theory) x.arguments) whole)
