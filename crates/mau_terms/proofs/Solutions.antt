-- The laws of solutions.
use Rattle.std.proofs.Common.{◌≡◌, ℕ, List, [], ◌∷◌, ◌++◌, Bool, true, false, if◌then◌else◌, Option, Some, None, inl, refl, sym, ◌∙◌, ap, ap₂, subst, append_assoc, map, suc, length, ◌+◌, ◌≤◌, arith, length-append}
use Rattle.std.specs.Cmp.{on_total}
use Rattle.std.specs.Cmp.Lexicographic.{lists_total}
use Rattle.mau_terms.specs.Tree.{Tree, variable, numeral, apply, Trees, no_trees, tree}
use Rattle.mau_terms.specs.Order.{insert_tree, sort_trees}
use Rattle.mau_terms.specs.Norm.{unit_tree, pieces, arrange, finish, made, build, norm, norms}
use Rattle.mau_terms.specs.Lawful.{AreLawful}
use Rattle.mau_terms.specs.Bare.{TermSignature, same_term, IsLawful}
use Rattle.mau_terms.specs.Subst.{Variable, same_variable, instance, instances, with_values, variables, value_at, Occurs}
use Rattle.mau_terms.specs.Finite.{IsIn, each_of, words, candidates}
use Rattle.mau_terms.proofs.Finite.{AllIn, AllIn-left, AllIn-right, AllIn-itself, AllIn-arrange, in_words, in_each_of, length-arrange, value_is_candidate, over_its_list}
use Rattle.mau_terms.proofs.Variables.{EachVar, variables_occur, values_of_variables}
use Rattle.mau_terms.specs.Solution.{list_under, over_list, ArePieces, FitsUnder, FitsAt, assoc_top, solution_key}
use Rattle.mau_terms.specs.Laws.{EqualWhereNormsAre, EqualIsEquivalence, IdentityHasNoElements, NormIsNormal, ListOfTwo, InstancesByNorms, TreesAreOrdered, SolutionsAreOrdered, RightIsDetermined, SolutionsAreFinite, SolutionsWithinAreFinite}
use Rattle.mau_terms.specs.declared.theory.Theory.{Theory}
use Rattle.mau_terms.proofs.Orders.{tree_total, tree_tied}
use Rattle.mau_terms.proofs.Sorting.{above, insert_past, insert_here, insert_all, sort-append, bool_ne, one_way}
use Rattle.mau_terms.proofs.Pieces.{unit-pieces, Each, Each-append, IsPiece, pieces-finish, Each-arrange}
use Rattle.mau_terms.proofs.Normal.{norm_normal, norm-norm, whole_pieces}
use Rattle.mau_terms.proofs.Steps.{pieces-made, whole_true}
use Rattle.mau_terms.proofs.Law.{law, equal_norm}
use Rattle.mau_terms.proofs.Chains.{EqualModulo-sym, EqualModulo-trans}

pub equal_where_norms_are : EqualWhereNormsAre
equal_where_norms_are = law

pub norm_is_normal : NormIsNormal
norm_is_normal = norm-norm

pub identity_has_no_elements : IdentityHasNoElements
identity_has_no_elements h f i e = subst (λ u. pieces h.assoc u f (unit_tree i) ≡ []) (sym e) (unit-pieces h.assoc i f)

pub equal_is_equivalence : EqualIsEquivalence
equal_is_equivalence s = record {
  reflexive = λ t b. same_term b;
  symmetric = λ t u p. EqualModulo-sym p;
  transitive = λ t u v p q. EqualModulo-trans p q;
}

pub trees_are_ordered : TreesAreOrdered
trees_are_ordered = (tree_total, tree_tied)

pub list_of_two : ListOfTwo
list_of_two th lawful f a t u =
    subst (λ b. pieces b (th f).id f (made b (th f).comm (th f).id (th f).succ f (norm th t ∷ norm th u ∷ [])) ≡ arrange (th f).comm (pieces b (th f).id f (norm th t) ++ pieces b (th f).id f (norm th u))) (sym a)
    (pieces-made (th f).comm (th f).id (th f).succ f (norm th t) (norm th u) (whole_true th f (norm th t) a (norm_normal th lawful t)) (whole_true th f (norm th u) a (norm_normal th lawful u)))

mutual
  pub instances_by_norms : InstancesByNorms
  instances_by_norms th g h e (variable i s) = e (i, s)
  instances_by_norms th g h e (numeral n) = refl
  instances_by_norms th g h e (apply f ts) = ap (build (th f) f) (all_instances_by_norms th g h e ts)

  pub all_instances_by_norms : (th : ℕ → Theory) (g h : Variable → Tree) → ((x : Variable) → norm th (g x) ≡ norm th (h x)) → (ts : Trees) → norms th (instances g ts) ≡ norms th (instances h ts)
  all_instances_by_norms th g h e no_trees = refl
  all_instances_by_norms th g h e (tree t ts) = ap₂ (λ v w. v ∷ w) (instances_by_norms th g h e t) (all_instances_by_norms th g h e ts)

pub solutions_are_ordered : SolutionsAreOrdered
solutions_are_ordered th p = on_total (solution_key th p) (lists_total (lists_total tree_total))

-- ---- cancelling

head_same : {t u : Tree} {ts us : List Tree} → t ∷ ts ≡ u ∷ us → t ≡ u
head_same e = cc

tail_same : {t u : Tree} {ts us : List Tree} → t ∷ ts ≡ u ∷ us → ts ≡ us
tail_same e = cc

not_above_itself : (t u : Tree) {A : Type 0} → t ≡ u → above t u ≡ true → A
not_above_itself t u e h = bool_ne (above u t) (subst (λ w. above w t ≡ true) e (subst (λ w. above t w ≡ true) (sym e) h)) (one_way t u h)

insert_not_empty : (t : Tree) (us : List Tree) {A : Type 0} → insert_tree t us ≡ [] → A
insert_not_empty t [] e = cc
insert_not_empty t (u ∷ us) e = by (above t u) refl
  where
    by : {A : Type 0} (b : Bool) → above t u ≡ b → A
    by true h = let k : u ∷ insert_tree t us ≡ [] = sym (insert_past t u us h) ∙ e in cc
    by false h = let k : t ∷ u ∷ us ≡ [] = sym (insert_here t u us h) ∙ e in cc

pub insert_cancel : (t : Tree) (us vs : List Tree) → insert_tree t us ≡ insert_tree t vs → us ≡ vs
insert_cancel t [] [] e = refl
insert_cancel t [] (v ∷ vs) e = by (above t v) refl
  where
    by : (b : Bool) → above t v ≡ b → [] ≡ v ∷ vs
    by true h = let k : t ∷ [] ≡ v ∷ insert_tree t vs = e ∙ insert_past t v vs h in insert_not_empty t vs (sym (tail_same k))
    by false h = let k : t ∷ [] ≡ t ∷ v ∷ vs = e ∙ insert_here t v vs h in tail_same k
insert_cancel t (u ∷ us) [] e = by (above t u) refl
  where
    by : (b : Bool) → above t u ≡ b → u ∷ us ≡ []
    by true h = let k : u ∷ insert_tree t us ≡ t ∷ [] = sym (insert_past t u us h) ∙ e in insert_not_empty t us (tail_same k)
    by false h = let k : t ∷ u ∷ us ≡ t ∷ [] = sym (insert_here t u us h) ∙ e in tail_same k
insert_cancel t (u ∷ us) (v ∷ vs) e = by (insert_cancel t us vs) (above t u) (above t v) refl refl
  where
    by : (insert_tree t us ≡ insert_tree t vs → us ≡ vs) → (a b : Bool) → above t u ≡ a → above t v ≡ b → u ∷ us ≡ v ∷ vs
    by ih true true h k =
        let l : u ∷ insert_tree t us ≡ v ∷ insert_tree t vs = sym (insert_past t u us h) ∙ e ∙ insert_past t v vs k in
        ap₂ (λ x y. x ∷ y) (head_same l) (ih (tail_same l))
    by ih true false h k =
        let l : u ∷ insert_tree t us ≡ t ∷ v ∷ vs = sym (insert_past t u us h) ∙ e ∙ insert_here t v vs k in
        not_above_itself t u (sym (head_same l)) h
    by ih false true h k =
        let l : t ∷ u ∷ us ≡ v ∷ insert_tree t vs = sym (insert_here t u us h) ∙ e ∙ insert_past t v vs k in
        not_above_itself t v (head_same l) k
    by ih false false h k =
        let l : t ∷ u ∷ us ≡ t ∷ v ∷ vs = sym (insert_here t u us h) ∙ e ∙ insert_here t v vs k in
        tail_same l

insert_all_cancel : (ts us vs : List Tree) → insert_all ts us ≡ insert_all ts vs → us ≡ vs
insert_all_cancel [] us vs e = e
insert_all_cancel (t ∷ ts) us vs e = insert_all_cancel ts us vs (insert_cancel t (insert_all ts us) (insert_all ts vs) e)

append_cancel : (ts us vs : List Tree) → ts ++ us ≡ ts ++ vs → us ≡ vs
append_cancel [] us vs e = e
append_cancel (t ∷ ts) us vs e = append_cancel ts us vs (tail_same e)

pub arrange_cancel : (c : Bool) (ts us vs : List Tree) → arrange c us ≡ us → arrange c vs ≡ vs → arrange c (ts ++ us) ≡ arrange c (ts ++ vs) → us ≡ vs
arrange_cancel true ts us vs o p e = sym o ∙ insert_all_cancel ts (sort_trees us) (sort_trees vs) (sym (sort-append ts us) ∙ e ∙ sort-append ts vs) ∙ p
arrange_cancel false ts us vs o p e = append_cancel ts us vs e

pub each_piece : (th : ℕ → Theory) (f : ℕ) (ts : List Tree) → ArePieces th f ts → Each (IsPiece (th f).assoc (th f).id f) ts
each_piece th f [] p = tt
each_piece th f (t ∷ ts) p = (p.1, each_piece th f ts p.2)

-- the list of what was made of a list
pub list_of_made : (th : ℕ → Theory) (f : ℕ) (ts : List Tree) → (th f).assoc ≡ true → Each (IsPiece (th f).assoc (th f).id f) ts → list_under (th f) f (over_list (th f) f ts) ≡ arrange (th f).comm ts
list_of_made th f ts a p =
    subst (λ b. pieces b (th f).id f (finish b (th f).id (th f).succ f (arrange (th f).comm ts)) ≡ arrange (th f).comm ts) (sym a)
    (pieces-finish (th f).id (th f).succ f (arrange (th f).comm ts) (Each-arrange (IsPiece true (th f).id f) (th f).comm ts (subst (λ b. Each (IsPiece b (th f).id f) ts) a p)))

-- ---- the right context

-- values with the same normal forms make instances with the same normal form
value_at_norms : (th : ℕ → Theory) (xs : List Variable) (vs ws : List Tree) → map (norm th) vs ≡ map (norm th) ws → (x : Variable) → norm th (value_at xs vs x) ≡ norm th (value_at xs ws x)
value_at_norms th [] vs ws e x = refl
value_at_norms th (y ∷ ys) [] [] e x = refl
value_at_norms th (y ∷ ys) [] (w ∷ ws) e x = cc
value_at_norms th (y ∷ ys) (v ∷ vs) [] e x = cc
value_at_norms th (y ∷ ys) (v ∷ vs) (w ∷ ws) e x = by (value_at_norms th ys vs ws (tail_same e) x) (same_variable y x)
  where
    by : norm th (value_at ys vs x) ≡ norm th (value_at ys ws x) → (b : Bool) → norm th (if b then v else value_at ys vs x) ≡ norm th (if b then w else value_at ys ws x)
    by ih true = head_same e
    by ih false = ih

pub with_values_norms : (th : ℕ → Theory) (p : Tree) (vs ws : List Tree) → map (norm th) vs ≡ map (norm th) ws → norm th (with_values p vs) ≡ norm th (with_values p ws)
with_values_norms th p vs ws e = instances_by_norms th (value_at (variables p) vs) (value_at (variables p) ws) (value_at_norms th (variables p) vs ws e) p

-- the list of the whole, in order
list_of_whole : (s : TermSignature) → IsLawful s → (f : ℕ) → (s.theory f).assoc ≡ true → (p t : Tree) (vs left right : List Tree) → FitsUnder s f p t vs left right → arrange (s.theory f).comm ((left ++ list_under (s.theory f) f (norm s.theory (with_values p vs))) ++ right) ≡ list_under (s.theory f) f (norm s.theory t)
list_of_whole s lawful f a p t vs left right x =
    let th = s.theory in
    let P = IsPiece (th f).assoc (th f).id f in
    let q = with_values p vs in
    let m = list_under (th f) f (norm th q) in
    let mp : Each P m = whole_pieces th f (norm th q) (norm_normal th lawful.theories q) in
    ap (arrange (th f).comm) (append_assoc left m right)
    ∙ sym (list_of_made th f (left ++ (m ++ right)) a (Each-append P left (m ++ right) (each_piece th f left x.left_list.pieces) (Each-append P m right mp (each_piece th f right x.right_list.pieces))))
    ∙ ap (list_under (th f) f) (sym x.whole)

pub right_under : (s : TermSignature) → IsLawful s → (f : ℕ) → (s.theory f).assoc ≡ true → (p t : Tree) (vs ws left r1 r2 : List Tree) → map (norm s.theory) vs ≡ map (norm s.theory) ws → FitsUnder s f p t vs left r1 → FitsUnder s f p t ws left r2 → r1 ≡ r2
right_under s lawful f a p t vs ws left r1 r2 e x y =
    let th = s.theory in
    let list : Tree → List Tree = (λ q. left ++ list_under (th f) f q) in
    let same : list (norm th (with_values p ws)) ≡ list (norm th (with_values p vs)) = ap list (sym (with_values_norms th p vs ws e)) in
    let second : arrange (th f).comm (list (norm th (with_values p vs)) ++ r2) ≡ list_under (th f) f (norm th t) = subst (λ l. arrange (th f).comm (l ++ r2) ≡ list_under (th f) f (norm th t)) same (list_of_whole s lawful f a p t ws left r2 y) in
    arrange_cancel (th f).comm (list (norm th (with_values p vs))) r1 r2 x.right_list.ordered y.right_list.ordered (list_of_whole s lawful f a p t vs left r1 x ∙ sym second)

-- the top that `assoc_top` finds is associative
pub assoc_top_assoc : (th : ℕ → Theory) (t : Tree) (f : ℕ) → assoc_top th t ≡ Some f → (th f).assoc ≡ true
assoc_top_assoc th (variable i s) f e = cc
assoc_top_assoc th (numeral n) f e = cc
assoc_top_assoc th (apply g ts) f e = by (th g).assoc refl e
  where
    by : (b : Bool) → (th g).assoc ≡ b → (if b then Some g else None) ≡ Some f → (th f).assoc ≡ true
    by true h k = let same : g ≡ f = cc in subst (λ x. (th x).assoc ≡ true) same h
    by false h k = cc

pub right_is_determined : RightIsDetermined
right_is_determined s lawful p t vs ws left r1 r2 e x y = by (assoc_top s.theory (norm s.theory p)) refl x y
  where
    by : (o : Option ℕ) → assoc_top s.theory (norm s.theory p) ≡ o → FitsAt s o p t vs left r1 → FitsAt s o p t ws left r2 → r1 ≡ r2
    by (Some f) h x' y' = right_under s lawful f (assoc_top_assoc s.theory (norm s.theory p) f h) p t vs ws left r1 r2 e x' y'
    by None h x' y' = x'.2 ∙ sym y'.2

-- ---- finitely many

candidates_of : (th : ℕ → Theory) → AreLawful th → (p : Tree) (g : Variable → Tree) (t : Tree) → norm th (instance g p) ≡ t → (xs : List Variable) → EachVar (λ x. Occurs x p) xs → AllIn (map (norm th) (map g xs)) (candidates th p t)
candidates_of th lawful p g t e [] o = tt
candidates_of th lawful p g t e (x ∷ xs) o =
    (subst (λ w. IsIn (norm th (g x)) (candidates th p w)) e (value_is_candidate th lawful g x p o.0), candidates_of th lawful p g t e xs o.1)

pub length-map : (f : Tree → Tree) (vs : List Tree) → length (map f vs) ≡ length vs
length-map f [] = refl
length-map f (v ∷ vs) = ap suc (length-map f vs)

pub values_in_words : (th : ℕ → Theory) → AreLawful th → (p t : Tree) (vs : List Tree) → length vs ≡ length (variables p) → norm th (with_values p vs) ≡ t → IsIn (map (norm th) vs) (words (length (variables p)) (candidates th p t))
values_in_words th lawful p t vs l e =
    let k : length (map (norm th) vs) ≤ length (variables p) = omega (arith, length-map (norm th) vs) in
    in_words (length (variables p)) (map (norm th) vs) (candidates th p t) k
    (subst (λ ws. AllIn (map (norm th) ws) (candidates th p t)) (values_of_variables p vs l) (candidates_of th lawful p (value_at (variables p) vs) t e (variables p) (variables_occur p)))

pub solutions_are_finite : SolutionsAreFinite
solutions_are_finite s lawful p t = (
  words (length (variables p)) (candidates s.theory p (norm s.theory t)),
  λ vs h. values_in_words s.theory lawful.theories p (norm s.theory t) vs h.one_each (equal_norm s lawful h.equal),
)

-- the candidates for all instances whose list is one of ls
abbrev spread : (ℕ → Theory) → ℕ → Tree → List (List Tree) → List (List Tree)
spread th f p ls = each_of (λ l. words (length (variables p)) (candidates th p (over_list (th f) f l))) ls

pub solutions_under_are_finite : (s : TermSignature) → IsLawful s → (f : ℕ) → (s.theory f).assoc ≡ true → (p t : Tree) → (contexts values : List (List Tree)) × ((vs left right : List Tree) → FitsUnder s f p t vs left right → IsIn left contexts × IsIn right contexts × IsIn (map (norm s.theory) vs) values)
solutions_under_are_finite s lawful f a p t =
    let th = s.theory in
    let l = list_under (th f) f (norm th t) in
    let ws = words (length l) l in (
      ws,
      spread th f p ws,
      λ vs left right h.
          let q = norm th (with_values p vs) in
          let m = list_under (th f) f q in
          let mp : Each (IsPiece (th f).assoc (th f).id f) m = whole_pieces th f q (norm_normal th lawful.theories (with_values p vs)) in
          let all = left ++ (m ++ right) in
          let e : l ≡ arrange (th f).comm all =
          ap (list_under (th f) f) h.whole
          ∙ list_of_made th f all a (Each-append (IsPiece (th f).assoc (th f).id f) left (m ++ right) (each_piece th f left h.left_list.pieces) (Each-append (IsPiece (th f).assoc (th f).id f) m right mp (each_piece th f right h.right_list.pieces))) in
          let n : length l ≡ length left + (length m + length right) = omega (arith, ap length e, length-arrange (th f).comm all, length-append left (m ++ right), length-append m right) in
          let inside : (xs : List Tree) → AllIn xs all → length xs ≤ length l → IsIn xs ws = (λ xs b k. in_words (length l) xs l k (subst (λ w. AllIn xs w) (sym e) (AllIn-arrange (th f).comm xs all b))) in
          let bm : IsIn m ws = inside m (AllIn-right m left (m ++ right) (AllIn-left m m right (AllIn-itself m))) (omega arith) in (
            inside left (AllIn-left left left (m ++ right) (AllIn-itself left)) (omega arith),
            inside right (AllIn-right right left (m ++ right) (AllIn-right right m right (AllIn-itself right))) (omega arith),
            in_each_of (λ k. words (length (variables p)) (candidates th p (over_list (th f) f k))) m ws (map (norm th) vs) bm
                (values_in_words th lawful.theories p (over_list (th f) f m) vs h.one_each (sym (over_its_list th f q a (norm_normal th lawful.theories (with_values p vs))))),
          ),
    )

pub solutions_within_are_finite : SolutionsWithinAreFinite
solutions_within_are_finite s lawful p t = by (assoc_top s.theory (norm s.theory p)) refl
  where
    by : (o : Option ℕ) → assoc_top s.theory (norm s.theory p) ≡ o → (contexts values : List (List Tree)) × ((vs left right : List Tree) → FitsAt s o p t vs left right → IsIn left contexts × IsIn right contexts × IsIn (map (norm s.theory) vs) values)
    by (Some f) h = solutions_under_are_finite s lawful f (assoc_top_assoc s.theory (norm s.theory p) f h) p t
    by None h =
        let all = solutions_are_finite s lawful p t in
        ([] ∷ [], all.0, λ vs left right x. (inl x.1, inl x.2, all.1 vs x.0))
