-- The normal form of a widened term, and the lists of its contexts.
use Rattle.std.proofs.Common.{◌≡◌, ℕ, List, [], ◌∷◌, ◌++◌, Bool, true, false, if◌then◌else◌, Option, None, Some, refl, sym, ◌∙◌, ap, subst, append-nil}
use Rattle.mau_terms.specs.Tree.{Tree, apply}
use Rattle.mau_terms.specs.Axioms.{binary}
use Rattle.mau_terms.specs.Order.{insert_tree, sort_trees, tree_cmp}
use Rattle.std.specs.Ordering.{is_gt}
use Rattle.mau_terms.specs.Norm.{arrange, finish, norm}
use Rattle.mau_terms.specs.Lawful.{AreLawful}
use Rattle.mau_terms.specs.Solution.{list_under, over_list, ArePieces, IsListOf}
use Rattle.mau_terms.specs.declared.theory.Identity.{Identity}
use Rattle.mau_terms.specs.declared.theory.Theory.{Theory}
use Rattle.mau_terms.proofs.Pieces.{trees_of-list_of, Split, unit, many, one, split, Each, Each-append, arrange_right, arrange_one, arrange_none, IsPiece}
use Rattle.mau_terms.proofs.Normal.{IsNormal, norm_normal, whole_pieces, normal_pieces, normal_fixed}
use Rattle.mau_terms.proofs.Solutions.{list_of_made}
use Rattle.mau_extend.specs.Widened.{before_right, widened, context_list}

module _ (th : ℕ → Theory) (lawful : AreLawful th) (f : ℕ) (assoc : (th f).assoc ≡ true) where
  -- f over its own list
  alone : (a : Bool) (id : Option Identity) (s : Bool) (v : Tree) → a ≡ true → finish a id s f (v ∷ []) ≡ v
  alone true None s v e = refl
  alone true (Some i) s v e = refl
  alone false id s v e = cc

  pub over_own : (v : Tree) → IsNormal th v → over_list (th f) f (list_under (th f) f v) ≡ v
  over_own v n = by (split (th f).assoc (th f).id f v)
    where
      by : Split (th f).assoc (th f).id f v → over_list (th f) f (list_under (th f) f v) ≡ v
      by (unit i u e p) =
          ap (over_list (th f) f) p ∙ ap (finish (th f).assoc (th f).id (th f).succ f) (arrange_none (th f).comm)
          ∙ ap (λ d. finish (th f).assoc d (th f).succ f []) u ∙ sym e
      by (many ts a e p) =
          let m : IsNormal th (apply f ts) = subst (IsNormal th) e n in
          ap (over_list (th f) f) p ∙ ap (finish (th f).assoc (th f).id (th f).succ f) m.1.ordered ∙ m.1.long ∙ ap (apply f) (trees_of-list_of ts) ∙ sym e
      by (one p) =
          ap (over_list (th f) f) p ∙ ap (finish (th f).assoc (th f).id (th f).succ f) (arrange_one (th f).comm v)
          ∙ alone (th f).assoc (th f).id (th f).succ v assoc

  are_pieces : (ts : List Tree) → Each (IsNormal th) ts → Each (IsPiece (th f).assoc (th f).id f) ts → ArePieces th f ts
  are_pieces [] n p = tt
  are_pieces (t ∷ ts) n p = (normal_fixed th t n.0, p.0, are_pieces ts n.1 p.1)

  -- the list of a normal form
  pub own_list : (v : Tree) → IsNormal th v → IsListOf th f (list_under (th f) f v)
  own_list v n = record {
    pieces = are_pieces (list_under (th f) f v) (normal_pieces th f v n) (whole_pieces th f v n);
    ordered = sym (list_of_made th f (list_under (th f) f v) assoc (whole_pieces th f v n)) ∙ ap (list_under (th f) f) (over_own v n);
  }

  pub no_list : IsListOf th f []
  no_list = record { pieces = tt; ordered = arrange_none (th f).comm }

  pub each_piece : (ts : List Tree) → ArePieces th f ts → Each (IsPiece (th f).assoc (th f).id f) ts
  each_piece [] p = tt
  each_piece (t ∷ ts) p = (p.1, each_piece ts p.2)

  -- the list of a list's normal form
  pub list_back : (ts : List Tree) → IsListOf th f ts → list_under (th f) f (over_list (th f) f ts) ≡ ts
  list_back ts l = list_of_made th f ts assoc (each_piece ts l.pieces) ∙ l.ordered

  -- ---- widened terms

  abbrev of : Tree → List Tree
  of t = list_under (th f) f (norm th t)

  abbrev context : Bool → Tree → List Tree
  context h t = context_list h (th f) f (norm th t)

  whole_context : (h : Bool) (t : Tree) → Each (IsPiece (th f).assoc (th f).id f) (context_list h (th f) f (norm th t))
  whole_context true t = whole_pieces th f (norm th t) (norm_normal th lawful t)
  whole_context false t = tt

  norm-binary : (t u : Tree) → norm th (binary f t u) ≡ over_list (th f) f (list_under (th f) f (norm th t) ++ list_under (th f) f (norm th u))
  norm-binary t u = ap (λ ws. over_list (th f) f (list_under (th f) f (norm th t) ++ ws)) (append-nil (list_under (th f) f (norm th u)))

  norm-before_right : (k : Bool) (t w : Tree) → norm th (before_right k f t w) ≡ over_list (th f) f (list_under (th f) f (norm th t) ++ context_list k (th f) f (norm th w))
  norm-before_right true t w = norm-binary t w
  norm-before_right false t w = sym (ap (over_list (th f) f) (append-nil (list_under (th f) f (norm th t))) ∙ over_own (norm th t) (norm_normal th lawful t))

  pub norm-widened : (h k : Bool) (u t w : Tree) → norm th (widened h k f u t w)
      ≡ over_list (th f) f (context_list h (th f) f (norm th u) ++ (list_under (th f) f (norm th t) ++ context_list k (th f) f (norm th w)))
  norm-widened false k u t w = norm-before_right k t w
  norm-widened true k u t w =
      let m = list_under (th f) f (norm th t) ++ context_list k (th f) f (norm th w) in
      let l = list_under (th f) f (norm th u) in
      let inner : list_under (th f) f (norm th (before_right k f t w)) ≡ arrange (th f).comm m =
      ap (list_under (th f) f) (norm-before_right k t w)
      ∙ list_of_made th f m assoc (Each-append (IsPiece (th f).assoc (th f).id f) (list_under (th f) f (norm th t)) (context_list k (th f) f (norm th w)) (whole_pieces th f (norm th t) (norm_normal th lawful t)) (whole_context k w)) in
      norm-binary u (before_right k f t w)
      ∙ ap (λ ws. over_list (th f) f (l ++ ws)) inner
      ∙ ap (finish (th f).assoc (th f).id (th f).succ f) (arrange_right (th f).comm l m)

-- ---- what holds of the elements of a list that was arranged

module _ (P : Tree → Type 0) where
  inserted : (t : Tree) (us : List Tree) → Each P (insert_tree t us) → P t × Each P us
  inserted t [] h = (h.0, tt)
  inserted t (u ∷ us) h = by (inserted t us) (is_gt (tree_cmp t u)) h
    where
      by : (Each P (insert_tree t us) → P t × Each P us) → (b : Bool) → Each P (if b then u ∷ insert_tree t us else t ∷ u ∷ us) → P t × (P u × Each P us)
      by ih true g = let d = ih g.1 in (d.0, (g.0, d.1))
      by ih false g = (g.0, g.1)

  sorted : (ts : List Tree) → Each P (sort_trees ts) → Each P ts
  sorted [] h = tt
  sorted (t ∷ ts) h = let d = inserted t (sort_trees ts) h in (d.0, sorted ts d.1)

  pub arranged : (c : Bool) (ts : List Tree) → Each P (arrange c ts) → Each P ts
  arranged true ts h = sorted ts h
  arranged false ts h = h

  pub both_parts : (ts us : List Tree) → Each P (ts ++ us) → Each P ts × Each P us
  both_parts [] us h = (tt, h)
  both_parts (t ∷ ts) us h = let d = both_parts ts us h.1 in ((h.0, d.0), d.1)
