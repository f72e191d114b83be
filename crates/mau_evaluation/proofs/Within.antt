-- The list of solutions with extension holds just those, each class once, ascending.
use Rattle.std.proofs.Common.{◌≡◌, ℕ, zero, suc, ◌+◌, ◌≤◌, List, [], ◌∷◌, ◌++◌, length, map, Bool, true, false, ◌&&◌, ◌||◌, not, nat_le, ◌⊎◌, inl, inr, refl, sym, ◌∙◌, ap, ap₂, subst, arith, length-append, append_assoc}
use Rattle.std.proofs.lemmas.Bool.{leb-true, le-leb}
use Rattle.std.specs.declared.cmp.Ordering.TheVariants.{Equal}
use Rattle.mau_terms.specs.Tree.{Tree}
use Rattle.mau_terms.specs.Norm.{norm, arrange}
use Rattle.mau_terms.specs.Bare.{TermSignature, IsLawful}
use Rattle.mau_terms.specs.Laws.{AreNorms}
use Rattle.mau_terms.specs.Subst.{variables, value_at, with_values}
use Rattle.mau_terms.specs.Solution.{list_under, over_list, ArePieces, IsListOf, FitsUnder}
use Rattle.mau_terms.specs.Finite.{IsIn, each_of, words, candidates}
use Rattle.mau_terms.specs.declared.theory.Theory.{Theory}
use Rattle.mau_terms.proofs.Pieces.{Each, Each-append, IsPiece}
use Rattle.mau_terms.proofs.Normal.{IsNormal, norm-norm, norm_normal, normal_fixed, whole_pieces, normal_pieces}
use Rattle.mau_terms.proofs.Finite.{AllIn, AllIn-left, AllIn-right, AllIn-itself, AllIn-arrange, in_words, in_each_of, length-arrange, over_its_list}
use Rattle.mau_terms.proofs.Variables.{variables_occur, values_of_variables}
use Rattle.mau_terms.proofs.Solutions.{instances_by_norms, list_of_made, arrange_cancel}
use Rattle.mau_terms.proofs.Ties.{ties_are_equal}
use Rattle.mau_evaluation.specs.Listing.{same_tree, same_trees, Solution, keep, tuples, compare, fits_under, within_under, IsAscending}
use Rattle.mau_evaluation.proofs.BareTerms.{both_are, and_so}
use Rattle.mau_evaluation.proofs.Reduced.{same_tree_true}
use Rattle.mau_evaluation.proofs.Still.{same_tree_itself}
use Rattle.mau_evaluation.proofs.Listed.{in_map, from_map, from_each_of, in_keep, from_keep, in_tuples, from_tuples, in_ordered, from_ordered, ordered_ascending, compare_total, norms_among, norms_itself, norms_twice, length-norms, values_among, value_norms}

-- the values and contexts of x, which are normal forms, make of p the part of t under the associative f that `FitsUnder` asks for; whether
-- the instance is a bare term is not asked here
pub record FitsByNorms (th : ℕ → Theory) (f : ℕ) (p t : Tree) (x : Solution) : Type 0 where
  pub one_each : length x.values ≡ length (variables p)
  pub normal : AreNorms th x.values
  pub left_list : IsListOf th f x.left
  pub right_list : IsListOf th f x.right
  pub rest_alone : (th f).comm ≡ true → x.left ≡ []
  pub whole : norm th t ≡ over_list (th f) f (x.left ++ (list_under (th f) f (norm th (with_values p x.values)) ++ x.right))
  pub part : (2 ≤ length (list_under (th f) f (norm th (with_values p x.values)))) ⊎ ((x.left ≡ []) × (x.right ≡ []))

one_is : (a b : Bool) → (a || b) ≡ true → (a ≡ true) ⊎ (b ≡ true)
one_is true b e = inl refl
one_is false b e = inr e

or_first : (a b : Bool) → a ≡ true → (a || b) ≡ true
or_first a b e = ap (λ w. w || b) e

or_second : (a b : Bool) → b ≡ true → (a || b) ≡ true
or_second true b e = refl
or_second false b e = e

same_trees_true : (ts us : List Tree) → same_trees ts us ≡ true → ts ≡ us
same_trees_true [] [] e = refl
same_trees_true [] (u ∷ us) e = cc
same_trees_true (t ∷ ts) [] e = cc
same_trees_true (t ∷ ts) (u ∷ us) e = let p = both_are (same_tree t u) (same_trees ts us) e in ap₂ (λ a b. a ∷ b) (same_tree_true t u p.0) (same_trees_true ts us p.1)

same_trees_itself : (ts : List Tree) → same_trees ts ts ≡ true
same_trees_itself [] = refl
same_trees_itself (t ∷ ts) = and_so (same_tree t t) (same_trees ts ts) (same_tree_itself t) (same_trees_itself ts)

same_trees_of : (ts us : List Tree) → ts ≡ us → same_trees ts us ≡ true
same_trees_of ts us e = ap (λ w. same_trees w us) e ∙ same_trees_itself us

from_words : (n : ℕ) (ys xs : List Tree) → IsIn ys (words n xs) → AllIn ys xs
from_words zero ys xs (inl e) = subst (λ w. AllIn w xs) (sym e) tt
from_words zero ys xs (inr i) = absurd i
from_words (suc n) ys xs (inl e) = subst (λ w. AllIn w xs) (sym e) tt
from_words (suc n) ys xs (inr i) =
    let p = from_each_of (λ x. map (λ w. x ∷ w) (words n xs)) xs ys i in
    let q = from_map (λ w. p.0 ∷ w) (words n xs) ys p.2 in
    subst (λ w. AllIn w xs) (sym q.2) (p.1, from_words n q.0 xs q.1)

each_in : (Q : Tree → Type 0) (xs : List Tree) → Each Q xs → (z : Tree) → IsIn z xs → Q z
each_in Q [] h z i = absurd i
each_in Q (x ∷ xs) h z (inl e) = subst Q (sym e) h.0
each_in Q (x ∷ xs) h z (inr i) = each_in Q xs h.1 z i

module _ (s : TermSignature) (lawful : IsLawful s) (f : ℕ) (a : (s.theory f).assoc ≡ true) (p t : Tree) where
  abbrev th : ℕ → Theory
  th = s.theory

  abbrev whole_list : List Tree
  whole_list = list_under (th f) f (norm th t)

  abbrev parts : List (List Tree)
  parts = words (length whole_list) whole_list

  abbrev values : List (List Tree)
  values = tuples (length (variables p)) (map (norm th) (each_of (λ m. candidates th p (over_list (th f) f m)) parts))

  abbrev made_of : List Tree → List Tree → List Tree → Solution
  made_of l r vs = record { left = l; right = r; values = vs }

  abbrev all : List Solution
  all = each_of (λ l. each_of (λ r. map (made_of l r) values) parts) parts

  are_pieces : (ts : List Tree) → AllIn ts whole_list → ArePieces th f ts
  are_pieces [] h = tt
  are_pieces (z ∷ ts) h = (
    normal_fixed th z (each_in (IsNormal th) whole_list (normal_pieces th f (norm th t) (norm_normal th lawful.theories t)) z h.0),
    each_in (IsPiece (th f).assoc (th f).id f) whole_list (whole_pieces th f (norm th t) (norm_normal th lawful.theories t)) z h.0,
    are_pieces ts h.1,
  )

  part_of : (vs left right : List Tree) → (nat_le 2 (length (list_under (th f) f (norm th (with_values p vs)))) || (same_trees left [] && same_trees right [])) ≡ true →
      (2 ≤ length (list_under (th f) f (norm th (with_values p vs)))) ⊎ ((left ≡ []) × (right ≡ []))
  part_of vs left right e = by (one_is (nat_le 2 (length (list_under (th f) f (norm th (with_values p vs))))) (same_trees left [] && same_trees right []) e)
    where
      by : (nat_le 2 (length (list_under (th f) f (norm th (with_values p vs)))) ≡ true) ⊎ ((same_trees left [] && same_trees right []) ≡ true) → (2 ≤ length (list_under (th f) f (norm th (with_values p vs)))) ⊎ ((left ≡ []) × (right ≡ []))
      by (inl h) = inl (leb-true 2 (length (list_under (th f) f (norm th (with_values p vs)))) h)
      by (inr h) = let q = both_are (same_trees left []) (same_trees right []) h in inr (same_trees_true left [] q.0, same_trees_true right [] q.1)

  left_alone : (c : Bool) (left : List Tree) → (not c || same_trees left []) ≡ true → c ≡ true → left ≡ []
  left_alone true left e h = same_trees_true left [] e
  left_alone false left e h = cc

  left_ordered : (c : Bool) (left : List Tree) → (not c || same_trees left []) ≡ true → arrange c left ≡ left
  left_ordered true left e = ap (arrange true) (same_trees_true left [] e) ∙ sym (same_trees_true left [] e)
  left_ordered false left e = refl

  tested : (l r vs : List Tree) → AllIn l whole_list → AllIn r whole_list → length vs ≡ length (variables p) → fits_under th f p (norm th t) (made_of l r vs) ≡ true → AreNorms th vs → FitsByNorms th f p t (made_of l r vs)
  tested l r vs i j n e norms =
      let m = list_under (th f) f (norm th (with_values p vs)) in
      let q = both_are (same_trees (arrange (th f).comm r) r) ((not (th f).comm || same_trees l []) && (same_tree (norm th t) (over_list (th f) f (l ++ (m ++ r))) && (nat_le 2 (length m) || (same_trees l [] && same_trees r [])))) e in
      let u = both_are (not (th f).comm || same_trees l []) (same_tree (norm th t) (over_list (th f) f (l ++ (m ++ r))) && (nat_le 2 (length m) || (same_trees l [] && same_trees r []))) q.1 in
      let v = both_are (same_tree (norm th t) (over_list (th f) f (l ++ (m ++ r)))) (nat_le 2 (length m) || (same_trees l [] && same_trees r [])) u.1 in
      record {
        one_each = n;
        normal = norms;
        left_list = record { pieces = are_pieces l i; ordered = left_ordered (th f).comm l u.0 };
        right_list = record { pieces = are_pieces r j; ordered = same_trees_true (arrange (th f).comm r) r q.0 };
        rest_alone = left_alone (th f).comm l u.0;
        whole = same_tree_true (norm th t) (over_list (th f) f (l ++ (m ++ r))) v.0;
        part = part_of vs l r v.1;
      }

  sound : (x : Solution) → IsIn x (within_under th f p (norm th t)) → FitsByNorms th f p t x
  sound x i =
      let k = from_keep (fits_under th f p (norm th t)) x all (from_ordered (compare th p) (compare_total th p) x (keep (fits_under th f p (norm th t)) all) i) in
      let l = from_each_of (λ l. each_of (λ r. map (made_of l r) values) parts) parts x k.0 in
      let r = from_each_of (λ r. map (made_of l.0 r) values) parts x l.2 in
      let v = from_map (made_of l.0 r.0) values x r.2 in
      let d = from_tuples (length (variables p)) v.0 (map (norm th) (each_of (λ m. candidates th p (over_list (th f) f m)) parts)) v.1 in
      subst (λ z. FitsByNorms th f p t z) (sym v.2)
      (tested l.0 r.0 v.0 (from_words (length whole_list) l.0 whole_list l.1) (from_words (length whole_list) r.0 whole_list r.1) d.0 (ap (fits_under th f p (norm th t)) (sym v.2) ∙ k.1)
      (norms_among th lawful.theories (each_of (λ m. candidates th p (over_list (th f) f m)) parts) v.0 d.1))

  each_piece : (ts : List Tree) → ArePieces th f ts → Each (IsPiece (th f).assoc (th f).id f) ts
  each_piece [] h = tt
  each_piece (z ∷ ts) h = (h.1, each_piece ts h.2)

  -- the list of the whole, in order
  list_by_norms : (vs l r : List Tree) → FitsByNorms th f p t (made_of l r vs) → arrange (th f).comm ((l ++ list_under (th f) f (norm th (with_values p vs))) ++ r) ≡ whole_list
  list_by_norms vs l r x =
      let q = norm th (with_values p vs) in
      let m = list_under (th f) f q in
      let mp : Each (IsPiece (th f).assoc (th f).id f) m = whole_pieces th f q (norm_normal th lawful.theories (with_values p vs)) in
      ap (arrange (th f).comm) (append_assoc l m r)
      ∙ sym (list_of_made th f (l ++ (m ++ r)) a (Each-append (IsPiece (th f).assoc (th f).id f) l (m ++ r) (each_piece l x.left_list.pieces) (Each-append (IsPiece (th f).assoc (th f).id f) m r mp (each_piece r x.right_list.pieces))))
      ∙ ap (list_under (th f) f) (sym x.whole)

  right_by_norms : (vs l r1 r2 : List Tree) → FitsByNorms th f p t (made_of l r1 vs) → FitsByNorms th f p t (made_of l r2 vs) → r1 ≡ r2
  right_by_norms vs l r1 r2 x y =
      arrange_cancel (th f).comm (l ++ list_under (th f) f (norm th (with_values p vs))) r1 r2 x.right_list.ordered y.right_list.ordered (list_by_norms vs l r1 x ∙ sym (list_by_norms vs l r2 y))

  norm_of_norms : (vs : List Tree) → norm th (with_values p (map (norm th) vs)) ≡ norm th (with_values p vs)
  norm_of_norms vs = sym (instances_by_norms th (value_at (variables p) vs) (value_at (variables p) (map (norm th) vs)) (value_norms th lawful.theories (variables p) vs) p)

  norms_normal : (vs : List Tree) → AreNorms th (map (norm th) vs)
  norms_normal [] = tt
  norms_normal (v ∷ vs) = (norm-norm th lawful.theories v, norms_normal vs)

  normed : (vs l r : List Tree) → FitsUnder s f p t vs l r → FitsByNorms th f p t (made_of l r (map (norm th) vs))
  normed vs l r h = record {
    one_each = length-norms th lawful.theories vs ∙ h.one_each;
    normal = norms_normal vs;
    left_list = h.left_list;
    right_list = h.right_list;
    rest_alone = h.rest_alone;
    whole = subst (λ w. norm th t ≡ over_list (th f) f (l ++ (list_under (th f) f w ++ r))) (sym (norm_of_norms vs)) h.whole;
    part = subst (λ w. (2 ≤ length (list_under (th f) f w)) ⊎ ((l ≡ []) × (r ≡ []))) (sym (norm_of_norms vs)) h.part;
  }

  passes : (vs l r : List Tree) → FitsByNorms th f p t (made_of l r vs) → fits_under th f p (norm th t) (made_of l r vs) ≡ true
  passes vs l r h =
      let m = list_under (th f) f (norm th (with_values p vs)) in
      and_so (same_trees (arrange (th f).comm r) r) ((not (th f).comm || same_trees l []) && (same_tree (norm th t) (over_list (th f) f (l ++ (m ++ r))) && (nat_le 2 (length m) || (same_trees l [] && same_trees r []))))
      (same_trees_of (arrange (th f).comm r) r h.right_list.ordered)
      (and_so (not (th f).comm || same_trees l []) (same_tree (norm th t) (over_list (th f) f (l ++ (m ++ r))) && (nat_le 2 (length m) || (same_trees l [] && same_trees r [])))
      (alone (th f).comm h.rest_alone)
      (and_so (same_tree (norm th t) (over_list (th f) f (l ++ (m ++ r)))) (nat_le 2 (length m) || (same_trees l [] && same_trees r []))
      (ap (λ w. same_tree w (over_list (th f) f (l ++ (m ++ r)))) h.whole ∙ same_tree_itself (over_list (th f) f (l ++ (m ++ r))))
      (enough h.part)))
    where
      alone : (c : Bool) → (c ≡ true → l ≡ []) → (not c || same_trees l []) ≡ true
      alone true g = same_trees_of l [] (g refl)
      alone false g = refl

      enough : (2 ≤ length (list_under (th f) f (norm th (with_values p vs)))) ⊎ ((l ≡ []) × (r ≡ [])) → (nat_le 2 (length (list_under (th f) f (norm th (with_values p vs)))) || (same_trees l [] && same_trees r [])) ≡ true
      enough (inl g) = or_first (nat_le 2 (length (list_under (th f) f (norm th (with_values p vs))))) (same_trees l [] && same_trees r []) (le-leb 2 (length (list_under (th f) f (norm th (with_values p vs)))) g)
      enough (inr g) = or_second (nat_le 2 (length (list_under (th f) f (norm th (with_values p vs))))) (same_trees l [] && same_trees r []) (and_so (same_trees l []) (same_trees r []) (same_trees_of l [] g.0) (same_trees_of r [] g.1))

  more_norms : (xs ys ws : List Tree) → ((z : Tree) → IsIn z xs → IsIn z ys) → AllIn ws (map (norm th) xs) → AllIn ws (map (norm th) ys)
  more_norms xs ys [] h g = tt
  more_norms xs ys (w ∷ ws) h g = let q = from_map (norm th) xs w g.0 in (subst (λ z. IsIn z (map (norm th) ys)) (sym q.2) (in_map (norm th) q.0 ys (h q.0 q.1)), more_norms xs ys ws h g.1)

  listed : (vs l r : List Tree) → FitsUnder s f p t vs l r → IsIn (made_of l r (map (norm th) vs)) all
  listed vs left right h =
      let q = norm th (with_values p vs) in
      let m = list_under (th f) f q in
      let mp : Each (IsPiece (th f).assoc (th f).id f) m = whole_pieces th f q (norm_normal th lawful.theories (with_values p vs)) in
      let every = left ++ (m ++ right) in
      let e : whole_list ≡ arrange (th f).comm every =
      ap (list_under (th f) f) h.whole
      ∙ list_of_made th f every a (Each-append (IsPiece (th f).assoc (th f).id f) left (m ++ right) (each_piece left h.left_list.pieces) (Each-append (IsPiece (th f).assoc (th f).id f) m right mp (each_piece right h.right_list.pieces))) in
      let n : length whole_list ≡ length left + (length m + length right) = omega (arith, ap length e, length-arrange (th f).comm every, length-append left (m ++ right), length-append m right) in
      let inside_of : (xs : List Tree) → AllIn xs every → length xs ≤ length whole_list → IsIn xs parts = (λ xs b k. in_words (length whole_list) xs whole_list k (subst (λ w. AllIn xs w) (sym e) (AllIn-arrange (th f).comm xs every b))) in
      let bm : IsIn m parts = inside_of m (AllIn-right m left (m ++ right) (AllIn-left m m right (AllIn-itself m))) (omega arith) in
      let bl : IsIn left parts = inside_of left (AllIn-left left left (m ++ right) (AllIn-itself left)) (omega arith) in
      let br : IsIn right parts = inside_of right (AllIn-right right left (m ++ right) (AllIn-right right m right (AllIn-itself right))) (omega arith) in
      let w : AllIn (map (norm th) vs) (map (norm th) (candidates th p (over_list (th f) f m))) =
      subst (λ z. AllIn (map (norm th) z) (map (norm th) (candidates th p (over_list (th f) f m)))) (values_of_variables p vs h.one_each)
      (values_among th lawful.theories p (value_at (variables p) vs) (over_list (th f) f m) (sym (over_its_list th f q a (norm_normal th lawful.theories (with_values p vs)))) (variables p) (variables_occur p)) in
      let v : IsIn (map (norm th) vs) values =
      in_tuples (length (variables p)) (map (norm th) vs) (map (norm th) (each_of (λ m. candidates th p (over_list (th f) f m)) parts)) (length-norms th lawful.theories vs ∙ h.one_each)
      (more_norms (candidates th p (over_list (th f) f m)) (each_of (λ m. candidates th p (over_list (th f) f m)) parts) (map (norm th) vs) (λ z i. in_each_of (λ m. candidates th p (over_list (th f) f m)) m parts z bm i) w) in
      in_each_of (λ l. each_of (λ r. map (made_of l r) values) parts) left parts (made_of left right (map (norm th) vs)) bl
      (in_each_of (λ r. map (made_of left r) values) right parts (made_of left right (map (norm th) vs)) br (in_map (made_of left right) (map (norm th) vs) values v))

  complete : (vs left right : List Tree) → FitsUnder s f p t vs left right → IsIn (made_of left right (map (norm th) vs)) (within_under th f p (norm th t))
  complete vs left right h =
      let g = normed vs left right h in
      let i = in_keep (fits_under th f p (norm th t)) (made_of left right (map (norm th) vs)) all (listed vs left right h) (passes (map (norm th) vs) left right g) in
      let y = in_ordered (compare th p) (compare_total th p) (made_of left right (map (norm th) vs)) (keep (fits_under th f p (norm th t)) all) i in
      by g y.0 y.1 y.2
    where
      by : FitsByNorms th f p t (made_of left right (map (norm th) vs)) → (y : Solution) → IsIn y (within_under th f p (norm th t)) → ((made_of left right (map (norm th) vs) ≡ y) ⊎ (compare th p (made_of left right (map (norm th) vs)) y ≡ Equal)) → IsIn (made_of left right (map (norm th) vs)) (within_under th f p (norm th t))
      by g y i (inl e) = subst (λ z. IsIn z (within_under th f p (norm th t))) (sym e) i
      by g y i (inr e) =
          let d = sound y i in
          let q = ties_are_equal th lawful.theories p (left, map (norm th) vs) (y.left, y.values) g.one_each d.one_each e in
          let r : map (norm th) vs ≡ y.values = sym (norms_twice th lawful.theories vs) ∙ (q.1 ∙ norms_itself th lawful.theories y.values d.normal) in
          let k : right ≡ y.right = right_by_norms y.values y.left right y.right (subst (λ z. FitsByNorms th f p t (made_of z right y.values)) q.0 (subst (λ z. FitsByNorms th f p t (made_of left right z)) r g)) d in
          subst (λ z. IsIn z (within_under th f p (norm th t)))
          (sym (ap (λ z. made_of z right (map (norm th) vs)) q.0 ∙ (ap (λ z. made_of y.left z (map (norm th) vs)) k ∙ ap (λ z. made_of y.left y.right z) r))) i

  ascending : IsAscending (compare th p) (within_under th f p (norm th t))
  ascending = ordered_ascending (compare th p) (compare_total th p) (keep (fits_under th f p (norm th t)) all)

-- the same with extension, under an associative f
abbrev pub FittingUnderAreListed : Type 0
FittingUnderAreListed = (s : TermSignature) → IsLawful s → (f : ℕ) → (s.theory f).assoc ≡ true → (p t : Tree) →
    ((x : Solution) → IsIn x (within_under s.theory f p (norm s.theory t)) → FitsByNorms s.theory f p t x) ×
    ((vs left right : List Tree) → FitsUnder s f p t vs left right → IsIn (record { left = left; right = right; values = map (norm s.theory) vs }) (within_under s.theory f p (norm s.theory t))) ×
    IsAscending (compare s.theory p) (within_under s.theory f p (norm s.theory t))

pub fitting_under_are_listed : FittingUnderAreListed
fitting_under_are_listed s lawful f a p t = (sound s lawful f a p t, complete s lawful f a p t, ascending s lawful f a p t)
