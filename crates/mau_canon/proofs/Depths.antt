-- No argument is deeper than the normal form of an operator over it: so where a term is within the limits, so are the arguments that it was built of.
use Rattle.std.proofs.Common.{◌≡◌, ℕ, zero, suc, ◌+◌, ◌≤◌, List, [], ◌∷◌, ◌++◌, length, Bool, true, false, ◌||◌, All, map, ap₂, cond, Option, Some, None, refl, sym, ap, ◌∙◌, subst, arith, max}
use Rattle.std.proofs.lemmas.List.{length-append}
use Rattle.std.proofs.lemmas.List.Elements.{All-nil, All-cons, All-head, All-tail}
use Rattle.std.proofs.lemmas.Bool.{or_parts}
use Rattle.mau_terms.specs.Tree.{Tree, variable, numeral, apply, Trees, no_trees, tree, node, list_of, trees_of}
use Rattle.mau_terms.specs.Order.{tree_cmp, insert_tree, sort_trees}
use Rattle.mau_terms.specs.Norm.{unit_tree, pieces, all_pieces, arrange, finish, over_one, greatest_numeral, build, norm, holds_overflow}
use Rattle.mau_terms.specs.Depth.{depth, depths, list_depth, depths-trees_of}
use Rattle.mau_terms.specs.declared.theory.Identity.{Identity}
use Rattle.mau_terms.specs.declared.theory.Identity.TheVariants.{Const, Num}
use Rattle.mau_terms.specs.declared.theory.Theory.{Theory}
use Rattle.mau_terms.proofs.Pieces.{Each, Split, unit, many, one, split}
use Rattle.mau_terms.proofs.Induction.{norm-node}
use Rattle.mau_terms.proofs.Normal.{IsNormal, finish_long, norm_normal}
use Rattle.mau_terms.proofs.Wholes.{not_alone}
use Rattle.std.specs.Ordering.{is_gt}
use Rattle.mau_terms.specs.Lawful.{AreLawful}
use Rattle.mau_canon.specs.declared.TheConstants.{MAX_DEPTH}
use Rattle.mau_canon.specs.Within.{IsWithin}
use Rattle.mau_canon.specs.Judging.{is_overflow}
use Rattle.mau_canon.proofs.Overflows.{some_overflow, holds-build}
use Rattle.mau_terms.proofs.Finite.{length_insert, length_sort}

some_depth : (t : Tree) → 1 ≤ depth t
some_depth (variable i s) = omega arith
some_depth (numeral n) = omega arith
some_depth (apply f ts) = omega arith

pub unit_depth : (i : Identity) → depth (unit_tree i) ≡ 1
unit_depth (Const c) = refl
unit_depth (Num n) = refl

-- ---- sorting keeps what holds of each

from_insert : (P : Tree → Type 0) (t : Tree) (us : List Tree) → Each P (insert_tree t us) → P t × Each P us
from_insert P t [] h = h
from_insert P t (u ∷ us) h = by (is_gt (tree_cmp t u)) (λ g. from_insert P t us g) h
  where
    by : (b : Bool) → (Each P (insert_tree t us) → P t × Each P us) → Each P (cond b (u ∷ insert_tree t us) (t ∷ u ∷ us)) → P t × (P u × Each P us)
    by true k g = ((k g.1).0, (g.0, (k g.1).1))
    by false k g = g

from_sort : (P : Tree → Type 0) (ts : List Tree) → Each P (sort_trees ts) → Each P ts
from_sort P [] h = tt
from_sort P (t ∷ ts) h = let k = from_insert P t (sort_trees ts) h in (k.0, from_sort P ts k.1)

from_arrange : (P : Tree → Type 0) (c : Bool) (ts : List Tree) → Each P (arrange c ts) → Each P ts
from_arrange P true ts h = from_sort P ts h
from_arrange P false ts h = h

length-arrange : (c : Bool) (ts : List Tree) → length (arrange c ts) ≡ length ts
length-arrange true ts = length_sort ts
length-arrange false ts = refl

-- ---- elements of a list

each_in_depths : (ts : List Tree) (n : ℕ) → suc (list_depth ts) ≤ n → Each (λ t. suc (depth t) ≤ n) ts
each_in_depths [] n h = tt
each_in_depths (t ∷ ts) n h = (omega arith, each_in_depths ts n (omega arith))

below_node : (f : ℕ) (ts : List Tree) → Each (λ t. suc (depth t) ≤ depth (node f ts)) ts
below_node f ts = each_in_depths ts (depth (node f ts)) (omega (arith, depths-trees_of ts))

one_more : (n : ℕ) (ts : List Tree) → Each (λ t. suc (depth t) ≤ n) ts → Each (λ t. depth t ≤ n) ts
one_more n [] h = tt
one_more n (t ∷ ts) h = (let k = h.0 in omega arith, one_more n ts h.1)

over_one_depth : (s : Bool) (f : ℕ) (t : Tree) → depth t ≤ depth (over_one s f t)
over_one_depth s f (variable i r) = omega arith
over_one_depth s f (apply g ts) = omega arith
over_one_depth s f (numeral n) = some_depth (over_one s f (numeral n))

in_finish : (a : Bool) (u : Option Identity) (s : Bool) (f : ℕ) (ts : List Tree) → Each (λ t. depth t ≤ depth (finish a u s f ts)) ts
in_finish a u s f [] = tt
in_finish true None s f (t ∷ []) = (omega arith, tt)
in_finish true (Some i) s f (t ∷ []) = (omega arith, tt)
in_finish false None s f (t ∷ []) = (over_one_depth s f t, tt)
in_finish false (Some i) s f (t ∷ []) = (omega arith, tt)
in_finish a u s f (t ∷ v ∷ ts) = subst (λ (w : Tree). Each (λ x. depth x ≤ depth w) (t ∷ v ∷ ts)) (sym (finish_long a u s f t v ts)) (one_more _ (t ∷ v ∷ ts) (below_node f (t ∷ v ∷ ts)))

below_finish : (a : Bool) (u : Option Identity) (s : Bool) (f : ℕ) (ts : List Tree) → 2 ≤ length ts → Each (λ t. suc (depth t) ≤ depth (finish a u s f ts)) ts
below_finish a u s f [] h = tt
below_finish a u s f (t ∷ []) h = absurd (omega arith)
below_finish a u s f (t ∷ v ∷ ts) h = subst (λ (w : Tree). Each (λ x. suc (depth x) ≤ depth w) (t ∷ v ∷ ts)) (sym (finish_long a u s f t v ts)) (below_node f (t ∷ v ∷ ts))

-- ---- arguments

left_each : (P : Tree → Type 0) (xs ys : List Tree) → Each P (xs ++ ys) → Each P xs
left_each P [] ys h = tt
left_each P (x ∷ xs) ys h = (h.0, left_each P xs ys h.1)

right_each : (P : Tree → Type 0) (xs ys : List Tree) → Each P (xs ++ ys) → Each P ys
right_each P [] ys h = h
right_each P (x ∷ xs) ys h = right_each P xs ys h.1

deepest : (ts : Trees) (n : ℕ) → 1 ≤ n → Each (λ t. suc (depth t) ≤ n) (list_of ts) → suc (depths ts) ≤ n
deepest no_trees n h e = h
deepest (tree t ts) n h e = let a = e.0 in let b = deepest ts n h e.1 in omega arith

module _ (th : ℕ → Theory) (f n : ℕ) (some : 1 ≤ n) where
  -- what the pieces of some normal forms say of their depth
  one_argument : (t : Tree) → IsNormal th t → (zs : List Tree) → Each (λ x. depth x ≤ n) (pieces (th f).assoc (th f).id f t) → (2 ≤ length (pieces (th f).assoc (th f).id f t) → Each (λ x. suc (depth x) ≤ n) (pieces (th f).assoc (th f).id f t)) → depth t ≤ n
  one_argument t m zs h g = by (split (th f).assoc (th f).id f t)
    where
      lists : (us : Trees) (vs : List Tree) → (th f).assoc ≡ true → t ≡ apply f us → pieces (th f).assoc (th f).id f t ≡ list_of us → list_of us ≡ vs → depth t ≤ n
      lists us [] a e q v = let k : suc (depths us) ≤ n = deepest us n some (subst (Each (λ x. suc (depth x) ≤ n)) (sym v) tt) in subst (λ (w : Tree). depth w ≤ n) (sym e) k
      lists us (x ∷ []) a e q v =
          let settled = (subst (IsNormal th) e m).1 in
          absurd (not_alone (th f).id (th f).succ f x (subst (λ b. finish b (th f).id (th f).succ f (x ∷ []) ≡ node f (x ∷ [])) a (subst (λ ws. finish (th f).assoc (th f).id (th f).succ f ws ≡ node f ws) v settled.long)))
      lists us (x ∷ y ∷ vs) a e q v =
          let two : 2 ≤ length (pieces (th f).assoc (th f).id f t) = omega (arith, ap length (q ∙ v)) in
          let k : suc (depths us) ≤ n = deepest us n some (subst (Each (λ x. suc (depth x) ≤ n)) q (g two)) in
          subst (λ (w : Tree). depth w ≤ n) (sym e) k

      by : Split (th f).assoc (th f).id f t → depth t ≤ n
      by (unit i u e q) = subst (λ (w : Tree). depth w ≤ n) (sym e) (omega (arith, unit_depth i))
      by (many us a e q) = lists us (list_of us) a e q refl
      by (one q) = (subst (Each (λ x. depth x ≤ n)) q h).0

  all_arguments : (ts : List Tree) → Each (IsNormal th) ts → Each (λ x. depth x ≤ n) (all_pieces (th f).assoc (th f).id f ts) → (2 ≤ length (all_pieces (th f).assoc (th f).id f ts) → Each (λ x. suc (depth x) ≤ n) (all_pieces (th f).assoc (th f).id f ts)) → Each (λ t. depth t ≤ n) ts
  all_arguments [] m h g = tt
  all_arguments (t ∷ ts) m h g =
      let xs = pieces (th f).assoc (th f).id f t in
      let ys = all_pieces (th f).assoc (th f).id f ts in (
        one_argument t m.0 [] (left_each _ xs ys h) (λ two. left_each _ xs ys (g (omega (arith, length-append xs ys)))),
        all_arguments ts m.1 (right_each _ xs ys h) (λ two. right_each _ xs ys (g (omega (arith, length-append xs ys)))),
      )

-- each argument is at most as deep as the operator over all
pub arguments_depth : (th : ℕ → Theory) (f : ℕ) (ts : List Tree) → Each (IsNormal th) ts → Each (λ t. depth t ≤ depth (build (th f) f ts)) ts
arguments_depth th f ts m =
    let a = (th f).assoc in
    let u = (th f).id in
    let zs = all_pieces a u f ts in
    let whole = finish a u (th f).succ f (arrange (th f).comm zs) in
    all_arguments th f (depth (build (th f) f ts)) (some_depth (build (th f) f ts)) ts m
    (from_arrange (λ x. depth x ≤ depth whole) (th f).comm zs (in_finish a u (th f).succ f (arrange (th f).comm zs)))
    (λ two. from_arrange (λ x. suc (depth x) ≤ depth whole) (th f).comm zs (below_finish a u (th f).succ f (arrange (th f).comm zs) (omega (arith, length-arrange (th f).comm zs))))

-- ---- arguments within the limits

module _ (th : ℕ → Theory) (lawful : AreLawful th) where
  norms_same : (ts : List Tree) → All (λ t. norm th t ≡ t) ts → map (norm th) ts ≡ ts
  norms_same [] all = refl
  norms_same (t ∷ ts) all = ap₂ (λ v vs. v ∷ vs) (All-head (λ t. norm th t ≡ t) t ts all) (norms_same ts (All-tail (λ t. norm th t ≡ t) t ts all))

  normal_each : (ts : List Tree) → All (λ t. norm th t ≡ t) ts → Each (IsNormal th) ts
  normal_each [] all = tt
  normal_each (t ∷ ts) all = (subst (IsNormal th) (All-head (λ t. norm th t ≡ t) t ts all) (norm_normal th lawful t), normal_each ts (All-tail (λ t. norm th t ≡ t) t ts all))

  all_within : (ts : List Tree) (n : ℕ) → n ≤ MAX_DEPTH → Each (λ t. depth t ≤ n) ts → some_overflow th ts ≡ false → All (IsWithin th) ts
  all_within [] n m deep o = All-nil (IsWithin th)
  all_within (t ∷ ts) n m deep o =
      let parts = or_parts (holds_overflow th t) (some_overflow th ts) o in
      let here = deep.0 in
      All-cons (IsWithin th) t ts (record { shallow = omega arith; no_overflow = parts.0 }) (all_within ts n m deep.1 parts.1)

  pub arguments_are_within : (f : ℕ) (ts : List Tree) → All (λ t. norm th t ≡ t) ts → IsWithin th (norm th (node f ts)) → All (IsWithin th) ts
  arguments_are_within f ts normal within =
      let whole : norm th (node f ts) ≡ build (th f) f ts = norm-node th f ts ∙ ap (build (th f) f) (norms_same ts normal) in
      let overflow : (some_overflow th ts || is_overflow (th f).succ f (build (th f) f ts)) ≡ false = sym (holds-build th lawful f ts) ∙ ap (holds_overflow th) (sym whole) ∙ within.no_overflow in
      all_within ts (depth (build (th f) f ts)) (subst (λ t. depth t ≤ MAX_DEPTH) whole within.shallow) (arguments_depth th f ts (normal_each ts normal))
      (or_parts (some_overflow th ts) (is_overflow (th f).succ f (build (th f) f ts)) overflow).0
