-- The values of a list part: the identity, single items, and nodes over longer lists.
use Rattle.std.proofs.Common.{◌≡◌, ℕ, ◌<◌, ◌≤◌, List, [], ◌∷◌, ◌++◌, length, take, Bool, true, false, if◌then◌else◌, ◌&&◌, Option, Some, None, inl, inr, ◌⊎◌, refl, sym, ◌∙◌, ap, ap₂, subst, arith}
use Rattle.std.specs.declared.cmp.Ordering.TheVariants.{Less}
use Rattle.std.specs.Ordering.{is_gt}
use Rattle.std.proofs.lemmas.Bool.{or_parts}
use Rattle.mau_terms.specs.Tree.{Tree, node, trees_of}
use Rattle.mau_terms.specs.Order.{tree_cmp, insert_tree, sort_trees}
use Rattle.mau_terms.specs.Norm.{unit_tree, arrange, finish, norm, hold_overflow, is_greatest_numeral}
use Rattle.mau_terms.specs.Depth.{depths-trees_of, list_depth}
use Rattle.mau_terms.specs.Lawful.{AreLawful}
use Rattle.mau_terms.specs.Solution.{over_list, list_under, ArePieces}
use Rattle.mau_terms.specs.Finite.{IsIn, units_of}
use Rattle.mau_terms.specs.declared.theory.Identity.{Identity}
use Rattle.mau_terms.specs.declared.theory.Theory.{Theory}
use Rattle.mau_terms.proofs.Sorting.{sort-sort}
use Rattle.mau_terms.proofs.Pieces.{Each, Each-arrange, IsPiece, arrange_none, arrange_one, arrange-arrange}
use Rattle.mau_terms.proofs.Normal.{IsNormal, norm_normal, normal_fixed, pieces_all, build_normal, finish_long, whole_pieces}
use Rattle.mau_terms.proofs.Solutions.{list_of_made}
use Rattle.mau_terms.proofs.Finite.{over_its_list, finish_true_one, in_arrange, length-arrange}
use Rattle.mau_canon.specs.declared.TheConstants.{MAX_DEPTH}
use Rattle.mau_canon.specs.Within.{IsWithin}
use Rattle.mau_lists.specs.Lists.{IsSubList, IsFront, IsPart, IsNextOrEnd}
use Rattle.mau_lists.specs.Terms.{IsBefore}
use Rattle.mau_lists.proofs.Multisets.{sub_ascends}
use Rattle.mau_lists.proofs.Trees.{sorted_ascends, sort_ascending}
use Rattle.mau_lists.proofs.Fewer.{cmp_below}
use Rattle.mau_domains.specs.Parts.{Reach, whole, front, inside, Reaches, some_of}
use Rattle.mau_domains.specs.Search.{IsValueBehind}
use Rattle.mau_domains.specs.Values.{IsValueOf, by_key}
use Rattle.mau_domains.specs.Nearest.{HoldsNext}
use Rattle.mau_domains.specs.Lists.{IsListIn, is_long, IsLongIn, IsNodeIn, StartsAt, IsLeastLong, alone_of, whole_of}
use Rattle.mau_domains.proofs.Least.{holds_all, holds_as, holds_both}
use Rattle.mau_domains.proofs.Reached.{reached_in, in_reached}
use Rattle.mau_domains.proofs.Longer.{nodes_stand}
use Rattle.mau_domains.proofs.LongerIds.{long_by}
use Rattle.mau_domains.proofs.Limits.{each_piece, each_normal, IsBelow, node_within, all_below}

-- ---- lists of items, whatever they hold

sub_each : (P : Tree → Type 0) (xs ys : List Tree) → IsSubList xs ys → Each P ys → Each P xs
sub_each P [] ys s p = tt
sub_each P (x ∷ xs) [] s p = absurd s
sub_each P (x ∷ xs) (y ∷ ys) (inl s) p = (subst P (sym s.0) p.0, sub_each P xs ys s.1 p.1)
sub_each P (x ∷ xs) (y ∷ ys) (inr s) p = sub_each P (x ∷ xs) ys s p.1

front_each : (P : Tree → Type 0) (l ys : List Tree) → IsFront l ys → Each P ys → Each P l
front_each P [] ys h p = tt
front_each P (t ∷ l) [] h p = absurd h
front_each P (t ∷ l) (y ∷ ys) h p = (subst P (sym h.0) p.0, front_each P l ys h.1 p.1)

part_each : (P : Tree → Type 0) (l ys : List Tree) → IsPart l ys → Each P ys → Each P l
part_each P l [] h p = front_each P l [] h p
part_each P l (y ∷ ys) (inl h) p = front_each P l (y ∷ ys) h p
part_each P l (y ∷ ys) (inr h) p = part_each P l ys h p.1

-- what holds of the arranged items holds of the list
pub each_in : (P : Tree → Type 0) (c : Bool) (r : Reach) (ys xs : List Tree) → IsListIn c r ys xs → Each P (arrange c ys) → Each P xs
each_in P true whole ys xs h p = subst (Each P) (sym h) p
each_in P true front ys xs h p = sub_each P xs (sort_trees ys) h p
each_in P true inside ys xs h p = sub_each P xs (sort_trees ys) h p
each_in P false whole ys xs h p = subst (Each P) (sym h) p
each_in P false front ys xs h p = front_each P xs ys h p
each_in P false inside ys xs h p = part_each P xs ys h p

sub_length : (xs ys : List Tree) → IsSubList xs ys → length xs ≤ length ys
sub_length [] ys s = omega arith
sub_length (x ∷ xs) [] s = absurd s
sub_length (x ∷ xs) (y ∷ ys) (inl s) = omega (arith, sub_length xs ys s.1)
sub_length (x ∷ xs) (y ∷ ys) (inr s) = omega (arith, sub_length (x ∷ xs) ys s)

front_length : (xs ys : List Tree) → IsFront xs ys → length xs ≤ length ys
front_length [] ys s = omega arith
front_length (x ∷ xs) [] s = absurd s
front_length (x ∷ xs) (y ∷ ys) s = omega (arith, front_length xs ys s.1)

part_length : (xs ys : List Tree) → IsPart xs ys → length xs ≤ length ys
part_length xs [] s = front_length xs [] s
part_length xs (y ∷ ys) (inl s) = front_length xs (y ∷ ys) s
part_length xs (y ∷ ys) (inr s) = omega (arith, part_length xs ys s)

length_in : (c : Bool) (r : Reach) (ys xs : List Tree) → IsListIn c r ys xs → length xs ≤ length ys
length_in true whole ys xs h = omega (arith, ap length h, length-arrange true ys)
length_in true front ys xs h = omega (arith, sub_length xs (sort_trees ys) h, length-arrange true ys)
length_in true inside ys xs h = omega (arith, sub_length xs (sort_trees ys) h, length-arrange true ys)
length_in false whole ys xs h = omega (arith, ap length h)
length_in false front ys xs h = front_length xs ys h
length_in false inside ys xs h = part_length xs ys h

-- it stands in order
pub arranged : (c : Bool) (r : Reach) (ys xs : List Tree) → IsListIn c r ys xs → arrange c xs ≡ xs
arranged true whole ys xs h = ap sort_trees h ∙ sort-sort ys ∙ sym h
arranged true front ys xs h = sort_ascending xs (sub_ascends xs (sort_trees ys) h (sorted_ascends ys))
arranged true inside ys xs h = sort_ascending xs (sub_ascends xs (sort_trees ys) h (sorted_ascends ys))
arranged false r ys xs h = refl

long_length : (xs : List Tree) → is_long xs ≡ true → 2 ≤ length xs
long_length [] e = cc
long_length (t ∷ []) e = cc
long_length (t ∷ u ∷ xs) e = omega arith

-- ---- single items

from_insert : (x t : Tree) (us : List Tree) → IsIn x (insert_tree t us) → IsIn x (t ∷ us)
from_insert x t [] h = h
from_insert x t (u ∷ us) h = by (λ k. from_insert x t us k) (is_gt (tree_cmp t u)) h
  where
    by : (IsIn x (insert_tree t us) → IsIn x (t ∷ us)) → (b : Bool) → IsIn x (if b then u ∷ insert_tree t us else t ∷ u ∷ us) → IsIn x (t ∷ u ∷ us)
    by ih true (inl e) = inr (inl e)
    by ih true (inr k) = elim (ih k) [ inl e ↦ inl e | inr l ↦ inr (inr l) ]
    by ih false k = k

pub from_sort : (x : Tree) (ts : List Tree) → IsIn x (sort_trees ts) → IsIn x ts
from_sort x [] h = h
from_sort x (t ∷ ts) h = elim (from_insert x t (sort_trees ts) h) [ inl e ↦ inl e | inr k ↦ inr (from_sort x ts k) ]

sub_in : (t : Tree) (ys : List Tree) → IsSubList (t ∷ []) ys → IsIn t ys
sub_in t [] h = h
sub_in t (y ∷ ys) (inl h) = inl h.0
sub_in t (y ∷ ys) (inr h) = inr (sub_in t ys h)

in_sub : (t : Tree) (ys : List Tree) → IsIn t ys → IsSubList (t ∷ []) ys
in_sub t [] h = h
in_sub t (y ∷ ys) (inl e) = inl (e, tt)
in_sub t (y ∷ ys) (inr h) = inr (in_sub t ys h)

part_in : (t : Tree) (ys : List Tree) → IsPart (t ∷ []) ys → IsIn t ys
part_in t [] h = h
part_in t (y ∷ ys) (inl h) = inl h.0
part_in t (y ∷ ys) (inr h) = inr (part_in t ys h)

in_part : (t : Tree) (ys : List Tree) → IsIn t ys → IsPart (t ∷ []) ys
in_part t [] h = h
in_part t (y ∷ ys) (inl e) = inl (e, tt)
in_part t (y ∷ ys) (inr h) = inr (in_part t ys h)

front_in : (t : Tree) (ys : List Tree) → IsFront (t ∷ []) ys → IsIn t (take 1 ys)
front_in t [] h = h
front_in t (y ∷ ys) h = inl h.0

in_front : (t : Tree) (ys : List Tree) → IsIn t (take 1 ys) → IsFront (t ∷ []) ys
in_front t [] h = h
in_front t (y ∷ ys) (inl e) = (e, tt)
in_front t (y ∷ ys) (inr h) = absurd h

alone_is : (c : Bool) (r : Reach) → (r ≡ whole → ⊥) → (ys : List Tree) (t : Tree) → IsIn t (alone_of c r ys) → IsListIn c r ys (t ∷ [])
alone_is c whole n ys t h = absurd (n refl)
alone_is true front n ys t h = in_sub t (sort_trees ys) (in_arrange true t ys h)
alone_is true inside n ys t h = in_sub t (sort_trees ys) (in_arrange true t ys h)
alone_is false front n ys t h = in_front t ys h
alone_is false inside n ys t h = in_part t ys h

is_alone : (c : Bool) (r : Reach) → (r ≡ whole → ⊥) → (ys : List Tree) (t : Tree) → IsListIn c r ys (t ∷ []) → IsIn t (alone_of c r ys)
is_alone c whole n ys t h = absurd (n refl)
is_alone true front n ys t h = from_sort t ys (sub_in t (sort_trees ys) h)
is_alone true inside n ys t h = from_sort t ys (sub_in t (sort_trees ys) h)
is_alone false front n ys t h = front_in t ys h
is_alone false inside n ys t h = part_in t ys h

-- ---- no item

none_part : (ys : List Tree) → IsPart [] ys
none_part [] = tt
none_part (y ∷ ys) = inl tt

none_in : (c : Bool) (r : Reach) → (r ≡ whole → ⊥) → (ys : List Tree) → IsListIn c r ys []
none_in c whole n ys = absurd (n refl)
none_in true front n ys = tt
none_in true inside n ys = tt
none_in false front n ys = tt
none_in false inside n ys = none_part ys

module _ (th : ℕ → Theory) (lawful : AreLawful th) (f : ℕ) (a : (th f).assoc ≡ true) (ts : List Tree) (p : ArePieces th f ts) where
  abbrev c : Bool
  c = (th f).comm

  pieces_in : (r : Reach) (xs : List Tree) → IsListIn (th f).comm r ts xs → Each (IsPiece (th f).assoc (th f).id f) xs
  pieces_in r xs h = each_in (IsPiece (th f).assoc (th f).id f) c r ts xs h (Each-arrange (IsPiece (th f).assoc (th f).id f) c ts (each_piece th f ts p))

  normals_in : (r : Reach) (xs : List Tree) → IsListIn (th f).comm r ts xs → Each (IsNormal th) xs
  normals_in r xs h = each_in (IsNormal th) c r ts xs h (Each-arrange (IsNormal th) c ts (each_normal th f lawful ts p))

  normal_over : (r : Reach) (xs : List Tree) → IsListIn (th f).comm r ts xs → norm th (over_list (th f) f xs) ≡ over_list (th f) f xs
  normal_over r xs h =
      normal_fixed th (over_list (th f) f xs)
      (subst (λ l. IsNormal th (over_list (th f) f l)) (pieces_all th (th f).assoc (th f).id f xs (pieces_in r xs h)) (build_normal th lawful f xs (normals_in r xs h)))

  list_over : (r : Reach) (xs : List Tree) → IsListIn (th f).comm r ts xs → list_under (th f) f (over_list (th f) f xs) ≡ xs
  list_over r xs h = list_of_made th f xs a (pieces_in r xs h) ∙ arranged c r ts xs h

  over_one : (t : Tree) → over_list (th f) f (t ∷ []) ≡ t
  over_one t =
      ap (finish (th f).assoc (th f).id (th f).succ f) (arrange_one c t)
      ∙ ap (λ b. finish b (th f).id (th f).succ f (t ∷ [])) a
      ∙ finish_true_one (th f).id (th f).succ f t

  finish_longer : (zs : List Tree) → is_long zs ≡ true → finish (th f).assoc (th f).id (th f).succ f zs ≡ node f zs
  finish_longer [] l = cc
  finish_longer (t ∷ []) l = cc
  finish_longer (t ∷ u ∷ zs) l = finish_long (th f).assoc (th f).id (th f).succ f t u zs

  pub over_long : (r : Reach) (xs : List Tree) → IsListIn (th f).comm r ts xs → is_long xs ≡ true → over_list (th f) f xs ≡ node f xs
  over_long r xs h l = ap (finish (th f).assoc (th f).id (th f).succ f) (arranged c r ts xs h) ∙ finish_longer xs l

  pub normal_long : (r : Reach) (xs : List Tree) → IsLongIn (th f).comm r ts xs → norm th (node f xs) ≡ node f xs
  normal_long r xs h = subst (λ t. norm th t ≡ t) (over_long r xs h.lies h.long) (normal_over r xs h.lies)

  pub over_none : (i : Identity) → (th f).id ≡ Some i → over_list (th f) f [] ≡ unit_tree i
  over_none i e = ap (finish (th f).assoc (th f).id (th f).succ f) (arrange_none c) ∙ ap₂ (λ b u. finish b u (th f).succ f []) a e

  -- ---- lists and values

  value_over : (r : Reach) (xs : List Tree) → IsListIn (th f).comm r ts xs → ((th f).id ≡ None → xs ≡ [] → ⊥) → IsValueOf th (some_of r f ts) (over_list (th f) f xs)
  value_over r xs h g = record {
    normal = normal_over r xs h;
    of = subst (λ l. Reaches (th f).comm r l ts) (sym (list_over r xs h)) (in_reached c r xs ts h);
    filled = λ e k. g e (sym (list_over r xs h) ∙ k);
  }

  list_of_value : (r : Reach) (v : Tree) → IsValueOf th (some_of r f ts) v → IsListIn (th f).comm r ts (list_under (th f) f v)
  list_of_value r v w =
      let n : IsNormal th v = subst (IsNormal th) w.normal (norm_normal th lawful v) in
      let l = list_under (th f) f v in
      let o : arrange c l ≡ l = sym (list_of_made th f l a (whole_pieces th f v n)) ∙ ap (list_under (th f) f) (over_its_list th f v a n) in
      reached_in c r l ts o w.of

  over_value : (r : Reach) (v : Tree) → IsValueOf th (some_of r f ts) v → over_list (th f) f (list_under (th f) f v) ≡ v
  over_value r v w = over_its_list th f v a (subst (IsNormal th) w.normal (norm_normal th lawful v))

  -- ---- the whole

  whole_list : (d : Bool) → IsListIn d whole ts (arrange d ts)
  whole_list true = refl
  whole_list false = refl

  list_whole : (d : Bool) (xs : List Tree) → IsListIn d whole ts xs → xs ≡ arrange d ts
  list_whole true xs h = h
  list_whole false xs h = h

  over_whole : over_list (th f) f (arrange (th f).comm ts) ≡ over_list (th f) f ts
  over_whole = ap (finish (th f).assoc (th f).id (th f).succ f) (arrange-arrange c ts)

  none_arranged : (d : Bool) (us : List Tree) → arrange d us ≡ [] → us ≡ []
  none_arranged d [] e = refl
  none_arranged d (u ∷ us) e = absurd (let k : length (arrange d (u ∷ us)) ≡ 0 = ap length e in omega (arith, length-arrange d (u ∷ us)))

  pub whole_holds : (o : Option ℕ) (after : Option Tree) → HoldsNext (by_key th o) (IsValueOf th (some_of whole f ts)) 0 after (whole_of (th f) f ts)
  whole_holds o after = record { each = each; least = λ v q b. (v, there v q, b, inr refl) }
    where
      value : ((th f).id ≡ None → ts ≡ [] → ⊥) → IsValueOf th (some_of whole f ts) (over_list (th f) f ts)
      value g = subst (IsValueOf th (some_of whole f ts)) over_whole (value_over whole (arrange c ts) (whole_list c) (λ e k. g e (none_arranged c ts k)))

      each : (w : Tree) → IsIn w (whole_of (th f) f ts) → IsValueOf th (some_of whole f ts) w
      each w i = by ts refl i
        where
          unit : (u : Option Identity) → (th f).id ≡ u → ts ≡ [] → IsIn w (units_of u) → IsValueOf th (some_of whole f ts) w
          unit None e k j = absurd j
          unit (Some d) e k (inl j) =
              subst (IsValueOf th (some_of whole f ts)) (ap (over_list (th f) f) k ∙ over_none d e ∙ sym j) (value (λ n. let m : None ≡ Some d = sym n ∙ e in absurd (cc)))
          unit (Some d) e k (inr j) = absurd j

          by : (us : List Tree) → ts ≡ us → IsIn w (whole_of (th f) f us) → IsValueOf th (some_of whole f ts) w
          by [] k j = unit (th f).id refl k j
          by (u ∷ us) k (inl j) = subst (IsValueOf th (some_of whole f ts)) (ap (over_list (th f) f) k ∙ sym j) (value (λ n m. let z : u ∷ us ≡ [] = sym k ∙ m in absurd (cc)))
          by (u ∷ us) k (inr j) = absurd j

      there : (v : Tree) → IsValueOf th (some_of whole f ts) v → IsIn v (whole_of (th f) f ts)
      there v q =
          let l : list_under (th f) f v ≡ arrange c ts = list_whole c (list_under (th f) f v) (list_of_value whole v q) in
          let same : over_list (th f) f ts ≡ v = sym over_whole ∙ ap (over_list (th f) f) (sym l) ∙ over_value whole v q in
          by ts refl l same
        where
          unit : (u : Option Identity) → (th f).id ≡ u → list_under (th f) f v ≡ [] → over_list (th f) f [] ≡ v → IsIn v (units_of u)
          unit None e k j = absurd (q.filled e k)
          unit (Some d) e k j = inl (sym j ∙ over_none d e)

          by : (us : List Tree) → ts ≡ us → list_under (th f) f v ≡ arrange c ts → over_list (th f) f ts ≡ v → IsIn v (whole_of (th f) f us)
          by [] k l j = unit (th f).id refl (l ∙ ap (arrange c) k ∙ arrange_none c) (ap (over_list (th f) f) (sym k) ∙ j)
          by (u ∷ us) k l j = inl (sym j ∙ ap (over_list (th f) f) k)

  -- ---- fronts, and lists inside

  module _ (r : Reach) (n : r ≡ whole → ⊥) where
    abbrev Kinds : Tree → Type 0
    Kinds v = IsIn v (alone_of (th f).comm r ts) ⊎ (IsIn v (units_of (th f).id) ⊎ IsNodeIn (th f).comm r f ts v)

    to_value : (v : Tree) → Kinds v → IsValueOf th (some_of r f ts) v
    to_value v (inl i) = subst (IsValueOf th (some_of r f ts)) (over_one v) (value_over r (v ∷ []) (alone_is c r n ts v i) (λ e k. cc))
    to_value v (inr (inl i)) = by (th f).id refl i
      where
        by : (u : Option Identity) → (th f).id ≡ u → IsIn v (units_of u) → IsValueOf th (some_of r f ts) v
        by None e j = absurd j
        by (Some d) e (inl j) = subst (IsValueOf th (some_of r f ts)) (over_none d e ∙ sym j) (value_over r [] (none_in c r n ts) (λ m. let z : None ≡ Some d = sym m ∙ e in absurd (cc)))
        by (Some d) e (inr j) = absurd j
    to_value v (inr (inr k)) =
        subst (IsValueOf th (some_of r f ts)) (over_long r k.list k.one.lies k.one.long ∙ sym k.node_of)
        (value_over r k.list k.one.lies (λ e z. let l : is_long [] ≡ true = subst (λ w. is_long w ≡ true) z k.one.long in absurd (cc)))

    from_value : (v : Tree) → IsValueOf th (some_of r f ts) v → Kinds v
    from_value v w = by (list_under (th f) f v) refl (list_of_value r v w) (over_value r v w)
      where
        unit : (u : Option Identity) → (th f).id ≡ u → list_under (th f) f v ≡ [] → over_list (th f) f [] ≡ v → IsIn v (units_of u)
        unit None e k j = absurd (w.filled e k)
        unit (Some d) e k j = inl (sym j ∙ over_none d e)

        by : (l : List Tree) → list_under (th f) f v ≡ l → IsListIn (th f).comm r ts l → over_list (th f) f l ≡ v → Kinds v
        by [] k h j = inr (inl (unit (th f).id refl k j))
        by (t ∷ []) k h j = inl (is_alone c r n ts v (subst (λ x. IsListIn (th f).comm r ts (x ∷ [])) (sym (over_one t) ∙ j) h))
        by (t ∷ u ∷ l) k h j = inr (inr (record { list = t ∷ u ∷ l; one = record { lies = h; long = refl }; node_of = sym j ∙ over_long r (t ∷ u ∷ l) h refl }))

    pub list_holds : (o : Option ℕ) (after : Option Tree) (more : List Tree) → HoldsNext (by_key th o) (IsNodeIn (th f).comm r f ts) 0 after more
        → HoldsNext (by_key th o) (IsValueOf th (some_of r f ts)) 0 after (alone_of (th f).comm r ts ++ (units_of (th f).id ++ more))
    list_holds o after more h =
        let us = units_of (th f).id in
        let xs = alone_of (th f).comm r ts in
        holds_as (by_key th o) 0 Kinds (IsValueOf th (some_of r f ts)) after (xs ++ (us ++ more)) to_value from_value
        (holds_both (by_key th o) 0 (λ v. IsIn v xs) (λ v. IsIn v us ⊎ IsNodeIn (th f).comm r f ts v) after xs (us ++ more) (holds_all (by_key th o) 0 after xs)
        (holds_both (by_key th o) 0 (λ v. IsIn v us) (IsNodeIn (th f).comm r f ts) after us more (holds_all (by_key th o) 0 after us) h))

  -- ---- the least longer list

  module _ (r : Reach) (o : Option ℕ) (after : Option Tree) where
    pub least_long : (start : List Tree) → StartsAt th o f after (Some start) → (next : Option (List Tree)) → IsNextOrEnd IsBefore (IsLongIn (th f).comm r ts) start next → IsLeastLong th o f (th f).comm r ts after next
    least_long start s None h = λ xs l b. h xs l ((s xs l.long (normal_long r xs l)).0 b)
    least_long start s (Some list) h = (
      h.is_one,
      (s list h.is_one.long (normal_long r list h.is_one)).1 h.behind,
      λ xs l b. elim (h.least xs l ((s xs l.long (normal_long r xs l)).0 b)) [
        | inl k ↦ inl (nodes_stand th o f a list xs h.is_one.long l.long (normal_long r list h.is_one) (normal_long r xs l) ∙ cmp_below list xs k)
        | inr e ↦ inr e
      ],
    )

    pub none_long : StartsAt th o f after None → IsLeastLong th o f (th f).comm r ts after None
    none_long s = λ xs l b. s xs l.long (normal_long r xs l) b

    pub long_holds : (list : List Tree) → IsLeastLong th o f (th f).comm r ts after (Some list) → HoldsNext (by_key th o) (IsNodeIn (th f).comm r f ts) 0 after (node f list ∷ [])
    long_holds list h = record {
      each = λ w i. elim i [ inl e ↦ record { list = list; one = h.0; node_of = e } | inr k ↦ absurd k ];
      least = λ v q b. (node f list, inl refl, h.1, at v q (h.2 q.list q.one (subst (IsValueBehind (by_key th o) 0 after) q.node_of b)));
    }
      where
        at : (v : Tree) (q : IsNodeIn (th f).comm r f ts v) → (by_key th o 0 (node f list) (node f q.list) ≡ Less) ⊎ (list ≡ q.list) → (by_key th o 0 (node f list) v ≡ Less) ⊎ (node f list ≡ v)
        at v q (inl k) = inl (subst (λ u. by_key th o 0 (node f list) u ≡ Less) (sym q.node_of) k)
        at v q (inr e) = inr (ap (node f) e ∙ sym q.node_of)

    pub no_long_holds : IsLeastLong th o f (th f).comm r ts after None → HoldsNext (by_key th o) (IsNodeIn (th f).comm r f ts) 0 after []
    no_long_holds h = record {
      each = λ w i. absurd i;
      least = λ v q b. absurd (h q.list q.one (subst (IsValueBehind (by_key th o) 0 after) q.node_of b));
    }

  -- ---- the limits

  pub pieces_of_list : (r : Reach) (xs : List Tree) → IsListIn (th f).comm r ts xs → ArePieces th f xs
  pieces_of_list r xs h = both xs (pieces_in r xs h) (normals_in r xs h)
    where
      both : (xs : List Tree) → Each (IsPiece (th f).assoc (th f).id f) xs → Each (IsNormal th) xs → ArePieces th f xs
      both [] k m = tt
      both (x ∷ xs) k m = (normal_fixed th x m.0, k.0, both xs k.1 m.1)

  -- less deep than the limit, where the operator over two or more is within it
  below_limit : (zs : List Tree) → 2 ≤ length zs → IsWithin th (node f zs) → (d : ℕ) × (d < MAX_DEPTH) × Each (IsBelow th f d) zs
  below_limit zs l w =
      let h : hold_overflow th (trees_of zs) ≡ false = (or_parts ((th f).succ && is_greatest_numeral (trees_of zs)) (hold_overflow th (trees_of zs)) w.no_overflow).1 in
      (list_depth zs, let k : list_depth zs < MAX_DEPTH = omega (arith, w.shallow, depths-trees_of zs) in k, all_below th f zs h (list_depth zs) (omega arith))

  node_of_long : (xs : List Tree) (d : ℕ) → d < MAX_DEPTH → Each (IsBelow th f d) xs → is_long xs ≡ true → IsWithin th (node f xs)
  node_of_long [] d k e l = cc
  node_of_long (t ∷ []) d k e l = cc
  node_of_long (t ∷ u ∷ xs) d k e l = node_within th f t u xs d k e

  -- a longer list of items that are within the limits together is so
  pub long_within : (r : Reach) (xs : List Tree) → IsLongIn (th f).comm r ts xs → IsWithin th (over_list (th f) f ts) → IsWithin th (over_list (th f) f xs)
  long_within r xs h w =
      let two : 2 ≤ length (arrange c ts) = omega (arith, long_length xs h.long, length_in c r ts xs h.lies, length-arrange c ts) in
      let all : IsWithin th (node f (arrange c ts)) = subst (IsWithin th) (finish_longer (arrange c ts) (long_by (arrange c ts) two)) w in
      let b = below_limit (arrange c ts) two all in
      subst (IsWithin th) (sym (over_long r xs h.lies h.long)) (node_of_long xs b.0 b.1 (each_in (IsBelow th f b.0) c r ts xs h.lies b.2) h.long)
