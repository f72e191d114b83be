-- What holds the successor of the greatest numeral.
use Rattle.std.proofs.Common.{◌≡◌, ℕ, ◌+◌, ◌==◌, List, [], ◌∷◌, ◌++◌, Bool, true, false, ◌&&◌, ◌||◌, nat_lt, if◌then◌else◌, Option, Some, None, refl, sym, ap, ap₂, ◌∙◌, eq-eqb}
use Rattle.mau_terms.specs.Tree.{Tree, variable, numeral, apply, Trees, no_trees, tree, node, list_of, trees_of}
use Rattle.mau_terms.specs.Norm.{greatest_numeral, pieces, all_pieces, arrange, over_one, finish, build, holds_overflow, hold_overflow, is_greatest_numeral, unit_tree}
use Rattle.mau_terms.specs.Order.{insert_tree, sort_trees, tree_cmp}
use Rattle.mau_terms.specs.Lawful.{AreLawful}
use Rattle.mau_terms.specs.declared.theory.Theory.{Theory}
use Rattle.mau_terms.specs.declared.theory.Identity.{Identity}
use Rattle.mau_terms.specs.declared.theory.Identity.TheVariants.{Const, Num}
use Rattle.mau_terms.proofs.Pieces.{Split, unit, many, one, split, alone_element}
use Rattle.std.specs.Ordering.{is_gt}
use Rattle.mau_canon.specs.Judging.{is_overflow}

or_swap : (a b c : Bool) → (a || (b || c)) ≡ (b || (a || c))
or_swap true true c = refl
or_swap true false c = refl
or_swap false true c = refl
or_swap false false c = refl

or_assoc : (a b c : Bool) → ((a || b) || c) ≡ (a || (b || c))
or_assoc true b c = refl
or_assoc false b c = refl

or_none : (a : Bool) → (a || false) ≡ a
or_none true = refl
or_none false = refl

module _ (th : ℕ → Theory) where
  -- some tree of a list holds it
  abbrev pub some_overflow : List Tree → Bool
  some_overflow [] = false
  some_overflow (t ∷ ts) = holds_overflow th t || some_overflow ts

  hold-list_of : (ts : Trees) → hold_overflow th ts ≡ some_overflow (list_of ts)
  hold-list_of no_trees = refl
  hold-list_of (tree t ts) = ap (λ b. holds_overflow th t || b) (hold-list_of ts)

  pub hold-trees_of : (ts : List Tree) → hold_overflow th (trees_of ts) ≡ some_overflow ts
  hold-trees_of [] = refl
  hold-trees_of (t ∷ ts) = ap (λ b. holds_overflow th t || b) (hold-trees_of ts)

  pub some-append : (ts us : List Tree) → some_overflow (ts ++ us) ≡ (some_overflow ts || some_overflow us)
  some-append [] us = refl
  some-append (t ∷ ts) us = ap (λ b. holds_overflow th t || b) (some-append ts us) ∙ sym (or_assoc (holds_overflow th t) (some_overflow ts) (some_overflow us))

  some-insert : (t : Tree) (ts : List Tree) → some_overflow (insert_tree t ts) ≡ (holds_overflow th t || some_overflow ts)
  some-insert t [] = refl
  some-insert t (u ∷ us) = by (is_gt (tree_cmp t u)) (some-insert t us)
    where
      by : (b : Bool) → some_overflow (insert_tree t us) ≡ (holds_overflow th t || some_overflow us) → some_overflow (if b then u ∷ insert_tree t us else t ∷ u ∷ us) ≡ (holds_overflow th t || (holds_overflow th u || some_overflow us))
      by true e = ap (λ b. holds_overflow th u || b) e ∙ or_swap (holds_overflow th u) (holds_overflow th t) (some_overflow us)
      by false e = refl

  some-sort : (ts : List Tree) → some_overflow (sort_trees ts) ≡ some_overflow ts
  some-sort [] = refl
  some-sort (t ∷ ts) = some-insert t (sort_trees ts) ∙ ap (λ b. holds_overflow th t || b) (some-sort ts)

  some-arrange : (c : Bool) (ts : List Tree) → some_overflow (arrange c ts) ≡ some_overflow ts
  some-arrange true ts = some-sort ts
  some-arrange false ts = refl

  unit_holds_none : (i : Identity) → holds_overflow th (unit_tree i) ≡ false
  unit_holds_none (Const c) = or_none ((th c.0).succ && false) ∙ and_false (th c.0).succ
    where
      and_false : (b : Bool) → (b && false) ≡ false
      and_false true = refl
      and_false false = refl
  unit_holds_none (Num n) = refl

  -- ---- an operator that is no successor

  some-pieces : (f : ℕ) (t : Tree) → (th f).succ ≡ false → some_overflow (pieces (th f).assoc (th f).id f t) ≡ holds_overflow th t
  some-pieces f t s = by (split (th f).assoc (th f).id f t)
    where
      by : Split (th f).assoc (th f).id f t → some_overflow (pieces (th f).assoc (th f).id f t) ≡ holds_overflow th t
      by (unit i u e p) = ap some_overflow p ∙ sym (unit_holds_none i) ∙ ap (holds_overflow th) (sym e)
      by (one p) = ap some_overflow p ∙ or_none (holds_overflow th t)
      by (many ts a e p) =
          ap some_overflow p
          ∙ sym (hold-list_of ts)
          ∙ ap (λ b. (b && is_greatest_numeral ts) || hold_overflow th ts) (sym s)
          ∙ ap (holds_overflow th) (sym e)

  some-all_pieces : (f : ℕ) (ts : List Tree) → (th f).succ ≡ false → some_overflow (all_pieces (th f).assoc (th f).id f ts) ≡ some_overflow ts
  some-all_pieces f [] s = refl
  some-all_pieces f (t ∷ ts) s =
      some-append (pieces (th f).assoc (th f).id f t) (all_pieces (th f).assoc (th f).id f ts)
      ∙ ap₂ (λ x y. x || y) (some-pieces f t s) (some-all_pieces f ts s)

  holds-node : (f : ℕ) (ts : List Tree) → (th f).succ ≡ false → holds_overflow th (node f ts) ≡ some_overflow ts
  holds-node f ts s = ap (λ b. (b && is_greatest_numeral (trees_of ts)) || hold_overflow th (trees_of ts)) s ∙ hold-trees_of ts

  holds-over_one : (f : ℕ) (t : Tree) → (th f).succ ≡ false → holds_overflow th (over_one false f t) ≡ (holds_overflow th t || false)
  holds-over_one f (variable i r) s = holds-node f (variable i r ∷ []) s
  holds-over_one f (numeral n) s = holds-node f (numeral n ∷ []) s
  holds-over_one f (apply g ts) s = holds-node f (apply g ts ∷ []) s

  holds-finish : (a : Bool) (u : Option Identity) (f : ℕ) (ts : List Tree) → (th f).succ ≡ false → holds_overflow th (finish a u false f ts) ≡ some_overflow ts
  holds-finish true None f [] s = holds-node f [] s
  holds-finish false None f [] s = holds-node f [] s
  holds-finish true (Some i) f [] s = unit_holds_none i
  holds-finish false (Some i) f [] s = unit_holds_none i
  holds-finish true None f (t ∷ []) s = sym (or_none (holds_overflow th t))
  holds-finish true (Some i) f (t ∷ []) s = sym (or_none (holds_overflow th t))
  holds-finish false (Some i) f (t ∷ []) s = sym (or_none (holds_overflow th t))
  holds-finish false None f (t ∷ []) s = holds-over_one f t s
  holds-finish true None f (t ∷ v ∷ ts) s = holds-node f (t ∷ v ∷ ts) s
  holds-finish true (Some i) f (t ∷ v ∷ ts) s = holds-node f (t ∷ v ∷ ts) s
  holds-finish false None f (t ∷ v ∷ ts) s = holds-node f (t ∷ v ∷ ts) s
  holds-finish false (Some i) f (t ∷ v ∷ ts) s = holds-node f (t ∷ v ∷ ts) s

  pub test_fails : (f : ℕ) (t : Tree) → is_overflow false f t ≡ false
  test_fails f (variable i r) = refl
  test_fails f (numeral n) = refl
  test_fails f (apply g ts) = refl

  -- ---- the successor

  itself : (f : ℕ) (b : Bool) → ((f == f) && b) ≡ b
  itself f b = ap (λ x. x && b) (eq-eqb f f refl)

  successor_node : (f : ℕ) (ts : List Tree) → (th f).succ ≡ true → holds_overflow th (node f ts) ≡ (some_overflow ts || is_overflow true f (node f ts))
  successor_node f ts s =
      ap (λ b. (b && is_greatest_numeral (trees_of ts)) || hold_overflow th (trees_of ts)) s
      ∙ ap₂ (λ x y. x || y) (sym (itself f (is_greatest_numeral (trees_of ts)))) (hold-trees_of ts)
      ∙ or_turn ((f == f) && is_greatest_numeral (trees_of ts)) (some_overflow ts)
    where
      or_turn : (a b : Bool) → (a || b) ≡ (b || a)
      or_turn true true = refl
      or_turn true false = refl
      or_turn false true = refl
      or_turn false false = refl

  successor-over_one : (f : ℕ) (t : Tree) → (th f).succ ≡ true → holds_overflow th (over_one true f t) ≡ (some_overflow (t ∷ []) || is_overflow true f (over_one true f t))
  successor-over_one f (variable i r) s = successor_node f (variable i r ∷ []) s
  successor-over_one f (apply g ts) s = successor_node f (apply g ts ∷ []) s
  successor-over_one f (numeral n) s = by (true && nat_lt n greatest_numeral)
    where
      by : (b : Bool) → holds_overflow th (if b then numeral (n + 1) else node f (numeral n ∷ [])) ≡ (false || is_overflow true f (if b then numeral (n + 1) else node f (numeral n ∷ [])))
      by true = refl
      by false = successor_node f (numeral n ∷ []) s

  successor-finish : (f : ℕ) (ts : List Tree) → (th f).succ ≡ true → holds_overflow th (finish false None true f ts) ≡ (some_overflow ts || is_overflow true f (finish false None true f ts))
  successor-finish f [] s = successor_node f [] s
  successor-finish f (t ∷ []) s = successor-over_one f t s
  successor-finish f (t ∷ v ∷ ts) s = successor_node f (t ∷ v ∷ ts) s

  all_alone : (f : ℕ) (ts : List Tree) → all_pieces false None f ts ≡ ts
  all_alone f [] = refl
  all_alone f (t ∷ ts) = ap₂ (λ v w. v ++ w) (alone_element f t) (all_alone f ts)

  -- ---- what is built

  -- it holds it where an argument does, and where it is the successor of the greatest numeral itself
  pub holds-build : AreLawful th → (f : ℕ) (ts : List Tree) → holds_overflow th (build (th f) f ts) ≡ (some_overflow ts || is_overflow (th f).succ f (build (th f) f ts))
  holds-build lawful f ts = by (th f).succ refl
    where
      by : (s : Bool) → (th f).succ ≡ s → holds_overflow th (build (th f) f ts) ≡ (some_overflow ts || is_overflow (th f).succ f (build (th f) f ts))
      by false s =
          let all = all_pieces (th f).assoc (th f).id f ts in
          ap (λ b. holds_overflow th (finish (th f).assoc (th f).id b f (arrange (th f).comm all))) s
          ∙ holds-finish (th f).assoc (th f).id f (arrange (th f).comm all) s
          ∙ some-arrange (th f).comm all
          ∙ some-all_pieces f ts s
          ∙ sym (ap (λ b. some_overflow ts || b) (ap (λ b. is_overflow b f (build (th f) f ts)) s ∙ test_fails f (build (th f) f ts)) ∙ or_none (some_overflow ts))
      by true s =
          let plain : build (th f) f ts ≡ finish false None true f ts =
          ap (λ a. finish a (th f).id (th f).succ f (arrange (th f).comm (all_pieces a (th f).id f ts))) (lawful.succ_assoc f s)
          ∙ ap (λ u. finish false u (th f).succ f (arrange (th f).comm (all_pieces false u f ts))) (lawful.succ_id f s)
          ∙ ap (λ c. finish false None (th f).succ f (arrange c (all_pieces false None f ts))) (lawful.succ_comm f s)
          ∙ ap (finish false None (th f).succ f) (all_alone f ts)
          ∙ ap (λ b. finish false None b f ts) s in
          ap (holds_overflow th) plain
          ∙ successor-finish f ts s
          ∙ sym (ap₂ (λ b t. some_overflow ts || is_overflow b f t) s plain)
