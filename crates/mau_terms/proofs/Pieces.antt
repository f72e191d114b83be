-- How a tree splits into its list under an operator, and how a list is put together.
use Rattle.std.proofs.Common.{◌≡◌, ℕ, List, [], ◌∷◌, ◌++◌, Bool, true, false, ◌==◌, ◌&&◌, if◌then◌else◌, Option, Some, None, refl, sym, ◌∙◌, ap, eq-eqb, eqb-true}
use Rattle.mau_terms.specs.Tree.{Tree, variable, numeral, apply, Trees, no_trees, tree, node, list_of, trees_of}
use Rattle.mau_terms.specs.Order.{insert_tree, sort_trees, tree_cmp}
use Rattle.std.specs.Ordering.{is_gt}
use Rattle.std.proofs.lemmas.Bool.{and_parts}
use Rattle.mau_terms.specs.Norm.{unit_tree, is_unit, elements, pieces, arrange, finish}
use Rattle.mau_terms.specs.declared.theory.Identity.{Identity}
use Rattle.mau_terms.specs.declared.theory.Identity.TheVariants.{Const, Num}
use Rattle.mau_terms.proofs.Sorting.{sort-sort, sort_left, sort_right}

pub list_of-trees_of : (ts : List Tree) → list_of (trees_of ts) ≡ ts
list_of-trees_of [] = refl
list_of-trees_of (t ∷ ts) = ap (λ us. t ∷ us) (list_of-trees_of ts)

pub trees_of-list_of : (ts : Trees) → trees_of (list_of ts) ≡ ts
trees_of-list_of no_trees = refl
trees_of-list_of (tree t ts) = ap (tree t) (trees_of-list_of ts)

-- ---- the identity

pub unit_is_unit : (i : Identity) → is_unit (Some i) (unit_tree i) ≡ true
unit_is_unit (Const c) = eq-eqb c.0 c.0 refl
unit_is_unit (Num n) = eq-eqb n n refl

pub unit_found : (u : Option Identity) (t : Tree) → is_unit u t ≡ true → (i : Identity) × (u ≡ Some i) × (t ≡ unit_tree i)
unit_found None t e = cc
unit_found (Some (Const c)) (variable i s) e = cc
unit_found (Some (Const c)) (numeral n) e = cc
unit_found (Some (Const c)) (apply g no_trees) e = (Const c, refl, ap (λ h. apply h no_trees) (sym (eqb-true c.0 g e)))
unit_found (Some (Const c)) (apply g (tree t ts)) e = cc
unit_found (Some (Num n)) (variable i s) e = cc
unit_found (Some (Num n)) (numeral m) e = (Num n, refl, ap numeral (sym (eqb-true n m e)))
unit_found (Some (Num n)) (apply g ts) e = cc

-- ---- the pieces of a tree

pub data Split (a : Bool) (u : Option Identity) (f : ℕ) (t : Tree) : Type 0 where
  unit : (i : Identity) → u ≡ Some i → t ≡ unit_tree i → pieces a u f t ≡ [] → Split a u f t
  many : (ts : Trees) → a ≡ true → t ≡ apply f ts → pieces a u f t ≡ list_of ts → Split a u f t
  one : pieces a u f t ≡ t ∷ [] → Split a u f t

no_unit : (a : Bool) (u : Option Identity) (f : ℕ) (t : Tree) → is_unit u t ≡ false → pieces a u f t ≡ elements a f t
no_unit a u f t e = ap (λ b. if b then [] else elements a f t) e

pub split : (a : Bool) (u : Option Identity) (f : ℕ) (t : Tree) → Split a u f t
split a u f t = by (is_unit u t) refl
  where
    inside : (v : Tree) → t ≡ v → is_unit u t ≡ false → Split a u f t
    inside (variable i s) e h = one (no_unit a u f t h ∙ ap (elements a f) e ∙ ap (λ w. w ∷ []) (sym e))
    inside (numeral n) e h = one (no_unit a u f t h ∙ ap (elements a f) e ∙ ap (λ w. w ∷ []) (sym e))
    inside (apply g ts) e h = at (a && (g == f)) refl
      where
        at : (b : Bool) → (a && (g == f)) ≡ b → Split a u f t
        at true k =
            let p = and_parts a (g == f) k in
            many ts p.0 (e ∙ ap (λ x. apply x ts) (eqb-true g f p.1)) (no_unit a u f t h ∙ ap (elements a f) e ∙ ap (λ b. if b then list_of ts else apply g ts ∷ []) k)
        at false k = one (no_unit a u f t h ∙ ap (elements a f) e ∙ ap (λ b. if b then list_of ts else apply g ts ∷ []) k ∙ ap (λ w. w ∷ []) (sym e))

    by : (b : Bool) → is_unit u t ≡ b → Split a u f t
    by true e =
        let p = unit_found u t e in
        unit p.0 p.1 p.2 (ap (λ b. if b then [] else elements a f t) e)
    by false e = inside t refl e

pub unit-pieces : (a : Bool) (i : Identity) (f : ℕ) → pieces a (Some i) f (unit_tree i) ≡ []
unit-pieces a i f = ap (λ b. if b then [] else elements a f (unit_tree i)) (unit_is_unit i)

-- ---- lists of pieces

abbrev pub Each : (Tree → Type 0) → List Tree → Type 0
Each P [] = Unit {0}
Each P (t ∷ ts) = P t × Each P ts

pub Each-append : (P : Tree → Type 0) (ts us : List Tree) → Each P ts → Each P us → Each P (ts ++ us)
Each-append P [] us p q = q
Each-append P (t ∷ ts) us p q = (p.0, Each-append P ts us p.1 q)

Each-insert : (P : Tree → Type 0) (t : Tree) (ts : List Tree) → P t → Each P ts → Each P (insert_tree t ts)
Each-insert P t [] p q = (p, tt)
Each-insert P t (u ∷ us) p q = by (Each-insert P t us p q.1) (is_gt (tree_cmp t u))
  where
    by : Each P (insert_tree t us) → (b : Bool) → Each P (if b then u ∷ insert_tree t us else t ∷ u ∷ us)
    by ih true = (q.0, ih)
    by ih false = (p, q)

Each-sort : (P : Tree → Type 0) (ts : List Tree) → Each P ts → Each P (sort_trees ts)
Each-sort P [] p = tt
Each-sort P (t ∷ ts) p = Each-insert P t (sort_trees ts) p.0 (Each-sort P ts p.1)

pub Each-arrange : (P : Tree → Type 0) (c : Bool) (ts : List Tree) → Each P ts → Each P (arrange c ts)
Each-arrange P true ts p = Each-sort P ts p
Each-arrange P false ts p = p

-- ---- arranging

pub arrange-arrange : (c : Bool) (ts : List Tree) → arrange c (arrange c ts) ≡ arrange c ts
arrange-arrange true ts = sort-sort ts
arrange-arrange false ts = refl

pub arrange_left : (c : Bool) (ts us : List Tree) → arrange c (arrange c ts ++ us) ≡ arrange c (ts ++ us)
arrange_left true ts us = sort_left ts us
arrange_left false ts us = refl

pub arrange_right : (c : Bool) (ts us : List Tree) → arrange c (ts ++ arrange c us) ≡ arrange c (ts ++ us)
arrange_right true ts us = sort_right ts us
arrange_right false ts us = refl

pub arrange_one : (c : Bool) (t : Tree) → arrange c (t ∷ []) ≡ t ∷ []
arrange_one true t = refl
arrange_one false t = refl

pub arrange_none : (c : Bool) → arrange c [] ≡ []
arrange_none true = refl
arrange_none false = refl

-- ---- finishing

-- t is its own list under f
abbrev pub IsPiece : Bool → Option Identity → ℕ → Tree → Type 0
IsPiece a u f t = pieces a u f t ≡ t ∷ []

long_no_unit : (u : Option Identity) (f : ℕ) (t : Tree) (ts : List Tree) → is_unit u (node f (t ∷ ts)) ≡ false
long_no_unit None f t ts = refl
long_no_unit (Some (Const c)) f t ts = refl
long_no_unit (Some (Num n)) f t ts = refl

node-elements : (f : ℕ) (ts : List Tree) → elements true f (node f ts) ≡ ts
node-elements f ts = ap (λ b. if b then list_of (trees_of ts) else node f ts ∷ []) (eq-eqb f f refl) ∙ list_of-trees_of ts

-- an associative operator's list is what it was made from
pub pieces-finish : (u : Option Identity) (s : Bool) (f : ℕ) (ts : List Tree) → Each (IsPiece true u f) ts → pieces true u f (finish true u s f ts) ≡ ts
pieces-finish None s f [] p = node-elements f []
pieces-finish (Some i) s f [] p = unit-pieces true i f
pieces-finish None s f (t ∷ []) p = p.0
pieces-finish (Some i) s f (t ∷ []) p = p.0
pieces-finish None s f (t ∷ v ∷ ts) p = no_unit true None f (node f (t ∷ v ∷ ts)) refl ∙ node-elements f (t ∷ v ∷ ts)
pieces-finish (Some i) s f (t ∷ v ∷ ts) p = no_unit true (Some i) f (node f (t ∷ v ∷ ts)) (long_no_unit (Some i) f t (v ∷ ts)) ∙ node-elements f (t ∷ v ∷ ts)

-- ---- without associativity

pub alone_element : (f : ℕ) (x : Tree) → elements false f x ≡ x ∷ []
alone_element f (variable i s) = refl
alone_element f (numeral n) = refl
alone_element f (apply g ts) = refl

pub same_arguments : (f g : ℕ) (ts us : List Tree) → node f ts ≡ node g us → ts ≡ us
same_arguments f g ts us e =
    let k : trees_of ts ≡ trees_of us = cc in
    sym (list_of-trees_of ts) ∙ ap list_of k ∙ list_of-trees_of us
