-- The list of a term under an operator, and its elements.
use Rattle.std.proofs.Common.{◌≡◌, ℕ, ◌<◌, ◌≤◌, ◌==◌, List, [], ◌∷◌, ◌++◌, Bool, true, false, ◌&&◌, ◌||◌, if◌then◌else◌, Option, Some, map, length, take, get_or, ◌+◌, refl, sym, ap, ap₂, ◌∙◌, subst, arith, append_assoc, append-nil}
use Rattle.std.proofs.lemmas.List.{map-append, take_more}
use Rattle.std.proofs.lemmas.List.Elements.{All-nil, All-cons, All-head, All-tail}
use Rattle.std.proofs.lemmas.Bool.{or_parts}
use Rattle.mau_terms.specs.Tree.{Tree, variable, numeral, apply, Trees, no_trees, tree, node, list_of, trees_of}
use Rattle.mau_terms.specs.Depth.{depth, depths}
use Rattle.mau_terms.specs.Norm.{is_unit, elements, pieces, all_pieces, norm, holds_overflow, hold_overflow, is_greatest_numeral}
use Rattle.mau_terms.specs.Solution.{list_under}
use Rattle.mau_terms.specs.Lawful.{AreLawful}
use Rattle.mau_terms.specs.declared.theory.Theory.{Theory}
use Rattle.mau_terms.specs.declared.theory.Identity.{Identity}
use Rattle.mau_terms.specs.declared.theory.Identity.TheVariants.{Const}
use Rattle.mau_terms.proofs.Pieces.{Split, unit, many, one, split, Each, list_of-trees_of}
use Rattle.mau_terms.proofs.Normal.{IsNormal, each_normal, norm_normal, normal_fixed}
use Rattle.mau_store.specs.Node.{Node, IsOf, AreOf}
use Rattle.mau_store.specs.Trees.{tree_at, trees_at}
use Rattle.mau_store.specs.View.{numbers}
use Rattle.mau_terms.specs.declared.ids.OpId.{OpId}
use Rattle.mau_terms.specs.declared.ids.TermId.{TermId}
use Rattle.mau_canon.specs.declared.TheConstants.{MAX_DEPTH}
use Rattle.mau_canon.specs.Within.{IsWithin}
use Rattle.mau_canon.specs.Standing.{StandsWithin, StandWithin}

-- ---- one term

-- the arguments of the operator
pub list_of_top : (h : Theory) (f g : ℕ) (ts : List Tree) (t : Tree) → t ≡ node g ts → is_unit h.id t ≡ false → h.assoc ≡ true → (g == f) ≡ true → list_under h f t ≡ ts
list_of_top h f g ts t e u a s =
    ap (λ b. if b then [] else elements h.assoc f t) u
    ∙ ap (elements h.assoc f) e
    ∙ ap₂ (λ x y. if x && y then list_of (trees_of ts) else node g ts ∷ []) a s
    ∙ list_of-trees_of ts

-- an operator over arguments is no identity
pub unit_with_arguments : (c : OpId) (g : ℕ → Tree) (f : ℕ) (ids : List TermId) → (length ids == 0) ≡ false → is_unit (Some (Const c)) (node f (map g (numbers ids))) ≡ false
unit_with_arguments c g f [] e = absurd (cc)
unit_with_arguments c g f (i ∷ ids) e = refl

-- two terms or more are not one numeral
pub no_greatest : (ts : List Tree) → 2 ≤ length ts → is_greatest_numeral (trees_of ts) ≡ false
no_greatest [] h = absurd (omega arith)
no_greatest (t ∷ []) h = absurd (omega arith)
no_greatest (variable i r ∷ v ∷ ts) h = refl
no_greatest (numeral n ∷ v ∷ ts) h = refl
no_greatest (apply g us ∷ v ∷ ts) h = refl

-- ---- several terms

pub all_pieces-append : (a : Bool) (u : Option Identity) (f : ℕ) (ts us : List Tree) → all_pieces a u f (ts ++ us) ≡ all_pieces a u f ts ++ all_pieces a u f us
all_pieces-append a u f [] us = refl
all_pieces-append a u f (t ∷ ts) us =
    ap (λ w. pieces a u f t ++ w) (all_pieces-append a u f ts us) ∙ sym (append_assoc (pieces a u f t) (all_pieces a u f ts) (all_pieces a u f us))

pub all_pieces-more : (a : Bool) (u : Option Identity) (f : ℕ) (ts : List Tree) (t : Tree) → all_pieces a u f (ts ++ t ∷ []) ≡ all_pieces a u f ts ++ pieces a u f t
all_pieces-more a u f ts t = all_pieces-append a u f ts (t ∷ []) ∙ ap (λ w. all_pieces a u f ts ++ w) (append-nil (pieces a u f t))

-- ---- ids

pub trees_at-append : (nodes : List Node) (ids more : List TermId) → trees_at nodes (numbers (ids ++ more)) ≡ trees_at nodes (numbers ids) ++ trees_at nodes (numbers more)
trees_at-append nodes ids more =
    ap (map (tree_at nodes)) (map-append (λ id. id.0) ids more) ∙ map-append (tree_at nodes) (numbers ids) (numbers more)

pub AreOf-append : (nodes : List Node) (ids more : List TermId) → AreOf nodes (numbers ids) → AreOf nodes (numbers more) → AreOf nodes (numbers (ids ++ more))
AreOf-append nodes [] more p q = q
AreOf-append nodes (i ∷ ids) more p q =
    All-cons (IsOf nodes) i.0 (numbers (ids ++ more)) (All-head (IsOf nodes) i.0 (numbers ids) p)
    (AreOf-append nodes ids more (All-tail (IsOf nodes) i.0 (numbers ids) p) q)

-- the pieces of one more of some ids
pub all_pieces-ids : (nodes : List Node) (a : Bool) (u : Option Identity) (f : ℕ) (ids : List TermId) (k : ℕ) (d : TermId) → k < length ids → all_pieces a u f (trees_at nodes (numbers (take (k + 1) ids))) ≡ all_pieces a u f (trees_at nodes (numbers (take k ids))) ++ pieces a u f (tree_at nodes (get_or ids k d).0)
all_pieces-ids nodes a u f ids k d h =
    ap (λ is. all_pieces a u f (trees_at nodes (numbers is))) (take_more ids k d h)
    ∙ ap (all_pieces a u f) (trees_at-append nodes (take k ids) (get_or ids k d ∷ []))
    ∙ all_pieces-more a u f (trees_at nodes (numbers (take k ids))) (tree_at nodes (get_or ids k d).0)

-- ---- elements within the limits

module _ (th : ℕ → Theory) where
  -- a normal form within the limits
  pub record IsFine (t : Tree) : Type 0 where
    pub normal : norm th t ≡ t
    pub within : IsWithin th t

  fine_all : (ts : Trees) (n : ℕ) → depths ts ≤ n → n ≤ MAX_DEPTH → hold_overflow th ts ≡ false → Each (IsNormal th) (list_of ts) → Each IsFine (list_of ts)
  fine_all no_trees n d m o e = tt
  fine_all (tree t ts) n d m o e =
      let both = or_parts (holds_overflow th t) (hold_overflow th ts) o in (
        record { normal = normal_fixed th t e.0; within = record { shallow = omega arith; no_overflow = both.0 } },
        fine_all ts n (omega arith) m both.1 e.1,
      )

  pub fine_elements : AreLawful th → (f : ℕ) (t : Tree) → IsFine t → Each IsFine (list_under (th f) f t)
  fine_elements lawful f t fine = by (split (th f).assoc (th f).id f t)
    where
      by : Split (th f).assoc (th f).id f t → Each IsFine (list_under (th f) f t)
      by (unit i u e p) = subst (Each IsFine) (sym p) tt
      by (one p) = subst (Each IsFine) (sym p) (fine, tt)
      by (many ts a e p) =
          let n : IsNormal th (apply f ts) = subst (IsNormal th) (fine.normal ∙ e) (norm_normal th lawful t) in
          let d : depth (apply f ts) ≤ MAX_DEPTH = subst (λ v. depth v ≤ MAX_DEPTH) e fine.within.shallow in
          let o : holds_overflow th (apply f ts) ≡ false = ap (holds_overflow th) (sym e) ∙ fine.within.no_overflow in
          subst (Each IsFine) (sym p) (fine_all ts (depths ts) (omega arith) (omega arith) ((or_parts ((th f).succ && is_greatest_numeral ts) (hold_overflow th ts) o).1) (each_normal th ts n.0))

  stand : (nodes : List Node) (ids : List ℕ) → AreOf nodes ids → Each IsFine (trees_at nodes ids) → StandWithin th nodes ids
  stand nodes [] there e = All-nil (StandsWithin th nodes)
  stand nodes (i ∷ ids) there e =
      All-cons (StandsWithin th nodes) i ids
      (record { there = All-head (IsOf nodes) i ids there; normal = e.0.normal; within = e.0.within })
      (stand nodes ids (All-tail (IsOf nodes) i ids there) e.1)

  pub elements_stand : AreLawful th → (nodes : List Node) (f i : ℕ) (ids : List ℕ) → AreOf nodes ids → trees_at nodes ids ≡ list_under (th f) f (tree_at nodes i) → StandsWithin th nodes i → StandWithin th nodes ids
  elements_stand lawful nodes f i ids there e s =
      stand nodes ids there
      (subst (Each IsFine) (sym e) (fine_elements lawful f (tree_at nodes i) (record { normal = s.normal; within = s.within })))

  pub fine_each : (nodes : List Node) (ids : List ℕ) → StandWithin th nodes ids → Each IsFine (trees_at nodes ids)
  fine_each nodes [] s = tt
  fine_each nodes (i ∷ ids) s =
      let first = All-head (StandsWithin th nodes) i ids s in
      (record { normal = first.normal; within = first.within }, fine_each nodes ids (All-tail (StandsWithin th nodes) i ids s))
