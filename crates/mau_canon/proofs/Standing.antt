-- The laws of built terms.
use Rattle.std.proofs.Common.{◌≡◌, ◌≤◌, ◌<◌, ◌⊎◌, inl, inr, All, Contains, slice_index_or, length, ℕ, zero, suc, List, [], ◌∷◌, ◌++◌, Bool, true, false, ◌&&◌, map, slice_get, Some, refl, sym, ap, ap₂, ◌∙◌, subst, arith, append-nil}
use Rattle.std.proofs.lemmas.List.Elements.{All-nil, All-cons, All-head, All-tail, All-map, All-push}
use Rattle.std.proofs.lemmas.List.{map-append}
use Rattle.std.proofs.lemmas.Option.{slice_get_within}
use Rattle.std.proofs.lemmas.Bool.{or_parts}
use Rattle.mau_terms.specs.Tree.{Tree, node, trees_of}
use Rattle.mau_terms.specs.Depth.{depth, list_depth, depths-trees_of}
use Rattle.mau_terms.specs.Norm.{norm, build, holds_overflow, hold_overflow, is_greatest_numeral}
use Rattle.mau_terms.specs.Reading.{nest}
use Rattle.mau_terms.specs.Lawful.{AreLawful}
use Rattle.mau_terms.specs.Solution.{list_under, over_list}
use Rattle.mau_terms.specs.declared.theory.Theory.{Theory}
use Rattle.mau_terms.specs.declared.ids.TermId.{TermId}
use Rattle.mau_store.specs.View.{numbers}
use Rattle.mau_terms.proofs.Finite.{over_its_list}
use Rattle.mau_terms.proofs.Induction.{norm-node}
use Rattle.mau_terms.proofs.Normal.{norm_normal, norm-norm}
use Rattle.mau_terms.proofs.Taken.{norm-nest_from}
use Rattle.mau_store.specs.Node.{Node, numeral_node, variable_node, operator_node, arguments, IsOf, AreOf, Extends}
use Rattle.mau_store.specs.Trees.{tree_over, tree_at, trees_at, StandForNorms}
use Rattle.mau_store.proofs.Growth.{IsOf-extends}
use Rattle.mau_store.proofs.Norms.{one_number_where_equal as one_number, arguments_stand_for_norms, StandsForNorm-extends}
use Rattle.mau_store.proofs.Standing.{tree_of_node, tree_at-extends}
use Rattle.mau_canon.specs.declared.TheConstants.{MAX_DEPTH}
use Rattle.mau_canon.specs.Within.{IsWithin}
use Rattle.mau_canon.specs.Standing.{StandsWithin, StandWithin}
use Rattle.mau_canon.specs.Laws.{OneNumberWhereEqual, ListStandsForNested, ArgumentsStandWithin, StandsWithinExtended}

pub one_number_where_equal : OneNumberWhereEqual
one_number_where_equal s lawful t u bt bu old new are x i j p q e e' =
    one_number s lawful t u bt bu new are i j (IsOf-extends old new i x p) q (tree_at-extends old new i x p ∙ e) e'

-- ---- nested uses

pub map-norm-norm : (th : ℕ → Theory) → AreLawful th → (ts : List Tree) → map (norm th) (map (norm th) ts) ≡ map (norm th) ts
map-norm-norm th lawful [] = refl
map-norm-norm th lawful (t ∷ ts) = ap₂ (λ v vs. v ∷ vs) (norm-norm th lawful t) (map-norm-norm th lawful ts)

over_norms : (th : ℕ → Theory) → AreLawful th → (f : ℕ) (ts : List Tree) → norm th (node f (map (norm th) ts)) ≡ build (th f) f (map (norm th) ts)
over_norms th lawful f ts = norm-node th f (map (norm th) ts) ∙ ap (build (th f) f) (map-norm-norm th lawful ts)

-- an associative operator over one normal form
over_one_norm : (th : ℕ → Theory) → AreLawful th → (f : ℕ) (t : Tree) → (th f).assoc ≡ true → build (th f) f (norm th t ∷ []) ≡ norm th t
over_one_norm th lawful f t a =
    ap (over_list (th f) f) (append-nil (list_under (th f) f (norm th t))) ∙ over_its_list th f (norm th t) a (norm_normal th lawful t)

pub list_stands_for_nested : ListStandsForNested
list_stands_for_nested th lawful f ts = by (th f).assoc refl ts
  where
    by : (a : Bool) → (th f).assoc ≡ a → (us : List Tree) → norm th (node f (map (norm th) us)) ≡ norm th (nest a f us)
    by false e us = over_norms th lawful f us ∙ sym (norm-node th f us)
    by true e [] = refl
    by true e (u ∷ []) = over_norms th lawful f (u ∷ []) ∙ over_one_norm th lawful f u e
    by true e (u ∷ v ∷ us) = over_norms th lawful f (u ∷ v ∷ us) ∙ sym (norm-nest_from th lawful f e u v us)

-- ---- the limits

each_within : (th : ℕ → Theory) (nodes : List Node) (ids : List ℕ) → AreOf nodes ids → StandForNorms th nodes ids → list_depth (trees_at nodes ids) ≤ MAX_DEPTH → hold_overflow th (trees_of (trees_at nodes ids)) ≡ false → StandWithin th nodes ids
each_within th nodes [] there norms d o = All-nil (StandsWithin th nodes)
each_within th nodes (i ∷ ids) there norms d o =
    let parts = or_parts (holds_overflow th (tree_at nodes i)) (hold_overflow th (trees_of (trees_at nodes ids))) o in
    All-cons (StandsWithin th nodes) i ids
    (record {
      there = All-head (IsOf nodes) i ids there;
      normal = All-head (λ j. norm th (tree_at nodes j) ≡ tree_at nodes j) i ids norms;
      within = record { shallow = omega arith; no_overflow = parts.0 };
    })
    (each_within th nodes ids (All-tail (IsOf nodes) i ids there) (All-tail (λ j. norm th (tree_at nodes j) ≡ tree_at nodes j) i ids norms) (omega arith) parts.1)

pub arguments_stand_within : ArgumentsStandWithin
arguments_stand_within th lawful nodes are i n at stands = by n at (tree_of_node nodes are i n at) (arguments_stand_for_norms th lawful nodes are i n at stands.normal)
  where
    by : (s : Node) → slice_get nodes i ≡ Some s → tree_at nodes i ≡ tree_over (tree_at nodes) s → StandForNorms th nodes (arguments s) → StandWithin th nodes (arguments s)
    by (numeral_node m) a e norms = All-nil (StandsWithin th nodes)
    by (variable_node k r) a e norms = All-nil (StandsWithin th nodes)
    by (operator_node f ids) a e norms =
        let ts = trees_at nodes ids in
        let d : depth (node f ts) ≤ MAX_DEPTH = subst (λ t. depth t ≤ MAX_DEPTH) e stands.within.shallow in
        let o : holds_overflow th (node f ts) ≡ false = ap (holds_overflow th) (sym e) ∙ stands.within.no_overflow in
        let low : i < suc i = omega arith in
        let within = slice_get_within nodes i (operator_node f ids) a in
        each_within th nodes ids (λ k v h. omega (arith, are.closed i (operator_node f ids) a k v h, within)) norms
        (omega (arith, depths-trees_of ts)) (or_parts ((th f).succ && is_greatest_numeral (trees_of ts)) (hold_overflow th (trees_of ts)) o).1

pub stands_within_extended : StandsWithinExtended
stands_within_extended th old new x i s =
    let same = tree_at-extends old new i x s.there in
    record {
      there = IsOf-extends old new i x s.there;
      normal = StandsForNorm-extends th old new i x s.there s.normal;
      within = subst (IsWithin th) (sym same) s.within;
    }

-- ---- several numbers

pub stand_within_extended : (th : ℕ → Theory) (old new : List Node) (ids : List ℕ) → Extends old new → StandWithin th old ids → StandWithin th new ids
stand_within_extended th old new ids x s k d h = stands_within_extended th old new x _ (s k d h)

-- they are of the store
pub stand_there : (th : ℕ → Theory) (nodes : List Node) (ids : List ℕ) → StandWithin th nodes ids → AreOf nodes ids
stand_there th nodes ids s k d h = (s k d h).there

pub stand_at : (th : ℕ → Theory) (nodes : List Node) (is : List TermId) (k : ℕ) (d : TermId) → k < length is → StandWithin th nodes (numbers is) → StandsWithin th nodes (slice_index_or is k d).0
stand_at th nodes [] k d h p = absurd (omega arith)
stand_at th nodes (i ∷ is) zero d h p = All-head (StandsWithin th nodes) i.0 (numbers is) p
stand_at th nodes (i ∷ is) (suc k) d h p = stand_at th nodes is k d (omega arith) (All-tail (StandsWithin th nodes) i.0 (numbers is) p)

-- one of these
pub stand_one : (th : ℕ → Theory) (nodes : List Node) (ids : List TermId) (x : TermId) → Contains ids x → StandWithin th nodes (numbers ids) → StandsWithin th nodes x.0
stand_one th nodes ids x w s = subst (λ id. StandsWithin th nodes id.0) w.2 (stand_at th nodes ids w.0 x w.1 s)

-- some of these
pub stand_among : (th : ℕ → Theory) (nodes : List Node) (xs ids : List TermId) → All (Contains ids) xs → StandWithin th nodes (numbers ids) → StandWithin th nodes (numbers xs)
stand_among th nodes xs ids among s = All-map (StandsWithin th nodes) (λ id. id.0) xs (λ k d h. stand_one th nodes ids (slice_index_or xs k d) (among k d h) s)

-- one more, if it was kept
pub stand_kept : (th : ℕ → Theory) (nodes : List Node) (old new : List TermId) (id : TermId) → (new ≡ old) ⊎ (new ≡ old ++ id ∷ []) → StandWithin th nodes (numbers old) → StandsWithin th nodes id.0 → StandWithin th nodes (numbers new)
stand_kept th nodes old new id (inl e) s p = subst (λ ids. StandWithin th nodes (numbers ids)) (sym e) s
stand_kept th nodes old new id (inr e) s p =
    subst (λ ids. StandWithin th nodes (numbers ids)) (sym e)
    (subst (StandWithin th nodes) (sym (map-append (λ i. i.0) old (id ∷ []))) (All-push (StandsWithin th nodes) (numbers old) id.0 s p))
