-- Values and items of a store that grows.
use Rattle.std.proofs.Common.{◌≡◌, ℕ, List, [], ◌∷◌, Bool, true, false, is_some, Option, Some, None, IfSome, refl, sym, ap, subst, ◌∙◌, ap₂, ◌&&◌, length}
use Rattle.mau_terms.specs.Tree.{Tree}
use Rattle.mau_terms.specs.Norm.{unit_tree, norm}
use Rattle.mau_terms.specs.Lawful.{AreLawful}
use Rattle.mau_terms.specs.Bare.{IsLawful}
use Rattle.mau_terms.specs.Solution.{over_list, ArePieces}
use Rattle.mau_terms.specs.Finite.{units_of}
use Rattle.mau_terms.specs.declared.ids.OpId.{OpId}
use Rattle.mau_terms.specs.declared.ids.TermId.{TermId}
use Rattle.mau_terms.specs.declared.theory.Identity.{Identity}
use Rattle.mau_terms.specs.declared.theory.Theory.{Theory}
use Rattle.mau_terms.proofs.Ties.{IsPlace}
use Rattle.std.proofs.lemmas.Bool.{lt-ltb, le-leb}
use Rattle.mau_signature.specs.Signature.{SignatureOf, IsOperator, theory_at, terms_over}
use Rattle.mau_store.specs.Node.{Node, Extends}
use Rattle.mau_store.specs.Trees.{tree_at, trees_at}
use Rattle.mau_store.specs.View.{numbers}
use Rattle.mau_store.proofs.Growth.{trees_at-extends}
use Rattle.mau_store.proofs.Standing.{tree_at-extends}
use Rattle.mau_canon.specs.Within.{IsWithin}
use Rattle.mau_canon.specs.Standing.{StandsWithin, StandWithin}
use Rattle.mau_canon.proofs.Standing.{stand_within_extended, stands_within_extended, stand_there}
use Rattle.mau_terms.specs.Solution.{list_under}
use Rattle.mau_terms.proofs.Pieces.{Each, IsPiece}
use Rattle.mau_terms.proofs.Normal.{IsNormal, norm_normal, normal_fixed, whole_pieces, normal_pieces}
use Rattle.mau_terms.proofs.Finite.{over_its_list}
use Rattle.mau_domains.specs.declared.part.Part.{Part as PartOfCode}
use Rattle.mau_domains.specs.declared.part.Part.TheVariants.{One, ListOf}
use Rattle.mau_domains.specs.Stored.{IsPartOver}
use Rattle.mau_listing.specs.Places.{operator_number}
use Rattle.mau_domains.specs.Parts.{Reach, whole, front, inside, Part, just, some_of}
use Rattle.mau_domains.specs.Search.{IsLeastOrNone}
use Rattle.mau_domains.specs.Values.{IsValueOf, by_key}
use Rattle.mau_domains.specs.Nearest.{nearest_of, HoldsNext}
use Rattle.mau_domains.specs.Stored.{reach_of, part_in, tree_in, IsListOperator, AreItems}
use Rattle.mau_domains.specs.Lists.{alone_of}
use Rattle.mau_domains.proofs.Keys.{key_total, key_ties}
use Rattle.mau_domains.proofs.Least.{Given, nearest_is_next}

-- ---- identities

pub some_unit : (th : ℕ → Theory) (f : ℕ) (t : Tree) → ((i : Identity) → (th f).id ≡ Some i → t ≡ unit_tree i) → is_some (th f).id ≡ true → units_of (th f).id ≡ t ∷ []
some_unit th f t h e = by (th f).id refl e
  where
    by : (u : Option Identity) → (th f).id ≡ u → is_some u ≡ true → units_of u ≡ t ∷ []
    by None k e = absurd (cc)
    by (Some i) k e = ap (λ w. w ∷ []) (sym (h i k))

-- ---- single items

pub trees_alone : (nodes : List Node) (c : Bool) (r : Reach) (ids : List TermId) → trees_at nodes (numbers (alone_of c r ids)) ≡ alone_of c r (trees_at nodes (numbers ids))
trees_alone nodes true r ids = refl
trees_alone nodes false whole [] = refl
trees_alone nodes false whole (i ∷ ids) = refl
trees_alone nodes false front [] = refl
trees_alone nodes false front (i ∷ ids) = refl
trees_alone nodes false inside ids = refl

-- ---- items

module _ (s : SignatureOf) (old new : List Node) (e : Extends old new) where
  pub items_trees : (f : ℕ) (ids : List TermId) → AreItems s old f ids → trees_at new (numbers ids) ≡ trees_at old (numbers ids)
  items_trees f ids h = trees_at-extends old new (numbers ids) e (stand_there (theory_at s) old (numbers ids) h.stand)

  pub items_stay : (f : ℕ) (ids : List TermId) → AreItems s old f ids → AreItems s new f ids
  items_stay f ids h =
      let same : trees_at old (numbers ids) ≡ trees_at new (numbers ids) = sym (items_trees f ids h) in
      record {
        stand = stand_within_extended (theory_at s) old new (numbers ids) e h.stand;
        pieces = subst (ArePieces (theory_at s) f) same h.pieces;
        within = subst (λ ts. IsWithin (theory_at s) (over_list (theory_at s f) f ts)) same h.within;
      }

-- ---- the next value

pub place_of : (s : SignatureOf) (o : Option OpId) → IfSome o (λ op. IsListOperator s op.0) → IsPlace (theory_at s) (operator_number o)
place_of s None h = tt
place_of s (Some op) h = h.assoc

module _ (s : SignatureOf) (lawful : IsLawful (terms_over s)) (under : Option OpId) (list : IfSome under (λ op. IsListOperator s op.0)) where
  pub nearest_value : (q : Part) (after : Option Tree) (vs : List Tree) → HoldsNext (by_key (theory_at s) (operator_number under)) (IsValueOf (theory_at s) q) 0 after vs
      → let w = nearest_of (by_key (theory_at s) (operator_number under)) 0 after None vs in
      IsLeastOrNone (by_key (theory_at s) (operator_number under)) (IsValueOf (theory_at s) q) 0 after w × Given (IsValueOf (theory_at s) q) w
  nearest_value q after vs h =
      let th = theory_at s in
      let o = operator_number under in
      nearest_is_next (by_key th o) 0 (key_total th o 0) (λ t. norm th t ≡ t) (key_ties th lawful.theories o (place_of s under list) 0) (IsValueOf th q) after vs (λ v w. w.normal) h

pub given_some : (nodes : List Node) (P : Tree → Type 0) (o : Option TermId) → Given P (tree_in nodes o) → IfSome o (λ id. P (tree_at nodes id.0))
given_some nodes P None g = tt
given_some nodes P (Some id) g = g

-- ---- the list of a term

-- the elements of a term's list are items
pub own_items : (s : SignatureOf) → AreLawful (theory_at s) → (nodes : List Node) (f i : ℕ) (ids : List TermId) → (theory_at s f).assoc ≡ true → StandsWithin (theory_at s) nodes i
    → StandWithin (theory_at s) nodes (numbers ids) → trees_at nodes (numbers ids) ≡ list_under (theory_at s f) f (tree_at nodes i) → AreItems s nodes f ids
own_items s lawful nodes f i ids a w stand e =
    let th = theory_at s in
    let t = tree_at nodes i in
    let n : IsNormal th t = subst (IsNormal th) w.normal (norm_normal th lawful t) in
    record {
      stand = stand;
      pieces = subst (ArePieces th f) (sym e) (both (list_under (th f) f t) (whole_pieces th f t n) (normal_pieces th f t n));
      within = subst (IsWithin th) (sym (ap (over_list (th f) f) e ∙ over_its_list th f t a n)) w.within;
    }
  where
    both : (ts : List Tree) → Each (IsPiece (theory_at s f).assoc (theory_at s f).id f) ts → Each (IsNormal (theory_at s)) ts → ArePieces (theory_at s) f ts
    both [] p n = tt
    both (t ∷ ts) p n = (normal_fixed (theory_at s) t n.0, p.0, both ts p.1 n.1)

pub part_stays : (s : SignatureOf) (old new : List Node) → Extends old new → (q : PartOfCode) → IsPartOver s old q → IsPartOver s new q
part_stays s old new e (One id) w = stands_within_extended (theory_at s) old new e id.0 w
part_stays s old new e (ListOf r op ids) w = (w.0, items_stay s old new e op.0 ids w.1)

pub given_in : (nodes : List Node) (P : Tree → Type 0) (o : Option TermId) → IfSome o (λ id. P (tree_at nodes id.0)) → Given P (tree_in nodes o)
given_in nodes P None g = tt
given_in nodes P (Some id) g = g

pub part_same : (s : SignatureOf) (old new : List Node) → Extends old new → (q : PartOfCode) → IsPartOver s old q → part_in new q ≡ part_in old q
part_same s old new e (One id) w = ap just (tree_at-extends old new id.0 e w.there)
part_same s old new e (ListOf r op ids) w = ap (some_of (reach_of r) op.0) (items_trees s old new e op.0 ids w.1)

-- a number of an operator is one of its terms
pub has_operator : (s : SignatureOf) (f : ℕ) → IsOperator s f → (terms_over s).has_operator f ≡ true
has_operator s f h = ap₂ (λ a b. a && b) (lt-ltb 0 f h.0) (le-leb f (length s.declarations) h.1)
