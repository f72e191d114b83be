-- Terms that are gathered, one after another.
use Rattle.std.proofs.Common.{◌≡◌, ◌<◌, ℕ, zero, suc, List, [], ◌∷◌, ◌++◌, ◌⊎◌, Contains, inl, inr, ⊎_elim, map, length, take, get_or, sym, subst, arith}
use Rattle.std.proofs.lemmas.List.{map-append}
use Rattle.std.proofs.lemmas.List.Elements.{All-nil, All-cons, All-append}
use Rattle.mau_terms.specs.Tree.{Tree, trees_of}
use Rattle.mau_terms.specs.View.{tree_of}
use Rattle.mau_terms.specs.declared.bare.Bare.{Bare}
use Rattle.mau_listing.specs.Values.{MayBeValue, MayBeValueOfOne}
use Rattle.mau_terms.specs.Finite.{IsIn}
use Rattle.mau_terms.specs.declared.ids.TermId.{TermId}
use Rattle.mau_terms.specs.declared.theory.Theory.{Theory}
use Rattle.mau_terms.proofs.Finite.{in_left, in_right}
use Rattle.mau_store.specs.Node.{Node, Extends}
use Rattle.mau_store.specs.Trees.{tree_at, trees_at}
use Rattle.mau_store.specs.View.{numbers}
use Rattle.mau_store.proofs.Growth.{extension_is_preorder, trees_at-extends}
use Rattle.mau_canon.specs.Standing.{StandsWithin, StandWithin}
use Rattle.mau_canon.proofs.Standing.{stand_within_extended, stand_there}
use Rattle.mau_canon.proofs.Elements.{trees_at-append}
use Rattle.mau_plain.specs.Gathered.{Gathers}

module _ (th : ℕ → Theory) where
  -- nothing is added
  pub gathers_none : (nodes : List Node) (ids : List TermId) → StandWithin th nodes (numbers ids) → Gathers th nodes nodes ids ids (λ t. ⊥)
  gathers_none nodes ids within = record {
    extends = extension_is_preorder.reflexive nodes;
    within = within;
    kept = λ t h. h;
    all = λ t h. absurd h;
  }

  -- the store alone has grown
  pub gathers_grown : (old new : List Node) (ids : List TermId) → Extends old new → StandWithin th old (numbers ids) → Gathers th old new ids ids (λ t. ⊥)
  gathers_grown old new ids extends within = record {
    extends = extends;
    within = stand_within_extended th old new (numbers ids) extends within;
    kept = λ t h. subst (IsIn t) (sym (trees_at-extends old new (numbers ids) extends (stand_there th old (numbers ids) within))) h;
    all = λ t h. absurd h;
  }

  -- several are added
  pub gathers_more : (old new : List Node) (before more after : List TermId) → Extends old new → StandWithin th old (numbers before) → StandWithin th new (numbers more) → after ≡ before ++ more
      → Gathers th old new before after (λ t. IsIn t (trees_at new (numbers more)))
  gathers_more old new before more after extends within added e =
      subst (λ ids. Gathers th old new before ids (λ t. IsIn t (trees_at new (numbers more)))) (sym e) (record {
        extends = extends;
        within = subst (StandWithin th new) (sym (map-append (λ id. id.0) before more)) (All-append (StandsWithin th new) (numbers before) (numbers more) (stand_within_extended th old new (numbers before) extends within) added);
        kept = λ t h. subst (IsIn t) (sym (trees_at-append new before more)) (in_left t (trees_at new (numbers before)) (trees_at new (numbers more))
            (subst (IsIn t) (sym (trees_at-extends old new (numbers before) extends (stand_there th old (numbers before) within))) h));
        all = λ t h. subst (IsIn t) (sym (trees_at-append new before more)) (in_right t (trees_at new (numbers before)) (trees_at new (numbers more)) h);
      })

  -- what is gathered is gathered of all that follows from it
  pub gathers_then : (old new : List Node) (before after : List TermId) (P Q : Tree → Type 0) → ((t : Tree) → Q t → P t) → Gathers th old new before after P → Gathers th old new before after Q
  gathers_then old new before after P Q h g = record { extends = g.extends; within = g.within; kept = g.kept; all = λ t q. g.all t (h t q) }

  pub gathers_both : (a b c : List Node) (xs ys zs : List TermId) (P Q : Tree → Type 0) → Gathers th a b xs ys P → Gathers th b c ys zs Q → Gathers th a c xs zs (λ t. P t ⊎ Q t)
  gathers_both a b c xs ys zs P Q g h = record {
    extends = extension_is_preorder.transitive a b c g.extends h.extends;
    within = h.within;
    kept = λ t i. h.kept t (g.kept t i);
    all = λ t. ⊎_elim (λ p. h.kept t (g.all t p)) (λ q. h.all t q);
  }

-- ---- lists, one after another

-- an element of one more is one of those before, or the one
pub contains_more : {A : Type 0} (xs : List A) (i : ℕ) (d x : A) → i < length xs → Contains (take (suc i) xs) x → Contains (take i xs) x ⊎ (x ≡ get_or xs i d)
contains_more [] i d x h c = absurd (omega arith)
contains_more (y ∷ xs) zero d x h (zero, lt, e) = inr (sym e)
contains_more (y ∷ xs) zero d x h (suc k, lt, e) = absurd (omega arith)
contains_more (y ∷ xs) (suc i) d x h (zero, lt, e) = inl (zero, omega arith, e)
contains_more (y ∷ xs) (suc i) d x h (suc k, lt, e) =
    ⊎_elim
    (λ (c : Contains (take i xs) x). let low = c.1 in inl (suc c.0, omega arith, c.2))
    (λ (same : x ≡ get_or xs i d). inr same)
    (contains_more xs i d x (omega arith) (k, omega arith, e))

-- one term of the store is added
pub gathers_one : (th : ℕ → Theory) (nodes : List Node) (before after : List TermId) (id : TermId) → StandWithin th nodes (numbers before) → StandsWithin th nodes id.0 → after ≡ before ++ id ∷ []
    → Gathers th nodes nodes before after (λ t. t ≡ tree_at nodes id.0)
gathers_one th nodes before after id within one e =
    gathers_then th nodes nodes before after (λ t. IsIn t (trees_at nodes (numbers (id ∷ [])))) (λ t. t ≡ tree_at nodes id.0) (λ t k. inl k)
    (gathers_more th nodes nodes before (id ∷ []) after (extension_is_preorder.reflexive nodes) within (All-cons (StandsWithin th nodes) id.0 [] one (All-nil (StandsWithin th nodes))) e)

-- a term of one more number is one of those before, or that of the number
pub in_more : (nodes : List Node) (ids : List TermId) (i : ℕ) (d : TermId) (t : Tree) → i < length ids → IsIn t (trees_at nodes (numbers (take (suc i) ids))) → IsIn t (trees_at nodes (numbers (take i ids))) ⊎ (t ≡ tree_at nodes (get_or ids i d).0)
in_more nodes [] i d t h k = absurd (omega arith)
in_more nodes (x ∷ ids) zero d t h (inl e) = inr e
in_more nodes (x ∷ ids) zero d t h (inr k) = absurd k
in_more nodes (x ∷ ids) (suc i) d t h (inl e) = inl (inl e)
in_more nodes (x ∷ ids) (suc i) d t h (inr k) = ⊎_elim (λ (a : IsIn t (trees_at nodes (numbers (take i ids)))). inl (inr a)) (λ (e : t ≡ tree_at nodes (get_or ids i d).0). inr e) (in_more nodes ids i d t (omega arith) k)

-- a variable of one more pattern
pub of_one_more : (th : ℕ → Theory) (bs : List Bare) (i : ℕ) (d : Bare) (t v : Tree) → i < length bs → MayBeValueOfOne th (trees_of (map tree_of (take (suc i) bs))) t v
    → MayBeValueOfOne th (trees_of (map tree_of (take i bs))) t v ⊎ MayBeValue th (tree_of (get_or bs i d)) t v
of_one_more th [] i d t v h k = absurd (omega arith)
of_one_more th (b ∷ bs) zero d t v h (inl k) = inr k
of_one_more th (b ∷ bs) zero d t v h (inr k) = absurd k
of_one_more th (b ∷ bs) (suc i) d t v h (inl k) = inl (inl k)
of_one_more th (b ∷ bs) (suc i) d t v h (inr k) =
    ⊎_elim (λ (a : MayBeValueOfOne th (trees_of (map tree_of (take i bs))) t v). inl (inr a)) (λ (m : MayBeValue th (tree_of (get_or bs i d)) t v). inr m) (of_one_more th bs i d t v (omega arith) k)
