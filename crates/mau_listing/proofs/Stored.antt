-- Identities that are put into a store, and what is below the terms of a store whose terms are settled.
use Rattle.std.proofs.Common.{◌≡◌, ◌<◌, ◌≤◌, ◌-◌, ◌⊎◌, ℕ, zero, suc, List, [], ◌∷◌, ◌++◌, Option, Some, None, is_some, true, inl, inr, ⊎_elim, length, slice_get, refl, sym, ap, ◌∙◌, subst, arith}
use Rattle.std.proofs.lemmas.List.{get_or_past}
use Rattle.std.proofs.lemmas.Bool.{cases_lt}
use Rattle.std.proofs.lemmas.Option.{slice_get_within}
use Rattle.std.specs.Option.{option_map}
use Rattle.mau_terms.specs.Tree.{Tree, no_trees}
use Rattle.mau_terms.specs.Bare.{IsLawful, AreBareIn}
use Rattle.mau_terms.specs.Norm.{unit_tree}
use Rattle.mau_terms.specs.declared.theory.Identity.{Identity}
use Rattle.mau_terms.specs.declared.theory.Identity.TheVariants.{Const, Num}
use Rattle.mau_poset.specs.Order.{kind_of}
use Rattle.mau_signature.specs.Signature.{SignatureOf, IsOperator, terms_over, theory_at, theory_of}
use Rattle.mau_store.specs.Node.{Node, AreNodes, IsOf, Extends}
use Rattle.mau_store.specs.Trees.{tree_at}
use Rattle.mau_store.proofs.Standing.{tree_of_node, tree_at-extends}
use Rattle.mau_store.proofs.Growth.{IsOf-extends}
use Rattle.mau_canon.specs.Standing.{IsNumberOf}
use Rattle.mau_signature.proofs.Operators.{is_operator}
use Rattle.mau_sorts.specs.Table.{Table, IsSettled, IsReady, EachIsOver}
use Rattle.mau_signature.specs.OverSignature.{IsTreeOver}
use Rattle.mau_sorts.proofs.Settling.{node_over}
use Rattle.mau_listing.specs.Asked.{Asked, IsTreeSettled, IsSettledFor}
use Rattle.mau_listing.specs.Prepared.{HasIdentities, AllAreSettled}
use Rattle.mau_listing.proofs.Closed.{settled_below}

-- ---- identities

-- an identity is that of an operator that is declared
identity_declared : (s : SignatureOf) (f : ℕ) (i : Identity) → (theory_at s f).id ≡ Some i → (g : ℕ) × IsOperator s g × ((theory_at s g).id ≡ Some i)
identity_declared s zero i e =
    ⊎_elim
    (λ (low : 0 < length s.declarations). (1, (omega arith, omega (arith, low)), e))
    (λ (high : length s.declarations ≤ 0).
    let none : (theory_at s 0).id ≡ None = ap (λ ds. (theory_of s.hierarchy s.names ds).id) (get_or_past s.declarations (0 - 1) [] (omega (arith, high))) in
    absurd (cc))
    (cases_lt 0 (length s.declarations))
identity_declared s (suc k) i e =
    ⊎_elim
    (λ (low : k < length s.declarations). (suc k, (omega arith, omega (arith, low)), e))
    (λ (high : length s.declarations ≤ k).
    let none : (theory_at s (suc k)).id ≡ None = ap (λ ds. (theory_of s.hierarchy s.names ds).id) (get_or_past s.declarations (suc k - 1) [] (omega (arith, high))) in
    absurd (cc))
    (cases_lt k (length s.declarations))

some_mapped : {X Y : Type 0} (g : X → Y) (o : Option X) (y : Y) → option_map g o ≡ Some y → is_some o ≡ true
some_mapped g None y e = absurd (cc)
some_mapped g (Some x) y e = refl

-- it is a term over the signature
pub unit_over : (s : SignatureOf) → IsLawful (terms_over s) → (f : ℕ) (i : Identity) → (theory_at s f).id ≡ Some i → IsTreeOver s (unit_tree i)
unit_over s lawful f (Const c) e =
    let bare = (lawful.unit_kinds f (Const c) e).1 in (
      is_operator s c.0 bare.0,
      λ assoc. absurd (subst (AreBareIn (terms_over s) no_trees) (lawful.assoc_kinds c.0 assoc) bare.2),
      tt,
    )
unit_over s lawful f (Num n) e =
    let bare = (lawful.unit_kinds f (Num n) e).1 in
    some_mapped (λ p. kind_of s.hierarchy p.0) s.numerals ((terms_over s).result f) bare.1

-- one operator after another
pub identities_more : (s : SignatureOf) (old new : List Node) (k : ℕ) → Extends old new
    → ((f : ℕ) (i : Identity) → 0 < f → f ≤ k → (theory_at s f).id ≡ Some i → (n : ℕ) × IsNumberOf old n (unit_tree i))
    → ((i : Identity) → (theory_at s (suc k)).id ≡ Some i → (n : ℕ) × IsNumberOf new n (unit_tree i))
    → (f : ℕ) (i : Identity) → 0 < f → f ≤ suc k → (theory_at s f).id ≡ Some i → (n : ℕ) × IsNumberOf new n (unit_tree i)
identities_more s old new k extends before last f i low high e =
    ⊎_elim
    (λ (h : k < f). last i (subst (λ g. (theory_at s g).id ≡ Some i) (the_last h) e))
    (λ (h : f ≤ k).
    let one = before f i low h e in
    (one.0, record { there = IsOf-extends old new one.0 extends one.1.there; tree = tree_at-extends old new one.0 extends one.1.there ∙ one.1.tree }))
    (cases_lt k f)
  where
    the_last : k < f → f ≡ suc k
    the_last h = omega (arith, h, high)

pub all_identities : (s : SignatureOf) (nodes : List Node) (k : ℕ) → length s.declarations ≤ k → ((f : ℕ) (i : Identity) → 0 < f → f ≤ k → (theory_at s f).id ≡ Some i → (n : ℕ) × IsNumberOf nodes n (unit_tree i)) → HasIdentities s nodes
all_identities s nodes k most all f i e =
    let g = identity_declared s f i e in
    let high = g.1.1 in
    all g.0 i g.1.0 (omega (arith, high, most)) g.2

-- ---- a node that is added

pub terms_more : (s : SignatureOf) (old new : List Node) (n : Node) (i : ℕ) (t : Tree) → (new ≡ old) ⊎ (new ≡ old ++ n ∷ []) → Extends old new → AreNodes new → slice_get new i ≡ Some n → tree_at new i ≡ t → IsTreeOver s t → EachIsOver s old → EachIsOver s new
terms_more s old new n i t (inl e) extends are at tree over each j there = subst (EachIsOver s) (sym e) each j there
terms_more s old new n i t (inr e) extends are at tree over each j there =
    ⊎_elim
    (λ (low : j < length old). subst (IsTreeOver s) (sym (tree_at-extends old new j extends low)) (each j low))
    (λ (high : length old ≤ j). subst (IsTreeOver s) (sym tree ∙ ap (tree_at new) (are.shared i j n at (last_at high))) over)
    (cases_lt j (length old))
  where
    last_is : (xs : List Node) (k : ℕ) → length xs ≤ k → k < length (xs ++ n ∷ []) → slice_get (xs ++ n ∷ []) k ≡ Some n
    last_is [] zero low high = refl
    last_is [] (suc k) low high = absurd (omega (arith, high))
    last_is (x ∷ xs) zero low high = absurd (omega (arith, low))
    last_is (x ∷ xs) (suc k) low high = last_is xs k (omega (arith, low)) (omega (arith, high))

    last_at : length old ≤ j → slice_get new j ≡ Some n
    last_at low = subst (λ ns. slice_get ns j ≡ Some n) (sym e) (last_is old j low (subst (λ ns. j < length ns) e there))

-- a term whose subterms are settled is ready
pub ready_at : (s : SignatureOf) (nodes : List Node) → AreNodes nodes → (table : Table) (i : ℕ) → IsOf nodes i → IsTreeOver s (tree_at nodes i) → ((j : ℕ) → j < i → IsSettled table j) → IsReady s nodes table i
ready_at s nodes are table i there over settled = record {
  there = there;
  over = λ n at. node_over s (tree_at nodes) n (subst (IsTreeOver s) (tree_of_node nodes are i n at) over);
  arguments = λ n at k d h. settled _ (are.closed i n at k d h);
}

-- ---- what is below

module _ (nodes : List Node) (are : AreNodes nodes) (table : Table) (all : AllAreSettled nodes table) where
  pub tree_settled : (i : ℕ) → IsOf nodes i → IsTreeSettled nodes table (tree_at nodes i)
  tree_settled i there = record { number = i; there = there; tree = refl; settled = all i there }

  -- each term of the store may be the subject
  pub settled_for : (s : SignatureOf) → HasIdentities s nodes → (a : Asked) → IsOf nodes a.subject.0 → IsSettledFor s nodes table a
  settled_for s identities a there = record {
    identities = λ f i e.
        let one = identities f i e in
        record { number = one.0; there = one.1.there; tree = one.1.tree; settled = all one.0 one.1.there };
    below = settled_below nodes are table (λ i n is at k d h. all _ (omega (arith, are.closed i n at k d h, slice_get_within nodes i n at))) a.subject.0 there (all a.subject.0 there);
    subject = inl (tree_settled a.subject.0 there);
  }
