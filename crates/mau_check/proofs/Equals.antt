-- Terms that are kept: when they are equal, and in stores that grow.
use Rattle.std.proofs.Common.{◌≡◌, ◌↔◌, ℕ, List, [], ◌∷◌, Option, Some, None, refl, sym, ap, ◌∙◌, subst}
use Rattle.std.specs.Prelude.{All}
use Rattle.std.specs.List.{AllZip}
use Rattle.std.proofs.lemmas.List.Elements.{All-nil, All-cons}
use Rattle.mau_terms.specs.Tree.{Tree}
use Rattle.mau_terms.specs.Norm.{norm}
use Rattle.mau_terms.specs.Bare.{IsBare, EqualModulo, IsLawful}
use Rattle.mau_terms.specs.Subst.{Variable}
use Rattle.mau_terms.proofs.Law.{equal_norm, norm_equal}
use Rattle.mau_terms.proofs.Normal.{norm-norm}
use Rattle.mau_signature.specs.Signature.{SignatureOf, theory_at, terms_over}
use Rattle.mau_store.specs.Node.{Node, AreNodes, IsOf, Extends}
use Rattle.mau_store.specs.Trees.{tree_at, StandsFor}
use Rattle.mau_store.proofs.Growth.{IsOf-extends}
use Rattle.mau_store.proofs.Numbers.{one_number}
use Rattle.mau_store.proofs.Standing.{tree_at-extends}
use Rattle.mau_canon.specs.Within.{IsWithin}
use Rattle.mau_canon.specs.Standing.{StandsWithin, StandWithin}
use Rattle.mau_api.specs.Terms.{IsBareWithin}
use Rattle.mau_logic.specs.Says.{Says, leads, of_sort, says_nothing}
use Rattle.mau_logic.specs.Justified.{With}
use Rattle.mau_store.specs.View.{numbers}
use Rattle.mau_terms.specs.declared.ids.TermId.{TermId}
use Rattle.std.specs.Prelude.{map}
use Rattle.mau_check.specs.declared.kept.Kept.{Kept}
use Rattle.mau_check.specs.declared.said.Said.{Said}
use Rattle.mau_check.specs.declared.said.Said.TheVariants.{Leads, Sorted}
use Rattle.mau_check.specs.Kept.{IsKeptFor, AreKeptFor, IsKept, AreKept}
use Rattle.mau_check.specs.Said.{IsSaid, AreSaid}
use Rattle.mau_check.proofs.Numbers.{zip_weaker}

module _ (s : SignatureOf) where
  -- ---- stores that grow

  module _ (old new : List Node) (x : Extends old new) where
    pub kept_extended : (k : Kept) (t : Tree) → IsKeptFor s old k t → IsKeptFor s new k t
    kept_extended k t h = record {
      within = h.within;
      kind = h.kind;
      there = IsOf-extends old new k.id.0 x h.there;
      stands = tree_at-extends old new k.id.0 x h.there ∙ h.stands;
      holes = h.holes;
    }

    with_extended : (k : Kept) (t : Option Tree) → With t (IsKeptFor s old k) → With t (IsKeptFor s new k)
    with_extended k None h = h
    with_extended k (Some t) h = kept_extended k t h

    line_extended : (k : Option Kept) (t : Option Tree) → IsKept s old k t → IsKept s new k t
    line_extended None t h = h
    line_extended (Some k) t h = with_extended k t h

    pub are_kept_extended : (ks : List (Option Kept)) (ts : List (Option Tree)) → AreKept s old ks ts → AreKept s new ks ts
    are_kept_extended ks ts h = zip_weaker (IsKept s old) (IsKept s new) line_extended ks ts h

    pub all_extended : (ks : List Kept) (ts : List Tree) → AreKeptFor s old ks ts → AreKeptFor s new ks ts
    all_extended ks ts h = zip_weaker (IsKeptFor s old) (IsKeptFor s new) kept_extended ks ts h

    fact_extended : (f : Said) (y : Says) → IsSaid s old f y → IsSaid s new f y
    fact_extended (Leads e a b) (leads d t u) h = (h.0, kept_extended a t h.1, kept_extended b u h.2)
    fact_extended (Leads e a b) (of_sort t r) h = h
    fact_extended (Leads e a b) says_nothing h = h
    fact_extended (Sorted a q) (leads d t u) h = h
    fact_extended (Sorted a q) (of_sort t r) h = (h.0, kept_extended a t h.1, h.2, h.3)
    fact_extended (Sorted a q) says_nothing h = h

    pub are_said_extended : (xs : List Said) (ys : List Says) → AreSaid s old xs ys → AreSaid s new xs ys
    are_said_extended xs ys h = zip_weaker (IsSaid s old) (IsSaid s new) fact_extended xs ys h

  module _ (lawful : IsLawful (terms_over s)) (nodes : List Node) where
    -- ---- normal forms within the limits

    pub stands_within : (k : Kept) (t : Tree) → IsKeptFor s nodes k t → StandsWithin (theory_at s) nodes k.id.0
    stands_within k t h = record {
      there = h.there;
      normal = ap (norm (theory_at s)) h.stands ∙ norm-norm (theory_at s) lawful.theories t ∙ sym h.stands;
      within = subst (IsWithin (theory_at s)) (sym h.stands) h.within.1;
    }

    pub stand_within : (ks : List Kept) (ts : List Tree) → AreKeptFor s nodes ks ts → StandWithin (theory_at s) nodes (map (λ k. k.id.0) ks)
    stand_within [] [] h = All-nil (StandsWithin (theory_at s) nodes)
    stand_within [] (t ∷ ts) h = absurd h
    stand_within (k ∷ ks) [] h = absurd h
    stand_within (k ∷ ks) (t ∷ ts) h = All-cons (StandsWithin (theory_at s) nodes) k.id.0 (map (λ k. k.id.0) ks) (stands_within k t h.0) (stand_within ks ts h.1)

    -- ---- equal terms

    module _ (are : AreNodes nodes) where
      -- terms have one number exactly where they are equal
      pub equal_numbers : (i j : ℕ) (t u : Tree) → IsBare (terms_over s) t → IsBare (terms_over s) u → IsOf nodes i → IsOf nodes j → StandsFor (theory_at s) nodes i t → StandsFor (theory_at s) nodes j u → (i ≡ j) ↔ EqualModulo (terms_over s) t u
      equal_numbers i j t u bt bu p q e d = (
        (λ same. norm_equal (terms_over s) lawful t u bt bu (sym e ∙ ap (tree_at nodes) same ∙ d)),
        λ eq. one_number nodes are i j p q (e ∙ equal_norm (terms_over s) lawful eq ∙ sym d),
      )

      pub kept_equal : (a b : Kept) (t u : Tree) → IsKeptFor s nodes a t → IsKeptFor s nodes b u → (a.id.0 ≡ b.id.0) ↔ EqualModulo (terms_over s) t u
      kept_equal a b t u h g = equal_numbers a.id.0 b.id.0 t u h.within.0 g.within.0 h.there g.there h.stands g.stands
