-- What may have been an argument is within the limits, and is over elements of the term.
use Rattle.std.proofs.Common.{◌≡◌, ℕ, List, [], ◌∷◌, true, Some, All, map, ◌⊎◌, inl, inr, refl, sym, ap, ap₂, ◌∙◌, subst}
use Rattle.std.proofs.lemmas.List.Elements.{All-head, All-tail}
use Rattle.mau_terms.specs.Tree.{Tree, node}
use Rattle.mau_terms.specs.Norm.{unit_tree, arrange, finish, build, norm}
use Rattle.mau_terms.specs.Lawful.{AreLawful}
use Rattle.mau_terms.specs.Solution.{list_under, over_list}
use Rattle.mau_terms.specs.Finite.{IsIn}
use Rattle.mau_terms.specs.declared.theory.Identity.{Identity}
use Rattle.mau_terms.specs.declared.theory.Theory.{Theory}
use Rattle.mau_terms.proofs.Induction.{norm-node}
use Rattle.mau_terms.proofs.Normal.{IsNormal, normal_fixed, normal_pieces, whole_pieces, pieces_all}
use Rattle.mau_terms.proofs.Pieces.{Each, IsPiece, arrange_none}
use Rattle.mau_canon.specs.Within.{IsWithin}
use Rattle.mau_listing.specs.Values.{IsPartUnder, identity, itself, argument, one_less, list}
use Rattle.mau_listing.proofs.Limits.{part_within}
use Rattle.mau_plain.specs.Parts.{IsOverList, IsWordOf, IsBelowOrLess}

-- ---- lists over elements

each_of : (P : Tree → Type 0) (l ts : List Tree) → Each P l → All (λ u. IsIn u l) ts → Each P ts
each_of P l [] h all = tt
each_of P l (t ∷ ts) h all = (at l t h (All-head (λ u. IsIn u l) t ts all), each_of P l ts h (All-tail (λ u. IsIn u l) t ts all))
  where
    at : (us : List Tree) (z : Tree) → Each P us → IsIn z us → P z
    at [] z k i = absurd i
    at (u ∷ us) z k (inl e) = subst P (sym e) k.0
    at (u ∷ us) z k (inr i) = at us z k.1 i

module _ (th : ℕ → Theory) where
  fixed : (ts : List Tree) → Each (IsNormal th) ts → map (norm th) ts ≡ ts
  fixed [] h = refl
  fixed (t ∷ ts) h = ap₂ (λ u us. u ∷ us) (normal_fixed th t h.0) (fixed ts h.1)

  -- f over elements of the list of a normal form
  pub over_elements : (f : ℕ) (t : Tree) → IsNormal th t → (ts : List Tree) → All (λ u. IsIn u (list_under (th f) f t)) ts → norm th (node f ts) ≡ over_list (th f) f ts
  over_elements f t n ts all =
      norm-node th f ts
      ∙ ap (build (th f) f) (fixed ts (each_of (IsNormal th) (list_under (th f) f t) ts (normal_pieces th f t n) all))
      ∙ ap (λ l. finish (th f).assoc (th f).id (th f).succ f (arrange (th f).comm l))
      (pieces_all th (th f).assoc (th f).id f ts (each_of (IsPiece (th f).assoc (th f).id f) (list_under (th f) f t) ts (whole_pieces th f t n) all))

-- the identity is f over no elements
pub over_nothing : (th : ℕ → Theory) (f : ℕ) (i : Identity) → (th f).id ≡ Some i → norm th (node f []) ≡ unit_tree i
over_nothing th f i e = ap (λ l. finish (th f).assoc (th f).id (th f).succ f l) (arrange_none (th f).comm) ∙ ap (λ u. finish (th f).assoc u (th f).succ f []) e

-- what may have been an argument, as it is gathered
pub part_cases : (th : ℕ → Theory) → AreLawful th → (f : ℕ) (t : Tree) → IsWithin th t → (z : Tree) → IsPartUnder th f t z →
    (((z ≡ t) ⊎ IsOverList th f [] z) ⊎ IsBelowOrLess t z) ⊎ (((th f).assoc ≡ true) × IsWordOf th f t z)
part_cases th lawful f t within z (identity i u e) = inl (inl (inr (e ∙ sym (over_nothing th f i u), part_within th lawful f t within z (identity i u e))))
part_cases th lawful f t within z (itself e) = inl (inl (inl e))
part_cases th lawful f t within z (argument h) = inl (inr (inl h))
part_cases th lawful f t within z (one_less n k e) = inl (inr (inr (n, k, e)))
part_cases th lawful f t within z (list ts a all short e) = inr (a, (ts, all, short, part_within th lawful f t within z (list ts a all short e), e))
