-- A pattern that matches a part of a list.
use Rattle.std.proofs.Common.{◌≡◌, ℕ, List, [], ◌++◌, Bool, true, false, refl, sym, ◌∙◌, ap}
use Rattle.mau_terms.specs.Tree.{Tree}
use Rattle.mau_terms.specs.Norm.{arrange, norm}
use Rattle.mau_terms.specs.Lawful.{AreLawful}
use Rattle.mau_terms.specs.Bare.{TermSignature}
use Rattle.mau_terms.specs.Subst.{with_values}
use Rattle.mau_terms.specs.Solution.{list_under, FitsUnder}
use Rattle.mau_terms.specs.declared.theory.Theory.{Theory}
use Rattle.mau_terms.proofs.Pieces.{Each-append, IsPiece, arrange-arrange}
use Rattle.mau_terms.proofs.Normal.{norm_normal, whole_pieces}
use Rattle.mau_terms.proofs.Solutions.{list_of_made, each_piece}
use Rattle.mau_domains.specs.Parts.{front, some_of, IsOf}

-- what a part with contexts is a part of: what stands behind the left context
pub part_with_contexts : (s : TermSignature) (lawful : AreLawful s.theory) (f : ℕ) → (s.theory f).assoc ≡ true → (p t : Tree) (vs left right : List Tree) → FitsUnder s f p t vs left right → (rest : List Tree) × (left ++ rest ≡ list_under (s.theory f) f (norm s.theory t)) × IsOf s.theory (some_of front f rest) (norm s.theory (with_values p vs))
part_with_contexts s lawful f a p t vs left right h = by (th f).comm refl
  where
    th : ℕ → Theory
    th = s.theory

    q : Tree
    q = norm th (with_values p vs)

    m : List Tree
    m = list_under (th f) f q

    P : Tree → Type 0
    P = IsPiece (th f).assoc (th f).id f

    e : list_under (th f) f (norm th t) ≡ arrange (th f).comm (left ++ (m ++ right))
    e = ap (list_under (th f) f) h.whole ∙ list_of_made th f (left ++ (m ++ right)) a (Each-append P left (m ++ right) (each_piece th f left h.left_list.pieces) (Each-append P m right (whole_pieces th f q (norm_normal th lawful (with_values p vs))) (each_piece th f right h.right_list.pieces)))

    by : (c : Bool) → (th f).comm ≡ c → (rest : List Tree) × (left ++ rest ≡ list_under (th f) f (norm th t)) × IsOf th (some_of front f rest) q
    by false k = (m ++ right, sym (e ∙ ap (λ b. arrange b (left ++ (m ++ right))) k), record { left = []; right = right; leaves = refl; all = refl })
    by true k =
        let no_left : left ≡ [] = h.rest_alone k in
        let l = list_under (th f) f (norm th t) in (
          l,
          ap (λ w. w ++ l) no_left,
          record {
            left = [];
            right = right;
            leaves = refl;
            all = ap (λ w. arrange (th f).comm (w ++ (m ++ right))) (sym no_left) ∙ sym (arrange-arrange (th f).comm (left ++ (m ++ right))) ∙ ap (arrange (th f).comm) (sym e);
          },
        )
