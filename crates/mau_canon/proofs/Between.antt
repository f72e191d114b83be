-- An instance between two lists of normal forms.
use Rattle.std.proofs.Common.{◌≡◌, ℕ, List, [], ◌∷◌, ◌++◌, Bool, true, false, ◌||◌, map, refl, sym, ap, ap₂, ◌∙◌, append_assoc}
use Rattle.std.proofs.lemmas.List.{map-append}
use Rattle.mau_terms.specs.Tree.{Tree, node, trees_of}
use Rattle.mau_terms.specs.Norm.{norm, all_pieces, arrange, holds_overflow, hold_overflow}
use Rattle.mau_terms.specs.Solution.{list_under, over_list}
use Rattle.mau_terms.specs.Lawful.{AreLawful}
use Rattle.mau_terms.specs.declared.theory.Theory.{Theory}
use Rattle.mau_terms.proofs.Pieces.{Each}
use Rattle.mau_canon.specs.Judging.{is_overflow}
use Rattle.mau_canon.proofs.Elements.{IsFine, all_pieces-append}
use Rattle.mau_canon.proofs.Overflows.{some_overflow, hold-trees_of, some-append}
use Rattle.mau_canon.proofs.Judged.{norms_fixed, none_overflows}
use Rattle.mau_canon.proofs.Collected.{one_more, or_none, norm-collected, holds-collected}

module _ (th : ℕ → Theory) (f : ℕ) (ls rs : List Tree) (t : Tree) (left : Each (IsFine th) ls) (right : Each (IsFine th) rs) where
  norms_around : map (norm th) (ls ++ t ∷ rs) ≡ ls ++ norm th t ∷ rs
  norms_around = map-append (norm th) ls (t ∷ rs) ∙ ap₂ (λ xs ys. xs ++ norm th t ∷ ys) (norms_fixed th ls left) (norms_fixed th rs right)

  pieces_around : all_pieces (th f).assoc (th f).id f (map (norm th) (ls ++ t ∷ rs)) ≡ all_pieces (th f).assoc (th f).id f ls ++ (list_under (th f) f (norm th t) ++ all_pieces (th f).assoc (th f).id f rs)
  pieces_around = ap (all_pieces (th f).assoc (th f).id f) norms_around ∙ all_pieces-append (th f).assoc (th f).id f ls (norm th t ∷ rs)

  -- what was collected comes to the normal form
  pub norm_around : (mid now : List Tree)
      → arrange (th f).comm mid ≡ arrange (th f).comm (all_pieces (th f).assoc (th f).id f ls ++ list_under (th f) f (norm th t))
      → now ≡ mid ++ all_pieces (th f).assoc (th f).id f rs → over_list (th f) f now ≡ norm th (node f (ls ++ t ∷ rs))
  norm_around mid now before e =
      let c = (th f).comm in
      let a = all_pieces (th f).assoc (th f).id f in
      norm-collected th f (ls ++ t ∷ rs) now
      (one_more c (a ls) (list_under (th f) f (norm th t)) (a rs) mid now before (ap (arrange c) e) ∙ ap (arrange c) (sym pieces_around))

  -- the same, where the axioms of the operator are known
  pub found_around : (h : Theory) → h ≡ th f → (items mid behind now : List Tree) → items ≡ all_pieces h.assoc h.id f ls
      → arrange (th f).comm mid ≡ arrange (th f).comm (items ++ list_under (th f) f (norm th t))
      → behind ≡ all_pieces h.assoc h.id f rs → now ≡ mid ++ behind → over_list h f now ≡ norm th (node f (ls ++ t ∷ rs))
  found_around h same items mid behind now before collected after whole =
      let first : items ≡ all_pieces (th f).assoc (th f).id f ls = before ∙ ap (λ (g : Theory). all_pieces g.assoc g.id f ls) same in
      let last : behind ≡ all_pieces (th f).assoc (th f).id f rs = after ∙ ap (λ (g : Theory). all_pieces g.assoc g.id f rs) same in
      ap (λ (g : Theory). over_list g f now) same
      ∙ norm_around mid now (collected ∙ ap (λ xs. arrange (th f).comm (xs ++ list_under (th f) f (norm th t))) first) (whole ∙ ap (λ xs. mid ++ xs) last)

  overflow_around : hold_overflow th (trees_of (map (norm th) (ls ++ t ∷ rs))) ≡ holds_overflow th (norm th t)
  overflow_around =
      ap (λ xs. hold_overflow th (trees_of xs)) norms_around
      ∙ hold-trees_of th (ls ++ norm th t ∷ rs)
      ∙ some-append th ls (norm th t ∷ rs)
      ∙ ap₂ (λ x y. x || (holds_overflow th (norm th t) || y)) (none_overflows th ls left) (none_overflows th rs right)
      ∙ or_none (holds_overflow th (norm th t))

  -- it holds the successor of the greatest numeral where the instance does, and where it is that itself
  pub holds_around : AreLawful th → holds_overflow th (norm th (node f (ls ++ t ∷ rs))) ≡ (holds_overflow th (norm th t) || is_overflow (th f).succ f (norm th (node f (ls ++ t ∷ rs))))
  holds_around lawful = holds-collected th f lawful (ls ++ t ∷ rs) ∙ ap (λ b. b || is_overflow (th f).succ f (norm th (node f (ls ++ t ∷ rs)))) overflow_around
