-- Lists that are collected from bare terms.
use Rattle.std.proofs.Common.{◌≡◌, ℕ, zero, suc, ◌+◌, ◌<◌, ◌≤◌, nat_lt, nat_le, List, [], ◌∷◌, ◌++◌, Bool, true, false, ◌&&◌, ◌||◌, All, map, length, take, get_or, refl, sym, ap, ap₂, ◌∙◌, arith, append_assoc, Result, Ok, Err, IfOk, OnOk}
use Rattle.std.proofs.lemmas.List.{map-append, take_more}
use Rattle.std.proofs.lemmas.List.Elements.{All-nil, All-cons}
use Rattle.std.proofs.lemmas.Bool.{ltb-true, leb-true, and_parts}
use Rattle.mau_terms.specs.Tree.{Tree, node, trees_of}
use Rattle.mau_terms.specs.Subst.{Variable, instance}
use Rattle.mau_terms.specs.Depth.{depth, list_depth, depths-trees_of}
use Rattle.mau_terms.specs.declared.ids.OpId.{OpId}
use Rattle.mau_terms.specs.declared.bare.Bare.TheVariants.{App}
use Rattle.mau_terms.specs.Norm.{all_pieces, arrange, finish, norm, holds_overflow, hold_overflow}
use Rattle.mau_terms.specs.Solution.{list_under, over_list}
use Rattle.mau_terms.specs.Lawful.{AreLawful}
use Rattle.mau_terms.specs.Bare.{TermSignature, IsBare, AreBareIn}
use Rattle.mau_terms.specs.View.{tree_of}
use Rattle.mau_terms.specs.declared.bare.Bare.{Bare}
use Rattle.mau_terms.specs.declared.theory.Theory.{Theory}
use Rattle.mau_terms.proofs.Induction.{norm-node}
use Rattle.mau_terms.proofs.Normal.{whole_all_pieces}
use Rattle.mau_terms.proofs.Pieces.{arrange_left, arrange_right}
use Rattle.mau_terms.proofs.Solutions.{list_of_made}
use Rattle.mau_terms.proofs.Taken.{are_normal}
use Rattle.mau_signature.specs.Signature.{SignatureOf, IsOperator, terms_over}
use Rattle.mau_canon.specs.Judging.{is_overflow}
use Rattle.mau_canon.proofs.Elements.{all_pieces-more}
use Rattle.mau_canon.proofs.Overflows.{some-append, hold-trees_of, holds-build, test_fails}

-- ---- lists

-- one more list
pub one_more : (c : Bool) (old ps p mid now : List Tree) → arrange c mid ≡ arrange c (old ++ ps) → arrange c now ≡ arrange c (mid ++ p) → arrange c now ≡ arrange c (old ++ (ps ++ p))
one_more c old ps p mid now before more =
    more
    ∙ sym (arrange_left c mid p)
    ∙ ap (λ w. arrange c (w ++ p)) before
    ∙ arrange_left c (old ++ ps) p
    ∙ ap (arrange c) (append_assoc old ps p)

pub or_none : (a : Bool) → (a || false) ≡ a
or_none true = refl
or_none false = refl

-- the normal forms of one more of some instances
module _ (th : ℕ → Theory) (g : Variable → Tree) (bs : List Bare) (k : ℕ) (d : Bare) (h : k < length bs) where
  norms-more : map (norm th) (map (instance g) (map tree_of (take (k + 1) bs))) ≡ map (norm th) (map (instance g) (map tree_of (take k bs))) ++ norm th (instance g (tree_of (get_or bs k d))) ∷ []
  norms-more =
      ap (λ xs. map (norm th) (map (instance g) (map tree_of xs))) (take_more bs k d h)
      ∙ ap (λ ts. map (norm th) (map (instance g) ts)) (map-append tree_of (take k bs) (get_or bs k d ∷ []))
      ∙ ap (map (norm th)) (map-append (instance g) (map tree_of (take k bs)) (tree_of (get_or bs k d) ∷ []))
      ∙ map-append (norm th) (map (instance g) (map tree_of (take k bs))) (instance g (tree_of (get_or bs k d)) ∷ [])

  pub pieces-norms-more : (f : ℕ) → all_pieces (th f).assoc (th f).id f (map (norm th) (map (instance g) (map tree_of (take (k + 1) bs)))) ≡ all_pieces (th f).assoc (th f).id f (map (norm th) (map (instance g) (map tree_of (take k bs)))) ++ list_under (th f) f (norm th (instance g (tree_of (get_or bs k d))))
  pieces-norms-more f =
      ap (all_pieces (th f).assoc (th f).id f) norms-more
      ∙ all_pieces-more (th f).assoc (th f).id f (map (norm th) (map (instance g) (map tree_of (take k bs)))) (norm th (instance g (tree_of (get_or bs k d))))

  pub hold-norms-more : hold_overflow th (trees_of (map (norm th) (map (instance g) (map tree_of (take (k + 1) bs))))) ≡ (hold_overflow th (trees_of (map (norm th) (map (instance g) (map tree_of (take k bs))))) || holds_overflow th (norm th (instance g (tree_of (get_or bs k d)))))
  hold-norms-more =
      let before = map (norm th) (map (instance g) (map tree_of (take k bs))) in
      let t = norm th (instance g (tree_of (get_or bs k d))) in
      ap (λ ts. hold_overflow th (trees_of ts)) norms-more
      ∙ hold-trees_of th (before ++ t ∷ [])
      ∙ some-append th before (t ∷ [])
      ∙ ap₂ (λ x y. x || y) (sym (hold-trees_of th before)) (or_none (holds_overflow th t))

-- ---- an operator over terms

module _ (th : ℕ → Theory) (f : ℕ) where
  -- the collected list makes the normal form
  pub norm-collected : (ts items : List Tree) → arrange (th f).comm items ≡ arrange (th f).comm ([] ++ all_pieces (th f).assoc (th f).id f (map (norm th) ts)) → over_list (th f) f items ≡ norm th (node f ts)
  norm-collected ts items e = ap (finish (th f).assoc (th f).id (th f).succ f) e ∙ sym (norm-node th f ts)

  module _ (lawful : AreLawful th) (ts : List Tree) where
    pub holds-collected : holds_overflow th (norm th (node f ts)) ≡ (hold_overflow th (trees_of (map (norm th) ts)) || is_overflow (th f).succ f (norm th (node f ts)))
    holds-collected =
        ap (holds_overflow th) (norm-node th f ts)
        ∙ holds-build th lawful f (map (norm th) ts)
        ∙ ap₂ (λ x t. x || is_overflow (th f).succ f t) (sym (hold-trees_of th (map (norm th) ts))) (sym (norm-node th f ts))

    -- the list of nested uses of an associative operator is that of the terms below, in order
    pub list_of_nested : (th f).assoc ≡ true → list_under (th f) f (norm th (node f ts)) ≡ arrange (th f).comm (all_pieces (th f).assoc (th f).id f (map (norm th) ts))
    list_of_nested a =
        ap (list_under (th f) f) (norm-node th f ts)
        ∙ list_of_made th f (all_pieces (th f).assoc (th f).id f (map (norm th) ts)) a (whole_all_pieces th f (map (norm th) ts) (are_normal th lawful ts))

    -- so it may be collected as it comes
    pub collect_nested : (th f).assoc ≡ true → (old now : List Tree) → arrange (th f).comm now ≡ arrange (th f).comm (old ++ all_pieces (th f).assoc (th f).id f (map (norm th) ts)) → arrange (th f).comm now ≡ arrange (th f).comm (old ++ list_under (th f) f (norm th (node f ts)))
    collect_nested a old now e =
        e
        ∙ sym (arrange_right (th f).comm old (all_pieces (th f).assoc (th f).id f (map (norm th) ts)))
        ∙ ap (λ w. arrange (th f).comm (old ++ w)) (sym (list_of_nested a))

    pub holds_nested : (th f).assoc ≡ true → holds_overflow th (norm th (node f ts)) ≡ hold_overflow th (trees_of (map (norm th) ts))
    holds_nested a = holds-collected ∙ by (th f).succ refl
      where
        by : (s : Bool) → (th f).succ ≡ s → (hold_overflow th (trees_of (map (norm th) ts)) || is_overflow (th f).succ f (norm th (node f ts))) ≡ hold_overflow th (trees_of (map (norm th) ts))
        by true s = let no : (th f).assoc ≡ false = lawful.succ_assoc f s in absurd (cc)
        by false s =
            ap (λ b. hold_overflow th (trees_of (map (norm th) ts)) || is_overflow b f (norm th (node f ts))) s
            ∙ ap (λ b. hold_overflow th (trees_of (map (norm th) ts)) || b) (test_fails th f (norm th (node f ts)))
            ∙ or_none (hold_overflow th (trees_of (map (norm th) ts)))
