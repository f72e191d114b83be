-- The lines of a part and its contexts.
use Rattle.std.proofs.Common.{◌≡◌, ℕ, suc, List, [], ◌∷◌, ◌++◌, length, ◌==◌, ◌&&◌, Bool, true, false, Option, None, Some, codes, if◌then◌else◌, refl, sym, ap, ap₂, ◌∙◌, append_assoc, append-nil, arith}
use Rattle.std.proofs.lemmas.Bool.{and_parts, eqb-true}
use Rattle.mau_terms.specs.Tree.{Tree}
use Rattle.mau_terms.specs.Norm.{norm}
use Rattle.mau_terms.specs.Subst.{with_values}
use Rattle.mau_terms.specs.Solution.{assoc_top}
use Rattle.mau_store.specs.Node.{Node}
use Rattle.mau_store.specs.Trees.{trees_at}
use Rattle.mau_store.specs.View.{numbers}
use Rattle.mau_listing.specs.declared.solution.Solution.{Solution}
use Rattle.mau_listing.specs.Matcher.{Matcher}
use Rattle.mau_listing.specs.Asked.{matcher_in}
use Rattle.mau_listing.proofs.Growth.{trees_long}
use Rattle.mau_module.specs.Modules.{ModuleOf}
use Rattle.mau_session.specs.Terms.{Pairs, terms_in}
use Rattle.mau_session.specs.Shown.{printer_in}
use Rattle.mau_session.specs.Answers.{is_whole, term_line, context_line, context_lines, right_label, part_lines}

pub whole_same : (nodes : List Node) (x : Solution) → is_whole (matcher_in nodes x) ≡ ((length x.left == 0) && (length x.right == 0))
whole_same nodes x = ap₂ (λ (m n : ℕ). (m == 0) && (n == 0)) (trees_long nodes x.left) (trees_long nodes x.right)

no_context_lines : (m : ModuleOf) (ns : Pairs) (o : Option ℕ) (left right vs : List Tree) → ((length left == 0) && (length right == 0)) ≡ true
    → context_lines m ns o (record { left = left; right = right; values = vs }) ≡ []
no_context_lines m ns None left right vs e = refl
no_context_lines m ns (Some f) [] [] vs e = refl
no_context_lines m ns (Some f) [] (t ∷ right) vs e = absurd (omega (arith, eqb-true (suc (length right)) 0 e))
no_context_lines m ns (Some f) (t ∷ left) right vs e = absurd (omega (arith, eqb-true (suc (length left)) 0 ((and_parts (suc (length left) == 0) (length right == 0) e).0)))

abbrev matched : List ℕ
matched = codes "Matched portion"

abbrev the_whole : List ℕ
the_whole = codes "Matched portion = (whole)\n"

-- the whole has no contexts
pub whole_lines : (m : ModuleOf) (ns : Pairs) (p : Tree) (x : Matcher) → is_whole x ≡ true → part_lines m ns true p x ≡ the_whole
whole_lines m ns p x e =
    ap₂ (λ (b : Bool) (more : List ℕ). (if b then the_whole else term_line (printer_in m) ns matched (norm (terms_in m).theory (with_values p x.values))) ++ more) e
    (no_context_lines m ns (assoc_top (terms_in m).theory (norm (terms_in m).theory p)) x.left x.right x.values e)
    ∙ append-nil the_whole

module _ (m : ModuleOf) (ns : Pairs) (p : Tree) (old new : List Node) (x : Solution) (op : ℕ) where
  abbrev portion : List ℕ
  portion = term_line (printer_in m) ns matched (norm (terms_in m).theory (with_values p (trees_at old (numbers x.values))))

  abbrev contexts : List Tree → List Tree → List ℕ
  contexts left right = context_line m ns op (codes "Left context") left ++ context_line m ns op (right_label ((terms_in m).theory op).comm) right

  -- a part is shown, and then its contexts
  pub part_written : (o a b : List ℕ) → is_whole (matcher_in old x) ≡ false → assoc_top (terms_in m).theory (norm (terms_in m).theory p) ≡ Some op
      → trees_at new (numbers x.left) ≡ trees_at old (numbers x.left) → trees_at new (numbers x.right) ≡ trees_at old (numbers x.right) → a ≡ o ++ portion
      → b ≡ a ++ contexts (trees_at new (numbers x.left)) (trees_at new (numbers x.right)) → b ≡ o ++ part_lines m ns true p (matcher_in old x)
  part_written o a b around top l r first rest =
      rest
      ∙ ap₂ (λ w z. w ++ z) first (ap₂ contexts l r)
      ∙ append_assoc o portion (contexts (trees_at old (numbers x.left)) (trees_at old (numbers x.right)))
      ∙ ap (λ w. o ++ w) (sym (ap₂ (λ (c : Bool) (t : Option ℕ). (if c then the_whole else portion) ++ context_lines m ns t (matcher_in old x)) around top))
