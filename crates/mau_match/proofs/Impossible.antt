-- What a test refuses is never so: elements of lists that are known and those that are not.
use Rattle.std.proofs.Common.{◌≡◌, ℕ, List, ◌++◌, Bool, true, false, Some, None, refl, sym, ◌∙◌, ap, subst, append_assoc}
use Rattle.mau_terms.specs.Tree.{Tree, Trees}
use Rattle.mau_terms.specs.Order.{sort_trees}
use Rattle.mau_terms.specs.Norm.{all_pieces, norm, norms}
use Rattle.mau_terms.specs.Lawful.{AreLawful}
use Rattle.mau_terms.specs.Subst.{Variable, has_variable, instances}
use Rattle.mau_terms.specs.declared.theory.Theory.{Theory}
use Rattle.mau_domains.specs.Parts.{Reach, inside, Reaches}
use Rattle.mau_domains.proofs.Reached.{more_left, past}
use Rattle.mau_match.specs.Parts.{known_in, without_all}
use Rattle.mau_match.specs.Possible.{frees}
use Rattle.mau_match.proofs.Removal.{more_right, cancel_left, is_without_all, LessAll}
use Rattle.mau_match.proofs.KnownElements.{frees_known}

-- what is not false where something would be impossible, is true
pub not_false : (b : Bool) → (b ≡ false → ⊥) → b ≡ true
not_false true h = refl
not_false false h = absurd (h refl)

-- ---- parts of lists

pub reaches_left : (xs ys us : List Tree) → Reaches true inside (xs ++ ys) us → Reaches true inside xs us
reaches_left xs ys us h = record {
  left = h.left;
  right = ys ++ h.right;
  leaves = tt;
  all = ap (λ w. sort_trees (h.left ++ w)) (sym (append_assoc xs ys h.right)) ∙ h.all;
}

pub reaches_right : (xs ys us : List Tree) → Reaches true inside (xs ++ ys) us → Reaches true inside ys us
reaches_right xs ys us h = record {
  left = h.left ++ xs;
  right = h.right;
  leaves = tt;
  all = ap sort_trees (append_assoc h.left xs (ys ++ h.right) ∙ ap (λ w. h.left ++ w) (sym (append_assoc xs ys h.right))) ∙ h.all;
}

-- a part in order is a part in any order
pub any_order : (c : Bool) (r : Reach) (xs ts : List Tree) → Reaches c r xs ts → Reaches true r xs ts
any_order true r xs ts h = h
any_order false r xs ts h = record { left = h.left; right = h.right; leaves = h.leaves; all = ap sort_trees h.all }

-- ---- without what is known

module _ (th : ℕ → Theory) (bound : List Variable) (g gg : Variable → Tree) (x : Variable) (agree : (y : Variable) → has_variable bound y ≡ true → norm th (g y) ≡ norm th (gg y)) (lawful : AreLawful th) (f : ℕ) (a : (th f).assoc ≡ true) (ps : Trees) where
  abbrev joined : List Tree
  joined = all_pieces (th f).assoc (th f).id f (norms th (instances gg ps))

  mixed : (r : Reach) (ts : List Tree) → (h : Reaches true r (all_pieces (th f).assoc (th f).id f (norms th (instances gg ps))) ts) → sort_trees (known_in th bound g x f ps ++ (h.left ++ (frees th bound gg f ps ++ h.right))) ≡ sort_trees ts
  mixed r ts h =
      let ks = known_in th bound g x f ps in
      let fs = frees th bound gg f ps in
      sym (
      more_right h.left (joined ++ h.right) (ks ++ (fs ++ h.right))
      (more_left joined (ks ++ fs) h.right (frees_known th bound g gg x agree lawful f a ps) ∙ ap sort_trees (append_assoc ks fs h.right))
      ∙ past h.left ks (fs ++ h.right))
      ∙ h.all

  -- what is not known is such a part of the other items
  pub free_part : (r : Reach) (ts us : List Tree) → without_all (known_in th bound g x f ps) ts ≡ Some us → Reaches true r (all_pieces (th f).assoc (th f).id f (norms th (instances gg ps))) ts → Reaches true r (frees th bound gg f ps) us
  free_part r ts us e h =
      let ks = known_in th bound g x f ps in
      let left : sort_trees (ks ++ us) ≡ sort_trees ts = subst (LessAll ks ts) e (is_without_all ks ts) in
      record {
        left = h.left;
        right = h.right;
        leaves = h.leaves;
        all = cancel_left ks (h.left ++ (frees th bound gg f ps ++ h.right)) us (mixed r ts h ∙ sym left);
      }

  -- what is known is among the items
  pub known_there : (r : Reach) (ts : List Tree) → without_all (known_in th bound g x f ps) ts ≡ None → Reaches true r (all_pieces (th f).assoc (th f).id f (norms th (instances gg ps))) ts → ⊥
  known_there r ts e h =
      let ks = known_in th bound g x f ps in
      let none : LessAll ks ts None = subst (LessAll ks ts) e (is_without_all ks ts) in
      none (h.left ++ (frees th bound gg f ps ++ h.right)) (mixed r ts h)
