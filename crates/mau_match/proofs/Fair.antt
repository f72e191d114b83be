-- Bare instances are fair.
use Rattle.std.proofs.Common.{◌≡◌, ℕ, suc, List, [], ◌∷◌, length, true, None, inl, inr, refl, sym, ◌∙◌, ap}
use Rattle.mau_terms.specs.Tree.{Tree, variable, numeral, apply, Trees, no_trees, tree}
use Rattle.mau_terms.specs.Norm.{norm, norms}
use Rattle.mau_terms.specs.Bare.{TermSignature, IsBareIn, AreBareIn, IsBare, IsLawful}
use Rattle.mau_terms.specs.Subst.{Variable, instance, instances}
use Rattle.mau_terms.specs.Solution.{list_under}
use Rattle.mau_terms.specs.Finite.{IsIn}
use Rattle.mau_match.specs.Parts.{IsFairAt, IsFair, AreFair}
use Rattle.mau_domains.proofs.TakenLists.{bare_filled}

module _ (s : TermSignature) (lawful : IsLawful s) where
  pub filled : (t : Tree) → IsBare s t → (f : ℕ) → (s.theory f).assoc ≡ true → (s.theory f).id ≡ None → list_under (s.theory f) f (norm s.theory t) ≡ [] → ⊥
  filled t b f a n e = bare_filled s lawful f a t b n e

  as_long : (ts : Trees) (ks : List ℕ) → AreBareIn s ts ks → length (norms s.theory ts) ≡ length ks
  as_long no_trees [] b = refl
  as_long no_trees (k ∷ ks) b = absurd b
  as_long (tree t ts) [] b = absurd b
  as_long (tree t ts) (k ∷ ks) b = ap suc (as_long ts ks b.1)

  all_filled : (ts : Trees) (ks : List ℕ) → AreBareIn s ts ks → (f : ℕ) → (s.theory f).assoc ≡ true → (s.theory f).id ≡ None → (z : Tree) → IsIn z (norms s.theory ts) → list_under (s.theory f) f z ≡ [] → ⊥
  all_filled no_trees ks b f a n z h e = h
  all_filled (tree t ts) [] b f a n z h e = b
  all_filled (tree t ts) (k ∷ ks) b f a n z (inl h) e = filled t (k, b.0) f a n (ap (list_under (s.theory f) f) (sym h) ∙ e)
  all_filled (tree t ts) (k ∷ ks) b f a n z (inr h) e = all_filled ts ks b.1 f a n z h e

  fair_at : (f : ℕ) (ts : Trees) → AreBareIn s ts (s.arguments f) → IsFairAt s.theory f (norms s.theory ts)
  fair_at f ts b = record {
    two_by_unit = λ i u. as_long ts (s.arguments f) b ∙ ap length (lawful.unit_kinds f i u).0;
    two_by_assoc = λ a. as_long ts (s.arguments f) b ∙ ap length (lawful.assoc_kinds f a);
    filled = λ a n z h e. all_filled ts (s.arguments f) b f a n z h e;
  }

  mutual
    pub bare_fair : (g : Variable → Tree) (p : Tree) (k : ℕ) → IsBareIn s (instance g p) k → IsFair s.theory g p
    bare_fair g (variable i r) k b = tt
    bare_fair g (numeral n) k b = tt
    bare_fair g (apply f ps) k b = (fair_at f (instances g ps) b.2, bare_fairs g ps (s.arguments f) b.2)

    bare_fairs : (g : Variable → Tree) (ps : Trees) (ks : List ℕ) → AreBareIn s (instances g ps) ks → AreFair s.theory g ps
    bare_fairs g no_trees ks b = tt
    bare_fairs g (tree p ps) [] b = absurd b
    bare_fairs g (tree p ps) (k ∷ ks) b = (bare_fair g p k b.0, bare_fairs g ps ks b.1)
