-- Where a variable has another name at some places of a pattern, with the same value, instances are the same.
use Rattle.std.proofs.Common.{◌≡◌, ◌<◌, ◌^◌, ℕ, List, [], ◌∷◌, Bool, true, false, inl, inr, if◌then◌else◌, refl, sym, ◌∙◌, ap, ap₂, subst}
use Rattle.std.proofs.lemmas.Bool.{or_parts}
use Rattle.mau_terms.specs.Tree.{Tree, variable, numeral, apply, Trees, no_trees, tree}
use Rattle.mau_terms.specs.Bare.{TermSignature, IsBareIn, AreBareIn}
use Rattle.mau_terms.specs.Norm.{norm, norms}
use Rattle.mau_terms.specs.Subst.{Variable, same_variable, has_variable, instance, instances}
use Rattle.mau_terms.specs.declared.theory.Theory.{Theory}
use Rattle.mau_terms.proofs.Variables.{same_itself, same-is}
use Rattle.mau_match.specs.Parts.{occurs, occurs_among, IsFairAt, IsFair, AreFair}
use Rattle.mau_match.specs.Hidden.{IsHidden, AreHidden}

-- the same values, where y has that of x
abbrev pub with_other : Variable → Variable → (Variable → Tree) → Variable → Tree
with_other x y gg z = if same_variable z y then gg x else gg z

module _ (x y : Variable) (gg : Variable → Tree) where
  mutual
    pub same_instance : (p u : Tree) → occurs y p ≡ false → IsHidden x y p u → instance (with_other x y gg) u ≡ instance gg p
    same_instance (variable i s) u n (inl e) = ap (instance (with_other x y gg)) e ∙ ap (λ b. if b then gg x else gg (i, s)) n
    same_instance (variable i s) u n (inr h) = ap (instance (with_other x y gg)) h.1 ∙ ap (λ b. if b then gg x else gg (y.0, y.1)) (same_itself y) ∙ ap gg (sym h.0)
    same_instance (numeral k) u n e = ap (instance (with_other x y gg)) e
    same_instance (apply f ts) u n h = ap (instance (with_other x y gg)) h.1 ∙ ap (apply f) (same_instances ts h.0 n h.2)

    pub same_instances : (ps us : Trees) → occurs_among y ps ≡ false → AreHidden x y ps us → instances (with_other x y gg) us ≡ instances gg ps
    same_instances no_trees us n e = ap (instances (with_other x y gg)) e
    same_instances (tree p ps) us n h =
        let k = or_parts (occurs y p) (occurs_among y ps) n in
        ap (instances (with_other x y gg)) h.2 ∙ ap₂ tree (same_instance p h.0 k.0 h.3) (same_instances ps h.1 k.1 h.4)

  module _ (th : ℕ → Theory) where
    mutual
      pub fair_hidden : (p u : Tree) → occurs y p ≡ false → IsHidden x y p u → IsFair th gg p → IsFair th (with_other x y gg) u
      fair_hidden (variable i s) u n (inl e) fair = subst (IsFair th (with_other x y gg)) (sym e) tt
      fair_hidden (variable i s) u n (inr h) fair = subst (IsFair th (with_other x y gg)) (sym h.1) tt
      fair_hidden (numeral k) u n e fair = subst (IsFair th (with_other x y gg)) (sym e) tt
      fair_hidden (apply f ts) u n h fair =
          subst (IsFair th (with_other x y gg)) (sym h.1)
          (subst (λ us. IsFairAt th f (norms th us)) (sym (same_instances ts h.0 n h.2)) fair.0, are_fair_hidden ts h.0 n h.2 fair.1)

      pub are_fair_hidden : (ps us : Trees) → occurs_among y ps ≡ false → AreHidden x y ps us → AreFair th gg ps → AreFair th (with_other x y gg) us
      are_fair_hidden no_trees us n e fair = subst (AreFair th (with_other x y gg)) (sym e) tt
      are_fair_hidden (tree p ps) us n h fair =
          let k = or_parts (occurs y p) (occurs_among y ps) n in
          subst (AreFair th (with_other x y gg)) (sym h.2) (fair_hidden p h.0 k.0 h.3 fair.0, are_fair_hidden ps h.1 k.1 h.4 fair.1)

-- what is bare stays so
module _ (s : TermSignature) (x y : Variable) (small : y.0 < 2 ^ 32) (sort : x.1 ≡ y.1) where
  mutual
    pub bare_hidden : (p u : Tree) (k : ℕ) → IsHidden x y p u → IsBareIn s p k → IsBareIn s u k
    bare_hidden (variable i r) u k (inl e) b = subst (λ w. IsBareIn s w k) (sym e) b
    bare_hidden (variable i r) u k (inr h) b =
        let same : r ≡ y.1 = ap (λ (v : Variable). v.1) h.0 ∙ sort in
        subst (λ w. IsBareIn s w k) (sym h.1) (small, subst (λ q. s.has_sort q ≡ true) same b.1, subst (λ q. s.kind_of q ≡ k) same b.2)
    bare_hidden (numeral n) u k e b = subst (λ w. IsBareIn s w k) (sym e) b
    bare_hidden (apply f ts) u k h b = subst (λ w. IsBareIn s w k) (sym h.1) (b.0, b.1, are_bare_hidden ts h.0 (s.arguments f) h.2 b.2)

    pub are_bare_hidden : (ps us : Trees) (ks : List ℕ) → AreHidden x y ps us → AreBareIn s ps ks → AreBareIn s us ks
    are_bare_hidden no_trees us [] e b = subst (λ w. AreBareIn s w []) (sym e) tt
    are_bare_hidden no_trees us (k ∷ ks) e b = absurd b
    are_bare_hidden (tree p ps) us [] h b = absurd b
    are_bare_hidden (tree p ps) us (k ∷ ks) h b = subst (λ w. AreBareIn s w (k ∷ ks)) (sym h.2) (bare_hidden p h.0 k h.3 b.0, are_bare_hidden ps h.1 ks h.4 b.1)

-- values that agree still agree
pub agrees_hidden : (th : ℕ → Theory) (bound : List Variable) (g gg : Variable → Tree) (x y : Variable) → has_variable bound y ≡ false → ((z : Variable) → has_variable bound z ≡ true → norm th (g z) ≡ norm th (gg z)) → (z : Variable) → has_variable bound z ≡ true → norm th (g z) ≡ norm th (with_other x y gg z)
agrees_hidden th bound g gg x y n agree z h = by (same_variable z y) refl
  where
    by : (b : Bool) → same_variable z y ≡ b → norm th (g z) ≡ norm th (if b then gg x else gg z)
    by true e = let k : true ≡ false = sym h ∙ ap (has_variable bound) (same-is z y e) ∙ n in absurd (cc)
    by false e = agree z h
