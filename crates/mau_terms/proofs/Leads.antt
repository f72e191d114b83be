-- Ways that lead from bare terms to bare terms of the same kind.
use Rattle.std.proofs.Common.{◌≡◌, ℕ, ◌+◌, ◌<◌, List, [], ◌∷◌, true, Some, sym, subst, arith}
use Rattle.mau_terms.specs.Tree.{Tree, numeral, apply, Trees, no_trees, tree}
use Rattle.mau_terms.specs.Norm.{greatest_numeral, unit_tree}
use Rattle.mau_terms.specs.Axioms.{binary, associativity, commutativity, left_identity, right_identity, successor_of_numeral, left_to_right, right_to_left}
use Rattle.mau_terms.specs.Bare.{TermSignature, IsBareIn, AreBareIn, IsLawful}
use Rattle.mau_terms.specs.declared.theory.Identity.{Identity}
use Rattle.mau_terms.proofs.Chains.{Chain, stop, go, ChainIn, chain_end, chain_trans, chain_in_trans, chain_here, chain_there, chain_below}

abbrev pub Leads : TermSignature → ℕ → Tree → Tree → Type 0
Leads s k t u = IsBareIn s t k → Chain s k t u

abbrev pub LeadsIn : TermSignature → List ℕ → Trees → Trees → Type 0
LeadsIn s ks ts us = AreBareIn s ts ks → ChainIn s ks ts us

module _ (s : TermSignature) where
  pub stays : (k : ℕ) (t : Tree) → Leads s k t t
  stays k t b = stop b

  pub same : (k : ℕ) (t u : Tree) → t ≡ u → Leads s k t u
  same k t u e = subst (λ v. Leads s k t v) e (stays k t)

  pub onward : (k : ℕ) (t u v : Tree) → Leads s k t u → Leads s k u v → Leads s k t v
  onward k t u v p q b = let c = p b in chain_trans c (q (chain_end c))

  pub two_bare : (f k m n : ℕ) (t u : Tree) → s.arguments f ≡ m ∷ n ∷ [] → IsBareIn s (binary f t u) k → IsBareIn s t m × IsBareIn s u n
  two_bare f k m n t u e b =
      let bs : AreBareIn s (tree t (tree u no_trees)) (m ∷ n ∷ []) = subst (AreBareIn s (tree t (tree u no_trees))) e b.2 in
      (bs.0, bs.1.0)

  pub two_made : (f k m n : ℕ) (t u v w : Tree) → s.arguments f ≡ m ∷ n ∷ [] → IsBareIn s (binary f t u) k → IsBareIn s v m → IsBareIn s w n → IsBareIn s (binary f v w) k
  two_made f k m n t u v w e b bv bw = (b.0, b.1, subst (AreBareIn s (tree v (tree w no_trees))) (sym e) (bv, (bw, tt)))

  pub below_two : (f k m n : ℕ) (t u v w : Tree) → s.arguments f ≡ m ∷ n ∷ [] → Leads s m t v → Leads s n u w → Leads s k (binary f t u) (binary f v w)
  below_two f k m n t u v w e p q b =
      let bs = two_bare f k m n t u e b in
      let c1 : ChainIn s (m ∷ n ∷ []) (tree t (tree u no_trees)) (tree v (tree u no_trees)) = chain_here (tree u no_trees) (bs.1, tt) (p bs.0) in
      let c2 : ChainIn s (m ∷ n ∷ []) (tree v (tree u no_trees)) (tree v (tree w no_trees)) = chain_there v (chain_end (p bs.0)) (chain_here no_trees tt (q bs.1)) in
      chain_below f b.0 b.1 (subst (λ ks. ChainIn s ks (tree t (tree u no_trees)) (tree v (tree w no_trees))) (sym e) (chain_in_trans c1 c2))

  module _ (lawful : IsLawful s) where
    -- ---- one axiom

    pub to_right : (f k : ℕ) (t u v : Tree) → (s.theory f).assoc ≡ true → Leads s k (binary f (binary f t u) v) (binary f t (binary f u v))
    to_right f k t u v e b =
        let r = s.result f in
        let a = lawful.assoc_kinds f e in
        let outer = two_bare f k r r (binary f t u) v a b in
        let inner = two_bare f r r r t u a outer.0 in
        let b' : IsBareIn s (binary f t (binary f u v)) k = two_made f k r r (binary f t u) v t (binary f u v) a b inner.0 (two_made f r r r t u u v a outer.0 inner.1 outer.1) in
        go b (left_to_right (associativity f t u v e)) (stop b')

    pub to_left : (f k : ℕ) (t u v : Tree) → (s.theory f).assoc ≡ true → Leads s k (binary f t (binary f u v)) (binary f (binary f t u) v)
    to_left f k t u v e b =
        let r = s.result f in
        let a = lawful.assoc_kinds f e in
        let outer = two_bare f k r r t (binary f u v) a b in
        let inner = two_bare f r r r u v a outer.1 in
        let b' : IsBareIn s (binary f (binary f t u) v) k = two_made f k r r t (binary f u v) (binary f t u) v a b (two_made f r r r u v t u a outer.1 outer.0 inner.0) inner.1 in
        go b (right_to_left (associativity f t u v e)) (stop b')

    pub across : (f k : ℕ) (t u : Tree) → (s.theory f).comm ≡ true → Leads s k (binary f t u) (binary f u t)
    across f k t u e b =
        let c = lawful.comm_kinds f e in
        let bs = two_bare f k c.0 c.0 t u c.1 b in
        go b (left_to_right (commutativity f t u e)) (stop (two_made f k c.0 c.0 t u u t c.1 b bs.1 bs.0))

    pub drop_left : (f k : ℕ) (i : Identity) (t : Tree) → (s.theory f).id ≡ Some i → Leads s k (binary f (unit_tree i) t) t
    drop_left f k i t e b =
        let r = s.result f in
        let bs = two_bare f k r r (unit_tree i) t ((lawful.unit_kinds f i e).0) b in
        go b (left_to_right (left_identity f i t e)) (stop (subst (λ q. IsBareIn s t q) b.1 bs.1))

    pub drop_right : (f k : ℕ) (i : Identity) (t : Tree) → (s.theory f).id ≡ Some i → Leads s k (binary f t (unit_tree i)) t
    drop_right f k i t e b =
        let r = s.result f in
        let bs = two_bare f k r r t (unit_tree i) ((lawful.unit_kinds f i e).0) b in
        go b (left_to_right (right_identity f i t e)) (stop (subst (λ q. IsBareIn s t q) b.1 bs.0))

    pub count_up : (f k n : ℕ) → (s.theory f).succ ≡ true → n < greatest_numeral → Leads s k (apply f (tree (numeral n) no_trees)) (numeral (n + 1))
    count_up f k n e h b =
        let m : s.numerals ≡ Some k = subst (λ q. s.numerals ≡ Some q) b.1 ((lawful.succ_kinds f e).1) in
        go b (left_to_right (successor_of_numeral f n e h)) (stop (omega arith, m))
