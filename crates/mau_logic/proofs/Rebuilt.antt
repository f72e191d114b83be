-- A normal form as an operator over its arguments, and the operator over other arguments of the same kinds.
use Rattle.std.proofs.Common.{◌≡◌, ℕ, suc, ◌≤◌, List, [], ◌∷◌, length, map, Bool, true, false, ◌&&◌, Option, Some, None, refl, sym, ap, ap₂, ◌∙◌, subst, arith, if◌then◌else◌}
use Rattle.std.specs.Prelude.{All, nat_lt}
use Rattle.std.proofs.lemmas.Bool.{le-ltb}
use Rattle.std.proofs.lemmas.List.Elements.{All-nil, All-cons, All-head, All-tail}
use Rattle.mau_terms.specs.Tree.{Tree, apply, no_trees, node, trees_of}
use Rattle.mau_terms.specs.Norm.{norm, build, finish}
use Rattle.mau_terms.specs.Reading.{nest, nest_from, reading}
use Rattle.mau_terms.specs.Bare.{IsBare, IsBareIn, AreBareIn, IsLawful, EqualModulo, same_term}
use Rattle.mau_terms.proofs.Induction.{norm-node}
use Rattle.mau_terms.proofs.Law.{norm_equal}
use Rattle.mau_terms.proofs.Leads.{two_bare, two_made}
use Rattle.mau_terms.proofs.Normal.{IsNormal, each_normal, normal_fixed}
use Rattle.mau_terms.proofs.Pieces.{Each, list_of-trees_of}
use Rattle.mau_terms.proofs.Solutions.{length-map}
use Rattle.mau_terms.proofs.Wholes.{not_alone, norm-reading, reading_top}
use Rattle.mau_signature.specs.Signature.{SignatureOf, IsOperator, theory_at, terms_over}
use Rattle.mau_signature.proofs.Operators.{is_operator}
use Rattle.mau_canon.specs.Within.{IsWithin}
use Rattle.mau_canon.proofs.Depths.{arguments_are_within}
use Rattle.mau_canon.proofs.Nesting.{readings_each}
use Rattle.mau_canon.proofs.Standing.{list_stands_for_nested}
use Rattle.mau_formula.specs.Operator.{Operator}
use Rattle.mau_program.specs.declared.program.Program.{Program}
use Rattle.mau_api.specs.Terms.{IsNormalTerm}
use Rattle.mau_logic.specs.Lines.{over}
use Rattle.mau_logic.specs.Justified.{With}
use Rattle.mau_logic.specs.Derivable.{IsLed}
use Rattle.mau_built_ins.proofs.NormalTerms.{read_bare, normal_of, read_norm}
use Rattle.mau_built_ins.proofs.Arguments.{reading_over, arguments_normal}
use Rattle.mau_logic.proofs.ToldRuns.{Pairwise}

-- ---- an operator over some terms

pub over_some : (s : SignatureOf) (f : ℕ) (rs : List Tree) → ((theory_at s f).assoc ≡ true → 2 ≤ length rs) → over s f rs ≡ Some (nest (theory_at s f).assoc f rs)
over_some s f rs many = by (theory_at s f).assoc many
  where
    by : (a : Bool) → (a ≡ true → 2 ≤ length rs) → (if a && nat_lt (length rs) 2 then None else Some (nest a f rs)) ≡ Some (nest a f rs)
    by true h = ap (λ b. if b then None else Some (nest true f rs)) (le-ltb (length rs) 2 (h refl))
    by false h = refl

pub with_some : {A : Type 0} (o : Option A) (x : A) (P : A → Type 0) → o ≡ Some x → P x → With o P
with_some o x P e h = subst (λ q. With q P) (sym e) h

module _ (s : SignatureOf) (lawful : IsLawful (terms_over s)) where
  -- an associative operator stands over two terms or more
  none_nested : (f k : ℕ) → (theory_at s f).assoc ≡ true → IsBareIn (terms_over s) (nest true f []) k → ⊥
  none_nested f k a b = subst (AreBareIn (terms_over s) no_trees) (lawful.assoc_kinds f a) b.2

  pub two_or_more : (f : ℕ) (ts : List Tree) → IsNormal (theory_at s) (apply f (trees_of ts)) → IsBare (terms_over s) (reading (theory_at s) (apply f (trees_of ts))) → (theory_at s f).assoc ≡ true → 2 ≤ length ts
  two_or_more f [] n b a = absurd (none_nested f b.0 a (subst (λ c. IsBareIn (terms_over s) (nest c f []) b.0) a b.1))
  two_or_more f (t ∷ []) n b a = absurd (not_alone (theory_at s f).id (theory_at s f).succ f t (subst (λ c. finish c (theory_at s f).id (theory_at s f).succ f (t ∷ []) ≡ node f (t ∷ [])) a n.1.long))
  two_or_more f (t ∷ u ∷ ts) n b a = omega arith

  -- the operator over the arguments of a normal form, read as bare terms, is its reading
  pub over_readings : (f : ℕ) (ts : List Tree) → IsNormal (theory_at s) (apply f (trees_of ts)) → IsBare (terms_over s) (reading (theory_at s) (apply f (trees_of ts))) →
      over s f (map (reading (theory_at s)) ts) ≡ Some (reading (theory_at s) (apply f (trees_of ts)))
  over_readings f ts n b =
      over_some s f (map (reading (theory_at s)) ts) (λ a. subst (λ m. 2 ≤ m) (sym (length-map (reading (theory_at s)) ts)) (two_or_more f ts n b a)) ∙ ap Some (sym (reading_over s lawful f ts))

  -- ---- other terms of the same kinds in the place of some

  abbrev pub AreAlike : List Tree → List Tree → Type 0
  AreAlike rs qs = Pairwise (λ r q. (k : ℕ) → IsBareIn (terms_over s) r k → IsBareIn (terms_over s) q k) rs qs

  alike_from : (f : ℕ) → (theory_at s f).assoc ≡ true → (r q : Tree) (rs qs : List Tree) → AreAlike (r ∷ rs) (q ∷ qs) → (k : ℕ) → IsBareIn (terms_over s) (nest_from f r rs) k → IsBareIn (terms_over s) (nest_from f q qs) k
  alike_from f a r q [] [] h k b = h.0 k b
  alike_from f a r q [] (q' ∷ qs) h k b = absurd h.1
  alike_from f a r q (r' ∷ rs) [] h k b = absurd h.1
  alike_from f a r q (r' ∷ rs) (q' ∷ qs) h k b =
      let d = (terms_over s).result f in
      let parts = two_bare (terms_over s) f k d d r (nest_from f r' rs) (lawful.assoc_kinds f a) b in
      two_made (terms_over s) f k d d r (nest_from f r' rs) q (nest_from f q' qs) (lawful.assoc_kinds f a) b (h.0 d parts.0) (alike_from f a r' q' rs qs h.1 d parts.1)

  alike_each : (rs qs : List Tree) (ks : List ℕ) → AreAlike rs qs → AreBareIn (terms_over s) (trees_of rs) ks → AreBareIn (terms_over s) (trees_of qs) ks
  alike_each [] [] ks h b = b
  alike_each [] (q ∷ qs) ks h b = absurd h
  alike_each (r ∷ rs) [] ks h b = absurd h
  alike_each (r ∷ rs) (q ∷ qs) [] h b = absurd b
  alike_each (r ∷ rs) (q ∷ qs) (k ∷ ks) h b = (h.0 k b.0, alike_each rs qs ks h.1 b.1)

  pub nest_alike : (f : ℕ) (a : Bool) → (theory_at s f).assoc ≡ a → (rs qs : List Tree) → AreAlike rs qs → (k : ℕ) → IsBareIn (terms_over s) (nest a f rs) k → IsBareIn (terms_over s) (nest a f qs) k
  nest_alike f true a [] [] h k b = b
  nest_alike f true a [] (q ∷ qs) h k b = absurd h
  nest_alike f true a (r ∷ rs) [] h k b = absurd h
  nest_alike f true a (r ∷ rs) (q ∷ qs) h k b = alike_from f a r q rs qs h k b
  nest_alike f false a rs qs h k b = (b.0, b.1, alike_each rs qs ((terms_over s).arguments f) h b.2)

module _ (p : Program) (hooks : List Operator) (lawful : IsLawful (terms_over p.sig)) where
  same_length : (r : Bool) (ts us : List Tree) → Pairwise (IsLed p hooks r) ts us → length ts ≡ length us
  same_length r [] [] h = refl
  same_length r [] (u ∷ us) h = absurd h
  same_length r (t ∷ ts) [] h = absurd h
  same_length r (t ∷ ts) (u ∷ us) h = ap suc (same_length r ts us h.1)

  led_alike : (r : Bool) (ts us : List Tree) → Pairwise (IsLed p hooks r) ts us → AreAlike p.sig lawful (map (reading (theory_at p.sig)) ts) (map (reading (theory_at p.sig)) us)
  led_alike r [] [] h = tt
  led_alike r [] (u ∷ us) h = absurd h
  led_alike r (t ∷ ts) [] h = absurd h
  led_alike r (t ∷ ts) (u ∷ us) h = ((h.0).same_kind, led_alike r ts us h.1)

  ends_norms : (r : Bool) (ts us : List Tree) → Pairwise (IsLed p hooks r) ts us → map (norm (theory_at p.sig)) (map (reading (theory_at p.sig)) us) ≡ us
  ends_norms r [] [] h = refl
  ends_norms r [] (u ∷ us) h = absurd h
  ends_norms r (t ∷ ts) [] h = absurd h
  ends_norms r (t ∷ ts) (u ∷ us) h = ap₂ (λ v vs. v ∷ vs) (read_norm p.sig lawful u (h.0).to) (ends_norms r ts us h.1)

  ends_own : (r : Bool) (ts us : List Tree) → Pairwise (IsLed p hooks r) ts us → map (norm (theory_at p.sig)) us ≡ us
  ends_own r [] [] h = refl
  ends_own r [] (u ∷ us) h = absurd h
  ends_own r (t ∷ ts) [] h = absurd h
  ends_own r (t ∷ ts) (u ∷ us) h = ap₂ (λ v vs. v ∷ vs) (h.0).to.normal (ends_own r ts us h.1)

  pub arguments : (f : ℕ) (ts : List Tree) → IsNormalTerm p.sig (apply f (trees_of ts)) → Pairwise (λ t u. IsNormalTerm p.sig t) ts ts
  arguments f ts n = pairs ts (arguments_normal p.sig lawful f ts n)
    where
      pairs : (us : List Tree) → Each (IsNormalTerm p.sig) us → Pairwise (λ t u. IsNormalTerm p.sig t) us us
      pairs [] h = tt
      pairs (u ∷ us) h = (h.0, pairs us h.1)

  pub rebuilt : (r : Bool) (f : ℕ) (ts us : List Tree) → IsNormalTerm p.sig (apply f (trees_of ts)) → IsNormalTerm p.sig (build (theory_at p.sig f) f us) → Pairwise (IsLed p hooks r) ts us →
      IsOperator p.sig f × With (over p.sig f (map (reading (theory_at p.sig)) ts)) (EqualModulo (terms_over p.sig) (reading (theory_at p.sig) (apply f (trees_of ts))))
      × With (over p.sig f (map (reading (theory_at p.sig)) us)) (λ v. EqualModulo (terms_over p.sig) v (reading (theory_at p.sig) (build (theory_at p.sig f) f us)))
      × ((k : ℕ) → IsBareIn (terms_over p.sig) (reading (theory_at p.sig) (apply f (trees_of ts))) k → IsBareIn (terms_over p.sig) (reading (theory_at p.sig) (build (theory_at p.sig f) f us)) k)
  rebuilt r f ts us n m h =
      let T = terms_over p.sig in
      let normal = normal_of p.sig lawful (apply f (trees_of ts)) n in
      let whole : Tree = nest (theory_at p.sig f).assoc f (map (reading (theory_at p.sig)) us) in
      let alike = λ (k : ℕ) (b : IsBareIn (terms_over p.sig) (reading (theory_at p.sig) (apply f (trees_of ts))) k).
      nest_alike p.sig lawful f (theory_at p.sig f).assoc refl (map (reading (theory_at p.sig)) ts) (map (reading (theory_at p.sig)) us) (led_alike r ts us h) k (subst (λ t. IsBareIn (terms_over p.sig) t k) (reading_over p.sig lawful f ts) b) in
      let norms : norm (theory_at p.sig) whole ≡ build (theory_at p.sig f) f us =
      sym (list_stands_for_nested (theory_at p.sig) lawful.theories f (map (reading (theory_at p.sig)) us))
      ∙ ap (λ vs. norm (theory_at p.sig) (node f vs)) (ends_norms r ts us h)
      ∙ norm-node (theory_at p.sig) f us
      ∙ ap (build (theory_at p.sig f) f) (ends_own r ts us h) in
      let many = λ (a : (theory_at p.sig f).assoc ≡ true). subst (λ l. 2 ≤ l) (same_length r ts us h ∙ sym (length-map (reading (theory_at p.sig)) us)) (two_or_more p.sig lawful f ts normal n.term.0 a) in (
        is_operator p.sig f (reading_top (terms_over p.sig) f (trees_of ts) n.term.0.0 normal n.term.0.1).0,
        with_some (over p.sig f (map (reading (theory_at p.sig)) ts)) (reading (theory_at p.sig) (apply f (trees_of ts))) (EqualModulo (terms_over p.sig) (reading (theory_at p.sig) (apply f (trees_of ts))))
            (over_readings p.sig lawful f ts normal n.term.0) (same_term n.term.0),
        with_some (over p.sig f (map (reading (theory_at p.sig)) us)) whole (λ v. EqualModulo (terms_over p.sig) v (reading (theory_at p.sig) (build (theory_at p.sig f) f us)))
            (over_some p.sig f (map (reading (theory_at p.sig)) us) many)
            (norm_equal (terms_over p.sig) lawful whole (reading (theory_at p.sig) (build (theory_at p.sig f) f us)) (n.term.0.0, alike n.term.0.0 n.term.0.1) m.term.0
            (norms ∙ sym (read_norm p.sig lawful (build (theory_at p.sig f) f us) m))),
        λ k b. subst (λ t. IsBareIn (terms_over p.sig) (reading (theory_at p.sig) t) k) norms (read_bare p.sig lawful whole k (alike k b)),
      )
