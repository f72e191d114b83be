-- Deduction under operators: axioms at any place, terms in contexts, operators over nested lists.
use Rattle.std.proofs.Common.{◌≡◌, ℕ, List, [], ◌∷◌, ◌++◌, Bool, true, false, ◌==◌, refl, sym, ◌∙◌, if◌then◌else◌}
use Rattle.mau_terms.specs.Tree.{Tree, variable, numeral, apply, Trees, no_trees, tree, trees_of}
use Rattle.mau_terms.specs.Reading.{nest, nest_from}
use Rattle.mau_terms.specs.Axioms.{AxiomStep, left_to_right, right_to_left, under_operator, AxiomStepIn, in_first, in_later}
use Rattle.mau_terms.specs.Bare.{TermSignature, IsBare, AreBareIn, EqualModulo, same_term, one_step}
use Rattle.mau_terms.specs.Subst.{instances}
use Rattle.mau_terms.proofs.Chains.{first_bare}
use Rattle.mau_signature.specs.Signature.{theory_at, terms_over}
use Rattle.mau_formula.specs.Operator.{Operator}
use Rattle.mau_program.specs.declared.program.Program.{Program}
use Rattle.mau_api.specs.Terms.{hole_index, filler, fill, holes, holes_in}
use Rattle.mau_logic.specs.Deduction.{Sentence, equals, between, Holds, equal_itself, equal_back, equal_onward, equal_under, by_axiom, AllHold, none_holds, one_holds}
use Rattle.mau_logic.proofs.ToldRuns.{Pairwise}

-- ---- axioms

module _ (p : Program) (hooks : List Operator) where
  itself_each : (ts : Trees) (ks : List ℕ) → AreBareIn (terms_over p.sig) ts ks → AllHold p hooks (between equals ts ts)
  itself_each no_trees ks b = none_holds
  itself_each (tree t ts) [] b = absurd b
  itself_each (tree t ts) (k ∷ ks) b = one_holds (equal_itself (k, b.0)) (itself_each ts ks b.1)

  mutual
    step_holds : (t u : Tree) → IsBare (terms_over p.sig) t → IsBare (terms_over p.sig) u → AxiomStep (theory_at p.sig) t u → Holds p hooks (equals t u)
    step_holds t u bt bu (left_to_right x) = by_axiom x bt bu
    step_holds t u bt bu (right_to_left x) = equal_back (by_axiom x bu bt)
    step_holds _ _ bt bu (under_operator f {ts = ts} {us = us} x) = equal_under f ts us bt bu (steps_hold ts us ((terms_over p.sig).arguments f) bt.1.2 bu.1.2 x)

    steps_hold : (ts us : Trees) (ks : List ℕ) → AreBareIn (terms_over p.sig) ts ks → AreBareIn (terms_over p.sig) us ks → AxiomStepIn (theory_at p.sig) ts us → AllHold p hooks (between equals ts us)
    steps_hold _ _ [] b c (in_first ts x) = absurd b
    steps_hold _ _ (k ∷ ks) b c (in_first {t = t} {u = u} ts x) = one_holds (step_holds t u (k, b.0) (k, c.0) x) (itself_each ts ks b.1)
    steps_hold _ _ [] b c (in_later t x) = absurd b
    steps_hold _ _ (k ∷ ks) b c (in_later t {ts = ts} {us = us} x) = one_holds (equal_itself (k, b.0)) (steps_hold ts us ks b.1 c.1 x)

  -- terms that are equal modulo the axioms are equal
  pub modulo : {t u : Tree} → EqualModulo (terms_over p.sig) t u → Holds p hooks (equals t u)
  modulo (same_term b) = equal_itself b
  modulo (one_step {t = t} {u = u} b x q) = equal_onward (step_holds t u b (first_bare q) x) (modulo q)

  -- ---- under operators, for what holds of each term and itself and goes up

  module _ (R : Tree → Tree → Sentence) (itself : (t : Tree) → IsBare (terms_over p.sig) t → Holds p hooks (R t t))
      (goes_up : (f : ℕ) (ts us : Trees) → IsBare (terms_over p.sig) (apply f ts) → IsBare (terms_over p.sig) (apply f us) → AllHold p hooks (between R ts us) → Holds p hooks (R (apply f ts) (apply f us)))
    where
      module _ (v w : Tree) (h : Holds p hooks (R v w)) where
        mutual
          pub context_holds : (c : Tree) → IsBare (terms_over p.sig) (fill c v) → IsBare (terms_over p.sig) (fill c w) → Holds p hooks (R (fill c v) (fill c w))
          context_holds (variable i r) b d = by (i == hole_index) b d
            where
              by : (o : Bool) → IsBare (terms_over p.sig) (if o then v else variable i r) → IsBare (terms_over p.sig) (if o then w else variable i r) → Holds p hooks (R (if o then v else variable i r) (if o then w else variable i r))
              by true x y = h
              by false x y = itself (variable i r) x
          context_holds (numeral n) b d = itself (numeral n) b
          context_holds (apply f cs) b d = goes_up f (instances (filler v) cs) (instances (filler w) cs) b d (contexts_hold cs ((terms_over p.sig).arguments f) b.1.2 d.1.2)

          contexts_hold : (cs : Trees) (ks : List ℕ) → AreBareIn (terms_over p.sig) (instances (filler v) cs) ks → AreBareIn (terms_over p.sig) (instances (filler w) cs) ks →
              AllHold p hooks (between R (instances (filler v) cs) (instances (filler w) cs))
          contexts_hold no_trees ks b d = none_holds
          contexts_hold (tree c cs) [] b d = absurd b
          contexts_hold (tree c cs) (k ∷ ks) b d = one_holds (context_holds c (k, b.0) (k, d.0)) (contexts_hold cs ks b.1 d.1)

      second_bare : (t u : Tree) (ks : List ℕ) → AreBareIn (terms_over p.sig) (tree t (tree u no_trees)) ks → IsBare (terms_over p.sig) u
      second_bare t u [] b = absurd b
      second_bare t u (k ∷ []) b = absurd b.1
      second_bare t u (k ∷ m ∷ ks) b = (m, b.1.0)

      from_holds : (f : ℕ) (t u : Tree) (ts us : List Tree) → Pairwise (λ x y. Holds p hooks (R x y)) (t ∷ ts) (u ∷ us) →
          IsBare (terms_over p.sig) (nest_from f t ts) → IsBare (terms_over p.sig) (nest_from f u us) → Holds p hooks (R (nest_from f t ts) (nest_from f u us))
      from_holds f t u [] [] h b d = h.0
      from_holds f t u [] (u' ∷ us) h b d = absurd h.1
      from_holds f t u (t' ∷ ts) [] h b d = absurd h.1
      from_holds f t u (t' ∷ ts) (u' ∷ us) h b d =
          goes_up f (tree t (tree (nest_from f t' ts) no_trees)) (tree u (tree (nest_from f u' us) no_trees)) b d
          (one_holds h.0 (one_holds (from_holds f t' u' ts us h.1 (second_bare t (nest_from f t' ts) ((terms_over p.sig).arguments f) b.1.2) (second_bare u (nest_from f u' us) ((terms_over p.sig).arguments f) d.1.2)) none_holds))

      each_holds : (ts us : List Tree) → Pairwise (λ x y. Holds p hooks (R x y)) ts us → AllHold p hooks (between R (trees_of ts) (trees_of us))
      each_holds [] [] h = none_holds
      each_holds [] (u ∷ us) h = absurd h
      each_holds (t ∷ ts) [] h = absurd h
      each_holds (t ∷ ts) (u ∷ us) h = one_holds h.0 (each_holds ts us h.1)

      pub nest_holds : (f : ℕ) (a : Bool) (ts us : List Tree) → Pairwise (λ x y. Holds p hooks (R x y)) ts us →
          IsBare (terms_over p.sig) (nest a f ts) → IsBare (terms_over p.sig) (nest a f us) → Holds p hooks (R (nest a f ts) (nest a f us))
      nest_holds f true [] [] h b d = itself (apply f no_trees) b
      nest_holds f true [] (u ∷ us) h b d = absurd h
      nest_holds f true (t ∷ ts) [] h b d = absurd h
      nest_holds f true (t ∷ ts) (u ∷ us) h b d = from_holds f t u ts us h b d
      nest_holds f false ts us h b d = goes_up f (trees_of ts) (trees_of us) b d (each_holds ts us h)

-- ---- what stands in a hole of a bare term is bare

module _ (s : TermSignature) (u : Tree) where
  mutual
    pub part_bare : (c : Tree) → (holes c ≡ [] → ⊥) → IsBare s (fill c u) → IsBare s u
    part_bare (variable i r) some b = by (i == hole_index) some b
      where
        by : (o : Bool) → ((if o then r ∷ [] else []) ≡ [] → ⊥) → IsBare s (if o then u else variable i r) → IsBare s u
        by true h v = v
        by false h v = absurd (h refl)
    part_bare (numeral n) some b = absurd (some refl)
    part_bare (apply f cs) some b = one_bare cs (s.arguments f) some b.1.2

    one_bare : (cs : Trees) (ks : List ℕ) → (holes_in cs ≡ [] → ⊥) → AreBareIn s (instances (filler u) cs) ks → IsBare s u
    one_bare no_trees ks some b = absurd (some refl)
    one_bare (tree c cs) [] some b = absurd b
    one_bare (tree c cs) (k ∷ ks) some b = by (holes c) (λ h. part_bare c h (k, b.0)) (λ h. one_bare cs ks h b.1) refl some
      where
        by : (hs : List ℕ) → ((holes c ≡ [] → ⊥) → IsBare s u) → ((holes_in cs ≡ [] → ⊥) → IsBare s u) → holes c ≡ hs → (hs ++ holes_in cs ≡ [] → ⊥) → IsBare s u
        by [] first later e h = later h
        by (m ∷ ms) first later e h = first (λ q. differ (sym e ∙ q))
          where
            differ : m ∷ ms ≡ [] → ⊥
            differ d = cc
