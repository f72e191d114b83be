-- A sort that declarations give, by what is known besides, is deduced where that is.
use Rattle.std.proofs.Common.{◌≡◌, ℕ, suc, List, [], ◌∷◌, length, Bool, true, false, inl, inr, ◌⊎◌, refl, sym, ap, ◌∙◌, subst}
use Rattle.std.specs.Prelude.{Contains}
use Rattle.std.specs.Bool.{MatchBool}
use Rattle.std.proofs.lemmas.List.Elements.{All-contains}
use Rattle.mau_terms.specs.Tree.{Tree, variable, numeral, apply, Trees, no_trees, tree, trees_of, list_of}
use Rattle.mau_terms.specs.Reading.{nest, nest_from, reading, readings}
use Rattle.mau_terms.specs.Axioms.{binary, commutativity}
use Rattle.mau_terms.specs.Bare.{IsBare, IsBareIn, AreBareIn, IsLawful}
use Rattle.mau_terms.proofs.Leads.{two_bare, two_made}
use Rattle.mau_signature.specs.declared.decl.Decl.{Decl}
use Rattle.mau_signature.specs.Signature.{IsOperator, IsAlike, declarations_at, theory_at, swapped, terms_over}
use Rattle.mau_signature.proofs.Operators.{is_operator}
use Rattle.mau_sigcheck.specs.Built.{IsBuiltAndAccepted}
use Rattle.mau_sorts.specs.HasSort.{Known, IsKnown, HasSort, AllHave, ListHas, Gives, OfTwo}
use Rattle.mau_formula.specs.Operator.{Operator}
use Rattle.mau_program.specs.declared.program.Program.{Program}
use Rattle.mau_logic.specs.Deduction.{Sentence, belongs, all_belong, Holds, by_axiom, variable_has, numeral_has, operator_has, kind_has, above_has, equal_has, AllHold, none_holds, one_holds}

module _ (p : Program) (hooks : List Operator) (accepted : IsBuiltAndAccepted p.sig) (lawful : IsLawful (terms_over p.sig)) where
  -- as many sorts as trees, each that of the tree in its place
  abbrev AreOf : Trees → List ℕ → Type 0
  AreOf ts rs = (length (list_of ts) ≡ length rs) × AllHold p hooks (all_belong ts rs)

  is_comm : (f : ℕ) (d : Decl) → IsOperator p.sig f → Contains (declarations_at p.sig f) d → d.attrs.comm ≡ true → (theory_at p.sig f).comm ≡ true
  is_comm f d is among e =
      ap (λ a. a.comm) (sym (All-contains (IsAlike p.sig.hierarchy (declarations_at p.sig f)) (declarations_at p.sig f) d (accepted.declared f is).alike among).attributes) ∙ e

  two_sorts : (x y : Sentence) → AllHold p hooks (x ∷ y ∷ []) → Holds p hooks x × Holds p hooks y
  two_sorts x y (one_holds h (one_holds k none_holds)) = (h, k)

  -- under a commutative operator, by the other order
  swapped_has : (f : ℕ) (d : Decl) (ts : Trees) → Contains (declarations_at p.sig f) d → (theory_at p.sig f).comm ≡ true → IsBare (terms_over p.sig) (apply f ts) → AreOf ts (swapped d.args) → Holds p hooks (belongs (apply f ts) d.result)
  swapped_has f d ts among comm b are = two ts b are
    where
      k : ℕ
      k = (lawful.comm_kinds f comm).0

      kinds : (terms_over p.sig).arguments f ≡ k ∷ k ∷ []
      kinds = (lawful.comm_kinds f comm).1

      by : (t u : Tree) (as_ : List ℕ) → d.args ≡ as_ → IsBare (terms_over p.sig) (binary f t u) → AreOf (tree t (tree u no_trees)) (swapped as_) → Holds p hooks (belongs (binary f t u) d.result)
      by t u [] e w are = cc
      by t u (x ∷ []) e w are = cc
      by t u (x ∷ y ∷ z ∷ as_) e w are = cc
      by t u (x ∷ y ∷ []) e w are =
          let parts = two_bare (terms_over p.sig) f w.0 k k t u kinds w.1 in
          let other : IsBare (terms_over p.sig) (binary f u t) = (w.0, two_made (terms_over p.sig) f w.0 k k t u u t kinds w.1 parts.1 parts.0) in
          let have = two_sorts (belongs t y) (belongs u x) are.1 in
          equal_has (by_axiom (commutativity f u t comm) other w)
          (operator_has f d (tree u (tree t no_trees)) among other (sym (ap length e)) (subst (λ rs. AllHold p hooks (all_belong (tree u (tree t no_trees)) rs)) (sym e) (one_holds have.1 (one_holds have.0 none_holds))))

      two : (us : Trees) → IsBare (terms_over p.sig) (apply f us) → AreOf us (swapped d.args) → Holds p hooks (belongs (apply f us) d.result)
      two no_trees w are = absurd (subst (AreBareIn (terms_over p.sig) no_trees) kinds w.1.2)
      two (tree t no_trees) w are = absurd (subst (AreBareIn (terms_over p.sig) (tree t no_trees)) kinds w.1.2).1
      two (tree t (tree u no_trees)) w are = by t u d.args refl w are
      two (tree t (tree u (tree v vs))) w are = absurd (subst (AreBareIn (terms_over p.sig) (tree t (tree u (tree v vs)))) kinds w.1.2).1.1

  -- what an operator gives over terms
  gives_holds : (f : ℕ) (ts : Trees) (P : List ℕ → Type 0) (r : ℕ) → ((qs : List ℕ) → P qs → AreOf ts qs) → IsBare (terms_over p.sig) (apply f ts) → Gives p.sig f P r → Holds p hooks (belongs (apply f ts) r)
  gives_holds f ts P r are b (inr e) = kind_has (subst (IsBareIn (terms_over p.sig) (apply f ts)) (sym b.1.1 ∙ e) b.1)
  gives_holds f ts P r are b (inl d) = above_has (by d.suits) d.below
    where
      by : P d.declaration.args ⊎ ((d.declaration.attrs.comm ≡ true) × P (swapped d.declaration.args)) → Holds p hooks (belongs (apply f ts) d.declaration.result)
      by (inl h) = let a = are d.declaration.args h in operator_has f d.declaration ts d.declared b a.0 a.1
      by (inr h) = swapped_has f d.declaration ts d.declared (is_comm f d.declaration (is_operator p.sig f b.1.0) d.declared h.0) b (are (swapped d.declaration.args) h.1)

  -- a list of an associative operator, or the operator over its arguments
  over_holds : (f : ℕ) (rs : List Tree) (r : ℕ) (a : Bool) (A B : Type 0) → (IsBare (terms_over p.sig) (nest true f rs) → A → Holds p hooks (belongs (nest true f rs) r)) →
      (IsBare (terms_over p.sig) (nest false f rs) → B → Holds p hooks (belongs (nest false f rs) r)) → IsBare (terms_over p.sig) (nest a f rs) → MatchBool a A B → Holds p hooks (belongs (nest a f rs) r)
  over_holds f rs r true A B l g b h = l b h
  over_holds f rs r false A B l g b h = g b h

  module _ (known : Known) (told : (t : Tree) (r : ℕ) → Contains known (t, r) → IsBare (terms_over p.sig) (reading (theory_at p.sig) t) → Holds p hooks (belongs (reading (theory_at p.sig) t) r)) where
    known_holds : (t : Tree) (r : ℕ) → IsBare (terms_over p.sig) (reading (theory_at p.sig) t) → IsKnown p.sig.hierarchy known t r → Holds p hooks (belongs (reading (theory_at p.sig) t) r)
    known_holds t r b (q, there, low) = above_has (told t q there b) low

    two_have : (t u : Tree) (A B : ℕ → Type 0) → ((r : ℕ) → A r → Holds p hooks (belongs t r)) → ((r : ℕ) → B r → Holds p hooks (belongs u r)) → (qs : List ℕ) → OfTwo (λ a b. A a × B b) qs → AreOf (tree t (tree u no_trees)) qs
    two_have t u A B f g [] h = absurd h
    two_have t u A B f g (a ∷ []) h = absurd h
    two_have t u A B f g (a ∷ b ∷ []) h = (refl, one_holds (f a h.0) (one_holds (g b h.1) none_holds))
    two_have t u A B f g (a ∷ b ∷ c ∷ qs) h = absurd h

    first_of_two : (t u : Tree) (ks : List ℕ) → AreBareIn (terms_over p.sig) (tree t (tree u no_trees)) ks → IsBare (terms_over p.sig) t
    first_of_two t u [] b = absurd b
    first_of_two t u (k ∷ ks) b = (k, b.0)

    second_of_two : (t u : Tree) (ks : List ℕ) → AreBareIn (terms_over p.sig) (tree t (tree u no_trees)) ks → IsBare (terms_over p.sig) u
    second_of_two t u [] b = absurd b
    second_of_two t u (k ∷ []) b = absurd b.1
    second_of_two t u (k ∷ m ∷ ks) b = (m, b.1.0)

    mutual
      pub has_holds : (t : Tree) (r : ℕ) → IsBare (terms_over p.sig) (reading (theory_at p.sig) t) → HasSort p.sig known t r → Holds p hooks (belongs (reading (theory_at p.sig) t) r)
      has_holds (variable i q) r b (inl low) = above_has (variable_has i q b) low
      has_holds (variable i q) r b (inr k) = known_holds (variable i q) r b k
      has_holds (numeral n) r b (inl (q, is, low)) = above_has (numeral_has n q b is) low
      has_holds (numeral n) r b (inr k) = known_holds (numeral n) r b k
      has_holds (apply f ts) r b (inr k) = known_holds (apply f ts) r b k
      has_holds (apply f ts) r b (inl h) =
          over_holds f (readings (theory_at p.sig) ts) r (theory_at p.sig f).assoc (ListHas p.sig known f ts r) (Gives p.sig f (λ rs. AllHave p.sig known ts rs) r)
          (λ c l. list_holds f ts r c l)
          (λ c g. gives_holds f (trees_of (readings (theory_at p.sig) ts)) (λ rs. AllHave p.sig known ts rs) r (λ qs k. all_hold ts ((terms_over p.sig).arguments f) qs c.1.2 k) c g) b h

      list_holds : (f : ℕ) (ts : Trees) (r : ℕ) → IsBare (terms_over p.sig) (nest true f (readings (theory_at p.sig) ts)) → ListHas p.sig known f ts r → Holds p hooks (belongs (nest true f (readings (theory_at p.sig) ts)) r)
      list_holds f no_trees r b h = absurd h
      list_holds f (tree t no_trees) r b h = has_holds t r b h
      list_holds f (tree t (tree u us)) r b h =
          let rest = nest_from f (reading (theory_at p.sig) u) (readings (theory_at p.sig) us) in
          gives_holds f (tree (reading (theory_at p.sig) t) (tree rest no_trees)) (λ rs. OfTwo (λ a c. HasSort p.sig known t a × ListHas p.sig known f (tree u us) c) rs) r
          (two_have (reading (theory_at p.sig) t) rest (λ a. HasSort p.sig known t a) (λ c. ListHas p.sig known f (tree u us) c)
          (λ q k. has_holds t q (first_of_two (reading (theory_at p.sig) t) rest ((terms_over p.sig).arguments f) b.1.2) k)
          (λ q k. list_holds f (tree u us) q (second_of_two (reading (theory_at p.sig) t) rest ((terms_over p.sig).arguments f) b.1.2) k)) b h

      all_hold : (ts : Trees) (ks qs : List ℕ) → AreBareIn (terms_over p.sig) (trees_of (readings (theory_at p.sig) ts)) ks → AllHave p.sig known ts qs → AreOf (trees_of (readings (theory_at p.sig) ts)) qs
      all_hold no_trees ks [] b h = (refl, none_holds)
      all_hold no_trees ks (q ∷ qs) b h = absurd h
      all_hold (tree t ts) ks [] b h = absurd h
      all_hold (tree t ts) [] (q ∷ qs) b h = absurd b
      all_hold (tree t ts) (k ∷ ks) (q ∷ qs) b h = let rest = all_hold ts ks qs b.1 h.1 in (ap suc rest.0, one_holds (has_holds t q (k, b.0) h.0) rest.1)
