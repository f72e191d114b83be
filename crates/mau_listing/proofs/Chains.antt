-- One more of the first solutions.
use Rattle.std.proofs.Common.{◌≡◌, List, [], ◌∷◌, ◌++◌, Bool, Option, None, Some, is_some, map, refl, sym, ap, ◌∙◌, subst}
use Rattle.std.specs.Option.{option_map}
use Rattle.std.specs.declared.cmp.Ordering.{Ordering}
use Rattle.std.proofs.lemmas.List.{map-append}
use Rattle.mau_signature.specs.Signature.{SignatureOf, theory_at}
use Rattle.mau_store.specs.Node.{Node}
use Rattle.mau_sorts.specs.HasSort.{Known}
use Rattle.mau_listing.specs.declared.solution.Solution.{Solution}
use Rattle.mau_listing.specs.Matcher.{Matcher}
use Rattle.mau_listing.specs.Question.{IsSolution}
use Rattle.mau_listing.specs.Next.{matcher_cmp, IsNext, AreNext, AreFirst, last_of}
use Rattle.mau_listing.specs.Asked.{Asked, question_in, matcher_in, BySort}

module _ (Is : Matcher → Type 0) (cmp : Matcher → Matcher → Ordering) where
  pub AreNext-more : (last : Option Matcher) (xs : List Matcher) (x : Matcher) → AreNext Is cmp last xs → IsNext Is cmp (last_of last xs) (Some x) → AreNext Is cmp last (xs ++ x ∷ [])
  AreNext-more last [] x are is = (is, tt)
  AreNext-more last (y ∷ xs) x are is = (are.0, AreNext-more (Some y) xs x are.1 is)

  -- behind these there is one, or there is none
  pub are_first : (last : Option Matcher) (xs : List Matcher) (o : Option Matcher) → AreNext Is cmp last xs → IsNext Is cmp (last_of last xs) o → AreFirst Is cmp last xs (is_some o)
  are_first last xs None are is = record { next = are; more = λ e. absurd (cc); no_more = λ e. is }
  are_first last xs (Some x) are is = record { next = are; more = λ e. (x, is); no_more = λ e. absurd (cc) }

pub last_of-more : (last : Option Matcher) (xs : List Matcher) (x : Matcher) → last_of last (xs ++ x ∷ []) ≡ Some x
last_of-more last [] x = refl
last_of-more last (y ∷ xs) x = last_of-more (Some y) xs x

pub is_some-map : {A B : Type 0} (f : A → B) (o : Option A) → is_some (option_map f o) ≡ is_some o
is_some-map f None = refl
is_some-map f (Some x) = refl

-- the solutions xs were found, the last of them over the nodes `now`, and o comes next, over the nodes `new`
module _ (c : Bool) (s : SignatureOf) (known : Known) (now new : List Node) (xs : List Solution) (same : map (matcher_in new) xs ≡ map (matcher_in now) xs) (base : Option Matcher) where
  -- it comes behind these
  pub comes_next : (Q : Asked) (a : Asked) (start : List Node) → Q ≡ a → question_in now a ≡ question_in start a → (given o : Option Solution)
      → option_map (matcher_in now) given ≡ last_of base (map (matcher_in now) xs)
      → IsNext (IsSolution c s (BySort s known) (question_in now Q)) (matcher_cmp (theory_at s) Q.pattern) (option_map (matcher_in now) given) (option_map (matcher_in new) o)
      → IsNext (IsSolution c s (BySort s known) (question_in start a)) (matcher_cmp (theory_at s) a.pattern) (last_of base (map (matcher_in new) xs)) (option_map (matcher_in new) o)
  comes_next Q a start e k given o l is =
      let one = subst (λ w. IsNext (IsSolution c s (BySort s known) (question_in now w)) (matcher_cmp (theory_at s) w.pattern) (option_map (matcher_in now) given) (option_map (matcher_in new) o)) e is in
      let two = subst (λ q. IsNext (IsSolution c s (BySort s known) q) (matcher_cmp (theory_at s) a.pattern) (option_map (matcher_in now) given) (option_map (matcher_in new) o)) k one in
      let three : option_map (matcher_in now) given ≡ last_of base (map (matcher_in new) xs) = l ∙ ap (last_of base) (sym same) in
      subst (λ last. IsNext (IsSolution c s (BySort s known) (question_in start a)) (matcher_cmp (theory_at s) a.pattern) last (option_map (matcher_in new) o)) three two

  module _ (Is : Matcher → Type 0) (cmp : Matcher → Matcher → Ordering) (are : AreNext Is cmp base (map (matcher_in now) xs)) where
    are_now : AreNext Is cmp base (map (matcher_in new) xs)
    are_now = subst (AreNext Is cmp base) (sym same) are

    pub first_now : (o : Option Solution) → IsNext Is cmp (last_of base (map (matcher_in new) xs)) (option_map (matcher_in new) o) → AreFirst Is cmp base (map (matcher_in new) xs) (is_some o)
    first_now o is = subst (AreFirst Is cmp base (map (matcher_in new) xs)) (is_some-map (matcher_in new) o) (are_first Is cmp base (map (matcher_in new) xs) (option_map (matcher_in new) o) are_now is)

    pub one_more : (ys : List Solution) (x : Solution) → ys ≡ xs ++ x ∷ [] → IsNext Is cmp (last_of base (map (matcher_in new) xs)) (Some (matcher_in new x)) → AreNext Is cmp base (map (matcher_in new) ys)
    one_more ys x e is = subst (AreNext Is cmp base) (sym (ap (map (matcher_in new)) e ∙ map-append (matcher_in new) xs (x ∷ []))) (AreNext-more Is cmp base (map (matcher_in new) xs) (matcher_in new x) are_now is)

pub last_now : (new : List Node) (xs : List Solution) (base : Option Matcher) (ys : List Solution) (x : Solution) → ys ≡ xs ++ x ∷ [] → Some (matcher_in new x) ≡ last_of base (map (matcher_in new) ys)
last_now new xs base ys x e = sym (ap (λ zs. last_of base (map (matcher_in new) zs)) e ∙ ap (last_of base) (map-append (matcher_in new) xs (x ∷ [])) ∙ last_of-more base (map (matcher_in new) xs) (matcher_in new x))
