-- A solution of a widened pattern whose contexts are wide enough is one with contexts, whatever tells the sorts.
use Rattle.std.proofs.Common.{◌≡◌, ◌≤◌, ◌+◌, ◌⊎◌, ℕ, suc, List, [], ◌∷◌, ◌++◌, length, Bool, true, false, inl, inr, refl, sym, ◌∙◌, ap, ap₂, subst, arith}
use Rattle.mau_terms.specs.Tree.{Tree}
use Rattle.mau_terms.specs.Norm.{norm}
use Rattle.mau_terms.specs.Bare.{IsLawful}
use Rattle.mau_terms.specs.Subst.{Variable, variables, with_values}
use Rattle.mau_terms.specs.Solution.{list_under, places}
use Rattle.mau_terms.proofs.Normal.{norm-norm}
use Rattle.mau_terms.proofs.Solutions.{length-map}
use Rattle.mau_terms.proofs.Ties.{places_length}
use Rattle.mau_signature.specs.Signature.{SignatureOf, theory_at, terms_over}
use Rattle.mau_listing.specs.Question.{Question, IsWhole, IsPart}
use Rattle.mau_listing.specs.Matcher.{Matcher}
use Rattle.mau_extend.specs.Widened.{around, context_list, widened_question, CanBeWidened, IsNarrowed, IsWide}
use Rattle.mau_extend.proofs.Widened.{lacks, variables_widened}
use Rattle.mau_extend.proofs.Around.{IsAround, around_is}
use Rattle.mau_extend.proofs.Narrowing.{narrow, long_of}

-- ---- lists

module _ {A : Type 0} where
  same_ends : (xs ys : List A) (a b : A) → xs ++ a ∷ [] ≡ ys ++ b ∷ [] → (xs ≡ ys) × (a ≡ b)
  same_ends [] [] a b e = (refl, let k : a ≡ b = cc in k)
  same_ends [] (y ∷ []) a b e = cc
  same_ends [] (y ∷ z ∷ ys) a b e = cc
  same_ends (x ∷ []) [] a b e = cc
  same_ends (x ∷ z ∷ xs) [] a b e = cc
  same_ends (x ∷ xs) (y ∷ ys) a b e =
      let rest = same_ends xs ys a b (let k : xs ++ a ∷ [] ≡ ys ++ b ∷ [] = cc in k) in
      let head : x ≡ y = cc in
      (ap₂ (λ z zs. z ∷ zs) head rest.0, rest.1)

  pub record AreSame (h k : Bool) (l l' : A) (vs vs' : List A) (r r' : A) : Type 0 where
    pub first : h ≡ true → l ≡ l'
    pub middle : vs ≡ vs'
    pub last : k ≡ true → r ≡ r'

  pub same_around : (h k : Bool) (l l' : A) (vs vs' : List A) (r r' : A) → around h k l vs r ≡ around h k l' vs' r' → AreSame h k l l' vs vs' r r'
  same_around false false l l' vs vs' r r' e = record { first = λ d. cc; middle = e; last = λ d. cc }
  same_around false true l l' vs vs' r r' e = let d = same_ends vs vs' r r' e in record { first = λ d. cc; middle = d.0; last = λ c. d.1 }
  same_around true false l l' vs vs' r r' e =
      let head : l ≡ l' = cc in
      let rest : vs ≡ vs' = cc in
      record { first = λ d. head; middle = rest; last = λ d. cc }
  same_around true true l l' vs vs' r r' e =
      let head : l ≡ l' = cc in
      let rest : vs ++ r ∷ [] ≡ vs' ++ r' ∷ [] = cc in
      let d = same_ends vs vs' r r' rest in
      record { first = λ c. head; middle = d.0; last = λ c. d.1 }

module _ {A B : Type 0} where
  ends_long : (xs : List A) (a : A) (ys : List B) (b : B) → length (xs ++ a ∷ []) ≡ length (ys ++ b ∷ []) → length xs ≡ length ys
  ends_long [] a [] b e = refl
  ends_long [] a (y ∷ []) b e = cc
  ends_long [] a (y ∷ z ∷ ys) b e = cc
  ends_long (x ∷ []) a [] b e = cc
  ends_long (x ∷ z ∷ xs) a [] b e = cc
  ends_long (x ∷ xs) a (y ∷ ys) b e = ap suc (ends_long xs a ys b (let k : length (xs ++ a ∷ []) ≡ length (ys ++ b ∷ []) = cc in k))

  pub around_long_back : (h k : Bool) (a : A) (xs : List A) (b : A) (c : B) (ys : List B) (d : B) → length (around h k a xs b) ≡ length (around h k c ys d) → length xs ≡ length ys
  around_long_back false false a xs b c ys d e = e
  around_long_back false true a xs b c ys d e = ends_long xs b ys d e
  around_long_back true false a xs b c ys d e = let k : length xs ≡ length ys = cc in k
  around_long_back true true a xs b c ys d e = ends_long xs b ys d (let k : length (xs ++ b ∷ []) ≡ length (ys ++ d ∷ []) = cc in k)

-- ---- one solution

module _ (s : SignatureOf) (lawful : IsLawful (terms_over s)) (P : ℕ → Tree → Type 0) (q : Question) (normal : norm (theory_at s) q.subject ≡ q.subject) (h k : Bool) (f : ℕ) (a b : Variable) (can : CanBeWidened s q h f a b) where
  module _ (y x : Matcher) (solves : IsWhole s P (widened_question h k f a b q) y) (is : IsNarrowed h k (theory_at s f) f y x) where
    names_long : length x.values ≡ length (variables q.pattern)
    names_long =
        around_long_back h k is.left x.values is.right a (variables q.pattern) b
        (sym (ap length is.values) ∙ sym (ap length solves.values) ∙ length-map (norm (theory_at s)) solves.bare ∙ solves.solves.0.one_each
        ∙ ap (λ xs. length xs) (variables_widened f a b q.pattern (lacks q.pattern a can.first.free) can.last.free can.apart h k))

    pub narrow_long : length x.values ≡ length (places (theory_at s) q.pattern)
    narrow_long = names_long ∙ sym (places_length (theory_at s) q.pattern)

    pub left_is : x.left ≡ context_list h (theory_at s f) f is.left
    left_is = ap (λ (z : Matcher). z.left) is.same

    pub right_is : x.right ≡ context_list k (theory_at s f) f is.right
    right_is = ap (λ (z : Matcher). z.right) is.same

    left_norm : h ≡ true → norm (theory_at s) is.left ≡ is.left
    left_norm e =
        let split : IsAround (norm (theory_at s)) h k is.left x.values is.right solves.bare = around_is (norm (theory_at s)) h k is.left x.values is.right solves.bare q.pattern (solves.values ∙ is.values) in
        ap (norm (theory_at s)) (sym (split.at_first e)) ∙ norm-norm (theory_at s) lawful.theories split.first ∙ split.at_first e

    pub own_left_key : h ≡ true → list_under (theory_at s f) f (norm (theory_at s) is.left) ≡ x.left
    own_left_key e = ap (list_under (theory_at s f) f) (left_norm e) ∙ sym (left_is ∙ ap (λ c. context_list c (theory_at s f) f is.left) e)

    pub own_no_left : h ≡ false → x.left ≡ []
    own_no_left e = left_is ∙ ap (λ c. context_list c (theory_at s f) f is.left) e

    -- a wide one is a solution with contexts
    pub narrow_solves : IsWide (theory_at s f) f q.subject x → IsPart s P q x
    narrow_solves w =
        let m = list_under (theory_at s f) f (norm (theory_at s) (with_values q.pattern x.values)) in
        let e : length (list_under (theory_at s f) f q.subject) ≡ length (context_list h (theory_at s f) f is.left) + (length m + length (context_list k (theory_at s f) f is.right)) =
        long_of s lawful P q h k f a b can normal y solves is.left x.values is.right is.values names_long in
        let l : length x.left ≡ length (context_list h (theory_at s f) f is.left) = ap length left_is in
        let r : length x.right ≡ length (context_list k (theory_at s f) f is.right) = ap length right_is in
        subst (IsPart s P q) (sym is.same)
        (narrow s lawful P q h k f a b can y solves is.left x.values is.right is.values names_long (by w e l r))
      where
        none : (ts : List Tree) → length ts ≡ 0 → ts ≡ []
        none [] e = refl
        none (t ∷ ts) e = cc

        by : IsWide (theory_at s f) f q.subject x
            → length (list_under (theory_at s f) f q.subject) ≡ length (context_list h (theory_at s f) f is.left) + (length (list_under (theory_at s f) f (norm (theory_at s) (with_values q.pattern x.values))) + length (context_list k (theory_at s f) f is.right))
            → length x.left ≡ length (context_list h (theory_at s f) f is.left) → length x.right ≡ length (context_list k (theory_at s f) f is.right)
            → (2 ≤ length (list_under (theory_at s f) f (norm (theory_at s) (with_values q.pattern x.values)))) ⊎ ((context_list h (theory_at s f) f is.left ≡ []) × (context_list k (theory_at s f) f is.right ≡ []))
        by (inl z) e l r = inr (none (context_list h (theory_at s f) f is.left) (omega (arith, z, l, r)), none (context_list k (theory_at s f) f is.right) (omega (arith, z, l, r)))
        by (inr z) e l r = inl (omega (arith, z, e, l, r))
