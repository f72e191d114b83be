-- A signature has one first fault at most, and none where it is accepted within the limit.
use Rattle.std.proofs.Common.{◌≡◌, ℕ, ◌<◌, ◌⊎◌, inl, inr, List, [], ◌∷◌, refl, sym, ◌∙◌, ap₂, subst, arith}
use Rattle.std.proofs.lemmas.Bool.{cases_order}
use Rattle.mau_poset.specs.Order.{Hierarchy}
use Rattle.mau_signature.specs.Signature.{SignatureOf}
use Rattle.mau_sigcheck.specs.declared.fault.CheckFault.{CheckFault}
use Rattle.mau_sigcheck.specs.declared.fault.CheckFault.TheVariants.{TooManyTuples, NotPreregular, NotAssociativeSorts, IdentityLowersSort, NoMemory}
use Rattle.mau_sigcheck.specs.Tuples.{AreInKinds, ComesBefore, IsFirstWithout}
use Rattle.mau_sigcheck.specs.Accepted.{IsPreregular, BracketsAgree, IsAcceptedOperator, IsAccepted, HasFewTuples, IsWithinLimit}
use Rattle.mau_sigcheck.specs.Faults.{IsReached, HasTooManyTuples, IsNotPreregular, HasNotAssociativeSorts, IsFirstLowered, HasLoweringIdentity, IsFirstFaultOf}

-- ---- the first tuple

-- two tuples of the same kinds are one, or one comes before the other
in_order : (h : Hierarchy) (ks xs ys : List ℕ) → AreInKinds h ks xs → AreInKinds h ks ys → (xs ≡ ys) ⊎ (ComesBefore xs ys ⊎ ComesBefore ys xs)
in_order h [] [] [] t u = inl refl
in_order h [] [] (b ∷ ys) t u = absurd u
in_order h [] (a ∷ xs) ys t u = absurd t
in_order h (k ∷ ks) [] ys t u = absurd t
in_order h (k ∷ ks) (a ∷ xs) [] t u = absurd u
in_order h (k ∷ ks) (a ∷ xs) (b ∷ ys) t u = by (in_order h ks xs ys t.1 u.1) (cases_order a b)
  where
    same : a ≡ b → (xs ≡ ys) ⊎ (ComesBefore xs ys ⊎ ComesBefore ys xs) → (a ∷ xs ≡ b ∷ ys) ⊎ (ComesBefore (a ∷ xs) (b ∷ ys) ⊎ ComesBefore (b ∷ ys) (a ∷ xs))
    same e (inl f) = inl (ap₂ (λ x xs. x ∷ xs) e f)
    same e (inr (inl before)) = inr (inl (inr (e, before)))
    same e (inr (inr behind)) = inr (inr (inr (sym e, behind)))

    by : (xs ≡ ys) ⊎ (ComesBefore xs ys ⊎ ComesBefore ys xs) → (a ≡ b) ⊎ ((a < b) ⊎ (b < a)) → (a ∷ xs ≡ b ∷ ys) ⊎ (ComesBefore (a ∷ xs) (b ∷ ys) ⊎ ComesBefore (b ∷ ys) (a ∷ xs))
    by rest (inl e) = same e rest
    by rest (inr (inl less)) = inr (inl (inl less))
    by rest (inr (inr more)) = inr (inr (inl more))

without_once : (h : Hierarchy) (ks : List ℕ) (P : List ℕ → Type 0) (xs ys : List ℕ) → IsFirstWithout h ks P xs → IsFirstWithout h ks P ys → xs ≡ ys
without_once h ks P xs ys f g = by (in_order h ks xs ys f.tuple g.tuple)
  where
    by : (xs ≡ ys) ⊎ (ComesBefore xs ys ⊎ ComesBefore ys xs) → xs ≡ ys
    by (inl e) = e
    by (inr (inl before)) = absurd (f.without (g.first xs f.tuple before))
    by (inr (inr behind)) = absurd (g.without (f.first ys g.tuple behind))

lowered_once : (s : SignatureOf) (n x y : ℕ) → IsFirstLowered s n x → IsFirstLowered s n y → x ≡ y
lowered_once s n x y f g = by (cases_order x y)
  where
    by : (x ≡ y) ⊎ ((x < y) ⊎ (y < x)) → x ≡ y
    by (inl e) = e
    by (inr (inl less)) = absurd (g.first x f.in_kind less f.lowers)
    by (inr (inr more)) = absurd (f.first y g.in_kind more g.lowers)

-- ---- faults of one operator

-- the operator that a fault names
number_of : CheckFault → ℕ
number_of (TooManyTuples op n) = op.0
number_of (NotPreregular op tuple) = op.0
number_of (NotAssociativeSorts op triple) = op.0
number_of (IdentityLowersSort op sort) = op.0
number_of NoMemory = 0

module _ (s : SignatureOf) where
  -- the fault is the first of the operator n
  abbrev HasFault : ℕ → CheckFault → Type 0
  HasFault n (TooManyTuples op count) = HasTooManyTuples s n count
  HasFault n (NotPreregular op tuple) = IsNotPreregular s n tuple
  HasFault n (NotAssociativeSorts op triple) = HasNotAssociativeSorts s n triple
  HasFault n (IdentityLowersSort op sort) = HasLoweringIdentity s n sort
  HasFault n NoMemory = ⊥

  parts : (f : CheckFault) → IsFirstFaultOf s f → IsReached s (number_of f) × HasFault (number_of f) f
  unfolding number_of
  parts (TooManyTuples op count) p = p
  parts (NotPreregular op tuple) p = p
  parts (NotAssociativeSorts op triple) p = p
  parts (IdentityLowersSort op sort) p = p
  parts NoMemory p = absurd p

  too_many : (n count : ℕ) → HasTooManyTuples s n count → HasFewTuples s n → ⊥
  too_many n count p few = omega (arith, p.over, few)

  not_preregular : (n : ℕ) (tuple : List ℕ) → IsNotPreregular s n tuple → IsPreregular s n → ⊥
  not_preregular n tuple p holds = p.first.without (holds tuple p.first.tuple)

  not_associative : (n : ℕ) (triple : List ℕ) → HasNotAssociativeSorts s n triple → BracketsAgree s n → ⊥
  not_associative n triple p agree = p.first.first.without (agree p.first.associative triple p.first.first.tuple)

  -- an operator with a fault has too many tuples, or is not accepted
  refused : (n : ℕ) (f : CheckFault) → HasFault n f → HasFewTuples s n → IsAcceptedOperator s n → ⊥
  refused n (TooManyTuples op count) p few accepted = too_many n count p few
  refused n (NotPreregular op tuple) p few accepted = not_preregular n tuple p accepted.preregular
  refused n (NotAssociativeSorts op triple) p few accepted = not_associative n triple p accepted.associative
  refused n (IdentityLowersSort op sort) p few accepted = accepted.identity sort p.first.in_kind p.first.lowers
  refused n NoMemory p few accepted = absurd p

  once_at : (n : ℕ) (f g : CheckFault) → HasFault n f → HasFault n g → number_of f ≡ number_of g → f ≡ g
  unfolding number_of
  once_at n (TooManyTuples op count) (TooManyTuples op' count') p q e = ap₂ (λ o c. TooManyTuples (record { 0 = o }) c) e (p.counted ∙ sym q.counted)
  once_at n (TooManyTuples op count) (NotPreregular op' tuple') p q e = absurd (too_many n count p q.few)
  once_at n (TooManyTuples op count) (NotAssociativeSorts op' triple') p q e = absurd (too_many n count p q.few)
  once_at n (TooManyTuples op count) (IdentityLowersSort op' sort') p q e = absurd (too_many n count p q.few)
  once_at n (TooManyTuples op count) NoMemory p q e = absurd q
  once_at n (NotPreregular op tuple) (TooManyTuples op' count') p q e = absurd (too_many n count' q p.few)
  once_at n (NotPreregular op tuple) (NotPreregular op' tuple') p q e = ap₂ (λ o t. NotPreregular (record { 0 = o }) t) e (without_once _ _ _ tuple tuple' p.first q.first)
  once_at n (NotPreregular op tuple) (NotAssociativeSorts op' triple') p q e = absurd (not_preregular n tuple p q.preregular)
  once_at n (NotPreregular op tuple) (IdentityLowersSort op' sort') p q e = absurd (not_preregular n tuple p q.preregular)
  once_at n (NotPreregular op tuple) NoMemory p q e = absurd q
  once_at n (NotAssociativeSorts op triple) (TooManyTuples op' count') p q e = absurd (too_many n count' q p.few)
  once_at n (NotAssociativeSorts op triple) (NotPreregular op' tuple') p q e = absurd (not_preregular n tuple' q p.preregular)
  once_at n (NotAssociativeSorts op triple) (NotAssociativeSorts op' triple') p q e = ap₂ (λ o t. NotAssociativeSorts (record { 0 = o }) t) e (without_once _ _ _ triple triple' p.first.first q.first.first)
  once_at n (NotAssociativeSorts op triple) (IdentityLowersSort op' sort') p q e = absurd (not_associative n triple p q.associative)
  once_at n (NotAssociativeSorts op triple) NoMemory p q e = absurd q
  once_at n (IdentityLowersSort op sort) (TooManyTuples op' count') p q e = absurd (too_many n count' q p.few)
  once_at n (IdentityLowersSort op sort) (NotPreregular op' tuple') p q e = absurd (not_preregular n tuple' q p.preregular)
  once_at n (IdentityLowersSort op sort) (NotAssociativeSorts op' triple') p q e = absurd (not_associative n triple' q p.associative)
  once_at n (IdentityLowersSort op sort) (IdentityLowersSort op' sort') p q e = ap₂ (λ o x. IdentityLowersSort (record { 0 = o }) x) e (lowered_once s n sort sort' p.first q.first)
  once_at n (IdentityLowersSort op sort) NoMemory p q e = absurd q
  once_at n NoMemory g p q e = absurd p

  -- ---- faults of a signature

  -- no operator with a fault stands before one that is reached
  not_before : (f g : CheckFault) → IsFirstFaultOf s f → IsFirstFaultOf s g → number_of f < number_of g → ⊥
  not_before f g p q less =
      let found = parts f p in
      let reached = (parts g q).0 in
      refused (number_of f) f found.1 (reached.few (number_of f) found.0.operator less) (reached.accepted (number_of f) found.0.operator less)

  same_operator : (f g : CheckFault) → IsFirstFaultOf s f → IsFirstFaultOf s g → number_of f ≡ number_of g
  same_operator f g p q = by (cases_order (number_of f) (number_of g))
    where
      by : (number_of f ≡ number_of g) ⊎ ((number_of f < number_of g) ⊎ (number_of g < number_of f)) → number_of f ≡ number_of g
      by (inl e) = e
      by (inr (inl less)) = absurd (not_before f g p q less)
      by (inr (inr more)) = absurd (not_before g f q p more)

  pub faults_once : (f g : CheckFault) → IsFirstFaultOf s f → IsFirstFaultOf s g → f ≡ g
  faults_once f g p q =
      let e = same_operator f g p q in
      once_at (number_of f) f g (parts f p).1 (subst (λ n. HasFault n g) (sym e) (parts g q).1) e

  pub accepted_no_fault : (f : CheckFault) → IsAccepted s → IsWithinLimit s → IsFirstFaultOf s f → ⊥
  accepted_no_fault f accepted within p =
      let found = parts f p in
      let operator = found.0.operator in
      refused (number_of f) f found.1 (within (number_of f) operator) (accepted.operators (number_of f) operator)
