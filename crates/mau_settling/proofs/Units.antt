-- The identities of a signature, as terms and in their order.
use Rattle.std.proofs.Common.{◌≡◌, ◌<◌, ◌+◌, ◌-◌, ◌⊎◌, inl, inr, ℕ, zero, suc, List, [], ◌∷◌, ◌++◌, Bool, true, false, ◌&&◌, ◌||◌, Option, Some, None, All, length, refl, sym, ap, ◌∙◌, subst, arith, lit≤, append-nil}
use Rattle.std.proofs.lemmas.Grind.{flat_map-append}
use Rattle.std.specs.List.{flat_map, range_with_len}
use Rattle.std.proofs.lemmas.Bool.{cases_eq, cases_lt}
use Rattle.std.proofs.lemmas.List.{get_or_past}
use Rattle.std.proofs.lemmas.List.Elements.{All-nil, All-cons, All-head, All-tail}
use Rattle.mau_terms.specs.Tree.{Tree, apply, no_trees}
use Rattle.mau_terms.specs.Norm.{unit_tree}
use Rattle.mau_terms.specs.Bare.{IsLawful, IsBareIn}
use Rattle.mau_terms.specs.Reading.{reading, nest}
use Rattle.mau_terms.specs.Finite.{IsIn, units_of}
use Rattle.mau_terms.specs.declared.ids.TermId.{TermId}
use Rattle.mau_terms.specs.declared.theory.Identity.{Identity}
use Rattle.mau_terms.specs.declared.theory.Identity.TheVariants.{Const, Num}
use Rattle.mau_terms.proofs.Normal.{normal_fixed, unit_normal}
use Rattle.mau_terms.proofs.Finite.{in_left, in_right}
use Rattle.mau_signature.specs.Signature.{SignatureOf, theory_at, theory_of, terms_over}
use Rattle.mau_store.specs.Node.{Node, IsOf}
use Rattle.mau_store.specs.Trees.{tree_at}
use Rattle.mau_canon.specs.Within.{IsWithin}
use Rattle.mau_sorts.specs.Table.{Table}
use Rattle.mau_listing.specs.Asked.{IsTreeSettled}
use Rattle.mau_api.specs.Programs.{identities_of}
use Rattle.mau_api.specs.Terms.{IsTerm, IsNormalBare}
use Rattle.mau_settling.specs.Beginning.{AreIdentitiesSettled, IdentityIs}

-- ---- one identity

module _ (s : SignatureOf) (lawful : IsLawful (terms_over s)) where
  unit_reading : (f : ℕ) (i : Identity) → (theory_at s f).id ≡ Some i → reading (theory_at s) (unit_tree i) ≡ unit_tree i
  unit_reading f (Num n) e = refl
  unit_reading f (Const c) e = by (theory_at s c.0).assoc refl
    where
      by : (a : Bool) → (theory_at s c.0).assoc ≡ a → nest a c.0 [] ≡ apply c.0 no_trees
      by true a = refl
      by false a = refl

  pub unit_bare : (f : ℕ) (i : Identity) → (theory_at s f).id ≡ Some i → IsNormalBare s (unit_tree i)
  unit_bare f i e = (
    normal_fixed (theory_at s) (unit_tree i) (unit_normal (theory_at s) lawful.theories f i e),
    ((terms_over s).result f, subst (λ t. IsBareIn (terms_over s) t ((terms_over s).result f)) (sym (unit_reading f i e)) (lawful.unit_kinds f i e).1),
  )

  unit_within : (i : Identity) → IsWithin (theory_at s) (unit_tree i)
  unit_within (Num n) = record { shallow = lit≤ tt; no_overflow = refl }
  unit_within (Const c) = record { shallow = lit≤ tt; no_overflow = by (theory_at s c.0).succ }
    where
      by : (b : Bool) → ((b && false) || false) ≡ false
      by true = refl
      by false = refl

  pub unit_term : (nodes : List Node) (k f : ℕ) (i : Identity) → (theory_at s f).id ≡ Some i → IsOf nodes k → tree_at nodes k ≡ unit_tree i → IsTerm s nodes k
  unit_term nodes k f i e there tree =
      let bare = subst (IsNormalBare s) (sym tree) (unit_bare f i e) in
      record { within = record { there = there; normal = bare.0; within = subst (IsWithin (theory_at s)) (sym tree) (unit_within i) }; bare = bare.1 }

-- an identity that was found, and one that there is not
pub some_is : (s : SignatureOf) (nodes : List Node) (f : ℕ) (o : Option TermId) (id : TermId) → o ≡ Some id → IdentityIs s nodes f o → (units_of (theory_at s f).id ≡ tree_at nodes id.0 ∷ []) × IsTerm s nodes id.0
some_is s nodes f o id e h = subst (IdentityIs s nodes f) e h

pub none_is : (s : SignatureOf) (nodes : List Node) (f : ℕ) (o : Option TermId) → o ≡ None → IdentityIs s nodes f o → units_of (theory_at s f).id ≡ []
none_is s nodes f o e h = subst (IdentityIs s nodes f) e h

-- ---- all identities

-- an identity is that of an operator that is declared
declared_identity : (s : SignatureOf) (f : ℕ) (i : Identity) → (theory_at s f).id ≡ Some i → (g : ℕ) × (0 < g) × (g < 1 + length s.declarations) × ((theory_at s g).id ≡ Some i)
declared_identity s zero i e = elim (cases_lt 0 (length s.declarations)) [
  | inl low ↦ (1, omega arith, omega (arith, low), e)
  | inr high ↦ let none : None ≡ Some i = sym (ap (λ ds. (theory_of s.hierarchy s.names ds).id) (get_or_past s.declarations (0 - 1) [] (omega (arith, high)))) ∙ e in absurd (cc)
]
declared_identity s (suc k) i e = elim (cases_lt k (length s.declarations)) [
  | inl low ↦ (suc k, omega arith, omega (arith, low), e)
  | inr high ↦ let none : None ≡ Some i = sym (ap (λ ds. (theory_of s.hierarchy s.names ds).id) (get_or_past s.declarations (suc k - 1) [] (omega (arith, high)))) ∙ e in absurd (cc)
]

in_either : (t : Tree) (xs ys : List Tree) → IsIn t (xs ++ ys) → IsIn t xs ⊎ IsIn t ys
in_either t [] ys h = inr h
in_either t (x ∷ xs) ys (inl e) = inl (inl e)
in_either t (x ∷ xs) ys (inr h) = elim (in_either t xs ys h) [ inl k ↦ inl (inr k) | inr k ↦ inr k ]

module _ (F : ℕ → List Tree) where
  in_range : (n a g : ℕ) (t : Tree) → a < g + 1 → g < a + n → IsIn t (F g) → IsIn t (flat_map F (range_with_len a n))
  in_range zero a g t l h i = absurd (omega (arith, l, h))
  in_range (suc n) a g t l h i = elim (cases_eq a g) [
    | inl e ↦ in_left t (F a) _ (subst (λ k. IsIn t (F k)) (sym e) i)
    | inr e ↦ in_right t (F a) _ (in_range n (a + 1) g t (omega (arith, l, e)) (omega (arith, h)) i)
  ]

  of_range : (n a : ℕ) (t : Tree) → IsIn t (flat_map F (range_with_len a n)) → (g : ℕ) × IsIn t (F g)
  of_range zero a t i = absurd i
  of_range (suc n) a t i = elim (in_either t (F a) _ i) [ inl h ↦ (a, h) | inr h ↦ of_range n (a + 1) t h ]

unit_in : (o : Option Identity) (i : Identity) → o ≡ Some i → IsIn (unit_tree i) (units_of o)
unit_in None i e = cc
unit_in (Some j) i e = let same : i ≡ j = cc in inl (ap unit_tree same)

unit_of : (o : Option Identity) (t : Tree) → IsIn t (units_of o) → (i : Identity) × (o ≡ Some i) × (t ≡ unit_tree i)
unit_of None t h = absurd h
unit_of (Some i) t (inl e) = (i, refl, e)
unit_of (Some i) t (inr h) = absurd h

module _ (s : SignatureOf) where
  abbrev units_at : ℕ → List Tree
  units_at f = units_of (theory_at s f).id

  pub identity_in : (f : ℕ) (i : Identity) → (theory_at s f).id ≡ Some i → IsIn (unit_tree i) (identities_of s)
  identity_in f i e =
      let g = declared_identity s f i e in
      in_range units_at (length s.declarations) 1 g.0 (unit_tree i) (omega (arith, g.1)) g.2 (unit_in (theory_at s g.0).id i g.3)

  pub identity_of : (t : Tree) → IsIn t (identities_of s) → (f : ℕ) × (i : Identity) × ((theory_at s f).id ≡ Some i) × (t ≡ unit_tree i)
  identity_of t h =
      let g = of_range units_at (length s.declarations) 1 t h in
      let u = unit_of (theory_at s g.0).id t g.1 in
      (g.0, u.0, u.1, u.2)

  all_one : (P : Tree → Type 0) (ts : List Tree) → All P ts → (t : Tree) → IsIn t ts → P t
  all_one P [] all t h = absurd h
  all_one P (u ∷ ts) all t (inl e) = subst P (sym e) (All-head P u ts all)
  all_one P (u ∷ ts) all t (inr h) = all_one P ts (All-tail P u ts all) t h

  -- the identities are settled where each of their list is
  pub identities_settled : (nodes : List Node) (table : Table) → All (IsTreeSettled nodes table) (identities_of s) → AreIdentitiesSettled s nodes table
  identities_settled nodes table all f i e = all_one (IsTreeSettled nodes table) (identities_of s) all (unit_tree i) (identity_in f i e)

  all_from : (P : Tree → Type 0) (ts : List Tree) → ((t : Tree) → IsIn t ts → P t) → All P ts
  all_from P [] h = All-nil P
  all_from P (u ∷ ts) h = All-cons P u ts (h u (inl refl)) (all_from P ts (λ t i. h t (inr i)))

  pub each_settled : (nodes : List Node) (table : Table) → AreIdentitiesSettled s nodes table → All (IsTreeSettled nodes table) (identities_of s)
  each_settled nodes table h = all_from (IsTreeSettled nodes table) (identities_of s) (λ t i. let z = identity_of t i in subst (IsTreeSettled nodes table) (sym z.3) (h z.0 z.1 z.2))

  pub identities_bare : IsLawful (terms_over s) → All (IsNormalBare s) (identities_of s)
  identities_bare lawful = all_from (IsNormalBare s) (identities_of s) (λ t i. let z = identity_of t i in subst (IsNormalBare s) (sym z.3) (unit_bare s lawful z.0 z.1 z.2))

-- one operator more
range_more : (a m : ℕ) → range_with_len a (suc m) ≡ range_with_len a m ++ (a + m) ∷ []
range_more a zero = ap (λ b. b ∷ []) (omega arith)
range_more a (suc m) = ap (λ zs. a ∷ zs) (range_more (a + 1) m ∙ ap (λ b. range_with_len (a + 1) m ++ b ∷ []) (omega arith))

flat_more : (F : ℕ → List Tree) (n k : ℕ) → k ≡ n + 1 → flat_map F (range_with_len 1 k) ≡ flat_map F (range_with_len 1 n) ++ F (n + 1)
flat_more F n k e =
    let next : k ≡ suc n = omega (arith, e) in
    let last : 1 + n ≡ n + 1 = omega arith in
    ap (λ m. flat_map F (range_with_len 1 m)) next
    ∙ (ap (flat_map F) (range_more 1 n) ∙ (flat_map-append F (range_with_len 1 n) ((1 + n) ∷ []) ∙ ap (λ us. flat_map F (range_with_len 1 n) ++ us) (append-nil (F (1 + n)) ∙ ap F last)))

pub units_more : (s : SignatureOf) (n k : ℕ) → k ≡ n + 1 → flat_map (λ f. units_of (theory_at s f).id) (range_with_len 1 k) ≡ flat_map (λ f. units_of (theory_at s f).id) (range_with_len 1 n) ++ units_of (theory_at s (n + 1)).id
units_more s n k e = flat_more (λ f. units_of (theory_at s f).id) n k e
