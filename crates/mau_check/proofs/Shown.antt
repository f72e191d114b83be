-- Facts in use, by the numbers of their terms.
use Rattle.std.proofs.Common.{◌≡◌, ◌↔◌, ℕ, zero, suc, ◌<◌, ◌==◌, List, [], ◌∷◌, ◌++◌, length, map, Bool, true, false, not, ◌&&◌, ◌||◌, ◌⊎◌, inl, inr, Option, Some, None, refl, sym, ap, ap₂, ◌∙◌, subst, arith, eq-eqb, take, get_or}
use Rattle.std.specs.Prelude.{Contains, All, slice_index_or}
use Rattle.std.specs.List.{AllZip, list_any}
use Rattle.std.proofs.lemmas.Bool.{eqb-true, and_parts}
use Rattle.std.proofs.lemmas.List.Elements.{All-head, All-tail}
use Rattle.mau_terms.specs.Tree.{Tree}
use Rattle.mau_terms.specs.Norm.{norm}
use Rattle.mau_terms.specs.Bare.{IsBare, EqualModulo, same_term, IsLawful}
use Rattle.mau_terms.specs.Subst.{Variable}
use Rattle.mau_terms.proofs.Chains.{first_bare, EqualModulo-trans, EqualModulo-sym}
use Rattle.mau_terms.proofs.Law.{equal_norm}
use Rattle.mau_signature.specs.Signature.{SignatureOf, theory_at, terms_over}
use Rattle.mau_store.specs.Node.{Node, AreNodes, IsOf}
use Rattle.mau_store.specs.Trees.{tree_at, StandsFor}
use Rattle.mau_sorts.specs.HasSort.{HasSort}
use Rattle.mau_canon.specs.Within.{IsWithin}
use Rattle.mau_api.specs.Terms.{IsBareWithin}
use Rattle.mau_program.specs.declared.statements.Fragment.{Fragment}
use Rattle.mau_logic.specs.Says.{Says, leads, of_sort, says_nothing}
use Rattle.mau_logic.specs.Shown.{known_by, HasSortBy, LeadsTo, Shows, ShowsAll}
use Rattle.mau_check.specs.declared.kept.Kept.{Kept}
use Rattle.mau_check.specs.declared.said.Said.{Said}
use Rattle.mau_check.specs.declared.said.Said.TheVariants.{Leads, Sorted}
use Rattle.mau_check.specs.Kept.{IsKeptFor}
use Rattle.mau_check.specs.Said.{IsSaid, AreSaid, SomeSaid, is_lead, is_meeting}
use Rattle.mau_check.specs.Told.{EndsInSort}
use Rattle.mau_check.specs.Instances.{ShowsEqual, ShowsSort}
use Rattle.mau_check.proofs.Equals.{equal_numbers}

eq_true : (a b : ℕ) → a ≡ b → (a == b) ≡ true
eq_true a b e = eq-eqb a b e

-- the number i stands for the bare term t
pub record Stands (s : SignatureOf) (nodes : List Node) (i : ℕ) (t : Tree) : Type 0 where
  pub bare : IsBare (terms_over s) t
  pub there : IsOf nodes i
  pub stands : StandsFor (theory_at s) nodes i t

pub kept_stands : (s : SignatureOf) (nodes : List Node) (k : Kept) (t : Tree) → IsKeptFor s nodes k t → Stands s nodes k.id.0 t
kept_stands s nodes k t h = record { bare = h.within.0; there = h.there; stands = h.stands }

-- one of us leads from t, and where it leads to is told apart by P
pub record SomeLead (us : List Says) (P : Bool → Tree → Tree → Type 0) : Type 0 where
  pub equational : Bool
  pub start : Tree
  pub end : Tree
  pub fact : Contains us (leads equational start end)
  pub is : P equational start end

some_later : (y : Says) (us : List Says) (P : Bool → Tree → Tree → Type 0) → SomeLead us P → SomeLead (y ∷ us) P
some_later y us P l = record { equational = l.equational; start = l.start; end = l.end; fact = (suc l.fact.0, let b = l.fact.1 in omega arith, l.fact.2); is = l.is }

module _ (s : SignatureOf) (nodes : List Node) where
  -- of facts and what they say: one for which Q holds, and one of which P holds
  module _ (P : Bool → Tree → Tree → Type 0) (Q : Said → Type 0) where
    pub some_said : ((e : Bool) (a b : Kept) (t u : Tree) → IsKeptFor s nodes a t → IsKeptFor s nodes b u → Q (Leads e a b) → P e t u) → ((a : Kept) (r : ℕ) → Q (Sorted a r) → ⊥) →
        (xs : List Said) (ys : List Says) → AreSaid s nodes xs ys → SomeSaid Q xs → SomeLead ys P
    some_said f g [] ys h q = absurd q
    some_said f g (x ∷ xs) [] h q = absurd h
    some_said f g (x ∷ xs) (y ∷ ys) h (inr q) = some_later y ys P (some_said f g xs ys h.1 q)
    some_said f g (Sorted a r ∷ xs) (y ∷ ys) h (inl q) = absurd (g a r q)
    some_said f g (Leads e a b ∷ xs) (leads d t u ∷ ys) h (inl q) = record { equational = d; start = t; end = u; fact = (0, omega arith, refl); is = subst (λ z. P z t u) h.0.0 (f e a b t u h.0.1 h.0.2 q) }
    some_said f g (Leads e a b ∷ xs) (of_sort t r ∷ ys) h (inl q) = absurd h.0
    some_said f g (Leads e a b ∷ xs) (says_nothing ∷ ys) h (inl q) = absurd h.0

    pub said_some : ((e : Bool) (a b : Kept) (t u : Tree) → IsKeptFor s nodes a t → IsKeptFor s nodes b u → P e t u → Q (Leads e a b)) →
        (xs : List Said) (ys : List Says) → AreSaid s nodes xs ys → SomeLead ys P → SomeSaid Q xs
    said_some f xs ys h l = by xs ys h l.fact.0 l.fact.1 l.fact.2
      where
        by : (xs : List Said) (ys : List Says) → AreSaid s nodes xs ys → (k : ℕ) → k < length ys → slice_index_or ys k (leads l.equational l.start l.end) ≡ leads l.equational l.start l.end → SomeSaid Q xs
        by [] [] h k b e = absurd (omega arith)
        by [] (y ∷ ys) h k b e = absurd h
        by (x ∷ xs) [] h k b e = absurd h
        by (x ∷ xs) (y ∷ ys) h (suc k) b e = inr (by xs ys h.1 k (omega arith) e)
        by (x ∷ xs) (y ∷ ys) h zero b e = inl (at x (subst (IsSaid s nodes x) e h.0))
          where
            at : (x : Said) → IsSaid s nodes x (leads l.equational l.start l.end) → Q x
            at (Leads e a b) i = f e a b l.start l.end i.1 i.2 (subst (λ z. P z l.start l.end) (sym i.0) l.is)
            at (Sorted a r) i = absurd i

-- a test of the facts
any_here : (b c : Bool) (P Q : Type 0) → (b ≡ true → P) → (c ≡ true → Q) → (b || c) ≡ true → P ⊎ Q
any_here true c P Q f g e = inl (f refl)
any_here false c P Q f g e = inr (g e)

any_there : (b c : Bool) → c ≡ true → (b || c) ≡ true
any_there true c e = refl
any_there false c e = e

pub any_some : (p : Said → Bool) (Q : Said → Type 0) → ((x : Said) → p x ≡ true → Q x) → (xs : List Said) → list_any p xs ≡ true → SomeSaid Q xs
any_some p Q f [] e = absurd cc
any_some p Q f (x ∷ xs) e = any_here (p x) (list_any p xs) (Q x) (SomeSaid Q xs) (f x) (any_some p Q f xs) e

pub some_any : (p : Said → Bool) (Q : Said → Type 0) → ((x : Said) → Q x → p x ≡ true) → (xs : List Said) → SomeSaid Q xs → list_any p xs ≡ true
some_any p Q f [] q = absurd q
some_any p Q f (x ∷ xs) (inl q) = ap (λ b. b || list_any p xs) (f x q)
some_any p Q f (x ∷ xs) (inr q) = any_there (p x) (list_any p xs) (some_any p Q f xs q)

module _ (s : SignatureOf) (lawful : IsLawful (terms_over s)) (nodes : List Node) (are : AreNodes nodes) where
  same_number : (i : ℕ) (t : Tree) (a : Kept) (v : Tree) → Stands s nodes i t → IsKeptFor s nodes a v → (i ≡ a.id.0) ↔ EqualModulo (terms_over s) t v
  same_number i t a v h g = equal_numbers s lawful nodes are i a.id.0 t v h.bare g.within.0 h.there g.there h.stands g.stands

  -- ---- a fact that leads from one term to another

  abbrev IsFromTo : Bool → Tree → Tree → Bool → Tree → Tree → Type 0
  IsFromTo q t u e v w = (q ≡ true → e ≡ true) × EqualModulo (terms_over s) t v × EqualModulo (terms_over s) w u

  abbrev IsLead : Bool → ℕ → ℕ → Said → Type 0
  IsLead q i j x = is_lead q i j x ≡ true

  allows : (q e : Bool) → (e || not q) ≡ true → q ≡ true → e ≡ true
  allows true true h g = refl
  allows true false h g = cc
  allows false true h g = refl
  allows false false h g = cc

  allowed : (q e : Bool) → (q ≡ true → e ≡ true) → (e || not q) ≡ true
  allowed true true f = refl
  allowed true false f = let h : false ≡ true = f refl in cc
  allowed false true f = refl
  allowed false false f = refl

  lead_parts : (q e : Bool) (a b : Kept) (i j : ℕ) → is_lead q i j (Leads e a b) ≡ true → (q ≡ true → e ≡ true) × (a.id.0 ≡ i) × (b.id.0 ≡ j)
  lead_parts q e a b i j h =
      let first = and_parts (e || not q) ((a.id.0 == i) && (b.id.0 == j)) h in
      let both = and_parts (a.id.0 == i) (b.id.0 == j) first.1 in
      (allows q e first.0, eqb-true a.id.0 i both.0, eqb-true b.id.0 j both.1)

  lead_made : (q e : Bool) (a b : Kept) (i j : ℕ) → (q ≡ true → e ≡ true) → a.id.0 ≡ i → b.id.0 ≡ j → is_lead q i j (Leads e a b) ≡ true
  lead_made q e a b i j f p r = ap₂ (λ x y. x && y) (allowed q e f) (ap₂ (λ x y. x && y) (eq_true a.id.0 i p) (eq_true b.id.0 j r))

  module _ (xs : List Said) (us : List Says) (said : AreSaid s nodes xs us) where
    pub lead_found : (q : Bool) (i j : ℕ) (t u : Tree) → Stands s nodes i t → Stands s nodes j u → list_any (is_lead q i j) xs ≡ true → LeadsTo s us q t u
    lead_found q i j t u h g e =
        let l = some_said s nodes (IsFromTo q t u) (IsLead q i j)
        (λ d a b v w ka kb p.
        let parts = lead_parts q d a b i j p in
        (parts.0, (same_number i t a v h ka).0 (sym parts.1), EqualModulo-sym ((same_number j u b w g kb).0 (sym parts.2))))
        (λ a r p. no p) xs us said (any_some (is_lead q i j) (IsLead q i j) (λ x p. p) xs e) in
        record { start = l.start; end = l.end; by_equations = l.equational; fact = l.fact; kind = l.is.0; from = l.is.1; to = l.is.2 }
      where
        no : false ≡ true → ⊥
        no p = cc

    pub lead_there : (q : Bool) (i j : ℕ) (t u : Tree) → Stands s nodes i t → Stands s nodes j u → LeadsTo s us q t u → list_any (is_lead q i j) xs ≡ true
    lead_there q i j t u h g l =
        some_any (is_lead q i j) (IsLead q i j) (λ x p. p) xs
        (said_some s nodes (IsFromTo q t u) (IsLead q i j)
        (λ d a b v w ka kb p. lead_made q d a b i j p.0 (sym ((same_number i t a v h ka).1 p.1)) (sym ((same_number j u b w g kb).1 (EqualModulo-sym p.2))))
        xs us said (record { equational = l.by_equations; start = l.start; end = l.end; fact = l.fact; is = (l.kind, l.from, l.to) }))

    -- ---- two facts that lead to one term

    abbrev IsMeeting : ℕ → ℕ → Said → Type 0
    IsMeeting i j x = is_meeting xs i j x ≡ true

    abbrev MeetsFrom : Tree → Tree → Bool → Tree → Tree → Type 0
    MeetsFrom t u e v w = (e ≡ true) × EqualModulo (terms_over s) t v × LeadsTo s us true u w

    meeting_parts : (e : Bool) (a b : Kept) (i j : ℕ) → is_meeting xs i j (Leads e a b) ≡ true → (e ≡ true) × (a.id.0 ≡ i) × (list_any (is_lead true j b.id.0) xs ≡ true)
    meeting_parts e a b i j h =
        let outer = and_parts (e && (a.id.0 == i)) (list_any (is_lead true j b.id.0) xs) h in
        let inner = and_parts e (a.id.0 == i) outer.0 in
        (inner.0, eqb-true a.id.0 i inner.1, outer.1)

    pub meeting_found : (i j : ℕ) (t u : Tree) → Stands s nodes i t → Stands s nodes j u → list_any (is_meeting xs i j) xs ≡ true → ShowsEqual s us t u
    meeting_found i j t u h g e =
        let l = some_said s nodes (MeetsFrom t u) (IsMeeting i j)
        (λ d a b v w ka kb p.
        let parts = meeting_parts d a b i j p in
        (parts.0, (same_number i t a v h ka).0 (sym parts.1), lead_found true j b.id.0 u w g (kept_stands s nodes b w kb) parts.2))
        (λ a r p. no p) xs us said (any_some (is_meeting xs i j) (IsMeeting i j) (λ x p. p) xs e) in
        (l.end, record { start = l.start; end = l.end; by_equations = l.equational; fact = l.fact; kind = λ _. l.is.0; from = l.is.1; to = own l.end (l.is.2) }, l.is.2)
      where
        no : false ≡ true → ⊥
        no p = cc

        own : (w : Tree) → LeadsTo s us true u w → EqualModulo (terms_over s) w w
        own w l = EqualModulo-trans (EqualModulo-sym l.to) l.to

    pub meeting_there : (i j : ℕ) (t u : Tree) → Stands s nodes i t → Stands s nodes j u → ShowsEqual s us t u → list_any (is_meeting xs i j) xs ≡ true
    meeting_there i j t u h g (v, l, m) =
        some_any (is_meeting xs i j) (IsMeeting i j) (λ x p. p) xs
        (said_some s nodes (MeetsFrom t u) (IsMeeting i j)
        (λ d a b x w ka kb p.
        ap₂ (λ y z. y && z) (ap₂ (λ y z. y && z) p.0 (eq_true a.id.0 i (sym ((same_number i t a x h ka).1 p.1)))) (lead_there true j b.id.0 u w g (kept_stands s nodes b w kb) p.2))
        xs us said (record { equational = l.by_equations; start = l.start; end = l.end; fact = l.fact; is = (l.kind refl, l.from, record { start = m.start; end = m.end; by_equations = m.by_equations; fact = m.fact; kind = m.kind; from = m.from; to = EqualModulo-trans m.to (EqualModulo-sym l.to) }) }))

    -- ---- a fact that leads to a term of a sort

    abbrev ToSort : ℕ → Tree → Bool → Tree → Tree → Type 0
    ToSort r t e v w = (e ≡ true) × EqualModulo (terms_over s) t v × HasSortBy s us r w × IsBare (terms_over s) w

    pub sort_found : (i r : ℕ) (t : Tree) → Stands s nodes i t → SomeSaid (EndsInSort s nodes (known_by s us) i r) xs → ShowsSort s us r t
    sort_found i r t h q =
        let l = some_said s nodes (ToSort r t) (EndsInSort s nodes (known_by s us) i r)
        (λ d a b v w ka kb p. (p.0, (same_number i t a v h ka).0 (sym p.1), subst (λ z. HasSort s (known_by s us) z r) kb.stands p.2, kb.within.0))
        (λ a q p. p) xs us said q in
        (l.end, record { start = l.start; end = l.end; by_equations = l.equational; fact = l.fact; kind = λ _. l.is.0; from = l.is.1; to = same_term l.is.3 }, l.is.2)

    pub sort_there : (i r : ℕ) (t : Tree) → Stands s nodes i t → ShowsSort s us r t → SomeSaid (EndsInSort s nodes (known_by s us) i r) xs
    sort_there i r t h (v, l, has) =
        said_some s nodes (ToSort r t) (EndsInSort s nodes (known_by s us) i r)
        (λ d a b x w ka kb p. (p.0, sym ((same_number i t a x h ka).1 p.1), subst (λ z. HasSort s (known_by s us) z r) (sym kb.stands) p.2))
        xs us said (record { equational = l.by_equations; start = l.start; end = l.end; fact = l.fact; is = (l.kind refl, l.from, subst (λ z. HasSort s (known_by s us) z r) (sym (equal_norm (terms_over s) lawful l.to)) has, first_bare l.to) })

-- ---- what facts lead from and to is within the limits

module _ (s : SignatureOf) (lawful : IsLawful (terms_over s)) (nodes : List Node) where
  fact_at : (xs : List Said) (us : List Says) → AreSaid s nodes xs us → (e : Bool) (t u : Tree) (k : ℕ) → k < length us → slice_index_or us k (leads e t u) ≡ leads e t u → IsBareWithin s t × IsBareWithin s u
  fact_at [] [] h e t u k l d = absurd (omega arith)
  fact_at [] (y ∷ us) h e t u k l d = absurd h
  fact_at (x ∷ xs) [] h e t u k l d = absurd h
  fact_at (x ∷ xs) (y ∷ us) h e t u (suc k) l d = fact_at xs us h.1 e t u k (omega arith) d
  fact_at (x ∷ xs) (y ∷ us) h e t u zero l d = at x (subst (IsSaid s nodes x) d h.0)
    where
      at : (x : Said) → IsSaid s nodes x (leads e t u) → IsBareWithin s t × IsBareWithin s u
      at (Leads f a b) i = (i.1.within, i.2.within)
      at (Sorted a r) i = absurd i

  module _ (xs : List Said) (us : List Says) (said : AreSaid s nodes xs us) where
    pub lead_within : (e : Bool) (t u : Tree) → LeadsTo s us e t u → IsWithin (theory_at s) (norm (theory_at s) t) × IsWithin (theory_at s) (norm (theory_at s) u)
    lead_within e t u l =
        let both = fact_at xs us said l.by_equations l.start l.end l.fact.0 l.fact.1 l.fact.2 in (
          subst (IsWithin (theory_at s)) (sym (equal_norm (terms_over s) lawful l.from)) both.0.1,
          subst (IsWithin (theory_at s)) (equal_norm (terms_over s) lawful l.to) both.1.1,
        )

    pub equal_within : (t u : Tree) → ShowsEqual s us t u → IsWithin (theory_at s) (norm (theory_at s) t) × IsWithin (theory_at s) (norm (theory_at s) u)
    equal_within t u (v, l, m) = ((lead_within true t v l).0, (lead_within true u v m).0)

    pub sort_within : (r : ℕ) (t : Tree) → ShowsSort s us r t → IsWithin (theory_at s) (norm (theory_at s) t)
    sort_within r t (v, l, has) = (lead_within true t v l).0

-- ---- fragments, one after another

module _ (s : SignatureOf) (us : List Says) (g : Variable → Tree) where
  pub shows_push : (cs : List Fragment) (i : ℕ) (d : Fragment) → i < length cs → ShowsAll s us g (take i cs) → Shows s us g (get_or cs i d) → ShowsAll s us g (take (suc i) cs)
  shows_push [] i d l all one = absurd (omega arith)
  shows_push (c ∷ cs) zero d l all one = (one, tt)
  shows_push (c ∷ cs) (suc i) d l all one = (all.0, shows_push cs i d (omega arith) all.1 one)

  pub shows_one : (cs : List Fragment) (i : ℕ) (d : Fragment) → i < length cs → ShowsAll s us g cs → Shows s us g (get_or cs i d)
  shows_one [] i d l all = absurd (omega arith)
  shows_one (c ∷ cs) zero d l all = all.0
  shows_one (c ∷ cs) (suc i) d l all = shows_one cs i d (omega arith) all.1
