-- Which productions a grammar has: those of each operator, and parentheses without and with a sort.
use Rattle.std.proofs.Common.{◌≡◌, ℕ, zero, suc, ◌+◌, ◌-◌, ◌<◌, ◌≤◌, ◌⊎◌, inl, inr, List, [], ◌∷◌, ◌++◌, Some, length, map, slice_get, refl, sym, ap, ◌∙◌, subst, arith}
use Rattle.mau_poset.specs.Order.{Hierarchy, kinds}
use Rattle.mau_signature.specs.declared.decl.Decl.{Decl}
use Rattle.mau_signature.specs.Signature.{SignatureOf, declarations_at}
use Rattle.mau_grammar.specs.declared.production.Production.{Production}
use Rattle.mau_grammar.specs.declared.sorts.SortName.{SortName}
use Rattle.mau_grammar.specs.Productions.{of_operator, of_operators, of_kinds, enclosed, sorted, sort_names}
use Rattle.mau_grammar.specs.Grammar.{GrammarOf}
use Rattle.mau_print.specs.FirstSorts.{IsGrammarFor}
use Rattle.mau_print.proofs.Produced.{around}

abbrev pub IsPresent : {A : Type 0} → List A → A → Type 0
IsPresent ps p = (n : ℕ) × (slice_get ps n ≡ Some p)

pub present_left : {A : Type 0} (ps qs : List A) (p : A) → IsPresent ps p → IsPresent (ps ++ qs) p
present_left [] qs p (n, e) = absurd (cc e)
present_left (x ∷ ps) qs p (zero, e) = (zero, e)
present_left (x ∷ ps) qs p (suc n, e) = let r = present_left ps qs p (n, e) in (suc r.0, r.1)

pub present_right : {A : Type 0} (ps qs : List A) (p : A) → IsPresent qs p → IsPresent (ps ++ qs) p
present_right [] qs p h = h
present_right (x ∷ ps) qs p h = let r = present_right ps qs p h in (suc r.0, r.1)

pub present_first : {A : Type 0} (p : A) (ps : List A) → IsPresent (p ∷ ps) p
present_first p ps = (0, refl)

pub present_map : {A B : Type 0} (f : A → B) (xs : List A) (n : ℕ) (x : A) → slice_get xs n ≡ Some x → IsPresent (map f xs) (f x)
present_map f [] n x e = absurd (cc e)
present_map f (y ∷ xs) zero x e = let same : y ≡ x = cc in (0, ap (λ z. Some (f z)) same)
present_map f (y ∷ xs) (suc n) x e = let r = present_map f xs n x e in (suc r.0, r.1)

-- those of the operator i + 1
pub operator_present : (s : SignatureOf) (g : GrammarOf) (i : ℕ) (d : Decl) (ds : List Decl) (p : Production) → IsGrammarFor s g → i < length s.declarations → declarations_at s (i + 1) ≡ d ∷ ds
    → IsPresent (of_operator s.hierarchy (i + 1) (d ∷ ds)) p → IsPresent g.productions p
operator_present s g i d ds p made low e h =
    let r = around s (length s.declarations) i low in
    let own : IsPresent (of_operator s.hierarchy (i + 1) (declarations_at s (i + 1))) p = subst (λ xs. IsPresent (of_operator s.hierarchy (i + 1) xs) p) (sym e) h in
    let all : IsPresent (of_operators s (length s.declarations)) p =
    subst (λ ps. IsPresent ps p) (sym r.1) (present_right (of_operators s i) _ p (present_left (of_operator s.hierarchy (i + 1) (declarations_at s (i + 1))) r.0 p own)) in
    subst (λ x. IsPresent x.productions p) (sym made.2) (present_left (of_operators s (length s.declarations)) (of_kinds s.hierarchy (kinds s.hierarchy) ++ map sorted (sort_names s.hierarchy 0 made.0)) p all)

kinds_present : (h : Hierarchy) (n j : ℕ) → j < n → IsPresent (of_kinds h n) (enclosed (h.sorts + j))
kinds_present h zero j low = absurd (omega arith)
kinds_present h (suc n) j low = by (below j n low) (λ l. kinds_present h n j l)
  where
    below : (j n : ℕ) → j < suc n → (j < n) ⊎ (j ≡ n)
    below zero zero low = inr refl
    below zero (suc n) low = inl (omega arith)
    below (suc j) zero low = absurd (omega arith)
    below (suc j) (suc n) low = elim (below j n (omega arith)) [ inl l ↦ inl (omega arith) | inr e ↦ inr (ap suc e) ]

    by : (j < n) ⊎ (j ≡ n) → (j < n → IsPresent (of_kinds h n) (enclosed (h.sorts + j))) → IsPresent (of_kinds h n ++ enclosed (h.sorts + n) ∷ []) (enclosed (h.sorts + j))
    by (inl l) ih = present_left (of_kinds h n) _ _ (ih l)
    by (inr e) ih = subst (λ m. IsPresent (of_kinds h n ++ enclosed (h.sorts + n) ∷ []) (enclosed (h.sorts + m))) (sym e) (present_right (of_kinds h n) _ _ (present_first (enclosed (h.sorts + n)) []))

-- parentheses of a kind
pub enclosed_present : (s : SignatureOf) (g : GrammarOf) (k : ℕ) → IsGrammarFor s g → s.hierarchy.sorts ≤ k → k < s.hierarchy.sorts + kinds s.hierarchy → IsPresent g.productions (enclosed k)
enclosed_present s g k made low high =
    let h = s.hierarchy in
    let e : h.sorts + (k - h.sorts) ≡ k = omega arith in
    let own : IsPresent (of_kinds h (kinds h)) (enclosed k) = subst (λ m. IsPresent (of_kinds h (kinds h)) (enclosed m)) e (kinds_present h (kinds h) (k - h.sorts) (omega arith)) in
    subst (λ x. IsPresent x.productions (enclosed k)) (sym made.2)
    (present_right (of_operators s (length s.declarations)) _ _ (present_left (of_kinds h (kinds h)) _ _ own))

-- and with a sort
pub sorted_present : (s : SignatureOf) (g : GrammarOf) (a : ℕ) (n : SortName) → IsGrammarFor s g → slice_get g.sorts a ≡ Some n → IsPresent g.productions (sorted n)
sorted_present s g a n made e =
    let h = s.hierarchy in
    let there : slice_get (sort_names h 0 made.0) a ≡ Some n = ap (λ x. slice_get x.sorts a) (sym made.2) ∙ e in
    subst (λ x. IsPresent x.productions (sorted n)) (sym made.2)
    (present_right (of_operators s (length s.declarations)) _ _ (present_right (of_kinds h (kinds h)) _ _ (present_map sorted (sort_names h 0 made.0) a n there)))
