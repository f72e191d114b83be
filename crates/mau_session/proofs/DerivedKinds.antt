-- Sorts that are derived are of the kinds of their terms.
use Rattle.std.proofs.Common.{◌≡◌, ◌⊎◌, inl, inr, ℕ, suc, ◌≤◌, ◌==◌, List, [], ◌∷◌, ◌||◌, ◌&&◌, Bool, true, false, if◌then◌else◌, Contains, map, length, refl, sym, ap, ◌∙◌, subst, eqb-true, arith}
use Rattle.std.specs.List.{list_any}
use Rattle.std.proofs.lemmas.Bool.{and_parts}
use Rattle.std.proofs.lemmas.List.Elements.{All-contains}
use Rattle.mau_terms.specs.Tree.{Tree, variable, numeral, apply, list_of}
use Rattle.mau_terms.specs.Norm.{norm}
use Rattle.mau_terms.specs.Bare.{IsBareIn, IsBare, IsLawful}
use Rattle.mau_terms.specs.Reading.{reading}
use Rattle.mau_terms.specs.Subst.{with_values}
use Rattle.mau_terms.specs.Solution.{Fits}
use Rattle.mau_terms.specs.Finite.{IsIn}
use Rattle.mau_terms.specs.declared.theory.Theory.{Theory}
use Rattle.mau_terms.proofs.Chains.{first_bare}
use Rattle.mau_terms.proofs.Law.{equal_norm}
use Rattle.mau_terms.proofs.Taken.{equal_kind}
use Rattle.mau_terms.proofs.Wholes.{reading_top}
use Rattle.mau_sigcheck.specs.Built.{IsBuiltAndAccepted}
use Rattle.mau_poset.specs.Order.{Hierarchy, kind_of}
use Rattle.mau_poset.proofs.Orders.{kind_of-kind, kind_of-above}
use Rattle.mau_signature.specs.declared.decl.Decl.{Decl}
use Rattle.mau_signature.specs.Signature.{SignatureOf, IsOperator, declarations_at, result_of, theory_at, terms_over, IsAlike}
use Rattle.mau_signature.specs.OverSignature.{IsTreeOver}
use Rattle.mau_formula.specs.Operator.{Operator}
use Rattle.mau_listing.proofs.Answered.{normal_is}
use Rattle.mau_program.specs.declared.program.Program as Typed
use Rattle.mau_evaluation.specs.Program.{Membership, Program}
use Rattle.mau_evaluation.specs.Listing.{Solution, solutions}
use Rattle.mau_evaluation.specs.HasSort.{HasSort, HaveThese, of_variable, of_numeral, by_declaration, by_membership, none_left, next_term, next_sort, IsHead}
use Rattle.mau_evaluation.proofs.BareTerms.{norm-reading-is}
use Rattle.mau_evaluation.proofs.Listed.{from_keep}
use Rattle.mau_evaluation.proofs.Solved.{solutions_are_listed}
use Rattle.mau_api.specs.SortLists.{is_at_or_below, all_sorts, sorts_above, suits, sorts_given, sorts_of_list}
use Rattle.mau_api.specs.Programs.{program_over}
use Rattle.mau_api.proofs.Chained.{one_is, at_or_below}
use Rattle.mau_api.proofs.DeclaredSorts.{numeral_sorts_are_all}
use Rattle.mau_reduce.specs.Reducible.{IsReducible}
use Rattle.mau_reduce.proofs.SortKinds.{kind_above, numeral_kind}

module _ (s : SignatureOf) (accepted : IsBuiltAndAccepted s) (lawful : IsLawful (terms_over s)) where
  abbrev h : Hierarchy
  h = s.hierarchy

  -- what stands above a sort is of its kind
  above_kind : (a r : ℕ) → IsIn r (sorts_above h a) → kind_of h r ≡ kind_of h a
  above_kind a r i = kind_above s accepted lawful a r ((at_or_below h a r).0 (from_keep (is_at_or_below h a) r (all_sorts h) i).1)

  -- what declarations give is of the kind of their result
  any_kind : (args : List (List ℕ)) (r k : ℕ) (ds : List Decl) → ((d : Decl) → Contains ds d → kind_of h d.result ≡ k) → list_any (λ d. suits args d && is_at_or_below h d.result r) ds ≡ true → kind_of h r ≡ k
  any_kind args r k [] each e = cc
  any_kind args r k (d ∷ ds) each e =
      by (one_is (suits args d && is_at_or_below h d.result r) (list_any (λ x. suits args x && is_at_or_below h x.result r) ds) e) (λ a. any_kind args r k ds (λ x c. each x (suc c.0, omega (arith, c.1), c.2)) a)
    where
      by : ((suits args d && is_at_or_below h d.result r) ≡ true) ⊎ (list_any (λ x. suits args x && is_at_or_below h x.result r) ds ≡ true) →
          (list_any (λ x. suits args x && is_at_or_below h x.result r) ds ≡ true → kind_of h r ≡ k) → kind_of h r ≡ k
      by (inl a) rest = kind_above s accepted lawful d.result r ((at_or_below h d.result r).0 (and_parts (suits args d) (is_at_or_below h d.result r) a).1) ∙ each d (0, omega arith, refl)
      by (inr a) rest = rest a

  given_kind : (f : ℕ) → IsOperator s f → (args : List (List ℕ)) (r : ℕ) → IsIn r (sorts_given h (declarations_at s f) args) → kind_of h r ≡ kind_of h (result_of (declarations_at s f))
  given_kind f is args r i =
      by (one_is (list_any (λ d. suits args d && is_at_or_below h d.result r) (declarations_at s f)) (kind_of h (result_of (declarations_at s f)) == r)
      (from_keep (λ q. list_any (λ d. suits args d && is_at_or_below h d.result q) (declarations_at s f) || (kind_of h (result_of (declarations_at s f)) == q)) r (all_sorts h) i).1)
    where
      by : (list_any (λ d. suits args d && is_at_or_below h d.result r) (declarations_at s f) ≡ true) ⊎ ((kind_of h (result_of (declarations_at s f)) == r) ≡ true) → kind_of h r ≡ kind_of h (result_of (declarations_at s f))
      by (inl a) =
          any_kind args r (kind_of h (result_of (declarations_at s f))) (declarations_at s f)
          (λ d c. (All-contains (IsAlike h (declarations_at s f)) (declarations_at s f) d (accepted.declared f is).alike c).result) a
      by (inr a) =
          let e = eqb-true (kind_of h (result_of (declarations_at s f))) r a in
          ap (kind_of h) (sym e) ∙ kind_of-kind h (kind_of h (result_of (declarations_at s f))) (kind_of-above h (result_of (declarations_at s f)))

  over_kind : (f : ℕ) → IsOperator s f → (a : Bool) (args : List (List ℕ)) → (a ≡ true → 2 ≤ length args) → (r : ℕ) →
      IsIn r (if a then sorts_of_list h (declarations_at s f) args else sorts_given h (declarations_at s f) args) → kind_of h r ≡ kind_of h (result_of (declarations_at s f))
  over_kind f is false args two r i = given_kind f is args r i
  over_kind f is true [] two r i = absurd (omega (arith, two refl))
  over_kind f is true (ss ∷ []) two r i = absurd (omega (arith, two refl))
  over_kind f is true (ss ∷ rs ∷ args) two r i = given_kind f is (ss ∷ sorts_of_list h (declarations_at s f) (rs ∷ args) ∷ []) r i

-- there is a list of sorts for each term
as_long : (P : Program) (ts : List Tree) (sorts : List (List ℕ)) → HaveThese P ts sorts → length ts ≡ length sorts
as_long P ts sorts none_left = refl
as_long P ts sorts (next_term t us rest a) = ap suc (as_long P us rest a)
as_long P ts sorts (next_sort t us r rs rest d a) = as_long P (t ∷ us) (rs ∷ rest) a

module _ (p : Typed.Program) (red : IsReducible p) (hooks : List Operator) where
  abbrev P : Program
  P = program_over p hooks

  abbrev th : ℕ → Theory
  th = theory_at p.sig

  -- a sort that a membership gives
  member_kind : (m : Membership) (t : Tree) (x : Solution) (r : ℕ) → IsIn m P.memberships → IsIn x (solutions (terms_over p.sig) m.left t) → IsIn r (P.above m.sort) →
      norm (theory_at p.sig) t ≡ t → (j : ℕ) → IsBareIn (terms_over p.sig) (reading (theory_at p.sig) t) j → kind_of p.sig.hierarchy r ≡ j
  member_kind m t x r i sol up n j b =
      above_kind p.sig red.accepted red.lawful m.sort r up ∙ by m.left (red.heads m i).bare (red.heads m i).head refl
    where
      bare_is : IsBare (terms_over p.sig) (reading th t)
      bare_is = (j, b)

      fits : Fits (terms_over p.sig) m.left (reading th t) (map (reading th) x.values)
      fits =
          let listed = (solutions_are_listed (terms_over p.sig) red.lawful m.left (reading th t) bare_is).0 x
          (subst (λ u. IsIn x (solutions (terms_over p.sig) m.left u)) (sym (norm-reading-is th red.lawful.theories t n)) sol) in
          listed.3

      made : IsBare (terms_over p.sig) (with_values m.left (map (reading th) x.values))
      made = first_bare fits.equal

      made_kind : made.0 ≡ j
      made_kind = equal_kind (terms_over p.sig) red.lawful (with_values m.left (map (reading th) x.values)) (reading th t) made.0 j made.1 b (equal_norm (terms_over p.sig) red.lawful fits.equal)

      by : (q : Tree) → IsBareIn (terms_over p.sig) q (kind_of p.sig.hierarchy m.sort) → IsHead th (norm th q) → q ≡ m.left → kind_of p.sig.hierarchy m.sort ≡ j
      by (variable k s) c head e = absurd head
      by (numeral k) c head e = absurd head
      by (apply f ps) c head e =
          let own : IsBareIn (terms_over p.sig) (with_values (apply f ps) (map (reading th) x.values)) made.0 =
          subst (λ u. IsBareIn (terms_over p.sig) (with_values u (map (reading th) x.values)) made.0) (sym e) made.1 in
          sym c.1 ∙ (own.1 ∙ made_kind)

  pub derived_kind : (t : Tree) (r : ℕ) → HasSort P t r → norm (theory_at p.sig) t ≡ t → IsTreeOver p.sig t → (j : ℕ) → IsBareIn (terms_over p.sig) (reading (theory_at p.sig) t) j → kind_of p.sig.hierarchy r ≡ j
  derived_kind t r (of_variable i q z up) n over j b = above_kind p.sig red.accepted red.lawful q z up ∙ b.2
  derived_kind t r (of_numeral m z up) n over j b =
      let has = (numeral_sorts_are_all p.sig red.accepted m z).0 up in
      kind_above p.sig red.accepted red.lawful has.0 z has.2 ∙ numeral_kind p.sig red.accepted red.lawful m has.0 j p.sig.numerals refl has.1 b.1
  derived_kind t r (by_declaration f ts sorts z have up) n over j b =
      over_kind p.sig red.accepted red.lawful f over.0 (theory_at p.sig f).assoc sorts (λ a. let two = over.1 a in let long = as_long P (list_of ts) sorts have in omega (arith, two, long)) z up
      ∙ (reading_top (terms_over p.sig) f ts j (normal_is (theory_at p.sig) red.lawful.theories (apply f ts) n) b).1
  derived_kind t r (by_membership m u x z among exec sol have solved up) n over j b = member_kind m u x z among sol up n j b
