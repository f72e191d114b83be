-- An equation that may not apply under the top of a term gives nothing there, so the others alone are tried.
use Rattle.std.proofs.Common.{◌≡◌, ℕ, suc, List, [], ◌∷◌, Bool, true, false, ◌||◌, not, if◌then◌else◌, Option, Some, None, slice_get, is_some, map, inl, refl, sym, ap, ◌∙◌, subst, eq-eqb}
use Rattle.mau_terms.specs.Tree.{Tree, variable, numeral, apply}
use Rattle.mau_terms.specs.Norm.{norm}
use Rattle.mau_terms.specs.Bare.{IsBare, IsLawful}
use Rattle.mau_terms.specs.Reading.{reading}
use Rattle.mau_terms.specs.Solution.{FitsWithin}
use Rattle.mau_terms.specs.Finite.{IsIn}
use Rattle.mau_terms.specs.View.{tree_of}
use Rattle.mau_terms.specs.declared.theory.Identity.{Identity}
use Rattle.mau_terms.specs.declared.theory.Theory.{Theory}
use Rattle.mau_terms.proofs.Law.{equal_norm}
use Rattle.mau_signature.specs.Signature.{SignatureOf, theory_at, terms_over}
use Rattle.mau_formula.specs.Operator.{Operator}
use Rattle.mau_store.specs.Node.{Node}
use Rattle.mau_program.specs.declared.program.Program as Typed
use Rattle.mau_program.specs.declared.statements.Equation as Written
use Rattle.mau_evaluation.specs.Run.{done, or_go_on, first_of}
use Rattle.mau_evaluation.specs.Program.{Program}
use Rattle.mau_evaluation.specs.Listing.{Solution, keep, solutions_within}
use Rattle.mau_evaluation.specs.Evaluation.{levels, applied, by_answer}
use Rattle.mau_evaluation.proofs.BareTerms.{norm-reading-is}
use Rattle.mau_evaluation.proofs.Solved.{solutions_within_are_listed}
use Rattle.mau_api.specs.Programs.{program_over, equation_of}
use Rattle.mau_reduce.specs.declared.given.Given.{Given as BuiltIn}
use Rattle.mau_reduce.specs.Reducible.{IsReducible}
use Rattle.mau_reduce.specs.BuiltOperators.{answer_of, built_gives}
use Rattle.mau_reduce.specs.Trying.{applied_by, applied_one, applied_number, order_of_all}
use Rattle.mau_reduce.specs.ByTop.{top_number, stays_on_top, firm_top, may_apply, firm_of, may_apply_at, order_for}
use Rattle.mau_reduce.specs.Attempting.{untried_by}
use Rattle.mau_reduce.proofs.FirmTops.{at_top}
use Rattle.mau_reduce.proofs.FreeMatches.{left_bare}
use Rattle.mau_reduce.proofs.Numbered.{equation_there}
use Rattle.mau_reduce.proofs.AttemptsLeft.{all_left}

-- ---- left sides that match nothing

no_such : {A : Type 0} → true ≡ false → A
no_such e = cc

none_in : {A : Type 0} (xs : List A) → ((x : A) → IsIn x xs → ⊥) → xs ≡ []
none_in [] h = refl
none_in (x ∷ xs) h = absurd (h x (inl refl))

parts : (i : Option Identity) (s : Bool) → not (is_some i || s) ≡ true → (i ≡ None) × (s ≡ false)
parts (Some x) s e = cc
parts None true e = cc
parts None false e = (refl, refl)

module _ (s : SignatureOf) (lawful : IsLawful (terms_over s)) (t : Tree) (normal : norm (theory_at s) t ≡ t) (bare : IsBare (terms_over s) (reading (theory_at s) t)) where
  abbrev th : ℕ → Theory
  th = theory_at s

  whole : norm th (reading th t) ≡ t
  whole = norm-reading-is th lawful.theories t normal

  -- the top of what a left side matches
  its_top : (p : Tree) → IsBare (terms_over s) p → (f : ℕ) → firm_top th p ≡ Some f → (vs left right : List Tree) → FitsWithin (terms_over s) p (reading th t) vs left right → f ≡ top_number t
  its_top (variable i r) b f e vs left right fits = cc
  its_top (numeral n) b f e vs left right fits =
      let same : f ≡ 0 = cc in
      same ∙ (ap top_number (equal_norm (terms_over s) lawful fits.0.equal) ∙ ap top_number whole)
  its_top (apply g ps) b f e vs left right fits = by (stays_on_top (th g)) refl e
    where
      by : (w : Bool) → stays_on_top (th g) ≡ w → (if w then Some g else None) ≡ Some f → f ≡ top_number t
      by false k h = cc
      by true k h =
          let both = parts (th g).id (th g).succ k in
          let same : f ≡ g = cc in
          same ∙ (sym (at_top s lawful g both.0 both.1 ps b (reading th t) vs left right fits) ∙ ap top_number whole)

  none_listed : (p : Tree) → IsBare (terms_over s) p → may_apply (firm_top th p) (top_number t) ≡ false → solutions_within (terms_over s) p t ≡ []
  none_listed p b h = none_in (solutions_within (terms_over s) p t) (λ x i. no x i (firm_top th p) refl h)
    where
      no : (x : Solution) → IsIn x (solutions_within (terms_over s) p t) → (o : Option ℕ) → firm_top th p ≡ o → may_apply o (top_number t) ≡ false → ⊥
      no x i None e k = no_such k
      no x i (Some f) e k =
          let fits = ((solutions_within_are_listed (terms_over s) lawful p (reading th t) bare).0 x (subst (λ u. IsIn x (solutions_within (terms_over s) p u)) (sym whole) i)).1 in
          let same = its_top p b f e (map (reading th) x.values) x.left x.right fits in
          no_such (sym (eq-eqb f (top_number t) same) ∙ k)

-- ---- equations that are passed by

module _ (P : Program) (B k : ℕ) (t : Tree) (test : ℕ → Bool) (none : (i : ℕ) → test i ≡ false → (b : ℕ) → applied_number P B k t i b ≡ done None 0 b) where
  kept_first : (is : List ℕ) (b : ℕ) → first_of (applied_number P B k t) (keep test is) b ≡ first_of (applied_number P B k t) is b
  kept_first [] b = refl
  kept_first (i ∷ is) b = by (kept_first is) (test i) refl
    where
      by : ((c : ℕ) → first_of (applied_number P B k t) (keep test is) c ≡ first_of (applied_number P B k t) is c) → (w : Bool) → test i ≡ w →
          first_of (applied_number P B k t) (if w then i ∷ keep test is else keep test is) b ≡ or_go_on (first_of (applied_number P B k t) is) (applied_number P B k t i b)
      by rest true e = ap (λ K. or_go_on K (applied_number P B k t i b)) (λ j c. rest c j)
      by rest false e = rest b ∙ sym (ap (or_go_on (first_of (applied_number P B k t) is)) (none i e b))

module _ (p : Typed.Program) (red : IsReducible p) (hooks : List Operator) (B k : ℕ) (t : Tree) (normal : norm (theory_at p.sig) t ≡ t) (bare : IsBare (terms_over p.sig) (reading (theory_at p.sig) t)) where
  abbrev P : Program
  P = program_over p hooks

  gives_none : (i : ℕ) → may_apply_at p (top_number t) i ≡ false → (b : ℕ) → applied_number P B k t i b ≡ done None 0 b
  gives_none i h b = by (slice_get p.equations i) refl h
    where
      by : (o : Option Written.Equation) → slice_get p.equations i ≡ o → may_apply (firm_of (theory_at p.sig) o) (top_number t) ≡ false → applied_number P B k t i b ≡ done None 0 b
      by None at k = no_such k
      by (Some e) at g =
          ap (λ o. applied_one P B k t o b) (equation_there p hooks i e at)
          ∙ ap (λ xs. applied_by P B k (equation_of e) t xs b) (none_listed p.sig red.lawful t normal bare (tree_of e.left) (left_bare p red i e at) g)

  in_order : (b : ℕ) → first_of (applied_number P B k t) (order_for p t) b ≡ first_of (applied_number P B k t) (order_of_all P.equations) b
  in_order b = kept_first P B k t (may_apply_at p (top_number t)) gives_none (order_of_all P.equations) b

  -- at the beginning all is left
  pub all_kept : (nodes : List Node) (given : BuiltIn) → built_gives p.sig hooks t ≡ answer_of nodes P.sign.theory t given →
      (b : ℕ) → untried_by P B k nodes t given None (order_for p t) b ≡ applied P (levels P B k) (levels P B (suc k)).sorts t b
  all_kept nodes given e b =
      ap (λ m. by_answer P (levels P B k) (levels P B (suc k)).sorts (answer_of nodes P.sign.theory t given) m b) (λ j c. in_order c j)
      ∙ all_left p hooks B k t nodes given e b
