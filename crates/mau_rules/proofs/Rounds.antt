-- A rule at a place, while its solutions are gone through.
use Rattle.std.proofs.Common.{◌≡◌, ◌++◌, ◌∷◌, [], List, map, ℕ, Bool, true, Option, Some, None, if◌then◌else◌, inl, inr, refl, sym, ap, ◌∙◌, subst, append_assoc, append-nil}
use Rattle.std.proofs.lemmas.List.{map-append}
use Rattle.std.specs.Option.{option_map}
use Rattle.mau_terms.specs.Tree.{Tree}
use Rattle.mau_terms.specs.Norm.{norm}
use Rattle.mau_terms.specs.Finite.{IsIn}
use Rattle.mau_terms.specs.Bare.{IsBare}
use Rattle.mau_terms.specs.Reading.{reading}
use Rattle.mau_signature.specs.Signature.{theory_at, terms_over}
use Rattle.mau_formula.specs.Operator.{Operator}
use Rattle.mau_store.specs.Node.{Node}
use Rattle.mau_sorts.specs.Table.{Table}
use Rattle.mau_listing.specs.Asked.{BySort}
use Rattle.mau_listing.specs.Matcher.{Matcher}
use Rattle.mau_listing.specs.Next.{matcher_cmp, IsNext, last_of}
use Rattle.mau_listing.specs.Question.{IsSolution}
use Rattle.mau_program.specs.declared.program.Program as Typed
use Rattle.mau_evaluation.specs.Run.{End, Run}
use Rattle.mau_evaluation.specs.Program.{Rule}
use Rattle.mau_evaluation.specs.Listing.{Solution, keep, solutions_within}
use Rattle.mau_evaluation.specs.Evaluation.{Binding, binding_of}
use Rattle.mau_evaluation.specs.Rules.{Place}
use Rattle.mau_evaluation.specs.RuleRuns.{Turns, Stand}
use Rattle.mau_api.specs.Programs.{program_over}
use Rattle.mau_api.specs.Remaining.{as_matcher}
use Rattle.mau_api.specs.Meanings.{meanings_by}
use Rattle.mau_api.specs.Answers.{IsDerivedTable, AreSettled}
use Rattle.mau_rules.specs.Runnable.{IsRunnable}
use Rattle.mau_rules.specs.Known.{Item, Gives, Fails, got, fails, Known as IsKnown, GoesOn}
use Rattle.mau_rules.specs.Found.{rule_at, solving_by, stand_by}
use Rattle.mau_rules.proofs.Combined.{else_some, else_fails_first, first_among, none_known, passed_by, goes_on_twice, all_passed_by}
use Rattle.mau_rules.proofs.Passing.{HasFirst, first_kept, none_kept, keep-append}
use Rattle.mau_rules.proofs.Trying.{head, all, question, IsTest, next_first, one, fail_none, one_not_shown, one_shown, one_ends, at_all}

last_more : (last : Option Matcher) (xs : List Matcher) (y : Matcher) → last_of last (xs ++ y ∷ []) ≡ Some y
last_more last [] y = refl
last_more last (x ∷ xs) y = last_more (Some x) xs y

among : {A : Type 0} (xs ys : List A) (x : A) → IsIn x (xs ++ x ∷ ys)
among [] ys x = inl refl
among (z ∷ xs) ys x = inr (among xs ys x)

behind_in : {A : Type 0} (xs ys : List A) (x : A) → IsIn x ys → IsIn x (xs ++ ys)
behind_in [] ys x i = i
behind_in (z ∷ xs) ys x i = inr (behind_in xs ys x i)

first_in : {A : Type 0} (xs ys : List A) (x : A) → IsIn x xs → IsIn x (xs ++ ys)
first_in [] ys x i = absurd i
first_in (z ∷ xs) ys x (inl e) = inl e
first_in (z ∷ xs) ys x (inr i) = inr (first_in xs ys x i)

module _ (p : Typed.Program) (run : IsRunnable p) (hooks : List Operator) (q : Rule) (t : Tree) (normal : norm (theory_at p.sig) t ≡ t) (bare : IsBare (terms_over p.sig) (reading (theory_at p.sig) t)) (I : Item) (n : ℕ) where
  abbrev All : List Solution
  All = all p run hooks q t normal bare

  abbrev One : Turns → Place → ℕ → ℕ → Solution → Run (Option Stand)
  One g s = one p run hooks q t normal bare I g s n

  abbrev Whole : Turns → Place → ℕ → ℕ → Run (Option Stand)
  Whole g s = rule_at (program_over p hooks) g s (n, q)

  abbrev Asked : Solution → ℕ → ℕ → Run (Option Binding)
  Asked x = solving_by (program_over p hooks) q.cond (binding_of q.left x)

  -- from the budget b0 to b some solutions were gone through, the last of them that a listing gives being `last`
  pub record Left (b0 b : ℕ) (last : Option Matcher) : Type 0 where
    -- the solutions that a listing gives are those that pass it
    pub test : Solution → Bool
    pub tests : IsTest p run hooks q t normal bare I test
    pub before : List Solution
    pub behind : List Solution
    pub parts : all p run hooks q t normal bare ≡ before ++ behind
    pub last_is : last ≡ last_of None (map as_matcher (keep test before))
    pub goes_on : (g : Turns) (s : Place) → s.term ≡ t → GoesOn I (rule_at (program_over p hooks) g s (n, q)) b0 (first_among I (one p run hooks q t normal bare I g s n) behind) b

  pub begins : (test : Solution → Bool) → IsTest p run hooks q t normal bare I test → q.exec ≡ true → (b : ℕ) → Left b b None
  begins test tests e b = record {
    test = test;
    tests = tests;
    before = [];
    behind = All;
    parts = refl;
    last_is = refl;
    goes_on = λ g s same. record { known = λ o after G. subst (λ f. IsKnown I f b o after) (sym (at_all p run hooks q t normal bare I g s n e same)) G };
  }

  -- x comes next
  pub record HasNext (b0 b : ℕ) (x : Solution) : Type 0 where
    pub test : Solution → Bool
    pub tests : IsTest p run hooks q t normal bare I test
    pub before : List Solution
    pub behind : List Solution
    pub parts : all p run hooks q t normal bare ≡ before ++ (x ∷ behind)
    pub passes : test x ≡ true
    pub goes_on : (g : Turns) (s : Place) → s.term ≡ t → GoesOn I (rule_at (program_over p hooks) g s (n, q)) b0 (first_among I (one p run hooks q t normal bare I g s n) (x ∷ behind)) b

  pub is_listed : (b0 b : ℕ) (x : Solution) → HasNext b0 b x → IsIn x (all p run hooks q t normal bare)
  is_listed b0 b x h = subst (IsIn x) (sym h.parts) (among h.before h.behind x)

  -- what is left of them is listed
  behind_listed : (b0 b : ℕ) (last : Option Matcher) (l : Left b0 b last) (x : Solution) → IsIn x l.behind → IsIn x (solutions_within (terms_over p.sig) q.left t)
  behind_listed b0 b last l x i = subst (IsIn x) (sym l.parts) (behind_in l.before l.behind x i)

  module _ (remembers : Bool) (nodes : List Node) (table : Table) (derived : IsDerivedTable (meanings_by p hooks I.limit remembers) nodes table) (settled : AreSettled p.sig nodes table t) where
    abbrev pub IsNextOf : Option Matcher → Option Solution → Type 0
    IsNextOf last o = IsNext (IsSolution true p.sig (BySort p.sig derived.known) (question p run hooks q t normal bare)) (matcher_cmp (theory_at p.sig) q.left) last (option_map as_matcher o)

    first : (b0 b : ℕ) (last : Option Matcher) (l : Left b0 b last) (o : Option Solution) → IsNextOf last o → o ≡ head (keep l.test l.behind)
    first b0 b last l o is = next_first p run hooks q t normal bare I remembers nodes table derived settled l.test l.tests l.before l.behind l.parts o (subst (λ m. IsNextOf m o) l.last_is is)

    pub none_next : (b0 b : ℕ) (last : Option Matcher) → Left b0 b last → IsNextOf last None → (g : Turns) (s : Place) → s.term ≡ t → Gives I (rule_at (program_over p hooks) g s (n, q)) b0 None 0 b
    none_next b0 b last l is g s same =
        let fail = none_kept l.test l.behind (empty (keep l.test l.behind) (first b0 b last l None is)) in
        (l.goes_on g s same).known (got None 0) b
        (subst (λ ys. Gives I (first_among I (One g s) ys) b None 0 b) (append-nil l.behind)
        ((all_passed_by I (One g s) l.behind [] b (fail_none p run hooks q t normal bare I g s n l.test l.tests l.behind (behind_listed b0 b last l) fail)).known (got None 0) b (none_known I (One g s) b)))
      where
        empty : (zs : List Solution) → None ≡ head zs → zs ≡ []
        empty [] e = refl
        empty (z ∷ zs) e = cc

    pub one_next : (b0 b : ℕ) (last : Option Matcher) → Left b0 b last → (x : Solution) → IsNextOf last (Some x) → HasNext b0 b x
    one_next b0 b last l x is = by (keep l.test l.behind) refl
      where
        from : (zs : List Solution) (z : Solution) (h : HasFirst l.test l.behind z zs) → z ≡ x → HasNext b0 b x
        from zs z h e = subst (HasNext b0 b) e (record {
          test = l.test;
          tests = l.tests;
          before = l.before ++ h.failed;
          behind = h.behind;
          parts = l.parts ∙ (ap (λ ys. l.before ++ ys) h.parts ∙ sym (append_assoc l.before h.failed (z ∷ h.behind)));
          passes = h.passes;
          goes_on = λ g s same.
              goes_on_twice I (One g s) (Whole g s) (first_among I (One g s) l.behind) (first_among I (One g s) (z ∷ h.behind)) b0 b b (l.goes_on g s same)
              (subst (λ ys. GoesOn I (first_among I (One g s) ys) b (first_among I (One g s) (z ∷ h.behind)) b) (sym h.parts)
              (all_passed_by I (One g s) h.failed (z ∷ h.behind) b (fail_none p run hooks q t normal bare I g s n l.test l.tests h.failed (λ y i. behind_listed b0 b last l y (subst (IsIn y) (sym h.parts) (first_in h.failed (z ∷ h.behind) y i))) h.fail)));
        })

        by : (zs : List Solution) → keep l.test l.behind ≡ zs → HasNext b0 b x
        by [] e = absurd (clash (first b0 b last l (Some x) is ∙ ap head e))
          where
            clash : Some x ≡ None → ⊥
            clash k = cc
        by (z ∷ zs) e = from zs z (first_kept l.test l.behind z zs e) (same (first b0 b last l (Some x) is ∙ ap head e))
          where
            same : Some x ≡ Some z → z ≡ x
            same k = cc

  -- ---- what comes of it

  pub goes_past : (b0 b : ℕ) (x : Solution) → HasNext b0 b x → (r after : ℕ) → Gives I (Asked x) b None r after → Left b0 after (Some (as_matcher x))
  goes_past b0 b x h r after G = record {
    test = h.test;
    tests = h.tests;
    before = h.before ++ x ∷ [];
    behind = h.behind;
    parts = h.parts ∙ sym (append_assoc h.before (x ∷ []) h.behind);
    last_is = sym (ap (λ zs. last_of None (map as_matcher zs)) (keep-append h.test h.before (x ∷ []) ∙ ap (λ b. keep h.test h.before ++ (if b then x ∷ [] else [])) h.passes)
        ∙ (ap (last_of None) (map-append as_matcher (keep h.test h.before) (x ∷ [])) ∙ last_more None (map as_matcher (keep h.test h.before)) (as_matcher x)));
    goes_on = λ g s same.
        goes_on_twice I (One g s) (Whole g s) (first_among I (One g s) (x ∷ h.behind)) (first_among I (One g s) h.behind) b0 b after (h.goes_on g s same)
        (passed_by I (One g s) x h.behind b 0 after (one_not_shown p run hooks q t normal bare I g s n h.test h.tests x (is_listed b0 b x h) h.passes b r after G));
  }

  pub comes_to : (b0 b : ℕ) (x : Solution) → HasNext b0 b x → (σ : Binding) (r after : ℕ) → Gives I (Asked x) b (Some σ) r after → (g : Turns) (s : Place) → s.term ≡ t →
      Gives I (rule_at (program_over p hooks) g s (n, q)) b0 (Some (stand_by (program_over p hooks) g s (n, q) x.left x.right σ)) r after
  comes_to b0 b x h σ r after G g s same =
      (h.goes_on g s same).known (got (Some (stand_by (program_over p hooks) g s (n, q) x.left x.right σ)) r) after
      (else_some I (λ k E. One g s k E x) (first_among I (One g s) h.behind) b (stand_by (program_over p hooks) g s (n, q) x.left x.right σ) r after
      (one_shown p run hooks q t normal bare I g s n h.test h.tests x (is_listed b0 b x h) h.passes b σ r after G))

  pub ends_so : (b0 b : ℕ) (x : Solution) → HasNext b0 b x → (e : End) → Fails I (Asked x) b e → (g : Turns) (s : Place) → s.term ≡ t → Fails I (rule_at (program_over p hooks) g s (n, q)) b0 e
  ends_so b0 b x h e G g s same =
      (h.goes_on g s same).known (fails e) 0
      (else_fails_first I (λ k E. One g s k E x) (first_among I (One g s) h.behind) b e (one_ends p run hooks q t normal bare I g s n h.test h.tests x (is_listed b0 b x h) h.passes b e G))
