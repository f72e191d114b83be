-- Rules that may not apply under the top of a term give nothing there, so the others alone are tried.
use Rattle.std.proofs.Common.{◌≡◌, ◌≤◌, ◌<◌, ◌+◌, ℕ, zero, suc, List, [], ◌∷◌, ◌++◌, Bool, true, false, ◌||◌, ◌&&◌, ◌⊎◌, not, if◌then◌else◌, Option, Some, None, slice_get, is_some, map, length, take, drop, get_or, inl, inr, refl, sym, ap, ap₂, ◌∙◌, subst, arith, eq-eqb, below_more, length-append}
use Rattle.std.specs.Prelude.{nat_lt}
use Rattle.std.specs.List.{count_by}
use Rattle.std.proofs.Math.Bool.{cond}
use Rattle.std.proofs.lemmas.Bool.{lt-ltb, le-ltb}
use Rattle.std.proofs.Math.Seq.{get_or-append_seam}
use Rattle.std.proofs.lemmas.List.Sums.{sum_by-cons}
use Rattle.std.proofs.lemmas.List.{take-append-drop, take_more, map-append, length-map, get_or-map, get_or_append_left}
use Rattle.mau_terms.specs.Tree.{Tree, variable, numeral, apply}
use Rattle.mau_terms.specs.Norm.{norm}
use Rattle.mau_terms.specs.Bare.{IsBare, IsLawful}
use Rattle.mau_terms.specs.Reading.{reading}
use Rattle.mau_terms.specs.Solution.{FitsWithin}
use Rattle.mau_terms.specs.Finite.{IsIn}
use Rattle.mau_terms.specs.declared.theory.Identity.{Identity}
use Rattle.mau_terms.specs.declared.theory.Theory.{Theory}
use Rattle.mau_terms.proofs.Law.{equal_norm}
use Rattle.mau_signature.specs.Signature.{SignatureOf, theory_at, terms_over}
use Rattle.mau_formula.specs.Operator.{Operator}
use Rattle.mau_program.specs.declared.program.Program as Typed
use Rattle.mau_program.specs.declared.statements.Rule as Written
use Rattle.mau_evaluation.specs.Run.{done, Run, or_go_on, first_of, where_true}
use Rattle.mau_evaluation.specs.Program.{Rule, Program}
use Rattle.mau_evaluation.specs.Listing.{Solution, keep, solutions_within}
use Rattle.mau_evaluation.specs.Rules.{Place}
use Rattle.mau_evaluation.specs.RuleRuns.{Turns, numbered, cyclically}
use Rattle.mau_evaluation.proofs.BareTerms.{norm-reading-is}
use Rattle.mau_evaluation.proofs.Solved.{solutions_within_are_listed}
use Rattle.mau_evaluation.proofs.Listed.{split_append, from_keep}
use Rattle.mau_api.specs.Programs.{rule_of, program_over}
use Rattle.mau_reduce.specs.ByTop.{top_number, stays_on_top, firm_top, may_apply}
use Rattle.mau_reduce.proofs.FirmTops.{at_top}
use Rattle.mau_reduce.proofs.Ordered.{keep_more, take_whole}
use Rattle.mau_rules.specs.Runnable.{IsRunnable}
use Rattle.mau_rules.specs.Known.{Item}
use Rattle.mau_rules.specs.Found.{rule_at, rules_in, turn_at}
use Rattle.mau_rules.specs.ByTop.{may_rewrite, rules_under, numbers_under, AreRulesByTop}
use Rattle.mau_rules.proofs.Composed.{same_known}
use Rattle.mau_rules.proofs.Combined.{first_among}
use Rattle.mau_rules.proofs.Passing.{keep-append}
use Rattle.mau_rules.proofs.Cyclic.{numbered_length, numbered_at, cyclic_seam}
use Rattle.mau_rules.proofs.Placed.{LeftFrom, each_rule, rules_cyclic, get_there, get_mapped}
use Rattle.mau_rules.proofs.Shown.{lawful_rule}
use Rattle.mau_rules.proofs.Trying.{one, at_all}

-- ---- left sides that match nothing

no_such : {A : Type 0} → true ≡ false → A
no_such e = cc

none_in : {A : Type 0} (xs : List A) → ((x : A) → IsIn x xs → ⊥) → xs ≡ []
none_in [] h = refl
none_in (x ∷ xs) h = absurd (h x (inl refl))

parts : (i : Option Identity) (s : Bool) → not (is_some i || s) ≡ true → (i ≡ None) × (s ≡ false)
parts (Some x) s e = cc
parts None true e = cc
parts None false e = (refl, refl)

module _ (s : SignatureOf) (lawful : IsLawful (terms_over s)) (t : Tree) (normal : norm (theory_at s) t ≡ t) (bare : IsBare (terms_over s) (reading (theory_at s) t)) where
  abbrev th : ℕ → Theory
  th = theory_at s

  whole : norm th (reading th t) ≡ t
  whole = norm-reading-is th lawful.theories t normal

  -- the top of what a left side matches
  its_top : (p : Tree) → IsBare (terms_over s) p → (f : ℕ) → firm_top th p ≡ Some f → (vs left right : List Tree) → FitsWithin (terms_over s) p (reading th t) vs left right → f ≡ top_number t
  its_top (variable i r) b f e vs left right fits = cc
  its_top (numeral n) b f e vs left right fits =
      let same : f ≡ 0 = cc in
      same ∙ (ap top_number (equal_norm (terms_over s) lawful fits.0.equal) ∙ ap top_number whole)
  its_top (apply g ps) b f e vs left right fits = by (stays_on_top (th g)) refl e
    where
      by : (w : Bool) → stays_on_top (th g) ≡ w → (if w then Some g else None) ≡ Some f → f ≡ top_number t
      by false k h = cc
      by true k h =
          let both = parts (th g).id (th g).succ k in
          let same : f ≡ g = cc in
          same ∙ (sym (at_top s lawful g both.0 both.1 ps b (reading th t) vs left right fits) ∙ ap top_number whole)

  pub none_listed : (p : Tree) → IsBare (terms_over s) p → may_apply (firm_top th p) (top_number t) ≡ false → solutions_within (terms_over s) p t ≡ []
  none_listed p b h = none_in (solutions_within (terms_over s) p t) (λ x i. no x i (firm_top th p) refl h)
    where
      no : (x : Solution) → IsIn x (solutions_within (terms_over s) p t) → (o : Option ℕ) → firm_top th p ≡ o → may_apply o (top_number t) ≡ false → ⊥
      no x i None e k = no_such k
      no x i (Some f) e k =
          let fits = ((solutions_within_are_listed (terms_over s) lawful p (reading th t) bare).0 x (subst (λ u. IsIn x (solutions_within (terms_over s) p u)) (sym whole) i)).1 in
          let same = its_top p b f e (map (reading th) x.values) x.left x.right fits in
          no_such (sym (eq-eqb f (top_number t) same) ∙ k)

-- ---- numbered rules

-- one of them, by its number
pub record IsNumbered (rs : List Written.Rule) (n : ℕ) (q : ℕ × Rule) : Type 0 where
  pub index : ℕ
  pub rule : Written.Rule
  pub at : slice_get rs index ≡ Some rule
  pub is : q ≡ (n + index, rule_of rule)

pub in_numbered : (rs : List Written.Rule) (n : ℕ) (q : ℕ × Rule) → IsIn q (numbered n (map rule_of rs)) → IsNumbered rs n q
in_numbered [] n q i = absurd i
in_numbered (r ∷ rs) n q (inl e) = record { index = 0; rule = r; at = refl; is = e ∙ ap (λ k. (k, rule_of r)) (omega arith) }
in_numbered (r ∷ rs) n q (inr i) =
    let h = in_numbered rs (suc n) q i in
    record { index = suc h.index; rule = h.rule; at = h.at; is = h.is ∙ ap (λ k. (k, rule_of h.rule)) (omega arith) }

in_drop : {A : Type 0} (n : ℕ) (x : A) (xs : List A) → IsIn x (drop n xs) → IsIn x xs
in_drop zero x [] i = absurd i
in_drop (suc n) x [] i = absurd i
in_drop zero x (y ∷ ys) i = i
in_drop (suc n) x (y ∷ ys) i = inr (in_drop n x ys i)

in_take : {A : Type 0} (n : ℕ) (x : A) (xs : List A) → IsIn x (take n xs) → IsIn x xs
in_take zero x [] i = absurd i
in_take (suc n) x [] i = absurd i
in_take zero x (y ∷ ys) i = absurd i
in_take (suc n) x (y ∷ ys) (inl e) = inl e
in_take (suc n) x (y ∷ ys) (inr i) = inr (in_take n x ys i)

in_cyclic : (n : ℕ) (q : ℕ × Rule) (qs : List (ℕ × Rule)) → IsIn q (cyclically n qs) → IsIn q qs
in_cyclic n q qs i = by (split_append q (drop n qs) (take n qs) i)
  where
    by : IsIn q (drop n qs) ⊎ IsIn q (take n qs) → IsIn q qs
    by (inl j) = in_drop n q qs j
    by (inr j) = in_take n q qs j

-- ---- how many of those that are kept stand among the first n

module _ (test : ℕ × Rule → Bool) where
  abbrev kept_numbers : List (ℕ × Rule) → List ℕ
  kept_numbers qs = map (λ q. q.0) (keep test qs)

  abbrev lower : ℕ → List ℕ → ℕ
  lower n is = count_by (λ i. nat_lt i n) is

  none_lower : (n m : ℕ) (rs : List Rule) → n ≤ m → lower n (kept_numbers (numbered m rs)) ≡ 0
  none_lower n m [] h = refl
  none_lower n m (r ∷ rs) h = by (test (m, r)) (none_lower n (suc m) rs (omega (arith, h)))
    where
      by : (b : Bool) → lower n (kept_numbers (numbered (suc m) rs)) ≡ 0 →
          lower n (map (λ (q : ℕ × Rule). q.0) (if b then (m, r) ∷ keep test (numbered (suc m) rs) else keep test (numbered (suc m) rs))) ≡ 0
      by false e = e
      by true e =
          sum_by-cons (λ i. cond (nat_lt i n) 1 0) m (kept_numbers (numbered (suc m) rs))
          ∙ ap₂ (λ (c : Bool) (k : ℕ). cond c 1 0 + k) (le-ltb m n h) e

  counted : (m n : ℕ) (rs : List Rule) → lower (m + n) (kept_numbers (numbered m rs)) ≡ length (keep test (take n (numbered m rs)))
  counted m zero [] = refl
  counted m (suc n) [] = refl
  counted m zero (r ∷ rs) = none_lower (m + 0) m (r ∷ rs) (omega arith)
  counted m (suc n) (r ∷ rs) = by (test (m, r)) (ap (λ k. lower k (kept_numbers (numbered (suc m) rs))) shift ∙ counted (suc m) n rs)
    where
      shift : m + suc n ≡ suc m + n
      shift = omega arith

      by : (b : Bool) → lower (m + suc n) (kept_numbers (numbered (suc m) rs)) ≡ length (keep test (take n (numbered (suc m) rs))) →
          lower (m + suc n) (map (λ (q : ℕ × Rule). q.0) (if b then (m, r) ∷ keep test (numbered (suc m) rs) else keep test (numbered (suc m) rs)))
          ≡ length (if b then (m, r) ∷ keep test (take n (numbered (suc m) rs)) else keep test (take n (numbered (suc m) rs)))
      by false e = e
      by true e =
          sum_by-cons (λ i. cond (nat_lt i (m + suc n)) 1 0) m (kept_numbers (numbered (suc m) rs))
          ∙ (ap₂ (λ (c : Bool) (k : ℕ). cond c 1 0 + k) (lt-ltb m (m + suc n) (omega arith)) e ∙ omega arith)

  -- those from the turn on, and then the others
  kept_cyclic : (n : ℕ) (rs : List Rule) → keep test (cyclically n (numbered 0 rs)) ≡ cyclically (lower n (kept_numbers (numbered 0 rs))) (keep test (numbered 0 rs))
  kept_cyclic n rs =
      let qs = numbered 0 rs in
      let before = keep test (take n qs) in
      let behind = keep test (drop n qs) in
      let both : keep test qs ≡ before ++ behind = ap (keep test) (sym (take-append-drop n qs)) ∙ keep-append test (take n qs) (drop n qs) in
      let many : lower n (kept_numbers qs) ≡ length before = ap (λ k. lower k (kept_numbers qs)) (omega arith) ∙ counted 0 n rs in
      keep-append test (drop n qs) (take n qs) ∙ (sym (cyclic_seam (keep test qs) before behind both) ∙ ap (λ k. cyclically k (keep test qs)) (sym many))

-- ---- rules that are passed by

module _ (p : Typed.Program) (run : IsRunnable p) (hooks : List Operator) (t : Tree) (normal : norm (theory_at p.sig) t ≡ t) (bare : IsBare (terms_over p.sig) (reading (theory_at p.sig) t)) where
  abbrev P : Program
  P = program_over p hooks

  abbrev test : ℕ × Rule → Bool
  test = may_rewrite (theory_at p.sig) (top_number t)

  left_bare : (q : ℕ × Rule) → IsIn q (numbered 0 P.rules) → IsBare (terms_over p.sig) q.1.left
  left_bare q i =
      let h = in_numbered p.rules 0 q i in
      let sides = (lawful_rule p run h.index h.rule h.at).parts.sides in
      subst (λ (z : ℕ × Rule). IsBare (terms_over p.sig) z.1.left) (sym h.is) (sides.kind, sides.first)

  module _ (I : Item) (h : Turns) (s : Place) (same : s.term ≡ t) where
    passed : (q : ℕ × Rule) → IsBare (terms_over p.sig) q.1.left → test q ≡ false → (k E b : ℕ) → rule_at P h s q k E b ≡ done None 0 b
    passed q left e k E b = by q.1.exec (may_apply (firm_top (theory_at p.sig) q.1.left) (top_number t)) refl refl e
      where
        by : (x m : Bool) → q.1.exec ≡ x → may_apply (firm_top (theory_at p.sig) q.1.left) (top_number t) ≡ m → (x && m) ≡ false → rule_at P h s q k E b ≡ done None 0 b
        by false m d f g = ap (λ w. where_true w (first_of (one p run hooks q.1 t normal bare I h s q.0 k E) (solutions_within (terms_over p.sig) q.1.left s.term)) b) d
        by true true d f g = no_such g
        by true false d f g =
            ap (λ (w : ℕ → ℕ → Run (Option _)). w k E b) (at_all p run hooks q.1 t normal bare I h s q.0 d same)
            ∙ ap (λ xs. first_of (one p run hooks q.1 t normal bare I h s q.0 k E) xs b) (none_listed p.sig run.reducible.lawful t normal bare q.1.left left f)

    kept_first : (qs : List (ℕ × Rule)) → ((q : ℕ × Rule) → IsIn q qs → IsBare (terms_over p.sig) q.1.left) → (k E b : ℕ) →
        first_of (each_rule P I h s k E) (keep test qs) b ≡ first_of (each_rule P I h s k E) qs b
    kept_first [] left k E b = refl
    kept_first (q ∷ qs) left k E b = by (kept_first qs (λ z i. left z (inr i)) k E) (test q) refl
      where
        by : ((c : ℕ) → first_of (each_rule P I h s k E) (keep test qs) c ≡ first_of (each_rule P I h s k E) qs c) → (w : Bool) → test q ≡ w →
            first_of (each_rule P I h s k E) (if w then q ∷ keep test qs else keep test qs) b ≡ or_go_on (first_of (each_rule P I h s k E) qs) (rule_at P h s q k E b)
        by rest true e = ap (λ K. or_go_on K (rule_at P h s q k E b)) (λ j c. rest c j)
        by rest false e = rest b ∙ sym (ap (or_go_on (first_of (each_rule P I h s k E) qs)) (passed q (left q (inl refl)) e k E b))

    -- the search begins with those that may apply
    pub begins_under : (turn first : ℕ) → turn_at h t ≡ turn → first ≡ count_by (λ i. nat_lt i turn) (numbers_under p (top_number t)) → (b : ℕ) →
        LeftFrom I (each_rule P I h s) (rules_in P h s) b (cyclically first (rules_under p (top_number t))) b
    begins_under turn first e m b = record { known = λ o after G. same_known I (rules_in P h s) (first_among I (each_rule P I h s) (cyclically first (rules_under p (top_number t)))) all b o after G }
      where
        order : keep test (cyclically turn (numbered 0 P.rules)) ≡ cyclically first (rules_under p (top_number t))
        order = kept_cyclic test turn P.rules ∙ ap (λ k. cyclically k (rules_under p (top_number t))) (sym m)

        all : (k E c : ℕ) → rules_in P h s k E c ≡ first_among I (each_rule P I h s) (cyclically first (rules_under p (top_number t))) k E c
        all k E c =
            ap (λ qs. first_of (each_rule P I h s k E) qs c) (rules_cyclic P I h s s.term ∙ ap (λ j. cyclically j (numbered 0 P.rules)) (ap (turn_at h) same ∙ e))
            ∙ (sym (kept_first (cyclically turn (numbered 0 P.rules)) (λ q i. left_bare q (in_cyclic turn q (numbered 0 P.rules) i)) k E c)
            ∙ ap (λ qs. first_of (each_rule P I h s k E) qs c) order)

    -- where no rule may apply there is none
    pub none_under : rules_under p (top_number t) ≡ [] → (k E b : ℕ) → rules_in P h s k E b ≡ done None 0 b
    none_under none k E b =
        let turn = turn_at h s.term in
        ap (λ qs. first_of (each_rule P I h s k E) qs b) (rules_cyclic P I h s s.term)
        ∙ (sym (kept_first (cyclically turn (numbered 0 P.rules)) (λ q i. left_bare q (in_cyclic turn q (numbered 0 P.rules) i)) k E b)
        ∙ ap (λ qs. first_of (each_rule P I h s k E) qs b) (kept_cyclic test turn P.rules ∙ (ap (cyclically (lower test turn (kept_numbers test (numbered 0 P.rules)))) none ∙ nothing (lower test turn (kept_numbers test (numbered 0 P.rules))))))
      where
        nothing : (n : ℕ) → cyclically n [] ≡ []
        nothing zero = refl
        nothing (suc n) = refl

-- ---- numbers that are listed one after another

first_if : (b : Bool) (q : ℕ × Rule) → map (λ (z : ℕ × Rule). z.0) (if b then q ∷ [] else []) ≡ (if b then q.0 ∷ [] else [])
first_if true q = refl
first_if false q = refl

-- those of the first n rules
abbrev pub numbers_before : Typed.Program → ℕ → ℕ → List ℕ
numbers_before p g n = map (λ q. q.0) (keep (may_rewrite (theory_at p.sig) g) (take n (numbered 0 (map rule_of p.rules))))

pub numbers_begin : (p : Typed.Program) (g : ℕ) (kept : List ℕ) → kept ≡ [] → kept ≡ numbers_before p g 0
numbers_begin p g kept e = e ∙ ap (λ qs. map (λ (q : ℕ × Rule). q.0) (keep (may_rewrite (theory_at p.sig) g) qs)) (sym (none (numbered 0 (map rule_of p.rules))))
  where
    none : (qs : List (ℕ × Rule)) → take 0 qs ≡ []
    none [] = refl
    none (q ∷ qs) = refl

pub numbers_more : (p : Typed.Program) (g n : ℕ) (b : Bool) (old new : List ℕ) → n < length p.rules →
    ((r : Written.Rule) → slice_get p.rules n ≡ Some r → b ≡ may_rewrite (theory_at p.sig) g (n, rule_of r)) → new ≡ old ++ (if b then n ∷ [] else []) → old ≡ numbers_before p g n → new ≡ numbers_before p g (n + 1)
numbers_more p g n b old new low meant e before =
    let r = get_there p.rules n low in
    let qs = numbered 0 (map rule_of p.rules) in
    let q : ℕ × Rule = (n, rule_of r.0) in
    let keeps = may_rewrite (theory_at p.sig) g in
    let at : get_or qs n q ≡ q =
    numbered_at 0 (map rule_of p.rules) n (rule_of r.0) q (omega (arith, low, length-map p.rules rule_of))
    ∙ ap₂ (λ (k : ℕ) (z : Rule). (k, z)) (omega arith) (get_mapped rule_of p.rules n r.0 (rule_of r.0) r.1) in
    let long : n < length qs = omega (arith, low, length-map p.rules rule_of, numbered_length 0 (map rule_of p.rules)) in
    let taken : take (n + 1) qs ≡ take n qs ++ q ∷ [] = take_more qs n q long ∙ ap (λ z. take n qs ++ z ∷ []) at in
    e
    ∙ (ap₂ (λ ns (c : Bool). ns ++ (if c then n ∷ [] else [])) before (meant r.0 r.1)
    ∙ (ap (λ ns. numbers_before p g n ++ ns) (sym (first_if (keeps q) q))
    ∙ (sym (map-append (λ (z : ℕ × Rule). z.0) (keep keeps (take n qs)) (if keeps q then q ∷ [] else []))
    ∙ (ap (map (λ (z : ℕ × Rule). z.0)) (sym (keep_more keeps (take n qs) q))
    ∙ ap (λ zs. map (λ (z : ℕ × Rule). z.0) (keep keeps zs)) (sym taken)))))

pub numbers_whole : (p : Typed.Program) (g n : ℕ) (kept : List ℕ) → length p.rules ≤ n → kept ≡ numbers_before p g n → kept ≡ numbers_under p g
numbers_whole p g n kept h e =
    e ∙ ap (λ zs. map (λ (z : ℕ × Rule). z.0) (keep (may_rewrite (theory_at p.sig) g) zs))
    (take_whole (numbered 0 (map rule_of p.rules)) n (omega (arith, h, length-map p.rules rule_of, numbered_length 0 (map rule_of p.rules))))

-- the lists of the first n tops
pub record AreFirst (p : Typed.Program) (n : ℕ) (lists : List (List ℕ)) : Type 0 where
  pub one_each : length lists ≡ n
  pub under : (g : ℕ) → g < n → get_or lists g [] ≡ numbers_under p g

pub first_none : (p : Typed.Program) (lists : List (List ℕ)) → lists ≡ [] → AreFirst p 0 lists
first_none p lists e = record { one_each = ap (λ (z : List (List ℕ)). length z) e; under = λ g h. absurd (omega (arith, h)) }

pub first_more : (p : Typed.Program) (n : ℕ) (old new : List (List ℕ)) (ns : List ℕ) → new ≡ old ++ ns ∷ [] → ns ≡ numbers_under p n → AreFirst p n old → AreFirst p (n + 1) new
first_more p n old new ns e k a = record {
  one_each = ap (λ (z : List (List ℕ)). length z) e ∙ (length-append old (ns ∷ []) ∙ ap (λ m. m + 1) a.one_each);
  under = below_more (λ g. get_or new g [] ≡ numbers_under p g) n
      (λ g h. ap (λ (z : List (List ℕ)). get_or z g []) e ∙ (get_or_append_left old (ns ∷ []) [] g (omega (arith, h, a.one_each)) ∙ a.under g h))
      (ap (λ (z : List (List ℕ)). get_or z n []) e ∙ (ap (λ m. get_or (old ++ ns ∷ []) m []) (sym a.one_each) ∙ (get_or-append_seam old ns [] [] ∙ k)));
}

pub first_all : (p : Typed.Program) (n : ℕ) (lists : List (List ℕ)) → n ≡ suc (length p.sig.declarations) → AreFirst p n lists → AreRulesByTop p lists
first_all p n lists e a = record { one_each = a.one_each ∙ e; under = λ g h. a.under g (omega (arith, h, a.one_each)) }

-- ---- by the place of a number in the list

there : {A : Type 0} (xs : List A) (i : ℕ) → i < length xs → (x : A) × IsIn x xs × ((d : A) → get_or xs i d ≡ x)
there [] i h = absurd (omega arith)
there (x ∷ xs) zero h = (x, inl refl, λ d. refl)
there (x ∷ xs) (suc i) h = let r = there xs i (omega arith) in (r.0, inr r.1, r.2)

-- the rule with this number is there, and it is the one of the list
pub record StandsUnder (p : Typed.Program) (g i number : ℕ) : Type 0 where
  pub rule : Written.Rule
  pub at : slice_get p.rules number ≡ Some rule
  pub is : get_or (rules_under p g) i (number, rule_of rule) ≡ (number, rule_of rule)

pub stands_under : (p : Typed.Program) (g i number : ℕ) → i < length (rules_under p g) → number ≡ get_or (numbers_under p g) i 0 → StandsUnder p g i number
stands_under p g i number low e =
    let qs = rules_under p g in
    let r = there qs i low in
    let h = in_numbered p.rules 0 r.0 (from_keep (may_rewrite (theory_at p.sig) g) r.0 (numbered 0 (map rule_of p.rules)) r.1).0 in
    let same : number ≡ h.index = e ∙ (get_or-map (λ (q : ℕ × Rule). q.0) qs i r.0 0 low ∙ (ap (λ (q : ℕ × Rule). q.0) (r.2 r.0 ∙ h.is) ∙ omega arith)) in
    record {
      rule = h.rule;
      at = subst (λ k. slice_get p.rules k ≡ Some h.rule) (sym same) h.at;
      is = r.2 (number, rule_of h.rule) ∙ (h.is ∙ ap (λ k. (k, rule_of h.rule)) (omega (arith, same)));
    }
