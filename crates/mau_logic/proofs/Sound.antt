-- What derivable facts say holds in rewriting logic.
use Rattle.std.proofs.Common.{◌≡◌, ℕ, zero, suc, List, [], ◌∷◌, ◌++◌, map, length, Bool, true, false, ◌&&◌, ◌||◌, Some, None, refl, sym, ap, ◌∙◌, subst, arith, if◌then◌else◌}
use Rattle.std.specs.Prelude.{All, Contains, nat_lt}
use Rattle.std.proofs.lemmas.List.Elements.{All-head, All-tail}
use Rattle.mau_terms.specs.Tree.{Tree}
use Rattle.mau_terms.specs.Norm.{norm}
use Rattle.mau_terms.specs.Reading.{nest, reading}
use Rattle.mau_terms.specs.Bare.{IsBare, IsLawful, EqualModulo}
use Rattle.mau_terms.specs.Subst.{Variable, same_variable, has_variable, value_at, instance}
use Rattle.mau_terms.specs.Solution.{HaveSorts}
use Rattle.mau_terms.specs.View.{tree_of}
use Rattle.mau_terms.proofs.Chains.{first_bare, last_bare}
use Rattle.mau_terms.proofs.Instances.{sort_holds}
use Rattle.mau_terms.proofs.Law.{equal_reading}
use Rattle.mau_terms.proofs.Variables.{same_itself}
use Rattle.mau_signature.specs.Signature.{SignatureOf, theory_at, terms_over}
use Rattle.mau_sigcheck.specs.Built.{IsBuiltAndAccepted}
use Rattle.mau_formula.specs.Operator.{Operator}
use Rattle.mau_program.specs.declared.statements.Fragment.{Fragment}
use Rattle.mau_program.specs.declared.statements.Fragment.TheVariants.{Equal, Match, Sort, Reach}
use Rattle.mau_program.specs.declared.program.Program.{Program}
use Rattle.mau_api.specs.Variables.{statement_variables}
use Rattle.mau_api.specs.Terms.{IsBareWithin, fill, holes, IsContextFor}
use Rattle.mau_logic.specs.Lines.{over}
use Rattle.mau_logic.specs.Says.{Says, leads, of_sort, says_nothing, all_equational, start_of, end_of}
use Rattle.mau_logic.specs.Shown.{known_by, HasSortBy, LeadsTo, Shows, ShowsAll}
use Rattle.mau_logic.specs.Justified.{With, Lead, IsUnder, LeadOn, membership_variables}
use Rattle.mau_logic.specs.Derivable.{Follows, same, by_equation as follows_equation, by_rule as follows_rule, by_built_in as follows_built_in, under, chain, declared, member, Derivable, derives, AreDerivable, no_facts, one_fact}
use Rattle.mau_logic.specs.Deduction.{Sentence, equals, belongs, rewrites, condition_of, premises, Holds, equal_itself, equal_back, equal_onward, equal_under, by_axiom, by_equation, by_built_in, variable_has, numeral_has, operator_has, kind_has, above_has, equal_has, by_membership, stays, rewrites_under, by_rule, rewrites_onward, rewrites_equal, AllHold, none_holds, one_holds}
use Rattle.mau_logic.specs.Laws.{Each, IsDeduced, FactsHold, SectionsAreSound, LeadsBy, LedIsSo}
use Rattle.mau_logic.proofs.MoreSorts.{told_by}
use Rattle.mau_built_ins.proofs.NormalTerms.{read_bare}
use Rattle.mau_logic.proofs.Congruence.{modulo, context_holds, nest_holds, part_bare}
use Rattle.mau_logic.proofs.SortsHold.{has_holds}
use Rattle.mau_logic.proofs.ToldRuns.{Pairwise}
use Rattle.mau_logic.proofs.SectionFacts.{sections_are_derivable}

-- ---- sentences that hold are about bare terms

abbrev AreBare : SignatureOf → Sentence → Type 0
AreBare s (equals t u) = IsBare (terms_over s) t × IsBare (terms_over s) u
AreBare s (belongs t r) = IsBare (terms_over s) t
AreBare s (rewrites t u) = IsBare (terms_over s) t × IsBare (terms_over s) u

module _ (p : Program) (hooks : List Operator) where
  bare_of : {x : Sentence} → Holds p hooks x → AreBare p.sig x
  bare_of (equal_itself b) = (b, b)
  bare_of (equal_back h) = let b = bare_of h in (b.1, b.0)
  bare_of (equal_onward h k) = ((bare_of h).0, (bare_of k).1)
  bare_of (equal_under f ts us b c h) = (b, c)
  bare_of (by_axiom x b c) = (b, c)
  bare_of (by_equation n e g at h b c) = (b, c)
  bare_of (by_built_in f ts w a e k b c) = (b, c)
  bare_of (variable_has i r b) = b
  bare_of (numeral_has n r b is) = b
  bare_of (operator_has f d ts among b l h) = b
  bare_of (kind_has {k = k} b) = (k, b)
  bare_of (above_has h low) = bare_of h
  bare_of (equal_has h k) = (bare_of h).1
  bare_of (by_membership n m g at h b) = b
  bare_of (stays b) = (b, b)
  bare_of (rewrites_under f ts us b c h) = (b, c)
  bare_of (by_rule n q g at h b c) = (b, c)
  bare_of (rewrites_onward h k) = ((bare_of h).0, (bare_of k).1)
  bare_of (rewrites_equal h k l) = ((bare_of h).0, (bare_of l).1)

  -- what is equal is rewritten in no step
  equal_rewrites : {t u : Tree} → Holds p hooks (equals t u) → Holds p hooks (rewrites t u)
  equal_rewrites h = let b = (bare_of h).1 in rewrites_equal h (stays b) (equal_itself b)

  each_contains : (P : Says → Type 0) (us : List Says) (x : Says) → Each P us → Contains us x → P x
  each_contains P [] x h c = absurd (let l = c.1 in omega arith)
  each_contains P (u ∷ us) x h (zero, l, e) = subst P e h.0
  each_contains P (u ∷ us) x h (suc i, l, e) = each_contains P us x h.1 (i, omega arith, e)

  -- ---- under operators

  under_equal : (c v w : Tree) → Holds p hooks (equals v w) → IsBare (terms_over p.sig) (fill c v) → IsBare (terms_over p.sig) (fill c w) → Holds p hooks (equals (fill c v) (fill c w))
  under_equal c v w h b d = context_holds p hooks equals (λ t k. equal_itself k) (λ f ts us x y k. equal_under f ts us x y k) v w h c b d

  under_rewrite : (c v w : Tree) → Holds p hooks (rewrites v w) → IsBare (terms_over p.sig) (fill c v) → IsBare (terms_over p.sig) (fill c w) → Holds p hooks (rewrites (fill c v) (fill c w))
  under_rewrite c v w h b d = context_holds p hooks rewrites (λ t k. stays k) (λ f ts us x y k. rewrites_under f ts us x y k) v w h c b d

  some_hole : (left c : Tree) → IsContextFor (terms_over p.sig) left c → holes c ≡ [] → ⊥
  some_hole left c (k, b, e) d = differ (sym e ∙ d)
    where
      differ : k ∷ [] ≡ [] → ⊥
      differ q = cc

  with_over : (f : ℕ) (ts : List Tree) (P : Tree → Type 0) → With (over p.sig f ts) P → P (nest (theory_at p.sig f).assoc f ts)
  with_over f ts P h = by ((theory_at p.sig f).assoc && nat_lt (length ts) 2) h
    where
      by : (b : Bool) → With (if b then None else Some (nest (theory_at p.sig f).assoc f ts)) P → P (nest (theory_at p.sig f).assoc f ts)
      by true k = absurd k
      by false k = k

  -- ---- several facts

  and_parts : (e d : Bool) → (e && d) ≡ true → (e ≡ true) × (d ≡ true)
  and_parts true d h = (refl, h)
  and_parts false d h = cc

  as_equal : (e : Bool) (t u : Tree) → e ≡ true → IsDeduced p hooks (leads e t u) → Holds p hooks (equals t u)
  as_equal true t u d h = h
  as_equal false t u d h = cc

  as_rewrite : (e : Bool) (t u : Tree) → IsDeduced p hooks (leads e t u) → Holds p hooks (rewrites t u)
  as_rewrite true t u h = equal_rewrites h
  as_rewrite false t u h = h

  lead_equal : (us : List Says) (ts vs : List Tree) → Lead us ts vs → Each (IsDeduced p hooks) us → all_equational us ≡ true → Pairwise (λ x y. Holds p hooks (equals x y)) ts vs
  lead_equal [] ts vs (e, d) h k = subst (λ w. Pairwise (λ x y. Holds p hooks (equals x y)) w vs) (sym e) (subst (λ w. Pairwise (λ x y. Holds p hooks (equals x y)) [] w) (sym d) tt)
  lead_equal (leads e t u ∷ us) ts vs (ts', vs', l, a, b) h k =
      let q = and_parts e (all_equational us) k in
      subst (λ w. Pairwise (λ x y. Holds p hooks (equals x y)) w vs) (sym a)
      (subst (λ w. Pairwise (λ x y. Holds p hooks (equals x y)) (t ∷ ts') w) (sym b) (as_equal e t u q.0 h.0, lead_equal us ts' vs' l h.1 q.1))
  lead_equal (of_sort t r ∷ us) ts vs l h k = absurd l
  lead_equal (says_nothing ∷ us) ts vs l h k = absurd l

  lead_rewrite : (us : List Says) (ts vs : List Tree) → Lead us ts vs → Each (IsDeduced p hooks) us → Pairwise (λ x y. Holds p hooks (rewrites x y)) ts vs
  lead_rewrite [] ts vs (e, d) h = subst (λ w. Pairwise (λ x y. Holds p hooks (rewrites x y)) w vs) (sym e) (subst (λ w. Pairwise (λ x y. Holds p hooks (rewrites x y)) [] w) (sym d) tt)
  lead_rewrite (leads e t u ∷ us) ts vs (ts', vs', l, a, b) h =
      subst (λ w. Pairwise (λ x y. Holds p hooks (rewrites x y)) w vs) (sym a)
      (subst (λ w. Pairwise (λ x y. Holds p hooks (rewrites x y)) (t ∷ ts') w) (sym b) (as_rewrite e t u h.0, lead_rewrite us ts' vs' l h.1))
  lead_rewrite (of_sort t r ∷ us) ts vs l h = absurd l
  lead_rewrite (says_nothing ∷ us) ts vs l h = absurd l

  -- by equations where all are, or else by rules too
  by_kind : (e : Bool) (t u : Tree) → (e ≡ true → Holds p hooks (equals t u)) → Holds p hooks (rewrites t u) → IsDeduced p hooks (leads e t u)
  by_kind true t u h k = h refl
  by_kind false t u h k = k

  under_holds : (f : ℕ) (us : List Says) (t u : Tree) → Each (IsDeduced p hooks) us → IsUnder p.sig f us t u → IsDeduced p hooks (leads (all_equational us) t u)
  under_holds f us t u h is =
      let from = with_over f is.starts (EqualModulo (terms_over p.sig) t) is.from in
      let to = with_over f is.ends (λ v. EqualModulo (terms_over p.sig) v u) is.to in
      by_kind (all_equational us) t u
      (λ k. equal_onward (modulo p hooks from) (equal_onward (nest_holds p hooks equals (λ v b. equal_itself b) (λ g ts vs x y q. equal_under g ts vs x y q) f (theory_at p.sig f).assoc is.starts is.ends (lead_equal us is.starts is.ends is.lead h k) (last_bare from) (first_bare to)) (modulo p hooks to)))
      (rewrites_equal (modulo p hooks from) (nest_holds p hooks rewrites (λ v b. stays b) (λ g ts vs x y q. rewrites_under g ts vs x y q) f (theory_at p.sig f).assoc is.starts is.ends (lead_rewrite us is.starts is.ends is.lead h) (last_bare from) (first_bare to)) (modulo p hooks to))

  chain_equal : (us : List Says) (t u : Tree) → Each (IsDeduced p hooks) us → LeadOn p.sig us → start_of us ≡ Some t → end_of us ≡ Some u → all_equational us ≡ true → Holds p hooks (equals t u)
  chain_equal [] t u h on e d k = absurd on
  chain_equal (leads b v w ∷ []) t u h on e d k =
      let q = and_parts b true k in
      subst (λ x. Holds p hooks (equals x u)) (let i : v ≡ t = cc in i) (subst (λ x. Holds p hooks (equals v x)) (let i : w ≡ u = cc in i) (as_equal b v w q.0 h.0))
  chain_equal (leads b v w ∷ leads c x y ∷ us) t u h on e d k =
      let q = and_parts b (all_equational (leads c x y ∷ us)) k in
      subst (λ z. Holds p hooks (equals z u)) (let i : v ≡ t = cc in i)
      (equal_onward (as_equal b v w q.0 h.0) (equal_onward (modulo p hooks on.0) (chain_equal (leads c x y ∷ us) x u h.1 on.1 refl d q.1)))
  chain_equal (leads b v w ∷ of_sort x r ∷ us) t u h on e d k = absurd on
  chain_equal (leads b v w ∷ says_nothing ∷ us) t u h on e d k = absurd on
  chain_equal (of_sort v r ∷ us) t u h on e d k = absurd on
  chain_equal (says_nothing ∷ us) t u h on e d k = absurd on

  chain_rewrite : (us : List Says) (t u : Tree) → Each (IsDeduced p hooks) us → LeadOn p.sig us → start_of us ≡ Some t → end_of us ≡ Some u → Holds p hooks (rewrites t u)
  chain_rewrite [] t u h on e d = absurd on
  chain_rewrite (leads b v w ∷ []) t u h on e d =
      subst (λ x. Holds p hooks (rewrites x u)) (let i : v ≡ t = cc in i) (subst (λ x. Holds p hooks (rewrites v x)) (let i : w ≡ u = cc in i) (as_rewrite b v w h.0))
  chain_rewrite (leads b v w ∷ leads c x y ∷ us) t u h on e d =
      subst (λ z. Holds p hooks (rewrites z u)) (let i : v ≡ t = cc in i)
      (rewrites_onward (as_rewrite b v w h.0) (rewrites_onward (equal_rewrites (modulo p hooks on.0)) (chain_rewrite (leads c x y ∷ us) x u h.1 on.1 refl d)))
  chain_rewrite (leads b v w ∷ of_sort x r ∷ us) t u h on e d = absurd on
  chain_rewrite (leads b v w ∷ says_nothing ∷ us) t u h on e d = absurd on
  chain_rewrite (of_sort v r ∷ us) t u h on e d = absurd on
  chain_rewrite (says_nothing ∷ us) t u h on e d = absurd on

  -- ---- what facts show

  leads_equal : (us : List Says) (t u : Tree) → Each (IsDeduced p hooks) us → LeadsTo p.sig us true t u → Holds p hooks (equals t u)
  leads_equal us t u h l =
      equal_onward (modulo p hooks l.from)
      (equal_onward (as_equal l.by_equations l.start l.end (l.kind refl) (each_contains (IsDeduced p hooks) us (leads l.by_equations l.start l.end) h l.fact)) (modulo p hooks l.to))

  leads_rewrite : (us : List Says) (t u : Tree) → Each (IsDeduced p hooks) us → LeadsTo p.sig us false t u → Holds p hooks (rewrites t u)
  leads_rewrite us t u h l =
      rewrites_equal (modulo p hooks l.from) (as_rewrite l.by_equations l.start l.end (each_contains (IsDeduced p hooks) us (leads l.by_equations l.start l.end) h l.fact)) (modulo p hooks l.to)

  module _ (accepted : IsBuiltAndAccepted p.sig) (lawful : IsLawful (terms_over p.sig)) where
    -- a bare term is equal to its normal form, read as a bare term
    read_equal : (t : Tree) → IsBare (terms_over p.sig) t → Holds p hooks (equals t (reading (theory_at p.sig) (norm (theory_at p.sig) t)))
    read_equal t b = modulo p hooks (equal_reading (terms_over p.sig) lawful t b)

    sort_by : (us : List Says) → Each (IsDeduced p hooks) us → (t : Tree) (r : ℕ) → IsBare (terms_over p.sig) t → HasSortBy p.sig us r t → Holds p hooks (belongs t r)
    sort_by us h t r b has =
        equal_has (equal_back (read_equal t b)) (has_holds p hooks accepted lawful (known_by p.sig us) told (norm (theory_at p.sig) t) r (b.0, read_bare p.sig lawful t b.0 b.1) has)
      where
        told : (v : Tree) (q : ℕ) → Contains (known_by p.sig us) (v, q) → IsBare (terms_over p.sig) (reading (theory_at p.sig) v) → Holds p hooks (belongs (reading (theory_at p.sig) v) q)
        told v q c w =
            let d = told_by p.sig us (v, q) c in
            let k : Holds p hooks (belongs d.0 d.1) = each_contains (IsDeduced p hooks) us (of_sort d.0 d.1) h d.2 in
            let e : Holds p hooks (belongs (reading (theory_at p.sig) (norm (theory_at p.sig) d.0)) d.1) = equal_has (read_equal d.0 (bare_of k)) k in
            subst (λ (z : Tree × ℕ). Holds p hooks (belongs (reading (theory_at p.sig) z.0) z.1)) d.3 e

    values_belong : (us : List Says) → Each (IsDeduced p hooks) us → (xs : List Variable) (vs : List Tree) → All (IsBareWithin p.sig) vs → HaveSorts (HasSortBy p.sig us) xs vs → HaveSorts (λ r v. Holds p hooks (belongs v r)) xs vs
    values_belong us h [] vs w has = tt
    values_belong us h (x ∷ xs) [] w has = absurd has
    values_belong us h (x ∷ xs) (v ∷ vs) w has =
        (sort_by us h v x.1 (All-head (IsBareWithin p.sig) v vs w).0 has.0, values_belong us h xs vs (All-tail (IsBareWithin p.sig) v vs w) has.1)

    all_sorted : (g : Variable → Tree) (xs : List Variable) → ((x : Variable) → has_variable xs x ≡ true → Holds p hooks (belongs (g x) x.1)) → AllHold p hooks (map (λ x. belongs (g x) x.1) xs)
    all_sorted g [] h = none_holds
    all_sorted g (x ∷ xs) h =
        one_holds (h x (ap (λ b. b || has_variable xs x) (same_itself x))) (all_sorted g xs (λ y e. h y (or_later (same_variable x y) (has_variable xs y) e)))
      where
        or_later : (a b : Bool) → b ≡ true → (a || b) ≡ true
        or_later true b e = refl
        or_later false b e = e

    values_sorted : (us : List Says) → Each (IsDeduced p hooks) us → (xs : List Variable) (vs : List Tree) → All (IsBareWithin p.sig) vs → HaveSorts (HasSortBy p.sig us) xs vs → AllHold p hooks (map (λ x. belongs (value_at xs vs x) x.1) xs)
    values_sorted us h xs vs w has = all_sorted (value_at xs vs) xs (λ x e. sort_holds (λ r v. Holds p hooks (belongs v r)) xs vs (values_belong us h xs vs w has) x e)

    fragment_holds : (us : List Says) → Each (IsDeduced p hooks) us → (g : Variable → Tree) (c : Fragment) → Shows p.sig us g c → Holds p hooks (condition_of g c)
    fragment_holds us h g (Equal t u) (v, a, b) = equal_onward (leads_equal us (instance g (tree_of t)) v h a) (equal_back (leads_equal us (instance g (tree_of u)) v h b))
    fragment_holds us h g (Match q u) a = leads_equal us (instance g (tree_of u)) (instance g (tree_of q)) h a
    fragment_holds us h g (Sort t r) (v, a, s) =
        let e = leads_equal us (instance g (tree_of t)) v h a in
        equal_has (equal_back e) (sort_by us h v r (bare_of e).1 s)
    fragment_holds us h g (Reach t u) a = leads_rewrite us (instance g (tree_of t)) (instance g (tree_of u)) h a

    condition_holds : (us : List Says) → Each (IsDeduced p hooks) us → (g : Variable → Tree) (cs : List Fragment) → ShowsAll p.sig us g cs → AllHold p hooks (map (condition_of g) cs)
    condition_holds us h g [] s = none_holds
    condition_holds us h g (c ∷ cs) s = one_holds (fragment_holds us h g c s.0) (condition_holds us h g cs s.1)

    all_and : (xs ys : List Sentence) → AllHold p hooks xs → AllHold p hooks ys → AllHold p hooks (xs ++ ys)
    all_and _ ys none_holds k = k
    all_and _ ys (one_holds {xs = xs} h hs) k = one_holds h (all_and xs ys hs k)

    premises_hold : (us : List Says) → Each (IsDeduced p hooks) us → (xs : List Variable) (vs : List Tree) (cs : List Fragment) → All (IsBareWithin p.sig) vs → HaveSorts (HasSortBy p.sig us) xs vs →
        ShowsAll p.sig us (value_at xs vs) cs → AllHold p hooks (premises (value_at xs vs) xs cs)
    premises_hold us h xs vs cs w has shown =
        all_and (map (λ x. belongs (value_at xs vs x) x.1) xs) (map (condition_of (value_at xs vs)) cs) (values_sorted us h xs vs w has) (condition_holds us h (value_at xs vs) cs shown)

    -- ---- facts

    follows_holds : (us : List Says) → Each (IsDeduced p hooks) us → (x : Says) → Follows p hooks us x → IsDeduced p hooks x
    follows_holds us h _ (same t u bt bu e) = modulo p hooks e
    follows_holds us h _ (follows_equation n e c t u vs at bc bt bu bvs is) =
        let xs = statement_variables (tree_of e.left) e.cond (tree_of e.right) in
        let g = value_at xs vs in
        let some = some_hole (tree_of e.left) c is.context in
        let left = last_bare is.from in
        let right = first_bare is.to in
        let one = by_equation n e g at (premises_hold us h xs vs e.cond bvs is.sorted is.shown)
        (part_bare (terms_over p.sig) (instance g (tree_of e.left)) c some left) (part_bare (terms_over p.sig) (instance g (tree_of e.right)) c some right) in
        equal_onward (modulo p hooks is.from) (equal_onward (under_equal c (instance g (tree_of e.left)) (instance g (tree_of e.right)) one left right) (modulo p hooks is.to))
    follows_holds us h _ (follows_rule n q c t u vs at bc bt bu bvs is) =
        let xs = statement_variables (tree_of q.left) q.cond (tree_of q.right) in
        let g = value_at xs vs in
        let some = some_hole (tree_of q.left) c is.context in
        let left = last_bare is.from in
        let right = first_bare is.to in
        let one = by_rule n q g at (premises_hold us h xs vs q.cond bvs is.sorted is.shown)
        (part_bare (terms_over p.sig) (instance g (tree_of q.left)) c some left) (part_bare (terms_over p.sig) (instance g (tree_of q.right)) c some right) in
        rewrites_equal (modulo p hooks is.from) (under_rewrite c (instance g (tree_of q.left)) (instance g (tree_of q.right)) one left right) (modulo p hooks is.to)
    follows_holds us h _ (follows_built_in f c t u ts bc bt bu bts is) =
        let some = some_hole is.whole c is.context in
        let after = reading (theory_at p.sig) (norm (theory_at p.sig) is.answer) in
        let left = last_bare is.from in
        let right = first_bare is.to in
        let one = by_built_in f ts is.whole is.answer is.over_arguments is.gives (part_bare (terms_over p.sig) is.whole c some left) (part_bare (terms_over p.sig) after c some right) in
        equal_onward (modulo p hooks is.from) (equal_onward (under_equal c is.whole after one left right) (modulo p hooks is.to))
    follows_holds us h _ (under f t u bt bu is) = under_holds f us t u h is
    follows_holds us h _ (chain t u on e d) = by_kind (all_equational us) t u (λ k. chain_equal us t u h on e d k) (chain_rewrite us t u h on e d)
    follows_holds us h _ (declared t r b low has) = sort_by us h t r b.0 has
    follows_holds us h _ (member n m t r vs at b low bvs is) =
        let xs = membership_variables m in
        let g = value_at xs vs in
        above_has (equal_has (equal_back (modulo p hooks is.head))
        (by_membership n m g at (premises_hold us h xs vs m.cond bvs is.sorted is.shown) (last_bare is.head))) is.sort

    mutual
      fact_holds : {x : Says} → Derivable p hooks x → IsDeduced p hooks x
      fact_holds {x} (derives us d f) = follows_holds us (facts_hold us d) x f

      facts_hold : (us : List Says) → AreDerivable p hooks us → Each (IsDeduced p hooks) us
      facts_hold _ no_facts = tt
      facts_hold _ (one_fact {xs = xs} d ds) = (fact_holds d, facts_hold xs ds)

    each_deduced : (us : List Says) → Each (Derivable p hooks) us → Each (IsDeduced p hooks) us
    each_deduced [] h = tt
    each_deduced (u ∷ us) h = (fact_holds h.0, each_deduced us h.1)

pub facts_hold_all : FactsHold
facts_hold_all p accepted lawful hooks x d = fact_holds p hooks accepted lawful d

pub sections_are_sound : SectionsAreSound
sections_are_sound p accepted lawful hooks x j = each_deduced p hooks accepted lawful _ (sections_are_derivable p hooks x j)

pub led_is_so : LedIsSo
led_is_so p accepted lawful hooks rules t u led = by rules led.kind
  where
    fact : IsDeduced p hooks (leads led.by_equations (reading (theory_at p.sig) t) (reading (theory_at p.sig) u))
    fact = fact_holds p hooks accepted lawful led.fact

    by : (r : Bool) → (r ≡ false → led.by_equations ≡ true) → LeadsBy p hooks r t u
    by false kind = as_equal p hooks led.by_equations (reading (theory_at p.sig) t) (reading (theory_at p.sig) u) (kind refl) fact
    by true kind = as_rewrite p hooks led.by_equations (reading (theory_at p.sig) t) (reading (theory_at p.sig) u) fact
