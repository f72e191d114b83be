-- The values of an answer are settled, or a listing may settle them.
use Rattle.std.proofs.Common.{◌≡◌, ℕ, zero, suc, ◌≤◌, ◌<◌, List, [], ◌∷◌, true, Option, Some, None, is_some, All, map, length, slice_get, ◌⊎◌, inl, inr, ⊎_elim, refl, sym, ap, ◌∙◌, subst, arith}
use Rattle.std.specs.Option.{option_map}
use Rattle.std.proofs.lemmas.Bool.{cases_eq}
use Rattle.std.proofs.lemmas.List.Elements.{All-nil, All-cons}
use Rattle.std.proofs.lemmas.List.{length-map}
use Rattle.std.proofs.lemmas.Option.{slice_get_within}
use Rattle.mau_terms.specs.Tree.{Tree, numeral, apply, no_trees, node, trees_of}
use Rattle.mau_terms.specs.Depth.{depth}
use Rattle.mau_terms.specs.Norm.{norm, finish}
use Rattle.mau_terms.specs.Bare.{IsBare, AreBareIn, IsLawful}
use Rattle.mau_terms.specs.Reading.{reading, readings, nest}
use Rattle.mau_terms.specs.Subst.{Variable, variables, value_at, with_values, Occurs}
use Rattle.mau_terms.specs.Laws.{AreNorms}
use Rattle.mau_terms.specs.declared.theory.Identity.{Identity}
use Rattle.mau_terms.specs.declared.theory.Theory.{Theory}
use Rattle.mau_terms.proofs.Normal.{IsNormal, norm_normal}
use Rattle.mau_terms.proofs.Variables.{EachVar, variables_occur, values_of_variables}
use Rattle.mau_signature.specs.Signature.{SignatureOf, IsOperator, theory_at, terms_over}
use Rattle.mau_store.specs.Node.{Node, numeral_node, variable_node, operator_node, arguments, AreNodes, IsOf, AreOf}
use Rattle.mau_store.specs.Trees.{tree_over, tree_at}
use Rattle.mau_store.proofs.Standing.{tree_of_node}
use Rattle.mau_store.proofs.Depths.{depth-node}
use Rattle.mau_signature.proofs.Operators.{is_operator}
use Rattle.mau_sorts.specs.Table.{Table, IsSettled, IsNodeOver}
use Rattle.mau_listing.specs.Answers.{IsAnswer}
use Rattle.mau_listing.specs.Asked.{Asked, question_in, IsTreeSettled, IsSettledFor, IsNumeralOrList, HasPlainTop, IsSettleable}
use Rattle.mau_listing.proofs.Entered.{number_settled}
use Rattle.mau_listing.specs.Values.{MayBeValue}
use Rattle.mau_listing.proofs.Valued.{value_may_be}
use Rattle.mau_listing.proofs.Readied.{AreSettled, HasSettledArguments, CanBeSettled, fit_value}
use Rattle.mau_listing.proofs.Depths.{deeper}

-- ---- nodes

numerals_there : (o : Option (ℕ × ℕ)) (f : ℕ × ℕ → ℕ) (k : ℕ) → option_map f o ≡ Some k → is_some o ≡ true
numerals_there None f k e = absurd (cc)
numerals_there (Some p) f k e = refl

module _ (s : SignatureOf) (nodes : List Node) (are : AreNodes nodes) (table : Table) where
  abbrev th : ℕ → Theory
  th = theory_at s

  settled_each : (ids : List ℕ) → AreOf nodes ids → AreSettled nodes table (trees_of (map (tree_at nodes) ids)) → All (IsSettled table) ids
  settled_each [] there h = All-nil (IsSettled table)
  settled_each (i ∷ ids) there h =
      All-cons (IsSettled table) i ids
      (number_settled nodes are table i (there 0 i (omega arith)) h.0)
      (settled_each ids (λ k d lt. there (suc k) d (omega arith)) h.1)

  -- a list of an associative operator in normal form, with a bare reading, is of an operator and has two elements or more
  list_node : (f : ℕ) (ts : List Tree) → (th f).assoc ≡ true → IsNormal th (node f ts) → IsBare (terms_over s) (reading th (node f ts)) → IsLawful (terms_over s) → IsOperator s f × (2 ≤ length ts)
  list_node f [] a normal bare lawful = absurd (by (subst (λ b. IsBare (terms_over s) (nest b f [])) a bare))
    where
      by : IsBare (terms_over s) (apply f no_trees) → ⊥
      by b = subst (AreBareIn (terms_over s) no_trees) (lawful.assoc_kinds f a) b.1.2
  list_node f (t ∷ []) a normal bare lawful = absurd (deep (th f).id (subst (λ b. finish b (th f).id (th f).succ f (t ∷ []) ≡ node f (t ∷ [])) a normal.1.long))
    where
      deep : (u : Option Identity) → finish true u (th f).succ f (t ∷ []) ≡ node f (t ∷ []) → ⊥
      deep None k = let d : depth t ≡ depth (node f (t ∷ [])) = ap depth k in omega (arith, d, depth-node f (t ∷ []))
      deep (Some i) k = let d : depth t ≡ depth (node f (t ∷ [])) = ap depth k in omega (arith, d, depth-node f (t ∷ []))
  list_node f (t ∷ u ∷ ts) a normal bare lawful =
      let b : IsBare (terms_over s) (nest true f (readings th (trees_of (t ∷ u ∷ ts)))) = subst (λ c. IsBare (terms_over s) (nest c f (readings th (trees_of (t ∷ u ∷ ts))))) a bare in
      (is_operator s f b.1.0, omega arith)

  ready : (i : ℕ) → IsOf nodes i → IsLawful (terms_over s) → norm th (tree_at nodes i) ≡ tree_at nodes i → IsBare (terms_over s) (reading th (tree_at nodes i)) → HasSettledArguments th nodes table (tree_at nodes i)
      → (n : Node) → slice_get nodes i ≡ Some n → IsNumeralOrList th (tree_at nodes i) × IsNodeOver s n × All (IsSettled table) (arguments n)
  ready i there lawful normal bare args n at = by n at (tree_of_node nodes are i n at)
    where
      by : (m : Node) → slice_get nodes i ≡ Some m → tree_at nodes i ≡ tree_over (tree_at nodes) m → IsNumeralOrList th (tree_at nodes i) × IsNodeOver s m × All (IsSettled table) (arguments m)
      by (numeral_node k) a e =
          let b : IsBare (terms_over s) (numeral k) = subst (λ t. IsBare (terms_over s) (reading th t)) e bare in (
            subst (IsNumeralOrList th) (sym e) tt,
            numerals_there s.numerals _ b.0 b.1.1,
            All-nil (IsSettled table),
          )
      by (variable_node k r) a e = absurd (subst (HasSettledArguments th nodes table) e args)
      by (operator_node f ids) a e =
          let h : HasSettledArguments th nodes table (node f (map (tree_at nodes) ids)) = subst (HasSettledArguments th nodes table) e args in
          let m : IsNormal th (node f (map (tree_at nodes) ids)) = subst (IsNormal th) (normal ∙ e) (norm_normal th lawful.theories (tree_at nodes i)) in
          let both = list_node f (map (tree_at nodes) ids) h.0 m (subst (λ t. IsBare (terms_over s) (reading th t)) e bare) lawful in
          let closed = are.closed i (operator_node f ids) a in
          let low = slice_get_within nodes i (operator_node f ids) a in (
            subst (IsNumeralOrList th) (sym e) h.0,
            (both.0, λ x. omega (arith, both.1, length-map ids (tree_at nodes))),
            settled_each ids (λ k d lt. omega (arith, closed k d lt, low)) h.1,
          )

  -- what fits can be settled, and is where it is the subject
  pub settleable : (a : Asked) (i : ℕ) → IsOf nodes i → IsOf nodes a.subject.0 → IsLawful (terms_over s) → norm th (tree_at nodes i) ≡ tree_at nodes i → IsBare (terms_over s) (reading th (tree_at nodes i))
      → (fits : (tree_at nodes i ≡ tree_at nodes a.subject.0) ⊎ CanBeSettled th nodes table (tree_at nodes i))
      → (tree_at nodes i ≡ tree_at nodes a.subject.0 → IsTreeSettled nodes table (tree_at nodes a.subject.0)) → IsSettleable s nodes table a.subject.0 i
  settleable a i there asked lawful normal bare (inl e) subject = inl (number_settled nodes are table i there (subst (IsTreeSettled nodes table) (sym e) (subject e)))
  settleable a i there asked lawful normal bare (inr (inl is)) subject = inl (number_settled nodes are table i there is)
  settleable a i there asked lawful normal bare (inr (inr args)) subject =
      ⊎_elim
      (λ (e : i ≡ a.subject.0). inl (number_settled nodes are table i there (let k : tree_at nodes i ≡ tree_at nodes a.subject.0 = ap (tree_at nodes) e in subst (IsTreeSettled nodes table) (sym k) (subject k))))
      (λ (ne : i ≡ a.subject.0 → ⊥). inr (
        ne,
        at_node (get nodes i there),
        record {
          there = there;
          over = λ n at. (ready i there lawful normal bare args n at).1;
          arguments = λ n at. (ready i there lawful normal bare args n at).2;
        },
      ))
      (cases_eq i a.subject.0)
    where
      get : (ns : List Node) (k : ℕ) → k < length ns → (n : Node) × (slice_get ns k ≡ Some n)
      get [] k h = absurd (omega arith)
      get (n ∷ ns) zero h = (n, refl)
      get (n ∷ ns) (suc k) h = get ns k (omega arith)

      at_node : ((n : Node) × (slice_get nodes i ≡ Some n)) → IsNumeralOrList th (tree_at nodes i)
      at_node one = (ready i there lawful normal bare args one.0 one.1).0

-- ---- answers

module _ (s : SignatureOf) (lawful : IsLawful (terms_over s)) (nodes : List Node) (table : Table) (a : Asked) (for : IsSettledFor s nodes table a) (vs : List Tree) where
  abbrev T : Tree
  T = tree_at nodes a.subject.0

  -- what holds of each value of an answer
  pub record IsValue (v : Tree) : Type 0 where
    pub fits : (v ≡ tree_at nodes a.subject.0) ⊎ CanBeSettled (theory_at s) nodes table v
    pub subject : v ≡ tree_at nodes a.subject.0 → IsTreeSettled nodes table (tree_at nodes a.subject.0)

  one_value : (x : Variable) → Occurs x a.pattern → norm (theory_at s) (with_values a.pattern vs) ≡ tree_at nodes a.subject.0 → IsValue (norm (theory_at s) (value_at (variables a.pattern) vs x))
  one_value x o whole =
      let th = theory_at s in
      let g = value_at (variables a.pattern) vs in
      let may = subst (λ t. MayBeValue th a.pattern t (norm th (g x))) whole (value_may_be th lawful.theories g x a.pattern o) in
      let fit = fit_value th nodes table (tree_at nodes a.subject.0) for.identities a.pattern (tree_at nodes a.subject.0) (norm th (g x)) (record { fits = inl refl; below = for.below }) may in
      record {
        fits = fit.fits;
        subject = λ e. ⊎_elim (λ h. h)
            (λ (top : HasPlainTop th (norm th a.pattern)).
            let less = deeper th lawful.theories x g a.pattern top o in
            absurd (let d : depth (norm th (g x)) ≡ depth (norm th (with_values a.pattern vs)) = ap depth (e ∙ sym whole) in omega arith))
            for.subject;
      }

  each_value : (xs : List Variable) → EachVar (λ x. Occurs x a.pattern) xs → norm (theory_at s) (with_values a.pattern vs) ≡ tree_at nodes a.subject.0 → (ws : List Tree) → map (value_at (variables a.pattern) vs) xs ≡ ws → AreNorms (theory_at s) ws → All IsValue ws
  each_value [] o whole [] e n = All-nil IsValue
  each_value [] o whole (w ∷ ws) e n = absurd (cc)
  each_value (x ∷ xs) o whole [] e n = absurd (cc)
  each_value (x ∷ xs) o whole (w ∷ ws) e n =
      let head : value_at (variables a.pattern) vs x ≡ w = cc in
      let rest : map (value_at (variables a.pattern) vs) xs ≡ ws = cc in
      All-cons IsValue w ws (subst IsValue (ap (norm (theory_at s)) head ∙ n.0) (one_value x o.0 whole)) (each_value xs o.1 whole ws rest n.1)

  pub values_fit : (P : ℕ → Tree → Type 0) → IsAnswer s P (question_in nodes a) vs → All IsValue vs
  values_fit P is = each_value (variables a.pattern) (variables_occur a.pattern) is.whole vs (values_of_variables a.pattern vs is.one_each) is.normal
