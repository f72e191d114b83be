-- The next solution by numbers of a store, and the binding that it gives.
use Rattle.std.proofs.Common.{◌≡◌, ℕ, List, [], ◌∷◌, map, All, Bool, true, false, inl, inr, Option, Some, None, IfSome, length, refl, sym, ap, ap₂, ◌∙◌, subst}
use Rattle.std.specs.Option.{option_map}
use Rattle.std.proofs.lemmas.List.Elements.{All-head, All-tail, All-nil, All-cons}
use Rattle.mau_terms.specs.Tree.{Tree, variable, numeral, apply, Trees, no_trees, tree}
use Rattle.mau_terms.specs.Norm.{norm}
use Rattle.mau_terms.specs.Bare.{IsBare}
use Rattle.mau_terms.specs.Reading.{reading}
use Rattle.mau_terms.specs.Subst.{Variable, variables, add_variables, value_at, has_variable, instance, instances, Occurs, OccursIn}
use Rattle.mau_terms.specs.Solution.{HaveSorts}
use Rattle.mau_terms.specs.Finite.{IsIn}
use Rattle.mau_terms.specs.View.{variable_of}
use Rattle.mau_terms.specs.declared.ids.VarId.{VarId}
use Rattle.mau_terms.specs.declared.ids.TermId.{TermId}
use Rattle.mau_terms.proofs.Instances.{has_occurring}
use Rattle.mau_terms.proofs.Variables.{distinct}
use Rattle.mau_signature.specs.Signature.{SignatureOf, theory_at, terms_over}
use Rattle.mau_formula.specs.Operator.{Operator}
use Rattle.mau_store.specs.Node.{Node, Extends}
use Rattle.mau_store.specs.Trees.{tree_at, trees_at}
use Rattle.mau_store.specs.View.{numbers}
use Rattle.mau_canon.specs.Standing.{StandsWithin, StandWithin}
use Rattle.mau_sorts.specs.HasSort.{Known}
use Rattle.mau_sorts.specs.Table.{Table, KeepsEntries}
use Rattle.mau_sorts.proofs.Settling.{kept_same}
use Rattle.mau_listing.specs.Question.{OfNorm, IsWhole, IsSolution}
use Rattle.mau_listing.specs.Next.{matcher_cmp, IsNext}
use Rattle.mau_listing.specs.Asked.{Asked, asks, IsAskable, question_in, matcher_in, last_after, BySort, HasEntry, IsTableOf, IsGiven}
use Rattle.mau_listing.specs.declared.solution.Solution as Given
use Rattle.mau_listing.proofs.Growth.{IsSolution-then, trees_long, found_same, given_kept, given_of_store}
use Rattle.mau_program.specs.declared.program.Program as Typed
use Rattle.mau_evaluation.specs.Run.{gives, or_go_on, or_else}
use Rattle.mau_evaluation.specs.Program.{Fragment}
use Rattle.mau_evaluation.specs.Listing.{Solution, solutions}
use Rattle.mau_evaluation.specs.Evaluation.{Binding, levels, look_up, binds, extend, agree, solve, solve_after}
use Rattle.mau_api.specs.Terms.{IsTerm}
use Rattle.mau_api.specs.Programs.{program_over}
use Rattle.mau_api.specs.Remaining.{as_matcher}
use Rattle.mau_api.specs.Meanings.{meanings_by}
use Rattle.mau_api.specs.Answers.{IsDerivedTable, AreSettled, IsValueOf, binding_in, AreApart}
use Rattle.mau_machine.specs.Words.{IsExtension}
use Rattle.mau_cond.specs.Bound.{extended}
use Rattle.mau_cond.proofs.Pairs.{all_extended}
use Rattle.mau_cond.proofs.Grown.{each, value_grown, bound_grown}
use Rattle.mau_cond.proofs.Tellings.{extended_is}
use Rattle.mau_reduce.specs.Reducible.{IsReducible}
use Rattle.mau_reduce.specs.Bindings.{HaveKinds}
use Rattle.mau_reduce.specs.Trying.{solution_in}
use Rattle.mau_reduce.specs.Comes.{ComesTo}
use Rattle.mau_reduce.specs.Tables.{IsSortTable}
use Rattle.mau_reduce.proofs.Comes.{comes_as}
use Rattle.mau_reduce.proofs.Candidates.{matchers_of, sorts_of_bare}
use Rattle.mau_choices.specs.Choosing.{left_of_choices, behind_own, AreValuesIn}
use Rattle.mau_choices.proofs.Agreeing.{bound_variables, HaveNorms}
use Rattle.mau_choices.proofs.Added.{variables_extended}
use Rattle.mau_choices.proofs.Extending.{extension_keeps, extension_has, apart_extended}
use Rattle.mau_choices.proofs.Next.{none_left, one_left, own_left, is_listed, one_each, values_of_kinds, suits, value_bare, instance_is}

-- ---- bindings by numbers

pub variables_bound : (nodes : List Node) (bs : List (VarId × TermId)) → bound_variables (binding_in nodes bs) ≡ map (λ b. variable_of b.0) bs
variables_bound nodes [] = refl
variables_bound nodes (b ∷ bs) = ap (λ xs. variable_of b.0 ∷ xs) (variables_bound nodes bs)

norms_bound : (s : SignatureOf) (nodes : List Node) (table : Table) (bs : List (VarId × TermId)) → All (IsValueOf s nodes table) bs → HaveNorms (theory_at s) (binding_in nodes bs)
norms_bound s nodes table [] h = tt
norms_bound s nodes table (b ∷ bs) h =
    ((All-head (IsValueOf s nodes table) b bs h).term.within.normal, norms_bound s nodes table bs (All-tail (IsValueOf s nodes table) b bs h))

trees_told : (nodes : List Node) (told : List (VarId × TermId)) → map (λ b. tree_at nodes b.1.0) told ≡ trees_at nodes (numbers (map (λ b. b.1) told))
trees_told nodes [] = refl
trees_told nodes (b ∷ told) = ap (λ ts. tree_at nodes b.1.0 ∷ ts) (trees_told nodes told)

-- variables with values of their kinds and sorts
values_told : (s : SignatureOf) (nodes : List Node) (table : Table) (told : List (VarId × TermId)) → StandWithin (theory_at s) nodes (numbers (map (λ b. b.1) told)) →
    ((v : Tree) → IsIn v (trees_at nodes (numbers (map (λ b. b.1) told))) → IsBare (terms_over s) (reading (theory_at s) v)) →
    HaveKinds s (map (λ b. variable_of b.0) told) (trees_at nodes (numbers (map (λ b. b.1) told))) →
    HaveSorts (HasEntry s nodes table) (map (λ b. variable_of b.0) told) (trees_at nodes (numbers (map (λ b. b.1) told))) → All (IsValueOf s nodes table) told
values_told s nodes table [] stand bare kinds sorts = All-nil (IsValueOf s nodes table)
values_told s nodes table (b ∷ told) stand bare kinds sorts =
    All-cons (IsValueOf s nodes table) b told (record {
      term = record { within = All-head (StandsWithin (theory_at s) nodes) b.1.0 (numbers (map (λ b. b.1) told)) stand; bare = bare (tree_at nodes b.1.0) (inl refl) };
      kind = kinds.0;
      sort = sorts.0;
    })
    (values_told s nodes table told (All-tail (StandsWithin (theory_at s) nodes) b.1.0 (numbers (map (λ b. b.1) told)) stand) (λ v i. bare v (inr i)) kinds.1 sorts.1)

-- what an instance is depends on the values of the variables that occur
mutual
  instance_along : (g h : Variable → Tree) (p : Tree) → ((x : Variable) → Occurs x p → g x ≡ h x) → instance g p ≡ instance h p
  instance_along g h (variable i s) f = f (i, s) refl
  instance_along g h (numeral n) f = refl
  instance_along g h (apply o ts) f = ap (apply o) (instances_along g h ts f)

  instances_along : (g h : Variable → Tree) (ts : Trees) → ((x : Variable) → OccursIn x ts → g x ≡ h x) → instances g ts ≡ instances h ts
  instances_along g h no_trees f = refl
  instances_along g h (tree t ts) f = ap₂ tree (instance_along g h t (λ x o. f x (inl o))) (instances_along g h ts (λ x o. f x (inr o)))

-- ---- the next solution

-- τ is the binding by the next solution in v, behind the last one: what it says of what is left, where `more` is the last one afterwards, and of τ
pub record IsChoice (p : Typed.Program) (pat : Tree) (old new : List Node) (before after : Table) (bound : List (VarId × TermId)) (v : TermId) (last more : Option Given.Solution) (τ : List (VarId × TermId)) : Type 0 where
  pub some : (hooks : List Operator) (B : ℕ) → IsDerivedTable (meanings_by p hooks B false) old before → (f : List Fragment) →
      ComesTo (program_over p hooks) (λ k. left_of_choices (program_over p hooks) (levels (program_over p hooks) B k) pat f (binding_in old bound) (tree_at old v.0) (option_map (solution_in old) last))
      (λ k. or_else (solve (program_over p hooks) (levels (program_over p hooks) B k) f (binding_in new τ))
      (left_of_choices (program_over p hooks) (levels (program_over p hooks) B k) pat f (binding_in old bound) (tree_at old v.0) (option_map (solution_in new) more)))
  pub values : All (IsValueOf p.sig new after) τ
  pub apart : AreApart (map (λ b. variable_of b.0) τ)
  pub named : map (λ b. variable_of b.0) τ ≡ add_variables (map (λ b. variable_of b.0) bound) pat
  pub extension : IsExtension (binding_in old bound) (binding_in new τ)
  pub each_bound : (z : Variable) → has_variable (variables pat) z ≡ true → binds (binding_in new τ) z ≡ true
  pub solves : (υ : Binding) → IsExtension (binding_in new τ) υ → norm (theory_at p.sig) (instance (look_up υ) pat) ≡ tree_at old v.0

module _ (p : Typed.Program) (red : IsReducible p) (pat : Tree) (bare_pat : IsBare (terms_over p.sig) pat) (old new : List Node) (before after : Table) (extends : Extends old new) (kept : KeepsEntries before after)
    (bound : List (VarId × TermId)) (values : All (IsValueOf p.sig old before) bound) (apart : AreApart (map (λ b. variable_of b.0) bound)) (v : TermId) (term : IsTerm p.sig old v.0)
    (settled : AreSettled p.sig old before (tree_at old v.0)) (a : Asked) (g : a ≡ asks pat bound v) (c : Bool) (w : c ≡ false) (last : Option Given.Solution) where
  abbrev pub Next : Known → Option Given.Solution → Type 0
  Next known o = IsNext (IsSolution c p.sig (BySort p.sig known) (question_in old a)) (matcher_cmp (theory_at p.sig) a.pattern) (option_map (matcher_in old) last) (option_map (matcher_in new) o)

  abbrev t : Tree
  t = tree_at old v.0

  abbrev σ : Binding
  σ = binding_in old bound

  norms : HaveNorms (theory_at p.sig) σ
  norms = norms_bound p.sig old before bound values

  apart_so : AreApart (bound_variables σ)
  apart_so = subst AreApart (sym (variables_bound old bound)) apart

  next_so : (known : Known) (o : Option Given.Solution) → Next known o →
      IsNext (IsSolution false p.sig (BySort p.sig known) (record { pattern = pat; bound = binding_in old bound; subject = tree_at old v.0 })) (matcher_cmp (theory_at p.sig) pat)
      (option_map as_matcher (option_map (solution_in old) last)) (option_map as_matcher (option_map (solution_in new) o))
  next_so known o is =
      let one = subst (λ z. IsNext (IsSolution z p.sig (BySort p.sig known) (question_in old a)) (matcher_cmp (theory_at p.sig) a.pattern) (option_map (matcher_in old) last) (option_map (matcher_in new) o)) w is in
      let two = subst (λ z. IsNext (IsSolution false p.sig (BySort p.sig known) (question_in old z)) (matcher_cmp (theory_at p.sig) z.pattern) (option_map (matcher_in old) last) (option_map (matcher_in new) o)) g one in
      let three = subst (λ z. IsNext (IsSolution false p.sig (BySort p.sig known) (question_in old (asks pat bound v))) (matcher_cmp (theory_at p.sig) pat) z (option_map (matcher_in new) o)) (matchers_of old last) two in
      subst (λ z. IsNext (IsSolution false p.sig (BySort p.sig known) (question_in old (asks pat bound v))) (matcher_cmp (theory_at p.sig) pat) (option_map as_matcher (option_map (solution_in old) last)) z) (matchers_of new o) three

  pub none_is : (hooks : List Operator) (B : ℕ) (derived : IsDerivedTable (meanings_by p hooks B false) old before) → Next derived.known None → (f : List Fragment) →
      ComesTo (program_over p hooks) (λ k. left_of_choices (program_over p hooks) (levels (program_over p hooks) B k) pat f σ t (option_map (solution_in old) last)) (λ k. gives None)
  none_is hooks B derived is f = none_left p red hooks pat bare_pat t term.within.normal term.bare old before settled σ norms apart_so B derived f (option_map (solution_in old) last) (next_so derived.known None is)

  -- a solution, by what is known of sorts
  abbrev Whole : Known → Given.Solution → Type 0
  Whole k x = IsSolution false p.sig (BySort p.sig k) (record { pattern = pat; bound = binding_in old bound; subject = tree_at old v.0 }) (as_matcher (solution_in new x))

  -- what is known of it
  module _ (sorts : IsSortTable p.sig old before) (x : Given.Solution) (whole : (k : Known) → IsTableOf p.sig k old before → Whole k x) where
    abbrev y : Solution
    y = solution_in new x

    listed_by : (k : Known) → IsTableOf p.sig k old before →
        IsIn y (solutions (terms_over p.sig) pat t) × (agree (theory_at p.sig) σ (variables pat) y.values ≡ true) × HaveSorts (BySort p.sig k) (variables pat) y.values
    listed_by k table = is_listed p red [] pat bare_pat t term.within.normal term.bare old before settled σ norms apart_so k y (whole k table)

    abbrev known : IsIn y (solutions (terms_over p.sig) pat t) × (agree (theory_at p.sig) σ (variables pat) y.values ≡ true) × HaveSorts (BySort p.sig sorts.known) (variables pat) y.values
    known = listed_by sorts.known sorts.declared

    pub as_many : length (trees_at new (numbers x.values)) ≡ length (variables pat)
    as_many = one_each p red [] pat bare_pat t term.within.normal term.bare old before settled σ norms apart_so y known.0

    module _ (told τ : List (VarId × TermId)) (names : map (λ b. variable_of b.0) told ≡ variables pat) (numbered : map (λ b. b.1) told ≡ x.values) (e : τ ≡ extended bound told) where
      pub binding_is : binding_in new τ ≡ extend σ (variables pat) y.values
      binding_is =
          ap (binding_in new) e
          ∙ (extended_is new told bound
          ∙ (ap (λ z. extend (binding_in new bound) z (map (λ b. tree_at new b.1.0) told)) names
          ∙ (ap (extend (binding_in new bound) (variables pat)) (trees_told new told ∙ ap (λ ids. trees_at new (numbers ids)) numbered)
          ∙ ap (λ z. extend z (variables pat) y.values) (bound_grown p.sig old new before after extends kept bound values))))

      pub some_is : ((k : Known) → IsTableOf p.sig k old before → Next k (Some x)) → (hooks : List Operator) (B : ℕ) → IsDerivedTable (meanings_by p hooks B false) old before → (f : List Fragment) →
          ComesTo (program_over p hooks) (λ k. left_of_choices (program_over p hooks) (levels (program_over p hooks) B k) pat f σ t (option_map (solution_in old) last))
          (λ k. or_else (solve (program_over p hooks) (levels (program_over p hooks) B k) f (binding_in new τ))
          (left_of_choices (program_over p hooks) (levels (program_over p hooks) B k) pat f σ t (Some (solution_in new x))))
      some_is every hooks B derived f =
          let P = program_over p hooks in
          comes_as (one_left p red hooks pat bare_pat t term.within.normal term.bare old before settled σ norms apart_so B derived f (option_map (solution_in old) last) y (next_so derived.known (Some x) (every derived.known derived.declared)))
          (λ k b. ap (λ z. or_go_on (left_of_choices P (levels P B k) pat f σ t (Some (solution_in new x))) (solve P (levels P B k) f z b)) (sym binding_is))

      -- behind a binding that has its values
      pub own_is : (lst : Binding) → AreValuesIn lst (variables pat) y.values → (hooks : List Operator) (B : ℕ) → IsDerivedTable (meanings_by p hooks B false) old before → (f : List Fragment) →
          ComesTo (program_over p hooks) (λ k. behind_own (program_over p hooks) (levels (program_over p hooks) B k) pat f lst σ t)
          (λ k. or_else (solve_after (program_over p hooks) (levels (program_over p hooks) B k) lst f (binding_in new τ))
          (left_of_choices (program_over p hooks) (levels (program_over p hooks) B k) pat f σ t (Some (solution_in new x))))
      own_is lst found hooks B derived f =
          let P = program_over p hooks in
          let l = listed_by derived.known derived.declared in
          comes_as (own_left p red hooks pat bare_pat t term.within.normal term.bare old before settled σ norms apart_so B derived f lst y l.0 l.1 l.2 found)
          (λ k b. ap (λ z. or_go_on (left_of_choices P (levels P B k) pat f σ t (Some (solution_in new x))) (solve_after P (levels P B k) lst f z b)) (sym binding_is))

      moved : (H : List Variable → List Tree → Type 0) → H (variables pat) y.values → H (map (λ b. variable_of b.0) told) (trees_at new (numbers (map (λ b. b.1) told)))
      moved H h =
          subst (λ xs. H xs (trees_at new (numbers (map (λ b. b.1) told)))) (sym names) (subst (λ ids. H (variables pat) (trees_at new (numbers ids))) (sym numbered) h)

      entries_of : IsGiven c p.sig new after a x → HaveSorts (HasEntry p.sig new after) (variables pat) y.values
      entries_of given =
          let whole : IsWhole p.sig (HasEntry p.sig new after) (question_in new a) (matcher_in new x) =
          subst (λ z. IsSolution z p.sig (HasEntry p.sig new after) (question_in new a) (matcher_in new x)) w given.solves in
          subst (HaveSorts (HasEntry p.sig new after) (variables pat)) whole.values
          (sorts_of_bare p.sig (HasEntry p.sig new after) (variables pat) whole.bare
          (subst (λ z. HaveSorts (OfNorm (HasEntry p.sig new after) p.sig) (variables z.pattern) whole.bare) g whole.solves.1))

      bare_of : (u : Tree) → IsIn u (trees_at new (numbers (map (λ b. b.1) told))) → IsBare (terms_over p.sig) (reading (theory_at p.sig) u)
      bare_of u i =
          value_bare p red [] pat bare_pat t term.within.normal term.bare old before settled σ norms apart_so y known.0 u (subst (λ ids. IsIn u (trees_at new (numbers ids))) numbered i)

      pub values_are : IsGiven c p.sig new after a x → All (IsValueOf p.sig new after) τ
      values_are given =
          subst (All (IsValueOf p.sig new after)) (sym e)
          (all_extended (IsValueOf p.sig new after) told bound (each (IsValueOf p.sig old before) (IsValueOf p.sig new after) (value_grown p.sig old new before after extends kept) bound values)
          (values_told p.sig new after told (subst (λ ids. StandWithin (theory_at p.sig) new (numbers ids)) (sym numbered) given.values) bare_of
          (moved (HaveKinds p.sig) (values_of_kinds p red [] pat bare_pat t term.within.normal term.bare old before settled σ norms apart_so sorts y known.0 known.2))
          (moved (HaveSorts (HasEntry p.sig new after)) (entries_of given))))

      pub apart_still : AreApart (map (λ b. variable_of b.0) τ)
      apart_still =
          subst AreApart (variables_bound new τ)
          (subst (λ z. AreApart (bound_variables z)) (sym binding_is) (apart_extended (variables pat) y.values σ apart_so))

      pub variables_are : map (λ b. variable_of b.0) τ ≡ add_variables (map (λ b. variable_of b.0) bound) pat
      variables_are =
          sym (variables_bound new τ)
          ∙ (ap bound_variables binding_is ∙ (variables_extended pat y.values σ as_many ∙ ap (λ xs. add_variables xs pat) (variables_bound old bound)))

      pub extension_is : IsExtension σ (binding_in new τ)
      extension_is z h = subst (λ u. (binds u z ≡ true) × (look_up u z ≡ look_up σ z)) (sym binding_is) (extension_keeps (variables pat) y.values σ z h)

      has_each : (z : Variable) → has_variable (variables pat) z ≡ true → (binds (binding_in new τ) z ≡ true) × (look_up (binding_in new τ) z ≡ value_at (variables pat) y.values z)
      has_each z h =
          subst (λ u. (binds u z ≡ true) × (look_up u z ≡ value_at (variables pat) y.values z)) (sym binding_is)
          (extension_has (variables pat) y.values σ (distinct pat [] tt) as_many
          (suits p red [] pat bare_pat t term.within.normal term.bare old before settled σ norms apart_so y known.0 known.1) z h)

      pub binds_each : (z : Variable) → has_variable (variables pat) z ≡ true → binds (binding_in new τ) z ≡ true
      binds_each z h = (has_each z h).0

      pub pattern_is : (υ : Binding) → IsExtension (binding_in new τ) υ → norm (theory_at p.sig) (instance (look_up υ) pat) ≡ t
      pattern_is υ more =
          ap (norm (theory_at p.sig))
          (instance_along (look_up υ) (value_at (variables pat) y.values) pat
          (λ z o. let h = has_each z (has_occurring z pat o) in let m = more z h.0 in m.1 ∙ h.1))
          ∙ instance_is p red [] pat bare_pat t term.within.normal term.bare old before settled σ norms apart_so y known.0

      pub choice_is : ((k : Known) → IsTableOf p.sig k old before → Next k (Some x)) → IsGiven c p.sig new after a x → (more : Option Given.Solution) → more ≡ Some x → IsChoice p pat old new before after bound v last more τ
      choice_is every given more m = record {
        some = λ hooks B derived f.
            let P = program_over p hooks in
            comes_as (some_is every hooks B derived f)
            (λ k b. ap (λ o. or_go_on (left_of_choices P (levels P B k) pat f σ t (option_map (solution_in new) o)) (solve P (levels P B k) f (binding_in new τ) b)) (sym m));
        values = values_are given;
        apart = apart_still;
        named = variables_are;
        extension = extension_is;
        each_bound = binds_each;
        solves = pattern_is;
      }

  -- ---- as the code has it

  module _ (answer : Option Given.Solution) (is : (k : Known) → IsTableOf p.sig k old before → Next k answer) where
    pub none_of : answer ≡ None → (hooks : List Operator) (B : ℕ) → IsDerivedTable (meanings_by p hooks B false) old before → (f : List Fragment) →
        ComesTo (program_over p hooks) (λ k. left_of_choices (program_over p hooks) (levels (program_over p hooks) B k) pat f (binding_in old bound) (tree_at old v.0) (option_map (solution_in old) last)) (λ k. gives None)
    none_of e hooks B derived f = none_is hooks B derived (subst (Next derived.known) e (is derived.known derived.declared)) f

    module _ (sorts : IsSortTable p.sig old before) (x : Given.Solution) (e : answer ≡ Some x) where
      every : (k : Known) → IsTableOf p.sig k old before → Next k (Some x)
      every k table = subst (Next k) e (is k table)

      whole_so : (k : Known) → IsTableOf p.sig k old before → Whole k x
      whole_so k table = (next_so k (Some x) (every k table)).is_one

      pub values_long : length x.values ≡ length (variables pat)
      values_long = sym (trees_long new x.values) ∙ as_many sorts x whole_so

      pub choice_of : IfSome answer (IsGiven c p.sig new after a) → (more : Option Given.Solution) → more ≡ last_after last answer →
          (told τ : List (VarId × TermId)) → map (λ b. variable_of b.0) told ≡ variables pat → map (λ b. b.1) told ≡ x.values → τ ≡ extended bound told →
          IsChoice p pat old new before after bound v last more τ
      choice_of given more m told τ names numbered more_bound =
          choice_is sorts x whole_so told τ names numbered more_bound every (subst (λ o. IfSome o (IsGiven c p.sig new after a)) e given) more (m ∙ ap (last_after last) e)

-- ---- the solution that another binding has

-- τ is the binding by it: what it says of what is left behind that binding, where `more` is the last one afterwards, and of τ
pub record IsOwn (p : Typed.Program) (pat : Tree) (old new : List Node) (before after : Table) (bound : List (VarId × TermId)) (v : TermId) (last : Binding) (more : Option Given.Solution) (τ : List (VarId × TermId)) : Type 0 where
  pub own : (hooks : List Operator) (B : ℕ) → IsDerivedTable (meanings_by p hooks B false) old before → (f : List Fragment) →
      ComesTo (program_over p hooks) (λ k. behind_own (program_over p hooks) (levels (program_over p hooks) B k) pat f last (binding_in old bound) (tree_at old v.0))
      (λ k. or_else (solve_after (program_over p hooks) (levels (program_over p hooks) B k) last f (binding_in new τ))
      (left_of_choices (program_over p hooks) (levels (program_over p hooks) B k) pat f (binding_in old bound) (tree_at old v.0) (option_map (solution_in new) more)))
  pub values : All (IsValueOf p.sig new after) τ
  pub apart : AreApart (map (λ b. variable_of b.0) τ)
  pub named : map (λ b. variable_of b.0) τ ≡ add_variables (map (λ b. variable_of b.0) bound) pat
  pub extension : IsExtension (binding_in old bound) (binding_in new τ)
  pub each_bound : (z : Variable) → has_variable (variables pat) z ≡ true → binds (binding_in new τ) z ≡ true
  pub solves : (υ : Binding) → IsExtension (binding_in new τ) υ → norm (theory_at p.sig) (instance (look_up υ) pat) ≡ tree_at old v.0

-- the sort of an entry is one by what is known
entry_known : (s : SignatureOf) (known : Known) (nodes : List Node) (table : Table) → IsTableOf s known nodes table → (r : ℕ) (t : Tree) → HasEntry s nodes table r t → BySort s known r t
entry_known s known nodes table is r t h = subst (BySort s known r) h.tree (((is.entries h.number h.entry h.at).1.exact r).0 h.has)

module _ (p : Typed.Program) (red : IsReducible p) (pat : Tree) (bare_pat : IsBare (terms_over p.sig) pat) (old new : List Node) (table : Table) (extends : Extends old new)
    (bound : List (VarId × TermId)) (values : All (IsValueOf p.sig old table) bound) (apart : AreApart (map (λ b. variable_of b.0) bound)) (v : TermId) (term : IsTerm p.sig old v.0)
    (settled : AreSettled p.sig old table (tree_at old v.0)) (askable : IsAskable p.sig old (asks pat bound v)) (sorts : IsSortTable p.sig old table) (x : Given.Solution) (given : IsGiven false p.sig old table (asks pat bound v) x) where
  kept : KeepsEntries table table
  kept = kept_same table

  same_values : matcher_in new x ≡ matcher_in old x
  same_values = let of_store = given_of_store false p.sig old table (asks pat bound v) x given in found_same old new extends x of_store.left of_store.right of_store.values

  whole : (k : Known) → IsTableOf p.sig k old table → IsSolution false p.sig (BySort p.sig k) (record { pattern = pat; bound = binding_in old bound; subject = tree_at old v.0 }) (as_matcher (solution_in new x))
  whole k is =
      subst (IsSolution false p.sig (BySort p.sig k) (question_in old (asks pat bound v))) (sym same_values)
      (IsSolution-then false p.sig (HasEntry p.sig old table) (BySort p.sig k) (entry_known p.sig k old table is) (question_in old (asks pat bound v)) (matcher_in old x) given.solves)

  trees_same : trees_at new (numbers x.values) ≡ trees_at old (numbers x.values)
  trees_same = ap (λ m. m.values) same_values

  pub own_long : length x.values ≡ length (variables pat)
  own_long =
      sym (trees_long new x.values)
      ∙ as_many p red pat bare_pat old new table table extends kept bound values apart v term settled (asks pat bound v) refl false refl None sorts x whole

  pub own_of : (last : Binding) → AreValuesIn last (variables pat) (trees_at old (numbers x.values)) →
      (told τ : List (VarId × TermId)) → map (λ b. variable_of b.0) told ≡ variables pat → map (λ b. b.1) told ≡ x.values → τ ≡ extended bound told →
      (more : Option Given.Solution) → more ≡ Some x → IsOwn p pat old new table table bound v last more τ
  own_of last found told τ names numbered e more m = record {
    own = λ hooks B derived f.
        let P = program_over p hooks in
        comes_as
        (own_is p red pat bare_pat old new table table extends kept bound values apart v term settled (asks pat bound v) refl false refl None sorts x whole told τ names numbered e
        last (subst (AreValuesIn last (variables pat)) (sym trees_same) found) hooks B derived f)
        (λ k b. ap (λ o. or_go_on (left_of_choices P (levels P B k) pat f (binding_in old bound) (tree_at old v.0) (option_map (solution_in new) o)) (solve_after P (levels P B k) last f (binding_in new τ) b)) (sym m));
    values = values_are p red pat bare_pat old new table table extends kept bound values apart v term settled (asks pat bound v) refl false refl None sorts x whole told τ names numbered e
        (given_kept old new extends table table kept false p.sig (asks pat bound v) askable x given);
    apart = apart_still p red pat bare_pat old new table table extends kept bound values apart v term settled (asks pat bound v) refl false refl None sorts x whole told τ names numbered e;
    named = variables_are p red pat bare_pat old new table table extends kept bound values apart v term settled (asks pat bound v) refl false refl None sorts x whole told τ names numbered e;
    extension = extension_is p red pat bare_pat old new table table extends kept bound values apart v term settled (asks pat bound v) refl false refl None sorts x whole told τ names numbered e;
    each_bound = binds_each p red pat bare_pat old new table table extends kept bound values apart v term settled (asks pat bound v) refl false refl None sorts x whole told τ names numbered e;
    solves = pattern_is p red pat bare_pat old new table table extends kept bound values apart v term settled (asks pat bound v) refl false refl None sorts x whole told τ names numbered e;
  }
