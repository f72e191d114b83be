-- A condition that is asked: what is known of it, and what the loop computes of it.
use Rattle.std.proofs.Common.{◌≡◌, ◌==◌, ◌+◌, ℕ, suc, List, All, Bool, true, if◌then◌else◌, Option, Some, None, IfSome, IfNone, Ok, Err, IfOk, IfErr, map, length, slice_get, eq-eqb, refl, sym, ap, ap₂, ◌∙◌, subst, arith}
use Rattle.std.specs.Borrow.{Bor}
use Rattle.std.specs.List.{zip}
use Rattle.std.specs.Option.{option_map}
use Rattle.std.proofs.lemmas.Option.{slice_get_past}
use Rattle.mau_terms.specs.Subst.{Variable}
use Rattle.mau_terms.specs.View.{variable_of}
use Rattle.mau_terms.specs.declared.ids.VarId.{VarId}
use Rattle.mau_terms.specs.declared.ids.TermId.{TermId}
use Rattle.mau_signature.specs.Signature.{theory_at}
use Rattle.mau_store.specs.Node.{Node}
use Rattle.mau_store.specs.View.{numbers}
use Rattle.mau_canon.specs.Standing.{StandWithin}
use Rattle.mau_canon.proofs.Standing.{stand_within_extended}
use Rattle.mau_sorts.specs.Table.{Table, KeepsEntries}
use Rattle.mau_sorts.proofs.Settling.{kept_on}
use Rattle.mau_program.specs.declared.statements.Fragment.{Fragment}
use Rattle.mau_program.specs.declared.statements.Equation.{Equation}
use Rattle.mau_program.specs.Binding.{are_bound}
use Rattle.mau_evaluation.specs.Run.{Outcome, done, Run, counted_if}
use Rattle.mau_evaluation.specs.Program.{Program}
use Rattle.mau_evaluation.specs.Evaluation.{Binding, look_up, levels, solve, solve_after}
use Rattle.mau_api.specs.Programs.{program_over, fragment_of}
use Rattle.mau_api.specs.Events.{Event}
use Rattle.mau_api.specs.Told.{TellsCondition}
use Rattle.mau_api.specs.Answers.{IsAskable, IsValueOf, binding_in, solving_from}
use Rattle.mau_reduce.specs.declared.binding.Binding.{Binding as Kept}
use Rattle.mau_reduce.specs.Bindings.{bound_in}
use Rattle.mau_reduce.proofs.LaterStores.{bound_grown}
use Rattle.mau_machine.specs.Words.{Comes, ComesToEnd, solve_from, Asks}
use Rattle.mau_reducer.proofs.Reached.{comes_along, end_along}
use Rattle.mau_machine.specs.declared.goal.Goal.TheVariants.{Nothing}
use Rattle.mau_reducer.specs.Basis.{Basis, asking}
use Rattle.mau_reducer.specs.Handles.{written_in, membership_numbered, cond_of, written_at, first_in, variables_of_head, first_at, rules_of, IsKnownBinding}
use Rattle.mau_reducer.specs.States.{IsFit, ComesOf}
use Rattle.mau_reducer.specs.LaterStates.{binding_later}
use Rattle.mau_reducer.specs.Meant.{meanings_of}
use Rattle.mau_reducer.specs.MeantLaws.{solving_is, solving_after_is}
use Rattle.mau_reducer.specs.Solutions.{IsPaired}
use Rattle.mau_reducer.proofs.Choosing.{pairs_of, one_value_each, all_values}
use Rattle.mau_reducer.proofs.WhatIsSolved.{Answer, Paired, IsLoopAnswer, of_pairs}
use Rattle.mau_reducer.proofs.Pairs.{pairs_bound, variables_paired, paired_within, paired_kinds, paired_sorts}

-- a solution that may be given, as a binding
abbrev pub bindings_of : List Node → Option (Bor (List (VarId × TermId))) → Option Binding
bindings_of nodes o = option_map (λ (x : Bor (List (VarId × TermId))). binding_in nodes x.now) o

-- all of the condition with this number is solved
abbrev pub IsSolved : Basis → List Node → Table → ℕ → Kept → Type 0
IsSolved d nodes table n σ = (i : ℕ) × IsKnownBinding d nodes table n i σ × Asks (rules_of d) n i Nothing

abbrev pub variables_of : List (VarId × TermId) → List Variable
variables_of bound = map (λ (y : VarId × TermId). variable_of y.0) bound

-- a number behind those of all elements and one more
pub number_counted : {A : Type 0} (xs ys : List A) → xs ≡ ys → length xs + 1 ≡ suc (length ys)
number_counted xs ys e = let h : length xs ≡ length ys = ap length e in omega arith

module _ (b : Basis) (fs : List Fragment) (xs : List Variable) where
  abbrev number : ℕ
  number = suc (length b.program.equations)

  none_there : slice_get b.program.equations number ≡ None
  none_there = slice_get_past b.program.equations number (omega arith)

  itself : (number == number) ≡ true
  itself = eq-eqb number number refl

  -- it is the condition with the number behind all others
  pub written_asked : written_at (asking b fs xs) number ≡ fs
  written_asked = ap₂ (λ (w : Bool) (o : Option Equation). written_in (if w then fs else cond_of (membership_numbered b.program number)) o) itself none_there

  pub first_asked : first_at (asking b fs xs) number ≡ xs
  first_asked = ap₂ (λ (w : Bool) (o : Option Equation). first_in (if w then xs else variables_of_head (membership_numbered b.program number)) o) itself none_there

  pub asking_fit : (nodes : List Node) (table : Table) (begun : Bool) → IsFit b nodes table begun → IsAskable b.program.sig xs fs → IsFit (asking b fs xs) nodes table begun
  asking_fit nodes table begun r a = record {
    basis = record { lawful = r.basis.lawful; reducible = r.basis.reducible; gives = r.basis.gives; compiled = r.basis.compiled; built_ins = r.basis.built_ins; askable = a };
    derived = r.derived;
    identities = r.identities;
  }

-- where nothing has changed
pub fit_unchanged : (b d : Basis) (nodes : List Node) (table after : Table) (begun begun' : Bool) → d ≡ b → after ≡ table → begun' ≡ begun → IsFit b nodes table begun → IsFit d nodes after begun'
fit_unchanged b d nodes table after begun begun' same p q h =
    subst (λ (x : Basis). IsFit x nodes after begun') (sym same) (subst (λ (t : Table). IsFit b nodes t begun') (sym p) (subst (IsFit b nodes table) (sym q) h))

-- ---- the values with which it is asked

module _ (b : Basis) (fs : List Fragment) (bound : List (VarId × TermId)) (askable : IsAskable b.program.sig (variables_of bound) fs) (σ : Kept) (pairs : zip σ.variables.items σ.values.items ≡ bound)
    (one_each : length σ.variables.items ≡ length σ.values.items) where
  abbrev asked : Basis
  asked = asking b fs (variables_of bound)

  names : map variable_of σ.variables.items ≡ variables_of bound
  names = sym (variables_paired σ.variables.items σ.values.items one_each) ∙ ap variables_of pairs

  abbrev e : ℕ
  e = suc (length b.program.equations)

  known_first : (nodes : List Node) (table : Table) → All (IsValueOf b.program.sig nodes table) bound → IsKnownBinding asked nodes table e 0 σ
  known_first nodes table values =
      let all : All (IsValueOf b.program.sig nodes table) (zip σ.variables.items σ.values.items) = subst (All (IsValueOf b.program.sig nodes table)) (sym pairs) values in
      record {
        values = record {
          one_each = sym one_each;
          within = paired_within b.program.sig nodes table σ.variables.items σ.values.items one_each all;
          kinds = paired_kinds b.program.sig nodes table σ.variables.items σ.values.items one_each all;
        };
        variables = names ∙ sym (first_asked b fs (variables_of bound));
        sorts = paired_sorts b.program.sig nodes table σ.variables.items σ.values.items one_each all;
        bound = ap₂ are_bound (first_asked b fs (variables_of bound)) (written_asked b fs (variables_of bound)) ∙ askable.bound;
      }

  -- in a later state
  module _ (b' d : Basis) (old mid : List Node) (before after : Table) (begun : Bool) (comes : ComesOf b b' old mid before after begun) (asks : d ≡ asking b' fs (variables_of bound)) (values : All (IsValueOf b.program.sig old before) bound)
      (table : Table) (same : table ≡ after) (n : ℕ) (is : n ≡ suc (length d.program.equations)) where
    pub basis_is : d ≡ asked
    basis_is = asks ∙ ap (λ (x : Basis). asking x fs (variables_of bound)) comes.basis

    later : IsKnownBinding asked mid after e 0 σ × (bound_in mid σ ≡ bound_in old σ)
    later = binding_later asked old mid before after begun (record { basis = refl; extends = comes.extends; kept = comes.kept; derived = comes.derived; identities = comes.identities }) e 0 σ (known_first old before values)

    number_is : n ≡ e
    number_is = is ∙ ap (λ (x : Basis). suc (length x.program.equations)) basis_is

    pub binding_known : IsKnownBinding d mid table n 0 σ
    binding_known =
        subst (λ (t : Table). IsKnownBinding d mid t n 0 σ) (sym same)
        (subst (λ (x : Basis). IsKnownBinding x mid after n 0 σ) (sym basis_is) (subst (λ (i : ℕ). IsKnownBinding asked mid after i 0 σ) (sym number_is) later.0))

    pub asked_ready : (word : Bool) → word ≡ begun → IsFit b' mid after begun → IsFit d mid table word
    asked_ready word w fit =
        subst (λ (t : Table). IsFit d mid t word) (sym same)
        (subst (λ (x : Basis). IsFit x mid after word) (sym basis_is)
        (asking_fit b fs (variables_of bound) mid after word (subst (λ (x : Basis). IsFit x mid after word) comes.basis (subst (IsFit b' mid after) (sym w) fit)) askable))

    pub meant_alike : meanings_of d ≡ meanings_of b
    meant_alike = ap meanings_of basis_is

    -- what was settled stays so
    pub kept_before : (last : Table) → KeepsEntries table last → KeepsEntries before last
    kept_before last k = kept_on before after last comes.kept (subst (λ (t : Table). KeepsEntries t last) same k)

    pub written_is : written_at d n ≡ fs
    written_is = ap₂ (λ (x : Basis) (i : ℕ). written_at x i) basis_is number_is ∙ written_asked b fs (variables_of bound)

    -- ---- the solution behind which it is asked, if there is one

    module _ {X Y : Type 0} (value : X → Kept) (last : Option X) (now : Y → List (VarId × TermId)) (given : Option Y) (same_last : option_map (λ x. pairs_of (value x)) last ≡ option_map now given)
        (each : IfSome last (λ x. length (value x).variables.items ≡ length (value x).values.items)) (last_values : IfSome given (λ y. All (IsValueOf b.program.sig old before) (now y))) where
      stands : (x : X) (y : Y) → pairs_of (value x) ≡ now y → length (value x).variables.items ≡ length (value x).values.items → All (IsValueOf b.program.sig old before) (now y) →
          StandWithin (theory_at b.program.sig) old (numbers (value x).values.items)
      stands x y q l all = paired_within b.program.sig old before (value x).variables.items (value x).values.items l (subst (All (IsValueOf b.program.sig old before)) (sym q) all)

      last_is : (o : Option X) (g : Option Y) → option_map (λ x. pairs_of (value x)) o ≡ option_map now g → IfSome o (λ x. length (value x).variables.items ≡ length (value x).values.items) →
          IfSome g (λ y. All (IsValueOf b.program.sig old before) (now y)) → option_map (λ x. bound_in mid (value x)) o ≡ option_map (λ y. binding_in old (now y)) g
      last_is None None q l all = refl
      last_is None (Some y) q l all = absurd (cc q)
      last_is (Some x) None q l all = absurd (cc q)
      last_is (Some x) (Some y) q l all =
          let p : pairs_of (value x) ≡ now y = cc in
          ap Some (bound_grown b.program old mid comes.extends (value x) (stands x y p l all) ∙ (sym (pairs_bound old (value x).variables.items (value x).values.items) ∙ ap (binding_in old) p))

      last_stands : (o : Option X) (g : Option Y) → option_map (λ x. pairs_of (value x)) o ≡ option_map now g → IfSome o (λ x. length (value x).variables.items ≡ length (value x).values.items) →
          IfSome g (λ y. All (IsValueOf b.program.sig old before) (now y)) → IfSome o (λ x. StandWithin (theory_at d.program.sig) mid (numbers (value x).values.items))
      last_stands None g q l all = tt
      last_stands (Some x) None q l all = absurd (cc q)
      last_stands (Some x) (Some y) q l all =
          let p : pairs_of (value x) ≡ now y = cc in
          subst (λ (z : Basis). StandWithin (theory_at z.program.sig) mid (numbers (value x).values.items)) (sym basis_is)
          (stand_within_extended (theory_at b.program.sig) old mid (numbers (value x).values.items) comes.extends (stands x y p l all))

      pub last_known : IfSome last (λ x. StandWithin (theory_at d.program.sig) mid (numbers (value x).values.items))
      last_known = last_stands last given same_last each last_values

      abbrev known : Option Binding
      known = option_map (λ y. binding_in old (now y)) given

      -- what the loop computes is what is meant
      pub outcome_is : (k B : ℕ) → solve_from (rules_of d) (option_map (λ x. bound_in mid (value x)) last) k n 0 (bound_in mid σ) B
          ≡ solving_from (meanings_of b) (option_map (λ y. binding_in old (now y)) given) (map fragment_of fs) (binding_in old bound) k b.limit B
      outcome_is k B =
          ap (λ (o : Option Binding). solve_from (rules_of d) o k n 0 (bound_in mid σ) B) (last_is last given same_last each last_values)
          ∙ (ap (λ (x : Basis). solve_from (rules_of x) known k n 0 (bound_in mid σ) B) basis_is
          ∙ (ap (λ (i : ℕ). solve_from (rules_of asked) known k i 0 (bound_in mid σ) B) number_is
          ∙ (ap (λ (τ : Binding). solve_from (rules_of asked) known k e 0 τ B) (later.1 ∙ (sym (pairs_bound old σ.variables.items σ.values.items) ∙ ap (binding_in old) pairs))
          ∙ by_fragments known)))
        where
          by_fragments : (o : Option Binding) → solve_from (rules_of asked) o k e 0 (binding_in old bound) B ≡ solving_from (meanings_of b) o (map fragment_of fs) (binding_in old bound) k b.limit B
          by_fragments None =
              ap (λ (cs : List Fragment). solve (program_over b.program b.hooks) (levels (program_over b.program b.hooks) b.limit k) (map fragment_of cs) (binding_in old bound) B) (written_asked b fs (variables_of bound))
              ∙ sym (ap (λ (r : Run (Option Binding)). r B) (solving_is (program_over b.program b.hooks) k b.limit (map fragment_of fs) (binding_in old bound)))
          by_fragments (Some x) =
              ap (λ (cs : List Fragment). solve_after (program_over b.program b.hooks) (levels (program_over b.program b.hooks) b.limit k) x (map fragment_of cs) (binding_in old bound) B) (written_asked b fs (variables_of bound))
              ∙ sym (ap (λ (r : Run (Option Binding)). r B) (solving_after_is (program_over b.program b.hooks) k b.limit x (map fragment_of fs) (binding_in old bound)))

    -- ---- what is known behind the loop, in a state that comes of that one

    module _ (d' : Basis) (new : List Node) (last : Table) (word : Bool) (more : ComesOf d d' mid new table last word) where
      basis_stays : d' ≡ asked
      basis_stays = more.basis ∙ basis_is

      pub means_alike : meanings_of d' ≡ meanings_of b
      means_alike = ap meanings_of basis_stays

      pub one_each_of : (r : Answer) → IfOk r (λ a. IfSome a (λ x. IsSolved d' new last n x.0)) → IfOk r (λ a. IfSome a (λ x. length x.0.variables.items ≡ length x.0.values.items))
      one_each_of (Ok (Some x)) h = one_value_each d' new last n h.0 x.0 h.1
      one_each_of (Ok None) h = tt
      one_each_of (Err e) h = tt

      -- the values are those of their variables
      values_of : (r : Answer) → IfOk r (λ a. IfSome a (λ x. IsSolved d' new last n x.0)) → IfOk r (λ a. IfSome a (λ x. All (IsValueOf b.program.sig new last) (zip x.0.variables.items x.0.values.items)))
      values_of (Ok (Some x)) h =
          subst (λ (y : Basis). All (IsValueOf y.program.sig new last) (zip x.0.variables.items x.0.values.items)) basis_stays (all_values d' new last n h.0 x.0 h.1)
      values_of (Ok None) h = tt
      values_of (Err e) h = tt

      pub values_paired : (r : Answer) (s : Paired) → IsPaired r s → IfOk r (λ a. IfSome a (λ x. IsSolved d' new last n x.0)) → IfOk s (λ a. IfSome a (λ x. All (IsValueOf b.program.sig new last) x.0))
      values_paired r s p h = of_pairs (λ bs k. All (IsValueOf b.program.sig new last) bs) r s p (values_of r h)

      -- and what was told shows the condition
      module _ (told told' : List Event) where
        tells_of : (r : Answer) → IfOk r (λ a. IfSome a (λ x. TellsCondition d'.program d'.hooks new last told told' (look_up (bound_in new x.0)) (written_at d' n) x.1)) →
            IfOk r (λ a. IfSome a (λ x. TellsCondition b.program b.hooks new last told told' (look_up (binding_in new (zip x.0.variables.items x.0.values.items))) fs x.1))
        tells_of (Ok (Some x)) h =
            let own : TellsCondition asked.program asked.hooks new last told told' (look_up (bound_in new x.0)) (written_at asked n) x.1 =
            subst (λ (y : Basis). TellsCondition y.program y.hooks new last told told' (look_up (bound_in new x.0)) (written_at y n) x.1) basis_stays h in
            subst (λ (σ : Binding). TellsCondition b.program b.hooks new last told told' (look_up σ) fs x.1) (sym (pairs_bound new x.0.variables.items x.0.values.items))
            (subst (λ (cs : List Fragment). TellsCondition b.program b.hooks new last told told' (look_up (bound_in new x.0)) cs x.1)
            (ap (written_at asked) number_is ∙ written_asked b fs (variables_of bound)) own)
        tells_of (Ok None) h = tt
        tells_of (Err e) h = tt

        pub tells_paired : (r : Answer) (s : Paired) → IsPaired r s →
            IfOk r (λ a. IfSome a (λ x. TellsCondition d'.program d'.hooks new last told told' (look_up (bound_in new x.0)) (written_at d' n) x.1)) →
            IfOk s (λ a. IfSome a (λ x. TellsCondition b.program b.hooks new last told told' (look_up (binding_in new x.0)) fs x.1))
        tells_paired r s p h = of_pairs (λ bs k. TellsCondition b.program b.hooks new last told told' (look_up (binding_in new bs)) fs k) r s p (tells_of r h)

      -- what the loop answers, as it is meant
      module _ {X Y : Type 0} (value : X → Kept) (behind : Option X) (now : Y → List (VarId × TermId)) (given : Option Y) (same_last : option_map (λ x. pairs_of (value x)) behind ≡ option_map now given)
          (each : IfSome behind (λ x. length (value x).variables.items ≡ length (value x).values.items)) (last_values : IfSome given (λ y. All (IsValueOf b.program.sig old before) (now y))) (k B left : ℕ) where
        same_program : program_over d.program d.hooks ≡ program_over b.program b.hooks
        same_program = ap (λ (x : Basis). program_over x.program x.hooks) basis_is

        abbrev solves : ℕ → Outcome (Option Binding)
        solves j = solve_from (rules_of d) (option_map (λ x. bound_in mid (value x)) behind) (k + j) n 0 (bound_in mid σ) B

        abbrev meant : ℕ → Outcome (Option Binding)
        meant j = solving_from (meanings_of b) (option_map (λ y. binding_in old (now y)) given) (map fragment_of fs) (binding_in old bound) j b.limit B

        is_meant : (j : ℕ) → solves j ≡ meant (k + j)
        is_meant j = outcome_is value behind now given same_last each last_values (k + j) B

        pub loop_answer : (r : Answer) → IfOk r (λ a. IfSome a (λ x. Comes (program_over d.program d.hooks) solves (done (Some (bound_in new x.0)) x.1 left))) →
            IfOk r (λ a. IfNone a (Comes (program_over d.program d.hooks) (λ j. counted_if 0 (solves j)) (done None 0 left))) →
            IfErr r (ComesToEnd (program_over d.program d.hooks) solves) → IsLoopAnswer (program_over b.program b.hooks) new meant k r left
        loop_answer (Ok (Some x)) some none ends = record {
          some = comes_along is_meant (subst (λ (P : Program). Comes P solves (done (Some (bound_in new x.0)) x.1 left)) same_program some);
          none = tt;
          ends = tt;
        }
        loop_answer (Ok None) some none ends = record {
          some = tt;
          none = comes_along (λ j. ap (counted_if 0) (is_meant j)) (subst (λ (P : Program). Comes P (λ j. counted_if 0 (solves j)) (done None 0 left)) same_program none);
          ends = tt;
        }
        loop_answer (Err e') some none ends = record {
          some = tt;
          none = tt;
          ends = end_along (program_over b.program b.hooks) is_meant e' (subst (λ (P : Program). ComesToEnd P solves e') same_program ends);
        }
