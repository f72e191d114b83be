-- A definition of a text is one, or has one first fault, but for the two trees of an ambiguity.
use Rattle.std.proofs.Common.{◌≡◌, ℕ, ◌<◌, ◌≤◌, List, [], Bool, true, false, ◌&&◌, length, Result, Ok, Err, refl, sym, ap, ap₂, ◌∙◌, subst, All, arith}
use Rattle.mau_terms.specs.Tree.{Tree}
use Rattle.mau_tokens.specs.declared.token.Token.{Token}
use Rattle.mau_modtext.specs.declared.raw.RawStatement.{RawStatement}
use Rattle.mau_declare.proofs.Once.{yes_no}
use Rattle.mau_grammar.specs.Production.{IsShaped}
use Rattle.mau_program.specs.Binding.{are_bound}
use Rattle.mau_program.specs.LawfulStrategies.{variables_in}
use Rattle.mau_program.specs.Trees.{StrategyOf, call}
use Rattle.mau_program.specs.declared.statements.Fragment.{Fragment}
use Rattle.mau_program.specs.declared.definitions.StratDef.{StratDef}
use Rattle.mau_statement.specs.Parts.{Pairs, part_words}
use Rattle.mau_statement.specs.Conditions.{ConditionReads, ConditionUnread}
use Rattle.mau_statement.specs.Faults.{without_trees as without_trees_of_statement}
use Rattle.mau_statement.specs.declared.fault.StatementFault.{StatementFault}
use Rattle.mau_statement.specs.declared.fault.StatementFault.TheVariants.{LimitExceeded}
use Rattle.mau_statement.specs.declared.fault.Limit.TheVariants.{Fragments}
use Rattle.mau_statement.proofs.OneStatement.{condition_once, condition_no_fault, condition_fault_once}
use Rattle.mau_strattext.specs.Setting.{setting_of}
use Rattle.mau_strattext.specs.Strategies.{StrategyRead}
use Rattle.mau_strattext.specs.Laws.{without_trees as without_trees_of_strategy, told as told_of_strategy}
use Rattle.mau_strattext.specs.declared.fault.StratFault.{StratFault}
use Rattle.mau_strattext.proofs.OneStrategy.{strategy_once}
use Rattle.mau_definition.specs.declared.call.Call.{Call}
use Rattle.mau_definition.specs.declared.fault.DefinitionFault.{DefinitionFault}
use Rattle.mau_definition.specs.declared.fault.DefinitionFault.TheVariants.{Statement, Strategy}
use Rattle.mau_definition.specs.Calls.{call_setting, call_size, is_call, CallRead, nothing_there, call_unread, no_call, words_behind, call_reads}
use Rattle.mau_definition.specs.Definitions.{Around, BodyRead, nothing_right, body_reads, CallOf, DefinitionReads, DefinitionUnread, condition_unread, condition_unread_first, no_call_read, condition_unbound, body_unread, DefinitionJudged, too_many_variables, too_many_fragments, variable_unbound, accepted, DefinitionRead, parts_read, too_many_unread, part_unread}
use Rattle.mau_definition.specs.Laws.{without_trees, told}

-- ---- answers with variables behind them

abbrev told_call : Pairs → Result Call StratFault → Result (Call × Pairs) StratFault
told_call os (Ok x) = Ok (x, os)
told_call os (Err f) = Err (without_trees_of_strategy f)

first_of : {A B E : Type 0} {x y : A} {p q : B} → ◌≡◌ {A = Result (A × B) E} (Ok (x, p)) (Ok (y, q)) → x ≡ y
first_of {x = x} e = ap (λ r. elim r [ Ok z ↦ z.0 | Err f ↦ x ]) e

second_of : {A B E : Type 0} {x y : A} {p q : B} → ◌≡◌ {A = Result (A × B) E} (Ok (x, p)) (Ok (y, q)) → p ≡ q
second_of {p = p} e = ap (λ r. elim r [ Ok z ↦ z.1 | Err f ↦ p ]) e

err_of : {A E : Type 0} {f g : E} → ◌≡◌ {A = Result A E} (Err f) (Err g) → f ≡ g
err_of e = cc

not_both : {A E : Type 0} {x : A} {f : E} → ◌≡◌ {A = Result A E} (Ok x) (Err f) → ⊥
not_both e = absurd cc

not_either : {A E : Type 0} {x : A} {f : E} → ◌≡◌ {A = Result A E} (Err f) (Ok x) → ⊥
not_either e = absurd cc

call_there : {x : StrategyOf} {f : List ℕ} {bs : List Tree} → x ≡ call f bs → is_call x ≡ false → ⊥
call_there e h = let m = sym (ap is_call e) ∙ h in absurd cc

call_of : {f g : List ℕ} {bs cs : List Tree} → call f bs ≡ call g cs → ◌≡◌ {A = Call} (record { name = f; args = bs }) (record { name = g; args = cs })
call_of e =
    let n : _ = e in
    ap₂ (λ (f : List ℕ) (bs : List Tree). let x : Call = record { name = f; args = bs } in x)
    (ap (λ z. elim z [ call f bs ↦ f | _ ↦ [] ]) e) (ap (λ z. elim z [ call f bs ↦ bs | _ ↦ [] ]) e)

module _ (a : Around) (shaped : All IsShaped a.context.grammar.productions) where
  -- ---- the call

  module _ (ts : List Token) (ns : Pairs) where
    strategies : {os os' : Pairs} {r r' : Result StrategyOf StratFault} → StrategyRead (call_setting a.words a.context a.names ts) ns os r
        → StrategyRead (call_setting a.words a.context a.names ts) ns os' r' → told_of_strategy os r ≡ told_of_strategy os' r'
    strategies {os} {os'} {r} {r'} x y = strategy_once (call_setting a.words a.context a.names ts) shaped ns os os' r r' x y

    call_once : {os os' : Pairs} {r r' : Result Call StratFault} → CallRead a.words a.context a.names ts ns os r → CallRead a.words a.context a.names ts ns os' r'
        → told_call os r ≡ told_call os' r'
    call_once (nothing_there e) (nothing_there e') = refl
    call_once (nothing_there e) (call_unread f' e' y') = absurd (yes_no _ e e')
    call_once (nothing_there e) (no_call m' x' e' y' c') = absurd (yes_no _ e e')
    call_once (nothing_there e) (words_behind m' f' bs' e' y' l') = absurd (yes_no _ e e')
    call_once (nothing_there e) (call_reads f' bs' e' y' l') = absurd (yes_no _ e e')
    call_once (call_unread f e y) (nothing_there e') = absurd (yes_no _ e' e)
    call_once {os} {os'} (call_unread f e y) (call_unread f' e' y') = ap (λ f. Err f) (err_of (strategies y y'))
    call_once (call_unread f e y) (no_call m' x' e' y' c') = absurd (not_either (strategies y y'))
    call_once (call_unread f e y) (words_behind m' f' bs' e' y' l') = absurd (not_either (strategies y y'))
    call_once (call_unread f e y) (call_reads f' bs' e' y' l') = absurd (not_either (strategies y y'))
    call_once (no_call m x e y c) (nothing_there e') = absurd (yes_no _ e' e)
    call_once (no_call m x e y c) (call_unread f' e' y') = absurd (not_both (strategies y y'))
    call_once (no_call m x e y c) (no_call m' x' e' y' c') = refl
    call_once (no_call m x e y c) (words_behind m' f' bs' e' y' l') = absurd (call_there (first_of (strategies y y')) c)
    call_once (no_call m x e y c) (call_reads f' bs' e' y' l') = absurd (call_there (first_of (strategies y y')) c)
    call_once (words_behind m f bs e y l) (nothing_there e') = absurd (yes_no _ e' e)
    call_once (words_behind m f bs e y l) (call_unread f' e' y') = absurd (not_both (strategies y y'))
    call_once (words_behind m f bs e y l) (no_call m' x' e' y' c') = absurd (call_there (sym (first_of (strategies y y'))) c')
    call_once (words_behind m f bs e y l) (words_behind m' f' bs' e' y' l') = refl
    call_once (words_behind m f bs e y l) (call_reads f' bs' e' y' l') = absurd (omega (arith, l, l'))
    call_once (call_reads f bs e y l) (nothing_there e') = absurd (yes_no _ e' e)
    call_once (call_reads f bs e y l) (call_unread f' e' y') = absurd (not_both (strategies y y'))
    call_once (call_reads f bs e y l) (no_call m' x' e' y' c') = absurd (call_there (sym (first_of (strategies y y'))) c')
    call_once (call_reads f bs e y l) (words_behind m' f' bs' e' y' l') = absurd (omega (arith, l, l'))
    call_once (call_reads f bs e y l) (call_reads f' bs' e' y' l') =
        let one = strategies y y' in ap₂ (λ x os. Ok (x, os)) (call_of (first_of one)) (second_of one)

  -- ---- the strategy

  body_once : (ts : List Token) (ns : Pairs) {os os' : Pairs} {r r' : Result StrategyOf StratFault} → BodyRead a ts ns os r → BodyRead a ts ns os' r'
      → told_of_strategy os r ≡ told_of_strategy os' r'
  body_once ts ns (nothing_right e) (nothing_right e') = refl
  body_once ts ns (nothing_right e) (body_reads r' e' y') = absurd (yes_no _ e e')
  body_once ts ns (body_reads r e y) (nothing_right e') = absurd (yes_no _ e' e)
  body_once ts ns {os} {os'} (body_reads r e y) (body_reads r' e' y') =
      strategy_once (setting_of a.words ts a.context a.labels a.names) shaped ns os os' r r' y y'

  body_at : (ts : List Token) {ns ms os os' : Pairs} {r : Result StrategyOf StratFault} → ns ≡ ms → os ≡ os' → BodyRead a ts ns os r → BodyRead a ts ms os' r
  body_at ts {ns} {ms} {os} {os'} {r} e f y = subst (λ z. BodyRead a ts ms z r) f (subst (λ z. BodyRead a ts z os r) e y)

  -- ---- definitions

  module _ (raw : RawStatement) where
    calls : {m m' : Pairs} {r r' : Result Call StratFault} → CallOf a raw [] m r → CallOf a raw [] m' r' → told_call m r ≡ told_call m' r'
    calls x y = call_once raw.left [] x y

    cond_at : {ns ms os : Pairs} {c : List Fragment} → ns ≡ ms → ConditionReads a.words a.context ns raw.cond os c → ConditionReads a.words a.context ms raw.cond os c
    cond_at {ns} {ms} {os} {c} e y = subst (λ z. ConditionReads a.words a.context z raw.cond os c) e y

    uncond_at : {ns ms : Pairs} {f : StatementFault} → ns ≡ ms → ConditionUnread a.words a.context ns raw.cond f → ConditionUnread a.words a.context ms raw.cond f
    uncond_at {ns} {ms} {f} e y = subst (λ z. ConditionUnread a.words a.context z raw.cond f) e y

    -- a call and a condition that are read
    record Same (m m' l l' : Pairs) (x x' : Call) (c c' : List Fragment) : Type 0 where
      middle : m ≡ m'
      last : l ≡ l'
      call : x ≡ x'
      condition : c ≡ c'

    same : {m m' l l' : Pairs} {x x' : Call} {c c' : List Fragment} → CallOf a raw [] m (Ok x) → ConditionReads a.words a.context m raw.cond l c
        → CallOf a raw [] m' (Ok x') → ConditionReads a.words a.context m' raw.cond l' c' → Same m m' l l' x x' c c'
    same {m} {m'} {l} {l'} p y p' y' =
        let one = calls p p' in
        let two = condition_once a.words a.context shaped m raw.cond raw.cond refl y (cond_at (sym (second_of one)) y') in
        record { middle = second_of one; last = two.pairs; call = first_of one; condition = two.fragments }

    no_condition : {m m' l : Pairs} {x x' : Call} {c : List Fragment} {f : StatementFault} → CallOf a raw [] m (Ok x) → ConditionReads a.words a.context m raw.cond l c
        → CallOf a raw [] m' (Ok x') → ConditionUnread a.words a.context m' raw.cond f → ⊥
    no_condition {m} p y p' u = condition_no_fault a.words a.context shaped m raw.cond y (uncond_at (sym (second_of (calls p p'))) u)

    not_read : {m m' : Pairs} {x : Call} {g : StratFault} → CallOf a raw [] m (Ok x) → CallOf a raw [] m' (Err g) → ⊥
    not_read p q = not_both (calls p q)

    body_not : {m m' l l' o o' : Pairs} {x x' : Call} {c c' : List Fragment} {b : StrategyOf} {g : StratFault} → CallOf a raw [] m (Ok x) → ConditionReads a.words a.context m raw.cond l c
        → CallOf a raw [] m' (Ok x') → ConditionReads a.words a.context m' raw.cond l' c' → BodyRead a raw.right l o (Ok b) → BodyRead a raw.right l' o' (Err g) → ⊥
    body_not {l = l} p y p' y' b u = let s = same p y p' y' in not_both (body_once raw.right l b (body_at raw.right (sym s.last) refl u))

    bound_at : {m m' l l' : Pairs} {x x' : Call} {c c' : List Fragment} → Same m m' l l' x x' c c' → are_bound (variables_in x.args) c ≡ are_bound (variables_in x'.args) c'
    bound_at s = ap₂ (λ (x : Call) c. are_bound (variables_in x.args) c) s.call s.condition

    unread_once : {f g : DefinitionFault} → DefinitionUnread a raw f → DefinitionUnread a raw g → without_trees f ≡ without_trees g
    unread_once (condition_unread x m f p u) (condition_unread x' m' f' p' u') =
        ap Statement (condition_fault_once a.words a.context shaped m raw.cond u (uncond_at (sym (second_of (calls p p'))) u'))
    unread_once (condition_unread x m f p u) (condition_unread_first g' f' p' u') = absurd (not_read p p')
    unread_once (condition_unread x m f p u) (no_call_read g' os' c' p' y') = absurd (not_read p p')
    unread_once (condition_unread x m f p u) (condition_unbound x' m' l' c' g' p' y' b' w') = absurd (no_condition p' y' p u)
    unread_once (condition_unread x m f p u) (body_unread x' m' l' c' g' p' y' b' w') = absurd (no_condition p' y' p u)
    unread_once (condition_unread_first g f p u) (condition_unread x' m' f' p' u') = absurd (not_read p' p)
    unread_once (condition_unread_first g f p u) (condition_unread_first g' f' p' u') = ap Statement (condition_fault_once a.words a.context shaped [] raw.cond u u')
    unread_once (condition_unread_first g f p u) (no_call_read g' os' c' p' y') = absurd (condition_no_fault a.words a.context shaped [] raw.cond y' u)
    unread_once (condition_unread_first g f p u) (condition_unbound x' m' l' c' g' p' y' b' w') = absurd (not_read p' p)
    unread_once (condition_unread_first g f p u) (body_unread x' m' l' c' g' p' y' b' w') = absurd (not_read p' p)
    unread_once (no_call_read g os c p y) (condition_unread x' m' f' p' u') = absurd (not_read p' p)
    unread_once (no_call_read g os c p y) (condition_unread_first g' f' p' u') = absurd (condition_no_fault a.words a.context shaped [] raw.cond y u')
    unread_once (no_call_read g os c p y) (no_call_read g' os' c' p' y') = ap Strategy (err_of (calls p p'))
    unread_once (no_call_read g os c p y) (condition_unbound x' m' l' c' g' p' y' b' w') = absurd (not_read p' p)
    unread_once (no_call_read g os c p y) (body_unread x' m' l' c' g' p' y' b' w') = absurd (not_read p' p)
    unread_once (condition_unbound x m l c g p y b w) (condition_unread x' m' f' p' u') = absurd (no_condition p y p' u')
    unread_once (condition_unbound x m l c g p y b w) (condition_unread_first g' f' p' u') = absurd (not_read p p')
    unread_once (condition_unbound x m l c g p y b w) (no_call_read g' os' c' p' y') = absurd (not_read p p')
    unread_once (condition_unbound x m l c g p y b w) (condition_unbound x' m' l' c' g' p' y' b' w') = refl
    unread_once (condition_unbound x m l c g p y b w) (body_unread x' m' l' c' g' p' y' b' w') = absurd (yes_no _ (bound_at (same p y p' y') ∙ b') b)
    unread_once (body_unread x m l c g p y b w) (condition_unread x' m' f' p' u') = absurd (no_condition p y p' u')
    unread_once (body_unread x m l c g p y b w) (condition_unread_first g' f' p' u') = absurd (not_read p p')
    unread_once (body_unread x m l c g p y b w) (no_call_read g' os' c' p' y') = absurd (not_read p p')
    unread_once (body_unread x m l c g p y b w) (condition_unbound x' m' l' c' g' p' y' b' w') = absurd (yes_no _ (sym (bound_at (same p y p' y')) ∙ b) b')
    unread_once (body_unread x m l c g p y b w) (body_unread x' m' l' c' g' p' y' b' w') =
        let s = same p y p' y' in ap Strategy (err_of (body_once raw.right l w (body_at raw.right (sym s.last) (sym s.last) w')))

    reads_no_fault : {d : StratDef} {f : DefinitionFault} → DefinitionReads a raw d → DefinitionUnread a raw f → ⊥
    reads_no_fault r (condition_unread x m f p u) = no_condition r.defined r.condition p u
    reads_no_fault r (condition_unread_first g f p u) = not_read r.defined p
    reads_no_fault r (no_call_read g os c p y) = not_read r.defined p
    reads_no_fault r (condition_unbound x m l c g p y b w) = body_not r.defined r.condition p y r.body w
    reads_no_fault r (body_unread x m l c g p y b w) = body_not r.defined r.condition p y r.body w

    reads_once : (d d' : StratDef) → DefinitionReads a raw d → DefinitionReads a raw d' → d ≡ d'
    reads_once d d' r r' =
        let s = same r.defined r.condition r'.defined r'.condition in
        let b = body_once raw.right r.last r.body (body_at raw.right (sym s.last) refl r'.body) in
        ap₂ (λ (x : Call) c. record d { name = x.name; args = x.args; cond = c }) s.call s.condition
        ∙ ap₂ (λ x vs. record d' { body = x; vars = vs }) (first_of b) (second_of b)

  judged_once : (n : ℕ) (d : StratDef) {r r' : Result StratDef DefinitionFault} → DefinitionJudged n d r → DefinitionJudged n d r' → r ≡ r'
  judged_once n d (too_many_variables l) (too_many_variables l') = refl
  judged_once n d (too_many_variables l) (too_many_fragments l' k') = absurd (omega (arith, l, l'))
  judged_once n d (too_many_variables l) (variable_unbound l' k' b') = absurd (omega (arith, l, l'))
  judged_once n d (too_many_variables l) (accepted l' k' b') = absurd (omega (arith, l, l'))
  judged_once n d (too_many_fragments l k) (too_many_variables l') = absurd (omega (arith, l, l'))
  judged_once n d (too_many_fragments l k) (too_many_fragments l' k') = refl
  judged_once n d (too_many_fragments l k) (variable_unbound l' k' b') = absurd (omega (arith, k, k'))
  judged_once n d (too_many_fragments l k) (accepted l' k' b') = absurd (omega (arith, k, k'))
  judged_once n d (variable_unbound l k b) (too_many_variables l') = absurd (omega (arith, l, l'))
  judged_once n d (variable_unbound l k b) (too_many_fragments l' k') = absurd (omega (arith, k, k'))
  judged_once n d (variable_unbound l k b) (variable_unbound l' k' b') = refl
  judged_once n d (variable_unbound l k b) (accepted l' k' b') = absurd (yes_no _ b' b)
  judged_once n d (accepted l k b) (too_many_variables l') = absurd (omega (arith, l, l'))
  judged_once n d (accepted l k b) (too_many_fragments l' k') = absurd (omega (arith, k, k'))
  judged_once n d (accepted l k b) (variable_unbound l' k' b') = absurd (yes_no _ b b')
  judged_once n d (accepted l k b) (accepted l' k' b') = refl

  pub definition_once : (raw : RawStatement) (r r' : Result StratDef DefinitionFault) → DefinitionRead a raw r → DefinitionRead a raw r' → told r ≡ told r'
  definition_once raw q q' (parts_read d r x j) (parts_read d' r' x' j') =
      let e = reads_once raw d d' x x' in
      ap told (judged_once (length raw.cond) d j (subst (λ z. DefinitionJudged (length raw.cond) z r') (sym e) j'))
  definition_once raw q q' (parts_read d r x j) (too_many_unread f' u' l') = absurd (reads_no_fault raw x u')
  definition_once raw q q' (parts_read d r x j) (part_unread f' u' l') = absurd (reads_no_fault raw x u')
  definition_once raw q q' (too_many_unread f u l) (parts_read d' r' x' j') = absurd (reads_no_fault raw x' u)
  definition_once raw q q' (too_many_unread f u l) (too_many_unread f' u' l') = refl
  definition_once raw q q' (too_many_unread f u l) (part_unread f' u' l') = absurd (omega (arith, l, l'))
  definition_once raw q q' (part_unread f u l) (parts_read d' r' x' j') = absurd (reads_no_fault raw x' u)
  definition_once raw q q' (part_unread f u l) (too_many_unread f' u' l') = absurd (omega (arith, l, l'))
  definition_once raw q q' (part_unread f u l) (part_unread f' u' l') = ap (λ f. Err f) (unread_once raw u u')
