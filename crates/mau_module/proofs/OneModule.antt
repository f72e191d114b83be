-- A module of a text is one module over the library, or has one fault, whichever two trees an ambiguity has.
use Rattle.std.specs.Prelude.{All}
use Rattle.std.proofs.Common.{◌≡◌, ℕ, suc, ◌<◌, ◌≤◌, List, map, Result, Ok, Err, refl, sym, ◌∙◌, ap, ap₂, subst, arith}
use Rattle.mau_signature.specs.Signature.{SignatureOf}
use Rattle.mau_modtext.specs.Word.{Word}
use Rattle.mau_modtext.specs.declared.raw.RawElement.{RawElement}
use Rattle.mau_modtext.specs.declared.raw.RawModule.{RawModule}
use Rattle.mau_modtext.specs.declared.raw.RawStatement.{RawStatement}
use Rattle.mau_declare.specs.Elements.{Elements, elements_of}
use Rattle.mau_declare.specs.Flattened.{variable_at}
use Rattle.mau_declare.proofs.Once.{yes_no, some_none, some_once}
use Rattle.mau_grammar.specs.Production.{IsShaped}
use Rattle.mau_program.specs.declared.definitions.StratDef.{StratDef}
use Rattle.mau_statement.specs.Faults.{without_trees as without_trees_of_statement, told as told_of_statement}
use Rattle.mau_statement.specs.Statements.{StatementRead}
use Rattle.mau_statement.specs.declared.fault.StatementFault.{StatementFault}
use Rattle.mau_statement.specs.declared.statement.Statement.{Statement as StatementType}
use Rattle.mau_statement.proofs.OneStatement.{shaped_of, statement_once}
use Rattle.mau_definition.specs.Definitions.{Around, DefinitionRead}
use Rattle.mau_definition.specs.Laws.{without_trees as without_trees_of_definition, told as told_of_definition}
use Rattle.mau_definition.specs.declared.fault.DefinitionFault.{DefinitionFault}
use Rattle.mau_definition.specs.declared.fault.DefinitionFault.TheVariants.{Statement as OfStatement, Strategy as OfStrategy, NoMemory as NoMemoryOfDefinition}
use Rattle.mau_definition.proofs.OneDefinition.{definition_once}
use Rattle.mau_signing.specs.Signed.{SignatureRead}
use Rattle.mau_signing.proofs.OneSignature.{signature_once}
use Rattle.mau_module.specs.declared.fault.ModuleFault.{ModuleFault}
use Rattle.mau_module.specs.declared.fault.ModuleFault.TheVariants.{UnknownModule, TooLarge, UnknownSort, Signed, Statement}
use Rattle.mau_module.specs.declared.TheConstants.{MAX_DEPTH}
use Rattle.mau_module.specs.declared.statements.Stated.{Stated}
use Rattle.mau_module.specs.declared.statements.Stated.TheVariants.{Statement as AStatement, Definition as ADefinition}
use Rattle.mau_module.specs.Modules.{StatementsOf, ModuleOf}
use Rattle.mau_module.specs.Framed.{frame_of}
use Rattle.mau_module.specs.Stated.{AreLawful, HasCarriedFault, no_left_side, no_head, with_statement, StatedRead, statement_read, statement_unread, definition_read, definition_unread, OwnRead, none_left, no_statement, at_fault, one_more}
use Rattle.mau_module.specs.Faults.{statement_fault, without_trees, told}
use Rattle.mau_module.specs.Flattened.{given_in, conflict_in, carried_in, around_in, OwnAs, module_in, IsSigned, FlattenedAs, module_unknown, import_too_deep, too_large, sort_unknown, not_signed, carried_at_fault, own_at_fault, flattened}

ok_once : {X E : Type 0} {x y : X} {r : Result X E} → r ≡ Ok x → r ≡ Ok y → x ≡ y
ok_once t f = let e = sym t ∙ f in cc

err_once : {X E : Type 0} {x y : E} {r : Result X E} → r ≡ Err x → r ≡ Err y → x ≡ y
err_once t f = let e = sym t ∙ f in cc

ok_err : {X E : Type 0} {x : X} {y : E} {r : Result X E} → r ≡ Ok x → r ≡ Err y → ⊥
ok_err t f = let e = sym t ∙ f in absurd cc

-- ---- statements of the parts

module _ (s : SignatureOf) (a : StatementsOf) where
  carried_once : {f f' : StatementFault} → HasCarriedFault s a f → HasCarriedFault s a f' → f ≡ f'
  carried_once (no_left_side n) (no_left_side n') = refl
  carried_once (no_left_side n) (no_head l' n') = absurd (n l')
  carried_once (no_head l n) (no_left_side n') = absurd (n' l)
  carried_once (no_head l n) (no_head l' n') = refl

  lawful_no_fault : {f : StatementFault} → AreLawful s a → HasCarriedFault s a f → ⊥
  lawful_no_fault l (no_left_side n) = n l.left_sides
  lawful_no_fault l (no_head m n) = n l.heads

-- ---- what comes before them

-- no number is both above and at most another
one_side : (d m : ℕ) → m < d → d ≤ m → ⊥
one_side d m l k = omega (arith, l, k)

module _ (ms : List ModuleOf) (ws : List Word) (raw : RawModule) where
  deep_shallow : MAX_DEPTH < (frame_of ms ws raw).depth → (frame_of ms ws raw).depth ≤ MAX_DEPTH → ⊥
  deep_shallow l k = one_side (frame_of ms ws raw).depth MAX_DEPTH l k

  abbrev SignedAs : Elements → Result SignatureOf (List ℕ) → Type 0
  SignedAs e r = SignatureRead (frame_of ms ws raw).names (given_in ms (frame_of ms ws raw) e) (conflict_in ms (frame_of ms ws raw) e) r

  same_signature : {e e' : Elements} {r r' : Result SignatureOf (List ℕ)} → e ≡ e' → SignedAs e r → SignedAs e' r' → r ≡ r'
  same_signature {e} {e'} {r} {r'} m y y' =
      signature_once (frame_of ms ws raw).names (given_in ms (frame_of ms ws raw) e) (conflict_in ms (frame_of ms ws raw) e) y (subst (λ e. SignedAs e r') (sym m) y')

  signed_once : {e e' : Elements} {s s' : SignatureOf} → IsSigned ms ws raw e s → IsSigned ms ws raw e' s' → (e ≡ e') × (s ≡ s')
  signed_once p p' = let m = ok_once p.elements p'.elements in (m, ok_once refl (same_signature m p.signature p'.signature))

  -- where there is a signature, none is refused
  not_refused : {e e' : Elements} {text : List ℕ} {s : SignatureOf} → elements_of ws (frame_of ms ws raw).names raw.elements ≡ Ok e → SignedAs e (Err text) → IsSigned ms ws raw e' s → ⊥
  not_refused x y p = ok_err refl (same_signature (ok_once p.elements x) p.signature y)

  -- the statements of the parts are those over the one signature
  same_carried : {e e' : Elements} {s s' : SignatureOf} {f f' : StatementFault} → IsSigned ms ws raw e s → IsSigned ms ws raw e' s'
      → HasCarriedFault s (carried_in ms (frame_of ms ws raw) s) f → HasCarriedFault s' (carried_in ms (frame_of ms ws raw) s') f' → f ≡ f'
  same_carried {s = s} {f' = f'} p p' x x' =
      carried_once s (carried_in ms (frame_of ms ws raw) s) x (subst (λ s. HasCarriedFault s (carried_in ms (frame_of ms ws raw) s) f') (sym (signed_once p p').1) x')

  not_lawful : {e e' : Elements} {s s' : SignatureOf} {f : StatementFault} → IsSigned ms ws raw e s → IsSigned ms ws raw e' s'
      → AreLawful s (carried_in ms (frame_of ms ws raw) s) → HasCarriedFault s' (carried_in ms (frame_of ms ws raw) s') f → ⊥
  not_lawful {s = s} {f = f} p p' l x =
      lawful_no_fault s (carried_in ms (frame_of ms ws raw) s) l (subst (λ s. HasCarriedFault s (carried_in ms (frame_of ms ws raw) s) f) (sym (signed_once p p').1) x)

-- ---- its own statements

-- an answer of statements, as far as it is one
abbrev own_told : Result StatementsOf (ℕ × DefinitionFault) → Result StatementsOf (ℕ × DefinitionFault)
own_told (Ok a) = Ok a
own_told (Err p) = Err (p.0, without_trees_of_definition p.1)

module _ (a : Around) (shaped : All IsShaped a.context.grammar.productions) where
  statements_same : (raw : RawStatement) {r r' : Result StatementType StatementFault} → StatementRead a.words a.context raw r → StatementRead a.words a.context raw r'
      → told_of_statement r ≡ told_of_statement r'
  statements_same raw {r} {r'} y y' = statement_once a.words a.context shaped raw r r' y y'

  definitions_same : (raw : RawStatement) {r r' : Result StratDef DefinitionFault} → DefinitionRead a raw r → DefinitionRead a raw r' → told_of_definition r ≡ told_of_definition r'
  definitions_same raw {r} {r'} y y' = definition_once a shaped raw r r' y y'

  stated_once : (raw : RawStatement) {r r' : Result Stated DefinitionFault} → StatedRead a raw r → StatedRead a raw r' → told_of_definition r ≡ told_of_definition r'
  stated_once raw (statement_read x k y) (statement_read x' k' y') = ap (λ x. Ok (AStatement x)) (ok_once refl (statements_same raw y y'))
  stated_once raw (statement_read x k y) (statement_unread f' k' y') = absurd (ok_err refl (statements_same raw y y'))
  stated_once raw (statement_read x k y) (definition_read d' k' y') = absurd (yes_no _ k' k)
  stated_once raw (statement_read x k y) (definition_unread f' k' y') = absurd (yes_no _ k' k)
  stated_once raw (statement_unread f k y) (statement_read x' k' y') = absurd (ok_err refl (statements_same raw y' y))
  stated_once raw (statement_unread f k y) (statement_unread f' k' y') = ap (λ f. Err (OfStatement f)) (err_once refl (statements_same raw y y'))
  stated_once raw (statement_unread f k y) (definition_read d' k' y') = absurd (yes_no _ k' k)
  stated_once raw (statement_unread f k y) (definition_unread f' k' y') = absurd (yes_no _ k' k)
  stated_once raw (definition_read d k y) (statement_read x' k' y') = absurd (yes_no _ k k')
  stated_once raw (definition_read d k y) (statement_unread f' k' y') = absurd (yes_no _ k k')
  stated_once raw (definition_read d k y) (definition_read d' k' y') = ap (λ d. Ok (ADefinition d)) (ok_once refl (definitions_same raw y y'))
  stated_once raw (definition_read d k y) (definition_unread f' k' y') = absurd (ok_err refl (definitions_same raw y y'))
  stated_once raw (definition_unread f k y) (statement_read x' k' y') = absurd (yes_no _ k k')
  stated_once raw (definition_unread f k y) (statement_unread f' k' y') = absurd (yes_no _ k k')
  stated_once raw (definition_unread f k y) (definition_read d' k' y') = absurd (ok_err refl (definitions_same raw y' y))
  stated_once raw (definition_unread f k y) (definition_unread f' k' y') = ap (λ f. Err f) (err_once refl (definitions_same raw y y'))

  same_stated : {raw raw' : RawStatement} {r r' : Result Stated DefinitionFault} → raw ≡ raw' → StatedRead a raw r → StatedRead a raw' r' → told_of_definition r ≡ told_of_definition r'
  same_stated {raw} {raw'} {r} {r'} m y y' = stated_once raw y (subst (λ raw. StatedRead a raw r') (sym m) y')

  own_once : {o : StatementsOf} {i : ℕ} {es : List RawElement} {r s : Result StatementsOf (ℕ × DefinitionFault)} → OwnRead a o i es r → OwnRead a o i es s → own_told r ≡ own_told s
  own_once (none_left o i) (none_left o' i') = refl
  own_once (no_statement o i e es r n w) (no_statement o' i' e' es' r' n' w') = own_once w w'
  own_once (no_statement o i e es r n w) (at_fault o' i' e' es' raw' f' t' y') = absurd (some_none t' n)
  own_once (no_statement o i e es r n w) (one_more o' i' e' es' raw' x' r' t' y' w') = absurd (some_none t' n)
  own_once (at_fault o i e es raw f t y) (no_statement o' i' e' es' r' n' w') = absurd (some_none t n')
  own_once (at_fault o i e es raw f t y) (at_fault o' i' e' es' raw' f' t' y') = ap (λ f. Err (i, f)) (err_once refl (same_stated (some_once t t') y y'))
  own_once (at_fault o i e es raw f t y) (one_more o' i' e' es' raw' x' r' t' y' w') = absurd (ok_err refl (same_stated (some_once t' t) y' y))
  own_once (one_more o i e es raw x r t y w) (no_statement o' i' e' es' r' n' w') = absurd (some_none t n')
  own_once (one_more o i e es raw x r t y w) (at_fault o' i' e' es' raw' f' t' y') = absurd (ok_err refl (same_stated (some_once t t') y y'))
  own_once (one_more o i e es raw x r t y w) (one_more o' i' e' es' raw' x' r' t' y' w') =
      let m : x ≡ x' = ok_once refl (same_stated (some_once t t') y y') in
      own_once w (subst (λ x. OwnRead a (with_statement o x) (suc i) es r') (sym m) w')

-- a fault with its number, as far as it is told
told_numbered : (i : ℕ) (f : DefinitionFault) → without_trees (statement_fault i f) ≡ statement_fault i (without_trees_of_definition f)
told_numbered i (OfStatement f) = refl
told_numbered i (OfStrategy f) = refl
told_numbered i NoMemoryOfDefinition = refl

module _ (ms : List ModuleOf) (ws : List Word) (raw : RawModule) where
  same_own : {e e' : Elements} {s s' : SignatureOf} {r r' : Result StatementsOf (ℕ × DefinitionFault)} → IsSigned ms ws raw e s → IsSigned ms ws raw e' s'
      → OwnAs ms ws raw (frame_of ms ws raw) e s r → OwnAs ms ws raw (frame_of ms ws raw) e' s' r' → own_told r ≡ own_told r'
  same_own {e} {e'} {s} {s'} {r} {r'} p p' x x' =
      let m = signed_once ms ws raw p p' in
      let f = frame_of ms ws raw in
      own_once (around_in ms ws raw f e s) (shaped_of s f.names (map (variable_at ws s.hierarchy) e.variables)) x
      (subst (λ e. OwnAs ms ws raw f e s r') (sym m.0) (subst (λ s. OwnAs ms ws raw f e' s r') (sym m.1) x'))

  same_fault : (i i' : ℕ) (f f' : DefinitionFault) → own_told (Err (i, f)) ≡ own_told (Err (i', f')) → told (Err (statement_fault i f)) ≡ told (Err (statement_fault i' f'))
  same_fault i i' f f' e =
      let m = err_once refl e in
      ap (λ g. Err g) (told_numbered i f ∙ (ap (λ (p : ℕ × DefinitionFault). statement_fault p.0 p.1) m ∙ sym (told_numbered i' f')))

  -- ---- modules

  pub module_once : {r s : Result ModuleOf ModuleFault} → FlattenedAs ms ws raw r → FlattenedAs ms ws raw s → told r ≡ told s
  module_once (module_unknown n k) (module_unknown n' k') = ap (λ n. Err (UnknownModule n)) (some_once k k')
  module_once (module_unknown n k) (import_too_deep k' d') = absurd (some_none k k')
  module_once (module_unknown n k) (too_large t' k' d' l') = absurd (some_none k k')
  module_once (module_unknown n k) (sort_unknown at' f' x') = absurd (some_none k f'.known)
  module_once (module_unknown n k) (not_signed e' t' f' x' y') = absurd (some_none k f'.known)
  module_once (module_unknown n k) (carried_at_fault e' s' f' p' x') = absurd (some_none k p'.framed.known)
  module_once (module_unknown n k) (own_at_fault e' s' i' f' p' l' x') = absurd (some_none k p'.framed.known)
  module_once (module_unknown n k) (flattened e' s' a' p' l' x') = absurd (some_none k p'.framed.known)
  module_once (import_too_deep k d) (module_unknown n' k') = absurd (some_none k' k)
  module_once (import_too_deep k d) (import_too_deep k' d') = refl
  module_once (import_too_deep k d) (too_large t' k' d' l') = absurd (deep_shallow ms ws raw d d')
  module_once (import_too_deep k d) (sort_unknown at' f' x') = absurd (deep_shallow ms ws raw d f'.shallow)
  module_once (import_too_deep k d) (not_signed e' t' f' x' y') = absurd (deep_shallow ms ws raw d f'.shallow)
  module_once (import_too_deep k d) (carried_at_fault e' s' f' p' x') = absurd (deep_shallow ms ws raw d p'.framed.shallow)
  module_once (import_too_deep k d) (own_at_fault e' s' i' f' p' l' x') = absurd (deep_shallow ms ws raw d p'.framed.shallow)
  module_once (import_too_deep k d) (flattened e' s' a' p' l' x') = absurd (deep_shallow ms ws raw d p'.framed.shallow)
  module_once (too_large t k d l) (module_unknown n' k') = absurd (some_none k' k)
  module_once (too_large t k d l) (import_too_deep k' d') = absurd (deep_shallow ms ws raw d' d)
  module_once (too_large t k d l) (too_large t' k' d' l') = ap (λ t. Err (TooLarge t)) (some_once l l')
  module_once (too_large t k d l) (sort_unknown at' f' x') = absurd (some_none l f'.small)
  module_once (too_large t k d l) (not_signed e' t' f' x' y') = absurd (some_none l f'.small)
  module_once (too_large t k d l) (carried_at_fault e' s' f' p' x') = absurd (some_none l p'.framed.small)
  module_once (too_large t k d l) (own_at_fault e' s' i' f' p' l' x') = absurd (some_none l p'.framed.small)
  module_once (too_large t k d l) (flattened e' s' a' p' l' x') = absurd (some_none l p'.framed.small)
  module_once (sort_unknown at f x) (module_unknown n' k') = absurd (some_none k' f.known)
  module_once (sort_unknown at f x) (import_too_deep k' d') = absurd (deep_shallow ms ws raw d' f.shallow)
  module_once (sort_unknown at f x) (too_large t' k' d' l') = absurd (some_none l' f.small)
  module_once (sort_unknown at f x) (sort_unknown at' f' x') = ap (λ at. Err (UnknownSort at)) (err_once x x')
  module_once (sort_unknown at f x) (not_signed e' t' f' x' y') = absurd (ok_err x' x)
  module_once (sort_unknown at f x) (carried_at_fault e' s' f' p' x') = absurd (ok_err p'.elements x)
  module_once (sort_unknown at f x) (own_at_fault e' s' i' f' p' l' x') = absurd (ok_err p'.elements x)
  module_once (sort_unknown at f x) (flattened e' s' a' p' l' x') = absurd (ok_err p'.elements x)
  module_once (not_signed e t f x y) (module_unknown n' k') = absurd (some_none k' f.known)
  module_once (not_signed e t f x y) (import_too_deep k' d') = absurd (deep_shallow ms ws raw d' f.shallow)
  module_once (not_signed e t f x y) (too_large t' k' d' l') = absurd (some_none l' f.small)
  module_once (not_signed e t f x y) (sort_unknown at' f' x') = absurd (ok_err x x')
  module_once (not_signed e t f x y) (not_signed e' t' f' x' y') = ap (λ t. Err (Signed t)) (err_once refl (same_signature ms ws raw (ok_once x x') y y'))
  module_once (not_signed e t f x y) (carried_at_fault e' s' f' p' x') = absurd (not_refused ms ws raw x y p')
  module_once (not_signed e t f x y) (own_at_fault e' s' i' f' p' l' x') = absurd (not_refused ms ws raw x y p')
  module_once (not_signed e t f x y) (flattened e' s' a' p' l' x') = absurd (not_refused ms ws raw x y p')
  module_once (carried_at_fault e s f p x) (module_unknown n' k') = absurd (some_none k' p.framed.known)
  module_once (carried_at_fault e s f p x) (import_too_deep k' d') = absurd (deep_shallow ms ws raw d' p.framed.shallow)
  module_once (carried_at_fault e s f p x) (too_large t' k' d' l') = absurd (some_none l' p.framed.small)
  module_once (carried_at_fault e s f p x) (sort_unknown at' f' x') = absurd (ok_err p.elements x')
  module_once (carried_at_fault e s f p x) (not_signed e' t' f' x' y') = absurd (not_refused ms ws raw x' y' p)
  module_once (carried_at_fault e s f p x) (carried_at_fault e' s' f' p' x') = ap (λ f. Err (Statement 0 (without_trees_of_statement f))) (same_carried ms ws raw p p' x x')
  module_once (carried_at_fault e s f p x) (own_at_fault e' s' i' f' p' l' x') = absurd (not_lawful ms ws raw p' p l' x)
  module_once (carried_at_fault e s f p x) (flattened e' s' a' p' l' x') = absurd (not_lawful ms ws raw p' p l' x)
  module_once (own_at_fault e s i f p l x) (module_unknown n' k') = absurd (some_none k' p.framed.known)
  module_once (own_at_fault e s i f p l x) (import_too_deep k' d') = absurd (deep_shallow ms ws raw d' p.framed.shallow)
  module_once (own_at_fault e s i f p l x) (too_large t' k' d' l') = absurd (some_none l' p.framed.small)
  module_once (own_at_fault e s i f p l x) (sort_unknown at' f' x') = absurd (ok_err p.elements x')
  module_once (own_at_fault e s i f p l x) (not_signed e' t' f' x' y') = absurd (not_refused ms ws raw x' y' p)
  module_once (own_at_fault e s i f p l x) (carried_at_fault e' s' f' p' x') = absurd (not_lawful ms ws raw p p' l x')
  module_once (own_at_fault e s i f p l x) (own_at_fault e' s' i' f' p' l' x') = same_fault i i' f f' (same_own p p' x x')
  module_once (own_at_fault e s i f p l x) (flattened e' s' a' p' l' x') = absurd (ok_err refl (same_own p' p x' x))
  module_once (flattened e s a p l x) (module_unknown n' k') = absurd (some_none k' p.framed.known)
  module_once (flattened e s a p l x) (import_too_deep k' d') = absurd (deep_shallow ms ws raw d' p.framed.shallow)
  module_once (flattened e s a p l x) (too_large t' k' d' l') = absurd (some_none l' p.framed.small)
  module_once (flattened e s a p l x) (sort_unknown at' f' x') = absurd (ok_err p.elements x')
  module_once (flattened e s a p l x) (not_signed e' t' f' x' y') = absurd (not_refused ms ws raw x' y' p)
  module_once (flattened e s a p l x) (carried_at_fault e' s' f' p' x') = absurd (not_lawful ms ws raw p p' l x')
  module_once (flattened e s a p l x) (own_at_fault e' s' i' f' p' l' x') = absurd (ok_err refl (same_own p p' x x'))
  module_once (flattened e s a p l x) (flattened e' s' a' p' l' x') =
      let m = signed_once ms ws raw p p' in
      ap₂ (λ e s. Ok (module_in ms ws raw e s a)) m.0 m.1 ∙ ap (λ a. Ok (module_in ms ws raw e' s' a)) (ok_once refl (same_own p p' x x'))
