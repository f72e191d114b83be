-- Faults that are handed on.
use Rattle.std.proofs.Common.{◌≡◌, List, [], true, false, Result, Ok, Err, refl, sym, subst}
use Rattle.std.specs.Prelude.{IfOk, IfErr}
use Rattle.mau_statement.specs.Parts.{Pairs}
use Rattle.mau_strattext.specs.Setting.{SettingOf}
use Rattle.mau_statement.specs.Faults.{IfFault as IfFaultOfStatement}
use Rattle.mau_statement.specs.declared.fault.StatementFault.{StatementFault}
use Rattle.mau_statement.specs.declared.fault.StatementFault.TheVariants.{LimitExceeded, Parse as NoTerm, UnknownSort, LhsVariable, MembershipHead, UnboundVariable, NoMemory as NoMemoryOfStatement}
use Rattle.mau_strattext.specs.Strategies.{IfTold, StrategyRead, too_many, in_strategy, before_unexpected, at_unexpected}
use Rattle.mau_strattext.specs.declared.fault.StratFault.{StratFault}
use Rattle.mau_strattext.specs.declared.fault.StratFault.TheVariants.{TooManyTokens, Unexpected, UnknownName, Parse, Arity, NoMemory as NoMemoryOfStrategy}
use Rattle.mau_modtext.specs.Word.{Word}
use Rattle.mau_modtext.specs.declared.raw.RawFragment.{RawFragment}
use Rattle.mau_modtext.specs.declared.raw.RawStatement.{RawStatement}
use Rattle.mau_program.specs.declared.statements.Fragment.{Fragment}
use Rattle.mau_statement.specs.Context.{ContextOf}
use Rattle.mau_statement.specs.Conditions.{ConditionReads, ConditionUnread}
use Rattle.mau_definition.specs.declared.call.Call.{Call}
use Rattle.mau_definition.specs.Definitions.{Around, CallOf, BodyRead, DefinitionUnread, condition_unbound, body_unread}
use Rattle.mau_definition.specs.Inner.{IsBodyFault, unbound_first, body_alone}
use Rattle.mau_definition.specs.Faults.{IfFault, of_statement, of_strategy, is_memory_of_strategy, is_memory}
use Rattle.mau_definition.specs.declared.fault.DefinitionFault.{DefinitionFault}
use Rattle.mau_definition.specs.declared.fault.DefinitionFault.TheVariants.{Statement, Strategy, NoMemory}

-- a fault of a condition
pub statement_told : (P : StatementFault → Type 0) (Q : DefinitionFault → Type 0) → ((f : StatementFault) → P f → Q (Statement f)) → (f : StatementFault) (g : DefinitionFault)
    → g ≡ of_statement f → IfFaultOfStatement P f → IfFault Q g
statement_told P Q h f g e p = subst (IfFault Q) (sym e) (by f p)
  where
    by : (f : StatementFault) → IfFaultOfStatement P f → IfFault Q (of_statement f)
    by (LimitExceeded l) p = h (LimitExceeded l) p
    by (NoTerm x) p = h (NoTerm x) p
    by (UnknownSort n) p = h (UnknownSort n) p
    by LhsVariable p = h LhsVariable p
    by MembershipHead p = h MembershipHead p
    by UnboundVariable p = h UnboundVariable p
    by NoMemoryOfStatement p = tt

-- that of a strategy
pub strategy_told : (P : StratFault → Type 0) (Q : DefinitionFault → Type 0) → ((f : StratFault) → P f → Q (Strategy f)) → (f : StratFault) (g : DefinitionFault)
    → g ≡ of_strategy f → IfTold P f → IfFault Q g
strategy_told P Q h f g e p = subst (IfFault Q) (sym e) (by f p)
  where
    by : (f : StratFault) → IfTold P f → IfFault Q (of_strategy f)
    by (TooManyTokens n) p = h (TooManyTokens n) p
    by (Unexpected n) p = h (Unexpected n) p
    by (UnknownName n) p = h (UnknownName n) p
    by (Parse n x) p = h (Parse n x) p
    by (Arity n) p = h (Arity n) p
    by NoMemoryOfStrategy p = tt

-- what is told of a fault that says something
pub told_of : (P : StratFault → Type 0) (f : StratFault) → is_memory_of_strategy f ≡ false → IfTold P f → P f
told_of P (TooManyTokens n) none p = p
told_of P (Unexpected n) none p = p
told_of P (UnknownName n) none p = p
told_of P (Parse n x) none p = p
told_of P (Arity n) none p = p
told_of P NoMemoryOfStrategy none p = absurd cc

pub fault_of : (P : DefinitionFault → Type 0) (f : DefinitionFault) → is_memory f ≡ false → IfFault P f → P f
fault_of P (Statement f) none p = p
fault_of P (Strategy f) none p = p
fault_of P NoMemory none p = absurd cc

-- want of memory says nothing
pub fault_none : (P : DefinitionFault → Type 0) (f : DefinitionFault) → is_memory f ≡ true → IfFault P f
fault_none P (Statement f) none = absurd cc
fault_none P (Strategy f) none = absurd cc
fault_none P NoMemory none = tt

pub fault_then : (P Q : DefinitionFault → Type 0) → ((f : DefinitionFault) → P f → Q f) → (f : DefinitionFault) → IfFault P f → IfFault Q f
fault_then P Q h (Statement f) p = h (Statement f) p
fault_then P Q h (Strategy f) p = h (Strategy f) p
fault_then P Q h NoMemory p = tt

pub told_at : (P : StratFault → Type 0) (f : StratFault) → P f → IfTold P f
told_at P (TooManyTokens n) p = p
told_at P (Unexpected n) p = p
told_at P (UnknownName n) p = p
told_at P (Parse n x) p = p
told_at P (Arity n) p = p
told_at P NoMemoryOfStrategy p = tt

pub told_then : (P Q : StratFault → Type 0) → ((f : StratFault) → P f → Q f) → (f : StratFault) → IfTold P f → IfTold Q f
told_then P Q h (TooManyTokens n) p = h (TooManyTokens n) p
told_then P Q h (Unexpected n) p = h (Unexpected n) p
told_then P Q h (UnknownName n) p = h (UnknownName n) p
told_then P Q h (Parse n x) p = h (Parse n x) p
told_then P Q h (Arity n) p = h (Arity n) p
told_then P Q h NoMemoryOfStrategy p = tt

pub err_then : {A : Type 0} (P Q : StratFault → Type 0) → ((f : StratFault) → P f → Q f) → (r : Result A StratFault) → IfErr r (IfTold P) → IfErr r (IfTold Q)
err_then P Q h (Ok x) p = tt
err_then P Q h (Err f) p = told_then P Q h f p

pub strategy_at : (Q : StratFault → DefinitionFault → Type 0) → ((f : StratFault) → Q f (Strategy f)) → (f : StratFault) → IfFault (Q f) (of_strategy f)
strategy_at Q h (TooManyTokens n) = h (TooManyTokens n)
strategy_at Q h (Unexpected n) = h (Unexpected n)
strategy_at Q h (UnknownName n) = h (UnknownName n)
strategy_at Q h (Parse n x) = h (Parse n x)
strategy_at Q h (Arity n) = h (Arity n)
strategy_at Q h NoMemoryOfStrategy = tt

-- the fault of a strategy says nothing of the variables behind it
pub err_anywhere : (s : SettingOf) (ns os ms : Pairs) (f : StratFault) → StrategyRead s ns os (Err f) → StrategyRead s ns ms (Err f)
err_anywhere s ns os ms g (too_many l) = too_many l
err_anywhere s ns os ms g (in_strategy e f l w u) = in_strategy e f l w u
err_anywhere s ns os ms g (before_unexpected f l b) = before_unexpected f l b
err_anywhere s ns os ms g (at_unexpected i l u) = at_unexpected i l u

pub ok_then : {A E : Type 0} (P Q : A → Type 0) → ((x : A) → P x → Q x) → (r : Result A E) → IfOk r P → IfOk r Q
ok_then P Q h (Ok x) p = h x p
ok_then P Q h (Err f) p = tt

-- ---- parts over equal words and contexts

pub cond_as : (a : Around) (raw : RawStatement) (ws : List Word) (x : ContextOf) (ns os : Pairs) (raws : List RawFragment) (c : List Fragment) → a.words ≡ ws → a.context ≡ x → ns ≡ []
    → raws ≡ raw.cond → ConditionReads ws x ns raws os c → ConditionReads a.words a.context [] raw.cond os c
cond_as a raw ws x ns os raws c e h m r y =
    subst (λ z. ConditionReads z a.context [] raw.cond os c) (sym e) (subst (λ z. ConditionReads ws z [] raw.cond os c) (sym h)
    (subst (λ z. ConditionReads ws x z raw.cond os c) m (subst (λ z. ConditionReads ws x ns z os c) r y)))

pub uncond_as : (a : Around) (raw : RawStatement) (ws : List Word) (x : ContextOf) (ns : Pairs) (raws : List RawFragment) (f : StatementFault) → a.words ≡ ws → a.context ≡ x → ns ≡ []
    → raws ≡ raw.cond → ConditionUnread ws x ns raws f → ConditionUnread a.words a.context [] raw.cond f
uncond_as a raw ws x ns raws f e h m r y =
    subst (λ z. ConditionUnread z a.context [] raw.cond f) (sym e) (subst (λ z. ConditionUnread ws z [] raw.cond f) (sym h)
    (subst (λ z. ConditionUnread ws x z raw.cond f) m (subst (λ z. ConditionUnread ws x ns z f) r y)))

-- ---- the first fault behind a call and a condition that are read

module _ (a : Around) (raw : RawStatement) (x : Call) (m l : Pairs) (c : List Fragment) (p : CallOf a raw [] m (Ok x)) (y : ConditionReads a.words a.context m raw.cond l c) where
  body_unread_as : (f : StratFault) → BodyRead a raw.right l l (Err f) → (g : DefinitionFault) → IsBodyFault x.args c f g → DefinitionUnread a raw g
  body_unread_as f b g (unbound_first e) = condition_unbound x m l c f p y e b
  body_unread_as f b g (body_alone e) = body_unread x m l c f p y e b

  pub body_told : (f : StratFault) (r : DefinitionFault) → IfTold (λ g. IfFault (IsBodyFault x.args c g) r) f → (f ≡ NoMemoryOfStrategy → r ≡ NoMemory)
      → IfTold (λ g. BodyRead a raw.right l l (Err g)) f → IfFault (DefinitionUnread a raw) r
  body_told (TooManyTokens n) r h z b = fault_then (IsBodyFault x.args c (TooManyTokens n)) (DefinitionUnread a raw) (body_unread_as (TooManyTokens n) b) r h
  body_told (Unexpected n) r h z b = fault_then (IsBodyFault x.args c (Unexpected n)) (DefinitionUnread a raw) (body_unread_as (Unexpected n) b) r h
  body_told (UnknownName n) r h z b = fault_then (IsBodyFault x.args c (UnknownName n)) (DefinitionUnread a raw) (body_unread_as (UnknownName n) b) r h
  body_told (Parse n t) r h z b = fault_then (IsBodyFault x.args c (Parse n t)) (DefinitionUnread a raw) (body_unread_as (Parse n t) b) r h
  body_told (Arity n) r h z b = fault_then (IsBodyFault x.args c (Arity n)) (DefinitionUnread a raw) (body_unread_as (Arity n) b) r h
  body_told NoMemoryOfStrategy r h z b = subst (IfFault (DefinitionUnread a raw)) (sym (z refl)) tt
