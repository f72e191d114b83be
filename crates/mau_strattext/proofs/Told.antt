-- Faults of terms that are told.
use Rattle.std.proofs.Common.{◌≡◌, ℕ, List, false, Result, Ok, Err, refl, sym, subst}
use Rattle.std.specs.Prelude.{IfErr}
use Rattle.mau_tokens.specs.declared.token.Token.{Token}
use Rattle.mau_modtext.specs.Word.{Word}
use Rattle.mau_terms.specs.declared.bare.Bare.{Bare}
use Rattle.mau_grammar.specs.Grammar.{GrammarOf}
use Rattle.mau_parse.specs.declared.goals.Goal.{Goal}
use Rattle.mau_parse.specs.declared.goals.Goal.TheVariants.{AnyKind}
use Rattle.mau_parse.specs.declared.fault.ParseFault.{ParseFault}
use Rattle.mau_parse.specs.declared.fault.ParseFault.TheVariants.{NoParse, Ambiguous, TooManyTokens, NumberTooLarge, SuccessorTooLarge, NoMemory as OutOfMemory}
use Rattle.mau_statement.specs.declared.fault.StatementFault.TheVariants.{Parse as NoTerm}
use Rattle.mau_statement.specs.Parts.{Pairs, is_empty, IsUnread, PartUnread, no_term}
use Rattle.mau_shapes.specs.declared.pieces.Part.{Part}
use Rattle.mau_strattext.specs.Setting.{SettingOf, start_at}
use Rattle.mau_strattext.specs.Faults.{IsNoTerm, no_term_there}
use Rattle.mau_strattext.specs.Strategies.{IfTold}
use Rattle.mau_strattext.specs.Terms.{IfUnread, fault_of, variable_fault_of, IsTermFault, IsVariableFault}
use Rattle.mau_strattext.specs.declared.fault.StratFault.{StratFault}
use Rattle.mau_strattext.specs.declared.fault.StratFault.TheVariants.{TooManyTokens as ManyTokens, Unexpected, UnknownName, Parse, Arity, NoMemory}

module _ (ws : List Word) (g : GrammarOf) (ts : List Token) (goal : Goal) (ns : Pairs) (there : is_empty ws ts ≡ false) where
  unread_fault : (f : ParseFault) → IsUnread ws g ts goal ns f → IfUnread (λ f. PartUnread ws g ts goal ns (NoTerm f)) f
  unread_fault (NoParse n) u = no_term (NoParse n) there (λ e. cc) u
  unread_fault (Ambiguous n a b) u = no_term (Ambiguous n a b) there (λ e. cc) u
  unread_fault (TooManyTokens n) u = no_term (TooManyTokens n) there (λ e. cc) u
  unread_fault (NumberTooLarge n) u = no_term (NumberTooLarge n) there (λ e. cc) u
  unread_fault (SuccessorTooLarge n) u = no_term (SuccessorTooLarge n) there (λ e. cc) u
  unread_fault OutOfMemory u = tt

  pub unread_result : (r : Result Bare ParseFault) → IfErr r (IsUnread ws g ts goal ns) → IfErr r (IfUnread (λ f. PartUnread ws g ts goal ns (NoTerm f)))
  unread_result (Ok b) u = tt
  unread_result (Err f) u = unread_fault f u

module _ (s : SettingOf) (p : Part) (goal : Goal) (ns : Pairs) where
  term_fault_of : (f : ParseFault) → IfUnread (IsNoTerm s p goal ns) f → IfTold (IsTermFault s p goal ns) (fault_of (start_at s p.start) f)
  term_fault_of (NoParse n) u = record { why = NoParse n; unread = u; told = refl }
  term_fault_of (Ambiguous n a b) u = record { why = Ambiguous n a b; unread = u; told = refl }
  term_fault_of (TooManyTokens n) u = record { why = TooManyTokens n; unread = u; told = refl }
  term_fault_of (NumberTooLarge n) u = record { why = NumberTooLarge n; unread = u; told = refl }
  term_fault_of (SuccessorTooLarge n) u = record { why = SuccessorTooLarge n; unread = u; told = refl }
  term_fault_of OutOfMemory u = tt

  pub term_fault : (f : ParseFault) (at : ℕ) (g : StratFault) → at ≡ start_at s p.start → g ≡ fault_of at f → IfUnread (IsNoTerm s p goal ns) f → IfTold (IsTermFault s p goal ns) g
  term_fault f at g e h u = subst (IfTold (IsTermFault s p goal ns)) (sym h) (subst (λ n. IfTold (IsTermFault s p goal ns) (fault_of n f)) (sym e) (term_fault_of f u))

module _ (s : SettingOf) (p : Part) (ns : Pairs) where
  variable_fault_at : (f : StratFault) → IfTold (IsTermFault s p AnyKind ns) f → IfTold (IsVariableFault s p ns) (variable_fault_of (start_at s p.start) f)
  variable_fault_at (ManyTokens n) u = record { none = no_term_there u.why u.unread; told = refl }
  variable_fault_at (Unexpected n) u = record { none = no_term_there u.why u.unread; told = refl }
  variable_fault_at (UnknownName n) u = record { none = no_term_there u.why u.unread; told = refl }
  variable_fault_at (Parse n f) u = record { none = no_term_there u.why u.unread; told = refl }
  variable_fault_at (Arity n) u = record { none = no_term_there u.why u.unread; told = refl }
  variable_fault_at NoMemory u = tt

  pub variable_fault : (f : StratFault) (at : ℕ) (g : StratFault) → at ≡ start_at s p.start → g ≡ variable_fault_of at f → IfTold (IsTermFault s p AnyKind ns) f → IfTold (IsVariableFault s p ns) g
  variable_fault f at g e h u = subst (IfTold (IsVariableFault s p ns)) (sym h) (subst (λ n. IfTold (IsVariableFault s p ns) (variable_fault_of n f)) (sym e) (variable_fault_at f u))
