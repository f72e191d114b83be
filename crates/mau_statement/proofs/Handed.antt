-- Faults that are handed on, and what is read part by part.
use Rattle.std.proofs.Common.{◌≡◌, ℕ, List, false, Result, Ok, Err, sym, subst}
use Rattle.std.specs.Prelude.{IfErr, IsErrAnd}
use Rattle.mau_tokens.specs.declared.token.Token.{Token}
use Rattle.mau_modtext.specs.Word.{Word}
use Rattle.mau_grammar.specs.Grammar.{GrammarOf}
use Rattle.mau_parse.specs.declared.goals.Goal.{Goal}
use Rattle.mau_parse.specs.declared.goals.Goal.TheVariants.{Kind}
use Rattle.mau_terms.specs.declared.bare.Bare.{Bare}
use Rattle.mau_statement.specs.Context.{ContextOf}
use Rattle.mau_parse.specs.declared.fault.ParseFault.{ParseFault}
use Rattle.mau_parse.specs.declared.fault.ParseFault.TheVariants.{NoParse, Ambiguous, TooManyTokens, NumberTooLarge, SuccessorTooLarge, NoMemory as OutOfMemory}
use Rattle.mau_statement.specs.declared.fault.StatementFault.{StatementFault}
use Rattle.mau_statement.specs.declared.fault.StatementFault.TheVariants.{LimitExceeded, Parse, UnknownSort, LhsVariable, MembershipHead, UnboundVariable, NoMemory}
use Rattle.mau_statement.specs.Faults.{IfFault, fault_of}
use Rattle.mau_statement.specs.Parts.{Pairs, is_empty, IsUnread, TermReads, PartUnread, PairReads, PairUnread, no_term}

-- what holds of each fault that says something holds of it by way of what it says
pub handed : (P Q : StatementFault → Type 0) → ((f : StatementFault) → P f → Q f) → (e : StatementFault) → IfFault P e → IfFault Q e
handed P Q h (LimitExceeded l) p = h (LimitExceeded l) p
handed P Q h (Parse f) p = h (Parse f) p
handed P Q h (UnknownSort n) p = h (UnknownSort n) p
handed P Q h LhsVariable p = h LhsVariable p
handed P Q h MembershipHead p = h MembershipHead p
handed P Q h UnboundVariable p = h UnboundVariable p
handed P Q h NoMemory p = tt

-- what holds of a fault holds of it if it says something
pub said : (P : StatementFault → Type 0) (e : StatementFault) → P e → IfFault P e
said P (LimitExceeded l) p = p
said P (Parse f) p = p
said P (UnknownSort n) p = p
said P LhsVariable p = p
said P MembershipHead p = p
said P UnboundVariable p = p
said P NoMemory p = tt

-- the fault of tokens that are no term
module _ (ws : List Word) (g : GrammarOf) (ts : List Token) (goal : Goal) (ns : Pairs) (there : is_empty ws ts ≡ false) where
  read_fault : (f : ParseFault) → IsUnread ws g ts goal ns f → IfFault (PartUnread ws g ts goal ns) (fault_of f)
  read_fault (NoParse n) u = no_term (NoParse n) there (λ e. cc) u
  read_fault (Ambiguous n a b) u = no_term (Ambiguous n a b) there (λ e. cc) u
  read_fault (TooManyTokens n) u = no_term (TooManyTokens n) there (λ e. cc) u
  read_fault (NumberTooLarge n) u = no_term (NumberTooLarge n) there (λ e. cc) u
  read_fault (SuccessorTooLarge n) u = no_term (SuccessorTooLarge n) there (λ e. cc) u
  read_fault OutOfMemory u = tt

  pub part_fault : (f : ParseFault) (e : StatementFault) → IsUnread ws g ts goal ns f → e ≡ fault_of f → IfFault (PartUnread ws g ts goal ns) e
  part_fault f e u is = subst (IfFault (PartUnread ws g ts goal ns)) (sym is) (read_fault f u)

-- a fault that is handed on by `?`
pub returned : {T : Type 0} (P Q : StatementFault → Type 0) (r : Result T StatementFault) (e : StatementFault) → IsErrAnd r (λ y. y ≡ e) → IfFault P e → ((f : StatementFault) → P f → Q f)
    → IfErr r (IfFault Q)
returned P Q (Ok x) e h p next = tt
returned P Q (Err y) e h p next = subst (IfFault Q) (sym h) (handed P Q next e p)

-- ---- the same over equal parts

pub part_moved : {ws : List Word} {g : GrammarOf} {ts us : List Token} {k j : ℕ} {ns ms : Pairs} (f : StatementFault) → ts ≡ us → k ≡ j → ns ≡ ms
    → PartUnread ws g ts (Kind k) ns f → PartUnread ws g us (Kind j) ms f
part_moved {ws} {g} {ts} {us} {k} {j} {ns} {ms} f e h m p =
    subst (λ zs. PartUnread ws g us (Kind j) zs f) m (subst (λ i. PartUnread ws g us (Kind i) ns f) h (subst (λ vs. PartUnread ws g vs (Kind k) ns f) e p))

pub term_moved : (ws : List Word) (g : GrammarOf) {ts us : List Token} {k j : ℕ} {ns ms : Pairs} (os : Pairs) (b : Bare) → ts ≡ us → k ≡ j → ns ≡ ms
    → TermReads ws g ts (Kind k) ns os b → TermReads ws g us (Kind j) ms os b
term_moved ws g {ts} {us} {k} {j} {ns} {ms} os b e h m p =
    subst (λ zs. TermReads ws g us (Kind j) zs os b) m (subst (λ i. TermReads ws g us (Kind i) ns os b) h (subst (λ vs. TermReads ws g vs (Kind k) ns os b) e p))

pub pair_moved : {ws : List Word} {x : ContextOf} {ts us vs ws' : List Token} {ns ms : Pairs} (f : StatementFault) → ts ≡ us → vs ≡ ws' → ns ≡ ms
    → PairUnread ws x ts vs ns f → PairUnread ws x us ws' ms f
pair_moved {ws} {x} {ts} {us} {vs} {ws'} {ns} {ms} f e h m p =
    subst (λ zs. PairUnread ws x us ws' zs f) m (subst (λ zs. PairUnread ws x us zs ns f) h (subst (λ zs. PairUnread ws x zs vs ns f) e p))

pub pair_read_moved : {ws : List Word} {x : ContextOf} {ts us vs ws' : List Token} {ns ms : Pairs} (os : Pairs) (a b : Bare) → ts ≡ us → vs ≡ ws' → ns ≡ ms
    → PairReads ws x ts vs ns os a b → PairReads ws x us ws' ms os a b
pair_read_moved {ws} {x} {ts} {us} {vs} {ws'} {ns} {ms} os a b e h m p =
    subst (λ zs. PairReads ws x us ws' zs os a b) m (subst (λ zs. PairReads ws x us zs ns os a b) h (subst (λ zs. PairReads ws x zs vs ns os a b) e p))
