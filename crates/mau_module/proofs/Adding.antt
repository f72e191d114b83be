-- Statements that are added one by one stay lawful.
use Rattle.std.proofs.Common.{◌≡◌, ◌≤◌, List, length, Ok, sym, subst}
use Rattle.std.proofs.lemmas.List.Elements.{All-nil, All-push}
use Rattle.mau_signature.specs.Signature.{SignatureOf}
use Rattle.mau_program.specs.declared.statements.Equation.{Equation as EquationType}
use Rattle.mau_program.specs.declared.statements.Membership.{Membership as MembershipType}
use Rattle.mau_program.specs.declared.statements.Rule.{Rule as RuleType}
use Rattle.mau_program.specs.declared.definitions.StratDef.{StratDef}
use Rattle.mau_program.specs.declared.definitions.StratDecl.{StratDecl}
use Rattle.mau_program.specs.LawfulStatements.{IsLawfulEquation, IsLawfulMembership, IsLawfulRule}
use Rattle.mau_program.specs.LawfulStrategies.{IsLawfulDefinition}
use Rattle.mau_modtext.specs.Word.{Word}
use Rattle.mau_modtext.specs.declared.raw.RawStatement.{RawStatement}
use Rattle.mau_statement.specs.Context.{ContextOf}
use Rattle.mau_statement.specs.Lawful.{IsLawfulStatement}
use Rattle.mau_statement.specs.Statements.{variables_of, accepted, StatementRead, parts_read}
use Rattle.mau_statement.specs.declared.TheConstants.{MAX_VARIABLES}
use Rattle.mau_statement.specs.declared.statement.Statement.{Statement}
use Rattle.mau_statement.specs.declared.statement.Statement.TheVariants.{Equation, Membership, Rule}
use Rattle.mau_module.specs.declared.statements.Stated.{Stated}
use Rattle.mau_module.specs.declared.statements.Stated.TheVariants.{Statement as AStatement, Definition as ADefinition}
use Rattle.mau_module.specs.Modules.{StatementsOf}
use Rattle.mau_module.specs.Stated.{with_one, with_statement, only_strats}
use Rattle.mau_module.specs.Made.{HaveFewVariables, AreLawfulOver, IsLawfulStated}

-- a statement that is read has not too many variables
pub few_read : (ws : List Word) (c : ContextOf) (raw : RawStatement) (x : Statement) → StatementRead ws c raw (Ok x) → length (variables_of x) ≤ MAX_VARIABLES
few_read ws c raw x (parts_read y r p (accepted w e u)) = w.variables

few_added : (a : StatementsOf) (x : Statement) → HaveFewVariables a → length (variables_of x) ≤ MAX_VARIABLES → HaveFewVariables (with_one a x)
few_added a (Equation e) l h = record { equations = All-push (λ (y : EquationType). length y.vars ≤ MAX_VARIABLES) a.equations e l.equations h; memberships = l.memberships; rules = l.rules; strategies = l.strategies }
few_added a (Membership m) l h = record { equations = l.equations; memberships = All-push (λ (y : MembershipType). length y.vars ≤ MAX_VARIABLES) a.memberships m l.memberships h; rules = l.rules; strategies = l.strategies }
few_added a (Rule r) l h = record { equations = l.equations; memberships = l.memberships; rules = All-push (λ (y : RuleType). length y.vars ≤ MAX_VARIABLES) a.rules r l.rules h; strategies = l.strategies }

added : (s : SignatureOf) (a : StatementsOf) (x : Statement) → AreLawfulOver s a → IsLawfulStatement s x → length (variables_of x) ≤ MAX_VARIABLES → AreLawfulOver s (with_one a x)
added s a (Equation e) l h n = record { equations = All-push (IsLawfulEquation s) a.equations e l.equations h; memberships = l.memberships; rules = l.rules; strategies = l.strategies; few = few_added a (Equation e) l.few n }
added s a (Membership m) l h n = record { equations = l.equations; memberships = All-push (IsLawfulMembership s) a.memberships m l.memberships h; rules = l.rules; strategies = l.strategies; few = few_added a (Membership m) l.few n }
added s a (Rule r) l h n = record { equations = l.equations; memberships = l.memberships; rules = All-push (IsLawfulRule s) a.rules r l.rules h; strategies = l.strategies; few = few_added a (Rule r) l.few n }

added_stated : (s : SignatureOf) (a : StatementsOf) (x : Stated) → AreLawfulOver s a → IsLawfulStated s x → AreLawfulOver s (with_statement a x)
added_stated s a (AStatement x) l h = added s a x l h.0 h.1
added_stated s a (ADefinition d) l h = record {
  equations = l.equations;
  memberships = l.memberships;
  rules = l.rules;
  strategies = All-push (IsLawfulDefinition s) a.strategies d l.strategies h.0;
  few = record {
    equations = l.few.equations;
    memberships = l.few.memberships;
    rules = l.few.rules;
    strategies = All-push (λ (y : StratDef). length y.vars ≤ MAX_VARIABLES) a.strategies d l.few.strategies h.1;
  };
}

pub one_added : (s : SignatureOf) (a b : StatementsOf) (x : Stated) → b ≡ with_statement a x → AreLawfulOver s a → IsLawfulStated s x → AreLawfulOver s b
one_added s a b x e l h = subst (AreLawfulOver s) (sym e) (added_stated s a x l h)

-- declared strategies alone
pub strats_lawful : (s : SignatureOf) (ds : List StratDecl) → AreLawfulOver s (only_strats ds)
strats_lawful s ds = record {
  equations = All-nil (IsLawfulEquation s);
  memberships = All-nil (IsLawfulMembership s);
  rules = All-nil (IsLawfulRule s);
  strategies = All-nil (IsLawfulDefinition s);
  few = record {
    equations = All-nil (λ (y : EquationType). length y.vars ≤ MAX_VARIABLES);
    memberships = All-nil (λ (y : MembershipType). length y.vars ≤ MAX_VARIABLES);
    rules = All-nil (λ (y : RuleType). length y.vars ≤ MAX_VARIABLES);
    strategies = All-nil (λ (y : StratDef). length y.vars ≤ MAX_VARIABLES);
  };
}
