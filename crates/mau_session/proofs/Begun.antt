-- What an evaluator by a module's program gives, as it is said of the module.
use Rattle.std.proofs.Common.{◌≡◌, ℕ, List, [], refl, sym, ◌∙◌, subst}
use Rattle.mau_terms.specs.Tree.{Tree}
use Rattle.mau_terms.specs.Norm.{norm}
use Rattle.mau_terms.specs.Bare.{IsBare, IsLawful}
use Rattle.mau_terms.specs.Reading.{reading}
use Rattle.mau_terms.specs.Subst.{variables}
use Rattle.mau_terms.specs.View.{tree_of}
use Rattle.mau_signature.specs.Signature.{theory_at, terms_over}
use Rattle.mau_signature.specs.OverSignature.{IsTreeOver}
use Rattle.mau_signature.proofs.OverSignature.{norm_over}
use Rattle.mau_formula.specs.Operator.{Operator}
use Rattle.mau_store.specs.Node.{Node}
use Rattle.mau_sorts.specs.Table.{Table}
use Rattle.mau_program.specs.LawfulPrograms.{IsLawfulProgram}
use Rattle.mau_program.specs.declared.program.Program as Typed
use Rattle.mau_program.specs.declared.statements.Fragment.{Fragment}
use Rattle.mau_evaluation.specs.Run.{End}
use Rattle.mau_evaluation.specs.Program.{Program}
use Rattle.mau_evaluation.specs.Evaluation.{sorts_at}
use Rattle.mau_evaluation.specs.Laws.{Comes}
use Rattle.mau_evaluation.specs.HasSort.{HasSort}
use Rattle.mau_evaluation.proofs.Derived.{known_sorts_are_derived}
use Rattle.mau_evaluation.proofs.SortsGiven.{number_in}
use Rattle.mau_api.specs.Programs.{program_over}
use Rattle.mau_api.specs.Meanings.{Meanings}
use Rattle.mau_api.specs.Answers.{IsAskable, MayEnd}
use Rattle.mau_api.specs.declared.results.EvalEnd.{EvalEnd}
use Rattle.mau_api.specs.declared.results.EvalEnd.TheVariants.{Stopped, TooDeep, Overflow, NoMemory}
use Rattle.mau_reducer.specs.KeptTables.{IsKept}
use Rattle.mau_reduce.proofs.Valued.{heads_of}
use Rattle.mau_reducer.proofs.FromLawful.{reducible}
use Rattle.mau_conditional.specs.NextWhere.{SortsAreOfKind, CanBeAsked}
use Rattle.mau_module.specs.Modules.{ModuleOf}
use Rattle.mau_module.specs.Lawful.{program_of}
use Rattle.mau_session.specs.Environment.{environment_of, meanings_in}
use Rattle.mau_session.specs.Terms.{terms_in}
use Rattle.mau_session.specs.Settled.{AreSortsKnown, SortsEnd}
use Rattle.mau_session.specs.Gains.{IsEnd}
use Rattle.mau_session.specs.KeptQuery.{IsQueryOver, IsReady, GoesIn}
use Rattle.mau_session.specs.declared.query.Query.{Query}
use Rattle.mau_session.proofs.DerivedKinds.{derived_kind}

-- ---- lawful programs

module _ (m : ModuleOf) (ops : List Operator) (limit : ℕ) (is : IsLawfulProgram (program_of m)) (lawful : IsLawful (terms_in m)) where
  abbrev P : Program
  P = program_over (program_of m) ops

  kinds : SortsAreOfKind (meanings_in (environment_of ops limit) m)
  kinds t r k normal has bare =
      let s = m.signature in
      let over : IsTreeOver s t = subst (IsTreeOver s) normal.0 (norm_over s lawful t (subst (λ u. IsBare (terms_over s) (reading (theory_at s) u)) (sym normal.0) normal.1)) in
      let comes : Comes (λ k B. sorts_at P k B t) has.sorts 0 = record { level = has.levels; each = limit; budget = 0; left = 0; comes = has.known 0 } in
      let own : HasSort P t r = subst (λ u. HasSort P u r) normal.0 (known_sorts_are_derived P t has.sorts 0 comes r (number_in has.sorts r has.has)) in
      derived_kind (program_of m) (reducible (program_of m) is lawful) ops t r own normal.0 over k bare

  pub goes_in : GoesIn m (meanings_in (environment_of ops limit) m)
  goes_in = record { goes = record { defined = refl; accepted = is.accepted; heads = heads_of (program_of m) (reducible (program_of m) is lawful) ops; kinds = kinds }; signature = refl }

-- a table that is kept is one for the module's program
pub kept_for : (m : ModuleOf) (p : Typed.Program) → p ≡ program_of m → (store : List Node) (sorts : Table) (hooks ops : List Operator) → hooks ≡ ops → (limit : ℕ) → IsKept (program_of m) ops limit store sorts
    → IsKept p hooks limit store sorts
kept_for m p same store sorts hooks ops own limit kept =
    subst (λ (z : Typed.Program). IsKept z hooks limit store sorts) (sym same) (subst (λ (z : List Operator). IsKept (program_of m) z limit store sorts) (sym own) kept)

-- ---- an evaluator by such a program

module _ (m : ModuleOf) (ops : List Operator) (limit : ℕ) (n : Meanings) (same : n ≡ meanings_in (environment_of ops limit) m) where
  abbrev meant : Meanings
  meant = meanings_in (environment_of ops limit) m

  pub over_as : (q : Query) → IsQueryOver m.signature q → IsQueryOver n.program.sig q
  over_as q over = subst (λ (e : Meanings). IsQueryOver e.program.sig q) (sym same) over

  pub ready_as : (table : Table) (q : Query) → IsReady n.program.sig table q → IsReady m.signature table q
  ready_as table q ready = subst (λ (e : Meanings). IsReady e.program.sig table q) same ready

  pub known_as : (t : Tree) → AreSortsKnown n (norm (theory_at n.program.sig) t) → AreSortsKnown (meanings_in (environment_of ops limit) m) (norm (terms_in m).theory t)
  known_as t known = subst (λ (e : Meanings). AreSortsKnown e (norm (theory_at e.program.sig) t)) same known

  ends_so : (e : Meanings) (t : Tree) (end : EvalEnd) (x : End) → MayEnd e t end → IsEnd end x → SortsEnd e t x
  ends_so e t Stopped x h is = subst (SortsEnd e t) (sym is) h
  ends_so e t TooDeep x h is = subst (SortsEnd e t) (sym is) h
  ends_so e t Overflow x h is = subst (SortsEnd e t) (sym is) h
  ends_so e t NoMemory x h is = absurd is

  pub ends_as : (t : Tree) (end : EvalEnd) (x : End) → MayEnd n (norm (theory_at n.program.sig) t) end → IsEnd end x → SortsEnd (meanings_in (environment_of ops limit) m) (norm (terms_in m).theory t) x
  ends_as t end x h is = ends_so meant (norm (terms_in m).theory t) end x (subst (λ (e : Meanings). MayEnd e (norm (theory_at e.program.sig) t) end) same h) is

  pub goes_as : GoesIn m (meanings_in (environment_of ops limit) m) → GoesIn m n
  goes_as goes = subst (GoesIn m) (sym same) goes

  -- the table that it leaves is kept
  pub kept_as : (store : List Node) (sorts : Table) → IsKept n.program n.hooks n.limit store sorts → IsKept (program_of m) ops limit store sorts
  kept_as store sorts kept = subst (λ (e : Meanings). IsKept e.program e.hooks e.limit store sorts) same kept

  -- it may be asked the condition of a query
  pub can_be_asked : GoesIn m (meanings_in (environment_of ops limit) m) → (q : Query) → IsQueryOver m.signature q → (cond : List Fragment) → IsAskable m.signature (variables (tree_of q.pattern)) cond →
      CanBeAsked m.signature n (tree_of q.pattern) cond
  can_be_asked goes q over cond condition =
      subst (λ (z : Meanings). CanBeAsked m.signature z (tree_of q.pattern) cond) (sym same)
      (record { goes = goes.goes; exactly = refl; signature = refl; pattern = over.askable.pattern; condition = condition })
