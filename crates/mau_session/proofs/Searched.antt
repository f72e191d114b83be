-- What a strategy run shows and leaves that goes by an evaluator of a module's program, as it is said of the module.
use Rattle.std.proofs.Common.{◌≡◌, ℕ, List, ◌++◌, Bool, true, false, Option, refl, sym, ◌∙◌, ap, subst}
use Rattle.mau_terms.specs.Tree.{Tree}
use Rattle.mau_terms.specs.Bare.{IsLawful}
use Rattle.mau_formula.specs.Operator.{Operator}
use Rattle.mau_signature.specs.Signature.{SignatureOf, terms_over}
use Rattle.mau_store.specs.Node.{Node}
use Rattle.mau_store.specs.Trees.{tree_at}
use Rattle.mau_sorts.specs.Table.{Table}
use Rattle.mau_match.specs.declared.listing.Listing.{Listing}
use Rattle.mau_extend.specs.declared.listing.ExtListing.{ExtListing}
use Rattle.mau_program.specs.Trees.{StrategyOf}
use Rattle.mau_evaluation.specs.Run.{End, stopped, too_deep, overflowed}
use Rattle.mau_api.specs.Meanings.{Meanings}
use Rattle.mau_api.specs.Terms.{IsTerm}
use Rattle.mau_api.specs.Answers.{uses_results, AreSettled}
use Rattle.mau_api.specs.declared.results.EvalEnd.{EvalEnd}
use Rattle.mau_api.specs.declared.results.EvalEnd.TheVariants.{Stopped, TooDeep, Overflow, NoMemory}
use Rattle.mau_reducer.specs.KeptTables.{IsKept}
use Rattle.mau_results.specs.Results.{AnswerOf, ends_by, MayAnswer}
use Rattle.mau_results.specs.Kept.{AreByDefinition}
use Rattle.mau_solutions.specs.Listings.{ReachedOf, StrategyEnd}
use Rattle.mau_stratitems.specs.Kept.{CanRun}
use Rattle.mau_stratitems.specs.declared.kept.KeptRun.{KeptRun}
use Rattle.mau_module.specs.Modules.{ModuleOf}
use Rattle.mau_module.specs.Lawful.{program_of}
use Rattle.mau_session.specs.Terms.{Pairs}
use Rattle.mau_session.specs.Environment.{environment_of, meanings_in}
use Rattle.mau_session.specs.State.{OutcomeOf}
use Rattle.mau_session.specs.Gains.{IsEnd}
use Rattle.mau_session.specs.StrategyRun.{StrategyRunOf}
use Rattle.mau_session.specs.StrategyLines.{left_by_strategy}
use Rattle.mau_session.specs.StrategyGains.{MayEndSo, GainsSolutions}
use Rattle.mau_session.specs.KeptStrategy.{asked_there, given_there, IsForAny, CanGoOn, GainsEnded}
use Rattle.mau_session.proofs.Begun.{kept_as}

module _ (m : ModuleOf) (ops : List Operator) (limit : ℕ) (n : Meanings) (same : n ≡ meanings_in (environment_of ops limit) m) where
  abbrev meant : Meanings
  meant = meanings_in (environment_of ops limit) m

  -- ---- the value of the term

  pub by_definition : AreByDefinition n
  by_definition = subst AreByDefinition (sym same) (let own : meant ≡ meant = refl in own)

  pub signature_is : m.signature ≡ n.program.sig
  signature_is = sym (ap (λ (z : Meanings). z.program.sig) same)

  pub limit_is : limit ≡ n.limit
  limit_is = sym (ap (λ (z : Meanings). z.limit) same)

  pub may_plainly : (w : Bool) (t : Tree) (a : AnswerOf) → MayAnswer n (uses_results n w) t a → MayAnswer (meanings_in (environment_of ops limit) m) false t a
  may_plainly w t a h = subst (λ (z : Meanings). MayAnswer z (uses_results z w) t a) same h

  pub may_end_plainly : (w : Bool) (t : Tree) (d : EvalEnd) (x : End) → IsEnd d x → MayEndSo n (uses_results n w) t d → MayAnswer (meanings_in (environment_of ops limit) m) false t (ends_by x)
  may_end_plainly w t Stopped x is h = subst (λ z. MayAnswer meant false t (ends_by z)) (sym is) (may_plainly w t (ends_by stopped) h)
  may_end_plainly w t TooDeep x is h = subst (λ z. MayAnswer meant false t (ends_by z)) (sym is) (may_plainly w t (ends_by too_deep) h)
  may_end_plainly w t Overflow x is h = subst (λ z. MayAnswer meant false t (ends_by z)) (sym is) (may_plainly w t (ends_by overflowed) h)
  may_end_plainly w t NoMemory x is h = absurd is

  pub term_as : (nodes : List Node) (i : ℕ) → IsTerm n.program.sig nodes i → IsTerm m.signature nodes i
  term_as nodes i h = subst (λ (z : Meanings). IsTerm z.program.sig nodes i) same h

  pub settled_as : (nodes : List Node) (table : Table) (t : Tree) → AreSettled n.program.sig nodes table t → AreSettled m.signature nodes table t
  settled_as nodes table t h = subst (λ (z : Meanings). AreSettled z.program.sig nodes table t) same h

  -- ---- solutions

  pub gains_ended : (r : StrategyRunOf) (most : Option ℕ) (old new : List ℕ) (last : ReachedOf) (shown : ℕ) (end : StrategyEnd) (left : OutcomeOf) → GainsEnded m n r most old new last shown end
      → left ≡ left_by_strategy end (record { reached = last; shown = shown; variables = r.variables }) → GainsSolutions m (meanings_in (environment_of ops limit) m) most r old new left
  gains_ended r most old new last shown end left h is =
      let g = subst (λ (z : Meanings). GainsEnded m z r most old new last shown end) same h in
      record {
        found = g.found;
        last = last;
        end = end;
        lists = g.lists;
        leaves = is ∙ ap (λ k. left_by_strategy end (record { reached = last; shown = k; variables = r.variables })) g.count;
        gained = g.gained;
      }

  -- ---- what is kept

  pub goes_on_kept : (k : KeptRun (ExtListing Listing)) (table sorts : Table) → sorts ≡ table → CanRun asked_there given_there IsForAny true (program_of m) n table k
      → IsKept n.program n.hooks n.limit k.rest.value.store sorts → CanGoOn (environment_of ops limit) m k sorts
  goes_on_kept k table sorts at run kept = record {
    run = subst (λ (t : Table). CanRun asked_there given_there IsForAny true (program_of m) meant t k) (sym at)
        (subst (λ (z : Meanings). CanRun asked_there given_there IsForAny true (program_of m) z table k) same run);
    kept = kept_as m ops limit n same k.rest.value.store sorts kept;
  }

  pub runs_kept : (k : KeptRun (ExtListing Listing)) (table sorts : Table) → table ≡ sorts → CanGoOn (environment_of ops limit) m k sorts
      → CanRun asked_there given_there IsForAny true (program_of m) n table k
  runs_kept k table sorts at can =
      subst (λ (t : Table). CanRun asked_there given_there IsForAny true (program_of m) n t k) (sym at)
      (subst (λ (z : Meanings). CanRun asked_there given_there IsForAny true (program_of m) z sorts k) (sym same) can.run)
