-- What the code keeps of a query.
use Rattle.std.specs.Prelude.{◌≡◌, ◌<◌, ◌≤◌, List, [], take, length}
use Rattle.std.specs.Option.{option_map}
use Rattle.mau_terms.specs.Tree.{Tree}
use Rattle.mau_terms.specs.Bare.{IsBare, IsLawful}
use Rattle.mau_terms.specs.Subst.{variables}
use Rattle.mau_terms.specs.View.{tree_of}
use Rattle.mau_terms.specs.declared.ids.TermId.{TermId}
use Rattle.mau_signature.specs.Signature.{SignatureOf, theory_at, terms_over}
use Rattle.mau_store.specs.Node.{Node}
use Rattle.mau_store.specs.Trees.{StandsFor, tree_at, trees_at}
use Rattle.mau_store.specs.View.{numbers}
use Rattle.mau_sorts.specs.Table.{Table}
use Rattle.mau_listing.specs.Asked.{Asked, asks, matcher_in, IsAskable}
use Rattle.mau_api.specs.Meanings.{Meanings}
use Rattle.mau_reducer.specs.KeptTables.{IsKept}
use Rattle.mau_conditional.specs.NextWhere.{GoesByProgram, IsReadyFor}
use Rattle.mau_module.specs.Modules.{ModuleOf}
use Rattle.mau_module.specs.Lawful.{program_of}
use Rattle.mau_session.specs.Environment.{Environment}
use Rattle.mau_session.specs.declared.query.Query.{Query}
use Rattle.mau_session.specs.Matching.{numbered_from}
use Rattle.mau_session.specs.Query.{QueryOf}

-- the term with a number, and the terms of several
abbrev pub id_tree : List Node → TermId → Tree
id_tree nodes id = tree_at nodes id.0

abbrev pub id_trees : List Node → List TermId → List Tree
id_trees nodes ids = trees_at nodes (numbers ids)

abbrev pub query_of : Query → QueryOf
query_of q = record {
  with_context = q.with_context;
  pattern = tree_of q.pattern;
  subject = tree_of q.subject;
  variables = q.vars;
  last = option_map (matcher_in q.store) q.last;
  shown = q.shown;
}

-- what a listing is asked for it
abbrev pub asked_for : Query → Asked
asked_for q = asks (tree_of q.pattern) [] q.number

-- a pattern and a subject are asked over the signature s: the number stands for the subject, and the variables of the pattern are the first ones
pub record IsQueryOver (s : SignatureOf) (q : Query) : Type 0 where
  pub lawful : IsLawful (terms_over s)
  pub askable : IsAskable s q.store (asked_for q)
  pub stands : StandsFor (theory_at s) q.store q.number.0 (tree_of q.subject)
  pub subject : IsBare (terms_over s) (tree_of q.subject)
  pub numbered : variables (tree_of q.pattern) ≡ numbered_from 0 (take (length (variables (tree_of q.pattern))) q.vars)
  pub few : length (variables (tree_of q.pattern)) ≤ length q.vars
  pub small : length q.vars < 4294967296

-- and by the sorts of a table its listing can go on behind the last solution; those of the subject are there
pub record IsReady (s : SignatureOf) (table : Table) (q : Query) : Type 0 where
  pub query : IsQueryOver s q
  pub listing : IsReadyFor q.with_context s q.store table (asked_for q) q.last

-- ---- evaluators

-- one with these meanings goes by the definitions for the module's program
pub record GoesIn (m : ModuleOf) (e : Meanings) : Type 0 where
  pub goes : GoesByProgram e
  pub signature : m.signature ≡ e.program.sig

-- ---- between items

-- its listing can go on over the module m, by the sorts that an evaluator had settled in this environment
pub record IsReadyKept (e : Environment) (m : ModuleOf) (sorts : Table) (q : Query) : Type 0 where
  pub ready : IsReady m.signature sorts q
  pub kept : IsKept (program_of m) e.operators e.budget q.store sorts
