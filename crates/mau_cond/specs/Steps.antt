-- What the parts of an asking do.
use Rattle.std.specs.Prelude.{◌≡◌, ℕ, suc, List, Bool, true, false, Option, Some}
use Rattle.mau_terms.specs.declared.bare.Bare.{Bare}
use Rattle.mau_signature.specs.Signature.{SignatureOf}
use Rattle.mau_store.specs.Node.{Node}
use Rattle.mau_sorts.specs.Table.{Table}
use Rattle.mau_program.specs.declared.statements.Fragment.{Fragment}
use Rattle.mau_cond.specs.declared.stage.Stage.{Stage}
use Rattle.mau_cond.specs.declared.stage.Stage.TheVariants.{Open, First, Both, Due, Failed}
use Rattle.mau_cond.specs.declared.stage.Ask.{Ask}
use Rattle.mau_cond.specs.declared.stage.Ask.TheVariants.{Match, Fails}
use Rattle.mau_cond.specs.Path.{Path, all_stations, term_by, AwaitsValue, IsAnswer, IsNoSolution}
use Rattle.mau_cond.specs.Meaning.{Goes}
use Rattle.mau_cond.specs.Known.{IsKnown, IsKnownAnswer}

-- the path with its first undecided fragment at a place, of which nothing was told
abbrev pub opened : Path → ℕ → Path
opened p i = record { cond = p.cond; bound = p.bound; stations = p.stations; at = i; stage = Open }

-- the path has to go back
abbrev pub failing : Path → Path
failing p = record { cond = p.cond; bound = p.bound; stations = p.stations; at = p.at; stage = Failed }

-- the first undecided fragment is true or not
abbrev pub decided : Path → Bool → Path
decided p true = opened p (suc p.at)
decided p false = failing p

-- a solution is due, or no matching fragment is left
abbrev pub IsWaiting : Stage → Type 0
IsWaiting Open = ⊥
IsWaiting (First v) = ⊥
IsWaiting (Both v w) = ⊥
IsWaiting (Due s) = Unit {0}
IsWaiting Failed = Unit {0}

-- what is asked where the next solution of a matching fragment is due
abbrev pub due_ask : Stage → Ask
due_ask (Due s) = Match s.at s.value
due_ask k = Fails

-- the first term of a fragment
abbrev pub first_term : Fragment → Option Bare
first_term f = term_by Open (Some f)

-- a path goes on from `before` by an answer
pub record IsAnswered (s : SignatureOf) (nodes : List Node) (table : Table) (before after : Path) (answer : Ask) : Type 0 where
  pub goes : Goes s nodes table before after answer
  pub asked : IsAnswer after answer
  pub stations : all_stations after ≡ all_stations before
  pub known : IsKnown s nodes table after
  pub given : IsKnownAnswer s nodes table answer
  pub again : AwaitsValue before → (after ≡ before) × IsNoSolution answer
