-- A pass over a term, by the terms that are open in it, from the whole term on: what is left of a run, over any evaluation. K is how the run goes on with what a
-- pass gave.
use Rattle.std.specs.Prelude.{ℕ, List, [], ◌∷◌, ◌++◌, take, drop, true, Option, Some, None}
use Rattle.mau_terms.specs.Tree.{Tree, apply, node, list_of, trees_of}
use Rattle.mau_evaluation.specs.Run.{Run, gives, and_then, spending}
use Rattle.mau_evaluation.specs.Program.{Fragment, Program}
use Rattle.mau_evaluation.specs.Evaluation.{Binding}
use Rattle.mau_evaluation.specs.RuleRuns.{Stand, PassEnd, Pass, with_term, one_less, at_place, evaluated, at_top_up_to, top_of_pass, pass_list}
use Rattle.mau_rules.specs.Walk.{Opened, around_last}

-- how a run goes on with what a pass gave
abbrev pub Goes : Type 0
Goes = Pass → Run PassEnd

-- one more rewrite was made
abbrev pub moved : Pass → Stand → Pass
moved s v = record { stand = v; left = one_less s.left; made = true }

module _ (P : Program) (ev : Tree → Run Tree) (sorts : Tree → Run (List ℕ)) (ask : List Fragment → Binding → Run (Option Binding)) where
  -- the stand that a use of a rule leads to, once it is evaluated
  abbrev pub value_of_use : Option Stand → Run (Option Stand)
  value_of_use None = gives None
  value_of_use (Some u) = spending (and_then (evaluated P ev sorts ask u) λ v. gives (Some v))

  -- one rewrite at the top, and the value behind it, or none
  abbrev pub once : Stand → Run (Option Stand)
  once s = and_then (at_place P ev sorts ask s.turns (record { term = s.term; around = λ v. v })) value_of_use

  module _ (g : ℕ) where
    -- behind one rewrite at the top of which up to j more may follow
    abbrev pub after_once : ℕ → Pass → Goes → Option Stand → Run PassEnd
    after_once j s K None = K s
    after_once j s K (Some v) = and_then (at_top_up_to P ev sorts ask j (moved s v)) K

    -- the arguments of the term t from the n-th on are passed over, and then the term itself is evaluated and rewritten at its top
    abbrev pub from_open : Tree → ℕ → Pass → Goes → Run PassEnd
    from_open (apply f ts) n s K =
        and_then (pass_list P ev sorts ask g f n (trees_of (drop n (list_of ts))) s) λ p.
        and_then (top_of_pass P ev sorts ask g (with_term p.state (node f (take n (list_of ts) ++ p.items)))) K
    from_open t n s K = and_then (top_of_pass P ev sorts ask g (with_term s t)) K

    -- behind the argument that was entered last: what it gave stands in its place
    abbrev pub behind : Tree → ℕ → Goes → Goes
    behind t n K q = from_open (around_last (λ v. v) t n q.stand.term) n q K

    -- behind an argument of the last one of some open terms
    abbrev pub through : List Opened → Goes → Goes
    through [] K = K
    through (o ∷ os) K = through os (behind o.0 o.1 K)
