-- Passes of frewrite over the nodes of a store: the terms that are open, and what calls say of what is left of a run.
use Rattle.std.specs.Prelude.{◌≡◌, ◌≤◌, ◌<◌, ℕ, suc, List, [], ◌∷◌, length, true, false, Option, Some, None, Result, Ok, Err, slice_get}
use Rattle.mau_terms.specs.Tree.{Tree, apply, node}
use Rattle.mau_terms.specs.declared.ids.TermId.{TermId}
use Rattle.mau_signature.specs.Signature.{SignatureOf, theory_at}
use Rattle.mau_store.specs.Node.{Node, operator_node}
use Rattle.mau_store.specs.Trees.{tree_at, trees_at, StandsFor}
use Rattle.mau_store.specs.View.{numbers}
use Rattle.mau_evaluation.specs.Run.{Run, and_then}
use Rattle.mau_evaluation.specs.Program.{Program}
use Rattle.mau_evaluation.specs.Evaluation.{levels, solve}
use Rattle.mau_evaluation.specs.RuleRuns.{Turns, Stand, PassEnd, Pass, is_out, at_top_up_to, top_of_pass, after_pass, passing}
use Rattle.mau_api.specs.Terms.{IsTerm}
use Rattle.mau_api.specs.Told.{shown_count}
use Rattle.mau_api.specs.declared.results.Reduced.{Reduced}
use Rattle.mau_api.specs.declared.results.EvalEnd.{EvalEnd}
use Rattle.mau_reduce.specs.Kinds.{AreUnder}
use Rattle.mau_rules.specs.declared.frames.Frame.{Frame}
use Rattle.mau_rules.specs.declared.tops.Tally.{Tally}
use Rattle.mau_rules.specs.declared.run.RuleEnd.{RuleEnd}
use Rattle.mau_rules.specs.declared.run.RuleRun.{RuleRun}
use Rattle.mau_rules.specs.Known.{Item, Gives}
use Rattle.mau_rules.specs.Counted.{IsCounted, KnownEnd}
use Rattle.mau_rules.specs.Walk.{Opened, is_frozen_at}
use Rattle.mau_rules.specs.Opened.{Goes, once, from_open, through}
use Rattle.mau_rules.specs.Runs.{stand_of, ended_at}

-- ---- terms that are open

-- a term over other arguments
abbrev pub over : Tree → List Tree → Tree
over (apply f ts) us = node f us
over t us = t

-- the term as it stands now, and how many of its arguments are behind the pass
abbrev pub frame_in : List Node → Frame → Opened
frame_in nodes x = (over (tree_at nodes x.term.0) (trees_at nodes (numbers x.args.items)), x.next)

-- it may be rebuilt: its arguments are of the kinds of their places
pub record IsFrame (s : SignatureOf) (nodes : List Node) (x : Frame) : Type 0 where
  pub term : IsTerm s nodes x.term.0
  pub under : (f : ℕ) (ids : List ℕ) → slice_get nodes x.term.0 ≡ Some (operator_node f ids) → AreUnder s nodes f (numbers x.args.items)

-- child is its argument that was entered last
pub record IsEntered (nodes : List Node) (x : Frame) (child : ℕ) : Type 0 where
  pub operator : ℕ
  pub ids : List ℕ
  pub at : slice_get nodes x.term.0 ≡ Some (operator_node operator ids)
  pub place : ℕ
  pub next : x.next ≡ suc place
  pub argument : slice_get (numbers x.args.items) place ≡ Some child

-- each of the open terms is the argument entered last of the one before it, from the root on, and the term is that of the last one
abbrev pub IsChain : SignatureOf → List Node → ℕ → List Frame → ℕ → Type 0
IsChain s nodes root [] term = root ≡ term
IsChain s nodes root (x ∷ xs) term = (x.term.0 ≡ root) × IsFrame s nodes x × (child : ℕ) × IsEntered nodes x child × IsChain s nodes child xs term

-- child is its first argument that is not behind the pass and not frozen, and n arguments are behind once it is entered
pub record IsNext (s : SignatureOf) (nodes : List Node) (x : Frame) (n child : ℕ) : Type 0 where
  pub operator : ℕ
  pub ids : List ℕ
  pub at : slice_get nodes x.term.0 ≡ Some (operator_node operator ids)
  pub place : ℕ
  pub next : n ≡ suc place
  pub from : x.next ≤ place
  pub frozen : (i : ℕ) → x.next ≤ i → i < place → is_frozen_at s operator i ≡ true
  pub free : is_frozen_at s operator place ≡ false
  pub argument : slice_get (numbers x.args.items) place ≡ Some child

-- it has no such argument
abbrev pub HasNoNext : SignatureOf → List Node → Frame → Type 0
HasNoNext s nodes x =
    (f : ℕ) (ids : List ℕ) → slice_get nodes x.term.0 ≡ Some (operator_node f ids) → (i : ℕ) → x.next ≤ i → i < length x.args.items → is_frozen_at s f i ≡ true

-- ---- what is left of a run, under limits

-- how a run goes on with what a pass gave, under limits
abbrev pub Onward : Type 0
Onward = ℕ → ℕ → Goes

-- one rewrite at the top of an evaluated term, and the value behind it
abbrev pub once_by : Program → Stand → ℕ → ℕ → Run (Option Stand)
once_by P s k E = once P (levels P E (suc k)).eval (levels P E (suc k)).sorts (solve P (levels P E k)) s

-- up to j rewrites at the top of an evaluated term, and what follows
abbrev pub tops_by : Program → ℕ → Pass → Onward → ℕ → ℕ → Run PassEnd
tops_by P j s K k E = and_then (at_top_up_to P (levels P E (suc k)).eval (levels P E (suc k)).sorts (solve P (levels P E k)) j s) (K k E)

-- the value of a term whose arguments were passed over, up to g rewrites at its top, and what follows
abbrev pub top_by : Program → ℕ → Pass → Onward → ℕ → ℕ → Run PassEnd
top_by P g s K k E = and_then (top_of_pass P (levels P E (suc k)).eval (levels P E (suc k)).sorts (solve P (levels P E k)) g s) (K k E)

-- the arguments of an open term that are not behind the pass, the term itself, and what follows
abbrev pub open_by : Program → ℕ → Opened → Pass → Onward → ℕ → ℕ → Run PassEnd
open_by P g o s K k E = from_open P (levels P E (suc k)).eval (levels P E (suc k)).sorts (solve P (levels P E k)) g o.0 o.1 s (K k E)

-- what follows behind an argument of the last one of some open terms
abbrev pub through_by : Program → ℕ → List Opened → Onward → Onward
through_by P g os K k E = through P (levels P E (suc k)).eval (levels P E (suc k)).sorts (solve P (levels P E k)) g os (K k E)

-- pass after pass, of which so many rewrites may be made
abbrev pub passing_by : Program → ℕ → Option ℕ → Stand → ℕ → ℕ → Run PassEnd
passing_by P g n s k E = passing P (levels P E (suc k)).eval (levels P E (suc k)).sorts (solve P (levels P E k)) g n s

-- what follows behind a pass over the whole term
abbrev pub behind_pass : Program → ℕ → Onward
behind_pass P g k E =
    after_pass P (levels P E (suc k)).eval (levels P E (suc k)).sorts (solve P (levels P E k)) (passing P (levels P E (suc k)).eval (levels P E (suc k)).sorts (solve P (levels P E k)) g)

-- within a pass: a term, the turns of the rules, and what the tally says
abbrev pub pass_with : Tree → Turns → Tally → Pass
pass_with t turns y = record { stand = record { term = t; turns = turns }; left = y.left; made = y.made }

-- ---- what calls say

-- of one rewrite at the top, behind which the turns are these
abbrev pub KnownOnce : Item → Program → Stand → ℕ → Turns → List Node → Result (Option Reduced) EvalEnd → ℕ → Type 0
KnownOnce I P s before turns nodes (Ok None) after = Gives I (once_by P s) before None 0 after
KnownOnce I P s before turns nodes (Ok (Some x)) after =
    (r : ℕ) × (x.rewrites ≡ shown_count r) × Gives I (once_by P s) before (Some (record { term = tree_at nodes x.term.0; turns = turns })) r after
KnownOnce I P s before turns nodes (Err e) after = KnownEnd I (once_by P s) before e

-- of the run f: with the term that came of another one it goes on as K says
abbrev pub KnownTerm : Item → (ℕ → ℕ → Run PassEnd) → ℕ → Onward → List Node → Turns → Tally → Result TermId EvalEnd → ℕ → Type 0
KnownTerm I f b0 K nodes turns y (Ok id) after = IsCounted I f b0 y.rewrites (λ k E. K k E (pass_with (tree_at nodes id.0) turns y)) after
KnownTerm I f b0 K nodes turns y (Err e) after = KnownEnd I f b0 e

-- the same of a whole pass. Once as many rewrites as may be were made the number stands for the normal form of the term
abbrev pub KnownWhole : Item → (ℕ → ℕ → Run PassEnd) → ℕ → Onward → SignatureOf → List Node → Turns → Tally → Result TermId EvalEnd → ℕ → Type 0
KnownWhole I f b0 K s nodes turns y (Ok id) after =
    (t : Tree) × StandsFor (theory_at s) nodes id.0 t × (is_out y.left ≡ false → tree_at nodes id.0 ≡ t) × IsCounted I f b0 y.rewrites (λ k E. K k E (pass_with t turns y)) after
KnownWhole I f b0 K s nodes turns y (Err e) after = KnownEnd I f b0 e

-- the whole run ends so, or another pass follows
abbrev pub KnownRest : Item → (ℕ → ℕ → Run PassEnd) → ℕ → Program → List Node → RuleRun → Tally → Result (Option RuleEnd) EvalEnd → ℕ → Type 0
KnownRest I f b0 P nodes run y (Ok None) after = IsCounted I f b0 y.rewrites (passing_by P y.gas y.left (stand_of nodes run)) after
KnownRest I f b0 P nodes run y (Ok (Some e)) after = (r : ℕ) × (y.rewrites ≡ shown_count r) × Gives I f b0 (ended_at nodes run e) r after
KnownRest I f b0 P nodes run y (Err e) after = KnownEnd I f b0 e
