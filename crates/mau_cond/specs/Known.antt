-- What of a path is known in a store, and what a level has to do with the store.
use Rattle.std.specs.Prelude.{◌≡◌, ◌↔◌, ℕ, List, All, true, Some}
use Rattle.mau_terms.specs.Tree.{Tree}
use Rattle.mau_terms.specs.declared.ids.TermId.{TermId}
use Rattle.mau_signature.specs.Signature.{SignatureOf, theory_at}
use Rattle.mau_store.specs.Node.{Node}
use Rattle.mau_store.specs.Trees.{tree_at}
use Rattle.mau_sorts.specs.SortSets.{SortsOf, IsIn}
use Rattle.mau_sorts.specs.Table.{Table, entry_at, IsSettled}
use Rattle.mau_evaluation.specs.Run.{done, and_then}
use Rattle.mau_evaluation.specs.Evaluation.{Level, has_number, admit}
use Rattle.mau_api.specs.Terms.{IsTerm}
use Rattle.mau_api.specs.Answers.{IsFragment, IsValueOf}
use Rattle.mau_cond.specs.declared.stage.Station.{Station}
use Rattle.mau_cond.specs.declared.stage.Stage.{Stage}
use Rattle.mau_cond.specs.declared.stage.Stage.TheVariants.{Open, First, Both, Due, Failed}
use Rattle.mau_cond.specs.declared.stage.Ask.{Ask}
use Rattle.mau_cond.specs.declared.stage.Ask.TheVariants.{Evaluate, Match, Holds, Fails}
use Rattle.mau_cond.specs.Path.{Path, all_stations}

module _ (s : SignatureOf) (nodes : List Node) (table : Table) where
  -- a value that was told is a term whose sorts are settled
  abbrev pub IsToldValue : TermId → Type 0
  IsToldValue v = IsTerm s nodes v.0 × IsSettled table v.0

  abbrev pub AreToldAt : Stage → Type 0
  AreToldAt Open = Unit {0}
  AreToldAt (First v) = IsToldValue v
  AreToldAt (Both v w) = IsToldValue v × IsToldValue w
  AreToldAt (Due k) = Unit {0}
  AreToldAt Failed = Unit {0}

  -- all fragments are over the signature, and all values are terms
  pub record IsKnown (p : Path) : Type 0 where
    pub fragments : All (IsFragment s) p.cond
    pub bound : All (IsValueOf s nodes table) p.bound
    pub stations : All (λ (k : Station). IsToldValue k.value) (all_stations p)
    pub told : AreToldAt p.stage

  -- what is answered is known
  abbrev pub IsKnownAnswer : Ask → Type 0
  IsKnownAnswer (Evaluate t) = IsTerm s nodes t.0
  IsKnownAnswer (Match i v) = IsToldValue v
  IsKnownAnswer (Holds values) = All (IsValueOf s nodes table) values.items
  IsKnownAnswer Fails = Unit {0}

  -- ---- levels

  -- an entry has just the sorts that the level gives for t, with nothing counted
  pub record IsEntryBy (l : Level) (t : Tree) (e : SortsOf) : Type 0 where
    pub sorts : List ℕ
    pub known : (b : ℕ) → l.sorts t b ≡ done sorts 0 b
    pub exact : (r : ℕ) → IsIn s.hierarchy e r ↔ (has_number sorts r ≡ true)

  -- the level evaluates a term by its normal form, which has to be within the limits; the table has the sorts that it gives for terms
  pub record IsLevelOf (l : Level) : Type 0 where
    pub admits : (t : Tree) (b : ℕ) → l.eval t b ≡ and_then (admit (theory_at s) t) l.eval b
    pub entries : (i : ℕ) (e : SortsOf) → entry_at table i ≡ Some e → IsTerm s nodes i → IsEntryBy l (tree_at nodes i) e
