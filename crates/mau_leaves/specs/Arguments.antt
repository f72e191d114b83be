-- Searches for the solutions of argument patterns, one pattern after the other: each is gone through under the values that those before it led to.
use Rattle.std.specs.Prelude.{◌≡◌, List, [], ◌∷◌, ◌++◌, All, Bool, true, false, Option, Some, None, IsSome}
use Rattle.mau_terms.specs.Tree.{Tree}
use Rattle.mau_terms.specs.Subst.{Variable, variables, add_variables}
use Rattle.mau_terms.specs.View.{tree_of}
use Rattle.mau_terms.specs.declared.ids.TermId.{TermId}
use Rattle.mau_terms.specs.declared.ids.VarId.{VarId}
use Rattle.mau_signature.specs.Signature.{SignatureOf}
use Rattle.mau_formula.specs.Operator.{Operator}
use Rattle.mau_store.specs.Node.{Node}
use Rattle.mau_store.specs.Trees.{tree_at}
use Rattle.mau_sorts.specs.Table.{Table}
use Rattle.mau_listing.specs.Asked.{Asked}
use Rattle.mau_listing.specs.declared.solution.Solution as Listed
use Rattle.mau_program.specs.declared.program.Program as Typed
use Rattle.mau_program.specs.declared.statements.Rule as Written
use Rattle.mau_evaluation.specs.Program.{Rule, Program}
use Rattle.mau_evaluation.specs.Listing.{Solution}
use Rattle.mau_evaluation.specs.Evaluation.{Binding, extend}
use Rattle.mau_evaluation.specs.Engine.{Engine}
use Rattle.mau_evaluation.specs.Answers.{Answers, no_more, answer, answers_of, and_those, for_each}
use Rattle.mau_evaluation.specs.OrderedLists.{argument_at, argument_solutions}
use Rattle.mau_api.specs.Programs.{rule_of, program_over}
use Rattle.mau_api.specs.Meanings.{Meanings}
use Rattle.mau_api.specs.Answers.{binding_in, IsValueOf, AreApart}
use Rattle.mau_leaves.specs.Uses.{Stand, behind, at_one, solutions_behind}
use Rattle.mau_leaves.specs.Searches.{stand_of, found_in, last_in, variables_in, IsUsable, IsSearch}
use Rattle.mau_leaves.specs.declared.uses.Standing.TheVariants.{Behind}
use Rattle.mau_leaves.specs.declared.arguments.PatternSearch.{PatternSearch}
use Rattle.mau_leaves.specs.declared.arguments.ArgumentSearch.{ArgumentSearch}

-- ---- what is left, with one engine

module _ (P : Program) (L : Engine) where
  -- the values that a solution of a pattern leads to, where it agrees with what is bound and its values have their sorts
  abbrev pub matched_by : Tree → Binding → Solution → Answers Binding
  matched_by p σ x = argument_at P L p σ x (answer (extend σ (variables p) x.values) no_more)

  abbrev pub matched_among : Tree → Binding → List Solution → Answers Binding
  matched_among p σ xs = for_each (matched_by p σ) (answers_of xs)

  -- what is left of the values that the solutions of a rule's left side lead to, where a search for its uses stands
  abbrev pub left_matched : Rule → Binding → Tree → Stand → Answers Binding
  left_matched q σ t (behind last) = matched_among q.left σ (solutions_behind P true q t last)
  left_matched q σ t (at_one x None) = answer (extend σ (variables q.left) x.values) (matched_among q.left σ (solutions_behind P true q t (Some x)))
  left_matched q σ t (at_one x (Some last)) = matched_among q.left σ (solutions_behind P true q t (Some x))

  -- all solutions of patterns under what is bound, where these are due
  abbrev pub due_under : Bool → Option Binding → List Tree → List Tree → Answers Binding
  due_under false o ps vs = no_more
  due_under true None ps vs = no_more
  due_under true (Some σ) ps vs = argument_solutions P L ps vs σ

-- ---- by numbers

-- the variables that have values where the last of some searches found one, or where there is none, those that o has
abbrev pub found_behind : {K : Type 0} → Option (List (VarId × TermId)) → List (PatternSearch K) → Option (List (VarId × TermId))
found_behind o [] = o
found_behind o (w ∷ ws) = found_behind (found_in w.uses.standing) ws

abbrev pub last_found : {K : Type 0} → List (PatternSearch K) → Option (List (VarId × TermId))
last_found ws = found_behind (Some []) ws

-- values of variables, each of which stands once
pub record AreBound (s : SignatureOf) (nodes : List Node) (table : Table) (found : List (VarId × TermId)) : Type 0 where
  pub values : All (IsValueOf s nodes table) found
  pub apart : AreApart (variables_in found)

-- a rule with a pattern on both sides and no condition
pub record IsPatternRule (q : Tree) (rule : Written.Rule) : Type 0 where
  pub left : tree_of rule.left ≡ q
  pub right : tree_of rule.right ≡ q
  pub plain : rule.cond ≡ []

-- `asked` and `given` say what a listing was asked, and what it gave last
module _ {K : Type 0} (asked : K → Asked) (given : K → Option Listed.Solution) where
  -- what is left of the values that one pattern leads to
  abbrev pub matched_left : Typed.Program → List Operator → List Node → PatternSearch K → Engine → Answers Binding
  matched_left p hooks nodes w = λ L.
      left_matched (program_over p hooks) L (rule_of w.rule) (binding_in nodes w.uses.bound.items) (tree_at nodes (asked w.uses.listing).subject.0) (stand_of nodes (given w.uses.listing) w.uses.standing)

  -- what is left of the solutions of the patterns ps on the values vs, where some searches stand, the first of them for the first pattern; where solutions of
  -- the patterns behind them are due, they are so under what the last search found, or under o
  abbrev pub left_behind_all : Typed.Program → List Operator → List Node → Bool → List Tree → List Tree → Option Binding → List (PatternSearch K) → Engine → Answers Binding
  left_behind_all p hooks nodes due ps vs o [] = λ L. due_under (program_over p hooks) L due o ps vs
  left_behind_all p hooks nodes due [] vs o (w ∷ ws) = λ L. no_more
  left_behind_all p hooks nodes due (q ∷ ps) [] o (w ∷ ws) = λ L. no_more
  left_behind_all p hooks nodes due (q ∷ ps) (v ∷ vs) o (w ∷ ws) = λ L.
      and_those (left_behind_all p hooks nodes due ps vs (last_in nodes w.uses.standing) ws L) (for_each (argument_solutions (program_over p hooks) L ps vs) (matched_left p hooks nodes w L))

  abbrev pub left_of_arguments : Typed.Program → List Operator → List Node → List Tree → List Tree → ArgumentSearch K → Engine → Answers Binding
  left_of_arguments p hooks nodes ps vs s = left_behind_all p hooks nodes s.due ps vs (Some []) s.searches.items

  -- ---- what is known where it stands

  -- a search for the solutions of the pattern q on a value, where the variables xs have values before
  pub record IsPatternSearch (is_for : K → SignatureOf → Type 0) (c : Bool) (p : Typed.Program) (m : Meanings) (nodes : List Node) (table : Table) (xs : List Variable) (q : Tree) (v : TermId) (w : PatternSearch K) : Type 0 where
    pub rule : IsPatternRule q w.rule
    pub bound : variables_in w.uses.bound.items ≡ xs
    pub usable : IsUsable p.sig xs w.rule
    pub whole : w.uses.whole ≡ true
    pub subject : (asked w.uses.listing).subject ≡ v
    pub search : IsSearch c p m w.rule w.uses.bound.items nodes table (asked w.uses.listing) (given w.uses.listing) w.uses.standing
    pub signature : is_for w.uses.listing p.sig

  -- searches for the first of some patterns on the first of some values
  abbrev pub AreSearches : (K → SignatureOf → Type 0) → Bool → Typed.Program → Meanings → List Node → Table → List Variable → List Tree → List TermId → List (PatternSearch K) → Type 0
  AreSearches is_for c p m nodes table xs ps vs [] = Unit {0}
  AreSearches is_for c p m nodes table xs [] vs (w ∷ ws) = ⊥
  AreSearches is_for c p m nodes table xs (q ∷ ps) [] (w ∷ ws) = ⊥
  AreSearches is_for c p m nodes table xs (q ∷ ps) (v ∷ vs) (w ∷ ws) =
      IsPatternSearch is_for c p m nodes table xs q v w × AreSearches is_for c p m nodes table (add_variables xs q) ps vs ws

  pub record IsArgumentSearch (is_for : K → SignatureOf → Type 0) (c : Bool) (p : Typed.Program) (m : Meanings) (nodes : List Node) (table : Table) (ps : List Tree) (vs : List TermId) (s : ArgumentSearch K) : Type 0 where
    pub searches : AreSearches is_for c p m nodes table [] ps vs s.searches.items
    pub stands : s.due ≡ true → IsSome (last_found s.searches.items)

  -- the search for the solutions of one pattern more was begun, under what was found last
  pub record IsDeeper (is_for : K → SignatureOf → Type 0) (c : Bool) (p : Typed.Program) (m : Meanings) (nodes : List Node) (table : Table) (q : Tree) (v : TermId) (old new : ArgumentSearch K) : Type 0 where
    pub next : PatternSearch K
    pub found : List (VarId × TermId)
    pub at : last_found old.searches.items ≡ Some found
    pub bound : next.uses.bound.items ≡ found
    pub begun : (given next.uses.listing ≡ None) × (next.uses.standing ≡ Behind)
    pub search : IsPatternSearch is_for c p m nodes table (variables_in found) q v next
    pub searches : new.searches.items ≡ old.searches.items ++ next ∷ []
    pub due : new.due ≡ false
