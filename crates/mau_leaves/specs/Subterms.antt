-- Searches for the uses of one rule at a term, or at all its subterms, by the numbers of a store.
use Rattle.std.specs.Prelude.{◌≡◌, ℕ, Bool, true, false, List, [], ◌∷◌, ◌++◌, map, drop, All, Option, None}
use Rattle.mau_terms.specs.Tree.{Tree, variable, numeral, apply, Trees, no_trees, tree}
use Rattle.mau_terms.specs.Finite.{each_of, arguments_of}
use Rattle.mau_terms.specs.declared.ids.TermId.{TermId}
use Rattle.mau_terms.specs.declared.ids.VarId.{VarId}
use Rattle.mau_signature.specs.Signature.{SignatureOf}
use Rattle.mau_formula.specs.Operator.{Operator}
use Rattle.mau_store.specs.Node.{Node}
use Rattle.mau_store.specs.Trees.{tree_at}
use Rattle.mau_sorts.specs.Table.{Table}
use Rattle.mau_listing.specs.Asked.{Asked}
use Rattle.mau_listing.specs.declared.solution.Solution as Listed
use Rattle.mau_program.specs.declared.program.Program as Typed
use Rattle.mau_program.specs.declared.statements.Rule as Written
use Rattle.mau_evaluation.specs.Program.{Rule, Program}
use Rattle.mau_evaluation.specs.Evaluation.{Binding}
use Rattle.mau_evaluation.specs.Engine.{Engine}
use Rattle.mau_evaluation.specs.Answers.{Answers, answers_of, for_each}
use Rattle.mau_api.specs.Programs.{rule_of, program_over}
use Rattle.mau_api.specs.Meanings.{Meanings}
use Rattle.mau_api.specs.Terms.{IsTerm}
use Rattle.mau_api.specs.Answers.{binding_in, IsValueOf, AreSettled}
use Rattle.mau_rules.specs.declared.walk.Open.{Open}
use Rattle.mau_rules.specs.Walk.{Opened, opened}
use Rattle.mau_leaves.specs.Steps.{Before as First}
use Rattle.mau_leaves.specs.Uses.{Use, uses_by}
use Rattle.mau_leaves.specs.Searches.{left_in, use_in, variables_in, IsUsable, IsSearch}
use Rattle.mau_leaves.specs.declared.uses.RuleUses.{RuleUses}
use Rattle.mau_leaves.specs.declared.subterms.Spot.{Spot}
use Rattle.mau_leaves.specs.declared.subterms.Spot.TheVariants.{Before, At, Behind}
use Rattle.mau_leaves.specs.declared.subterms.SubtermUses.{SubtermUses}

-- ---- by trees

-- a term and all that is below it, in pre-order, in frozen arguments too
abbrev mutual
  pub subterms : Tree → List Tree
  subterms (variable i s) = variable i s ∷ []
  subterms (numeral n) = numeral n ∷ []
  subterms (apply f ts) = apply f ts ∷ subterms_in ts

  pub subterms_in : Trees → List Tree
  subterms_in no_trees = []
  subterms_in (tree t ts) = subterms t ++ subterms_in ts

-- those of the arguments of a term from the n-th on
abbrev pub subterms_from : Tree → ℕ → List Tree
subterms_from t n = each_of subterms (drop n (arguments_of t))

-- those that are left where some terms are open, the innermost one being the last
abbrev pub subterms_left : List Opened → List Tree
subterms_left [] = []
subterms_left (o ∷ os) = subterms_left os ++ subterms_from o.0 o.1

-- those behind the first n arguments of a term that was reached through some open ones, or none where what is below the root is not looked at
abbrev pub terms_after : Bool → List Node → List Open → Tree → ℕ → List Tree
terms_after false nodes way t n = []
terms_after true nodes way t n = subterms_from t n ++ subterms_left (map (opened nodes) way)

-- ---- uses

-- the uses of a rule at each of some terms, under what is bound, one term after another: by the solutions without contexts, or by all
abbrev pub uses_in : Program → Engine → Bool → Rule → Binding → List Tree → Answers Use
uses_in P L w q σ ts = for_each (uses_by P L w q σ) (answers_of ts)

-- a term whose sorts are settled, with those of all that is below it
pub record IsSubject (s : SignatureOf) (nodes : List Node) (table : Table) (n : ℕ) : Type 0 where
  pub term : IsTerm s nodes n
  pub settled : AreSettled s nodes table (tree_at nodes n)

abbrev pub IsOpenSubject : SignatureOf → List Node → Table → Open → Type 0
IsOpenSubject s nodes table o = IsSubject s nodes table o.term.0

-- the subterm at which a search stands, or of whose arguments some are behind it
abbrev pub place_at : {K : Type 0} → Spot K → TermId
place_at (Before id) = id
place_at (At id u) = id
place_at (Behind o) = o.term

-- at a subterm whose uses are gone through
abbrev pub IsAtOne : {K : Type 0} → Spot K → Type 0
IsAtOne (Before id) = ⊥
IsAtOne (At id u) = Unit {0}
IsAtOne (Behind o) = ⊥

-- those at some terms are left
abbrev pub left_of_terms : Typed.Program → List Operator → Written.Rule → Bool → List (VarId × TermId) → List Node → List Tree → Engine → Answers Use → Type 0
left_of_terms p hooks rule w bound nodes ts = λ L q. q ≡ uses_in (program_over p hooks) L w (rule_of rule) (binding_in nodes bound) ts

module _ {K : Type 0} (asked : K → Asked) (given : K → Option Listed.Solution) where
  -- what is left of the uses at one term
  abbrev pub left_of_uses : Typed.Program → List Operator → Written.Rule → List Node → RuleUses K → Engine → Answers Use → Type 0
  left_of_uses p hooks rule nodes u = left_in p hooks rule u.whole u.bound.items nodes (asked u.listing) (given u.listing) u.standing

  -- before the uses at a term, or at them, or behind them
  abbrev pub left_of_spot : Typed.Program → List Operator → Written.Rule → Bool → List (VarId × TermId) → List Node → Bool → List Open → Spot K → Engine → Answers Use → Type 0
  left_of_spot p hooks rule w bound nodes below way (Before id) = left_of_terms p hooks rule w bound nodes (tree_at nodes id.0 ∷ terms_after below nodes way (tree_at nodes id.0) 0)
  left_of_spot p hooks rule w bound nodes below way (At id u) = λ L.
      First (uses_in (program_over p hooks) L w (rule_of rule) (binding_in nodes bound) (terms_after below nodes way (tree_at nodes id.0) 0)) (left_of_uses p hooks rule nodes u L)
  left_of_spot p hooks rule w bound nodes below way (Behind o) = left_of_terms p hooks rule w bound nodes (terms_after below nodes way (tree_at nodes o.term.0) o.next)

  abbrev pub left_of_subterms : Typed.Program → List Operator → Written.Rule → List Node → SubtermUses K → Engine → Answers Use → Type 0
  left_of_subterms p hooks rule nodes s = left_of_spot p hooks rule s.whole s.bound.items nodes s.below s.way.items s.spot

  -- the use that was found last
  abbrev pub use_at_spot : Written.Rule → List Node → Spot K → Option Use
  use_at_spot rule nodes (Before id) = None
  use_at_spot rule nodes (At id u) = use_in rule nodes (given u.listing) u.standing
  use_at_spot rule nodes (Behind o) = None

  -- ---- what is known

  -- where the uses at a term are gone through, it is what their listing was asked of, under what is bound
  pub record IsAtUses (is_for : K → SignatureOf → Type 0) (c : Bool) (p : Typed.Program) (m : Meanings) (rule : Written.Rule) (bound : List (VarId × TermId)) (nodes : List Node) (table : Table) (id : TermId) (u : RuleUses K) : Type 0 where
    pub term : IsSubject p.sig nodes table id.0
    pub search : IsSearch c p m rule u.bound.items nodes table (asked u.listing) (given u.listing) u.standing
    pub bound_so : u.bound.items ≡ bound
    pub signature : is_for u.listing p.sig

  abbrev pub IsSpot : (K → SignatureOf → Type 0) → Bool → Typed.Program → Meanings → Written.Rule → List (VarId × TermId) → List Node → Table → Spot K → Type 0
  IsSpot is_for c p m rule bound nodes table (Before id) = IsSubject p.sig nodes table id.0
  IsSpot is_for c p m rule bound nodes table (At id u) = IsAtUses is_for c p m rule bound nodes table id u
  IsSpot is_for c p m rule bound nodes table (Behind o) = IsSubject p.sig nodes table o.term.0

  -- the rule can be used under what is bound, and what is open can be gone through
  pub record IsSubtermSearch (is_for : K → SignatureOf → Type 0) (c : Bool) (p : Typed.Program) (m : Meanings) (rule : Written.Rule) (nodes : List Node) (table : Table) (s : SubtermUses K) : Type 0 where
    pub usable : IsUsable p.sig (variables_in s.bound.items) rule
    pub values : All (IsValueOf p.sig nodes table) s.bound.items
    pub spot : IsSpot is_for c p m rule s.bound.items nodes table s.spot
    pub way : All (IsOpenSubject p.sig nodes table) s.way.items
