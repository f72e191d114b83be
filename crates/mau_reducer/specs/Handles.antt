-- What the handles of a program's world stand for over the nodes of a store, and which of them are known.
use Rattle.std.specs.Prelude.{◌≡◌, ◌==◌, ◌+◌, ◌-◌, nat_lt, ℕ, suc, length, List, [], map, drop, take, fold, Bool, true, Option, Some, None, IfSome, slice_get, refl, if◌then◌else◌}
use Rattle.std.specs.Option.{option_map}
use Rattle.mau_terms.specs.Bare.{IsLawful}
use Rattle.mau_terms.specs.Solution.{HaveSorts}
use Rattle.mau_terms.specs.Subst.{Variable, variables}
use Rattle.mau_terms.specs.declared.bare.Bare.{Bare}
use Rattle.mau_terms.specs.declared.ids.VarId.{VarId}
use Rattle.mau_terms.specs.View.{tree_of, variable_of}
use Rattle.mau_signature.specs.Signature.{SignatureOf, theory_at, terms_over}
use Rattle.mau_store.specs.Node.{Node}
use Rattle.mau_store.specs.Trees.{tree_at, trees_at}
use Rattle.mau_store.specs.View.{numbers}
use Rattle.mau_canon.specs.Standing.{StandWithin}
use Rattle.mau_sorts.specs.Table.{Table}
use Rattle.mau_terms.specs.declared.ids.TermId.{TermId}
use Rattle.mau_listing.specs.Asked.{Asked, HasEntry}
use Rattle.mau_listing.specs.declared.solution.Solution.{Solution}
use Rattle.mau_program.specs.declared.program.Program as Typed
use Rattle.mau_program.specs.declared.statements.Fragment as Written
use Rattle.mau_program.specs.declared.statements.Fragment.TheVariants.{Equal, Match, Sort, Reach}
use Rattle.mau_program.specs.declared.statements.Equation.{Equation}
use Rattle.mau_program.specs.declared.statements.Membership.{Membership}
use Rattle.mau_program.specs.Binding.{bound_behind, are_bound}
use Rattle.mau_evaluation.specs.Evaluation.{Binding as Bound, levels}
use Rattle.mau_api.specs.Programs.{program_over, fragment_of}
use Rattle.mau_api.specs.Terms.{IsTerm}
use Rattle.mau_api.specs.Answers.{AreSettled, binding_in}
use Rattle.mau_reduce.specs.declared.binding.Binding.{Binding}
use Rattle.mau_reduce.specs.Kinds.{AreUnder}
use Rattle.mau_reduce.specs.Bindings.{bound_in, AreValues}
use Rattle.mau_reduce.specs.Reducible.{IsReducible}
use Rattle.mau_reduce.specs.Trying.{solution_in, IsTried}
use Rattle.mau_reduce.specs.ByTop.{order_for}
use Rattle.mau_reduce.specs.Giving.{IsGivenAt}
use Rattle.mau_reduce.specs.Lasts.{IsLast, IsLastListed}
use Rattle.mau_reduce.specs.Attempting.{untried_by, makes_of}
use Rattle.mau_machine.specs.declared.goal.Goal.{Goal}
use Rattle.mau_machine.specs.declared.goal.Goal.TheVariants.{Nothing, Equality, Sort as OfSort, Matching, Reaching}
use Rattle.mau_machine.specs.Words.{Rules, Words, Asks, rest_of, pattern_in}
use Rattle.mau_reducer.specs.declared.reducer.Candidates.{Candidates}
use Rattle.mau_reducer.specs.declared.at_once.Sorting.{Sorting}
use Rattle.mau_choices.specs.declared.choices.Choices.{Choices}
use Rattle.mau_settling.specs.Settlings.{IsSettling, DerivesCurrent}
use Rattle.mau_settling.specs.Settlings as Asking
use Rattle.mau_settling.specs.declared.settling.Settling.{Settling}
use Rattle.mau_choices.specs.Choosing.{left_of_choices, IsChoosing}
use Rattle.mau_reducer.specs.Basis.{Basis}

-- ---- conditions by their numbers

-- Those of equations have their numbers. Behind them stands one that is empty, which is that of what a built-in gives; then comes the one that is asked, and
-- then those of memberships.
abbrev pub written_in : List Written.Fragment → Option Equation → List Written.Fragment
written_in other (Some e) = e.cond
written_in other None = other

-- the membership whose condition has a number
abbrev pub membership_numbered : Typed.Program → ℕ → Option Membership
membership_numbered p e = if nat_lt (suc (length p.equations)) e then slice_get p.memberships (e - suc (suc (length p.equations))) else None

abbrev pub cond_of : Option Membership → List Written.Fragment
cond_of (Some m) = m.cond
cond_of None = []

-- the condition behind those of equations that has a number, as it is written
abbrev pub other_by : Typed.Program → List Written.Fragment → ℕ → List Written.Fragment
other_by p asked e = if e == suc (length p.equations) then asked else cond_of (membership_numbered p e)

-- the condition that has a number, as it is written
abbrev pub written_by : Typed.Program → List Written.Fragment → ℕ → List Written.Fragment
written_by p asked e = written_in (other_by p asked e) (slice_get p.equations e)

abbrev pub written_at : Basis → ℕ → List Written.Fragment
written_at b e = written_by b.program b.asked e

-- the variables that have values before it: those of the left side, or of the head
abbrev pub first_in : List Variable → Option Equation → List Variable
first_in other (Some e) = variables (tree_of e.left)
first_in other None = other

abbrev pub variables_of_head : Option Membership → List Variable
variables_of_head (Some m) = variables (tree_of m.left)
variables_of_head None = []

abbrev pub first_other : Basis → ℕ → List Variable
first_other b e = if e == suc (length b.program.equations) then b.asked_under else variables_of_head (membership_numbered b.program e)

abbrev pub first_at : Basis → ℕ → List Variable
first_at b e = first_in (first_other b e) (slice_get b.program.equations e)

-- the variables that are bound before its fragment with the number i, counted from 0: those that have values before it, and then those that are matched
abbrev pub bound_before : Basis → ℕ → ℕ → List Variable
bound_before b e i = fold bound_behind (first_at b e) (take i (written_at b e))

-- the variables bound before that fragment are all that it and those behind it may have, but for what they match
abbrev pub AreBoundFrom : Basis → ℕ → ℕ → Type 0
AreBoundFrom b e i = are_bound (bound_before b e i) (drop i (written_at b e)) ≡ true

-- what an evaluation goes by
abbrev pub rules_of : Basis → Rules
rules_of b = record {
  program = program_over b.program b.hooks;
  limit = b.limit;
  cond = λ e. map fragment_of (written_at b e);
  written = b.program;
  hooks = b.hooks;
  fragments = written_at b;
  is_cond = λ e. refl;
  is_theory = refl;
}

-- what a fragment asks, as it is written; nothing behind the last one
abbrev pub goal_in : Option Written.Fragment → Goal
goal_in None = Nothing
goal_in (Some (Equal t u)) = Equality
goal_in (Some (Match p u)) = Matching
goal_in (Some (Sort t s)) = OfSort
goal_in (Some (Reach t u)) = Reaching

-- the left or the right side of a fragment that is evaluated
abbrev pub side_written : Bool → Option Written.Fragment → Option Bare
side_written right None = None
side_written right (Some (Equal t u)) = Some (if right then u else t)
side_written right (Some (Match p u)) = Some u
side_written right (Some (Sort t s)) = Some t
side_written right (Some (Reach t u)) = None

-- what a fragment p := u matches
abbrev pub pattern_written : Option Written.Fragment → Option Bare
pattern_written None = None
pattern_written (Some (Equal t u)) = None
pattern_written (Some (Match p u)) = Some p
pattern_written (Some (Sort t s)) = None
pattern_written (Some (Reach t u)) = None

-- the sort for which a fragment t : s tests
abbrev pub sort_written : Option Written.Fragment → Option ℕ
sort_written None = None
sort_written (Some (Equal t u)) = None
sort_written (Some (Match p u)) = None
sort_written (Some (Sort t s)) = Some s
sort_written (Some (Reach t u)) = None

-- ---- known handles

abbrev pub as_id : ℕ → TermId
as_id i = record { 0 = i }

-- a term over a lawful signature
pub record IsKnownTerm (s : SignatureOf) (nodes : List Node) (i : ℕ) : Type 0 where
  pub lawful : IsLawful (terms_over s)
  pub term : IsTerm s nodes i

-- its sorts are settled, with those of all below it and those of the identities
pub record IsKnownValue (s : SignatureOf) (nodes : List Node) (table : Table) (i : ℕ) : Type 0 where
  pub known : IsKnownTerm s nodes i
  pub settled : AreSettled s nodes table (tree_at nodes i)

-- the operator f may be built over them
pub record AreKnownOperands (s : SignatureOf) (nodes : List Node) (f : ℕ) (ids : List TermId) : Type 0 where
  pub lawful : IsLawful (terms_over s)
  pub under : AreUnder s nodes f (numbers ids)

-- the values are those of all variables that are bound before the fragment i of the condition e, and have their kinds and their sorts; and the fragments
-- from there on have no others
pub record IsKnownBinding (b : Basis) (nodes : List Node) (table : Table) (e i : ℕ) (σ : Binding) : Type 0 where
  pub values : AreValues b.program.sig nodes σ
  pub variables : map variable_of σ.variables.items ≡ bound_before b e i
  pub sorts : HaveSorts (HasEntry b.program.sig nodes table) (map variable_of σ.variables.items) (trees_at nodes (numbers σ.values.items))
  pub bound : AreBoundFrom b e i

-- the sorts of the term t are being settled
pub record IsKnownSettling (b : Basis) (nodes : List Node) (table : Table) (t : ℕ) (d : Settling) : Type 0 where
  pub own : d.term.0 ≡ t
  pub settling : IsSettling b.program nodes table d
  pub derives : DerivesCurrent b.program b.hooks b.limit nodes d

-- and the condition e has to be solved next, that of a membership, where σ has the values of its variables
pub record IsKnownAsking (b : Basis) (nodes : List Node) (table : Table) (t e : ℕ) (σ : Bound) (d : Settling) : Type 0 where
  pub known : IsKnownSettling b nodes table t d
  pub place : ℕ
  pub question : List (VarId × TermId)
  pub asks : Asking.Asks d place question
  pub membership : Membership
  pub there : slice_get b.program.memberships place ≡ Some membership
  pub number : e ≡ suc (suc (length b.program.equations)) + place
  pub values : σ ≡ binding_in nodes question

-- ---- how sorts are settled

abbrev pub way_of : Sorting → Option Settling
way_of d = option_map (λ x. x.value) d.way

-- the sorts of the term t are settled, or are being settled
abbrev pub IsKnownWay : Basis → List Node → Table → ℕ → Option Settling → Type 0
IsKnownWay b nodes table t None = IsKnownValue b.program.sig nodes table t
IsKnownWay b nodes table t (Some d) = IsKnownSettling b nodes table t d

-- they are being settled, and the condition e has to be solved next
abbrev pub IsAskingWay : Basis → List Node → Table → ℕ → ℕ → Bound → Option Settling → Type 0
IsAskingWay b nodes table t e σ None = ⊥
IsAskingWay b nodes table t e σ (Some d) = IsKnownAsking b nodes table t e σ d

-- c says whether the listings of equations have contexts; those of fragments have none
module _ {L M : Type 0} (c : Bool) (asked : L → Asked) (given : L → Option Solution) (is_for : L → SignatureOf → Type 0)
    (asked_whole : M → Asked) (given_whole : M → Option Solution) (is_for_whole : M → SignatureOf → Type 0) (b : Basis) (nodes : List Node) (table : Table) where
  -- what the built-in gives is as it says, and the listing with which they go on is one for their term, and can go on
  pub record AreKnownCandidates (t : ℕ) (a : Candidates L) : Type 0 where
    pub own : a.term.0 ≡ t
    pub term : IsTerm b.program.sig nodes t
    pub tried : IfSome a.attempts.value.tried (λ x. IsTried c b.program nodes table (as_id t) x.number (asked x.listing) (given x.listing) (is_for x.listing b.program.sig))
    pub given_at : IsGivenAt b.program.sig b.hooks nodes (tree_at nodes t) a.attempts.value.given

  -- the last one is a candidate of the term t, and has the condition e
  pub record IsKnownCandidate (t e : ℕ) (a : Candidates L) : Type 0 where
    pub own : a.term.0 ≡ t
    pub term : IsTerm b.program.sig nodes t
    pub reducible : IsReducible b.program
    pub given_at : IsGivenAt b.program.sig b.hooks nodes (tree_at nodes t) a.attempts.value.given
    pub last : IsLast b.program nodes (tree_at nodes t) e a.attempts.value.given a.attempts.value.last
    pub listed : IsLastListed b.program nodes table (as_id t) e a.attempts.value.given a.attempts.value.last

  -- the fragment i of the condition e is p := u, and the solutions are those of p, where the variables that are bound before it have values
  pub record AreKnownChoices (e i : ℕ) (x : Choices M) : Type 0 where
    pub asks : Asks (rules_of b) e i Matching
    pub choosing : IsChoosing b.program.sig nodes table (pattern_in (rest_of (rules_of b) e i)) x.binding x.value (asked_whole x.listing) (given_whole x.listing)
        (is_for_whole x.listing b.program.sig)
    pub variables : map (λ y. variable_of y.0) x.binding ≡ bound_before b e i
    pub bound : AreBoundFrom b e i

  abbrev pub words_of : Words (Candidates L) (Choices M) Binding Sorting
  words_of = record {
    rules = rules_of b;
    tree = tree_at nodes;
    knows_term = IsKnownTerm b.program.sig nodes;
    knows_value = IsKnownValue b.program.sig nodes table;
    knows_operands = AreKnownOperands b.program.sig nodes;
    bound = bound_in nodes;
    knows_binding = IsKnownBinding b nodes table;
    knows_last = λ σ. StandWithin (theory_at b.program.sig) nodes (numbers σ.values.items);
    knows_settling = λ t d. IsKnownWay b nodes table t (way_of d);
    knows_asking = λ t e σ d. IsAskingWay b nodes table t e σ (way_of d);
    untried = λ a k. untried_by (program_over b.program b.hooks) b.limit k nodes (tree_at nodes a.term.0) a.attempts.value.given
        (option_map (λ x. (x.number, given x.listing)) a.attempts.value.tried) (drop a.attempts.value.next (order_for b.program (tree_at nodes a.term.0)));
    knows_attempts = AreKnownCandidates;
    makes = λ a. makes_of (program_over b.program b.hooks) nodes (tree_at nodes a.term.0) a.attempts.value.given a.attempts.value.last;
    knows_candidate = IsKnownCandidate;
    unchosen = λ x k e i. left_of_choices (program_over b.program b.hooks) (levels (program_over b.program b.hooks) b.limit k) (pattern_in (rest_of (rules_of b) e i))
        (rest_of (rules_of b) e (suc i)) (binding_in nodes x.binding) (tree_at nodes x.value.0) (option_map (solution_in nodes) (given_whole x.listing));
    knows_choices = AreKnownChoices;
    chosen_from = λ x. binding_in nodes x.binding;
    chosen_value = λ x. tree_at nodes x.value.0;
  }
