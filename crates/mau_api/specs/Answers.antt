-- What the answers of an evaluator say.
use Rattle.std.specs.Prelude.{◌≡◌, ◌⊎◌, ◌↔◌, ℕ, ◌≤◌, List, [], ◌∷◌, map, All, Bool, true, false, ◌&&◌, not, Option, Some, None, Result, Ok, Err}
use Rattle.mau_terms.specs.Tree.{Tree}
use Rattle.mau_terms.specs.Norm.{unit_tree}
use Rattle.mau_terms.specs.Finite as Finite
use Rattle.mau_terms.specs.Subst.{Variable, has_variable}
use Rattle.mau_terms.specs.Bare.{IsBareIn, IsBare}
use Rattle.mau_terms.specs.Reading.{reading}
use Rattle.mau_terms.specs.View.{tree_of, variable_of}
use Rattle.mau_terms.specs.declared.ids.VarId.{VarId}
use Rattle.mau_terms.specs.declared.ids.TermId.{TermId}
use Rattle.mau_terms.specs.declared.theory.Identity.{Identity}
use Rattle.mau_signature.specs.Faults.{IsSort}
use Rattle.mau_signature.specs.Signature.{SignatureOf, theory_at, terms_over}
use Rattle.mau_store.specs.Node.{Node}
use Rattle.mau_store.specs.Trees.{tree_at}
use Rattle.mau_sorts.specs.SortSets.{SortsOf, IsIn}
use Rattle.mau_sorts.specs.HasSort.{Known}
use Rattle.mau_sorts.specs.Table.{Table, entry_at, AreOver}
use Rattle.mau_listing.specs.Asked.{HasEntry, IsTreeSettled, IsTableOf, IsClosedTable, IsBelow}
use Rattle.mau_program.specs.declared.statements.Fragment as Written
use Rattle.mau_program.specs.declared.statements.Fragment.TheVariants.{Equal, Match, Sort, Reach}
use Rattle.mau_program.specs.Binding.{are_bound}
use Rattle.mau_evaluation.specs.Run.{Outcome, done, ended, Run, stopped, too_deep, overflowed}
use Rattle.mau_evaluation.specs.Program.{Fragment, Membership}
use Rattle.mau_evaluation.specs.Evaluation.{Binding, has_number}
use Rattle.mau_evaluation.specs.Irreducible.{IsUnconditional}
use Rattle.mau_evaluation.specs.Kept.{Spends}
use Rattle.mau_api.specs.Terms.{IsTerm, IsNormalBare}
use Rattle.mau_api.specs.Told.{shown_count}
use Rattle.mau_api.specs.Meanings.{Meanings, program_of}
use Rattle.mau_api.specs.declared.results.Reduced.{Reduced}
use Rattle.mau_api.specs.declared.results.EvalEnd.{EvalEnd}
use Rattle.mau_api.specs.declared.results.EvalEnd.TheVariants.{Stopped, TooDeep, Overflow, NoMemory}

-- ---- limits and counts

-- the levels of an item, and those of a condition that an item asks
abbrev pub levels_of_item : ℕ
levels_of_item = 2000

abbrev pub levels_of_condition : ℕ
levels_of_condition = 1999

-- whether remembered results are used: where steps are wanted they are not
abbrev pub uses_results : Meanings → Bool → Bool
uses_results m wanted = m.remembers && not wanted

-- the program has no executable membership
abbrev pub DerivesNothing : Meanings → Type 0
DerivesNothing m = (x : Membership) → Finite.IsIn x (program_of m).memberships → x.exec ≡ true → ⊥

-- ---- the causes of ends

-- f is what is computed under so many levels, a budget of each condition of a membership, and a budget. An end comes only where f ends so: Stopped
-- for just the budgets given, Too deep for just the levels, and Overflow for all larger limits
abbrev pub HasCause : {A : Type 0} → (ℕ → ℕ → Run A) → ℕ → ℕ → ℕ → EvalEnd → Type 0
HasCause f levels each b Stopped = (k : ℕ) × (f k each b ≡ ended stopped)
HasCause f levels each b TooDeep = (B c : ℕ) × (f levels B c ≡ ended too_deep)
HasCause f levels each b Overflow = (k B c : ℕ) × (levels ≤ k) × (each ≤ B) × (b ≤ c) × (f k B c ≡ ended overflowed)
HasCause f levels each b NoMemory = Unit {0}

-- f gives x with the count r, for larger limits
abbrev pub GivesUnder : {A : Type 0} → (ℕ → ℕ → Run A) → ℕ → ℕ → ℕ → A → ℕ → Type 0
GivesUnder f levels each b x r = (k B c left : ℕ) × (levels ≤ k) × (each ≤ B) × (b ≤ c) × (f k B c ≡ done x r left)

-- what f leaves, where it gives something, is at most what is left
abbrev pub LeavesEnough : {A : Type 0} → Outcome A → ℕ → Type 0
LeavesEnough {A = A} o after = (x : A) (r left : ℕ) → o ≡ done x r left → left ≤ after

-- ---- evaluation

-- the outcome is this answer, its term by the nodes of a store, with so much left of the budget; want of memory says nothing
abbrev pub IsAnswered : Outcome Tree → List Node → Result Reduced EvalEnd → ℕ → Type 0
IsAnswered o nodes (Ok x) b = (r : ℕ) × (o ≡ done (tree_at nodes x.term.0) r b) × (x.rewrites ≡ shown_count r)
IsAnswered o nodes (Err Stopped) b = o ≡ ended stopped
IsAnswered o nodes (Err TooDeep) b = o ≡ ended too_deep
IsAnswered o nodes (Err Overflow) b = o ≡ ended overflowed
IsAnswered o nodes (Err NoMemory) b = Unit {0}

-- the answer is that for just the budget given, and for the levels of an item or, where sorts were derived before, for more
pub record IsExact (m : Meanings) (t : Tree) (before : ℕ) (nodes : List Node) (answer : Result Reduced EvalEnd) (after : ℕ) : Type 0 where
  pub levels : ℕ
  pub enough : levels_of_item ≤ levels
  pub just : DerivesNothing m → levels ≡ levels_of_item
  pub is : IsAnswered (m.evaluation levels m.limit t before) nodes answer after

-- results may be remembered: a value is that for larger limits, and an end has its cause. Where remembered results are used and no executable statement
-- has a condition, Stopped comes only where even so too much must be spent
abbrev pub IsAllowed : Meanings → Bool → Tree → ℕ → List Node → Result Reduced EvalEnd → Type 0
IsAllowed m remembered t b nodes (Ok x) =
    (r : ℕ) × GivesUnder (λ k B. m.evaluation k B t) levels_of_item m.limit b (tree_at nodes x.term.0) r × (x.rewrites ≡ shown_count r)
IsAllowed m remembered t b nodes (Err Stopped) =
    HasCause (λ k B. m.evaluation k B t) levels_of_item m.limit b Stopped × (remembered ≡ true → IsUnconditional (program_of m) → Spends (program_of m) t b)
IsAllowed m remembered t b nodes (Err e) = HasCause (λ k B. m.evaluation k B t) levels_of_item m.limit b e

-- ---- conditions

-- variables with values, as terms
abbrev pub binding_in : List Node → List (VarId × TermId) → Binding
binding_in nodes bound = map {B = Variable × Tree} (λ b. (variable_of b.0, tree_at nodes b.1.0)) bound

-- no fragment is solved by rules, all terms are bare, and what is tested is a sort or a kind
abbrev pub IsFragment : SignatureOf → Written.Fragment → Type 0
IsFragment s (Equal t u) = IsBare (terms_over s) (tree_of t) × IsBare (terms_over s) (tree_of u)
IsFragment s (Match p u) = IsBare (terms_over s) (tree_of p) × IsBare (terms_over s) (tree_of u)
IsFragment s (Sort t r) = IsBare (terms_over s) (tree_of t) × IsSort s.hierarchy r
IsFragment s (Reach t u) = ⊥

-- no variable stands twice
abbrev pub AreApart : List Variable → Type 0
AreApart [] = Unit {0}
AreApart (x ∷ xs) = (has_variable xs x ≡ false) × AreApart xs

-- a condition may be asked where these variables have values: none of them stands twice, and its fragments have no others than these and
-- those that are matched before
pub record IsAskable (s : SignatureOf) (xs : List Variable) (cond : List Written.Fragment) : Type 0 where
  pub fragments : All (IsFragment s) cond
  pub bound : are_bound xs cond ≡ true
  pub apart : AreApart xs

-- a value of a variable: a term of its kind, which by its entry has its sort
pub record IsValueOf (s : SignatureOf) (nodes : List Node) (table : Table) (b : VarId × TermId) : Type 0 where
  pub term : IsTerm s nodes b.1.0
  pub kind : IsBareIn (terms_over s) (reading (theory_at s) (tree_at nodes b.1.0)) ((terms_over s).kind_of (variable_of b.0).1)
  pub sort : HasEntry s nodes table (variable_of b.0).1 (tree_at nodes b.1.0)

-- some solution of a condition: the first one, or one behind such a solution, for some limits
pub data IsSolutionOf (m : Meanings) (c : List Fragment) (σ : Binding) : Binding → Type 0 where
  first_one : (x : Binding) (k B b r left : ℕ) → m.solving k B c σ b ≡ done (Some x) r left → IsSolutionOf m c σ x
  one_behind : (last x : Binding) (k B b r left : ℕ) → IsSolutionOf m c σ last → m.solving_after k B last c σ b ≡ done (Some x) r left → IsSolutionOf m c σ x

-- the first solution, or the first one behind the last one
abbrev pub solving_from : Meanings → Option Binding → List Fragment → Binding → ℕ → ℕ → Run (Option Binding)
solving_from m None c σ k B = m.solving k B c σ
solving_from m (Some last) c σ k B = m.solving_after k B last c σ

abbrev pub IsSolved : Outcome (Option Binding) → List Node → Result (Option (List (VarId × TermId) × ℕ)) EvalEnd → ℕ → Type 0
IsSolved o nodes (Ok (Some x)) b = (r : ℕ) × (o ≡ done (Some (binding_in nodes x.0)) r b) × (x.1 ≡ shown_count r)
IsSolved o nodes (Ok None) b = (r : ℕ) × (o ≡ done None r b)
IsSolved o nodes (Err Stopped) b = o ≡ ended stopped
IsSolved o nodes (Err TooDeep) b = o ≡ ended too_deep
IsSolved o nodes (Err Overflow) b = o ≡ ended overflowed
IsSolved o nodes (Err NoMemory) b = Unit {0}

-- f is what solving gives; the answer is that for just the budget given, and for the levels of a condition or, where sorts were derived before, for more
pub record IsSolvedExactly (m : Meanings) (f : ℕ → ℕ → Run (Option Binding)) (before : ℕ) (nodes : List Node) (answer : Result (Option (List (VarId × TermId) × ℕ)) EvalEnd) (after : ℕ) : Type 0 where
  pub levels : ℕ
  pub enough : levels_of_condition ≤ levels
  pub just : DerivesNothing m → levels ≡ levels_of_condition
  pub is : IsSolved (f levels m.limit before) nodes answer after

-- results may be remembered
abbrev pub MaySolve : Meanings → (ℕ → ℕ → Run (Option Binding)) → ℕ → List Node → Result (Option (List (VarId × TermId) × ℕ)) EvalEnd → Type 0
MaySolve m f b nodes (Ok (Some x)) = (r : ℕ) × GivesUnder f levels_of_condition m.limit b (Some (binding_in nodes x.0)) r × (x.1 ≡ shown_count r)
MaySolve m f b nodes (Ok None) = (r : ℕ) × GivesUnder f levels_of_condition m.limit b None r
MaySolve m f b nodes (Err e) = HasCause f levels_of_condition m.limit b e

-- ---- sorts

-- an entry has just the sorts that are derived for its term, with the budget of an item for each condition, by some number of levels
pub record IsEntryOf (m : Meanings) (t : Tree) (e : SortsOf) : Type 0 where
  pub levels : ℕ
  pub sorts : List ℕ
  pub known : (b : ℕ) → m.sorting levels m.limit t b ≡ done sorts 0 b
  pub exact : (r : ℕ) → IsIn m.program.sig.hierarchy e r ↔ (has_number sorts r ≡ true)

-- what an evaluator's table of sorts is over the nodes of a store
pub record IsDerivedTable (m : Meanings) (nodes : List Node) (table : Table) : Type 0 where
  -- the entry of a normal form of a bare term has its derived sorts
  pub entries : (i : ℕ) (e : SortsOf) → entry_at table i ≡ Some e → IsNormalBare m.program.sig (tree_at nodes i) → IsEntryOf m (tree_at nodes i) e
  -- they follow by declarations from what is known besides
  pub known : Known
  pub declared : IsTableOf m.program.sig known nodes table
  pub over : AreOver m.program.sig.hierarchy table
  -- the arguments of a settled term are settled
  pub closed : IsClosedTable nodes table

-- t, all that is below it, and the identities are settled
pub record AreSettled (s : SignatureOf) (nodes : List Node) (table : Table) (t : Tree) : Type 0 where
  pub identities : (f : ℕ) (i : Identity) → (theory_at s f).id ≡ Some i → IsTreeSettled nodes table (unit_tree i)
  pub below : (u : Tree) → IsBelow u t → IsTreeSettled nodes table u
  pub itself : IsTreeSettled nodes table t

-- u is t or an identity
abbrev pub IsOneToSettle : Meanings → Tree → Tree → Type 0
IsOneToSettle m t u = (u ≡ t) ⊎ Finite.IsIn u (program_of m).units

-- settling ends only where the sorts of the term or of an identity end so, whatever the budget
abbrev pub MayEnd : Meanings → Tree → EvalEnd → Type 0
MayEnd m t e = (u : Tree) × IsOneToSettle m t u × HasCause (λ k B. m.sorting k B u) levels_of_item m.limit 0 e

-- ---- results by their parts

abbrev pub mapped : {A B E : Type 0} → (A → B) → Result A E → Result B E
mapped f (Ok x) = Ok (f x)
mapped f (Err e) = Err e
