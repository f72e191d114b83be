-- What may be answered where a term is evaluated: a value with the sort that is shown for it and a count, or an end.
use Rattle.std.specs.Prelude.{◌≡◌, ℕ, ◌-◌, ◌^◌, ◌≤◌, min, List, Bool, true, false}
use Rattle.mau_terms.specs.Tree.{Tree}
use Rattle.mau_terms.specs.Finite.{IsIn}
use Rattle.mau_poset.specs.Order.{Hierarchy}
use Rattle.mau_sorts.specs.SortSets.{IsMinimalSort}
use Rattle.mau_evaluation.specs.Run.{End, stopped, too_deep, overflowed, Run, done, ended}
use Rattle.mau_evaluation.specs.Program.{Membership}
use Rattle.mau_evaluation.specs.Evaluation.{has_number}
use Rattle.mau_evaluation.specs.Irreducible.{IsUnconditional}
use Rattle.mau_evaluation.specs.Kept.{Spends}
use Rattle.mau_evaluation.specs.Laws.{Comes}
use Rattle.mau_api.specs.Meanings.{Meanings, program_of}

-- ---- the sort that is shown, where P says which sorts a term has

-- the first one, in module order, of the minimal sorts; a least sort is the only one
pub record IsFirstMinimal (h : Hierarchy) (P : ℕ → Type 0) (s : ℕ) : Type 0 where
  pub minimal : IsMinimalSort h P s
  pub first : (q : ℕ) → IsMinimalSort h P q → s ≤ q

-- the term has the kind s, and no sort
pub record IsKindAlone (h : Hierarchy) (P : ℕ → Type 0) (s : ℕ) : Type 0 where
  pub kind : h.sorts ≤ s
  pub holds : P s
  pub alone : (q : ℕ) → P q → q ≡ s

pub data IsShownSort (h : Hierarchy) (P : ℕ → Type 0) (s : ℕ) : Type 0 where
  shows_sort : IsFirstMinimal h P s → IsShownSort h P s
  shows_kind : IsKindAlone h P s → IsShownSort h P s

-- the sorts of v are known for some limits, and then for all larger ones; by them it is shown with the sort or kind s
pub record HasShownSort (m : Meanings) (v : Tree) (s : ℕ) : Type 0 where
  pub sorts : List ℕ
  pub known : Comes (λ k B. m.sorting k B v) sorts 0
  pub shown : IsShownSort m.program.sig.hierarchy (λ r. has_number sorts r ≡ true) s

-- ---- limits

-- an item is evaluated on so many levels
abbrev pub item_levels : ℕ
item_levels = 2000

-- a condition that an item asks is evaluated on so many
abbrev pub condition_levels : ℕ
condition_levels = 1999

-- what is shown of a count
abbrev pub shown_count : ℕ → ℕ
shown_count r = min r (2 ^ 64 - 1)

-- the program has no executable membership
abbrev pub DerivesNothing : Meanings → Type 0
DerivesNothing m = (x : Membership) → IsIn x (program_of m).memberships → x.exec ≡ true → ⊥

-- ---- answers

-- a value with its shown sort and a count, or an end
pub data AnswerOf : Type 0 where
  gives_value : (v : Tree) (sort count : ℕ) → AnswerOf
  ends_by : End → AnswerOf

-- the answer for a term by the definitions, under so many levels k, with the budget B of each condition of a membership and the budget b
pub data PlainAnswer (m : Meanings) (t : Tree) (k B b : ℕ) : AnswerOf → Type 0 where
  plain_value : (v : Tree) (s r left : ℕ) → m.evaluation k B t b ≡ done v r left → HasShownSort m v s → PlainAnswer m t k B b (gives_value v s (shown_count r))
  plain_end : (e : End) → m.evaluation k B t b ≡ ended e → PlainAnswer m t k B b (ends_by e)

-- ---- allowed answers

-- f is an evaluation under so many levels, a budget of each condition of a membership, and a budget. It ends so, for an item with this budget: Stopped for
-- just the budget, Too deep for just the levels of an item, and Overflow for limits that are no smaller
abbrev pub HasCause : (ℕ → ℕ → Run Tree) → ℕ → End → Type 0
HasCause f budget stopped = (k : ℕ) × (f k budget budget ≡ ended stopped)
HasCause f budget too_deep = (B c : ℕ) × (f item_levels B c ≡ ended too_deep)
HasCause f budget overflowed = (k B c : ℕ) × (item_levels ≤ k) × (budget ≤ B) × (budget ≤ c) × (f k B c ≡ ended overflowed)

-- A value is the plain answer under some limits that are no smaller than the item's, and an end has its cause. Where results are remembered and no
-- executable statement has a condition, Stopped comes only where even so too much must be spent.
abbrev pub IsCaused : Meanings → Bool → Tree → AnswerOf → Type 0
IsCaused m remembered t (gives_value v s r) =
    (k B b : ℕ) × (item_levels ≤ k) × (m.limit ≤ B) × (m.limit ≤ b) × PlainAnswer m t k B b (gives_value v s r)
IsCaused m remembered t (ends_by e) =
    HasCause (λ k B. m.evaluation k B t) m.limit e
    × (e ≡ stopped → remembered ≡ true → IsUnconditional (program_of m) → Spends (program_of m) t m.limit)

-- what may be answered for a term with the item's budget, where it is said whether results are remembered
pub record MayAnswer (m : Meanings) (remembered : Bool) (t : Tree) (a : AnswerOf) : Type 0 where
  pub caused : IsCaused m remembered t a
  -- where the plain answer under the item's own limits is a value, it is the answer
  pub just : (v : Tree) (s r : ℕ) → PlainAnswer m t item_levels m.limit m.limit (gives_value v s r) → a ≡ gives_value v s r
  -- where nothing is remembered, it is the plain answer for just the item's budget, and for its levels or, where sorts were derived before, for more
  pub exact : remembered ≡ false → (k : ℕ) × (item_levels ≤ k) × (DerivesNothing m → k ≡ item_levels) × PlainAnswer m t k m.limit m.limit a
