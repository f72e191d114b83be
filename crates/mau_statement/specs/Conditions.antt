-- What the fragments of a condition read as.
use Rattle.std.specs.Prelude.{◌≡◌, ℕ, List, [], ◌∷◌, ◌++◌, take, slice_get, Some, None}
use Rattle.mau_terms.specs.Bare.{IsBareIn}
use Rattle.mau_terms.specs.declared.ids.OpId.{OpId}
use Rattle.mau_terms.specs.declared.bare.Bare.{Bare}
use Rattle.mau_terms.specs.declared.bare.Bare.TheVariants.{App}
use Rattle.mau_modtext.specs.Word.{Word}
use Rattle.mau_modtext.specs.declared.raw.RawFragment.{RawFragment}
use Rattle.mau_modtext.specs.declared.raw.FragmentKind.TheVariants as Sign
use Rattle.mau_program.specs.declared.statements.Fragment.{Fragment}
use Rattle.mau_program.specs.declared.statements.Fragment.TheVariants.{Equal, Match, Sort, Reach}
use Rattle.mau_parse.specs.declared.goals.Goal.TheVariants.{AnyKind, Kind}
use Rattle.mau_parse.specs.declared.fault.ParseFault.TheVariants.{NoParse}
use Rattle.mau_statement.specs.Context.{ContextOf, terms_in, constant}
use Rattle.mau_statement.specs.Parts.{Pairs, TermReads, PartUnread, PairReads, PairUnread, begin_of, sort_named}
use Rattle.mau_statement.specs.declared.fault.StatementFault.{StatementFault}
use Rattle.mau_statement.specs.declared.fault.StatementFault.TheVariants.{Parse, UnknownSort}

-- ---- one fragment, where the variables before it are ns

-- what it reads as, with the variables behind it: in t = u and t => u the term t comes first, and in p := u the term u; the other
-- one has its kind. In t : s the term is of any kind. A term by itself is of the kind of `true`, and stands for t = true.
pub data FragmentReads (ws : List Word) (c : ContextOf) (raw : RawFragment) (ns os : Pairs) : Fragment → Type 0 where
  equal_reads : (t u : Bare) → raw.kind ≡ Sign.Equal → PairReads ws c raw.left raw.right ns os t u → FragmentReads ws c raw ns os (Equal t u)
  match_reads : (p u : Bare) → raw.kind ≡ Sign.Match → PairReads ws c raw.right raw.left ns os u p → FragmentReads ws c raw ns os (Match p u)
  reach_reads : (t u : Bare) → raw.kind ≡ Sign.Reach → PairReads ws c raw.left raw.right ns os t u → FragmentReads ws c raw ns os (Reach t u)
  sort_reads : (t : Bare) (sort : ℕ) → raw.kind ≡ Sign.Sort → TermReads ws c.grammar raw.left AnyKind ns os t
      → sort_named ws c.sorts raw.right ≡ Some sort → FragmentReads ws c raw ns os (Sort t sort)
  truth_reads : (t : Bare) (truth : OpId) (kind : ℕ) → raw.kind ≡ Sign.Bool → c.truth ≡ Some truth → IsBareIn (terms_in c) (constant truth) kind
      → TermReads ws c.grammar raw.left (Kind kind) ns os t → FragmentReads ws c raw ns os (Equal t (App truth []))

-- why it reads as nothing
pub data FragmentUnread (ws : List Word) (c : ContextOf) (raw : RawFragment) (ns : Pairs) : StatementFault → Type 0 where
  equal_unread : (f : StatementFault) → raw.kind ≡ Sign.Equal → PairUnread ws c raw.left raw.right ns f → FragmentUnread ws c raw ns f
  match_unread : (f : StatementFault) → raw.kind ≡ Sign.Match → PairUnread ws c raw.right raw.left ns f → FragmentUnread ws c raw ns f
  reach_unread : (f : StatementFault) → raw.kind ≡ Sign.Reach → PairUnread ws c raw.left raw.right ns f → FragmentUnread ws c raw ns f
  tested_unread : (f : StatementFault) → raw.kind ≡ Sign.Sort → PartUnread ws c.grammar raw.left AnyKind ns f → FragmentUnread ws c raw ns f
  -- the sort is none
  no_sort : (t : Bare) (os : Pairs) → raw.kind ≡ Sign.Sort → TermReads ws c.grammar raw.left AnyKind ns os t
      → sort_named ws c.sorts raw.right ≡ None → FragmentUnread ws c raw ns (UnknownSort (begin_of ws raw.right))
  truth_unread : (f : StatementFault) (truth : OpId) (kind : ℕ) → raw.kind ≡ Sign.Bool → c.truth ≡ Some truth
      → IsBareIn (terms_in c) (constant truth) kind → PartUnread ws c.grammar raw.left (Kind kind) ns f → FragmentUnread ws c raw ns f
  -- there are no truth values
  no_truth : raw.kind ≡ Sign.Bool → c.truth ≡ None → FragmentUnread ws c raw ns (Parse (NoParse (begin_of ws raw.left)))

-- ---- a condition, where the variables before it are ns

-- its fragments in order, and the variables behind them: none read as none, and one more is read behind the others
pub data ConditionReads (ws : List Word) (c : ContextOf) (ns : Pairs) : List RawFragment → Pairs → List Fragment → Type 0 where
  none_read : ConditionReads ws c ns [] ns []
  one_more_reads : (raws : List RawFragment) (middle : Pairs) (read : List Fragment) (raw : RawFragment) (os : Pairs) (x : Fragment)
      → ConditionReads ws c ns raws middle read → FragmentReads ws c raw middle os x
      → ConditionReads ws c ns (raws ++ raw ∷ []) os (read ++ x ∷ [])

-- why they read as nothing: the first i do, and the next one doesn't
pub record ConditionUnread (ws : List Word) (c : ContextOf) (ns : Pairs) (raws : List RawFragment) (f : StatementFault) : Type 0 where
  pub i : ℕ
  pub raw : RawFragment
  pub there : slice_get raws i ≡ Some raw
  pub middle : Pairs
  pub before : List Fragment
  pub reads : ConditionReads ws c ns (take i raws) middle before
  pub unread : FragmentUnread ws c raw middle f
