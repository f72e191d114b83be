-- The sorts that statements name: that of a membership, and those in a condition; and those that declarations of strategies name.
use Rattle.std.specs.Prelude.{ℕ, List, [], ◌∷◌, Option, Some, None, is_some, if◌then◌else◌}
use Rattle.std.specs.Option.{option_or}
use Rattle.mau_tokens.specs.declared.token.Token.{Token}
use Rattle.mau_modtext.specs.Word.{Word}
use Rattle.mau_modtext.specs.declared.raw.StatementKind.{StatementKind}
use Rattle.mau_modtext.specs.declared.raw.StatementKind.TheVariants.{Membership}
use Rattle.mau_modtext.specs.declared.raw.FragmentKind.{FragmentKind}
use Rattle.mau_modtext.specs.declared.raw.FragmentKind.TheVariants.{Sort}
use Rattle.mau_modtext.specs.declared.raw.RawFragment.{RawFragment}
use Rattle.mau_modtext.specs.declared.raw.RawStatement.{RawStatement}
use Rattle.mau_modtext.specs.declared.raw.RawStrats.{RawStrats}
use Rattle.mau_declare.specs.Words.{token_text}
use Rattle.mau_declare.specs.Names.{number_of}

-- a side that is to be a sort is one token that names one. Where it is none, its first token is at fault; the place of that.
abbrev pub unknown_sort : List Word → List (List ℕ) → List Token → Option ℕ
unknown_sort ws sorts [] = Some 0
unknown_sort ws sorts (t ∷ []) = if is_some (number_of sorts (token_text ws t)) then None else Some t.start
unknown_sort ws sorts (t ∷ u ∷ ts) = Some t.start

-- the place in a fragment: the right side of `t : s` is a sort
abbrev pub unknown_in_kind : FragmentKind → List Word → List (List ℕ) → List Token → Option ℕ
unknown_in_kind Sort ws sorts right = unknown_sort ws sorts right
unknown_in_kind _ ws sorts right = None

-- the first place in the fragments of a condition
abbrev pub unknown_in_condition : List Word → List (List ℕ) → List RawFragment → Option ℕ
unknown_in_condition ws sorts [] = None
unknown_in_condition ws sorts (f ∷ fs) = option_or (unknown_in_kind f.kind ws sorts f.right) (unknown_in_condition ws sorts fs)

-- the place in the head of a statement: the right side of a membership is a sort
abbrev pub unknown_in_head : StatementKind → List Word → List (List ℕ) → List Token → Option ℕ
unknown_in_head Membership ws sorts right = unknown_sort ws sorts right
unknown_in_head _ ws sorts right = None

-- the first place in a statement
abbrev pub unknown_in_statement : List Word → List (List ℕ) → RawStatement → Option ℕ
unknown_in_statement ws sorts s = option_or (unknown_in_head s.kind ws sorts s.right) (unknown_in_condition ws sorts s.cond)

-- the first place in some sorts, and in a declaration of strategies: the sorts of their arguments, and that of the terms that they are for
abbrev pub unknown_in_sorts : List Word → List (List ℕ) → List (List Token) → Option ℕ
unknown_in_sorts ws sorts [] = None
unknown_in_sorts ws sorts (ts ∷ more) = option_or (unknown_sort ws sorts ts) (unknown_in_sorts ws sorts more)

abbrev pub unknown_in_strats : List Word → List (List ℕ) → RawStrats → Option ℕ
unknown_in_strats ws sorts s = option_or (unknown_in_sorts ws sorts s.args) (unknown_sort ws sorts s.sort)
