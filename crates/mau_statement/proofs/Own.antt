-- The variables of what is read are those that were given.
use Rattle.std.proofs.Common.{◌≡◌, ℕ, List, [], ◌∷◌, ◌++◌, get_or, slice_get, if◌then◌else◌, All, Some, sym, ◌∙◌, ap, subst}
use Rattle.std.proofs.lemmas.List.Elements.{All-nil, All-push}
use Rattle.std.proofs.lemmas.Option.{get_or_from_slice_get}
use Rattle.mau_terms.specs.Tree.{Tree, variable, numeral, apply, Trees, no_trees, tree}
use Rattle.mau_terms.specs.Vars.{place_of, with_pair}
use Rattle.mau_terms.specs.View.{tree_of}
use Rattle.mau_terms.specs.declared.bare.Bare.{Bare}
use Rattle.mau_terms.proofs.Pairs.{pairs_keep_places}
use Rattle.mau_grammar.specs.Grammar.{GrammarOf}
use Rattle.mau_grammar.specs.Leaves.{pairs_of}
use Rattle.mau_parse.specs.declared.goals.Goal.{Goal}
use Rattle.mau_parse.specs.Goal.{lowest, highest}
use Rattle.mau_parse.specs.Parsed.{IsParsed}
use Rattle.mau_parse.specs.Terms.{pair_at, pairs_in, all_pairs, added, renamed, all_renamed, AreGiven, AllGiven}
use Rattle.mau_parse.proofs.Renamed.{IsIn, in_with, in_added}
use Rattle.mau_parse.proofs.TreesGiven.{tree_given}
use Rattle.mau_modtext.specs.Word.{Word}
use Rattle.mau_tokens.specs.declared.token.Token.{Token}
use Rattle.mau_modtext.specs.declared.raw.RawFragment.{RawFragment}
use Rattle.mau_modtext.specs.declared.raw.RawStatement.{RawStatement}
use Rattle.mau_program.specs.declared.statements.Fragment.{Fragment}
use Rattle.mau_program.specs.declared.statements.Fragment.TheVariants.{Equal, Match, Sort, Reach}
use Rattle.mau_statement.specs.Context.{ContextOf}
use Rattle.mau_statement.specs.Parts.{Pairs, PairReads}
use Rattle.mau_statement.specs.Conditions.{FragmentReads, equal_reads, match_reads, reach_reads, sort_reads, truth_reads, ConditionReads, none_read, one_more_reads}
use Rattle.mau_statement.specs.Statements.{PartsRead, equation_reads, membership_reads, rule_reads}
use Rattle.mau_statement.specs.Lawful.{HasVariablesOf, HasOwnVariables}
use Rattle.mau_statement.specs.declared.statement.Statement.{Statement}

-- ---- pairs that are there stay at their places

abbrev pub Extends : Pairs → Pairs → Type 0
Extends ns os = (k : ℕ) (y : List ℕ × ℕ) → slice_get ns k ≡ Some y → slice_get os k ≡ Some y

extends_added : (ns ys : Pairs) → Extends ns (added ns ys)
extends_added ns [] k y e = e
extends_added ns (z ∷ ys) k y e = extends_added (with_pair ns z) ys k y ((pairs_keep_places ns z).stay k y e)

mutual
  pub given_more : (ns os : Pairs) → Extends ns os → (t : Tree) → AreGiven ns t → AreGiven os t
  given_more ns os x (variable i s) g = (g.0, x i (g.0, s) g.1)
  given_more ns os x (numeral n) g = tt
  given_more ns os x (apply f ts) g = all_given_more ns os x ts g

  pub all_given_more : (ns os : Pairs) → Extends ns os → (ts : Trees) → AllGiven ns ts → AllGiven os ts
  all_given_more ns os x no_trees g = tt
  all_given_more ns os x (tree t ts) g = (given_more ns os x t g.0, all_given_more ns os x ts g.1)

-- ---- the term of a tree

abbrev AllIn : Pairs → Pairs → Type 0
AllIn xs [] = Unit {0}
AllIn xs (y ∷ ys) = IsIn xs y × AllIn xs ys

all_in_added : (xs ys : Pairs) → AllIn (added xs ys) ys
all_in_added xs [] = tt
all_in_added xs (y ∷ ys) = (in_added (with_pair xs y) ys y (in_with xs y), all_in_added (with_pair xs y) ys)

parts_in : (xs ys zs : Pairs) → AllIn xs (ys ++ zs) → AllIn xs ys × AllIn xs zs
parts_in xs [] zs h = (tt, h)
parts_in xs (y ∷ ys) zs h = let r = parts_in xs ys zs h.1 in ((h.0, r.0), r.1)

found : (xs : Pairs) (y : List ℕ × ℕ) → IsIn xs y → slice_get xs (place_of xs y) ≡ Some y
found xs y h = subst (λ b. slice_get (if b then xs else xs ++ y ∷ []) (place_of xs y) ≡ Some y) h (pairs_keep_places xs y).stands

mutual
  renamed_given : (ps xs : Pairs) (t : Tree) → AreGiven ps t → AllIn xs (pairs_in ps t) → AreGiven xs (renamed ps xs t)
  renamed_given ps xs (variable i s) g h =
      let same : pair_at ps i ≡ (g.0, s) = get_or_from_slice_get ps i (g.0, s) ([], 0) g.1 in
      (g.0, found xs (pair_at ps i) h.0 ∙ ap Some same)
  renamed_given ps xs (numeral n) g h = tt
  renamed_given ps xs (apply f ts) g h = all_renamed_given ps xs ts g h

  all_renamed_given : (ps xs : Pairs) (ts : Trees) → AllGiven ps ts → AllIn xs (all_pairs ps ts) → AllGiven xs (all_renamed ps xs ts)
  all_renamed_given ps xs no_trees g h = tt
  all_renamed_given ps xs (tree t ts) g h =
      let r = parts_in xs (pairs_in ps t) (all_pairs ps ts) h in
      (renamed_given ps xs t g.0 r.0, all_renamed_given ps xs ts g.1 r.1)

module _ (g : GrammarOf) (ws : List (List ℕ)) (goal : Goal) (ns os : Pairs) (b : Bare) (p : IsParsed g ws goal ns os b) where
  pub parsed_extends : Extends ns os
  parsed_extends = subst (Extends ns) (sym p.term.vars) (extends_added ns (pairs_in (pairs_of g ws) p.tree))

  pub parsed_given : AreGiven os (tree_of b)
  parsed_given =
      let ps = pairs_of g ws in
      let all : AllIn os (pairs_in ps p.tree) = subst (λ vs. AllIn vs (pairs_in ps p.tree)) (sym p.term.vars) (all_in_added ns (pairs_in ps p.tree)) in
      subst (AreGiven os) (sym p.term.term) (renamed_given ps os p.tree (tree_given g ws (lowest g goal) (highest g goal) p.tree p.only.tree) all)

-- ---- what is read part by part

record ArePairGiven (ns os : Pairs) (a b : Bare) : Type 0 where
  extends : Extends ns os
  first : AreGiven os (tree_of a)
  second : AreGiven os (tree_of b)

module _ (ws : List Word) (c : ContextOf) where
  pair_given : (first second : List Token) (ns os : Pairs) (a b : Bare) → PairReads ws c first second ns os a b → ArePairGiven ns os a b
  pair_given first second ns os a b p =
      let x = parsed_extends c.grammar _ _ ns p.middle a p.first_reads in
      let y = parsed_extends c.grammar _ _ p.middle os b p.second_reads in
      record {
        extends = λ k v e. y k v (x k v e);
        first = given_more p.middle os y (tree_of a) (parsed_given c.grammar _ _ ns p.middle a p.first_reads);
        second = parsed_given c.grammar _ _ p.middle os b p.second_reads;
      }

  record IsFragmentGiven (ns os : Pairs) (f : Fragment) : Type 0 where
    extends : Extends ns os
    given : HasVariablesOf os f

  fragment_given : (raw : RawFragment) (ns os : Pairs) (f : Fragment) → FragmentReads ws c raw ns os f → IsFragmentGiven ns os f
  fragment_given raw ns os f (equal_reads t u k p) = let g = pair_given raw.left raw.right ns os t u p in record { extends = g.extends; given = (g.first, g.second) }
  fragment_given raw ns os f (match_reads q u k p) = let g = pair_given raw.right raw.left ns os u q p in record { extends = g.extends; given = (g.second, g.first) }
  fragment_given raw ns os f (reach_reads t u k p) = let g = pair_given raw.left raw.right ns os t u p in record { extends = g.extends; given = (g.first, g.second) }
  fragment_given raw ns os f (sort_reads t sort k p e) = record { extends = parsed_extends c.grammar _ _ ns os t p; given = parsed_given c.grammar _ _ ns os t p }
  fragment_given raw ns os f (truth_reads t truth kind k e l p) = record { extends = parsed_extends c.grammar _ _ ns os t p; given = (parsed_given c.grammar _ _ ns os t p, tt) }

  variables_more : (ns os : Pairs) → Extends ns os → (f : Fragment) → HasVariablesOf ns f → HasVariablesOf os f
  variables_more ns os x (Equal t u) h = (given_more ns os x (tree_of t) h.0, given_more ns os x (tree_of u) h.1)
  variables_more ns os x (Match p u) h = (given_more ns os x (tree_of p) h.0, given_more ns os x (tree_of u) h.1)
  variables_more ns os x (Sort t sort) h = given_more ns os x (tree_of t) h
  variables_more ns os x (Reach t u) h = (given_more ns os x (tree_of t) h.0, given_more ns os x (tree_of u) h.1)

  pub all_more : (ns os : Pairs) → Extends ns os → (fs : List Fragment) → All (HasVariablesOf ns) fs → All (HasVariablesOf os) fs
  all_more ns os x fs h = λ k d l. variables_more ns os x (get_or fs k d) (h k d l)

  pub record IsConditionGiven (ns os : Pairs) (fs : List Fragment) : Type 0 where
    pub extends : Extends ns os
    pub given : All (HasVariablesOf os) fs

  pub condition_given : (ns : Pairs) (raws : List RawFragment) (os : Pairs) (fs : List Fragment) → ConditionReads ws c ns raws os fs → IsConditionGiven ns os fs
  condition_given ns raws os fs none_read = record { extends = λ k y e. e; given = All-nil (HasVariablesOf ns) }
  condition_given ns raws os fs (one_more_reads before middle read raw last x p q) =
      let y = condition_given ns before middle read p in
      let z = fragment_given raw middle last x q in
      record {
        extends = λ k v e. z.extends k v (y.extends k v e);
        given = All-push (HasVariablesOf last) read x (all_more middle last z.extends read y.given) z.given;
      }

  pub own_variables : (raw : RawStatement) (s : Statement) → PartsRead ws c raw s → HasOwnVariables s
  own_variables raw s (equation_reads e k p) =
      let sides = pair_given raw.left raw.right [] p.middle e.left e.right p.sides in
      let cond = condition_given p.middle raw.cond e.vars e.cond p.condition in
      (given_more p.middle e.vars cond.extends (tree_of e.left) sides.first, given_more p.middle e.vars cond.extends (tree_of e.right) sides.second, cond.given)
  own_variables raw s (membership_reads m k p) =
      let cond = condition_given p.middle raw.cond m.vars m.cond p.condition in
      (given_more p.middle m.vars cond.extends (tree_of m.left) (parsed_given c.grammar _ _ [] p.middle m.left p.head), cond.given)
  own_variables raw s (rule_reads r k p) =
      let sides = pair_given raw.left raw.right [] p.middle r.left r.right p.sides in
      let cond = condition_given p.middle raw.cond r.vars r.cond p.condition in
      (given_more p.middle r.vars cond.extends (tree_of r.left) sides.first, given_more p.middle r.vars cond.extends (tree_of r.right) sides.second, cond.given)
