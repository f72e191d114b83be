-- A typed program with the native operators of a table, as the definitions of evaluation see it: statements by their trees, and what they ask of a signature computed.
use Rattle.std.specs.Prelude.{ℕ, zero, suc, Bool, if◌then◌else◌, Option, List, [], ◌∷◌, map, length}
use Rattle.std.specs.List.{flat_map, range_with_len}
use Rattle.mau_terms.specs.Tree.{Tree}
use Rattle.mau_terms.specs.Finite.{units_of}
use Rattle.mau_terms.specs.View.{tree_of}
use Rattle.mau_signature.specs.Attributes.{is_given_number}
use Rattle.mau_signature.specs.Signature.{SignatureOf, declarations_at, theory_at, attributes_of, strategy_of, terms_over}
use Rattle.mau_formula.specs.Operator.{Operator}
use Rattle.mau_program.specs.declared.program.Program as Written
use Rattle.mau_program.specs.declared.statements.Fragment as WrittenFragment
use Rattle.mau_program.specs.declared.statements.Fragment.TheVariants as Part
use Rattle.mau_program.specs.declared.statements.Equation as WrittenEquation
use Rattle.mau_program.specs.declared.statements.Membership as WrittenMembership
use Rattle.mau_program.specs.declared.statements.Rule as WrittenRule
use Rattle.mau_evaluation.specs.Program.{Fragment, equals, matches, has_sort, reaches, Equation, Membership, Rule, Program}
use Rattle.mau_api.specs.SortLists.{sorts_above, sorts_of_numeral, sorts_over}
use Rattle.mau_api.specs.BuiltIns.{built_in_at}

abbrev pub fragment_of : WrittenFragment.Fragment → Fragment
fragment_of (Part.Equal t u) = equals (tree_of t) (tree_of u)
fragment_of (Part.Match p u) = matches (tree_of p) (tree_of u)
fragment_of (Part.Sort t s) = has_sort (tree_of t) s
fragment_of (Part.Reach t u) = reaches (tree_of t) (tree_of u)

abbrev pub equation_of : WrittenEquation.Equation → Equation
equation_of e = record { left = tree_of e.left; right = tree_of e.right; cond = map fragment_of e.cond; owise = e.owise; exec = e.exec }

abbrev pub membership_of : WrittenMembership.Membership → Membership
membership_of m = record { left = tree_of m.left; sort = m.sort; cond = map fragment_of m.cond; exec = m.exec }

abbrev pub rule_of : WrittenRule.Rule → Rule
rule_of r = record { label = r.label; vars = r.vars; left = tree_of r.left; right = tree_of r.right; cond = map fragment_of r.cond; exec = r.exec }

-- the places of the arguments that a strategy names, counted from 0; it ends with 0
abbrev pub places_of : List ℕ → List ℕ
places_of [] = []
places_of (zero ∷ is) = []
places_of (suc i ∷ is) = i ∷ places_of is

-- whether an argument, counted from 0, is frozen. Of an associative operator all elements are, or none
abbrev pub is_frozen : Bool → Option (List ℕ) → ℕ → Bool
is_frozen assoc given i = is_given_number given (if assoc then 1 else suc i)

-- the identities in the order of their operators
abbrev pub identities_of : SignatureOf → List Tree
identities_of s = flat_map (λ f. units_of (theory_at s f).id) (range_with_len 1 (length s.declarations))

-- a program with the native operators of a table
abbrev pub program_over : Written.Program → List Operator → Program
program_over p hooks = record {
  sign = terms_over p.sig;
  above = sorts_above p.sig.hierarchy;
  numeral_sorts = sorts_of_numeral p.sig;
  declared = sorts_over p.sig;
  equations = map equation_of p.equations;
  memberships = map membership_of p.memberships;
  rules = map rule_of p.rules;
  strat = λ f. places_of (strategy_of (declarations_at p.sig f));
  frozen = λ f i. is_frozen (theory_at p.sig f).assoc (attributes_of (declarations_at p.sig f)).frozen i;
  built_in = built_in_at p.sig hooks;
  units = identities_of p.sig;
}
