-- From the trees of tokens to what reading them gives.
use Rattle.std.proofs.Common.{◌≡◌, ℕ, ◌+◌, ◌≤◌, ◌<◌, get_or, refl, List, length, false, Result, Ok, Err, IfOk, IfErr, OnErr, sym, ap, subst, arith}
use Rattle.std.proofs.lemmas.List.{length-map}
use Rattle.std.proofs.lemmas.Option.{slice_get_within, slice_get-get_or}
use Rattle.mau_terms.specs.Tree.{Tree}
use Rattle.mau_terms.specs.declared.bare.Bare.{Bare}
use Rattle.mau_tokens.specs.declared.token.Token.{Token}
use Rattle.mau_tokens.specs.Laws.{text_of}
use Rattle.mau_grammar.specs.Grammar.{GrammarOf}
use Rattle.mau_grammar.specs.Leaves.{pairs_of}
use Rattle.mau_parse.specs.declared.goals.Goal.{Goal}
use Rattle.mau_parse.specs.declared.fault.ParseFault.{ParseFault}
use Rattle.mau_parse.specs.declared.fault.ParseFault.TheVariants.{NoParse, Ambiguous, TooManyTokens, NumberTooLarge, SuccessorTooLarge, NoMemory}
use Rattle.mau_parse.specs.Words.{texts_of}
use Rattle.mau_parse.specs.TooLarge.{IsTooLarge}
use Rattle.mau_parse.specs.Goal.{lowest, highest, IsTree, IsOnlyTree, AreTwoTrees}
use Rattle.mau_parse.specs.Terms.{pairs_in, AreGiven, IsTermOf, AreTermsOf}
use Rattle.mau_parse.specs.Overflow.{overflows}
use Rattle.mau_parse.specs.Results.{IsLargeSuccessor}
use Rattle.mau_parse.specs.Parsed.{IsReadable, BeginsAt, IsParsed, HasTwoTrees, IsTreeFault, IsFault}
use Rattle.mau_parse.proofs.Renamed.{few_added}
use Rattle.mau_parse.proofs.TreesGiven.{tree_given, tree_few}

module _ (g : GrammarOf) (ws : List (List ℕ)) (goal : Goal) (ps : List (List ℕ × ℕ)) (same : ps ≡ pairs_of g ws) where
  pub given_in : (t : Tree) → IsTree g ws goal t → AreGiven ps t
  given_in t h = subst (λ us. AreGiven us t) (sym same) (tree_given g ws (lowest g goal) (highest g goal) t h)

  pub few_in : (t : Tree) → IsTree g ws goal t → length (pairs_in ps t) ≤ length ws
  few_in t h = subst (λ us. length (pairs_in us t) ≤ length ws) (sym same) (tree_few g ws (lowest g goal) (highest g goal) t h)

  pub one_parsed : (old new : List (List ℕ × ℕ)) (t : Tree) (r : Result Bare ParseFault) → IsReadable g ws → IsOnlyTree g ws goal t → IfOk r (IsTermOf ps old new t) → IfOk r (λ _. overflows g.successors t ≡ false)
      → IfOk r (IsParsed g ws goal old new)
  one_parsed old new t (Ok b) readable only term small = record {
    readable = readable;
    tree = t;
    only = only;
    small = small;
    term = subst (λ us. IsTermOf us old new t b) same term;
  }
  one_parsed old new t (Err f) readable only term small = tt

  pub one_fault : (old : List (List ℕ × ℕ)) (t : Tree) (at : ℕ) (r : Result Bare ParseFault) → IsReadable g ws → IsOnlyTree g ws goal t → IfErr r (IsLargeSuccessor g.successors t at) → IfErr r (IsTreeFault g ws goal old at)
  one_fault old t at (Ok b) readable only h = tt
  one_fault old t at (Err (NoParse n)) readable only h = absurd h
  one_fault old t at (Err (Ambiguous n a b)) readable only h = absurd h
  one_fault old t at (Err (TooManyTokens n)) readable only h = absurd h
  one_fault old t at (Err (NumberTooLarge n)) readable only h = absurd h
  one_fault old t at (Err (SuccessorTooLarge n)) readable only h = (record { readable = readable; tree = t; only = only; large = h.1 }, h.0)
  one_fault old t at (Err NoMemory) readable only h = tt

  pub one_few : (old new : List (List ℕ × ℕ)) (t : Tree) (r : Result Bare ParseFault) → IsOnlyTree g ws goal t → IfOk r (IsTermOf ps old new t) → OnErr r (new ≡ old) → length new ≤ length old + length ws
  one_few old new t (Ok b) only term unchanged = omega (arith, few_added old (pairs_in ps t), few_in t only.tree, ap length term.vars)
  one_few old new t (Err f) only term unchanged = omega (arith, ap length unchanged)

  pub two_trees : (old : List (List ℕ × ℕ)) (t u : Tree) (a b : Bare) → IsReadable g ws → AreTwoTrees g ws goal t u → AreTermsOf ps old t u a b → HasTwoTrees g ws goal old a b
  two_trees old t u a b readable trees terms = record {
    readable = readable;
    one = t;
    other = u;
    trees = trees;
    terms = subst (λ us. AreTermsOf us old t u a b) same terms;
  }

fault_of : (g : GrammarOf) (ts : List Token) (ws : List (List ℕ)) (goal : Goal) (old : List (List ℕ × ℕ)) (at : ℕ) (r : Result Bare ParseFault) → BeginsAt ts 0 at → IfErr r (IsTreeFault g ws goal old at) → IfErr r (IsFault g ts ws goal old)
fault_of g ts ws goal old at (Ok b) begins h = tt
fault_of g ts ws goal old at (Err (NoParse n)) begins h = (h.0, subst (BeginsAt ts 0) (sym h.1) begins)
fault_of g ts ws goal old at (Err (Ambiguous n a b)) begins h = (h.0, subst (BeginsAt ts 0) (sym h.1) begins)
fault_of g ts ws goal old at (Err (TooManyTokens n)) begins h = absurd h
fault_of g ts ws goal old at (Err (NumberTooLarge n)) begins h = absurd h
fault_of g ts ws goal old at (Err (SuccessorTooLarge n)) begins h = (h.0, subst (BeginsAt ts 0) (sym h.1) begins)
fault_of g ts ws goal old at (Err NoMemory) begins h = tt

pub fault_at : (g : GrammarOf) (ts : List Token) (ws us : List (List ℕ)) (goal : Goal) (old : List (List ℕ × ℕ)) (at : ℕ) (r : Result Bare ParseFault) → us ≡ ws → IfErr r (IsTreeFault g us goal old at) → BeginsAt ts 0 at → IfErr r (IsFault g ts ws goal old)
fault_at g ts ws us goal old at r e h begins = fault_of g ts ws goal old at r begins (subst (λ vs. IfErr r (IsTreeFault g vs goal old at)) e h)

-- ---- places of tokens

pub begins : (ts : List Token) (i : ℕ) (d : Token) → i < length ts → BeginsAt ts i (get_or ts i d).start
begins ts i d h = (get_or ts i d, slice_get-get_or ts i d h, refl)

pub large_there : (bs : List ℕ) (ts : List Token) (i : ℕ) → IsTooLarge (texts_of bs ts) i → i < length ts
large_there bs ts i h = omega (arith, slice_get_within (texts_of bs ts) i h.word h.there, length-map ts (text_of bs))
