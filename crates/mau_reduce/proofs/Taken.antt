-- Values of built-ins as terms.
use Rattle.std.proofs.Common.{◌≡◌, ℕ, ◌≤◌, List, [], ◌∷◌, Bool, true, false, ◌&&◌, ◌||◌, drop, Result, Ok, Err, IfOk, Option, Some, None, refl, sym, ap, ◌∙◌, subst, arith}
use Rattle.std.proofs.lemmas.List.Elements.{All-nil, All-cons, All-tail}
use Rattle.mau_terms.specs.Tree.{Tree, variable, numeral, apply, Trees, node, list_of}
use Rattle.mau_terms.specs.Depth.{depth}
use Rattle.mau_terms.specs.Norm.{norm, build, holds_overflow, greatest_numeral}
use Rattle.mau_terms.specs.Bare.{IsBareIn, IsLawful}
use Rattle.mau_terms.specs.Reading.{reading}
use Rattle.mau_terms.specs.declared.ids.TermId.{TermId}
use Rattle.mau_terms.specs.declared.theory.Theory.{Theory}
use Rattle.mau_terms.specs.Lawful.{AreLawful}
use Rattle.mau_terms.proofs.Normal.{norm-norm}
use Rattle.mau_terms.proofs.Pieces.{trees_of-list_of, list_of-trees_of}
use Rattle.mau_signature.specs.Signature.{SignatureOf, IsOperator, theory_at, terms_over}
use Rattle.mau_formula.specs.Operator.{Operator}
use Rattle.mau_store.specs.Node.{Node, IsOf}
use Rattle.mau_store.specs.Trees.{tree_at, trees_at}
use Rattle.mau_store.specs.View.{numbers}
use Rattle.mau_canon.specs.declared.TheConstants.{MAX_DEPTH}
use Rattle.mau_canon.specs.Within.{IsWithin}
use Rattle.mau_canon.specs.Standing.{StandsWithin, StandWithin}
use Rattle.mau_evaluation.specs.Program.{Program, value, BuiltIn, on_numerals, choice, equality}
use Rattle.mau_evaluation.specs.Evaluation.{Binding}
use Rattle.mau_evaluation.proofs.BareTerms.{norm-reading-is}
use Rattle.mau_api.specs.BuiltIns.{built_in_at}
use Rattle.mau_api.specs.Terms.{IsNormalTerm}
use Rattle.mau_reduce.specs.declared.given.Leaf.{Leaf}
use Rattle.mau_reduce.specs.declared.given.Leaf.TheVariants.{Number, Constant}
use Rattle.mau_reduce.specs.declared.given.Given.{Given}
use Rattle.mau_reduce.specs.declared.given.Given.TheVariants.{Nothing, TooLarge, Argument, Whole, Before}
use Rattle.mau_reduce.specs.declared.trying.Found.{Found}
use Rattle.mau_reduce.specs.Kinds.{IsTermIn}
use Rattle.mau_reduce.specs.Orders.{IsLeaf}
use Rattle.mau_reduce.specs.BuiltOperators.{number_answer, leaf_tree, before_others, answer_of, built_gives, HasNoArgument}
use Rattle.mau_reduce.specs.Giving.{GivesNormalIfAny, GivesInKind, GivesValue, given_value, CanBeTaken, IsGivenAt}
use Rattle.mau_reduce.specs.Attempting.{makes_of}

-- ---- leaves

leaf_shallow : (l : Leaf) → depth (leaf_tree l) ≤ MAX_DEPTH
leaf_shallow (Number n) = omega arith
leaf_shallow (Constant (Some c)) = omega arith
leaf_shallow (Constant None) = omega arith

nothing_held : (b : Bool) → ((b && false) || false) ≡ false
nothing_held true = refl
nothing_held false = refl

leaf_holds : (th : ℕ → Theory) (l : Leaf) → holds_overflow th (leaf_tree l) ≡ false
leaf_holds th (Number n) = refl
leaf_holds th (Constant (Some c)) = nothing_held (th c.0).succ
leaf_holds th (Constant None) = nothing_held (th 0).succ

pub leaf_stands : (th : ℕ → Theory) (nodes : List Node) (i : ℕ) (l : Leaf) → IsOf nodes i → tree_at nodes i ≡ leaf_tree l → norm th (leaf_tree l) ≡ leaf_tree l → StandsWithin th nodes i
leaf_stands th nodes i l there e n = record {
  there = there;
  normal = ap (norm th) e ∙ (n ∙ sym e);
  within = subst (IsWithin th) (sym e) (record { shallow = leaf_shallow l; no_overflow = leaf_holds th l });
}

-- ---- a list with a leaf in the place of its first two

pub before_is : (th : ℕ → Theory) (t v : Tree) (f : ℕ) (ts us : List Tree) → t ≡ node f ts → us ≡ v ∷ drop 2 ts → norm th (node f us) ≡ build (th f) f us → before_others th t v ≡ norm th (node f us)
before_is th t v f ts us top list fine =
    ap (λ u. before_others th u v) top
    ∙ (ap (λ ws. build (th f) f (v ∷ drop 2 ws)) (list_of-trees_of ts)
    ∙ (ap (build (th f) f) (sym list) ∙ sym fine))

pub with_first_trees : (nodes : List Node) (first : TermId) (ids : List TermId) → trees_at nodes (numbers (first ∷ drop 2 ids)) ≡ tree_at nodes first.0 ∷ drop 2 (trees_at nodes (numbers ids))
with_first_trees nodes first [] = refl
with_first_trees nodes first (a ∷ []) = refl
with_first_trees nodes first (a ∷ b ∷ ids) = refl

pub with_first_within : (th : ℕ → Theory) (nodes : List Node) (first : TermId) (ids : List TermId) → StandsWithin th nodes first.0 → StandWithin th nodes (numbers ids) → StandWithin th nodes (numbers (first ∷ drop 2 ids))
with_first_within th nodes first [] own all = All-cons (StandsWithin th nodes) first.0 [] own (All-nil (StandsWithin th nodes))
with_first_within th nodes first (a ∷ []) own all = All-cons (StandsWithin th nodes) first.0 [] own (All-nil (StandsWithin th nodes))
with_first_within th nodes first (a ∷ b ∷ ids) own all =
    All-cons (StandsWithin th nodes) first.0 (numbers ids) own (All-tail (StandsWithin th nodes) b.0 (numbers ids) (All-tail (StandsWithin th nodes) a.0 (numbers (b ∷ ids)) all))

pub before_norm : (th : ℕ → Theory) → AreLawful th → (t v : Tree) (f : ℕ) (us : List Tree) → before_others th t v ≡ norm th (node f us) → norm th (before_others th t v) ≡ norm th (node f us)
before_norm th lawful t v f us e = ap (norm th) e ∙ norm-norm th lawful (node f us)

pub leaf_none : (t : Tree) → IsLeaf t → (f : ℕ) (ts : Trees) → t ≡ apply f ts → ⊥
leaf_none t h f ts e = subst IsLeaf e h

-- a leaf alone
pub before_none : (th : ℕ → Theory) (t v : Tree) → ((f : ℕ) (ts : Trees) → t ≡ apply f ts → ⊥) → before_others th t v ≡ v
before_none th (variable i s) v none = refl
before_none th (numeral n) v none = refl
before_none th (apply f ts) v none = absurd (none f ts refl)

-- ---- what was given

pub given_answer : (nodes : List Node) (th : ℕ → Theory) (t : Tree) (given : Given) → GivesValue given → answer_of nodes th t given ≡ value (given_value nodes th t given)
given_answer nodes th t Nothing h = absurd h
given_answer nodes th t TooLarge h = absurd h
given_answer nodes th t (Argument i) h = refl
given_answer nodes th t (Whole l) h = refl
given_answer nodes th t (Before l) h = refl

pub given_makes : (P : Program) (nodes : List Node) (t : Tree) (given : Given) (last : Option Found) (σ : Binding) → GivesValue given → given_value nodes P.sign.theory t given ≡ makes_of P nodes t given last σ
given_makes P nodes t Nothing last σ h = absurd h
given_makes P nodes t TooLarge last σ h = absurd h
given_makes P nodes t (Argument i) last σ h = refl
given_makes P nodes t (Whole l) last σ h = refl
given_makes P nodes t (Before l) last σ h = refl

-- what a native operator gives can be taken
pub number_taken : (s : SignatureOf) (nodes : List Node) (t : Tree) (o : Option BuiltIn) (m n : ℕ) → m ≤ greatest_numeral → n ≤ greatest_numeral → GivesNormalIfAny s o →
    (given : Given) → HasNoArgument given → answer_of nodes (theory_at s) t given ≡ number_answer o m n → CanBeTaken s nodes given
number_taken s nodes t o m n lm ln normal Nothing plain e = tt
number_taken s nodes t o m n lm ln normal TooLarge plain e = tt
number_taken s nodes t o m n lm ln normal (Argument i) plain e = absurd plain
number_taken s nodes t o m n lm ln normal (Before l) plain e = absurd plain
number_taken s nodes t o m n lm ln normal (Whole l) plain e = by o normal e
  where
    by : (o : Option BuiltIn) → GivesNormalIfAny s o → value (leaf_tree l) ≡ number_answer o m n → norm (theory_at s) (leaf_tree l) ≡ leaf_tree l
    by None h e = cc
    by (Some (on_numerals op)) h e = h m n (leaf_tree l) lm ln (sym e)
    by (Some (choice a b)) h e = cc
    by (Some (equality a b)) h e = cc

pub normal_if_any : (s : SignatureOf) (hooks : List Operator) (f : ℕ) (o : Option BuiltIn) → GivesInKind s hooks → IsOperator s f → built_in_at s hooks f ≡ o → GivesNormalIfAny s o
normal_if_any s hooks f None gives is e = tt
normal_if_any s hooks f (Some b) gives is e = gives.normal f b is e

-- ---- results

pub both_ok : {T E : Type 0} (r : Result T E) (P Q R : T → Type 0) → ((x : T) → P x → Q x → R x) → IfOk r P → IfOk r Q → IfOk r R
both_ok (Ok x) P Q R h p q = h x p q
both_ok (Err e) P Q R h p q = tt

-- ---- kinds

module _ (s : SignatureOf) (lawful : IsLawful (terms_over s)) where
  abbrev th : ℕ → Theory
  th = theory_at s

  pub normal_term : (nodes : List Node) (k i : ℕ) → IsTermIn s nodes k i → IsNormalTerm s (tree_at nodes i)
  normal_term nodes k i term = record {
    normal = term.within.normal;
    term = ((k, term.bare), subst (IsWithin th) (sym (norm-reading-is th lawful.theories (tree_at nodes i) term.within.normal)) term.within.within);
  }

  value_kind : (hooks : List Operator) → GivesInKind s hooks → (t : Tree) (k : ℕ) (v : Tree) → IsNormalTerm s t → IsBareIn (terms_over s) (reading th t) k → built_gives s hooks t ≡ value v → IsBareIn (terms_over s) (reading th (norm th v)) k
  value_kind hooks gives (variable i r) k v n b e = cc
  value_kind hooks gives (numeral m) k v n b e = cc
  value_kind hooks gives (apply f ts) k v n b e =
      gives.kinds f (list_of ts) v k (subst (λ us. IsNormalTerm s (apply f us)) (sym (trees_of-list_of ts)) n) (subst (λ us. IsBareIn (terms_over s) (reading th (apply f us)) k) (sym (trees_of-list_of ts)) b) e

  -- the value is of the term's kind
  pub taken_kind : (hooks : List Operator) (old new : List Node) (k term id : ℕ) (given : Given) → GivesInKind s hooks → IsGivenAt s hooks old (tree_at old term) given → GivesValue given → IsTermIn s old k term →
      tree_at new id ≡ norm th (given_value old th (tree_at old term) given) → StandsWithin th new id → IsTermIn s new k id
  taken_kind hooks old new k term id given gives is some in_kind e within = record {
    within = within;
    bare = subst (λ u. IsBareIn (terms_over s) (reading th u) k) (sym e)
        (value_kind hooks gives (tree_at old term) k (given_value old th (tree_at old term) given) (normal_term old k term in_kind) in_kind.bare (is.answer ∙ given_answer old th (tree_at old term) given some));
  }
