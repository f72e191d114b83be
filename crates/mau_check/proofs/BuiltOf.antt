-- What is built in, over terms that are kept.
use Rattle.std.proofs.Common.{◌≡◌, ◌↔◌, ℕ, zero, suc, ◌+◌, ◌<◌, ◌≤◌, ◌==◌, List, [], ◌∷◌, ◌++◌, length, map, take, get_or, Bool, true, false, ◌&&◌, Option, Some, None, ◌⊎◌, inl, inr, refl, sym, ap, ap₂, ◌∙◌, subst, arith, if◌then◌else◌, append_assoc, length-append}
use Rattle.std.specs.Prelude.{All, nat_lt, codes}
use Rattle.std.specs.List.{AllZip}
use Rattle.std.specs.Bool.{MatchBool}
use Rattle.mau_terms.specs.Tree.{Tree, numeral, variable, apply, Trees, no_trees, tree, node, trees_of}
use Rattle.mau_terms.specs.Subst.{instances}
use Rattle.mau_terms.specs.Norm.{norm, build, pieces, all_pieces, arrange, finish}
use Rattle.mau_terms.specs.Reading.{nest, reading}
use Rattle.mau_terms.specs.Bare.{TermSignature, IsBare, IsBareIn, AreBareIn, EqualModulo, IsLawful}
use Rattle.mau_terms.proofs.Chains.{first_bare, EqualModulo-sym}
use Rattle.mau_terms.specs.declared.ids.OpId.{OpId}
use Rattle.mau_terms.specs.declared.ids.TermId.{TermId}
use Rattle.mau_terms.specs.declared.theory.Identity.{Identity}
use Rattle.mau_terms.specs.declared.theory.Theory.{Theory}
use Rattle.mau_terms.proofs.Finite.{length_sort}
use Rattle.mau_terms.proofs.Induction.{norm-node}
use Rattle.mau_terms.proofs.Normal.{norm-norm}
use Rattle.mau_terms.proofs.Taken.{one_kind}
use Rattle.mau_signature.specs.Signature.{SignatureOf, IsOperator, theory_at, terms_over}
use Rattle.mau_signature.specs.OverSignature.{IsTreeOver}
use Rattle.mau_store.specs.Node.{Node, AreNodes, IsOf, AreOf, Extends}
use Rattle.mau_store.specs.Trees.{tree_at, trees_at, StandsFor}
use Rattle.mau_store.specs.View.{numbers}
use Rattle.mau_canon.specs.Standing.{StandsWithin}
use Rattle.mau_canon.specs.Within.{IsWithin}
use Rattle.mau_canon.proofs.Standing.{list_stands_for_nested, map-norm-norm}
use Rattle.mau_formula.specs.Operator.{Operator}
use Rattle.mau_evaluation.specs.Program.{Answer, no_value, value, too_large, BuiltIn, on_numerals, choice, equality}
use Rattle.mau_evaluation.specs.Listing.{same_tree}
use Rattle.mau_evaluation.specs.Evaluation.{native_on, native_by, admit}
use Rattle.mau_evaluation.specs.Run.{End, done, ended}
use Rattle.mau_evaluation.proofs.BareTerms.{norm-reading-is}
use Rattle.mau_program.specs.declared.program.Program.{Program}
use Rattle.mau_program.specs.LawfulPrograms.{IsLawfulProgram}
use Rattle.mau_api.specs.Terms.{IsBareWithin, hole_index, filler, fill, holes, holes_in, IsContextFor}
use Rattle.mau_api.specs.BuiltIns.{built_answer, answer_by, built_in_at, name_at, result_kind, true_in, false_in, IsBuiltIn, is_branch, is_same, is_differ, is_native}
use Rattle.mau_api.proofs.BuiltIns.{built_ins_are_named}
use Rattle.mau_built_ins.specs.Declared.{HasTruthIn}
use Rattle.mau_built_ins.specs.NativeNumerals.{GivesNumerals}
use Rattle.mau_built_ins.specs.Laws as built
use Rattle.mau_built_ins.proofs.BuiltAnswers.{built_ins_give_their_kind}
use Rattle.mau_built_ins.proofs.FromRows.{lawful_declares}
use Rattle.mau_built_ins.proofs.NormalTerms.{read_bare}
use Rattle.mau_reduce.specs.declared.given.Given.{Given}
use Rattle.mau_reduce.specs.declared.given.Given.TheVariants.{Nothing, TooLarge, Argument, Whole, Before}
use Rattle.mau_reduce.specs.declared.built_in.Truths.{Truths}
use Rattle.mau_reduce.specs.BuiltOperators.{constant_tree, answer_of, built_gives}
use Rattle.mau_reduce.specs.Giving.{GivesNormal, GivesInKind, GivesValue, given_value, IsGivenAt}
use Rattle.mau_reduce.specs.Kinds.{IsTermIn}
use Rattle.mau_reduce.proofs.Answering.{IsOnNumerals, no_function, function, on_others, equal_two}
use Rattle.mau_reduce.proofs.Limits.{within_given}
use Rattle.mau_logic.specs.Lines.{over}
use Rattle.mau_facts.specs.declared.document.BuiltFact.{BuiltFact}
use Rattle.mau_facts.specs.declared.document.Fact.TheVariants.{Built}
use Rattle.mau_logic.specs.Says.{Says}
use Rattle.mau_logic.specs.Justified.{With, UsesBuilt, IsJustified}
use Rattle.mau_check.specs.declared.kept.Kept.{Kept}
use Rattle.mau_check.specs.Answer.{IsPart, IsGiven, ChosenLieIn, TruthsLieIn}
use Rattle.mau_check.specs.Kept.{IsKeptFor, AreKeptFor, kinds_of, SuitsKinds}
use Rattle.mau_check.specs.FactNumbers.{numbers_of_built}
use Rattle.mau_check.proofs.Equals.{stands_within, kept_extended}
use Rattle.mau_check.proofs.Filled.{part_within}
use Rattle.mau_check.proofs.Naming.{with_is, some_holds}
use Rattle.std.proofs.lemmas.List.Elements.{All-nil, All-cons}
use Rattle.std.specs.Prelude.{nat_eq}
use Rattle.mau_check.proofs.Overs.{from_over, kept_trees, with_weaker}

-- ---- parts

-- what is kept for a term is a part that stands for any value with the term's normal form
pub kept_part : (s : SignatureOf) → IsLawful (terms_over s) → (nodes : List Node) (x : Kept) (t v : Tree) (k : ℕ) → IsKeptFor s nodes x t → x.kind ≡ k → norm (theory_at s) v ≡ norm (theory_at s) t →
    IsPart s nodes k (reading (theory_at s) (norm (theory_at s) v)) x.id
kept_part s lawful nodes x t v k h e d = record {
  kind = subst (λ z. IsBareIn (terms_over s) (reading (theory_at s) z) k) (sym d) (read_bare s lawful t k (subst (IsBareIn (terms_over s) t) e h.kind));
  within = stands_within s lawful nodes x t h;
  stands = h.stands ∙ sym d ∙ sym (norm-reading-is (theory_at s) lawful.theories (norm (theory_at s) v) (norm-norm (theory_at s) lawful.theories v));
}

-- what is read of a value is within the limits only if the value is
pub value_within : (s : SignatureOf) → IsLawful (terms_over s) → (v : Tree) → IsBareWithin s (reading (theory_at s) (norm (theory_at s) v)) → IsWithin (theory_at s) (norm (theory_at s) v)
value_within s lawful v w = subst (IsWithin (theory_at s)) (norm-reading-is (theory_at s) lawful.theories (norm (theory_at s) v) (norm-norm (theory_at s) lawful.theories v)) w.1

pub no_zero : (s : SignatureOf) (t : Tree) → IsTreeOver s t → t ≡ apply 0 no_trees → ⊥
no_zero s t over e = let z : IsTreeOver s (apply 0 no_trees) = subst (IsTreeOver s) e over in omega (arith, z.0.0)

-- nothing is given
pub gives_none : (s : SignatureOf) (nodes : List Node) (k : ℕ) (a : Answer) → a ≡ no_value → IsGiven s nodes k a None
gives_none s nodes k a e v d w = let q : no_value ≡ value v = sym e ∙ d in absurd cc

pub gives_too_large : (s : SignatureOf) (nodes : List Node) (k : ℕ) (a : Answer) → a ≡ too_large → IsGiven s nodes k a None
gives_too_large s nodes k a e v d w = let q : too_large ≡ value v = sym e ∙ d in absurd cc

-- ---- choices

pub not_three : (a b : Tree) (h : Theory) (f : ℕ) (ts : List Tree) → (length ts ≡ 3 → ⊥) → native_on (choice a b) h f ts ≡ no_value
not_three a b h f [] n = refl
not_three a b h f (t ∷ []) n = refl
not_three a b h f (t ∷ u ∷ []) n = refl
not_three a b h f (t ∷ u ∷ v ∷ []) n = absurd (n refl)
not_three a b h f (t ∷ u ∷ v ∷ w ∷ ts) n = refl

module _ (s : SignatureOf) (lawful : IsLawful (terms_over s)) (nodes : List Node) (a b : Tree) (h : Theory) (f k : ℕ) (d : Kept) where
  -- what a choice gives over these
  abbrev pub Chosen : List Tree → Answer
  Chosen ts = native_on (choice a b) h f (map (norm (theory_at s)) ts)

  pub first_chosen : (ks : List Kept) (ts : List Tree) → AreKeptFor s nodes ks ts → ChosenLieIn k ks → length ks ≡ 3 → same_tree (tree_at nodes (get_or ks 0 d).id.0) a ≡ true → IsGiven s nodes k (Chosen ts) (Some (get_or ks 1 d).id)
  first_chosen (x ∷ y ∷ z ∷ []) (t ∷ u ∷ v ∷ []) g l n e =
      let first : same_tree (norm (theory_at s) t) a ≡ true = subst (λ w. same_tree w a ≡ true) g.0.stands e in (
        norm (theory_at s) u,
        ap (λ (c : Bool). if c then value (norm (theory_at s) u) else if same_tree (norm (theory_at s) t) b then value (norm (theory_at s) v) else no_value) first,
        kept_part s lawful nodes y u (norm (theory_at s) u) k g.1.0 l.0 (norm-norm (theory_at s) lawful.theories u),
      )
  first_chosen [] ts g l n e = absurd (omega (arith, n))
  first_chosen (x ∷ []) ts g l n e = absurd (omega (arith, n))
  first_chosen (x ∷ y ∷ []) ts g l n e = absurd (omega (arith, n))
  first_chosen (x ∷ y ∷ z ∷ w ∷ ks) ts g l n e = absurd (omega (arith, n))
  first_chosen (x ∷ y ∷ z ∷ []) [] g l n e = absurd g
  first_chosen (x ∷ y ∷ z ∷ []) (t ∷ []) g l n e = absurd g.1
  first_chosen (x ∷ y ∷ z ∷ []) (t ∷ u ∷ []) g l n e = absurd g.1.1
  first_chosen (x ∷ y ∷ z ∷ []) (t ∷ u ∷ v ∷ w ∷ ts) g l n e = absurd g.1.1.1

  pub second_chosen : (ks : List Kept) (ts : List Tree) → AreKeptFor s nodes ks ts → ChosenLieIn k ks → length ks ≡ 3 → same_tree (tree_at nodes (get_or ks 0 d).id.0) a ≡ false → same_tree (tree_at nodes (get_or ks 0 d).id.0) b ≡ true →
      IsGiven s nodes k (Chosen ts) (Some (get_or ks 2 d).id)
  second_chosen (x ∷ y ∷ z ∷ []) (t ∷ u ∷ v ∷ []) g l n e q =
      let first : same_tree (norm (theory_at s) t) a ≡ false = subst (λ w. same_tree w a ≡ false) g.0.stands e in
      let second : same_tree (norm (theory_at s) t) b ≡ true = subst (λ w. same_tree w b ≡ true) g.0.stands q in (
        norm (theory_at s) v,
        ap (λ (c : Bool). if c then value (norm (theory_at s) u) else if same_tree (norm (theory_at s) t) b then value (norm (theory_at s) v) else no_value) first
            ∙ ap (λ (c : Bool). if c then value (norm (theory_at s) v) else no_value) second,
        kept_part s lawful nodes z v (norm (theory_at s) v) k g.1.1.0 l.1 (norm-norm (theory_at s) lawful.theories v),
      )
  second_chosen [] ts g l n e q = absurd (omega (arith, n))
  second_chosen (x ∷ []) ts g l n e q = absurd (omega (arith, n))
  second_chosen (x ∷ y ∷ []) ts g l n e q = absurd (omega (arith, n))
  second_chosen (x ∷ y ∷ z ∷ w ∷ ks) ts g l n e q = absurd (omega (arith, n))
  second_chosen (x ∷ y ∷ z ∷ []) [] g l n e q = absurd g
  second_chosen (x ∷ y ∷ z ∷ []) (t ∷ []) g l n e q = absurd g.1
  second_chosen (x ∷ y ∷ z ∷ []) (t ∷ u ∷ []) g l n e q = absurd g.1.1
  second_chosen (x ∷ y ∷ z ∷ []) (t ∷ u ∷ v ∷ w ∷ ts) g l n e q = absurd g.1.1.1

  pub none_chosen : (ks : List Kept) (ts : List Tree) → AreKeptFor s nodes ks ts → length ks ≡ 3 → same_tree (tree_at nodes (get_or ks 0 d).id.0) a ≡ false → same_tree (tree_at nodes (get_or ks 0 d).id.0) b ≡ false → Chosen ts ≡ no_value
  none_chosen (x ∷ y ∷ z ∷ []) (t ∷ u ∷ v ∷ []) g n e q =
      let first : same_tree (norm (theory_at s) t) a ≡ false = subst (λ w. same_tree w a ≡ false) g.0.stands e in
      let second : same_tree (norm (theory_at s) t) b ≡ false = subst (λ w. same_tree w b ≡ false) g.0.stands q in
      ap (λ (c : Bool). if c then value (norm (theory_at s) u) else if same_tree (norm (theory_at s) t) b then value (norm (theory_at s) v) else no_value) first
      ∙ ap (λ (c : Bool). if c then value (norm (theory_at s) v) else no_value) second
  none_chosen [] ts g n e q = absurd (omega (arith, n))
  none_chosen (x ∷ []) ts g n e q = absurd (omega (arith, n))
  none_chosen (x ∷ y ∷ []) ts g n e q = absurd (omega (arith, n))
  none_chosen (x ∷ y ∷ z ∷ w ∷ ks) ts g n e q = absurd (omega (arith, n))
  none_chosen (x ∷ y ∷ z ∷ []) [] g n e q = absurd g
  none_chosen (x ∷ y ∷ z ∷ []) (t ∷ []) g n e q = absurd g.1
  none_chosen (x ∷ y ∷ z ∷ []) (t ∷ u ∷ []) g n e q = absurd g.1.1
  none_chosen (x ∷ y ∷ z ∷ []) (t ∷ u ∷ v ∷ w ∷ ts) g n e q = absurd g.1.1.1

-- ---- constants

pub over_none : (s : SignatureOf) (f : ℕ) (P : Tree → Type 0) → With (over s f []) P → P (apply f no_trees)
over_none s f P h = by (theory_at s f).assoc h
  where
    by : (a : Bool) → With (if a && nat_lt 0 2 then None else Some (nest a f [])) P → P (apply f no_trees)
    by true w = absurd w
    by false w = w

pub none_over : (s : SignatureOf) → IsLawful (terms_over s) → (f : ℕ) → IsBareWithin s (apply f no_trees) → With (over s f []) (IsBareWithin s)
none_over s lawful f w = by (theory_at s f).assoc refl
  where
    no_arguments : (ks : List ℕ) (k l : ℕ) → ks ≡ k ∷ l ∷ [] → AreBareIn (terms_over s) no_trees ks → ⊥
    no_arguments ks k l e b = subst (AreBareIn (terms_over s) no_trees) e b

    by : (a : Bool) → (theory_at s f).assoc ≡ a → With (if a && nat_lt 0 2 then None else Some (nest a f [])) (IsBareWithin s)
    by true e = absurd (no_arguments ((terms_over s).arguments f) ((terms_over s).result f) ((terms_over s).result f) (lawful.assoc_kinds f e) w.0.1.2)
    by false e = w

pub no_constant : (s : SignatureOf) → IsBareWithin s (apply 0 no_trees) → ⊥
no_constant s w = let e : false ≡ true = w.0.1.0 in absurd cc

-- ---- comparisons

pub not_two : (a b : Tree) (h : Theory) (f : ℕ) (ts : List Tree) → (length ts ≡ 2 → ⊥) → native_on (equality a b) h f ts ≡ no_value
not_two a b h f [] n = refl
not_two a b h f (t ∷ []) n = refl
not_two a b h f (t ∷ u ∷ []) n = absurd (n refl)
not_two a b h f (t ∷ u ∷ v ∷ ts) n = refl

-- the constant that is given is there, or not within the limits
module _ (s : SignatureOf) (lawful : IsLawful (terms_over s)) (nodes : List Node) (k : ℕ) (a : Answer) (c : Tree) (e : a ≡ value c) (b : IsBareIn (terms_over s) c k) where
  pub constant_given : (x : Kept) → IsKeptFor s nodes x c → IsGiven s nodes k a (Some x.id)
  constant_given x h = (c, e, kept_part s lawful nodes x c c k h (one_kind (terms_over s) c x.kind k h.kind b) refl)

  pub constant_missing : (IsBareWithin s c → ⊥) → IsGiven s nodes k a None
  constant_missing n v d w =
      let same : c ≡ v = let q : value c ≡ value v = sym e ∙ d in cc in
      n ((k, b), subst (λ z. IsWithin (theory_at s) (norm (theory_at s) z)) (sym same) (value_within s lawful v w))

-- ---- lists of native operators

-- the normal forms of what is kept
abbrev pub norms_kept : List Node → List Kept → List Tree
norms_kept nodes ks = map (λ k. tree_at nodes k.id.0) ks

pub kept_norms : (s : SignatureOf) (nodes : List Node) (ks : List Kept) (ts : List Tree) → AreKeptFor s nodes ks ts → norms_kept nodes ks ≡ map (norm (theory_at s)) ts
kept_norms s nodes [] [] h = refl
kept_norms s nodes [] (t ∷ ts) h = absurd h
kept_norms s nodes (k ∷ ks) [] h = absurd h
kept_norms s nodes (k ∷ ks) (t ∷ ts) h = ap₂ (λ v vs. v ∷ vs) h.0.stands (kept_norms s nodes ks ts h.1)

module _ (a : Bool) (id : Option Identity) (f : ℕ) where
  -- the number of pieces of some trees
  abbrev pub count : List Tree → ℕ
  count ts = length (all_pieces a id f ts)

  pub count_one : (nodes : List Node) (ks : List Kept) (i : ℕ) (d : Kept) → i < length ks →
      count (norms_kept nodes (take (suc i) ks)) ≡ count (norms_kept nodes (take i ks)) + length (pieces a id f (tree_at nodes (get_or ks i d).id.0))
  count_one nodes [] i d l = absurd (omega arith)
  count_one nodes (k ∷ ks) zero d l = let e = length-append (pieces a id f (tree_at nodes k.id.0)) [] in omega (arith, e)
  count_one nodes (k ∷ ks) (suc i) d l =
      let p = pieces a id f (tree_at nodes k.id.0) in
      let more = length-append p (all_pieces a id f (norms_kept nodes (take (suc i) ks))) in
      let less = length-append p (all_pieces a id f (norms_kept nodes (take i ks))) in
      let rest = count_one nodes ks i d (omega arith) in
      omega (arith, more, less, rest)

  pub count_least : (nodes : List Node) (ks : List Kept) (i : ℕ) → count (norms_kept nodes (take i ks)) ≤ count (norms_kept nodes ks)
  count_least nodes ks zero = omega arith
  count_least nodes [] (suc i) = omega arith
  count_least nodes (k ∷ ks) (suc i) =
      let p = pieces a id f (tree_at nodes k.id.0) in
      let whole = length-append p (all_pieces a id f (norms_kept nodes ks)) in
      let part = length-append p (all_pieces a id f (norms_kept nodes (take i ks))) in
      let rest = count_least nodes ks i in
      omega (arith, whole, part, rest)

length_arranged : (c : Bool) (ts : List Tree) → length (arrange c ts) ≡ length ts
length_arranged true ts = length_sort ts
length_arranged false ts = refl

-- a list of two or more stays under the operator
finished : (a : Bool) (id : Option Identity) (u : Bool) (f : ℕ) (ts : List Tree) → 2 ≤ length ts → finish a id u f ts ≡ node f ts
finished a id u f [] l = absurd (omega arith)
finished a id u f (t ∷ []) l = absurd (omega arith)
finished true None u f (t ∷ v ∷ ts) l = refl
finished true (Some i) u f (t ∷ v ∷ ts) l = refl
finished false None u f (t ∷ v ∷ ts) l = refl
finished false (Some i) u f (t ∷ v ∷ ts) l = refl

module _ (s : SignatureOf) (lawful : IsLawful (terms_over s)) (f : ℕ) (ts : List Tree) where
  -- the list of the operator over these terms
  abbrev pub listed : List Tree
  listed = arrange (theory_at s f).comm (all_pieces (theory_at s f).assoc (theory_at s f).id f (map (norm (theory_at s)) ts))

  pub listed_length : length listed ≡ count (theory_at s f).assoc (theory_at s f).id f (map (norm (theory_at s)) ts)
  listed_length = length_arranged (theory_at s f).comm (all_pieces (theory_at s f).assoc (theory_at s f).id f (map (norm (theory_at s)) ts))

  pub whole_listed : 2 ≤ count (theory_at s f).assoc (theory_at s f).id f (map (norm (theory_at s)) ts) → norm (theory_at s) (nest (theory_at s f).assoc f ts) ≡ node f listed
  whole_listed l =
      sym (list_stands_for_nested (theory_at s) lawful.theories f ts)
      ∙ norm-node (theory_at s) f (map (norm (theory_at s)) ts)
      ∙ ap (build (theory_at s f) f) (map-norm-norm (theory_at s) lawful.theories ts)
      ∙ finished (theory_at s f).assoc (theory_at s f).id (theory_at s f).succ f listed (omega (arith, l, listed_length))

-- a function of numerals looks at this list
pub numerals_listed : (o : Option BuiltIn) → IsOnNumerals o → (s : SignatureOf) (lawful : IsLawful (terms_over s)) (f : ℕ) (ts : List Tree) → answer_by o s f ts ≡ native_by o (theory_at s f) f (listed s lawful f ts)
numerals_listed o no_function s lawful f ts = refl
numerals_listed o (function op) s lawful f ts = refl

pub few_numerals : (o : Option BuiltIn) → IsOnNumerals o → (h : Theory) (f : ℕ) (us : List Tree) → (2 ≤ length us → ⊥) → native_by o h f us ≡ no_value
few_numerals o is h f us few = on_others o is h f us (λ m n vs e. few (let l = ap length e in omega (arith, l)))

-- ---- by name

branch_name : (s : SignatureOf) (hooks : List Operator) (f : ℕ) (b : BuiltIn) (x y : Tree) → IsBuiltIn s hooks f b → b ≡ choice x y → name_at s f ≡ Some (codes "branch")
branch_name s hooks f b x y (is_branch n) e = n
branch_name s hooks f b x y (is_same n) e = absurd cc
branch_name s hooks f b x y (is_differ n) e = absurd cc
branch_name s hooks f b x y (is_native o n) e = absurd cc

same_truths : (s : SignatureOf) (hooks : List Operator) (f : ℕ) (b : BuiltIn) (x y : Tree) → IsBuiltIn s hooks f b → b ≡ equality x y →
    (name_at s f ≡ Some (codes "same")) × (x ≡ true_in s (result_kind s f)) × (y ≡ false_in s (result_kind s f)) ⊎ (name_at s f ≡ Some (codes "differ")) × (x ≡ false_in s (result_kind s f)) × (y ≡ true_in s (result_kind s f))
same_truths s hooks f b x y (is_branch n) e = absurd cc
same_truths s hooks f b x y (is_same n) e =
    let p : x ≡ true_in s (result_kind s f) = cc in
    let q : y ≡ false_in s (result_kind s f) = cc in
    inl (n, p, q)
same_truths s hooks f b x y (is_differ n) e =
    let p : x ≡ false_in s (result_kind s f) = cc in
    let q : y ≡ true_in s (result_kind s f) = cc in
    inr (n, p, q)
same_truths s hooks f b x y (is_native o n) e = absurd cc

module _ (p : Program) (lawful : IsLawfulProgram p) (bare : IsLawful (terms_over p.sig)) (hooks : List Operator) (f : ℕ) (is : IsOperator p.sig f) where
  pub truths_lie : (t : Truths) (k : ℕ) → built_in_at p.sig hooks f ≡ Some (equality (constant_tree t.yes) (constant_tree t.no)) → result_kind p.sig f ≡ k → TruthsLieIn p.sig k t
  truths_lie t k e r =
      by (same_truths p.sig hooks f (equality (constant_tree t.yes) (constant_tree t.no)) (constant_tree t.yes) (constant_tree t.no) ((built_ins_are_named p.sig hooks f (equality (constant_tree t.yes) (constant_tree t.no))).0 e) refl)
    where
      at : (x : Tree) (y : Tree) → x ≡ y → IsBareIn (terms_over p.sig) y (result_kind p.sig f) → IsBareIn (terms_over p.sig) x k
      at x y q h = subst (λ z. IsBareIn (terms_over p.sig) z k) (sym q) (subst (IsBareIn (terms_over p.sig) y) r h)

      by : (name_at p.sig f ≡ Some (codes "same")) × (constant_tree t.yes ≡ true_in p.sig (result_kind p.sig f)) × (constant_tree t.no ≡ false_in p.sig (result_kind p.sig f)) ⊎ (name_at p.sig f ≡ Some (codes "differ")) × (constant_tree t.yes ≡ false_in p.sig (result_kind p.sig f)) × (constant_tree t.no ≡ true_in p.sig (result_kind p.sig f)) → TruthsLieIn p.sig k t
      by (inl h) = let d = (lawful_declares p lawful f is).same h.0 in (at (constant_tree t.yes) (true_in p.sig (result_kind p.sig f)) h.1 d.0, at (constant_tree t.no) (false_in p.sig (result_kind p.sig f)) h.2 d.1)
      by (inr h) = let d = (lawful_declares p lawful f is).differ h.0 in (at (constant_tree t.yes) (false_in p.sig (result_kind p.sig f)) h.1 d.1, at (constant_tree t.no) (true_in p.sig (result_kind p.sig f)) h.2 d.0)

  chosen_kinds : (ks : List Kept) (j k : ℕ) → kinds_of ks ≡ j ∷ k ∷ k ∷ [] → ChosenLieIn k ks
  chosen_kinds (x ∷ y ∷ z ∷ []) j k e =
      let a : y.kind ≡ k = cc in
      let b : z.kind ≡ k = cc in
      (a, b)
  chosen_kinds [] j k e = tt
  chosen_kinds (x ∷ []) j k e = tt
  chosen_kinds (x ∷ y ∷ []) j k e = tt
  chosen_kinds (x ∷ y ∷ z ∷ w ∷ ks) j k e = tt

  all_kinds : (ks : List Kept) (k : ℕ) → All (λ j. j ≡ k) (kinds_of ks) → ChosenLieIn k ks
  all_kinds (x ∷ y ∷ z ∷ []) k h = (h 1 0 (omega arith), h 2 0 (omega arith))
  all_kinds [] k h = tt
  all_kinds (x ∷ []) k h = tt
  all_kinds (x ∷ y ∷ []) k h = tt
  all_kinds (x ∷ y ∷ z ∷ w ∷ ks) k h = tt

  pub chosen_lie : (x y : Tree) (k : ℕ) → built_in_at p.sig hooks f ≡ Some (choice x y) → result_kind p.sig f ≡ k → (ks : List Kept) → SuitsKinds p.sig f (kinds_of ks) → ChosenLieIn k ks
  chosen_lie x y k e r ks suits = by (theory_at p.sig f).assoc suits
    where
      declared : (j : ℕ) × ((terms_over p.sig).arguments f ≡ j ∷ result_kind p.sig f ∷ result_kind p.sig f ∷ [])
      declared = (lawful_declares p lawful f is).branch (branch_name p.sig hooks f (choice x y) x y ((built_ins_are_named p.sig hooks f (choice x y)).0 e) refl)

      by : (a : Bool) → MatchBool a ((2 ≤ length (kinds_of ks)) × All (λ q. q ≡ (terms_over p.sig).result f) (kinds_of ks)) (kinds_of ks ≡ (terms_over p.sig).arguments f) → ChosenLieIn k ks
      by true h = all_kinds ks k (subst (λ z. All (λ q. q ≡ z) (kinds_of ks)) r h.1)
      by false h = chosen_kinds ks declared.0 k (subst (λ z. kinds_of ks ≡ declared.0 ∷ z ∷ z ∷ []) r (h ∙ declared.1))

-- ---- native operators

normal_given : (s : SignatureOf) (b : BuiltIn) → built.GivesNormal s b → GivesNormal s b
normal_given s (on_numerals op) d = d
normal_given s (choice x y) d = d
normal_given s (equality x y) d = d

pub gives_in_kind : (p : Program) → IsLawfulProgram p → IsLawful (terms_over p.sig) → (hooks : List Operator) → All GivesNumerals hooks → GivesInKind p.sig hooks
gives_in_kind p lawful bare hooks numerals =
    let both = built_ins_give_their_kind p lawful bare hooks numerals in
    record { kinds = both.0; normal = λ f b there e. normal_given p.sig b (both.1 f b there e) }

-- what is kept is a term, of the term's kind
pub kept_term : (s : SignatureOf) → IsLawful (terms_over s) → (nodes : List Node) (x : Kept) (t : Tree) (k : ℕ) → IsKeptFor s nodes x t → IsBareIn (terms_over s) t k → IsTermIn s nodes k x.id.0
kept_term s lawful nodes x t k h b = record {
  within = stands_within s lawful nodes x t h;
  bare = subst (λ z. IsBareIn (terms_over s) (reading (theory_at s) z) k) (sym h.stands) (read_bare s lawful t k b);
}

pub value_given : (nodes : List Node) (th : ℕ → Theory) (t : Tree) (g : Given) → GivesValue g → answer_of nodes th t g ≡ value (given_value nodes th t g)
value_given nodes th t Nothing h = absurd h
value_given nodes th t TooLarge h = absurd h
value_given nodes th t (Argument i) h = refl
value_given nodes th t (Whole l) h = refl
value_given nodes th t (Before l) h = refl

pub no_value_given : (nodes : List Node) (th : ℕ → Theory) (t : Tree) (g : Given) → (GivesValue g → ⊥) → (v : Tree) → answer_of nodes th t g ≡ value v → ⊥
no_value_given nodes th t Nothing h v e = absurd cc
no_value_given nodes th t TooLarge h v e = absurd cc
no_value_given nodes th t (Argument i) h v e = h tt
no_value_given nodes th t (Whole l) h v e = h tt
no_value_given nodes th t (Before l) h v e = h tt

-- the value that is taken
pub taken : (s : SignatureOf) → IsLawful (terms_over s) → (old new : List Node) (k : ℕ) (a : Answer) (t : Tree) (g : Given) (i : TermId) → a ≡ answer_of old (theory_at s) t g → GivesValue g →
    StandsFor (theory_at s) new i.0 (given_value old (theory_at s) t g) → IsTermIn s new k i.0 → IsGiven s new k a (Some i)
taken s lawful old new k a t g i e gives stands term =
    let v = given_value old (theory_at s) t g in (
      v,
      e ∙ value_given old (theory_at s) t g gives,
      record {
        kind = subst (λ z. IsBareIn (terms_over s) (reading (theory_at s) z) k) stands term.bare;
        within = term.within;
        stands = stands ∙ sym (norm-reading-is (theory_at s) lawful.theories (norm (theory_at s) v) (norm-norm (theory_at s) lawful.theories v));
      },
    )

-- a value that is refused is not within the limits
pub refused : (s : SignatureOf) → IsLawful (terms_over s) → (old new : List Node) (k : ℕ) (a : Answer) (t : Tree) (g : Given) (x : End) → a ≡ answer_of old (theory_at s) t g → GivesValue g →
    admit (theory_at s) (given_value old (theory_at s) t g) 0 ≡ ended x → IsGiven s new k a None
refused s lawful old new k a t g x e gives ends v d w =
    let u = given_value old (theory_at s) t g in
    let same : u ≡ v = let q : value u ≡ value v = sym (value_given old (theory_at s) t g gives) ∙ sym e ∙ d in cc in
    let within = subst (λ z. IsWithin (theory_at s) (norm (theory_at s) z)) (sym same) (value_within s lawful v w) in
    let q : done (norm (theory_at s) u) 0 0 ≡ ended x = sym (within_given (theory_at s) (norm (theory_at s) u) 0 within) ∙ ends in
    absurd cc

-- ---- two that are compared

truth_at : (s : SignatureOf) (k : ℕ) (x y z : Tree) (b : Bool) → z ≡ (if b then x else y) → IsBareIn (terms_over s) x k → IsBareIn (terms_over s) y k → IsBareIn (terms_over s) z k
truth_at s k x y z true e h g = subst (λ w. IsBareIn (terms_over s) w k) (sym e) h
truth_at s k x y z false e h g = subst (λ w. IsBareIn (terms_over s) w k) (sym e) g

pub truth_lies : (s : SignatureOf) (k : ℕ) (t : Truths) (b : Bool) (z : Tree) → z ≡ (if b then constant_tree t.yes else constant_tree t.no) → TruthsLieIn s k t → IsBareIn (terms_over s) z k
truth_lies s k t b z e h = truth_at s k (constant_tree t.yes) (constant_tree t.no) z b e h.0 h.1

kept_there : (s : SignatureOf) (nodes : List Node) (ks : List Kept) (ts : List Tree) → AreKeptFor s nodes ks ts → AreOf nodes (numbers (map (λ k. k.id) ks))
kept_there s nodes [] [] h = All-nil (IsOf nodes)
kept_there s nodes [] (t ∷ ts) h = absurd h
kept_there s nodes (k ∷ ks) [] h = absurd h
kept_there s nodes (k ∷ ks) (t ∷ ts) h = All-cons (IsOf nodes) k.id.0 (numbers (map (λ k. k.id) ks)) h.0.there (kept_there s nodes ks ts h.1)

two_ids : (ks : List Kept) (d : Kept) → length ks ≡ 2 → ((get_or (map (λ k. k.id) ks) 0 d.id) ≡ (get_or ks 0 d).id) × ((get_or (map (λ k. k.id) ks) 1 d.id) ≡ (get_or ks 1 d).id) × (length (map (λ k. k.id) ks) ≡ 2)
two_ids (x ∷ y ∷ []) d l = (refl, refl, refl)
two_ids [] d l = absurd (omega (arith, l))
two_ids (x ∷ []) d l = absurd (omega (arith, l))
two_ids (x ∷ y ∷ z ∷ ks) d l = absurd (omega (arith, l))

pub compared_is : (s : SignatureOf) (nodes : List Node) → AreNodes nodes → (ks : List Kept) (ts : List Tree) (a b : Tree) (h : Theory) (f : ℕ) (r : Bool) (d : Kept) → AreKeptFor s nodes ks ts → length ks ≡ 2 → r ≡ nat_eq (get_or ks 0 d).id.0 (get_or ks 1 d).id.0 →
    native_on (equality a b) h f (map (norm (theory_at s)) ts) ≡ value (if r then a else b)
compared_is s nodes are ks ts a b h f r d kept l e =
    let ids = two_ids ks d l in
    ap (native_on (equality a b) h f) (sym (kept_trees s nodes ks ts kept))
    ∙ equal_two nodes are (map (λ k. k.id) ks) d.id a b h f r ids.2 (kept_there s nodes ks ts kept) (e ∙ ap₂ (λ (x y : TermId). nat_eq x.0 y.0) (sym ids.0) (sym ids.1))

-- ---- the kind of an operator over terms

pub over_kind : (s : SignatureOf) (f : ℕ) (ts : List Tree) (k : ℕ) → With (over s f ts) (λ t. IsBareIn (terms_over s) t k) → (terms_over s).result f ≡ k
over_kind s f ts k w =
    let g = from_over s f ts (λ t. IsBareIn (terms_over s) t k) w in
    by (theory_at s f).assoc ts g.0 g.1
  where
    by : (a : Bool) (us : List Tree) → (a ≡ true → 2 ≤ length us) → IsBareIn (terms_over s) (nest a f us) k → (terms_over s).result f ≡ k
    by false us m b = b.1
    by true [] m b = b.1
    by true (t ∷ []) m b = absurd (let l = m refl in omega arith)
    by true (t ∷ u ∷ us) m b = b.1

-- ---- one use of what is built in

-- what fills the only hole of a bare term is bare
module _ (s : TermSignature) (u : Tree) where
  variable_bare : (o : Bool) (i r j : ℕ) → ((if o then r ∷ [] else []) ≡ [] → ⊥) → IsBareIn s (if o then u else variable i r) j → IsBare s u
  variable_bare true i r j h w = (j, w)
  variable_bare false i r j h w = absurd (h refl)

  either_bare : (xs ys : List ℕ) → ((xs ≡ [] → ⊥) → IsBare s u) → ((ys ≡ [] → ⊥) → IsBare s u) → (xs ++ ys ≡ [] → ⊥) → IsBare s u
  either_bare [] ys left right some = right some
  either_bare (x ∷ xs) ys left right some = left (λ e. cc)

  mutual
    hole_bare : (c : Tree) (j : ℕ) → (holes c ≡ [] → ⊥) → IsBareIn s (fill c u) j → IsBare s u
    hole_bare (variable i r) j some b = variable_bare (i == hole_index) i r j some b
    hole_bare (numeral n) j some b = absurd (some refl)
    hole_bare (apply f cs) j some b = holes_bare cs (s.arguments f) some b.2

    holes_bare : (cs : Trees) (js : List ℕ) → (holes_in cs ≡ [] → ⊥) → AreBareIn s (instances (filler u) cs) js → IsBare s u
    holes_bare no_trees js some b = absurd (some refl)
    holes_bare (tree c cs) [] some b = absurd b
    holes_bare (tree c cs) (j ∷ js) some b = either_bare (holes c) (holes_in cs) (λ h. hole_bare c j h b.0) (λ h. holes_bare cs js h b.1) some

module _ (s : SignatureOf) (lawful : IsLawful (terms_over s)) (hooks : List Operator) (f : ℕ) (c t u : Tree) (ts : List Tree) where
  pub built_missing : (With (over s f ts) (IsBareWithin s) → ⊥) → IsBare (terms_over s) c → IsBareWithin s t → UsesBuilt s hooks f c t u ts → ⊥
  built_missing none bc wt h =
      none (with_is (over s f ts) h.whole (IsBareWithin s) h.over_arguments ((h.context.0, h.context.1), part_within s lawful c h.whole h.whole t bc h.context wt h.from))

  pub one_whole : (w : Tree) → over s f ts ≡ Some w → (h : UsesBuilt s hooks f c t u ts) → h.whole ≡ w
  one_whole w e h = let q : Some h.whole ≡ Some w = sym h.over_arguments ∙ e in cc

  some_hole : (w : Tree) → IsContextFor (terms_over s) w c → holes c ≡ [] → ⊥
  some_hole w (k, b, e) n = let d : k ∷ [] ≡ [] = sym e ∙ n in cc

  pub value_missing : (nodes : List Node) (k : ℕ) → IsGiven s nodes k (built_answer s hooks f ts) None → IsBare (terms_over s) c → IsBareWithin s u → UsesBuilt s hooks f c t u ts → ⊥
  value_missing nodes k none bc wu h =
      let v = reading (theory_at s) (norm (theory_at s) h.answer) in
      let filled = first_bare h.to in
      none h.answer h.gives (hole_bare (terms_over s) v c filled.0 (some_hole h.whole h.context) filled.1, part_within s lawful c h.whole v u bc h.context wu (EqualModulo-sym h.to))

  pub built_made : (w v : Tree) → IsOperator s f → over s f ts ≡ Some w → built_answer s hooks f ts ≡ value v → IsContextFor (terms_over s) w c → EqualModulo (terms_over s) t (fill c w) →
      EqualModulo (terms_over s) u (fill c (reading (theory_at s) (norm (theory_at s) v))) → UsesBuilt s hooks f c t u ts
  built_made w v is o a context from to = record {
    operator = is;
    whole = w;
    over_arguments = o;
    answer = v;
    gives = a;
    context = context;
    from = from;
    to = EqualModulo-sym to;
  }

  pub built_to : (v : Tree) → built_answer s hooks f ts ≡ value v → UsesBuilt s hooks f c t u ts → EqualModulo (terms_over s) u (fill c (reading (theory_at s) (norm (theory_at s) v)))
  built_to v a h =
      let q : value h.answer ≡ value v = sym h.gives ∙ a in
      let same : h.answer ≡ v = cc in
      subst (λ z. EqualModulo (terms_over s) u (fill c (reading (theory_at s) (norm (theory_at s) z)))) same (EqualModulo-sym h.to)

pub with_extended : (s : SignatureOf) (old new : List Node) (x : Kept) (o : Option Tree) → Extends old new → With o (IsKeptFor s old x) → With o (IsKeptFor s new x)
with_extended s old new x o e w = with_weaker o (IsKeptFor s old x) (IsKeptFor s new x) (λ t h. kept_extended s old new e x t h) w

-- ---- the fact

abbrev pub OfBuilt : SignatureOf → List Operator → ℕ → Tree → Tree → Tree → List Tree → List Says → Type 0
OfBuilt s hooks f c t u ts us = UsesBuilt s hooks f c t u ts

pub built_operator : (p : Program) (hooks : List Operator) (terms : List (Option Tree)) (before : List Says) (f : BuiltFact) → IsJustified p hooks terms before (Built f) → IsOperator p.sig f.op
built_operator p hooks terms before f w = (some_holds p.sig terms [] (numbers_of_built f) (OfBuilt p.sig hooks f.op) w).holds.operator
