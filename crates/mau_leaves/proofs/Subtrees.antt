-- The subterms of a term, one after another, and those that are left of a walk through them.
use Rattle.std.proofs.Common.{◌≡◌, ℕ, suc, ◌≤◌, List, [], ◌∷◌, ◌++◌, map, length, drop, Bool, true, false, Some, All, slice_get, refl, sym, ap, ap₂, ◌∙◌, append_assoc, append-nil}
use Rattle.std.proofs.Math.ListN.{drop_of_length-le}
use Rattle.std.proofs.Math.Seq.{drop-cons}
use Rattle.std.proofs.lemmas.List.{map-append}
use Rattle.std.proofs.lemmas.List.Elements.{All-head, All-tail}
use Rattle.std.specs.Option.{option_map}
use Rattle.std.proofs.lemmas.Option.{slice_get-map, slice_get_within, get_or_from_slice_get}
use Rattle.mau_terms.specs.Tree.{Tree, variable, numeral, apply, Trees, no_trees, tree, node, list_of}
use Rattle.mau_terms.specs.Finite.{each_of, arguments_of}
use Rattle.mau_terms.specs.Bare.{IsLawful}
use Rattle.mau_signature.specs.Signature.{SignatureOf, theory_at, terms_over}
use Rattle.mau_store.specs.Node.{Node, AreNodes, Extends}
use Rattle.mau_store.specs.Trees.{tree_at}
use Rattle.mau_sorts.specs.Table.{Table, KeepsEntries}
use Rattle.mau_program.specs.declared.program.Program as Typed
use Rattle.mau_evaluation.specs.Program.{Rule, Program}
use Rattle.mau_evaluation.specs.Evaluation.{Binding}
use Rattle.mau_evaluation.specs.Engine.{Engine}
use Rattle.mau_evaluation.specs.Rules.{places, places_in}
use Rattle.mau_evaluation.specs.Answers.{answers_of, and_those, for_each}
use Rattle.mau_reduce.proofs.KindsKept.{tree_kept}
use Rattle.mau_rules.specs.declared.walk.Open.{Open}
use Rattle.mau_rules.specs.Walk.{Opened, opened, IsStep}
use Rattle.mau_rules.proofs.Paths.{path_term, path_settled}
use Rattle.mau_leaves.specs.Uses.{solutions_as, uses_at, uses_among, uses_by}
use Rattle.mau_leaves.specs.Subterms.{subterms, subterms_in, subterms_from, subterms_left, terms_after, uses_in, IsSubject, IsOpenSubject}
use Rattle.mau_leaves.proofs.Rewrites.{each_those}
use Rattle.mau_leaves.proofs.Searching.{term_grown, settled_later}

-- ---- by trees

each_append : {A B : Type 0} (f : A → List B) (xs ys : List A) → each_of f (xs ++ ys) ≡ each_of f xs ++ each_of f ys
each_append f [] ys = refl
each_append f (x ∷ xs) ys = ap (λ zs. f x ++ zs) (each_append f xs ys) ∙ sym (append_assoc (f x) (each_of f xs) (each_of f ys))

all_in : (ts : Trees) → subterms_in ts ≡ each_of subterms (list_of ts)
all_in no_trees = refl
all_in (tree t ts) = ap (λ zs. subterms t ++ zs) (all_in ts)

-- a term comes before what is below it
pub itself_first : (t : Tree) → subterms t ≡ t ∷ subterms_from t 0
itself_first (variable i s) = refl
itself_first (numeral n) = refl
itself_first (apply f ts) = ap (λ zs. apply f ts ∷ zs) (all_in ts)

-- the terms at all places, frozen arguments or not, are the subterms
module _ {A : Type 0} (h : Tree → List A) where
  mutual
    pub at_places : (around : Tree → Tree) (t : Tree) → each_of (λ s. h s.term) (places (λ f n. false) around t) ≡ each_of h (subterms t)
    at_places around (variable i s) = refl
    at_places around (numeral n) = refl
    at_places around (apply f ts) = ap (λ zs. h (apply f ts) ++ zs) (in_places around f [] 0 ts)

    in_places : (around : Tree → Tree) (f : ℕ) (before : List Tree) (n : ℕ) (ts : Trees) → each_of (λ s. h s.term) (places_in (λ f n. false) around f before n ts) ≡ each_of h (subterms_in ts)
    in_places around f before n no_trees = refl
    in_places around f before n (tree t ts) =
        each_append (λ s. h s.term) (places (λ f n. false) (λ v. around (node f (before ++ v ∷ list_of ts))) t) (places_in (λ f n. false) around f (before ++ t ∷ []) (suc n) ts)
        ∙ (ap₂ (λ xs ys. xs ++ ys) (at_places (λ v. around (node f (before ++ v ∷ list_of ts))) t) (in_places around f (before ++ t ∷ []) (suc n) ts) ∙ sym (each_append h (subterms t) (subterms_in ts)))

-- one argument more is behind
pub from_next : (t : Tree) (n : ℕ) (u : Tree) → slice_get (arguments_of t) n ≡ Some u → subterms_from t n ≡ subterms u ++ subterms_from t (suc n)
from_next t n u at =
    let us = arguments_of t in
    ap (each_of subterms) (drop-cons us n u (slice_get_within us n u at) ∙ ap (λ y. y ∷ drop (suc n) us) (get_or_from_slice_get us n u u at))

-- behind all arguments nothing is left
pub from_none : (t : Tree) (n : ℕ) → length (arguments_of t) ≤ n → subterms_from t n ≡ []
from_none t n h = ap (each_of subterms) (drop_of_length-le (arguments_of t) h)

-- the tree of an argument
pub tree_there : (nodes : List Node) (ids : List ℕ) (n child : ℕ) → slice_get ids n ≡ Some child → slice_get (map (tree_at nodes) ids) n ≡ Some (tree_at nodes child)
tree_there nodes ids n child at = slice_get-map (tree_at nodes) ids n ∙ ap (option_map (tree_at nodes)) at

-- what is left, where one more term is open
left_more : (os : List Opened) (t : Tree) (n : ℕ) → subterms_left (os ++ (t, n) ∷ []) ≡ subterms_from t n ++ subterms_left os
left_more [] t n = sym (append-nil (subterms_from t n))
left_more (o ∷ os) t n = ap (λ zs. zs ++ subterms_from o.0 o.1) (left_more os t n) ∙ append_assoc (subterms_from t n) (subterms_left os) (subterms_from o.0 o.1)

module _ (nodes : List Node) (way : List Open) (t : Tree) (n : ℕ) (o : Open) (next : List Open) where
  -- an argument is entered
  pub after_entered : (u : Tree) → subterms_from t n ≡ subterms u ++ subterms_from (tree_at nodes o.term.0) o.next → next ≡ way ++ o ∷ [] → terms_after true nodes way t n ≡ u ∷ terms_after true nodes next u 0
  after_entered u parts more =
      let left = subterms_left (map (opened nodes) way) in
      let behind = subterms_from (tree_at nodes o.term.0) o.next in
      ap (λ zs. zs ++ left) parts
      ∙ (append_assoc (subterms u) behind left
      ∙ (ap₂ (λ xs ys. xs ++ ys) (itself_first u)
      (sym (left_more (map (opened nodes) way) (tree_at nodes o.term.0) o.next)
      ∙ ap subterms_left (sym (ap (map (opened nodes)) more ∙ map-append (opened nodes) way (o ∷ []))))))

  -- the term around is gone on with
  pub after_left : subterms_from t n ≡ [] → way ≡ next ++ o ∷ [] → terms_after true nodes way t n ≡ terms_after true nodes next (tree_at nodes o.term.0) o.next
  after_left none less =
      ap (λ zs. zs ++ subterms_left (map (opened nodes) way)) none
      ∙ (ap (λ os. subterms_left (map (opened nodes) os)) less
      ∙ (ap subterms_left (map-append (opened nodes) next (o ∷ [])) ∙ left_more (map (opened nodes) next) (tree_at nodes o.term.0) o.next))

pub after_all : (nodes : List Node) (way : List Open) (t : Tree) (n : ℕ) → subterms_from t n ≡ [] → way ≡ [] → terms_after true nodes way t n ≡ []
after_all nodes way t n none ends = ap₂ (λ xs os. xs ++ subterms_left (map (opened nodes) os)) none ends

-- ---- uses

answers_append : {A : Type 0} (xs ys : List A) → answers_of (xs ++ ys) ≡ and_those (answers_of xs) (answers_of ys)
answers_append [] ys = refl
answers_append (x ∷ xs) ys = ap (λ p. and_those (answers_of (x ∷ [])) p) (answers_append xs ys)

-- the uses by all solutions in some terms are those in each
pub among_each : (P : Program) (L : Engine) (w : Bool) (q : Rule) (σ : Binding) (ts : List Tree) → uses_among P L q σ (each_of (solutions_as P w q) ts) ≡ uses_in P L w q σ ts
among_each P L w q σ [] = refl
among_each P L w q σ (t ∷ ts) =
    let xs = solutions_as P w q t in
    let ys = each_of (solutions_as P w q) ts in
    ap (for_each (uses_at P L q σ)) (answers_append xs ys) ∙ (each_those (uses_at P L q σ) (answers_of xs) (answers_of ys) ∙ ap (and_those (uses_by P L w q σ t)) (among_each P L w q σ ts))

-- ---- by the numbers of a store

-- an argument of a term whose sorts are settled is one
pub argument_subject : (s : SignatureOf) → IsLawful (terms_over s) → (nodes : List Node) → AreNodes nodes → (table : Table) (o : Open) (child : ℕ) → IsStep nodes o child → IsSubject s nodes table o.term.0 → IsSubject s nodes table child
argument_subject s lawful nodes are table o child step h = record {
  term = path_term s lawful nodes are o.term.0 (o ∷ []) child h.term (refl, child, step, refl);
  settled = path_settled s nodes are table o.term.0 (o ∷ []) child (refl, child, step, refl) h.settled;
}

module _ (p : Typed.Program) (old new : List Node) (before after : Table) (extends : Extends old new) (kept : KeepsEntries before after) where
  pub subject_grown : (n : ℕ) → IsSubject p.sig old before n → IsSubject p.sig new after n
  subject_grown n h = record { term = term_grown p old new before after extends kept n h.term; settled = settled_later p old new before after extends kept n h.term h.settled }

  pub subject_same : (n : ℕ) → IsSubject p.sig old before n → tree_at new n ≡ tree_at old n
  subject_same n h = tree_kept (theory_at p.sig) old new n extends h.term.within

  way_same : (way : List Open) → All (IsOpenSubject p.sig old before) way → map (opened new) way ≡ map (opened old) way
  way_same [] h = refl
  way_same (o ∷ way) h =
      ap₂ (λ (t : Tree) (os : List Opened). (t, o.next) ∷ os) (subject_same o.term.0 (All-head (IsOpenSubject p.sig old before) o way h)) (way_same way (All-tail (IsOpenSubject p.sig old before) o way h))

  pub after_same : (below : Bool) (way : List Open) → All (IsOpenSubject p.sig old before) way → (i : ℕ) → IsSubject p.sig old before i → (n : ℕ) → terms_after below new way (tree_at new i) n ≡ terms_after below old way (tree_at old i) n
  after_same false way ways i h n = refl
  after_same true way ways i h n = ap₂ (λ (t : Tree) (os : List Opened). subterms_from t n ++ subterms_left os) (subject_same i h) (way_same way ways)
