-- Paths from a root through open terms: their ends, in a store that grows, and the kinds of what stands on them.
use Rattle.std.proofs.Common.{◌≡◌, ◌≤◌, ◌++◌, ◌∷◌, [], List, ℕ, zero, suc, Bool, true, false, Some, inl, inr, All, length, map, slice_get, refl, sym, ap, ap₂, ◌∙◌, subst}
use Rattle.std.specs.Bool.{MatchBool}
use Rattle.std.proofs.lemmas.List.Elements.{All-head, All-tail}
use Rattle.std.proofs.lemmas.Option.{slice_get_within}
use Rattle.mau_terms.specs.Tree.{Tree, trees_of}
use Rattle.mau_terms.specs.Finite.{IsIn, arguments_of}
use Rattle.mau_terms.proofs.Pieces.{list_of-trees_of}
use Rattle.mau_terms.specs.Bare.{TermSignature, IsBareIn, AreBareIn, IsLawful}
use Rattle.mau_terms.specs.Reading.{reading}
use Rattle.mau_signature.specs.Signature.{SignatureOf, theory_at, terms_over}
use Rattle.mau_store.specs.Node.{Node, AreNodes, Extends, operator_node}
use Rattle.mau_store.specs.Trees.{tree_at, trees_at}
use Rattle.mau_store.proofs.Places.{slice_get-front}
use Rattle.mau_store.proofs.Standing.{tree_of_node, tree_at-extends}
use Rattle.mau_sorts.specs.Table.{Table}
use Rattle.mau_listing.proofs.Readied.{argument_below, argument_lower}
use Rattle.mau_canon.specs.Standing.{StandsWithin}
use Rattle.mau_api.specs.Terms.{IsTerm}
use Rattle.mau_api.specs.Answers.{AreSettled}
use Rattle.mau_reduce.specs.Kinds.{IsTermIn, AreUnder}
use Rattle.mau_reduce.proofs.KindsKept.{under_term, is_term_kept, term_kept}
use Rattle.mau_rules.specs.declared.walk.Open.{Open}
use Rattle.mau_rules.specs.Walk.{Opened, opened, IsStep, IsPath, IsWalk, MayReplace}

-- ---- the last one

pub path_on : (nodes : List Node) (root : ℕ) (os : List Open) (o : Open) (child : ℕ) → IsPath nodes root os o.term.0 → IsStep nodes o child → IsPath nodes root (os ++ o ∷ []) child
path_on nodes root [] o child e s = (sym e, child, s, refl)
path_on nodes root (p ∷ ps) o child h s = (h.0, h.1, h.2, path_on nodes h.1 ps o child h.3 s)

pub path_before : (nodes : List Node) (root : ℕ) (os : List Open) (o : Open) (child : ℕ) → IsPath nodes root (os ++ o ∷ []) child → IsPath nodes root os o.term.0
path_before nodes root [] o child h = sym h.0
path_before nodes root (p ∷ ps) o child h = (h.0, h.1, h.2, path_before nodes h.1 ps o child h.3)

pub last_step : (nodes : List Node) (root : ℕ) (os : List Open) (o : Open) (child : ℕ) → IsPath nodes root (os ++ o ∷ []) child → IsStep nodes o child
last_step nodes root [] o child h = subst (IsStep nodes o) h.3 h.2
last_step nodes root (p ∷ ps) o child h = last_step nodes h.1 ps o child h.3

-- it has one root
pub same_root : (nodes : List Node) (i j : ℕ) (os : List Open) (term : ℕ) → IsPath nodes i os term → IsPath nodes j os term → i ≡ j
same_root nodes i j [] term e h = e ∙ sym h
same_root nodes i j (o ∷ os) term e h = sym e.0 ∙ h.0

-- ---- in a store that grows

pub node_kept : (old new : List Node) (i : ℕ) (n : Node) → Extends old new → slice_get old i ≡ Some n → slice_get new i ≡ Some n
node_kept old new i n x e = ap (λ ns. slice_get ns i) x.1 ∙ (slice_get-front old x.0 i (slice_get_within old i n e) ∙ e)

step_kept : (old new : List Node) → Extends old new → (o : Open) (child : ℕ) → IsStep old o child → IsStep new o child
step_kept old new x o child s = record {
  operator = s.operator;
  ids = s.ids;
  at = node_kept old new o.term.0 (operator_node s.operator s.ids) x s.at;
  place = s.place;
  next = s.next;
  argument = s.argument;
}

pub path_kept : (old new : List Node) → Extends old new → (root : ℕ) (os : List Open) (term : ℕ) → IsPath old root os term → IsPath new root os term
path_kept old new x root [] term e = e
path_kept old new x root (o ∷ os) term h = (h.0, h.1, step_kept old new x o h.1 h.2, path_kept old new x h.1 os term h.3)

pub opened_kept : (old new : List Node) → Extends old new → (root : ℕ) (os : List Open) (term : ℕ) → IsPath old root os term → map (opened new) os ≡ map (opened old) os
opened_kept old new x root [] term e = refl
opened_kept old new x root (o ∷ os) term h =
    ap₂ (λ (t : Tree) (ps : List Opened). (t, o.next) ∷ ps) (tree_at-extends old new o.term.0 x (slice_get_within old o.term.0 (operator_node h.2.operator h.2.ids) h.2.at)) (opened_kept old new x h.1 os term h.3)

pub may_replace_kept : (s : SignatureOf) (old new : List Node) (i j : ℕ) → Extends old new → MayReplace s old i j → MayReplace s new i j
may_replace_kept s old new i j x h = (h.0, term_kept s old new h.0 i x h.1, term_kept s old new h.0 j x h.2)

-- ---- kinds

all_there : {A : Type 0} (P : A → Type 0) (xs : List A) (i : ℕ) (x : A) → slice_get xs i ≡ Some x → All P xs → P x
all_there P [] i x e h = cc
all_there P (y ∷ xs) zero x e h = let same : y ≡ x = cc in subst P same (All-head P y xs h)
all_there P (y ∷ xs) (suc i) x e h = all_there P xs i x e (All-tail P y xs h)

module _ (s : TermSignature) (R : Tree → Tree) (nodes : List Node) where
  bare_there : (ids ks : List ℕ) (i child : ℕ) → slice_get ids i ≡ Some child → AreBareIn s (trees_of (map R (trees_at nodes ids))) ks → (k : ℕ) × IsBareIn s (R (tree_at nodes child)) k
  bare_there [] ks i child e h = cc
  bare_there (j ∷ ids) [] i child e h = absurd h
  bare_there (j ∷ ids) (k ∷ ks) zero child e h = let same : j ≡ child = cc in (k, subst (λ m. IsBareIn s (R (tree_at nodes m)) k) same h.0)
  bare_there (j ∷ ids) (k ∷ ks) (suc i) child e h = bare_there ids ks i child e h.1

  all_bare_there : (r : ℕ) (ids : List ℕ) (i child : ℕ) → slice_get ids i ≡ Some child → All (λ t. IsBareIn s (R t) r) (trees_at nodes ids) → IsBareIn s (R (tree_at nodes child)) r
  all_bare_there r [] i child e h = cc
  all_bare_there r (j ∷ ids) zero child e h = let same : j ≡ child = cc in subst (λ m. IsBareIn s (R (tree_at nodes m)) r) same (All-head (λ t. IsBareIn s (R t) r) (tree_at nodes j) (trees_at nodes ids) h)
  all_bare_there r (j ∷ ids) (suc i) child e h = all_bare_there r ids i child e (All-tail (λ t. IsBareIn s (R t) r) (tree_at nodes j) (trees_at nodes ids) h)

-- an argument is a term of some kind
pub argument_in : (s : SignatureOf) (nodes : List Node) (f : ℕ) (ids : List ℕ) (i child : ℕ) → slice_get ids i ≡ Some child → AreUnder s nodes f ids → (k : ℕ) × IsTermIn s nodes k child
argument_in s nodes f ids i child e under = ((by (theory_at s f).assoc under.kinds).0, record { within = all_there (StandsWithin (theory_at s) nodes) ids i child e under.within; bare = (by (theory_at s f).assoc under.kinds).1 })
  where
    R : Tree → Tree
    R = reading (theory_at s)

    by : (a : Bool) → MatchBool a ((2 ≤ length (trees_at nodes ids)) × All (λ t. IsBareIn (terms_over s) (R t) ((terms_over s).result f)) (trees_at nodes ids)) (AreBareIn (terms_over s) (trees_of (map R (trees_at nodes ids))) ((terms_over s).arguments f)) → (k : ℕ) × IsBareIn (terms_over s) (R (tree_at nodes child)) k
    by true h = ((terms_over s).result f, all_bare_there (terms_over s) R nodes ((terms_over s).result f) ids i child e h.1)
    by false h = bare_there (terms_over s) R nodes ids ((terms_over s).arguments f) i child e h

module _ (s : SignatureOf) (lawful : IsLawful (terms_over s)) (nodes : List Node) (are : AreNodes nodes) where
  step_under : (o : Open) (child : ℕ) → IsTerm s nodes o.term.0 → (step : IsStep nodes o child) → AreUnder s nodes step.operator step.ids
  step_under o child term step = (under_term s lawful nodes are o.term.0 step.operator term.bare.0 step.ids step.at record { within = term.within; bare = term.bare.1 }).0

  pub step_child : (o : Open) (child : ℕ) → IsTerm s nodes o.term.0 → IsStep nodes o child → (k : ℕ) × IsTermIn s nodes k child
  step_child o child term step = argument_in s nodes step.operator step.ids step.place child step.argument (step_under o child term step)

  -- what is reached from a term is a term
  pub path_term : (root : ℕ) (os : List Open) (term : ℕ) → IsTerm s nodes root → IsPath nodes root os term → IsTerm s nodes term
  path_term root [] term is e = subst (IsTerm s nodes) e is
  path_term root (o ∷ os) term is h =
      let c = step_child o h.1 (subst (IsTerm s nodes) (sym h.0) is) h.2 in
      path_term h.1 os term (record { within = c.1.within; bare = (c.0, c.1.bare) }) h.3

-- ---- settled terms

in_there : (nodes : List Node) (ids : List ℕ) (i child : ℕ) → slice_get ids i ≡ Some child → IsIn (tree_at nodes child) (trees_at nodes ids)
in_there nodes [] i child e = cc
in_there nodes (j ∷ ids) zero child e = let same : j ≡ child = cc in inl (ap (tree_at nodes) (sym same))
in_there nodes (j ∷ ids) (suc i) child e = inr (in_there nodes ids i child e)

module _ (s : SignatureOf) (nodes : List Node) (are : AreNodes nodes) (table : Table) where
  step_settled : (o : Open) (child : ℕ) → IsStep nodes o child → AreSettled s nodes table (tree_at nodes o.term.0) → AreSettled s nodes table (tree_at nodes child)
  step_settled o child step h =
      let t = tree_at nodes o.term.0 in
      let is : IsIn (tree_at nodes child) (arguments_of t) =
      subst (λ (u : Tree). IsIn (tree_at nodes child) (arguments_of u)) (sym (tree_of_node nodes are o.term.0 (operator_node step.operator step.ids) step.at))
      (subst (IsIn (tree_at nodes child)) (sym (list_of-trees_of (trees_at nodes step.ids))) (in_there nodes step.ids step.place child step.argument)) in
      record { identities = h.identities; below = λ u b. h.below u (argument_lower t (tree_at nodes child) u is b); itself = h.below (tree_at nodes child) (argument_below t (tree_at nodes child) is) }

  -- what is reached from a settled term is settled
  pub path_settled : (root : ℕ) (os : List Open) (term : ℕ) → IsPath nodes root os term → AreSettled s nodes table (tree_at nodes root) → AreSettled s nodes table (tree_at nodes term)
  path_settled root [] term e h = subst (λ i. AreSettled s nodes table (tree_at nodes i)) e h
  path_settled root (o ∷ os) term p h = path_settled p.1 os term p.3 (step_settled o p.1 p.2 (subst (λ i. AreSettled s nodes table (tree_at nodes i)) (sym p.0) h))

pub walk_kept : (s : SignatureOf) (old new : List Node) → Extends old new → (root : ℕ) (os : List Open) (term : ℕ) → IsWalk s old root os term → IsWalk s new root os term
walk_kept s old new x root os term w = record { begins = is_term_kept s old new root x w.begins; path = path_kept old new x root os term w.path }
