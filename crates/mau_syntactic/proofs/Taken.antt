-- What a step asks of the first term.
use Rattle.std.proofs.Common.{◌≡◌, ◌⊎◌, inl, inr, ℕ, zero, suc, ◌<◌, ◌==◌, false, eq-eqb, None, List, [], ◌∷◌, ◌++◌, Some, map, length, reverse, slice_get, refl, sym, ap, ◌∙◌, subst, arith}
use Rattle.std.proofs.lemmas.List.{map-append, reverse-append, reverse-reverse}
use Rattle.std.proofs.lemmas.Option.{get_or_from_slice_get, slice_get_within}
use Rattle.std.proofs.lemmas.List.Elements.{All-nil, All-cons, All-head, All-tail, All-append}
use Rattle.mau_terms.specs.Tree.{Tree, numeral, node}
use Rattle.mau_terms.specs.declared.ids.OpId.{OpId}
use Rattle.mau_terms.specs.declared.ids.TermId.{TermId}
use Rattle.mau_store.specs.Node.{Node, AreNodes, AreBelow, AreOf, IsOf}
use Rattle.mau_store.specs.Trees.{tree_at, trees_at}
use Rattle.mau_store.specs.View.{numbers}
use Rattle.mau_terms.proofs.Pieces.{same_arguments}
use Rattle.mau_store.proofs.Arguments.{ids_below}
use Rattle.mau_store.proofs.Numbers.{one_number}
use Rattle.mau_syntactic.specs.declared.step.Step.{Step}
use Rattle.mau_syntactic.specs.declared.step.Step.TheVariants.{Operator, Numeral, Place}
use Rattle.mau_syntactic.specs.Steps.{Follows, IsOver, operator, numeral_itself, first_time, later}

-- ---- steps

pub none_left : (step : Step) (us vs us' vs' : List Tree) → us ≡ [] → Follows step us vs us' vs' → ⊥
none_left step us vs us' vs' e (operator op n ts ws xs l) = cc
none_left step us vs us' vs' e (numeral_itself n ws xs) = cc
none_left step us vs us' vs' e (first_time k u ws xs l) = cc
none_left step us vs us' vs' e (later k u ws xs l) = cc

pub at_operator : (step : Step) (us vs us' vs' : List Tree) → Follows step us vs us' vs' → (op : OpId) (n : ℕ) (u : Tree) (rest : List Tree) → step ≡ Operator op n → us ≡ u ∷ rest → (ts : List Tree) × (length ts ≡ n) × (u ≡ node op.0 ts)
at_operator step us vs us' vs' (operator op n ts ws xs l) op' n' u rest a b =
    let same : op ≡ op' = cc in
    let first : node op.0 ts ≡ u = cc in
    (ts, l ∙ cc, sym first ∙ ap (λ (o : OpId). node o.0 ts) same)
at_operator step us vs us' vs' (numeral_itself n ws xs) op' n' u rest a b = absurd (cc)
at_operator step us vs us' vs' (first_time k v ws xs l) op' n' u rest a b = absurd (cc)
at_operator step us vs us' vs' (later k v ws xs l) op' n' u rest a b = absurd (cc)

pub at_numeral : (step : Step) (us vs us' vs' : List Tree) → Follows step us vs us' vs' → (n : ℕ) (u : Tree) (rest : List Tree) → step ≡ Numeral n → us ≡ u ∷ rest → u ≡ numeral n
at_numeral step us vs us' vs' (operator op n ts ws xs l) n' u rest a b = absurd (cc)
at_numeral step us vs us' vs' (numeral_itself n ws xs) n' u rest a b = cc
at_numeral step us vs us' vs' (first_time k v ws xs l) n' u rest a b = absurd (cc)
at_numeral step us vs us' vs' (later k v ws xs l) n' u rest a b = absurd (cc)

pub at_place : (step : Step) (us vs us' vs' : List Tree) → Follows step us vs us' vs' → (k : ℕ) (u : Tree) (rest : List Tree) → step ≡ Place k → us ≡ u ∷ rest → (k ≡ length vs) ⊎ (slice_get vs k ≡ Some u)
at_place step us vs us' vs' (operator op n ts ws xs l) k' u rest a b = absurd (cc)
at_place step us vs us' vs' (numeral_itself n ws xs) k' u rest a b = absurd (cc)
at_place step us vs us' vs' (first_time k v ws xs l) k' u rest a b = inl (cc)
at_place step us vs us' vs' (later k v ws xs l) k' u rest a b =
    let same : k ≡ k' = cc in
    let first : v ≡ u = cc in
    inr (ap (slice_get xs) (sym same) ∙ l ∙ ap Some first)

-- ---- terms of a store

module _ (nodes : List Node) where
  -- the trees of a stack, the last one first
  abbrev pub stacked : List TermId → List Tree
  stacked ids = reverse (trees_at nodes (numbers ids))

  trees-append : (xs ys : List TermId) → trees_at nodes (numbers (xs ++ ys)) ≡ trees_at nodes (numbers xs) ++ trees_at nodes (numbers ys)
  trees-append xs ys = ap (map (tree_at nodes)) (map-append (λ id. id.0) xs ys) ∙ map-append (tree_at nodes) (numbers xs) (numbers ys)

  pub trees_push : (xs : List TermId) (x : TermId) → trees_at nodes (numbers (xs ++ x ∷ [])) ≡ trees_at nodes (numbers xs) ++ tree_at nodes x.0 ∷ []
  trees_push xs x = trees-append xs (x ∷ [])

  pub stacked_push : (xs : List TermId) (x : TermId) → stacked (xs ++ x ∷ []) ≡ tree_at nodes x.0 ∷ stacked xs
  stacked_push xs x = ap reverse (trees_push xs x) ∙ reverse-append (trees_at nodes (numbers xs)) (tree_at nodes x.0 ∷ [])

  trees-reverse : (xs : List TermId) → trees_at nodes (numbers (reverse xs)) ≡ stacked xs
  trees-reverse [] = refl
  trees-reverse (x ∷ xs) =
      ap (λ ys. trees_at nodes (numbers ys)) (reverse-append (x ∷ []) xs)
      ∙ trees_push (reverse xs) x
      ∙ ap (λ ts. ts ++ tree_at nodes x.0 ∷ []) (trees-reverse xs)
      ∙ sym (reverse-append (tree_at nodes x.0 ∷ []) (trees_at nodes (numbers xs)))

  pub stacked_all : (xs ys : List TermId) → stacked (xs ++ reverse ys) ≡ trees_at nodes (numbers ys) ++ stacked xs
  stacked_all xs ys =
      ap reverse (trees-append xs (reverse ys) ∙ ap (λ ts. trees_at nodes (numbers xs) ++ ts) (trees-reverse ys))
      ∙ reverse-append (trees_at nodes (numbers xs)) (stacked ys)
      ∙ ap (λ ts. ts ++ stacked xs) (reverse-reverse (trees_at nodes (numbers ys)))

-- ---- numbers that are there

module _ (n : ℕ) where
  pub below_push : (xs : List TermId) (x : TermId) → AreBelow n (numbers xs) → x.0 < n → AreBelow n (numbers (xs ++ x ∷ []))
  below_push xs x h k =
      subst (AreBelow n) (sym (map-append (λ id. id.0) xs (x ∷ [])))
      (All-append (λ i. i < n) (numbers xs) (x.0 ∷ []) h (All-cons (λ i. i < n) x.0 [] k (All-nil (λ i. i < n))))

  below_reverse : (xs : List TermId) → AreBelow n (numbers xs) → AreBelow n (numbers (reverse xs))
  below_reverse [] h = h
  below_reverse (x ∷ xs) h =
      subst (λ ys. AreBelow n (numbers ys)) (sym (reverse-append (x ∷ []) xs))
      (below_push (reverse xs) x (below_reverse xs (All-tail (λ i. i < n) x.0 (numbers xs) h)) (All-head (λ i. i < n) x.0 (numbers xs) h))

  pub below_all : (xs ys : List TermId) → AreBelow n (numbers xs) → AreBelow n (numbers ys) → AreBelow n (numbers (xs ++ reverse ys))
  below_all xs ys h k =
      subst (AreBelow n) (sym (map-append (λ id. id.0) xs (reverse ys))) (All-append (λ i. i < n) (numbers xs) (numbers (reverse ys)) h (below_reverse ys k))

  pub below_pop : (xs : List TermId) (x : TermId) → AreBelow n (numbers (xs ++ x ∷ [])) → AreBelow n (numbers xs) × (x.0 < n)
  below_pop [] x h = (All-nil (λ i. i < n), All-head (λ i. i < n) x.0 [] h)
  below_pop (y ∷ xs) x h =
      let rest = below_pop xs x (All-tail (λ i. i < n) y.0 (numbers (xs ++ x ∷ [])) h) in
      (All-cons (λ i. i < n) y.0 (numbers xs) (All-head (λ i. i < n) y.0 (numbers (xs ++ x ∷ [])) h) rest.0, rest.1)

  pub older_there : (m : ℕ) (xs : List ℕ) → AreBelow m xs → m < n → AreBelow n xs
  older_there m xs h k i d l = let low = h i d l in omega (arith, low, k)

-- ---- what the code does

pub length_trees : (nodes : List Node) (ids : List TermId) → length (trees_at nodes (numbers ids)) ≡ length ids
length_trees nodes [] = refl
length_trees nodes (id ∷ ids) = ap suc (length_trees nodes ids)

pub is_over : (nodes : List Node) (op top : ℕ) (ids old new : List TermId) (t : Tree) (n : ℕ) → t ≡ node top (trees_at nodes (numbers ids)) → top ≡ op → length ids ≡ n → new ≡ old ++ reverse ids →
    IsOver op n t (stacked nodes old) (stacked nodes new)
is_over nodes op top ids old new t n e same l push = record {
  arguments = trees_at nodes (numbers ids);
  count = length_trees nodes ids ∙ l;
  tree = e ∙ ap (λ f. node f (trees_at nodes (numbers ids))) same;
  before = ap (stacked nodes) push ∙ stacked_all nodes old ids;
}

pub other_count : (nodes : List Node) (op top : ℕ) (ids : List TermId) (t : Tree) (n : ℕ) → t ≡ node top (trees_at nodes (numbers ids)) → (length ids ≡ n → ⊥) → (ts : List Tree) → length ts ≡ n → t ≡ node op ts → ⊥
other_count nodes op top ids t n e ne ts l h =
    ne (sym (length_trees nodes ids) ∙ ap length (same_arguments top op (trees_at nodes (numbers ids)) ts (sym e ∙ h)) ∙ l)

pub other_top : (nodes : List Node) (op top : ℕ) (ids : List TermId) (t : Tree) → t ≡ node top (trees_at nodes (numbers ids)) → (top == op) ≡ false → (ts : List Tree) → t ≡ node op ts → ⊥
other_top nodes op top ids t e ne ts h =
    let k : node top (trees_at nodes (numbers ids)) ≡ node op ts = sym e ∙ h in
    let same : top ≡ op = cc in
    let yes = eq-eqb top op same in
    cc

pub placed_first : (nodes : List Node) (k : ℕ) (id : TermId) (old new : List TermId) → k ≡ length old → new ≡ old ++ id ∷ [] → (us : List Tree) →
    Follows (Place k) (tree_at nodes id.0 ∷ us) (trees_at nodes (numbers old)) us (trees_at nodes (numbers new))
placed_first nodes k id old new e push us =
    subst (λ vs. Follows (Place k) (tree_at nodes id.0 ∷ us) (trees_at nodes (numbers old)) us vs) (sym (ap (λ xs. trees_at nodes (numbers xs)) push ∙ trees_push nodes old id))
    (first_time k (tree_at nodes id.0) us (trees_at nodes (numbers old)) (e ∙ sym (length_trees nodes old)))

value_there : (nodes : List Node) (ids : List TermId) (k : ℕ) (v : TermId) → slice_get ids k ≡ Some v → slice_get (trees_at nodes (numbers ids)) k ≡ Some (tree_at nodes v.0)
value_there nodes [] k v e = cc
value_there nodes (id ∷ ids) zero v e = let same : id ≡ v = cc in ap (λ (x : TermId). Some (tree_at nodes x.0)) same
value_there nodes (id ∷ ids) (suc k) v e = value_there nodes ids k v e

pub placed_again : (nodes : List Node) (k : ℕ) (id v : TermId) (ids : List TermId) → slice_get ids k ≡ Some v → v.0 ≡ id.0 → (us : List Tree) →
    Follows (Place k) (tree_at nodes id.0 ∷ us) (trees_at nodes (numbers ids)) us (trees_at nodes (numbers ids))
placed_again nodes k id v ids e same us = later k (tree_at nodes id.0) us (trees_at nodes (numbers ids)) (value_there nodes ids k v e ∙ ap (λ i. Some (tree_at nodes i)) same)

pub other_value : (nodes : List Node) → AreNodes nodes → (k : ℕ) (id v : TermId) (ids : List TermId) → slice_get ids k ≡ Some v → (v.0 == id.0) ≡ false → AreOf nodes (numbers ids) → IsOf nodes id.0 →
    slice_get (trees_at nodes (numbers ids)) k ≡ Some (tree_at nodes id.0) → ⊥
other_value nodes are k id v ids e ne there id_there h =
    let low = slice_get_within ids k v e in
    let v_there : IsOf nodes v.0 = subst (λ (x : TermId). x.0 < length nodes) (get_or_from_slice_get ids k v v e) (ids_below (length nodes) ids there k v low) in
    let trees : Some (tree_at nodes v.0) ≡ Some (tree_at nodes id.0) = sym (value_there nodes ids k v e) ∙ h in
    let one = one_number nodes are v.0 id.0 v_there id_there (cc) in
    let yes = eq-eqb v.0 id.0 one in
    cc

pub no_value : (nodes : List Node) (k : ℕ) (ids : List TermId) (u : Tree) → slice_get ids k ≡ None → slice_get (trees_at nodes (numbers ids)) k ≡ Some u → ⊥
no_value nodes k [] u e h = cc
no_value nodes zero (id ∷ ids) u e h = cc
no_value nodes (suc k) (id ∷ ids) u e h = no_value nodes k ids u e h

-- ---- the steps of the code

pub follows_operator : (step : Step) (op : OpId) (n : ℕ) (us us' vs all : List Tree) (t : Tree) → step ≡ Operator op n → all ≡ t ∷ us → IsOver op.0 n t us us' → Follows step all vs us' vs
follows_operator step op n us us' vs all t a b o =
    let first : all ≡ node op.0 o.arguments ∷ us = b ∙ ap (λ x. x ∷ us) o.tree in
    subst (λ s. Follows s all vs us' vs) (sym a)
    (subst (λ xs. Follows (Operator op n) xs vs us' vs) (sym first)
    (subst (λ xs. Follows (Operator op n) (node op.0 o.arguments ∷ us) vs xs vs) (sym o.before) (operator op n o.arguments us vs o.count)))

pub follows_numeral : (step : Step) (n : ℕ) (us vs all : List Tree) (t : Tree) → step ≡ Numeral n → all ≡ t ∷ us → t ≡ numeral n → Follows step all vs us vs
follows_numeral step n us vs all t a b e =
    subst (λ s. Follows s all vs us vs) (sym a) (subst (λ xs. Follows (Numeral n) xs vs us vs) (sym (b ∙ ap (λ x. x ∷ us) e)) (numeral_itself n us vs))

pub follows_place : (step : Step) (k : ℕ) (us vs vs' all : List Tree) (t : Tree) → step ≡ Place k → all ≡ t ∷ us → Follows (Place k) (t ∷ us) vs us vs' → Follows step all vs us vs'
follows_place step k us vs vs' all t a b f = subst (λ s. Follows s all vs us vs') (sym a) (subst (λ xs. Follows (Place k) xs vs us vs') (sym b) f)

pub no_place : (nodes : List Node) (step : Step) (k : ℕ) (us us' vs' all : List Tree) (ids : List TermId) (t : Tree) → step ≡ Place k → all ≡ t ∷ us → (k ≡ length ids → ⊥) × (slice_get (trees_at nodes (numbers ids)) k ≡ Some t → ⊥) →
    Follows step all (trees_at nodes (numbers ids)) us' vs' → ⊥
no_place nodes step k us us' vs' all ids t a b none f = by (at_place step all (trees_at nodes (numbers ids)) us' vs' f k t us a b)
  where
    by : (k ≡ length (trees_at nodes (numbers ids))) ⊎ (slice_get (trees_at nodes (numbers ids)) k ≡ Some t) → ⊥
    by (inl e) = none.0 (e ∙ length_trees nodes ids)
    by (inr e) = none.1 e

-- a term that is taken off a stack
pub popped : (nodes : List Node) (old new : List TermId) (id : TermId) → old ≡ new ++ id ∷ [] → stacked nodes old ≡ tree_at nodes id.0 ∷ stacked nodes new
popped nodes old new id e = ap (stacked nodes) e ∙ stacked_push nodes new id

pub popped_there : (nodes : List Node) (old new : List TermId) (id : TermId) → old ≡ new ++ id ∷ [] → AreOf nodes (numbers old) → AreOf nodes (numbers new) × IsOf nodes id.0
popped_there nodes old new id e h = below_pop (length nodes) new id (subst (λ xs. AreOf nodes (numbers xs)) e h)
