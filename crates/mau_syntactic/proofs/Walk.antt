-- What the walk knows from step to step.
use Rattle.std.proofs.Common.{◌≡◌, ◌↔◌, ℕ, suc, ◌+◌, ◌<◌, List, [], ◌∷◌, ◌++◌, Bool, true, false, Some, if◌then◌else◌, length, take, drop, get_or, slice_get, refl, sym, ap, ap₂, ◌∙◌, subst, append-nil, append_assoc, arith}
use Rattle.std.proofs.lemmas.List.{length-append, get_or-take, nil_from_length}
use Rattle.std.proofs.lemmas.Option.{slice_get-get_or, get_or_from_slice_get, slice_get_within}
use Rattle.std.proofs.Math.Seq.{take-length, drop-cons}
use Rattle.mau_terms.specs.Tree.{Tree, variable, numeral, apply, Trees, no_trees, tree, node, list_of, trees_of}
use Rattle.mau_terms.specs.Subst.{Variable, value_at, has_variable, add_variables, add_all_variables, variables, instance, instances, with_values}
use Rattle.mau_terms.specs.declared.ids.OpId.{OpId}
use Rattle.mau_terms.proofs.Pieces.{trees_of-list_of, list_of-trees_of}
use Rattle.mau_syntactic.specs.declared.step.Step.{Step}
use Rattle.mau_syntactic.specs.declared.step.Step.TheVariants.{Operator, Numeral, Place}
use Rattle.mau_syntactic.specs.Match.{IsMatch}
use Rattle.mau_syntactic.specs.Steps.{place_in, count_trees, steps_of, all_steps_of, Follows, operator, numeral_itself, first_time, later}
use Rattle.mau_syntactic.proofs.Places.{placed, place_new, place_old, is_new, is_old, value_place, all_grow}

-- ---- lists

same_parts : (xs ys us vs : List Tree) → length xs ≡ length ys → xs ++ us ≡ ys ++ vs → (xs ≡ ys) × (us ≡ vs)
same_parts [] [] us vs l e = (refl, e)
same_parts [] (y ∷ ys) us vs l e = cc
same_parts (x ∷ xs) [] us vs l e = cc
same_parts (x ∷ xs) (y ∷ ys) us vs l e =
    let first : x ≡ y = cc in
    let rest = same_parts xs ys us vs (cc) (cc) in
    (ap₂ (λ a b. a ∷ b) first rest.0, rest.1)

joined : Trees → Trees → Trees
joined no_trees us = us
joined (tree t ts) us = tree t (joined ts us)

steps-joined : (seen : List Variable) (ts us : Trees) → all_steps_of seen (joined ts us) ≡ all_steps_of seen ts ++ all_steps_of (add_all_variables seen ts) us
unfolding joined
steps-joined seen no_trees us = refl
steps-joined seen (tree t ts) us =
    ap (λ w. steps_of seen t ++ w) (steps-joined (add_variables seen t) ts us)
    ∙ sym (append_assoc (steps_of seen t) (all_steps_of (add_variables seen t) ts) (all_steps_of (add_all_variables (add_variables seen t) ts) us))

variables-joined : (seen : List Variable) (ts us : Trees) → add_all_variables seen (joined ts us) ≡ add_all_variables (add_all_variables seen ts) us
unfolding joined
variables-joined seen no_trees us = refl
variables-joined seen (tree t ts) us = variables-joined (add_variables seen t) ts us

count-joined : (ts us : Trees) → count_trees (joined ts us) ≡ count_trees ts + count_trees us
unfolding joined
count-joined no_trees us = omega arith
count-joined (tree t ts) us = let ih = count-joined ts us in omega (arith, ih)

module _ (g : Variable → Tree) where
  instances-joined : (ts us : Trees) → list_of (instances g (joined ts us)) ≡ list_of (instances g ts) ++ list_of (instances g us)
  unfolding joined
  instances-joined no_trees us = refl
  instances-joined (tree t ts) us = ap (λ w. instance g t ∷ w) (instances-joined ts us)

  count-instances : (ts : Trees) → length (list_of (instances g ts)) ≡ count_trees ts
  count-instances no_trees = refl
  count-instances (tree t ts) = ap suc (count-instances ts)

-- a value comes for the first time, or stands at its place
by_place : (seen : List Variable) (x : Variable) (vs ws : List Tree) (u : Tree) → length vs ≡ length seen → take (length vs) ws ≡ vs → u ≡ get_or ws (place_in seen x) u →
    (place_in seen x ≡ length vs → ⊥) → (slice_get vs (place_in seen x) ≡ Some u → ⊥) → ⊥
by_place seen x vs ws u l k e first again = by (has_variable seen x) refl
  where
    by : (b : Bool) → has_variable seen x ≡ b → ⊥
    by false h = first (place_new seen x h ∙ sym l)
    by true h =
        let j = place_in seen x in
        let low : j < length vs = subst (λ n. j < n) (sym l) (place_old seen x h) in
        again (slice_get-get_or vs j u low ∙ ap Some (sym (ap (λ xs. get_or xs j u) k) ∙ get_or-take (length vs) ws j u low ∙ sym e))

-- the values so far, and one more
taken_more : (ws vs : List Tree) (u d : Tree) → length vs < length ws → ((take (length vs) ws ≡ vs) × (get_or ws (length vs) d ≡ u)) ↔ (take (length (vs ++ u ∷ [])) ws ≡ vs ++ u ∷ [])
taken_more [] vs u d h = absurd (omega arith)
taken_more (w ∷ ws) [] u d h = (λ p. ap (λ v. v ∷ []) p.1, λ e. (refl, cc))
taken_more (w ∷ ws) (v ∷ vs) u d h =
    let ih = taken_more ws vs u d (omega arith) in (
      λ p. let rest : take (length vs) ws ≡ vs = (let q = p.0 in cc) in ap₂ (λ a b. a ∷ b) (let first : w ≡ v = (let q = p.0 in cc) in first) (ih.0 (rest, p.1)),
      λ e. let first : w ≡ v = cc in let rest : take (length (vs ++ u ∷ [])) ws ≡ vs ++ u ∷ [] = cc in let k = ih.1 rest in (ap₂ (λ a b. a ∷ b) first k.0, k.1),
    )

-- ---- what is known

-- by the steps that are left, the terms us that are still to be compared, and the values vs so far: p matches t by some values exactly
-- where the first of these are vs, and the patterns that are left become us by them
pub record IsLeft (p t : Tree) (ss : List Step) (us vs : List Tree) : Type 0 where
  pub seen : List Variable
  pub patterns : Trees
  pub steps : ss ≡ all_steps_of seen patterns
  pub counted : length vs ≡ length seen
  pub complete : add_all_variables seen patterns ≡ variables p
  pub as_many : length us ≡ count_trees patterns
  pub same : (ws : List Tree) → length ws ≡ length (variables p) →
      (with_values p ws ≡ t) ↔ ((take (length vs) ws ≡ vs) × (list_of (instances (value_at (variables p) ws) patterns) ≡ us))

all_left : (p t : Tree) → IsLeft p t (steps_of [] p) (t ∷ []) []
all_left p t = record {
  seen = [];
  patterns = tree p no_trees;
  steps = sym (append-nil (steps_of [] p));
  counted = refl;
  complete = refl;
  as_many = refl;
  same = λ ws l. (λ e. (refl, ap (λ v. v ∷ []) e), λ q. let k = q.1 in cc);
}

pub begun : (p t : Tree) (ss : List Step) (us vs : List Tree) → ss ≡ steps_of [] p → us ≡ t ∷ [] → vs ≡ [] → IsLeft p t ss us vs
begun p t ss us vs a b c =
    subst (λ xs. IsLeft p t xs us vs) (sym a)
    (subst (λ xs. IsLeft p t (steps_of [] p) xs vs) (sym b) (subst (λ xs. IsLeft p t (steps_of [] p) (t ∷ []) xs) (sym c) (all_left p t)))

-- the next step of a list
pub next_step : (p t : Tree) (ss : List Step) (us vs : List Tree) (i : ℕ) (d : Step) → i < length ss → IsLeft p t (drop i ss) us vs → IsLeft p t (get_or ss i d ∷ drop (suc i) ss) us vs
next_step p t ss us vs i d h left = subst (λ xs. IsLeft p t xs us vs) (drop-cons ss i d h) left

module _ (p t : Tree) where
  -- the value of the next variable
  next_value : (seen : List Variable) (i s : ℕ) (ps : Trees) → add_all_variables seen (tree (variable i s) ps) ≡ variables p → (ws : List Tree) → length ws ≡ length (variables p) → (d : Tree) →
      (value_at (variables p) ws (i, s) ≡ get_or ws (place_in seen (i, s)) d) × (place_in seen (i, s) < length ws)
  next_value seen i s ps complete ws l d =
      let more = all_grow ps (add_variables seen (variable i s)) in
      let q = placed (variables p) seen more.0 i s (sym complete ∙ more.1) in (
        value_place (variables p) ws (i, s) d (subst (λ k. k < length (variables p)) (sym q.same) q.low) l ∙ ap (λ k. get_or ws k d) q.same,
        subst (λ k. place_in seen (i, s) < k) (sym l) q.low,
      )

  module _ (ss : List Step) where
    after_operator : (op : OpId) (n : ℕ) (ts us vs : List Tree) → length ts ≡ n → IsLeft p t (Operator op n ∷ ss) (node op.0 ts ∷ us) vs → IsLeft p t ss (ts ++ us) vs
    after_operator op n ts us vs l left = by left.patterns left.steps left.complete left.as_many left.same
      where
        by : (ps : Trees) → (Operator op n ∷ ss) ≡ all_steps_of left.seen ps → add_all_variables left.seen ps ≡ variables p → suc (length us) ≡ count_trees ps →
            ((ws : List Tree) → length ws ≡ length (variables p) → (with_values p ws ≡ t) ↔ ((take (length vs) ws ≡ vs) × (list_of (instances (value_at (variables p) ws) ps) ≡ node op.0 ts ∷ us))) →
            IsLeft p t ss (ts ++ us) vs
        by no_trees e c m same = cc
        by (tree (variable i s) ps) e c m same = cc
        by (tree (numeral k) ps) e c m same = cc
        by (tree (apply f qs) ps) e c m same =
            let top : op.0 ≡ f = (let k : op ≡ record { 0 = f } = cc in ap (λ (o : OpId). o.0) k) in
            let count : n ≡ count_trees qs = cc in
            record {
              seen = left.seen;
              patterns = joined qs ps;
              steps = (let k : ss ≡ all_steps_of left.seen qs ++ all_steps_of (add_all_variables left.seen qs) ps = cc in k) ∙ sym (steps-joined left.seen qs ps);
              counted = left.counted;
              complete = variables-joined left.seen qs ps ∙ c;
              as_many = let a = length-append ts us in let b = count-joined qs ps in omega (arith, a, b, m, l, count);
              same = λ ws lw.
                  let g = value_at (variables p) ws in
                  let was = same ws lw in (
                    λ e1.
                        let q = (was.0 e1).1 in
                        let args : instances g qs ≡ trees_of ts = cc in
                        let rest : list_of (instances g ps) ≡ us = cc in
                        ((was.0 e1).0, instances-joined g qs ps ∙ ap₂ (λ a b. a ++ b) (ap list_of args ∙ list_of-trees_of ts) rest),
                    λ r.
                        let parts = same_parts (list_of (instances g qs)) ts (list_of (instances g ps)) us (count-instances g qs ∙ sym count ∙ sym l) (sym (instances-joined g qs ps) ∙ r.1) in
                        was.1 (r.0, ap₂ (λ a b. a ∷ b) (ap₂ apply (sym top) (sym (trees_of-list_of (instances g qs)) ∙ ap trees_of parts.0)) parts.1),
                  );
            }

    after_numeral : (n : ℕ) (us vs : List Tree) → IsLeft p t (Numeral n ∷ ss) (numeral n ∷ us) vs → IsLeft p t ss us vs
    after_numeral n us vs left = by left.patterns left.steps left.complete left.as_many left.same
      where
        by : (ps : Trees) → (Numeral n ∷ ss) ≡ all_steps_of left.seen ps → add_all_variables left.seen ps ≡ variables p → suc (length us) ≡ count_trees ps →
            ((ws : List Tree) → length ws ≡ length (variables p) → (with_values p ws ≡ t) ↔ ((take (length vs) ws ≡ vs) × (list_of (instances (value_at (variables p) ws) ps) ≡ numeral n ∷ us))) →
            IsLeft p t ss us vs
        by no_trees e c m same = cc
        by (tree (variable i s) ps) e c m same = cc
        by (tree (apply f qs) ps) e c m same = cc
        by (tree (numeral k) ps) e c m same =
            let value : n ≡ k = cc in
            record {
              seen = left.seen;
              patterns = ps;
              steps = cc;
              counted = left.counted;
              complete = c;
              as_many = cc;
              same = λ ws lw.
                  let was = same ws lw in (
                    λ e1. let q = (was.0 e1).1 in ((was.0 e1).0, cc),
                    λ r. was.1 (r.0, ap₂ (λ a b. a ∷ b) (ap numeral (sym value)) r.1),
                  );
            }

    after_place : (k : ℕ) (u : Tree) (us vs new : List Tree) → IsLeft p t (Place k ∷ ss) (u ∷ us) vs →
        ((seen : List Variable) (i s : ℕ) → length vs ≡ length seen → k ≡ place_in seen (i, s) →
        (length new ≡ length (add_variables seen (variable i s))) ×
        ((ws : List Tree) → k < length ws → ((take (length vs) ws ≡ vs) × (get_or ws k u ≡ u)) ↔ (take (length new) ws ≡ new))) →
        IsLeft p t ss us new
    after_place k u us vs new left becomes = by left.patterns left.steps left.complete left.as_many left.same
      where
        by : (ps : Trees) → (Place k ∷ ss) ≡ all_steps_of left.seen ps → add_all_variables left.seen ps ≡ variables p → suc (length us) ≡ count_trees ps →
            ((ws : List Tree) → length ws ≡ length (variables p) → (with_values p ws ≡ t) ↔ ((take (length vs) ws ≡ vs) × (list_of (instances (value_at (variables p) ws) ps) ≡ u ∷ us))) →
            IsLeft p t ss us new
        by no_trees e c m same = cc
        by (tree (numeral n) ps) e c m same = cc
        by (tree (apply f qs) ps) e c m same = cc
        by (tree (variable i s) ps) e c m same =
            let at : k ≡ place_in left.seen (i, s) = cc in
            let b = becomes left.seen i s left.counted at in
            record {
              seen = add_variables left.seen (variable i s);
              patterns = ps;
              steps = cc;
              counted = b.0;
              complete = c;
              as_many = cc;
              same = λ ws lw.
                  let g = value_at (variables p) ws in
                  let was = same ws lw in
                  let next = next_value left.seen i s ps c ws lw u in
                  let value : g (i, s) ≡ get_or ws k u = next.0 ∙ ap (λ j. get_or ws j u) (sym at) in
                  let low : k < length ws = subst (λ j. j < length ws) (sym at) next.1 in
                  let more = b.1 ws low in (
                    λ e1.
                        let q = (was.0 e1).1 in
                        let first : g (i, s) ≡ u = cc in
                        (more.0 ((was.0 e1).0, sym value ∙ first), cc),
                    λ r. let back = more.1 r.0 in was.1 (back.0, ap₂ (λ a b. a ∷ b) (value ∙ back.1) r.1),
                  );
            }

    after_first : (k : ℕ) (u : Tree) (us vs : List Tree) → k ≡ length vs → IsLeft p t (Place k ∷ ss) (u ∷ us) vs → IsLeft p t ss us (vs ++ u ∷ [])
    after_first k u us vs e left = after_place k u us vs (vs ++ u ∷ []) left
        (λ seen i s l at.
        let absent : has_variable seen (i, s) ≡ false = is_new seen (i, s) (let k : length seen ≡ place_in seen (i, s) = sym l ∙ sym e ∙ at in omega (arith, k)) in (
          length-append vs (u ∷ []) ∙ ap (λ n. n + 1) l ∙ sym (length-append seen ((i, s) ∷ [])) ∙ sym (ap (λ b. length (if b then seen else seen ++ (i, s) ∷ [])) absent),
          λ ws low. subst (λ j. ((take (length vs) ws ≡ vs) × (get_or ws j u ≡ u)) ↔ (take (length (vs ++ u ∷ [])) ws ≡ vs ++ u ∷ [])) (sym e) (taken_more ws vs u u (subst (λ j. j < length ws) e low)),
        ))

    after_later : (k : ℕ) (u : Tree) (us vs : List Tree) → slice_get vs k ≡ Some u → IsLeft p t (Place k ∷ ss) (u ∷ us) vs → IsLeft p t ss us vs
    after_later k u us vs e left = after_place k u us vs vs left
        (λ seen i s l at.
        let low = slice_get_within vs k u e in
        let there : has_variable seen (i, s) ≡ true = is_old seen (i, s) (subst (λ j. j < length seen) at (subst (λ n. k < n) l low)) in (
          l ∙ sym (ap (λ b. length (if b then seen else seen ++ (i, s) ∷ [])) there),
          λ ws h. (λ q. q.0, λ r. (r, sym (get_or-take (length vs) ws k u low) ∙ ap (λ xs. get_or xs k u) r ∙ get_or_from_slice_get vs k u u e)),
        ))

    -- a step
    pub after_step : (step : Step) (us vs us' vs' : List Tree) → Follows step us vs us' vs' → IsLeft p t (step ∷ ss) us vs → IsLeft p t ss us' vs'
    after_step step us vs us' vs' (operator op n ts ws xs l) left = after_operator op n ts ws xs l left
    after_step step us vs us' vs' (numeral_itself n ws xs) left = after_numeral n ws xs left
    after_step step us vs us' vs' (first_time k u ws xs e) left = after_first k u ws xs e left
    after_step step us vs us' vs' (later k u ws xs e) left = after_later k u ws xs e left

    -- where none can be taken there is no match
    pub none_matches : (step : Step) (us vs : List Tree) → ((us' vs' : List Tree) → Follows step us vs us' vs' → ⊥) → IsLeft p t (step ∷ ss) us vs → (ws : List Tree) → IsMatch p t ws → ⊥
    none_matches step us vs none left ws m = by left.patterns left.steps left.complete k.1
      where
        k : (take (length vs) ws ≡ vs) × (list_of (instances (value_at (variables p) ws) left.patterns) ≡ us)
        k = (left.same ws m.one_each).0 m.whole

        by : (ps : Trees) → (step ∷ ss) ≡ all_steps_of left.seen ps → add_all_variables left.seen ps ≡ variables p → list_of (instances (value_at (variables p) ws) ps) ≡ us → ⊥
        by no_trees e c h = cc
        by (tree (numeral n) ps) e c h =
            let this : Numeral n ≡ step = cc in
            let rest = list_of (instances (value_at (variables p) ws) ps) in
            none rest vs (subst (λ s. Follows s us vs rest vs) this (subst (λ xs. Follows (Numeral n) xs vs rest vs) h (numeral_itself n rest vs)))
        by (tree (apply f qs) ps) e c h =
            let g = value_at (variables p) ws in
            let op : OpId = record { 0 = f } in
            let this : Operator op (count_trees qs) ≡ step = cc in
            let rest = list_of (instances g ps) in
            let args = list_of (instances g qs) in
            let top : node f args ∷ rest ≡ us = ap (λ a. apply f a ∷ rest) (trees_of-list_of (instances g qs)) ∙ h in
            none (args ++ rest) vs (subst (λ s. Follows s us vs (args ++ rest) vs) this (subst (λ xs. Follows (Operator op (count_trees qs)) xs vs (args ++ rest) vs) top (operator op (count_trees qs) args rest vs (count-instances g qs))))
        by (tree (variable i s) ps) e c h =
            let g = value_at (variables p) ws in
            let j = place_in left.seen (i, s) in
            let this : Place j ≡ step = cc in
            let rest = list_of (instances g ps) in
            let u = g (i, s) in
            let to = λ (ys : List Tree) (f : Follows (Place j) (u ∷ rest) vs rest ys). none rest ys (subst (λ x. Follows x us vs rest ys) this (subst (λ xs. Follows (Place j) xs vs rest ys) h f)) in
            let next = next_value left.seen i s ps c ws m.one_each u in
            by_place left.seen (i, s) vs ws u left.counted k.0 next.0
            (λ e1. to (vs ++ u ∷ []) (first_time j u rest vs e1))
            (λ e2. to vs (later j u rest vs e2))

-- all steps are taken
pub all_taken : (p t : Tree) (us vs : List Tree) → IsLeft p t [] us vs → IsMatch p t vs
all_taken p t us vs left = by left.patterns left.steps left.complete left.as_many left.same
  where
    by : (ps : Trees) → [] ≡ all_steps_of left.seen ps → add_all_variables left.seen ps ≡ variables p → length us ≡ count_trees ps →
        ((ws : List Tree) → length ws ≡ length (variables p) → (with_values p ws ≡ t) ↔ ((take (length vs) ws ≡ vs) × (list_of (instances (value_at (variables p) ws) ps) ≡ us))) →
        IsMatch p t vs
    by (tree (variable i s) ps) e c m same = cc
    by (tree (numeral n) ps) e c m same = cc
    by (tree (apply f qs) ps) e c m same = cc
    by no_trees e c m same =
        let l : length vs ≡ length (variables p) = left.counted ∙ ap length c in
        record { one_each = l; whole = (same vs l).1 (take-length vs, sym (nil_from_length us m)) }
