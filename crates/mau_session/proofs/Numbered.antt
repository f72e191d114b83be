-- The variables of a pattern that was read are numbered in the order of their first occurrences.
use Rattle.std.proofs.Common.{◌≡◌, ℕ, suc, ◌<◌, ◌≤◌, ◌+◌, List, [], ◌∷◌, ◌++◌, length, Bool, true, false, ◌&&◌, ◌||◌, not, nat_eq, if◌then◌else◌, cond, refl, sym, ◌∙◌, ap, ap₂, subst, arith, eqb-true, eq-eqb, length-append, add-zero, bytes_eq}
use Rattle.std.specs.List.{list_any}
use Rattle.std.proofs.lemmas.List.Sums.{fold-append}
use Rattle.std.proofs.lemmas.Option.{get_or_from_slice_get}
use Rattle.std.proofs.lemmas.Bool.{and_parts}
use Rattle.mau_terms.specs.Tree.{Tree, variable, numeral, apply, Trees, no_trees, tree}
use Rattle.mau_terms.specs.Subst.{variables, same_variable, has_variable, add_variables, add_all_variables}
use Rattle.mau_terms.specs.Vars.{same_pair, place_of, with_pair}
use Rattle.mau_terms.specs.View.{tree_of}
use Rattle.mau_terms.specs.declared.bare.Bare.{Bare}
use Rattle.mau_terms.proofs.Pairs.{same_pair_itself}
use Rattle.mau_grammar.specs.Grammar.{GrammarOf}
use Rattle.mau_grammar.specs.Leaves.{pairs_of}
use Rattle.mau_parse.specs.declared.goals.Goal.{Goal}
use Rattle.mau_parse.specs.Goal.{lowest, highest}
use Rattle.mau_parse.specs.Parsed.{IsParsed}
use Rattle.mau_parse.specs.Terms.{pair_at, pairs_in, all_pairs, added, renamed, all_renamed, AreGiven, AllGiven}
use Rattle.mau_parse.proofs.TreesGiven.{tree_given}
use Rattle.mau_session.specs.Terms.{Pairs}
use Rattle.mau_session.specs.Matching.{numbered_from}
use Rattle.mau_session.proofs.Extending.{Extends, stays, twice, added_extends, kept_place}

-- ---- a pair among the pairs, and its variable among the numbered ones

later_place : (k n : ℕ) → nat_eq k (k + (1 + n)) ≡ false
later_place k n = by (nat_eq k (k + (1 + n))) refl
  where
    by : (b : Bool) → nat_eq k (k + (1 + n)) ≡ b → nat_eq k (k + (1 + n)) ≡ false
    by true e = absurd (let h : k ≡ k + (1 + n) = eqb-true _ _ e in omega arith)
    by false e = e

pub has_numbered : (ns : Pairs) (k : ℕ) (x : List ℕ × ℕ) → has_variable (numbered_from k ns) (k + place_of ns x, x.1) ≡ list_any (same_pair x) ns
has_numbered [] k x = refl
has_numbered (y ∷ ns) k x = by (same_pair x y) refl (has_numbered ns (suc k) x)
  where
    by : (b : Bool) → same_pair x y ≡ b → has_variable (numbered_from (suc k) ns) (suc k + place_of ns x, x.1) ≡ list_any (same_pair x) ns
        → (same_variable (k, y.1) (k + cond (not b) (1 + place_of ns x) 0, x.1) || has_variable (numbered_from (suc k) ns) (k + cond (not b) (1 + place_of ns x) 0, x.1)) ≡ (b || list_any (same_pair x) ns)
    by true e h =
        let s : nat_eq x.1 y.1 ≡ true = (and_parts (bytes_eq x.0 y.0) (nat_eq x.1 y.1) e).1 in
        let q : nat_eq y.1 x.1 ≡ true = eq-eqb y.1 x.1 (sym (eqb-true x.1 y.1 s)) in
        let z : nat_eq k (k + 0) ≡ true = eq-eqb k (k + 0) (sym (add-zero k)) in
        ap₂ (λ a b. (a && b) || has_variable (numbered_from (suc k) ns) (k + 0, x.1)) z q
    by false e h =
        let n : suc k + place_of ns x ≡ k + (1 + place_of ns x) = omega arith in
        ap (λ a. (a && nat_eq y.1 x.1) || has_variable (numbered_from (suc k) ns) (k + (1 + place_of ns x), x.1)) (later_place k (place_of ns x))
        ∙ ap (λ m. has_variable (numbered_from (suc k) ns) (m, x.1)) (sym n) ∙ h

numbered-end : (ns : Pairs) (k : ℕ) (x : List ℕ × ℕ) → numbered_from k (ns ++ x ∷ []) ≡ numbered_from k ns ++ (k + length ns, x.1) ∷ []
numbered-end [] k x = ap (λ i. (i, x.1) ∷ []) (sym (add-zero k))
numbered-end (y ∷ ns) k x =
    let n : suc k + length ns ≡ k + suc (length ns) = omega arith in
    ap (λ xs. (k, y.1) ∷ xs) (numbered-end ns (suc k) x) ∙ ap (λ i. (k, y.1) ∷ (numbered_from (suc k) ns ++ (i, x.1) ∷ [])) n

place_of-new : (ns : Pairs) (x : List ℕ × ℕ) → list_any (same_pair x) ns ≡ false → place_of ns x ≡ length ns
place_of-new [] x e = refl
place_of-new (y ∷ ns) x e = by (same_pair x y) e (place_of-new ns x)
  where
    by : (b : Bool) → (b || list_any (same_pair x) ns) ≡ false → (list_any (same_pair x) ns ≡ false → place_of ns x ≡ length ns) → cond (not b) (1 + place_of ns x) 0 ≡ suc (length ns)
    by true e f = absurd cc
    by false e f = omega (arith, f e)

place_of-there : (ns : Pairs) (x : List ℕ × ℕ) → list_any (same_pair x) ns ≡ true → place_of ns x < length ns
place_of-there [] x e = absurd cc
place_of-there (y ∷ ns) x e = by (same_pair x y) e (place_of-there ns x)
  where
    by : (b : Bool) → (b || list_any (same_pair x) ns) ≡ true → (list_any (same_pair x) ns ≡ true → place_of ns x < length ns) → cond (not b) (1 + place_of ns x) 0 < suc (length ns)
    by true e f = omega arith
    by false e f = omega (arith, f e)

variable_added : (ns : Pairs) (x : List ℕ × ℕ) → (if has_variable (numbered_from 0 ns) (place_of ns x, x.1) then numbered_from 0 ns else numbered_from 0 ns ++ (place_of ns x, x.1) ∷ []) ≡ numbered_from 0 (with_pair ns x)
variable_added ns x = by (list_any (same_pair x) ns) refl
  where
    there : has_variable (numbered_from 0 ns) (place_of ns x, x.1) ≡ list_any (same_pair x) ns
    there = let z : 0 + place_of ns x ≡ place_of ns x = omega arith in ap (λ i. has_variable (numbered_from 0 ns) (i, x.1)) (sym z) ∙ has_numbered ns 0 x

    by : (b : Bool) → list_any (same_pair x) ns ≡ b
        → (if has_variable (numbered_from 0 ns) (place_of ns x, x.1) then numbered_from 0 ns else numbered_from 0 ns ++ (place_of ns x, x.1) ∷ []) ≡ numbered_from 0 (with_pair ns x)
    by true e =
        ap (λ b. if b then numbered_from 0 ns else numbered_from 0 ns ++ (place_of ns x, x.1) ∷ []) (there ∙ e)
        ∙ ap (λ b. numbered_from 0 (if b then ns else ns ++ x ∷ [])) (sym e)
    by false e =
        let z : place_of ns x ≡ 0 + length ns = omega (arith, place_of-new ns x e) in
        ap (λ b. if b then numbered_from 0 ns else numbered_from 0 ns ++ (place_of ns x, x.1) ∷ []) (there ∙ e)
        ∙ ap (λ i. numbered_from 0 ns ++ (i, x.1) ∷ []) z
        ∙ sym (numbered-end ns 0 x)
        ∙ ap (λ b. numbered_from 0 (if b then ns else ns ++ x ∷ [])) (sym e)

-- ---- the term of a tree of tokens

itself_there : (ns : Pairs) (x : List ℕ × ℕ) → list_any (same_pair x) (with_pair ns x) ≡ true
itself_there ns x = by (list_any (same_pair x) ns) refl
  where
    end : (ns : Pairs) → list_any (same_pair x) (ns ++ x ∷ []) ≡ true
    end [] = ap (λ b. b || false) (same_pair_itself x)
    end (y ∷ ns) = ap (λ b. same_pair x y || b) (end ns) ∙ or-true (same_pair x y)
      where
        or-true : (b : Bool) → (b || true) ≡ true
        or-true true = refl
        or-true false = refl

    by : (b : Bool) → list_any (same_pair x) ns ≡ b → list_any (same_pair x) (if list_any (same_pair x) ns then ns else ns ++ x ∷ []) ≡ true
    by true e = ap (λ b. list_any (same_pair x) (if b then ns else ns ++ x ∷ [])) e ∙ e
    by false e = ap (λ b. list_any (same_pair x) (if b then ns else ns ++ x ∷ [])) e ∙ end ns

place_with : (ns : Pairs) (x : List ℕ × ℕ) → place_of (with_pair ns x) x ≡ place_of ns x
place_with ns x = by (list_any (same_pair x) ns) refl
  where
    end : (ns : Pairs) → list_any (same_pair x) ns ≡ false → place_of (ns ++ x ∷ []) x ≡ length ns
    end [] e = ap (λ b. cond (not b) 1 0) (same_pair_itself x)
    end (y ∷ ns) e = go (same_pair x y) e (end ns)
      where
        go : (b : Bool) → (b || list_any (same_pair x) ns) ≡ false → (list_any (same_pair x) ns ≡ false → place_of (ns ++ x ∷ []) x ≡ length ns) → cond (not b) (1 + place_of (ns ++ x ∷ []) x) 0 ≡ suc (length ns)
        go true e f = absurd cc
        go false e f = omega (arith, f e)

    by : (b : Bool) → list_any (same_pair x) ns ≡ b → place_of (if list_any (same_pair x) ns then ns else ns ++ x ∷ []) x ≡ place_of ns x
    by true e = ap (λ b. place_of (if b then ns else ns ++ x ∷ []) x) e
    by false e = ap (λ b. place_of (if b then ns else ns ++ x ∷ []) x) e ∙ end ns e ∙ sym (place_of-new ns x e)

-- ps are the pairs of the tokens, and os those of the command in the end
module _ (ps os : Pairs) where
  mutual
    pub tree_numbered : (ns : Pairs) (t : Tree) → AreGiven ps t → Extends (added ns (pairs_in ps t)) os → add_variables (numbered_from 0 ns) (renamed ps os t) ≡ numbered_from 0 (added ns (pairs_in ps t))
    tree_numbered ns (variable i s) h e =
        let x = pair_at ps i in
        let f : x ≡ (h.0, s) = get_or_from_slice_get ps i (h.0, s) ([], 0) h.1 in
        let k : place_of os x ≡ place_of ns x = kept_place (with_pair ns x) os x e (itself_there ns x) ∙ place_with ns x in
        ap₂ (λ a b. if has_variable (numbered_from 0 ns) (a, b) then numbered_from 0 ns else numbered_from 0 ns ++ (a, b) ∷ []) k (sym (ap (λ y. y.1) f)) ∙ variable_added ns x
    tree_numbered ns (numeral n) h e = refl
    tree_numbered ns (apply f ts) h e = trees_numbered ns ts h e

    trees_numbered : (ns : Pairs) (ts : Trees) → AllGiven ps ts → Extends (added ns (all_pairs ps ts)) os → add_all_variables (numbered_from 0 ns) (all_renamed ps os ts) ≡ numbered_from 0 (added ns (all_pairs ps ts))
    trees_numbered ns no_trees h e = refl
    trees_numbered ns (tree t ts) h e =
        let split : added ns (pairs_in ps t ++ all_pairs ps ts) ≡ added (added ns (pairs_in ps t)) (all_pairs ps ts) = fold-append with_pair ns (pairs_in ps t) (all_pairs ps ts) in
        let rest = subst (λ x. Extends x os) split e in
        ap (λ xs. add_all_variables xs (all_renamed ps os ts)) (tree_numbered ns t h.0 (twice (added_extends (added ns (pairs_in ps t)) (all_pairs ps ts)) rest))
        ∙ trees_numbered (added ns (pairs_in ps t)) ts h.1 rest ∙ ap (numbered_from 0) (sym split)

-- the variables of a term that is read first are numbered as they come
pub read_numbered : (g : GrammarOf) (ws : List (List ℕ)) (goal : Goal) (os : Pairs) (b : Bare) → IsParsed g ws goal [] os b → variables (tree_of b) ≡ numbered_from 0 os
read_numbered g ws goal os b h =
    let ps = pairs_of g ws in
    ap variables h.term.term ∙ tree_numbered ps os [] h.tree (tree_given g ws (lowest g goal) (highest g goal) h.tree h.only.tree) (subst (λ x. Extends x os) h.term.vars (stays os))
    ∙ ap (numbered_from 0) (sym h.term.vars)
