-- Pairs added one by one keep the places of those that are there, so a term keeps its variables when more are added.
use Rattle.std.proofs.Common.{◌≡◌, ℕ, ◌+◌, ◌≤◌, ◌<◌, zero, suc, List, [], ◌∷◌, ◌++◌, length, take, get_or, Bool, true, false, ◌||◌, if◌then◌else◌, cond, not, refl, sym, ◌∙◌, ap, ap₂, subst, arith, append_assoc, length-append}
use Rattle.std.specs.List.{list_any}
use Rattle.std.proofs.lemmas.List.{append-nil, take_more}
use Rattle.std.proofs.lemmas.List.Sums.{fold-append}
use Rattle.mau_terms.specs.Tree.{Tree, variable, numeral, apply, Trees, no_trees, tree, trees_of}
use Rattle.mau_terms.specs.declared.ids.TermId.{TermId}
use Rattle.mau_chart.specs.Nodes.{tree_at, trees_at}
use Rattle.mau_chart.proofs.Lists.{trees_at-append}
use Rattle.mau_terms.specs.Vars.{same_pair, place_of, with_pair}
use Rattle.mau_terms.proofs.Pairs.{same_pair_itself}
use Rattle.mau_parse.specs.Terms.{pair_at, pairs_in, all_pairs, added, renamed, all_renamed, AreGiven, AllGiven}

abbrev pub IsIn : List (List ℕ × ℕ) → List ℕ × ℕ → Type 0
IsIn xs y = list_any (same_pair y) xs ≡ true

-- ---- places stay

place_before : (xs ys : List (List ℕ × ℕ)) (y : List ℕ × ℕ) → IsIn xs y → place_of (xs ++ ys) y ≡ place_of xs y
place_before [] ys y h = cc
place_before (x ∷ xs) ys y h = by (same_pair y x) refl (place_before xs ys y)
  where
    by : (b : Bool) → same_pair y x ≡ b → (IsIn xs y → place_of (xs ++ ys) y ≡ place_of xs y) → cond (not b) (1 + place_of (xs ++ ys) y) 0 ≡ cond (not b) (1 + place_of xs y) 0
    by true e ih = refl
    by false e ih = ap (λ n. 1 + n) (ih (sym (ap (λ b. b || list_any (same_pair y) xs) e) ∙ h))

in_before : (xs ys : List (List ℕ × ℕ)) (y : List ℕ × ℕ) → IsIn xs y → IsIn (xs ++ ys) y
in_before [] ys y h = cc
in_before (x ∷ xs) ys y h = by (same_pair y x) refl (in_before xs ys y)
  where
    by : (b : Bool) → same_pair y x ≡ b → (IsIn xs y → IsIn (xs ++ ys) y) → (b || list_any (same_pair y) (xs ++ ys)) ≡ true
    by true e ih = refl
    by false e ih = ih (sym (ap (λ b. b || list_any (same_pair y) xs) e) ∙ h)

in_last : (xs : List (List ℕ × ℕ)) (y : List ℕ × ℕ) → IsIn (xs ++ y ∷ []) y
in_last [] y = ap (λ b. b || false) (same_pair_itself y)
in_last (x ∷ xs) y = by (same_pair y x) (in_last xs y)
  where
    by : (b : Bool) → IsIn (xs ++ y ∷ []) y → (b || list_any (same_pair y) (xs ++ y ∷ [])) ≡ true
    by true h = refl
    by false h = h

place_last : (xs : List (List ℕ × ℕ)) (y : List ℕ × ℕ) → place_of (xs ++ y ∷ []) y ≡ place_of xs y
place_last [] y = ap (λ b. cond (not b) 1 0) (same_pair_itself y)
place_last (x ∷ xs) y = ap (λ n. cond (not (same_pair y x)) (1 + n) 0) (place_last xs y)

-- ---- with a pair more

pub place_with : (xs : List (List ℕ × ℕ)) (y : List ℕ × ℕ) → place_of (with_pair xs y) y ≡ place_of xs y
place_with xs y = by (list_any (same_pair y) xs)
  where
    by : (b : Bool) → place_of (if b then xs else xs ++ y ∷ []) y ≡ place_of xs y
    by true = refl
    by false = place_last xs y

pub in_with : (xs : List (List ℕ × ℕ)) (y : List ℕ × ℕ) → IsIn (with_pair xs y) y
in_with xs y = by (list_any (same_pair y) xs) refl
  where
    by : (b : Bool) → list_any (same_pair y) xs ≡ b → IsIn (if b then xs else xs ++ y ∷ []) y
    by true h = h
    by false h = in_last xs y

in_kept : (xs : List (List ℕ × ℕ)) (z y : List ℕ × ℕ) → IsIn xs y → IsIn (with_pair xs z) y
in_kept xs z y h = by (list_any (same_pair z) xs)
  where
    by : (b : Bool) → IsIn (if b then xs else xs ++ z ∷ []) y
    by true = h
    by false = in_before xs (z ∷ []) y h

place_kept : (xs : List (List ℕ × ℕ)) (z y : List ℕ × ℕ) → IsIn xs y → place_of (with_pair xs z) y ≡ place_of xs y
place_kept xs z y h = by (list_any (same_pair z) xs)
  where
    by : (b : Bool) → place_of (if b then xs else xs ++ z ∷ []) y ≡ place_of xs y
    by true = refl
    by false = place_before xs (z ∷ []) y h

pub few_with : (xs : List (List ℕ × ℕ)) (z : List ℕ × ℕ) → length (with_pair xs z) ≤ length xs + 1
few_with xs z = by (list_any (same_pair z) xs)
  where
    one : (us : List (List ℕ × ℕ)) → length (us ++ z ∷ []) ≤ length us + 1
    one [] = omega arith
    one (u ∷ us) = omega (arith, one us)

    by : (b : Bool) → length (if b then xs else xs ++ z ∷ []) ≤ length xs + 1
    by true = omega arith
    by false = one xs

-- ---- with some more

pub in_added : (xs zs : List (List ℕ × ℕ)) (y : List ℕ × ℕ) → IsIn xs y → IsIn (added xs zs) y
in_added xs [] y h = h
in_added xs (z ∷ zs) y h = in_added (with_pair xs z) zs y (in_kept xs z y h)

place_added : (xs zs : List (List ℕ × ℕ)) (y : List ℕ × ℕ) → IsIn xs y → place_of (added xs zs) y ≡ place_of xs y
place_added xs [] y h = refl
place_added xs (z ∷ zs) y h = place_added (with_pair xs z) zs y (in_kept xs z y h) ∙ place_kept xs z y h

pub few_added : (xs zs : List (List ℕ × ℕ)) → length (added xs zs) ≤ length xs + length zs
few_added xs [] = omega arith
few_added xs (z ∷ zs) = omega (arith, few_added (with_pair xs z) zs, few_with xs z)

-- all of them are there
abbrev AllIn : List (List ℕ × ℕ) → List (List ℕ × ℕ) → Type 0
AllIn xs [] = Unit {0}
AllIn xs (y ∷ ys) = IsIn xs y × AllIn xs ys

all_in_added : (xs ys : List (List ℕ × ℕ)) → AllIn (added xs ys) ys
all_in_added xs [] = tt
all_in_added xs (y ∷ ys) = (in_added (with_pair xs y) ys y (in_with xs y), all_in_added (with_pair xs y) ys)

parts_in : (xs ys zs : List (List ℕ × ℕ)) → AllIn xs (ys ++ zs) → AllIn xs ys × AllIn xs zs
parts_in xs [] zs h = (tt, h)
parts_in xs (y ∷ ys) zs h = let r = parts_in xs ys zs h.1 in ((h.0, r.0), r.1)

-- ---- a term keeps its variables

mutual
  kept : (ps xs zs : List (List ℕ × ℕ)) (t : Tree) → AllIn xs (pairs_in ps t) → renamed ps (added xs zs) t ≡ renamed ps xs t
  kept ps xs zs (variable i s) h = ap (λ n. variable n s) (place_added xs zs (pair_at ps i) h.0)
  kept ps xs zs (numeral n) h = refl
  kept ps xs zs (apply f ts) h = ap (apply f) (all_kept ps xs zs ts h)

  all_kept : (ps xs zs : List (List ℕ × ℕ)) (ts : Trees) → AllIn xs (all_pairs ps ts) → all_renamed ps (added xs zs) ts ≡ all_renamed ps xs ts
  all_kept ps xs zs no_trees h = refl
  all_kept ps xs zs (tree t ts) h =
      let r = parts_in xs (pairs_in ps t) (all_pairs ps ts) h in
      ap₂ tree (kept ps xs zs t r.0) (all_kept ps xs zs ts r.1)

-- ---- one tree more

pub pairs_more : (ps : List (List ℕ × ℕ)) (ts : List Tree) (t : Tree) → all_pairs ps (trees_of (ts ++ t ∷ [])) ≡ all_pairs ps (trees_of ts) ++ pairs_in ps t
pairs_more ps [] t = append-nil (pairs_in ps t)
pairs_more ps (u ∷ ts) t = ap (λ ys. pairs_in ps u ++ ys) (pairs_more ps ts t) ∙ sym (append_assoc (pairs_in ps u) (all_pairs ps (trees_of ts)) (pairs_in ps t))

renamed_end : (ps xs : List (List ℕ × ℕ)) (ts us : List Tree) (t u : Tree) → trees_of us ≡ all_renamed ps xs (trees_of ts) → u ≡ renamed ps xs t → trees_of (us ++ u ∷ []) ≡ all_renamed ps xs (trees_of (ts ++ t ∷ []))
renamed_end ps xs [] [] t u e h = ap (λ v. tree v no_trees) h
renamed_end ps xs [] (v ∷ us) t u e h = cc
renamed_end ps xs (s ∷ ts) [] t u e h = cc
renamed_end ps xs (s ∷ ts) (v ∷ us) t u e h =
    let a : v ≡ renamed ps xs s = cc in
    let b : trees_of us ≡ all_renamed ps xs (trees_of ts) = cc in
    ap₂ tree a (renamed_end ps xs ts us t u b h)

pub added_more : (ps xs ys zs : List (List ℕ × ℕ)) (ts : List Tree) (t : Tree) → ys ≡ added xs (all_pairs ps (trees_of ts)) → zs ≡ added ys (pairs_in ps t) → zs ≡ added xs (all_pairs ps (trees_of (ts ++ t ∷ [])))
added_more ps xs ys zs ts t e h =
    h ∙ ap (λ us. added us (pairs_in ps t)) e ∙ sym (fold-append with_pair xs (all_pairs ps (trees_of ts)) (pairs_in ps t)) ∙ ap (added xs) (sym (pairs_more ps ts t))

pub renamed_more : (ps xs ys zs : List (List ℕ × ℕ)) (ts us : List Tree) (t u : Tree) → ys ≡ added xs (all_pairs ps (trees_of ts)) → zs ≡ added ys (pairs_in ps t)
    → trees_of us ≡ all_renamed ps ys (trees_of ts) → u ≡ renamed ps zs t → trees_of (us ++ u ∷ []) ≡ all_renamed ps zs (trees_of (ts ++ t ∷ []))
renamed_more ps xs ys zs ts us t u e h k w =
    let there : AllIn ys (all_pairs ps (trees_of ts)) = subst (λ vs. AllIn vs (all_pairs ps (trees_of ts))) (sym e) (all_in_added xs (all_pairs ps (trees_of ts))) in
    let same : all_renamed ps zs (trees_of ts) ≡ all_renamed ps ys (trees_of ts) = ap (λ vs. all_renamed ps vs (trees_of ts)) h ∙ all_kept ps ys (pairs_in ps t) (trees_of ts) there in
    renamed_end ps zs ts us t u (k ∙ sym same) w

-- ---- arguments in a chart's trees

pub given_at : (ps : List (List ℕ × ℕ)) (s : List Tree) (ids : List TermId) (i : ℕ) (d : TermId) → i < length ids → AllGiven ps (trees_of (trees_at s ids)) → AreGiven ps (tree_at s (get_or ids i d).0)
given_at ps s [] i d h g = absurd (omega arith)
given_at ps s (id ∷ ids) zero d h g = g.0
given_at ps s (id ∷ ids) (suc i) d h g = given_at ps s ids i d (omega arith) g.1

pub room_at : (ps : List (List ℕ × ℕ)) (s : List Tree) (ids : List TermId) (i : ℕ) (d : TermId) → i < length ids
    → length (all_pairs ps (trees_of (trees_at s (take i ids)))) + length (pairs_in ps (tree_at s (get_or ids i d).0)) ≤ length (all_pairs ps (trees_of (trees_at s ids)))
room_at ps s [] i d h = absurd (omega arith)
room_at ps s (id ∷ ids) zero d h = omega (arith, length-append (pairs_in ps (tree_at s id.0)) (all_pairs ps (trees_of (trees_at s ids))))
room_at ps s (id ∷ ids) (suc i) d h =
    omega (arith, room_at ps s ids i d (omega arith), length-append (pairs_in ps (tree_at s id.0)) (all_pairs ps (trees_of (trees_at s ids))), length-append (pairs_in ps (tree_at s id.0)) (all_pairs ps (trees_of (trees_at s (take i ids)))))

pub trees_step : (s : List Tree) (ids : List TermId) (i : ℕ) (d : TermId) → i < length ids → trees_at s (take (i + 1) ids) ≡ trees_at s (take i ids) ++ tree_at s (get_or ids i d).0 ∷ []
trees_step s ids i d h = ap (trees_at s) (take_more ids i d h) ∙ trees_at-append s (take i ids) (get_or ids i d ∷ [])
