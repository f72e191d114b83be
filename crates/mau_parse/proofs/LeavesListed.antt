-- The leaves in order are exactly the leaves, and each of them is within the text.
use Rattle.std.proofs.Common.{◌≡◌, ℕ, zero, suc, ◌+◌, ◌-◌, ◌<◌, ◌≤◌, List, [], ◌∷◌, ◌++◌, length, map, filter, drop, take, get_or, Bool, true, false, ◌||◌, ◌⊎◌, inl, inr, Option, Some, None, All, cond, not, codes, bytes_eq, nat_eq, ◌&&◌, if◌then◌else◌, slice_get, refl, sym, ◌∙◌, ap, subst, arith}
use Rattle.std.specs.List.{list_any}
use Rattle.std.proofs.lemmas.List.{length-drop, length-map, get_or-map, map_more, map-append}
use Rattle.std.proofs.lemmas.List.Sums.{fold-append}
use Rattle.std.proofs.lemmas.Option.{slice_get_within, slice_get-get_or, get_or_from_slice_get, same_Some, none-some}
use Rattle.std.proofs.lemmas.Bool.{cases_lt}
use Rattle.std.specs.Str.Parse.{digits_value}
use Rattle.mau_numerals.specs.Numerals.{is_numeral}
use Rattle.mau_terms.specs.Vars.{same_pair, place_of, with_pair, AreDistinct}
use Rattle.mau_terms.proofs.Pairs.{same_pair-is, same_pair_itself, pairs_keep_places, AreDistinct-with_pair}
use Rattle.mau_grammar.specs.declared.sorts.SortName.{SortName}
use Rattle.mau_grammar.specs.declared.aliases.Variable.{Variable}
use Rattle.mau_grammar.specs.Grammar.{GrammarOf}
use Rattle.mau_grammar.specs.Leaves.{VariableReading, pair_of, as_alias, aliases_at, sort_named, is_cut, with_sort, cut_at, cuts_to, if_kind, kind_with, kind_list, with_kind, kind_variable, readings_of, readings_from, readings_at, readings_to, pairs_of}
use Rattle.mau_chart.specs.declared.grammar.Leaf.{Leaf}
use Rattle.mau_chart.specs.declared.grammar.Said.TheVariants.{Word as Silent, Var, Num}
use Rattle.mau_chart.specs.Chart.{IsLeaf, AreLeaves}
use Rattle.mau_parse.specs.Words.{text_at}
use Rattle.mau_parse.specs.Charted.{word_number, kind_number, leaf, IsLeafOf, word_leaf, numeral_leaf, variable_leaf, AreLeavesOf}
use Rattle.mau_parse.specs.VariableIds.{var_id}
use Rattle.mau_parse.specs.Listed.{word_at, numerals_at, variable_at, leaves_at, IsKnown}
use Rattle.mau_parse.specs.declared.readings.VariableReading.{VariableReading as CodeReading}
use Rattle.mau_parse.specs.Readings.{seen, all_seen}
use Rattle.mau_parse.specs.Terms.{added}
use Rattle.mau_parse.proofs.Renamed.{in_added, in_with, few_with}

-- ---- members of a list

abbrev pub IsIn : {A : Type 0} → List A → A → Type 0
IsIn xs x = (n : ℕ) × (slice_get xs n ≡ Some x)

pub in_none : {A : Type 0} (x : A) → IsIn [] x → ⊥
in_none x h = none-some x h.1

in_next : {A : Type 0} (x : A) (xs : List A) (y : A) → IsIn xs y → IsIn (x ∷ xs) y
in_next x xs y h = (suc h.0, h.1)

in_left : {A : Type 0} (xs ys : List A) (y : A) → IsIn xs y → IsIn (xs ++ ys) y
in_left xs ys y h = by xs h.0 h.1
  where
    by : (us : List _) (n : ℕ) → slice_get us n ≡ Some y → IsIn (us ++ ys) y
    by [] n e = absurd (none-some y e)
    by (u ∷ us) zero e = (zero, e)
    by (u ∷ us) (suc n) e = in_next u (us ++ ys) y (by us n e)

in_right : {A : Type 0} (xs ys : List A) (y : A) → IsIn ys y → IsIn (xs ++ ys) y
in_right [] ys y h = h
in_right (x ∷ xs) ys y h = in_next x (xs ++ ys) y (in_right xs ys y h)

pub in_one : {A : Type 0} (x y : A) → IsIn (x ∷ []) y → x ≡ y
in_one x y h = by h.0 h.1
  where
    by : (n : ℕ) → slice_get (x ∷ []) n ≡ Some y → x ≡ y
    by zero e = same_Some x y e
    by (suc n) e = absurd (none-some y e)

in_head : {A : Type 0} (x : A) (xs : List A) (y : A) → IsIn (x ∷ xs) y → (x ≡ y) ⊎ IsIn xs y
in_head x xs y h = by h.0 h.1
  where
    by : (n : ℕ) → slice_get (x ∷ xs) n ≡ Some y → (x ≡ y) ⊎ IsIn xs y
    by zero e = inl (same_Some x y e)
    by (suc n) e = inr (n, e)

pub in_parts : {A : Type 0} (xs ys : List A) (y : A) → IsIn (xs ++ ys) y → IsIn xs y ⊎ IsIn ys y
in_parts xs ys y h = by xs h.0 h.1
  where
    by : (us : List _) (n : ℕ) → slice_get (us ++ ys) n ≡ Some y → IsIn us y ⊎ IsIn ys y
    by [] n e = inr (n, e)
    by (u ∷ us) zero e = inl (zero, e)
    by (u ∷ us) (suc n) e = elim (by us n e) [ inl p ↦ inl (in_next u us y p) | inr q ↦ inr q ]

in_map : {A B : Type 0} (f : A → B) (xs : List A) (x : A) → IsIn xs x → IsIn (map f xs) (f x)
in_map f xs x h = by xs h.0 h.1
  where
    by : (us : List _) (n : ℕ) → slice_get us n ≡ Some x → IsIn (map f us) (f x)
    by [] n e = absurd (none-some x e)
    by (u ∷ us) zero e = (zero, ap (λ v. Some (f v)) (same_Some u x e))
    by (u ∷ us) (suc n) e = in_next (f u) (map f us) (f x) (by us n e)

pub in_mapped : {A B : Type 0} (f : A → B) (xs : List A) (y : B) → IsIn (map f xs) y → (x : A) × IsIn xs x × (f x ≡ y)
in_mapped f xs y h = by xs h.0 h.1
  where
    by : (us : List _) (n : ℕ) → slice_get (map f us) n ≡ Some y → (x : _) × IsIn us x × (f x ≡ y)
    by [] n e = absurd (none-some y e)
    by (u ∷ us) zero e = (u, (zero, refl), same_Some (f u) y e)
    by (u ∷ us) (suc n) e = let r = by us n e in (r.0, in_next u us r.0 r.1, r.2)

-- ---- pairs

in_pairs : (xs ys : List (List ℕ × ℕ)) (y : List ℕ × ℕ) → IsIn ys y → list_any (same_pair y) (added xs ys) ≡ true
in_pairs xs ys y h = by xs ys h.0 h.1
  where
    by : (us vs : List (List ℕ × ℕ)) (n : ℕ) → slice_get vs n ≡ Some y → list_any (same_pair y) (added us vs) ≡ true
    by us [] n e = absurd (none-some y e)
    by us (v ∷ vs) zero e = in_added (with_pair us v) vs y (subst (λ z. list_any (same_pair z) (with_pair us v) ≡ true) (same_Some v y e) (in_with us v))
    by us (v ∷ vs) (suc n) e = by (with_pair us v) vs n e

distinct_added : (xs ys : List (List ℕ × ℕ)) → AreDistinct xs → AreDistinct (added xs ys)
distinct_added xs [] d = d
distinct_added xs (y ∷ ys) d = distinct_added (with_pair xs y) ys (AreDistinct-with_pair xs y d)

pub any_there : (p : List ℕ × ℕ → Bool) (xs : List (List ℕ × ℕ)) (n : ℕ) (y : List ℕ × ℕ) → list_any p xs ≡ false → slice_get xs n ≡ Some y → p y ≡ false
any_there p [] n y h e = absurd (none-some y e)
any_there p (x ∷ xs) zero y h e = by (p x) h (ap p (same_Some x y e))
  where
    by : (b : Bool) → (b || list_any p xs) ≡ false → b ≡ p y → p y ≡ false
    by true q k = cc
    by false q k = sym k
any_there p (x ∷ xs) (suc n) y h e = by (p x) h (λ k. any_there p xs n y k e)
  where
    by : (b : Bool) → (b || list_any p xs) ≡ false → (list_any p xs ≡ false → p y ≡ false) → p y ≡ false
    by true q k = cc
    by false q k = k q

-- where each pair is there once, a pair is at its place
place_there : (xs : List (List ℕ × ℕ)) (n : ℕ) (y : List ℕ × ℕ) → AreDistinct xs → slice_get xs n ≡ Some y → place_of xs y ≡ n
place_there [] n y d e = absurd (none-some y e)
place_there (x ∷ xs) zero y d e =
    let same : same_pair y x ≡ true = subst (λ z. same_pair y z ≡ true) (sym (same_Some x y e)) (same_pair_itself y) in
    ap (λ b. cond (not b) (1 + place_of xs y) 0) same
place_there (x ∷ xs) (suc n) y d e = by (same_pair y x) refl (place_there xs n y d.1 e)
  where
    by : (b : Bool) → same_pair y x ≡ b → place_of xs y ≡ n → cond (not b) (1 + place_of xs y) 0 ≡ suc n
    by false q h = omega (arith, h)
    by true q h =
        let other : same_pair x y ≡ false = any_there (same_pair x) xs n y d.0 e in
        let same : same_pair x y ≡ true = subst (λ z. same_pair z y ≡ true) (same_pair-is y x q) (same_pair_itself y) in
        cc

with_known : (xs : List (List ℕ × ℕ)) (y : List ℕ × ℕ) → list_any (same_pair y) xs ≡ true → with_pair xs y ≡ xs
with_known xs y h = ap (λ b. if b then xs else xs ++ y ∷ []) h

place_known : (xs : List (List ℕ × ℕ)) (y : List ℕ × ℕ) → list_any (same_pair y) xs ≡ true → slice_get xs (place_of xs y) ≡ Some y
place_known xs y h = subst (λ zs. slice_get zs (place_of xs y) ≡ Some y) (with_known xs y h) (pairs_keep_places xs y).stands

-- ---- the readings of a text

pub below_suc : (i n : ℕ) → i < suc n → (i < n) ⊎ (i ≡ n)
below_suc i n h = elim (cases_lt i n) [ inl k ↦ inl k | inr k ↦ inr (omega arith) ]

readings_before : (g : GrammarOf) (ws : List (List ℕ)) (n i : ℕ) (r : VariableReading) → i < n → IsIn (readings_at g ws i) r → IsIn (readings_to g ws n) r
readings_before g ws zero i r h x = absurd (omega arith)
readings_before g ws (suc n) i r h x = by (below_suc i n h) (λ k. readings_before g ws n i r k x)
  where
    by : (i < n) ⊎ (i ≡ n) → (i < n → IsIn (readings_to g ws n) r) → IsIn (readings_to g ws n ++ readings_at g ws n) r
    by (inl k) ih = in_left (readings_to g ws n) (readings_at g ws n) r (ih k)
    by (inr e) ih = in_right (readings_to g ws n) (readings_at g ws n) r (subst (λ m. IsIn (readings_at g ws m) r) e x)

pub reading_known : (g : GrammarOf) (ws : List (List ℕ)) (i : ℕ) (r : VariableReading) → i < length ws → IsIn (readings_at g ws i) r → IsKnown (pairs_of g ws) r
reading_known g ws i r h x =
    in_pairs [] (map pair_of (readings_to g ws (length ws))) (pair_of r) (in_map pair_of (readings_to g ws (length ws)) r (readings_before g ws (length ws) i r h x))

pub readings_known : (g : GrammarOf) (ws : List (List ℕ)) (i : ℕ) (rs : List VariableReading) → i < length ws → rs ≡ readings_at g ws i → All (IsKnown (pairs_of g ws)) rs
readings_known g ws i rs h e = subst (All (IsKnown (pairs_of g ws))) (sym e) (λ k r l. reading_known g ws i (get_or (readings_at g ws i) k r) h (k, slice_get-get_or (readings_at g ws i) k r l))

past_none : (g : GrammarOf) (ws : List (List ℕ)) (i : ℕ) → length ws ≤ i → readings_at g ws i ≡ []
past_none g ws i h = by (drop i ws) (omega (arith, length-drop i ws))
  where
    by : (us : List (List ℕ)) → length us ≡ 0 → readings_from g us i ≡ []
    by [] e = refl
    by (u ∷ us) e = absurd (omega arith)

-- a variable begins at one of the tokens
pub reading_begins : (g : GrammarOf) (ws : List (List ℕ)) (i : ℕ) (r : VariableReading) → IsIn (readings_at g ws i) r → i < length ws
reading_begins g ws i r x = by (cases_lt i (length ws))
  where
    by : (i < length ws) ⊎ (length ws ≤ i) → i < length ws
    by (inl h) = h
    by (inr h) = absurd (in_none r (subst (λ rs. IsIn rs r) (past_none g ws i h) x))

-- ---- leaves in order are leaves

text_there : (ws : List (List ℕ)) (i : ℕ) → i < length ws → slice_get ws i ≡ Some (text_at ws i)
text_there ws i h = slice_get-get_or ws i [] h

numeral_right : (g : GrammarOf) (ws : List (List ℕ)) (i : ℕ) (l : Leaf) → i < length ws → IsIn (numerals_at g.numerals ws i) l → IsLeafOf g ws l
numeral_right g ws i l h x = by g.numerals refl x
  where
    by : (o : Option ℕ) → g.numerals ≡ o → IsIn (numerals_at o ws i) l → IsLeafOf g ws l
    by None e y = absurd (in_none l y)
    by (Some k) e y = if_numeral (is_numeral (text_at ws i)) refl y
      where
        if_numeral : (b : Bool) → is_numeral (text_at ws i) ≡ b → IsIn (if b then leaf (kind_number ws k) 1 i (i + 1) (Num (digits_value 10 (text_at ws i))) ∷ [] else []) l → IsLeafOf g ws l
        if_numeral true q z = subst (IsLeafOf g ws) (in_one _ l z) (numeral_leaf i k (text_at ws i) (text_there ws i h) q e)
        if_numeral false q z = absurd (in_none l z)

variable_right : (g : GrammarOf) (ws : List (List ℕ)) (i : ℕ) (l : Leaf) → i < length ws → IsIn (map (variable_at ws (pairs_of g ws) i) (readings_at g ws i)) l → IsLeafOf g ws l
variable_right g ws i l h x =
    let r = in_mapped (variable_at ws (pairs_of g ws) i) (readings_at g ws i) l x in
    subst (IsLeafOf g ws) r.2 (variable_leaf i r.1.0 (place_of (pairs_of g ws) (pair_of r.0)) r.0 r.1.1 (place_known (pairs_of g ws) (pair_of r.0) (reading_known g ws i r.0 h r.1)))

here_right : (g : GrammarOf) (ws : List (List ℕ)) (i : ℕ) (l : Leaf) → i < length ws → IsIn (leaves_at g ws (pairs_of g ws) i) l → IsLeafOf g ws l
here_right g ws i l h x =
    elim (in_head (word_at ws i) (numerals_at g.numerals ws i ++ map (variable_at ws (pairs_of g ws) i) (readings_at g ws i)) l x) [
      | inl e ↦ subst (IsLeafOf g ws) e (word_leaf i (text_at ws i) (text_there ws i h))
      | inr y ↦ elim (in_parts (numerals_at g.numerals ws i) (map (variable_at ws (pairs_of g ws) i) (readings_at g ws i)) l y) [
        | inl z ↦ numeral_right g ws i l h z
        | inr z ↦ variable_right g ws i l h z
      ]
    ]

-- the leaves at the first n places
abbrev pub leaves_to : GrammarOf → List (List ℕ) → List (List ℕ × ℕ) → ℕ → List Leaf
leaves_to g ws ps zero = []
leaves_to g ws ps (suc n) = leaves_to g ws ps n ++ leaves_at g ws ps n

all_right : (g : GrammarOf) (ws : List (List ℕ)) (n : ℕ) (l : Leaf) → n ≤ length ws → IsIn (leaves_to g ws (pairs_of g ws) n) l → IsLeafOf g ws l
all_right g ws zero l h x = absurd (in_none l x)
all_right g ws (suc n) l h x = by (in_parts (leaves_to g ws (pairs_of g ws) n) (leaves_at g ws (pairs_of g ws) n) l x) (all_right g ws n l (omega arith))
  where
    by : IsIn (leaves_to g ws (pairs_of g ws) n) l ⊎ IsIn (leaves_at g ws (pairs_of g ws) n) l → (IsIn (leaves_to g ws (pairs_of g ws) n) l → IsLeafOf g ws l) → IsLeafOf g ws l
    by (inl y) ih = ih y
    by (inr y) ih = here_right g ws n l (omega arith) y

-- ---- and all of them

at_place : (g : GrammarOf) (ws : List (List ℕ)) (ps : List (List ℕ × ℕ)) (n i : ℕ) (l : Leaf) → i < n → IsIn (leaves_at g ws ps i) l → IsIn (leaves_to g ws ps n) l
at_place g ws ps zero i l h x = absurd (omega arith)
at_place g ws ps (suc n) i l h x = by (below_suc i n h) (λ k. at_place g ws ps n i l k x)
  where
    by : (i < n) ⊎ (i ≡ n) → (i < n → IsIn (leaves_to g ws ps n) l) → IsIn (leaves_to g ws ps n ++ leaves_at g ws ps n) l
    by (inl k) ih = in_left (leaves_to g ws ps n) (leaves_at g ws ps n) l (ih k)
    by (inr e) ih = in_right (leaves_to g ws ps n) (leaves_at g ws ps n) l (subst (λ m. IsIn (leaves_at g ws ps m) l) e x)

text_is : (ws : List (List ℕ)) (i : ℕ) (w : List ℕ) → slice_get ws i ≡ Some w → text_at ws i ≡ w
text_is ws i w e = get_or_from_slice_get ws i w [] e

one_if : (b : Bool) (l : Leaf) → b ≡ true → IsIn (if b then l ∷ [] else []) l
one_if b l e = subst (λ c. IsIn (if c then l ∷ [] else []) l) (sym e) (zero, refl)

numeral_there : (ws : List (List ℕ)) (o : Option ℕ) (i k : ℕ) (w : List ℕ) → slice_get ws i ≡ Some w → is_numeral w ≡ true → o ≡ Some k → IsIn (numerals_at o ws i) (leaf (kind_number ws k) 1 i (i + 1) (Num (digits_value 10 w)))
numeral_there ws o i k w e f x =
    let t = text_is ws i w e in
    subst (λ p. IsIn (numerals_at p ws i) (leaf (kind_number ws k) 1 i (i + 1) (Num (digits_value 10 w)))) (sym x)
    (subst (λ v. IsIn (if is_numeral v then leaf (kind_number ws k) 1 i (i + 1) (Num (digits_value 10 v)) ∷ [] else []) (leaf (kind_number ws k) 1 i (i + 1) (Num (digits_value 10 w)))) (sym t)
    (one_if (is_numeral w) (leaf (kind_number ws k) 1 i (i + 1) (Num (digits_value 10 w))) f))

all_there : (g : GrammarOf) (ws : List (List ℕ)) (l : Leaf) → IsLeafOf g ws l → IsIn (leaves_to g ws (pairs_of g ws) (length ws)) l
all_there g ws l (word_leaf i w e) =
    at_place g ws (pairs_of g ws) (length ws) i _ (slice_get_within ws i w e) (zero, ap (λ v. Some (leaf (word_number ws v) 0 i (i + 1) Silent)) (text_is ws i w e))
all_there g ws l (numeral_leaf i k w e f x) =
    let ps = pairs_of g ws in
    at_place g ws ps (length ws) i _ (slice_get_within ws i w e) (in_next (word_at ws i) _ _
    (in_left (numerals_at g.numerals ws i) (map (variable_at ws ps i) (readings_at g ws i)) _ (numeral_there ws g.numerals i k w e f x)))
all_there g ws l (variable_leaf i m n r e f) =
    let ps = pairs_of g ws in
    let place : place_of ps (pair_of r) ≡ n = place_there ps n (pair_of r) (distinct_added [] (map pair_of (readings_to g ws (length ws))) tt) f in
    at_place g ws ps (length ws) i _ (reading_begins g ws i r (m, e)) (in_next (word_at ws i) _ _
    (in_right (numerals_at g.numerals ws i) (map (variable_at ws ps i) (readings_at g ws i)) _
    (subst (λ k. IsIn (map (variable_at ws ps i) (readings_at g ws i)) (leaf (kind_number ws r.kind) 1 i r.end (Var (var_id k r.sort)))) place
    (in_map (variable_at ws ps i) (readings_at g ws i) r (m, e)))))

pub leaves_are : (g : GrammarOf) (ws : List (List ℕ)) → AreLeavesOf g ws (leaves_to g ws (pairs_of g ws) (length ws))
leaves_are g ws = record {
  right = λ n l e. all_right g ws (length ws) l (omega arith) (n, e);
  all = all_there g ws;
}

-- ---- readings of the code

pub known_at : (ps qs : List (List ℕ × ℕ)) (rs : List CodeReading) (i : ℕ) (d : CodeReading) → qs ≡ ps → i < length rs → All (IsKnown ps) (all_seen rs) → IsKnown qs (seen (get_or rs i d))
known_at ps qs rs i d e h a = subst (λ us. IsKnown us (seen (get_or rs i d))) (sym e) (subst (IsKnown ps) (get_or-map seen rs i d (seen d) h) (a i (seen d) (omega (arith, length-map rs seen))))

pub pairs_step : (ps : List (List ℕ × ℕ)) (rs : List CodeReading) (i : ℕ) (d : CodeReading) → i < length rs → ps ≡ added [] (map pair_of (all_seen (take i rs)))
    → with_pair ps (pair_of (seen (get_or rs i d))) ≡ added [] (map pair_of (all_seen (take (i + 1) rs)))
pairs_step ps rs i d h e =
    let r = seen (get_or rs i d) in
    let before = all_seen (take i rs) in
    ap (λ us. with_pair us (pair_of r)) e
    ∙ sym (fold-append with_pair [] (map pair_of before) (pair_of r ∷ []))
    ∙ ap (added []) (sym (ap (map pair_of) (map_more seen rs i d h) ∙ map-append pair_of before (r ∷ [])))

pub few_more : (ps qs : List (List ℕ × ℕ)) (y : List ℕ × ℕ) → qs ≡ with_pair ps y → length ps < 4294967294 → length qs < 4294967295
few_more ps qs y e h = omega (arith, few_with ps y, ap length e)

-- ---- leaves are within the text

kinds_within : (ss : List SortName) (us : List (List ℕ)) (i : ℕ) (r : ℕ × ℕ) → kind_list ss us i ≡ Some r → (i < r.1) × (r.1 ≤ i + length us)
kinds_within ss [] i r e = absurd (none-some r e)
kinds_within ss (w ∷ []) i r e = absurd (none-some r e)
kinds_within ss (w ∷ m ∷ us) i r e = by (sort_named ss w) e (λ x q. kinds_within ss us (i + 2) x q)
  where
    if_same : (b : Bool) (x : ℕ × ℕ) → (if b then Some x else None) ≡ Some r → x ≡ r
    if_same true x q = same_Some x r q
    if_same false x q = absurd (none-some r q)

    rest : (k : ℕ) (o : Option (ℕ × ℕ)) → if_kind k o ≡ Some r → ((x : ℕ × ℕ) → o ≡ Some x → (i + 2 < x.1) × (x.1 ≤ (i + 2) + length us)) → (i < r.1) × (r.1 ≤ i + length (w ∷ m ∷ us))
    rest k None q ih = absurd (none-some r q)
    rest k (Some x) q ih = let s = ap (λ (p : ℕ × ℕ). p.1) (if_same (nat_eq x.0 k) x q) in let b = ih x refl in (omega (arith, b.0, s), omega (arith, b.1, s))

    marked : (b d : Bool) (s : ℕ × ℕ) → (if b then Some (s.1, i + 2) else (if d then if_kind s.1 (kind_list ss us (i + 2)) else None)) ≡ Some r
        → ((x : ℕ × ℕ) → kind_list ss us (i + 2) ≡ Some x → (i + 2 < x.1) × (x.1 ≤ (i + 2) + length us)) → (i < r.1) × (r.1 ≤ i + length (w ∷ m ∷ us))
    marked true d s q ih = let t = ap (λ (p : ℕ × ℕ). p.1) (same_Some (s.1, i + 2) r q) in (omega (arith, t), omega (arith, t))
    marked false true s q ih = rest s.1 (kind_list ss us (i + 2)) q ih
    marked false false s q ih = absurd (none-some r q)

    by : (o : Option (ℕ × ℕ)) → kind_with o m i (kind_list ss us (i + 2)) ≡ Some r → ((x : ℕ × ℕ) → kind_list ss us (i + 2) ≡ Some x → (i + 2 < x.1) × (x.1 ≤ (i + 2) + length us)) → (i < r.1) × (r.1 ≤ i + length (w ∷ m ∷ us))
    by None q ih = absurd (none-some r q)
    by (Some s) q ih = marked (bytes_eq m (codes "]")) (bytes_eq m (codes ",")) s q ih

-- the tokens of a variable at i, of which n follow i
abbrev IsWithin : ℕ → ℕ → VariableReading → Type 0
IsWithin i n r = (i < r.end) × (r.end ≤ (i + 1) + n)

alias_within : (vs : List Variable) (w : List ℕ) (i n : ℕ) (r : VariableReading) → IsIn (aliases_at vs w i) r → IsWithin i n r
alias_within vs w i n r h =
    let x = in_mapped (as_alias i) (filter (λ v. bytes_eq v.name w) vs) r h in
    let e : i + 1 ≡ r.end = ap (λ (q : VariableReading). q.end) x.2 in
    (omega (arith, e), omega (arith, e))

cut_within : (ss : List SortName) (w : List ℕ) (i n k : ℕ) (r : VariableReading) → IsIn (cut_at ss w i k) r → IsWithin i n r
cut_within ss w i n k r h = by (is_cut w k) (sort_named ss (drop (k + 1) w)) h
  where
    by : (b : Bool) (o : Option (ℕ × ℕ)) → IsIn (if b then with_sort (take k w) (i + 1) o else []) r → IsWithin i n r
    by true None x = absurd (in_none r x)
    by true (Some s) x = let e : i + 1 ≡ r.end = ap (λ (q : VariableReading). q.end) (in_one _ r x) in (omega (arith, e), omega (arith, e))
    by false o x = absurd (in_none r x)

cuts_within : (ss : List SortName) (w : List ℕ) (i n k : ℕ) (r : VariableReading) → IsIn (cuts_to ss w i k) r → IsWithin i n r
cuts_within ss w i n zero r h = absurd (in_none r h)
cuts_within ss w i n (suc k) r h = by (in_parts (cuts_to ss w i k) (cut_at ss w i k) r h) (cuts_within ss w i n k r)
  where
    by : IsIn (cuts_to ss w i k) r ⊎ IsIn (cut_at ss w i k) r → (IsIn (cuts_to ss w i k) r → IsWithin i n r) → IsWithin i n r
    by (inl x) ih = ih x
    by (inr x) ih = cut_within ss w i n k r x

kind_within : (ss : List SortName) (w : List ℕ) (i : ℕ) (us : List (List ℕ)) (r : VariableReading) → IsIn (kind_variable ss w i us) r → IsWithin i (length us) r
kind_within ss w i [] r h = absurd (in_none r h)
kind_within ss w i (m ∷ us) r h = by (is_cut w (length w - 1) && bytes_eq m (codes "[")) (kind_list ss us (i + 2)) refl h
  where
    by : (b : Bool) (o : Option (ℕ × ℕ)) → kind_list ss us (i + 2) ≡ o → IsIn (if b then with_kind (take (length w - 1) w) o else []) r → IsWithin i (length (m ∷ us)) r
    by true None q x = absurd (in_none r x)
    by true (Some s) q x =
        let e : s.1 ≡ r.end = ap (λ (q : VariableReading). q.end) (in_one _ r x) in
        let k = kinds_within ss us (i + 2) s q in
        (omega (arith, e, k.0), omega (arith, e, k.1))
    by false o q x = absurd (in_none r x)

here_within : (g : GrammarOf) (w : List ℕ) (i : ℕ) (us : List (List ℕ)) (r : VariableReading) → IsIn (readings_of g w i us) r → IsWithin i (length us) r
here_within g w i us r h =
    elim (in_parts (aliases_at g.aliases w i) (cuts_to g.sorts w i (length w) ++ kind_variable g.sorts w i us) r h) [
      | inl x ↦ alias_within g.aliases w i (length us) r x
      | inr y ↦ elim (in_parts (cuts_to g.sorts w i (length w)) (kind_variable g.sorts w i us) r y) [
        | inl x ↦ cuts_within g.sorts w i (length us) (length w) r x
        | inr x ↦ kind_within g.sorts w i us r x
      ]
    ]

-- the end of a variable lies behind its first token, and within the text
pub reading_within : (g : GrammarOf) (ws : List (List ℕ)) (i : ℕ) (r : VariableReading) → IsIn (readings_at g ws i) r → (i < r.end) × (r.end ≤ length ws)
reading_within g ws i r h = by (drop i ws) (omega (arith, length-drop i ws, reading_begins g ws i r h)) h
  where
    by : (us : List (List ℕ)) → length us + i ≡ length ws → IsIn (readings_from g us i) r → (i < r.end) × (r.end ≤ length ws)
    by [] e x = absurd (in_none r x)
    by (u ∷ us) e x = let k = here_within g u i us r x in (k.0, omega (arith, k.1, e))

leaf_within : (g : GrammarOf) (ws : List (List ℕ)) (l : Leaf) → IsLeafOf g ws l → IsLeaf (length ws) l
leaf_within g ws l (word_leaf i w e) = record { forth = omega arith; within = omega (arith, slice_get_within ws i w e) }
leaf_within g ws l (numeral_leaf i k w e f x) = record { forth = omega arith; within = omega (arith, slice_get_within ws i w e) }
leaf_within g ws l (variable_leaf i m n r e f) = let k = reading_within g ws i r (m, e) in record { forth = k.0; within = k.1 }

pub leaves_within : (g : GrammarOf) (ws : List (List ℕ)) (ls : List Leaf) → AreLeavesOf g ws ls → AreLeaves ls (length ws)
leaves_within g ws ls a k l e = leaf_within g ws l (a.right k l e)
