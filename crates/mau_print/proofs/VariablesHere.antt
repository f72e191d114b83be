-- Variables among the words of a text.
use Rattle.std.proofs.Common.{◌≡◌, ◌≢◌, ℕ, zero, suc, ◌+◌, ◌-◌, ◌<◌, ◌≤◌, ◌==◌, ◌⊎◌, inl, inr, List, [], ◌∷◌, ◌++◌, Bool, true, false, cond, not, ◌&&◌, Some, None, All, length, map, take, drop, get_or, slice_get, codes, bytes_eq, nat_lt, if◌then◌else◌, refl, sym, ap, ap₂, ◌∙◌, subst, arith, eq-eqb, length-append}
use Rattle.std.specs.Option.{option_map_or}
use Rattle.std.proofs.lemmas.Bool.{cases_lt, lt-ltb, le-ltb, ltb-true}
use Rattle.std.proofs.lemmas.Option.{slice_get-get_or}
use Rattle.std.proofs.lemmas.Slice.Eq.{bytes_eq-Decides}
use Rattle.std.proofs.Math.Seq.{drop-append_seam, take-append_seam, get_or-append_seam}
use Rattle.mau_poset.specs.Order.{Hierarchy, kind_of, kinds}
use Rattle.mau_poset.proofs.Orders.{kind_of-kind}
use Rattle.mau_store.proofs.Places.{slice_get-front}
use Rattle.mau_terms.specs.Tree.{variable}
use Rattle.mau_terms.specs.Vars.{place_of}
use Rattle.mau_terms.proofs.Pairs.{pairs_keep_places}
use Rattle.mau_tokens.specs.Lexeme.{separator, line_comment, block_comment, string, special, word, is_separator, is_special, is_comment_sign}
use Rattle.mau_signature.specs.Signature.{terms_over}
use Rattle.mau_grammar.specs.declared.aliases.Alias.{Alias}
use Rattle.mau_grammar.specs.declared.sorts.SortName.{SortName}
use Rattle.mau_grammar.specs.Productions.{sort_names}
use Rattle.mau_grammar.specs.Grammar.{GrammarOf}
use Rattle.mau_grammar.specs.Leaves.{VariableReading, reading, pair_of, sort_named, is_cut, with_sort, cut_at, cuts_to, aliases_at, kind_with, kind_list, with_kind, if_kind, kind_variable, readings_of, readings_from, readings_at, pairs_of}
use Rattle.mau_grammar.specs.Trees.{Reads, reads_variable}
use Rattle.mau_parse.proofs.LeavesListed.{reading_known, reading_begins}
use Rattle.mau_print.specs.Words.{Window, ReadsHere}
use Rattle.mau_print.specs.Printed.{name_of}
use Rattle.mau_print.specs.Worded.{Source, printer_for, kind_words, variable_words, kind_name}
use Rattle.mau_print.specs.Readable.{IsVariableName, NamesSortIn, NameKind, IsWritable}
use Rattle.mau_print.proofs.Present.{IsPresent, present_left, present_right, present_first}
use Rattle.mau_print.proofs.SortNames.{sort_found}

-- ---- names

-- a word begins with no quote
no_quote : (gap sign block quote mark : Bool) → cond gap separator (cond sign (cond block block_comment line_comment) (cond quote string (cond mark special word))) ≡ word → quote ≡ false
no_quote true sign block quote mark e = absurd (cc)
no_quote false true true quote mark e = absurd (cc)
no_quote false true false quote mark e = absurd (cc)
no_quote false false block true mark e = absurd (cc)
no_quote false false block false mark e = refl

first_same : (name us vs : List ℕ) → name ≢ [] → get_or (name ++ us) 0 0 ≡ get_or (name ++ vs) 0 0
first_same [] us vs h = absurd (h refl)
first_same (b ∷ name) us vs h = refl

some_bytes : (name : List ℕ) → name ≢ [] → nat_lt 0 (length name) ≡ true
some_bytes [] h = absurd (h refl)
some_bytes (b ∷ name) h = lt-ltb 0 (length (b ∷ name)) (omega arith)

-- behind a name a colon is a cut
cut_there : (name rest : List ℕ) → IsVariableName name → is_cut (name ++ 58 ∷ rest) (length name) ≡ true
cut_there name rest n =
    let w = name ++ 58 ∷ rest in
    let u = name ++ codes ":" in
    let colon : get_or w (length name) 0 == 58 ≡ true = eq-eqb _ 58 (get_or-append_seam name 58 rest 0) in
    let quote : get_or w 0 0 == 34 ≡ false =
    ap (λ b. b == 34) (first_same name (58 ∷ rest) (codes ":") n.some)
    ∙ no_quote (is_separator (get_or u 0 0)) (is_comment_sign (get_or u 0 0) (get_or u 1 0) (get_or u 2 0)) (get_or u 3 0 == 40) (get_or u 0 0 == 34) (is_special (get_or u 0 0)) n.plain.word.begins in
    let hole : bytes_eq (take (length name) w) (codes "HOLE") ≡ false = ap (λ v. bytes_eq v (codes "HOLE")) (take-append_seam name (58 ∷ rest)) ∙ no_hole (bytes_eq name (codes "HOLE")) refl in
    ap₂ (λ a b. (a && b) && (not (get_or w 0 0 == 34) && not (bytes_eq (take (length name) w) (codes "HOLE")))) colon (some_bytes name n.some)
    ∙ ap₂ (λ a b. not a && not b) quote hole
  where
    no_hole : (b : Bool) → bytes_eq name (codes "HOLE") ≡ b → b ≡ false
    no_hole true e = absurd (n.no_hole ((bytes_eq-Decides name (codes "HOLE")).0 e))
    no_hole false e = refl

cuts_in : (ss : List SortName) (w : List ℕ) (i n k : ℕ) (r : VariableReading) → k < n → IsPresent (cut_at ss w i k) r → IsPresent (cuts_to ss w i n) r
cuts_in ss w i zero k r low p = absurd (omega arith)
cuts_in ss w i (suc n) k r low p = by (cases_lt k n) (λ l. cuts_in ss w i n k r l p)
  where
    by : (k < n) ⊎ (n ≤ k) → (k < n → IsPresent (cuts_to ss w i n) r) → IsPresent (cuts_to ss w i n ++ cut_at ss w i n) r
    by (inl l) ih = present_left (cuts_to ss w i n) (cut_at ss w i n) r (ih l)
    by (inr l) ih = let same : k ≡ n = omega arith in present_right (cuts_to ss w i n) (cut_at ss w i n) r (subst (λ m. IsPresent (cut_at ss w i m) r) same p)

drop_next : (name : List ℕ) (b : ℕ) (rest : List ℕ) → drop (length name + 1) (name ++ b ∷ rest) ≡ rest
drop_next [] b rest = refl
drop_next (c ∷ name) b rest = let e : length (c ∷ name) + 1 ≡ suc (length name + 1) = omega arith in ap (λ n. drop n (c ∷ (name ++ b ∷ rest))) e ∙ drop_next name b rest

-- `X:S` is cut there
cut_is : (ss : List SortName) (name sort : List ℕ) (i n k : ℕ) → IsVariableName name → sort_named ss sort ≡ Some (n, k) → cut_at ss (name ++ 58 ∷ sort) i (length name) ≡ reading name n k (i + 1) ∷ []
cut_is ss name sort i n k v e =
    let w = name ++ 58 ∷ sort in
    ap (λ b. cond b (with_sort (take (length name) w) (i + 1) (sort_named ss (drop (length name + 1) w))) []) (cut_there name sort v)
    ∙ ap₂ (λ a o. with_sort a (i + 1) o) (take-append_seam name (58 ∷ sort)) (ap (sort_named ss) (drop_next name 58 sort) ∙ e)

-- ---- names of kinds

kinds_read : (g : GrammarOf) (k : ℕ) (ws back : List (List ℕ)) (j : ℕ) → ws ≢ [] → All (NamesSortIn g k) ws → kind_list g.sorts (kind_words ws ++ back) j ≡ Some (k, j + length (kind_words ws))
kinds_read g k [] back j some all = absurd (some refl)
kinds_read g k (w ∷ []) back j some all =
    let s = all 0 [] (omega arith) in
    ap (λ o. kind_with o (codes "]") j (kind_list g.sorts back (j + 2))) s.1
kinds_read g k (w ∷ v ∷ vs) back j some all =
    let s = all 0 [] (omega arith) in
    let rest = kinds_read g k (v ∷ vs) back (j + 2) (λ e. cc) (λ i d low. all (suc i) d (omega arith)) in
    let end : j + 2 + length (kind_words (v ∷ vs)) ≡ j + length (kind_words (w ∷ v ∷ vs)) = omega arith in
    ap (λ o. kind_with o (codes ",") j (kind_list g.sorts (kind_words (v ∷ vs) ++ back) (j + 2))) s.1
    ∙ ap (if_kind k) rest
    ∙ ap (λ b. cond b (Some (k, j + 2 + length (kind_words (v ∷ vs)))) None) (eq-eqb k k refl)
    ∙ ap (λ m. Some (k, m)) end

-- `X:` and `[`
kind_is : (g : GrammarOf) (name : List ℕ) (i k : ℕ) (ws back : List (List ℕ)) → IsVariableName name → NameKind g k ws
    → kind_variable g.sorts (name ++ codes ":") i (codes "[" ∷ (kind_words ws ++ back)) ≡ reading name k k (i + 2 + length (kind_words ws)) ∷ []
kind_is g name i k ws back v n =
    let w = name ++ codes ":" in
    let size : length w - 1 ≡ length name = omega (arith, length-append name (codes ":")) in
    ap (λ m. cond (is_cut w m && true) (with_kind (take m w) (kind_list g.sorts (kind_words ws ++ back) (i + 2))) []) size
    ∙ ap (λ b. cond (b && true) (with_kind (take (length name) w) (kind_list g.sorts (kind_words ws ++ back) (i + 2))) []) (cut_there name [] v)
    ∙ ap₂ (λ a o. with_kind a o) (take-append_seam name (codes ":")) (kinds_read g k ws back (i + 2) n.some n.sorts)

-- ---- where they stand

pub window_drop : (whole : List (List ℕ)) (i : ℕ) (ws : List (List ℕ)) (win : Window whole i ws) → drop i whole ≡ ws ++ win.back
window_drop whole i ws win = ap (drop i) win.split ∙ ap (λ n. drop n (win.front ++ (ws ++ win.back))) (sym win.len) ∙ drop-append_seam win.front (ws ++ win.back)

module _ (g : GrammarOf) (whole : List (List ℕ)) where
  -- a variable that begins at i
  reads_at : (i : ℕ) (r : VariableReading) → IsPresent (readings_at g whole i) r → Reads g whole r.kind 1 i r.end (variable (place_of (pairs_of g whole) (pair_of r)) r.sort ∷ [])
  reads_at i r p =
      let ps = pairs_of g whole in
      let y = pair_of r in
      let known = reading_known g whole i r (reading_begins g whole i r p) p in
      let there : slice_get ps (place_of ps y) ≡ Some y = ap (λ b. slice_get (cond b ps (ps ++ y ∷ [])) (place_of ps y)) (sym known) ∙ (pairs_keep_places ps y).stands in
      reads_variable i p.0 (place_of ps y) r p.1 there

  pub sort_here : (name sort : List ℕ) (n k : ℕ) → IsVariableName name → sort_named g.sorts sort ≡ Some (n, k)
      → ReadsHere g whole k 1 ((name ++ (codes ":" ++ sort)) ∷ []) (variable (place_of (pairs_of g whole) (name, n)) n ∷ [])
  sort_here name sort n k v e i win =
      let w = name ++ 58 ∷ sort in
      let r = reading name n k (i + 1) in
      let cut : IsPresent (cut_at g.sorts w i (length name)) r = subst (λ rs. IsPresent rs r) (sym (cut_is g.sorts name sort i n k v e)) (present_first r []) in
      let own = cuts_in g.sorts w i (length w) (length name) r (omega (arith, length-append name (58 ∷ sort))) cut in
      let all : IsPresent (readings_of g w i win.back) r = present_right (aliases_at g.aliases w i) _ r (present_left (cuts_to g.sorts w i (length w)) (kind_variable g.sorts w i win.back) r own) in
      reads_at i r (subst (λ us. IsPresent (readings_from g us i) r) (sym (window_drop whole i (w ∷ []) win)) all)

  pub kind_here : (name : List ℕ) (k : ℕ) (ws : List (List ℕ)) → IsVariableName name → NameKind g k ws
      → ReadsHere g whole k 1 ((name ++ codes ":") ∷ codes "[" ∷ kind_words ws) (variable (place_of (pairs_of g whole) (name, k)) k ∷ [])
  kind_here name k ws v n i win =
      let w = name ++ codes ":" in
      let r = reading name k k (i + 2 + length (kind_words ws)) in
      let rest = codes "[" ∷ (kind_words ws ++ win.back) in
      let own : IsPresent (kind_variable g.sorts w i rest) r = subst (λ rs. IsPresent rs r) (sym (kind_is g name i k ws win.back v n)) (present_first r []) in
      let all : IsPresent (readings_of g w i rest) r = present_right (aliases_at g.aliases w i) _ r (present_right (cuts_to g.sorts w i (length w)) _ r own) in
      let end : i + 2 + length (kind_words ws) ≡ i + length (w ∷ codes "[" ∷ kind_words ws) = omega arith in
      subst (λ m. Reads g whole k 1 i m (variable (place_of (pairs_of g whole) (name, k)) k ∷ [])) end
      (reads_at i r (subst (λ us. IsPresent (readings_from g us i) r) (sym (window_drop whole i (w ∷ codes "[" ∷ kind_words ws) win)) all))

-- ---- a variable of an item

names_of : (h : Hierarchy) (a : ℕ) (names : List (List ℕ)) → map (λ (n : SortName). n.name) (sort_names h a names) ≡ names
names_of h a [] = refl
names_of h a (w ∷ names) = ap (λ ws. w ∷ ws) (names_of h (a + 1) names)

module _ (x : Source) (names : List (List ℕ)) (aliases : List Alias) (wr : IsWritable x names aliases) where
  h : Hierarchy
  h = x.signature.hierarchy

  sorts_are : x.grammar.sorts ≡ sort_names x.signature.hierarchy 0 names
  sorts_are = ap (λ (f : GrammarOf). f.sorts) wr.grammar.made

  -- a sort, by its number
  pub sort_named-is : (s : ℕ) → s < x.signature.hierarchy.sorts → sort_named x.grammar.sorts (get_or names s []) ≡ Some (s, kind_of x.signature.hierarchy s)
  sort_named-is s low =
      ap (λ ss. sort_named ss (get_or names s [])) sorts_are
      ∙ sort_found x.signature.hierarchy 0 names s (get_or names s []) wr.distinct (slice_get-get_or names s [] (omega (arith, wr.grammar.named)))
      ∙ (let e : 0 + s ≡ s = omega arith in ap (λ m. Some (m, kind_of x.signature.hierarchy m)) e)

  pub name_of-sort : (s : ℕ) → s < x.signature.hierarchy.sorts → name_of (printer_for x) s ≡ get_or names s []
  name_of-sort s low =
      let ks = map kind_name x.kind_sorts in
      ap (λ ns. option_map_or (λ w. w) (slice_get (ns ++ ks) s) []) (ap (map (λ (n : SortName). n.name)) sorts_are ∙ names_of x.signature.hierarchy 0 names)
      ∙ ap (λ o. option_map_or (λ w. w) o []) (slice_get-front names ks s (omega (arith, wr.grammar.named)) ∙ slice_get-get_or names s [] (omega (arith, wr.grammar.named)))

  -- a kind, by its number
  pub name_of-kind : (s : ℕ) → x.signature.hierarchy.sorts ≤ s → name_of (printer_for x) s ≡ option_map_or kind_name (slice_get x.kind_sorts (s - x.signature.hierarchy.sorts)) []
  name_of-kind s low =
      let j = s - x.signature.hierarchy.sorts in
      let at : s ≡ length names + j = omega (arith, wr.grammar.named) in
      ap (λ ns. option_map_or (λ w. w) (slice_get (ns ++ map kind_name x.kind_sorts) s) []) (ap (map (λ (n : SortName). n.name)) sorts_are ∙ names_of x.signature.hierarchy 0 names)
      ∙ ap (λ o. option_map_or (λ w. w) o []) (ap (slice_get (names ++ map kind_name x.kind_sorts)) at ∙ behind names (map kind_name x.kind_sorts) j)
      ∙ mapped x.kind_sorts j
    where
      behind : (us vs : List (List ℕ)) (j : ℕ) → slice_get (us ++ vs) (length us + j) ≡ slice_get vs j
      behind [] vs j = let e : length {A = List ℕ} [] + j ≡ j = omega arith in ap (slice_get vs) e
      behind (u ∷ us) vs j = let e : length (u ∷ us) + j ≡ suc (length us + j) = omega arith in ap (slice_get (u ∷ (us ++ vs))) e ∙ behind us vs j

      mapped : (kss : List (List (List ℕ))) (j : ℕ) → option_map_or (λ w. w) (slice_get (map kind_name kss) j) [] ≡ option_map_or kind_name (slice_get kss j) []
      mapped [] j = refl
      mapped (ks ∷ kss) zero = refl
      mapped (ks ∷ kss) (suc j) = mapped kss j

  pub variable_here : (whole : List (List ℕ)) (name : List ℕ) (s k : ℕ) → IsVariableName name → (terms_over x.signature).has_sort s ≡ true → kind_of x.signature.hierarchy s ≡ k
      → ReadsHere x.grammar whole k 1 (variable_words x name s) (variable (place_of (pairs_of x.grammar whole) (name, s)) s ∷ [])
  variable_here whole name s k v there e = by (cases_lt s x.signature.hierarchy.sorts)
    where
      goal : List (List ℕ) → Type 0
      goal ws = ReadsHere x.grammar whole k 1 ws (variable (place_of (pairs_of x.grammar whole) (name, s)) s ∷ [])

      words : Bool → List (List ℕ)
      words b = if b then (name ++ (codes ":" ++ name_of (printer_for x) s)) ∷ [] else option_map_or (λ ws. (name ++ codes ":") ∷ codes "[" ∷ kind_words ws) (slice_get x.kind_sorts (s - x.signature.hierarchy.sorts)) ((name ++ codes ":") ∷ [])

      by : (s < x.signature.hierarchy.sorts) ⊎ (x.signature.hierarchy.sorts ≤ s) → ReadsHere x.grammar whole k 1 (variable_words x name s) (variable (place_of (pairs_of x.grammar whole) (name, s)) s ∷ [])
      by (inl l) =
          let named : sort_named x.grammar.sorts (name_of (printer_for x) s) ≡ Some (s, k) = ap (sort_named x.grammar.sorts) (name_of-sort s l) ∙ sort_named-is s l ∙ ap (λ m. Some (s, m)) e in
          subst (λ ws. ReadsHere x.grammar whole k 1 ws (variable (place_of (pairs_of x.grammar whole) (name, s)) s ∷ [])) (sym (ap words (lt-ltb s x.signature.hierarchy.sorts l)))
          (sort_here x.grammar whole name (name_of (printer_for x) s) s k v named)
      by (inr l) =
          let below : s < x.signature.hierarchy.sorts + kinds x.signature.hierarchy = ltb-true s _ there in
          let same : s ≡ k = sym (kind_of-kind x.signature.hierarchy s l) ∙ e in
          let j = s - x.signature.hierarchy.sorts in
          let number : x.signature.hierarchy.sorts + j ≡ s = omega arith in
          let own : NameKind x.grammar s (get_or x.kind_sorts j []) = subst (λ m. NameKind x.grammar m (get_or x.kind_sorts j [])) number (wr.kinds j (omega arith)) in
          let ws = get_or x.kind_sorts j [] in
          let there : slice_get x.kind_sorts j ≡ Some ws = slice_get-get_or x.kind_sorts j [] (omega (arith, wr.all_kinds)) in
          let all : variable_words x name s ≡ (name ++ codes ":") ∷ codes "[" ∷ kind_words ws =
          ap words (le-ltb s x.signature.hierarchy.sorts l) ∙ ap (λ o. option_map_or (λ vs. (name ++ codes ":") ∷ codes "[" ∷ kind_words vs) o ((name ++ codes ":") ∷ [])) there in
          subst (λ m. ReadsHere x.grammar whole m 1 (variable_words x name s) (variable (place_of (pairs_of x.grammar whole) (name, s)) s ∷ [])) same
          (subst (λ vs. ReadsHere x.grammar whole s 1 vs (variable (place_of (pairs_of x.grammar whole) (name, s)) s ∷ [])) (sym all)
          (kind_here x.grammar whole name s ws v own))
