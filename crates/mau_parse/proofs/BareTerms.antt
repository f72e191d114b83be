-- The term of a tree of tokens is bare: each production makes terms of its kind, and variables and numerals are of theirs.
use Rattle.std.proofs.Common.{◌≡◌, ℕ, zero, suc, ◌+◌, ◌-◌, ◌<◌, ◌≤◌, ◌^◌, List, [], ◌∷◌, ◌++◌, length, map, filter, drop, take, All, Bool, true, false, ◌&&◌, ◌⊎◌, inl, inr, cond, not, Option, Some, None, nat_eq, codes, bytes_eq, slice_get, if◌then◌else◌, refl, sym, ◌∙◌, ap, subst, arith, eqb-true, Result, Ok, Err, IfOk}
use Rattle.std.specs.Option.{option_map}
use Rattle.std.proofs.lemmas.Bool.{cases_lt, lt-ltb}
use Rattle.std.proofs.lemmas.List.{map-append}
use Rattle.std.proofs.lemmas.List.Elements.{All-map, All-filter}
use Rattle.std.proofs.lemmas.Option.{slice_get_within, slice_get-get_or, same_Some, none-some}
use Rattle.std.specs.Str.Parse.{digits_value}
use Rattle.mau_numerals.specs.Numerals.{is_numeral}
use Rattle.mau_terms.specs.Tree.{Tree, variable, tree, trees_of}
use Rattle.mau_terms.specs.Norm.{greatest_numeral}
use Rattle.mau_terms.specs.Bare.{TermSignature, IsBareIn, AreBareIn}
use Rattle.mau_terms.specs.Vars.{same_pair, place_of}
use Rattle.mau_terms.specs.declared.ids.OpId.{OpId}
use Rattle.mau_terms.specs.declared.bare.Bare.{Bare}
use Rattle.mau_poset.specs.Order.{Hierarchy, kind_of}
use Rattle.mau_poset.proofs.Orders.{kind_of-kind, kind_of-above, kind_of-in_range}
use Rattle.mau_signature.specs.Faults.{IsSort}
use Rattle.mau_signature.specs.Signature.{SignatureOf, terms_over}
use Rattle.mau_signature.proofs.Whole.{zero_there}
use Rattle.mau_grammar.specs.declared.production.Part.{Part}
use Rattle.mau_grammar.specs.declared.production.Production.{Production}
use Rattle.mau_grammar.specs.declared.sorts.SortName.{SortName}
use Rattle.mau_grammar.specs.declared.aliases.Alias.{Alias}
use Rattle.mau_grammar.specs.declared.aliases.Variable.{Variable}
use Rattle.mau_grammar.specs.Productions.{sort_names}
use Rattle.mau_grammar.specs.Grammar.{GrammarOf, variable_of, grammar_of, IsGrammarOf}
use Rattle.mau_grammar.specs.Leaves.{VariableReading, as_alias, aliases_at, sort_from, sort_named, is_cut, with_sort, cut_at, cuts_to, if_kind, kind_with, kind_list, with_kind, kind_variable, readings_from, readings_at, pairs_of}
use Rattle.mau_grammar.specs.Trees.{made, Reads, reads_numeral, reads_variable, reads_production, Spells, spells_nothing, spells_word, spells_place}
use Rattle.mau_grammar.proofs.KindsKept.{base, meaning, meaning_kind, kind_in, IsProper, all_proper}
use Rattle.mau_grammar.specs.Production.{place_kinds}
use Rattle.mau_parse.specs.declared.goals.Goal.{Goal}
use Rattle.mau_parse.specs.TooLarge.{AllSmall}
use Rattle.mau_parse.specs.Terms.{pair_at, renamed, all_renamed}
use Rattle.mau_parse.specs.Laws.{IsBareFor, TermsAreBare}
use Rattle.mau_parse.specs.Parsed.{IsParsed}
use Rattle.mau_parse.specs.declared.fault.ParseFault.{ParseFault}
use Rattle.mau_parse.proofs.LeavesListed.{IsIn, in_none, in_one, in_parts, in_mapped}

of_member : {A : Type 0} (P : A → Type 0) (xs : List A) (x : A) → All P xs → IsIn xs x → P x
of_member P xs x a m = let h = slice_get_within xs m.0 x m.1 in subst P (same_Some _ x (sym (slice_get-get_or xs m.0 x h) ∙ m.1)) (a m.0 x h)

-- ---- variables

-- the sort is there, and this is its kind
abbrev pub HasKind : Hierarchy → ℕ → ℕ → Type 0
HasKind h a k = IsSort h a × (kind_of h a ≡ k)

-- a sort with its number
sort_there : (h : Hierarchy) (a : ℕ) (names : List (List ℕ)) (w : List ℕ) (r : ℕ × ℕ) → sort_from (sort_names h a names) a w ≡ Some r → (r.0 < a + length names) × (kind_of h r.0 ≡ r.1)
sort_there h a [] w r e = absurd (none-some r e)
sort_there h a (v ∷ names) w r e = by (bytes_eq v w) e (λ q. sort_there h (a + 1) names w r q)
  where
    by : (b : Bool) → (if b then Some (a, kind_of h a) else sort_from (sort_names h (a + 1) names) (a + 1) w) ≡ Some r
        → (sort_from (sort_names h (a + 1) names) (a + 1) w ≡ Some r → (r.0 < (a + 1) + length names) × (kind_of h r.0 ≡ r.1)) → (r.0 < a + length (v ∷ names)) × (kind_of h r.0 ≡ r.1)
    by true q ih =
        let p : (a, kind_of h a) ≡ r = same_Some (a, kind_of h a) r q in
        let number : a ≡ r.0 = ap (λ (x : ℕ × ℕ). x.0) p in
        let kind : kind_of h a ≡ r.1 = ap (λ (x : ℕ × ℕ). x.1) p in
        (omega (arith, number), sym (ap (kind_of h) number) ∙ kind)
    by false q ih = let k = ih q in (omega (arith, k.0), k.1)

module _ (h : Hierarchy) (names : List (List ℕ)) (named : length names ≡ h.sorts) where
  abbrev the_sorts : List SortName
  the_sorts = sort_names h 0 names

  -- a named sort: it is below the number of sorts
  named_sort : (w : List ℕ) (r : ℕ × ℕ) → sort_named the_sorts w ≡ Some r → (r.0 < h.sorts) × (kind_of h r.0 ≡ r.1)
  named_sort w r e = let k = sort_there h 0 names w r e in (omega (arith, k.0, named), k.1)

  sort_is : (w : List ℕ) (r : ℕ × ℕ) → sort_named the_sorts w ≡ Some r → HasKind h r.0 r.1
  sort_is w r e = let k = named_sort w r e in (omega (arith, k.0), k.1)

  -- a kind that is that of a sort is its own
  kind_is : (w : List ℕ) (r : ℕ × ℕ) → sort_named the_sorts w ≡ Some r → HasKind h r.1 r.1
  kind_is w r e =
      let k = named_sort w r e in
      let above : h.sorts ≤ r.1 = omega (arith, kind_of-above h r.0, k.1) in
      (omega (arith, kind_of-in_range h r.0 k.0, k.1), kind_of-kind h r.1 above)

  cut_kind : (w : List ℕ) (i k : ℕ) (r : VariableReading) → IsIn (cut_at the_sorts w i k) r → HasKind h r.sort r.kind
  cut_kind w i k r x = by (is_cut w k) (sort_named the_sorts (drop (k + 1) w)) refl x
    where
      by : (b : Bool) (o : Option (ℕ × ℕ)) → sort_named the_sorts (drop (k + 1) w) ≡ o → IsIn (if b then with_sort (take k w) (i + 1) o else []) r → HasKind h r.sort r.kind
      by true None e y = absurd (in_none r y)
      by true (Some s) e y = subst (λ (q : VariableReading). HasKind h q.sort q.kind) (in_one _ r y) (sort_is (drop (k + 1) w) s e)
      by false o e y = absurd (in_none r y)

  cuts_kind : (w : List ℕ) (i k : ℕ) (r : VariableReading) → IsIn (cuts_to the_sorts w i k) r → HasKind h r.sort r.kind
  cuts_kind w i zero r x = absurd (in_none r x)
  cuts_kind w i (suc k) r x = by (in_parts (cuts_to the_sorts w i k) (cut_at the_sorts w i k) r x) (cuts_kind w i k r)
    where
      by : IsIn (cuts_to the_sorts w i k) r ⊎ IsIn (cut_at the_sorts w i k) r → (IsIn (cuts_to the_sorts w i k) r → HasKind h r.sort r.kind) → HasKind h r.sort r.kind
      by (inl y) ih = ih y
      by (inr y) ih = cut_kind w i k r y

  list_kind : (us : List (List ℕ)) (i : ℕ) (r : ℕ × ℕ) → kind_list the_sorts us i ≡ Some r → HasKind h r.0 r.0
  list_kind [] i r e = absurd (none-some r e)
  list_kind (w ∷ []) i r e = absurd (none-some r e)
  list_kind (w ∷ m ∷ us) i r e = by (sort_named the_sorts w) refl e
    where
      of_kind : (s : ℕ × ℕ) → sort_named the_sorts w ≡ Some s → s.1 ≡ r.0 → HasKind h r.0 r.0
      of_kind s q p = subst (λ (n : ℕ). HasKind h n n) p (kind_is w s q)

      if_same : (b : Bool) (k : ℕ) (x : ℕ × ℕ) → nat_eq x.0 k ≡ b → (if b then Some x else None) ≡ Some r → k ≡ r.0
      if_same true k x q p = sym (eqb-true x.0 k q) ∙ ap (λ (y : ℕ × ℕ). y.0) (same_Some x r p)
      if_same false k x q p = absurd (none-some r p)

      rest : (k : ℕ) (o : Option (ℕ × ℕ)) → if_kind k o ≡ Some r → k ≡ r.0
      rest k None p = absurd (none-some r p)
      rest k (Some x) p = if_same (nat_eq x.0 k) k x refl p

      marked : (b d : Bool) (s : ℕ × ℕ) → sort_named the_sorts w ≡ Some s → (if b then Some (s.1, i + 2) else (if d then if_kind s.1 (kind_list the_sorts us (i + 2)) else None)) ≡ Some r → HasKind h r.0 r.0
      marked true d s q p = of_kind s q (ap (λ (y : ℕ × ℕ). y.0) (same_Some (s.1, i + 2) r p))
      marked false true s q p = of_kind s q (rest s.1 (kind_list the_sorts us (i + 2)) p)
      marked false false s q p = absurd (none-some r p)

      by : (o : Option (ℕ × ℕ)) → sort_named the_sorts w ≡ o → kind_with o m i (kind_list the_sorts us (i + 2)) ≡ Some r → HasKind h r.0 r.0
      by None q p = absurd (none-some r p)
      by (Some s) q p = marked (bytes_eq m (codes "]")) (bytes_eq m (codes ",")) s q p

  variable_kind : (w : List ℕ) (i : ℕ) (us : List (List ℕ)) (r : VariableReading) → IsIn (kind_variable the_sorts w i us) r → HasKind h r.sort r.kind
  variable_kind w i [] r x = absurd (in_none r x)
  variable_kind w i (m ∷ us) r x = by (is_cut w (length w - 1) && bytes_eq m (codes "[")) (kind_list the_sorts us (i + 2)) refl x
    where
      by : (b : Bool) (o : Option (ℕ × ℕ)) → kind_list the_sorts us (i + 2) ≡ o → IsIn (if b then with_kind (take (length w - 1) w) o else []) r → HasKind h r.sort r.kind
      by true None e y = absurd (in_none r y)
      by true (Some s) e y = subst (λ (q : VariableReading). HasKind h q.sort q.kind) (in_one _ r y) (list_kind us (i + 2) s e)
      by false o e y = absurd (in_none r y)

  alias_kind : (aliases : List Alias) (w : List ℕ) (i : ℕ) (r : VariableReading) → All (λ a. IsSort h a.sort) aliases → IsIn (aliases_at (map (variable_of h) aliases) w i) r → HasKind h r.sort r.kind
  alias_kind aliases w i r sorts x =
      let y = in_mapped (as_alias i) (filter (λ v. bytes_eq v.name w) (map (variable_of h) aliases)) r x in
      let right : All (λ (v : Variable). HasKind h v.sort v.kind) (map (variable_of h) aliases) = All-map (λ (v : Variable). HasKind h v.sort v.kind) (variable_of h) aliases (λ k a l. (sorts k a l, refl)) in
      let kept = All-filter (λ (v : Variable). bytes_eq v.name w) (λ (v : Variable). HasKind h v.sort v.kind) (map (variable_of h) aliases) right in
      subst (λ (q : VariableReading). HasKind h q.sort q.kind) y.2 (of_member (λ (v : Variable). HasKind h v.sort v.kind) (filter (λ v. bytes_eq v.name w) (map (variable_of h) aliases)) y.0 kept y.1)

-- ---- trees

bare-append : (s : TermSignature) (ts us : List Tree) (ks ls : List ℕ) → AreBareIn s (trees_of ts) ks → AreBareIn s (trees_of us) ls → AreBareIn s (trees_of (ts ++ us)) (ks ++ ls)
bare-append s [] us [] ls a b = b
bare-append s [] us (k ∷ ks) ls a b = absurd a
bare-append s (t ∷ ts) us [] ls a b = absurd a
bare-append s (t ∷ ts) us (k ∷ ks) ls a b = (a.0, bare-append s ts us ks ls a.1 b)

abbrev renamed_list : List (List ℕ × ℕ) → List (List ℕ × ℕ) → List Tree → List Tree
renamed_list ps xs ts = map (renamed ps xs) ts

renamed-trees : (ps xs : List (List ℕ × ℕ)) (ts : List Tree) → all_renamed ps xs (trees_of ts) ≡ trees_of (renamed_list ps xs ts)
renamed-trees ps xs [] = refl
renamed-trees ps xs (t ∷ ts) = ap (tree (renamed ps xs t)) (renamed-trees ps xs ts)

place_of-small : (xs : List (List ℕ × ℕ)) (y : List ℕ × ℕ) → place_of xs y ≤ length xs
place_of-small [] y = omega arith
place_of-small (x ∷ xs) y = by (same_pair y x) (place_of-small xs y)
  where
    by : (b : Bool) → place_of xs y ≤ length xs → cond (not b) (1 + place_of xs y) 0 ≤ length (x ∷ xs)
    by true h = omega arith
    by false h = omega (arith, h)

not_large : (n : ℕ) → (2 ^ 128 ≤ n → ⊥) → n ≤ greatest_numeral
not_large n h = by (cases_lt n (2 ^ 128))
  where
    by : (n < 2 ^ 128) ⊎ (2 ^ 128 ≤ n) → n ≤ greatest_numeral
    by (inl k) = omega (arith, k)
    by (inr k) = absurd (h k)

module _ (s : SignatureOf) (names : List (List ℕ)) (aliases : List Alias) (g : GrammarOf) (its : IsGrammarOf s names aliases g) (ws : List (List ℕ)) (small : AllSmall g.numerals ws) (xs : List (List ℕ × ℕ)) (few : length xs < 2 ^ 32) where
  abbrev T : TermSignature
  T = terms_over s

  -- all of these trees are bare, of these kinds
  abbrev AllBare : List Tree → List ℕ → Type 0
  AllBare ts ks = AreBareIn T (trees_of (renamed_list (pairs_of g ws) xs ts)) ks

  proper_at : (n : ℕ) (p : Production) → slice_get g.productions n ≡ Some p → IsProper s p
  proper_at n p e =
      let all : All (IsProper s) g.productions = subst (All (IsProper s)) (sym (ap (λ (f : GrammarOf). f.productions) its.made)) (all_proper s names its.signature its.lawful) in
      of_member (IsProper s) g.productions p all (n, e)

  numeral_small : (i k : ℕ) (w : List ℕ) → slice_get ws i ≡ Some w → is_numeral w ≡ true → g.numerals ≡ Some k → digits_value 10 w ≤ greatest_numeral
  numeral_small i k w e f x = not_large (digits_value 10 w) (λ large. subst (λ o. AllSmall o ws) x small i (record { word = w; there = e; numeral = f; large = large }))

  numeral_kind : (k : ℕ) → g.numerals ≡ Some k → T.numerals ≡ Some (meaning s k)
  numeral_kind k x =
      let same : T.numerals ≡ Some k = sym (ap (λ (f : GrammarOf). f.numerals) its.made) ∙ x in
      same ∙ ap Some (sym (meaning_kind s k (below s.numerals refl same)))
    where
      below : (o : Option (ℕ × ℕ)) → s.numerals ≡ o → option_map (λ p. kind_of s.hierarchy p.0) o ≡ Some k → k < base s
      below None e q = absurd (none-some k q)
      below (Some p) e q = omega (arith, kind_in s.hierarchy p.0 (zero_there s.hierarchy its.signature.source s.numerals its.signature.numerals p e), same_Some (kind_of s.hierarchy p.0) k q)

  reading_kind : (i : ℕ) (r : VariableReading) → IsIn (readings_at g ws i) r → HasKind s.hierarchy r.sort r.kind
  reading_kind i r x = by (drop i ws) (subst (λ f. IsIn (readings_from f (drop i ws) i) r) its.made x)
    where
      by : (us : List (List ℕ)) → IsIn (readings_from (grammar_of s names aliases) us i) r → HasKind s.hierarchy r.sort r.kind
      by [] y = absurd (in_none r y)
      by (w ∷ us) y = elim (in_parts (aliases_at (map (variable_of s.hierarchy) aliases) w i) (cuts_to (sort_names s.hierarchy 0 names) w i (length w) ++ kind_variable (sort_names s.hierarchy 0 names) w i us) r y) [
        | inl z ↦ alias_kind s.hierarchy names its.named aliases w i r its.sorts z
        | inr q ↦ elim (in_parts (cuts_to (sort_names s.hierarchy 0 names) w i (length w)) (kind_variable (sort_names s.hierarchy 0 names) w i us) r q) [
          | inl z ↦ cuts_kind s.hierarchy names its.named w i (length w) r z
          | inr z ↦ variable_kind s.hierarchy names its.named w i us r z
        ]
      ]

  variable_bare : (n : ℕ) (r : VariableReading) → HasKind s.hierarchy r.sort r.kind → IsBareIn T (renamed (pairs_of g ws) xs (variable n r.sort)) (meaning s r.kind)
  variable_bare n r k =
      let index = place_of-small xs (pair_at (pairs_of g ws) n) in
      (omega (arith, index, few), lt-ltb r.sort (base s) k.0, k.1 ∙ sym (meaning_kind s r.kind (omega (arith, kind_in s.hierarchy r.sort k.0, k.1))))

  made_bare : (p : Production) (ts : List Tree) → IsProper s p → AllBare ts (map (meaning s) (place_kinds p.parts)) → AllBare (made p.op ts) (meaning s p.kind ∷ [])
  made_bare p ts proper all = by p.op refl
    where
      ps : List (List ℕ × ℕ)
      ps = pairs_of g ws

      by : (o : Option OpId) → p.op ≡ o → AllBare (made o ts) (meaning s p.kind ∷ [])
      by None e = subst (AllBare ts) (proper.same e) all
      by (Some f) e =
          let m = proper.made f e in
          let arguments : AreBareIn T (trees_of (renamed_list ps xs ts)) (T.arguments f.0) = subst (AllBare ts) m.arguments all in
          ((m.there, m.result, subst (λ us. AreBareIn T us (T.arguments f.0)) (sym (renamed-trees ps xs ts)) arguments), tt)

  mutual
    reads_bare : (k q i j : ℕ) (ts : List Tree) → Reads g ws k q i j ts → AllBare ts (meaning s k ∷ [])
    reads_bare k q i j ts (reads_numeral h m w e f x) = ((numeral_small h m w e f x, numeral_kind m x), tt)
    reads_bare k q i j ts (reads_variable h m n r e f) = (variable_bare n r (reading_kind h r (m, e)), tt)
    reads_bare k q i j ts (reads_production n p {i = a} {j = b} {ts = us} e t) = made_bare p us (proper_at n p e) (spells_bare p.parts a b us t)

    spells_bare : (ps : List Part) (i j : ℕ) (ts : List Tree) → Spells g ws ps i j ts → AllBare ts (map (meaning s) (place_kinds ps))
    spells_bare ps i j ts (spells_nothing h) = tt
    spells_bare ps i j ts (spells_word w rs h {j = b} {ts = us} e t) = spells_bare rs (h + 1) b us t
    spells_bare ps i j ts (spells_place k u q rs {i = h} {m = m} {j = b} {ts = vs} {us = us} r l t) =
        let joined = bare-append T (renamed_list (pairs_of g ws) xs vs) (renamed_list (pairs_of g ws) xs us) (meaning s k ∷ []) (map (meaning s) (place_kinds rs)) (reads_bare k q h m vs r) (spells_bare rs m b us t) in
        subst (λ zs. AreBareIn T (trees_of zs) (meaning s k ∷ map (meaning s) (place_kinds rs))) (sym (map-append (renamed (pairs_of g ws) xs) vs us)) joined

  pub tree_bare : (k q : ℕ) (t : Tree) → k < base s → Reads g ws k q 0 (length ws) (t ∷ []) → IsBareIn T (renamed (pairs_of g ws) xs t) k
  tree_bare k q t h r = subst (IsBareIn T (renamed (pairs_of g ws) xs t)) (meaning_kind s k h) (reads_bare k q 0 (length ws) (t ∷ []) r).0

pub terms_are_bare : TermsAreBare
terms_are_bare g ws goal t small its_tree old new b few term s names aliases its kinds_there =
    let last : g.last_kind ≡ base s = ap (λ (f : GrammarOf). f.last_kind) its.made in
    let below : its_tree.kind < base s = omega (arith, its_tree.to, kinds_there, last) in
    let bare = tree_bare s names aliases g its ws small new few its_tree.kind its_tree.level t below its_tree.reads in
    (its_tree.kind, its_tree.from, its_tree.to, subst (λ u. IsBareIn (terms_over s) u its_tree.kind) (sym term.term) bare)

pub parsed_bare : (g : GrammarOf) (ws : List (List ℕ)) (goal : Goal) (old new : List (List ℕ × ℕ)) (r : Result Bare ParseFault) → IfOk r (IsParsed g ws goal old new) → length new < 2 ^ 32 → IfOk r (IsBareFor g goal)
parsed_bare g ws goal old new (Ok b) p few = terms_are_bare g ws goal p.tree p.readable.small p.only.tree old new b few p.term
parsed_bare g ws goal old new (Err f) p few = tt
