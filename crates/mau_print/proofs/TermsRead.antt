-- The words of a normal form read as the term that it stands for.
use Rattle.std.proofs.Common.{◌≡◌, ◌≢◌, ℕ, ◌+◌, ◌-◌, ◌<◌, ◌≤◌, ◌==◌, List, [], ◌∷◌, ◌++◌, Bool, true, false, cond, Option, Some, None, length, map, decimal, get_or, slice_get, refl, sym, ap, ◌∙◌, subst, arith, eqb-true}
use Rattle.std.specs.Option.{option_map, option_map_or}
use Rattle.std.proofs.lemmas.Bool.{ltb-true}
use Rattle.std.proofs.lemmas.List.{length-map}
use Rattle.std.proofs.lemmas.Option.{get_or_from_slice_get, same_Some, none-some}
use Rattle.mau_poset.specs.Order.{kind_of, kinds}
use Rattle.mau_poset.proofs.Orders.{kind_of-above}
use Rattle.mau_terms.specs.Tree.{Tree, variable, numeral, apply, Trees, no_trees, tree, trees_of, node}
use Rattle.mau_terms.specs.Norm.{finish, greatest_numeral}
use Rattle.mau_terms.specs.Bare.{TermSignature, IsBareIn, AreBareIn}
use Rattle.mau_terms.specs.Reading.{nest_from, nest, reading, readings}
use Rattle.mau_terms.specs.Vars.{place_of}
use Rattle.mau_terms.specs.declared.theory.Theory.{Theory}
use Rattle.mau_terms.proofs.Normal.{IsNormal, AreNormal}
use Rattle.mau_terms.proofs.Wholes.{not_alone}
use Rattle.mau_signature.specs.declared.decl.Decl.{Decl}
use Rattle.mau_signature.specs.Form.{holes}
use Rattle.mau_signature.specs.Faults.{IsSort}
use Rattle.mau_signature.specs.Signature.{theory_at, terms_over, declarations_at}
use Rattle.mau_signature.proofs.Whole.{zero_there}
use Rattle.mau_grammar.specs.declared.aliases.Alias.{Alias}
use Rattle.mau_grammar.specs.Precedence.{precedence}
use Rattle.mau_grammar.specs.Parts.{in_parentheses}
use Rattle.mau_grammar.specs.Productions.{argument_kinds, level, enclosed}
use Rattle.mau_grammar.specs.Grammar.{GrammarOf}
use Rattle.mau_grammar.specs.Leaves.{pairs_of}
use Rattle.mau_grammar.proofs.KindsKept.{kind_in}
use Rattle.mau_grammar.specs.Production.{place_kinds}
use Rattle.mau_parse.specs.Terms.{AreGiven, AllGiven, pair_at, renamed, all_renamed}
use Rattle.mau_print.specs.Printed.{Pairs, variable_name, is_clash}
use Rattle.mau_print.specs.Layouts.{form_words, head_text, owned_texts, is_shared, first_sort_name}
use Rattle.mau_print.specs.Words.{Phrase, phrase, enclosed_words, with_mark, woven_words, ReadsHere, IsRead, AreRead}
use Rattle.mau_print.specs.Worded.{Source, printer_for, unambiguous_words, constant_words, variable_words, rest_words, nested_words, form_parts, words_by, words_over, worded, all_worded}
use Rattle.mau_print.specs.Readable.{HasWords, HaveNames, NameKind, IsWritable}
use Rattle.mau_print.proofs.Produced.{some_hole}
use Rattle.mau_print.proofs.Present.{IsPresent, sorted_present}
use Rattle.mau_print.proofs.SortNames.{IsNamed, first_named}
use Rattle.mau_print.proofs.Windows.{here_production, here_sorted}
use Rattle.mau_print.proofs.Weaving.{woven_here}
use Rattle.mau_print.proofs.Numerals.{numeral_here}
use Rattle.mau_print.proofs.VariablesHere.{variable_here}
use Rattle.mau_print.proofs.OperatorsHere.{copies, words_here, plain_here, enclosed_here, one_enclosed, list_here, chain_read}
use Rattle.mau_print.proofs.DeclaredHere.{IsOperatorBy, operator_by, made_for, marks_of, has_words, result_there, result_is, arguments_are, assoc_is, own_written, written_present, holes_are, kinds_are, constant_written, own_prefixed, prefixed_present, own_list, own_chained, chained_present, two_present, more_present, level_low}
use Rattle.mau_print.proofs.TextWords.{given_name, name_can}

-- ---- trees that are renamed

renamed-trees : (ps xs : Pairs) (ts : List Tree) → all_renamed ps xs (trees_of ts) ≡ trees_of (map (renamed ps xs) ts)
renamed-trees ps xs [] = refl
renamed-trees ps xs (t ∷ ts) = ap (tree (renamed ps xs t)) (renamed-trees ps xs ts)

renamed-node : (ps xs : Pairs) (f : ℕ) (ts : List Tree) → renamed ps xs (node f ts) ≡ node f (map (renamed ps xs) ts)
renamed-node ps xs f ts = ap (apply f) (renamed-trees ps xs ts)

renamed-nest : (ps xs : Pairs) (f : ℕ) (t : Tree) (ts : List Tree) → renamed ps xs (nest_from f t ts) ≡ nest_from f (renamed ps xs t) (map (renamed ps xs) ts)
renamed-nest ps xs f t [] = refl
renamed-nest ps xs f t (u ∷ us) = ap (λ v. apply f (tree (renamed ps xs t) (tree v no_trees))) (renamed-nest ps xs f u us)

copies-map : (k : ℕ) (g : Tree → Tree) (ts : List Tree) → copies k ts ≡ copies k (map g ts)
copies-map k g [] = refl
copies-map k g (t ∷ ts) = ap (λ ks. k ∷ ks) (copies-map k g ts)

-- ---- lists

-- the elements of a nested list are bare
nest_bare : (s : TermSignature) (f k : ℕ) → s.arguments f ≡ k ∷ k ∷ [] → (t : Tree) (us : List Tree) → IsBareIn s (nest_from f t us) k → AreBareIn s (trees_of (t ∷ us)) (copies k (t ∷ us))
nest_bare s f k e t [] b = (b, tt)
nest_bare s f k e t (u ∷ us) b =
    let bs : AreBareIn s (tree t (tree (nest_from f u us) no_trees)) (k ∷ k ∷ []) = subst (AreBareIn s (tree t (tree (nest_from f u us) no_trees))) e b.2 in
    (bs.0, nest_bare s f k e u us bs.1.0)

no_arguments : (g : GrammarOf) (whole : List (List ℕ)) (xs : List Phrase) (ts : List Tree) → AreRead g whole [] xs ts → (xs ≡ []) × (ts ≡ [])
no_arguments g whole [] [] r = (refl, refl)
no_arguments g whole [] (t ∷ ts) r = absurd r
no_arguments g whole (x ∷ xs) ts r = absurd r

empty_map : {A B : Type 0} (f : A → B) (xs : List A) → length xs ≡ 0 → map f xs ≡ []
empty_map f [] e = refl
empty_map f (x ∷ xs) e = absurd (omega (arith, e))

some_map : {A B : Type 0} (f : A → B) (xs : List A) → (length xs == 0) ≡ false → map f xs ≢ []
some_map f [] e q = absurd (cc)
some_map f (x ∷ xs) e q = cc

module _ (x : Source) (names : List (List ℕ)) (aliases : List Alias) (wr : IsWritable x names aliases) (whole : List (List ℕ)) where
  abbrev g : GrammarOf
  g = x.grammar

  -- ---- terms with a sort behind them

  kind_named : (k : ℕ) → x.signature.hierarchy.sorts ≤ k → k < x.signature.hierarchy.sorts + kinds x.signature.hierarchy → IsNamed x.grammar.sorts k (first_sort_name x.grammar.sorts k)
  kind_named k low high =
      let j = k - x.signature.hierarchy.sorts in
      let number : x.signature.hierarchy.sorts + j ≡ k = omega arith in
      by (get_or x.kind_sorts j []) (subst (λ m. NameKind x.grammar m (get_or x.kind_sorts j [])) number (wr.kinds j (omega arith)))
    where
      by : (ws : List (List ℕ)) → NameKind x.grammar k ws → IsNamed x.grammar.sorts k (first_sort_name x.grammar.sorts k)
      by [] n = absurd (n.some refl)
      by (w ∷ ws) n = let s = n.sorts 0 [] (omega arith) in first_named x.grammar.sorts 0 s.0 k w s.1

  -- the kind of a sort
  abbrev IsKind : ℕ → Type 0
  IsKind k = (a : ℕ) × IsSort x.signature.hierarchy a × (kind_of x.signature.hierarchy a ≡ k)

  marks : (k : ℕ) → IsKind k → IsPresent x.grammar.productions (enclosed k)
  marks k i = marks_of x names aliases wr i.0 k i.1 i.2

  sort_of : (k : ℕ) → IsKind k → IsNamed x.grammar.sorts k (first_sort_name x.grammar.sorts k)
  sort_of k i = kind_named k (omega (arith, kind_of-above x.signature.hierarchy i.0, i.2)) (omega (arith, kind_in x.signature.hierarchy i.0 i.1, i.2))

  unambiguous_read : (b : Bool) (k : ℕ) (ws : List (List ℕ)) (t : Tree) → IsKind k → ReadsHere x.grammar whole k 1 ws (t ∷ []) → IsRead x.grammar whole k (unambiguous_words b (first_sort_name x.grammar.sorts k) ws) t
  unambiguous_read true k ws t i r =
      let n = sort_of k i in
      let p = sorted_present x.signature x.grammar n.there.0 n.sort (made_for x names aliases wr) n.there.1 in
      let own : ReadsHere x.grammar whole n.sort.kind 1 ws (t ∷ []) = subst (λ m. ReadsHere x.grammar whole m 1 ws (t ∷ [])) (sym n.kind) r in
      let all = here_sorted x.grammar whole p.0 1 n.sort ws t p.1 own (omega arith) in
      record {
        level = omega arith;
        reads = subst (λ w. ReadsHere x.grammar whole k 0 (with_mark ws w) (t ∷ [])) n.name (subst (λ m. ReadsHere x.grammar whole m 0 (with_mark ws n.sort.name) (t ∷ [])) n.kind all);
        parentheses = marks k i;
      }
  unambiguous_read false k ws t i r = record { level = omega arith; reads = r; parentheses = marks k i }

  -- ---- operators

  module _ (f : ℕ) (d : Decl) (op : IsOperatorBy x f d) where
    abbrev k : ℕ
    k = kind_of x.signature.hierarchy d.result

    is_kind : IsKind (kind_of x.signature.hierarchy d.result)
    is_kind = (d.result, result_there x names aliases wr f d op, refl)

    words : HasWords d
    words = has_words x names aliases wr f d op

    -- the first words of each operator, by its declaration
    abbrev constant : Phrase
    constant = constant_words x d

    abbrev prefix : List Phrase → Phrase
    prefix xs = phrase 1 (form_words d.form ++ enclosed_words (rest_words true xs))

    abbrev list_form : List Phrase → Phrase
    list_form xs = phrase (level d) (nested_words (level d) (form_parts x d) xs)

    abbrev form : List Phrase → Phrase
    form xs = phrase (level d) (woven_words (form_parts x d) xs)

    abbrev by_tests : Bool → Bool → Bool → List Phrase → Phrase
    by_tests a b c xs = cond a (constant_words x d) (cond b (phrase 1 (form_words d.form ++ enclosed_words (rest_words true xs))) (cond c (phrase (level d) (nested_words (level d) (form_parts x d) xs)) (phrase (level d) (woven_words (form_parts x d) xs))))

    constant_read : (length d.args == 0) ≡ true → IsRead x.grammar whole (kind_of x.signature.hierarchy d.result) (constant_words x d) (node f [])
    constant_read e =
        let w = constant_written x names aliases wr f d op e in
        let none : holes d.form ≡ 0 = holes_are x names aliases wr f d op w ∙ eqb-true (length d.args) 0 e in
        let p = written_present x names aliases wr f d op w in
        let reads = here_production x.grammar whole p.0 (own_written x names aliases wr f d op) (form_words d.form) [] p.1 (plain_here x.grammar whole d (argument_kinds x.signature.hierarchy d) d.form 0 none) in
        let low : level d ≡ 1 = ap (λ b. cond b 1 (precedence d + 1)) (eq_zero (holes d.form) none) in
        unambiguous_read (is_shared x.grammar (owned_texts x.signature x.grammar) (head_text d)) (kind_of x.signature.hierarchy d.result) (form_words d.form) (node f []) is_kind
        (subst (λ q. ReadsHere x.grammar whole (kind_of x.signature.hierarchy d.result) q (form_words d.form) (node f [] ∷ [])) low reads)
      where
        eq_zero : (n : ℕ) → n ≡ 0 → (n == 0) ≡ true
        eq_zero n e = ap (λ m. m == 0) e

    prefix_read : (length d.args == 0) ≡ false → (holes d.form == 0) ≡ true → d.attrs.assoc ≡ false → (xs : List Phrase) (ts : List Tree) → AreRead x.grammar whole (argument_kinds x.signature.hierarchy d) xs ts
        → IsRead x.grammar whole (kind_of x.signature.hierarchy d.result) (phrase 1 (form_words d.form ++ enclosed_words (rest_words true xs))) (node f ts)
    prefix_read e q a xs ts r =
        let p = prefixed_present x names aliases wr f d op e q a in
        let ks = argument_kinds x.signature.hierarchy d in
        let spelled = words_here x.grammar whole d.form (in_parentheses ks) (enclosed_words (rest_words true xs)) ts (enclosed_here x.grammar whole ks xs ts (some_map (kind_of x.signature.hierarchy) d.args e) r) in
        record {
          level = omega arith;
          reads = here_production x.grammar whole p.0 (own_prefixed x names aliases wr f d op) (form_words d.form ++ enclosed_words (rest_words true xs)) ts p.1 spelled;
          parentheses = marks (kind_of x.signature.hierarchy d.result) is_kind;
        }

    form_read : (holes d.form == 0) ≡ false → (xs : List Phrase) (ts : List Tree) → AreRead x.grammar whole (argument_kinds x.signature.hierarchy d) xs ts
        → IsRead x.grammar whole (kind_of x.signature.hierarchy d.result) (phrase (level d) (woven_words (form_parts x d) xs)) (node f ts)
    form_read q xs ts r =
        let w = some_hole d q in
        let p = written_present x names aliases wr f d op w in
        let own : AreRead x.grammar whole (place_kinds (form_parts x d)) xs ts = subst (λ ks. AreRead x.grammar whole ks xs ts) (sym (kinds_are x names aliases wr f d op w)) r in
        record {
          level = level_low d words.precedence;
          reads = here_production x.grammar whole p.0 (own_written x names aliases wr f d op) (woven_words (form_parts x d) xs) ts p.1 (woven_here x.grammar whole (form_parts x d) xs ts own);
          parentheses = marks (kind_of x.signature.hierarchy d.result) is_kind;
        }

    -- an operator that isn't associative
    plain_read : d.attrs.assoc ≡ false → (xs : List Phrase) (ts : List Tree) → AreRead x.grammar whole (argument_kinds x.signature.hierarchy d) xs ts → IsRead x.grammar whole (kind_of x.signature.hierarchy d.result) (words_by x d xs) (node f ts)
    plain_read a xs ts r = by (length d.args == 0) (holes d.form == 0) d.attrs.assoc refl refl a
      where
        by : (p q c : Bool) → (length d.args == 0) ≡ p → (holes d.form == 0) ≡ q → c ≡ false
            → IsRead x.grammar whole (kind_of x.signature.hierarchy d.result) (by_tests p q c xs) (node f ts)
        by true q c e h n =
            let none : argument_kinds x.signature.hierarchy d ≡ [] = empty_map (kind_of x.signature.hierarchy) d.args (eqb-true (length d.args) 0 e) in
            let lists = no_arguments x.grammar whole xs ts (subst (λ ks. AreRead x.grammar whole ks xs ts) none r) in
            subst (λ us. IsRead x.grammar whole (kind_of x.signature.hierarchy d.result) (constant_words x d) (node f us)) (sym lists.1) (constant_read e)
        by false true c e h n = prefix_read e h a xs ts r
        by false false true e h n = absurd (cc)
        by false false false e h n = form_read h xs ts r

    -- a list of an associative operator
    list_read : d.attrs.assoc ≡ true → argument_kinds x.signature.hierarchy d ≡ kind_of x.signature.hierarchy d.result ∷ kind_of x.signature.hierarchy d.result ∷ [] → (y z : Phrase) (zs : List Phrase) (t u : Tree) (us : List Tree)
        → AreRead x.grammar whole (copies (kind_of x.signature.hierarchy d.result) (t ∷ u ∷ us)) (y ∷ z ∷ zs) (t ∷ u ∷ us)
        → IsRead x.grammar whole (kind_of x.signature.hierarchy d.result) (words_by x d (y ∷ z ∷ zs)) (nest_from f t (u ∷ us))
    list_read a ks y z zs t u us r = by (length d.args == 0) (holes d.form == 0) d.attrs.assoc refl refl a
      where
        xs : List Phrase
        xs = y ∷ z ∷ zs

        two : length d.args ≡ 2
        two = sym (length-map d.args (kind_of x.signature.hierarchy)) ∙ ap length ks

        by : (p q c : Bool) → (length d.args == 0) ≡ p → (holes d.form == 0) ≡ q → c ≡ true
            → IsRead x.grammar whole (kind_of x.signature.hierarchy d.result) (by_tests p q c (y ∷ z ∷ zs)) (nest_from f t (u ∷ us))
        by true q c e h n = absurd (let zero_args = eqb-true (length d.args) 0 e in omega (arith, two, zero_args))
        by false true c e h n =
            let l = own_list x names aliases wr f d op in
            let p = chained_present x names aliases wr f d op e h a in
            let ws = rest_words true (y ∷ z ∷ zs) in
            let inner = list_here x.grammar whole f (kind_of x.signature.hierarchy d.result) l (two_present x names aliases wr f d op e h a) (more_present x names aliases wr f d op e h a) y z zs t u us r in
            let spelled = words_here x.grammar whole d.form (in_parentheses (l ∷ [])) (enclosed_words ws) (nest_from f t (u ∷ us) ∷ []) (one_enclosed x.grammar whole l 1 ws (nest_from f t (u ∷ us)) inner (omega arith)) in
            record {
              level = omega arith;
              reads = here_production x.grammar whole p.0 (own_chained x names aliases wr f d op) (form_words d.form ++ enclosed_words ws) (nest_from f t (u ∷ us) ∷ []) p.1 spelled;
              parentheses = marks (kind_of x.signature.hierarchy d.result) is_kind;
            }
        by false false true e h n =
            let w = some_hole d h in
            chain_read x.grammar whole (own_written x names aliases wr f d op) f (kind_of x.signature.hierarchy d.result) (written_present x names aliases wr f d op w) refl refl (kinds_are x names aliases wr f d op w ∙ ks) (level_low d words.precedence)
            (marks (kind_of x.signature.hierarchy d.result) is_kind) y z zs t u us r
        by false false false e h n = absurd (cc)

  -- ---- terms

  module _ (ns : Pairs) (have : HaveNames ns) where
    abbrev ps : Pairs
    ps = pairs_of x.grammar whole

    abbrev th : ℕ → Theory
    th = theory_at x.signature

    abbrev read : Tree → Tree
    read t = renamed ns (pairs_of x.grammar whole) t

    abbrev T : TermSignature
    T = terms_over x.signature

    -- a list of an associative operator, whose elements read
    assoc_read : (f k : ℕ) (d : Decl) (op : IsOperatorBy x f d) → (theory_at x.signature f).assoc ≡ true → (ts : Trees) → IsNormal (theory_at x.signature) (apply f ts) → (terms_over x.signature).result f ≡ k
        → IsBareIn (terms_over x.signature) (nest true f (readings (theory_at x.signature) ts)) k
        → ((ks : List ℕ) → AreBareIn (terms_over x.signature) (trees_of (readings (theory_at x.signature) ts)) ks → AreRead x.grammar whole ks (all_worded x ns ts) (map (renamed ns (pairs_of x.grammar whole)) (readings (theory_at x.signature) ts)))
        → IsRead x.grammar whole k (words_by x d (all_worded x ns ts)) (renamed ns (pairs_of x.grammar whole) (nest true f (readings (theory_at x.signature) ts)))
    assoc_read f k d op a no_trees n e b rec =
        absurd (let bs : AreBareIn T no_trees (T.result f ∷ T.result f ∷ []) = subst (AreBareIn T no_trees) (wr.grammar.lawful.assoc_kinds f a) b.2 in bs)
    assoc_read f k d op a (tree t no_trees) n e b rec =
        absurd (not_alone (th f).id (th f).succ f t (subst (λ c. finish c (th f).id (th f).succ f (t ∷ []) ≡ node f (t ∷ [])) a n.1.long))
    assoc_read f k d op a (tree t (tree u us)) n e b rec =
        let r = renamed ns (pairs_of x.grammar whole) in
        let t' = reading th t in
        let u' = reading th u in
        let us' = readings th us in
        let both : T.arguments f ≡ k ∷ k ∷ [] = wr.grammar.lawful.assoc_kinds f a ∙ ap (λ m. m ∷ m ∷ []) e in
        let own : kind_of x.signature.hierarchy d.result ≡ k = sym (result_is x names aliases wr f d op) ∙ e in
        let all = rec (copies k (t' ∷ u' ∷ us')) (nest_bare T f k both t' (u' ∷ us') b) in
        let same : AreRead x.grammar whole (copies k (map r (t' ∷ u' ∷ us'))) (all_worded x ns (tree t (tree u us))) (map r (t' ∷ u' ∷ us')) = subst (λ ks. AreRead x.grammar whole ks (all_worded x ns (tree t (tree u us))) (map r (t' ∷ u' ∷ us'))) (copies-map k r (t' ∷ u' ∷ us')) all in
        let kinds_two : argument_kinds x.signature.hierarchy d ≡ kind_of x.signature.hierarchy d.result ∷ kind_of x.signature.hierarchy d.result ∷ [] =
        sym (arguments_are x names aliases wr f d op) ∙ both ∙ ap (λ m. m ∷ m ∷ []) (sym own) in
        let is_list = list_read f d op (sym (assoc_is x names aliases wr f d op) ∙ a) kinds_two (worded x ns t) (worded x ns u) (all_worded x ns us) (r t') (r u') (map r us')
        (subst (λ m. AreRead x.grammar whole (copies m (map r (t' ∷ u' ∷ us'))) (all_worded x ns (tree t (tree u us))) (map r (t' ∷ u' ∷ us'))) (sym own) same) in
        subst (λ v. IsRead x.grammar whole k (words_by x d (all_worded x ns (tree t (tree u us)))) v) (sym (renamed-nest ns (pairs_of x.grammar whole) f t' (u' ∷ us')))
        (subst (λ m. IsRead x.grammar whole m (words_by x d (all_worded x ns (tree t (tree u us)))) (nest_from f (r t') (map r (u' ∷ us')))) own is_list)

    apply_read : (f k : ℕ) (ts : Trees) → IsNormal (theory_at x.signature) (apply f ts) → (c : Bool) → (theory_at x.signature f).assoc ≡ c → (terms_over x.signature).has_operator f ≡ true → (terms_over x.signature).result f ≡ k
        → IsBareIn (terms_over x.signature) (nest c f (readings (theory_at x.signature) ts)) k
        → ((ks : List ℕ) → AreBareIn (terms_over x.signature) (trees_of (readings (theory_at x.signature) ts)) ks → AreRead x.grammar whole ks (all_worded x ns ts) (map (renamed ns (pairs_of x.grammar whole)) (readings (theory_at x.signature) ts)))
        → IsRead x.grammar whole k (words_over x (declarations_at x.signature f) (all_worded x ns ts)) (renamed ns (pairs_of x.grammar whole) (nest c f (readings (theory_at x.signature) ts)))
    apply_read f k ts n c a there e b rec = by c a b
      where
        d : Decl
        d = (operator_by x names aliases wr f there).0

        op : IsOperatorBy x f (operator_by x names aliases wr f there).0
        op = (operator_by x names aliases wr f there).1

        goal : Phrase → Tree → Type 0
        goal y t = IsRead x.grammar whole k y t

        declared : words_over x (declarations_at x.signature f) (all_worded x ns ts) ≡ words_by x (operator_by x names aliases wr f there).0 (all_worded x ns ts)
        declared = ap (λ ds. words_over x ds (all_worded x ns ts)) op.declared

        by : (c : Bool) → (theory_at x.signature f).assoc ≡ c → IsBareIn (terms_over x.signature) (nest c f (readings (theory_at x.signature) ts)) k
            → IsRead x.grammar whole k (words_over x (declarations_at x.signature f) (all_worded x ns ts)) (renamed ns (pairs_of x.grammar whole) (nest c f (readings (theory_at x.signature) ts)))
        by true a b = subst (λ y. IsRead x.grammar whole k y (renamed ns (pairs_of x.grammar whole) (nest true f (readings (theory_at x.signature) ts)))) (sym declared) (assoc_read f k d op a ts n e b rec)
        by false a b =
            let vs = map (renamed ns (pairs_of x.grammar whole)) (readings (theory_at x.signature) ts) in
            let args : AreRead x.grammar whole (argument_kinds x.signature.hierarchy d) (all_worded x ns ts) vs = subst (λ ks. AreRead x.grammar whole ks (all_worded x ns ts) vs) (arguments_are x names aliases wr f d op) (rec (T.arguments f) b.2) in
            let own : kind_of x.signature.hierarchy d.result ≡ k = sym (result_is x names aliases wr f d op) ∙ e in
            let all = plain_read f d op (sym (assoc_is x names aliases wr f d op) ∙ a) (all_worded x ns ts) vs args in
            subst (λ y. IsRead x.grammar whole k y (renamed ns (pairs_of x.grammar whole) (node f (readings (theory_at x.signature) ts)))) (sym declared)
            (subst (λ v. IsRead x.grammar whole k (words_by x d (all_worded x ns ts)) v) (sym (renamed-node ns (pairs_of x.grammar whole) f (readings (theory_at x.signature) ts)))
            (subst (λ m. IsRead x.grammar whole m (words_by x d (all_worded x ns ts)) (node f vs)) own all))

    -- what a nested list is made by
    top_of : (c : Bool) (f k : ℕ) (ts : Trees) → (theory_at x.signature f).assoc ≡ c → IsNormal (theory_at x.signature) (apply f ts) → IsBareIn (terms_over x.signature) (nest c f (readings (theory_at x.signature) ts)) k
        → ((terms_over x.signature).has_operator f ≡ true) × ((terms_over x.signature).result f ≡ k)
    top_of false f k ts a n b = (b.0, b.1)
    top_of true f k no_trees a n b = (b.0, b.1)
    top_of true f k (tree t no_trees) a n b = absurd (not_alone (th f).id (th f).succ f t (subst (λ c. finish c (th f).id (th f).succ f (t ∷ []) ≡ node f (t ∷ [])) a n.1.long))
    top_of true f k (tree t (tree u us)) a n b = (b.0, b.1)

    variable_read : (i r k : ℕ) (name : List ℕ) → slice_get ns i ≡ Some (name, r) → (terms_over x.signature).has_sort r ≡ true → kind_of x.signature.hierarchy r ≡ k
        → IsRead x.grammar whole k (worded x ns (variable i r)) (renamed ns (pairs_of x.grammar whole) (variable i r))
    variable_read i r k name e there kind =
        let own = variable_here x names aliases wr whole name r k (name_can x names aliases wr ns have i r name e) there kind in
        let at : pair_at ns i ≡ (name, r) = get_or_from_slice_get ns i (name, r) ([], 0) e in
        let called : variable_name ns i r ≡ name = given_name x names aliases wr ns have i r name e in
        record {
          level = omega arith;
          reads = subst (λ (p : List ℕ × ℕ). ReadsHere x.grammar whole k 1 (variable_words x (variable_name ns i r) r) (variable (place_of (pairs_of x.grammar whole) p) r ∷ [])) (sym at)
              (subst (λ w. ReadsHere x.grammar whole k 1 (variable_words x w r) (variable (place_of (pairs_of x.grammar whole) (name, r)) r ∷ [])) (sym called) own);
          parentheses = marks k (r, ltb-true r (x.signature.hierarchy.sorts + kinds x.signature.hierarchy) there, kind);
        }

    numeral_read : (n k : ℕ) → n ≤ greatest_numeral → (terms_over x.signature).numerals ≡ Some k → IsRead x.grammar whole k (worded x ns (numeral n)) (numeral n)
    numeral_read n k small e =
        let own : x.grammar.numerals ≡ Some k = ap (λ (f : GrammarOf). f.numerals) wr.grammar.made ∙ e in
        let read = unambiguous_read (is_clash (printer_for x) n) k (decimal n ∷ []) (numeral n) (kind_there x.signature.numerals refl e) (numeral_here x.grammar whole n k (omega (arith, small)) own) in
        subst (λ w. IsRead x.grammar whole k (unambiguous_words (is_clash (printer_for x) n) w (decimal n ∷ [])) (numeral n)) (sym (ap (λ o. option_map_or (first_sort_name x.grammar.sorts) o []) own)) read
      where
        kind_there : (o : Option (ℕ × ℕ)) → x.signature.numerals ≡ o → option_map (λ (p : ℕ × ℕ). kind_of x.signature.hierarchy p.0) o ≡ Some k → IsKind k
        kind_there None f q = absurd (none-some k q)
        kind_there (Some p) f q = (p.0, zero_there x.signature.hierarchy wr.grammar.signature.source x.signature.numerals wr.grammar.signature.numerals p f, same_Some (kind_of x.signature.hierarchy p.0) k q)

    mutual
      pub term_read : (k : ℕ) (t : Tree) → IsNormal (theory_at x.signature) t → AreGiven ns t → IsBareIn (terms_over x.signature) (reading (theory_at x.signature) t) k
          → IsRead x.grammar whole k (worded x ns t) (renamed ns (pairs_of x.grammar whole) (reading (theory_at x.signature) t))
      term_read k (variable i r) n g b = variable_read i r k g.0 g.1 b.1 b.2
      term_read k (numeral m) n g b = numeral_read m k b.0 b.1
      term_read k (apply f ts) n g b =
          let a = (theory_at x.signature f).assoc in
          let top = top_of a f k ts refl n b in
          apply_read f k ts n a refl top.0 top.1 b (λ ks bs. terms_read ks ts n.0 g bs)

      pub terms_read : (ks : List ℕ) (ts : Trees) → AreNormal (theory_at x.signature) ts → AllGiven ns ts → AreBareIn (terms_over x.signature) (trees_of (readings (theory_at x.signature) ts)) ks
          → AreRead x.grammar whole ks (all_worded x ns ts) (map (renamed ns (pairs_of x.grammar whole)) (readings (theory_at x.signature) ts))
      terms_read [] no_trees n g b = tt
      terms_read (k ∷ ks) no_trees n g b = absurd b
      terms_read [] (tree t ts) n g b = absurd b
      terms_read (k ∷ ks) (tree t ts) n g b = (term_read k t n.0 g.0 b.0, terms_read ks ts n.1 g.1 b.1)
