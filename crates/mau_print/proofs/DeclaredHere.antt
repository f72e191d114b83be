-- What is known of an operator of a signature: its declaration, its kinds, and the productions in which it is written.
use Rattle.std.proofs.Common.{◌≡◌, ◌≢◌, ℕ, ◌+◌, ◌-◌, ◌<◌, ◌≤◌, ◌==◌, List, [], ◌∷◌, ◌++◌, Bool, true, false, cond, not, ◌&&◌, ◌||◌, Some, None, All, length, map, get_or, slice_get, nat_lt, nat_le, refl, sym, ap, ◌∙◌, subst, arith, eqb-true}
use Rattle.std.specs.Option.{option_map}
use Rattle.std.proofs.lemmas.Bool.{and_parts, ltb-true}
use Rattle.std.proofs.lemmas.Bool.Decides.{nat_tests}
use Rattle.std.proofs.lemmas.List.{length-map, get_or-map}
use Rattle.std.proofs.lemmas.List.Sums.{sum_by-cons}
use Rattle.std.proofs.lemmas.List.Elements.{All-map, All-filter}
use Rattle.std.proofs.lemmas.Option.{slice_get_within, get_or_from_slice_get}
use Rattle.mau_poset.specs.Order.{Hierarchy, kind_of}
use Rattle.mau_poset.proofs.Orders.{kind_of-above}
use Rattle.mau_signature.specs.declared.form.Piece.{Piece}
use Rattle.mau_signature.specs.declared.form.Piece.TheVariants.{Hole, Word}
use Rattle.mau_signature.specs.declared.decl.Decl.{Decl}
use Rattle.mau_signature.specs.Form.{is_hole, holes}
use Rattle.mau_signature.specs.Names.{operators_of, declarations_of}
use Rattle.mau_signature.specs.Attributes.{united, with_attributes, with_united}
use Rattle.mau_signature.specs.Faults.{IsSort, HasSorts}
use Rattle.mau_signature.specs.Made.{IsSignature}
use Rattle.mau_signature.specs.Signature.{SignatureOf, declarations_at, arguments_of, result_of, attributes_of, terms_over}
use Rattle.mau_signature.proofs.Whole.{group_some}
use Rattle.mau_grammar.specs.declared.aliases.Alias.{Alias}
use Rattle.mau_grammar.specs.declared.production.Production.{Production}
use Rattle.mau_grammar.specs.Production.{greatest_level, production, place_kinds}
use Rattle.mau_grammar.specs.Precedence.{precedence}
use Rattle.mau_grammar.specs.Parts.{parts_from, words_of, one_word, prefix_name, head_of, in_parentheses}
use Rattle.mau_grammar.specs.Productions.{operator, argument_kinds, level, is_written, written, list_kind, pair, chained, prefixed_by, with_head, prefixed, of_operator, enclosed}
use Rattle.mau_grammar.specs.Grammar.{GrammarOf}
use Rattle.mau_grammar.proofs.KindsKept.{meaning, kind_in, IsProper, all_proper, form_kinds}
use Rattle.mau_print.specs.Layouts.{form_words}
use Rattle.mau_print.specs.FirstSorts.{IsGrammarFor}
use Rattle.mau_print.specs.Worded.{Source, form_parts}
use Rattle.mau_print.specs.Readable.{HasWords, IsWritable}
use Rattle.mau_print.proofs.Produced.{written-is}
use Rattle.mau_print.proofs.Present.{IsPresent, present_left, present_right, present_first, operator_present, enclosed_present}

-- ---- declarations

united_some : (ds : List Decl) → ds ≢ [] → with_united ds ≢ []
united_some [] h e = h refl
united_some (d ∷ ds) h e = cc

-- each operator has a declaration
all_declared : (s : SignatureOf) → IsSignature s → All (λ ds. ds ≢ []) s.declarations
all_declared s i =
    let h = s.hierarchy in
    let ds = i.source in
    let fs = operators_of h ds in
    let made : s.declarations ≡ map (λ f. with_united (declarations_of h ds f)) fs = ap (λ (t : SignatureOf). t.declarations) i.made in
    let some = group_some h ds fs (map (declarations_of h ds) fs) refl refl in
    subst (All (λ es. es ≢ [])) (sym made)
    (All-map (λ es. es ≢ []) (λ f. with_united (declarations_of h ds f)) fs
    (λ k f l. united_some (declarations_of h ds (get_or fs k f)) (subst (λ es. es ≢ []) (get_or-map (declarations_of h ds) fs k f (declarations_of h ds f) l) (some k (declarations_of h ds f) (omega (arith, l, length-map fs (declarations_of h ds)))))))

-- and its sorts are there
all_sorted : (s : SignatureOf) → IsSignature s → All (All (HasSorts s.hierarchy)) s.declarations
all_sorted s i =
    let h = s.hierarchy in
    let ds = i.source in
    let made : s.declarations ≡ map (λ f. with_united (declarations_of h ds f)) (operators_of h ds) = ap (λ (t : SignatureOf). t.declarations) i.made in
    subst (All (All (HasSorts h))) (sym made)
    (All-map (All (HasSorts h)) (λ f. with_united (declarations_of h ds f)) (operators_of h ds)
    (λ k f l.
    let own = declarations_of h ds (get_or (operators_of h ds) k f) in
    All-map (HasSorts h) (with_attributes (united own)) own (All-filter _ (λ d. HasSorts h (with_attributes (united own) d)) ds (λ n d m. record { arguments = (i.sorts n d m).arguments; result = (i.sorts n d m).result }))))

-- ---- places

-- as many places as holes
place_count : (d : Decl) (ks : List ℕ) (form : List Piece) (n : ℕ) → length (place_kinds (parts_from d ks form n)) ≡ holes form
place_count d ks [] n = refl
place_count d ks (Word w ∷ ps) n = place_count d ks ps n ∙ omega (arith, sum_by-cons (λ p. cond (is_hole p) 1 0) (Word w) ps)
place_count d ks (Hole ∷ ps) n = omega (arith, place_count d ks ps (n + 1), sum_by-cons (λ p. cond (is_hole p) 1 0) Hole ps)

some_form : (form : List Piece) → form_words form ≢ [] → (length form == 0) ≡ false
some_form [] h = absurd (h refl)
some_form (p ∷ ps) h = grind (arith, nat_tests)

written_by : (a b c : Bool) → a ≡ false → c ≡ true → (not a && (not b || c)) ≡ true
written_by true b c e f = absurd (cc)
written_by false true true e f = refl
written_by false false true e f = refl
written_by false b false e f = absurd (cc)

pub level_low : (d : Decl) → precedence d ≤ 255 → level d ≤ greatest_level
level_low d h = by (holes d.form == 0)
  where
    by : (b : Bool) → cond b 1 (precedence d + 1) ≤ 256
    by true = omega arith
    by false = omega (arith, h)

-- ---- an operator

-- f is an operator, whose first declaration is d
pub record IsOperatorBy (x : Source) (f : ℕ) (d : Decl) : Type 0 where
  pub there : (terms_over x.signature).has_operator f ≡ true
  pub others : List Decl
  pub declared : declarations_at x.signature f ≡ d ∷ others

module _ (x : Source) (names : List (List ℕ)) (aliases : List Alias) (wr : IsWritable x names aliases) where
  pub made_for : IsGrammarFor x.signature x.grammar
  made_for = (names, aliases, wr.grammar.made)

  -- parentheses of the kind of a sort
  pub marks_of : (a k : ℕ) → IsSort x.signature.hierarchy a → kind_of x.signature.hierarchy a ≡ k → IsPresent x.grammar.productions (enclosed k)
  marks_of a k there e =
      let h = x.signature.hierarchy in
      enclosed_present x.signature x.grammar k made_for (omega (arith, kind_of-above h a, e)) (omega (arith, kind_in h a there, e))

  module _ (f : ℕ) (there : (terms_over x.signature).has_operator f ≡ true) where
    place_low : f - 1 < length x.signature.declarations
    place_low =
        let both = and_parts (nat_lt 0 f) (nat_le f (length x.signature.declarations)) there in
        let some : 0 < f = ltb-true 0 f both.0 in
        let most : f ≤ length x.signature.declarations = most_of f (length x.signature.declarations) both.1 in
        omega arith
      where
        most_of : (a b : ℕ) → nat_le a b ≡ true → a ≤ b
        most_of a b e = grind (arith, nat_tests)

    number : f - 1 + 1 ≡ f
    number = let some : 0 < f = ltb-true 0 f ((and_parts (nat_lt 0 f) (nat_le f (length x.signature.declarations)) there).0) in omega arith

    -- it has a declaration
    pub operator_by : (d : Decl) × IsOperatorBy x f d
    operator_by = first (declarations_at x.signature f) refl
      where
        first : (ds : List Decl) → declarations_at x.signature f ≡ ds → (d : Decl) × IsOperatorBy x f d
        first [] e = absurd (all_declared x.signature wr.grammar.signature (f - 1) [] place_low e)
        first (d ∷ ds) e = (d, record { there = there; others = ds; declared = e })

  module _ (f : ℕ) (d : Decl) (op : IsOperatorBy x f d) where
    abbrev h : Hierarchy
    h = x.signature.hierarchy

    pub has_words : HasWords d
    has_words = subst (All HasWords) op.declared (wr.operators (f - 1) [] (place_low f op.there)) 0 d (omega arith)

    pub result_there : IsSort x.signature.hierarchy d.result
    result_there = (subst (All (HasSorts x.signature.hierarchy)) op.declared (all_sorted x.signature wr.grammar.signature (f - 1) [] (place_low f op.there)) 0 d (omega arith)).result

    pub result_is : (terms_over x.signature).result f ≡ kind_of x.signature.hierarchy d.result
    result_is = ap (λ ds. kind_of x.signature.hierarchy (result_of ds)) op.declared

    pub arguments_are : (terms_over x.signature).arguments f ≡ argument_kinds x.signature.hierarchy d
    arguments_are = ap (λ ds. map (kind_of x.signature.hierarchy) (arguments_of ds)) op.declared

    pub assoc_is : ((terms_over x.signature).theory f).assoc ≡ d.attrs.assoc
    assoc_is = ap (λ ds. (attributes_of ds).assoc) op.declared

    own_present : (p : Production) → IsPresent (written x.signature.hierarchy f d ++ prefixed x.signature.hierarchy f d) p → IsPresent x.grammar.productions p
    own_present p q =
        let e = number f op.there in
        operator_present x.signature x.grammar (f - 1) d op.others p made_for (place_low f op.there) (ap (λ n. declarations_at x.signature n) e ∙ op.declared)
        (subst (λ n. IsPresent (of_operator x.signature.hierarchy n (d ∷ op.others)) p) (sym e) q)

    abbrev pub own_written : Production
    own_written = production (kind_of x.signature.hierarchy d.result) (level d) (operator f) (form_parts x d)

    -- its words and arguments in order
    pub written_present : is_written d ≡ true → IsPresent x.grammar.productions own_written
    written_present w =
        own_present own_written (present_left (written x.signature.hierarchy f d) (prefixed x.signature.hierarchy f d) own_written
        (subst (λ ps. IsPresent ps own_written) (sym (written-is x.signature.hierarchy f d w)) (present_first own_written [])))

    -- a production of the operator has as many places as arguments
    pub holes_are : is_written d ≡ true → holes d.form ≡ length d.args
    holes_are w =
        let p = written_present w in
        let all : All (IsProper x.signature) x.grammar.productions = subst (λ (g : GrammarOf). All (IsProper x.signature) g.productions) (sym wr.grammar.made) (all_proper x.signature names wr.grammar.signature wr.grammar.lawful) in
        let proper : IsProper x.signature own_written = subst (IsProper x.signature) (get_or_from_slice_get x.grammar.productions p.0 own_written own_written p.1) (all p.0 own_written (slice_get_within x.grammar.productions p.0 own_written p.1)) in
        let same = (proper.made (record { 0 = f }) refl).arguments in
        omega (arith, place_count d (argument_kinds x.signature.hierarchy d) d.form 0, ap length same, length-map (place_kinds (form_parts x d)) (meaning x.signature), ap length arguments_are, length-map d.args (kind_of x.signature.hierarchy))

    pub kinds_are : is_written d ≡ true → place_kinds (form_parts x d) ≡ argument_kinds x.signature.hierarchy d
    kinds_are w = form_kinds d (argument_kinds x.signature.hierarchy d) d.form 0 (omega (arith, holes_are w, length-map d.args (kind_of x.signature.hierarchy)))

    -- a constant is its words
    pub constant_written : (length d.args == 0) ≡ true → is_written d ≡ true
    constant_written e = written_by (length d.form == 0) (holes d.form == 0) (length d.args == 0) (some_form d.form (has_words.some (eqb-true (length d.args) 0 e))) e

    prefixed-is : (length d.args == 0) ≡ false → (holes d.form == 0) ≡ true → prefixed x.signature.hierarchy f d ≡ prefixed_by x.signature.hierarchy f d (words_of d.form)
    prefixed-is e q =
        ap (λ b. cond b [] (with_head x.signature.hierarchy f d (head_of d.form))) e
        ∙ ap (λ b. with_head x.signature.hierarchy f d (cond b (Some (words_of d.form)) (option_map one_word (prefix_name d.form)))) q

    prefixed_there : (p : Production) → (length d.args == 0) ≡ false → (holes d.form == 0) ≡ true → IsPresent (prefixed_by x.signature.hierarchy f d (words_of d.form)) p → IsPresent x.grammar.productions p
    prefixed_there p e q r =
        own_present p (present_right (written x.signature.hierarchy f d) (prefixed x.signature.hierarchy f d) p (subst (λ ps. IsPresent ps p) (sym (prefixed-is e q)) r))

    abbrev pub own_prefixed : Production
    own_prefixed = production (kind_of x.signature.hierarchy d.result) 1 (operator f) (words_of d.form ++ in_parentheses (argument_kinds x.signature.hierarchy d))

    -- the prefix form of an operator that isn't associative
    pub prefixed_present : (length d.args == 0) ≡ false → (holes d.form == 0) ≡ true → d.attrs.assoc ≡ false → IsPresent x.grammar.productions own_prefixed
    prefixed_present e q a =
        prefixed_there own_prefixed e q
        (subst (λ b. IsPresent (cond b (chained f (kind_of x.signature.hierarchy d.result) (list_kind x.signature.hierarchy f) (words_of d.form)) (own_prefixed ∷ [])) own_prefixed) (sym a) (present_first own_prefixed []))

    abbrev pub own_list : ℕ
    own_list = list_kind x.signature.hierarchy f

    abbrev pub own_chained : Production
    own_chained = production (kind_of x.signature.hierarchy d.result) 1 None (words_of d.form ++ in_parentheses (list_kind x.signature.hierarchy f ∷ []))

    abbrev pub own_pair : ℕ → Production
    own_pair l = pair f (list_kind x.signature.hierarchy f) (kind_of x.signature.hierarchy d.result) l

    -- and of an associative one
    chained_there : (n : ℕ) (p : Production) → (length d.args == 0) ≡ false → (holes d.form == 0) ≡ true → d.attrs.assoc ≡ true
        → slice_get (own_chained ∷ own_pair (kind_of x.signature.hierarchy d.result) ∷ own_pair (list_kind x.signature.hierarchy f) ∷ []) n ≡ Some p → IsPresent x.grammar.productions p
    chained_there n p e q a r =
        prefixed_there p e q (subst (λ b. IsPresent (cond b (chained f (kind_of x.signature.hierarchy d.result) (list_kind x.signature.hierarchy f) (words_of d.form)) (own_prefixed ∷ [])) p) (sym a) (n, r))

    pub chained_present : (length d.args == 0) ≡ false → (holes d.form == 0) ≡ true → d.attrs.assoc ≡ true → IsPresent x.grammar.productions own_chained
    chained_present e q a = chained_there 0 own_chained e q a refl

    pub two_present : (length d.args == 0) ≡ false → (holes d.form == 0) ≡ true → d.attrs.assoc ≡ true → IsPresent x.grammar.productions (own_pair (kind_of x.signature.hierarchy d.result))
    two_present e q a = chained_there 1 (own_pair (kind_of x.signature.hierarchy d.result)) e q a refl

    pub more_present : (length d.args == 0) ≡ false → (holes d.form == 0) ≡ true → d.attrs.assoc ≡ true → IsPresent x.grammar.productions (own_pair (list_kind x.signature.hierarchy f))
    more_present e q a = chained_there 2 (own_pair (list_kind x.signature.hierarchy f)) e q a refl
