-- The text of a term is made of its words.
use Rattle.std.proofs.Common.{◌≡◌, ℕ, ◌+◌, ◌-◌, ◌<◌, ◌≤◌, ◌==◌, ◌⊎◌, inl, inr, List, [], ◌∷◌, ◌++◌, Bool, true, false, cond, Option, Some, None, All, length, map, codes, decimal, bytes_eq, get_or, slice_get, nat_le, nat_eq, if◌then◌else◌, refl, sym, ap, ◌∙◌, subst, append_assoc, arith}
use Rattle.std.specs.Option.{option_map_or}
use Rattle.std.proofs.lemmas.Bool.{cases_lt, lt-ltb, le-ltb, eq-eqb}
use Rattle.std.proofs.lemmas.List.{length-map, get_or_past}
use Rattle.std.proofs.lemmas.Option.{slice_get_within, get_or_from_slice_get, slice_get_past, none-some}
use Rattle.std.proofs.lemmas.List.Elements.{All-tail}
use Rattle.std.proofs.lemmas.Slice.Eq.{bytes_eq-Decides}
use Rattle.mau_poset.specs.Order.{Hierarchy, kind_of, kinds}
use Rattle.mau_terms.specs.Tree.{Tree, variable, numeral, apply, Trees, no_trees, tree}
use Rattle.mau_signature.specs.declared.decl.Decl.{Decl}
use Rattle.mau_signature.specs.declared.form.Piece.{Piece}
use Rattle.mau_signature.specs.declared.form.Piece.TheVariants.{Hole, Word as Letters}
use Rattle.mau_signature.specs.Form.{holes}
use Rattle.mau_signature.specs.Signature.{declarations_at}
use Rattle.mau_grammar.specs.declared.aliases.Alias.{Alias}
use Rattle.mau_grammar.specs.declared.production.Part.{Part}
use Rattle.mau_grammar.specs.declared.production.Part.TheVariants.{Word, Hole as Place}
use Rattle.mau_grammar.specs.Parts.{parts_from}
use Rattle.mau_grammar.specs.Productions.{level, argument_kinds, sort_names}
use Rattle.mau_grammar.specs.Leaves.{sort_from, sort_named}
use Rattle.mau_grammar.specs.Grammar.{GrammarOf}
use Rattle.mau_parse.specs.Terms.{AreGiven, AllGiven}
use Rattle.mau_print.specs.declared.layout.Layout.{Layout}
use Rattle.mau_print.specs.declared.layout.Layout.TheVariants.{Prefix, Form, Chain}
use Rattle.mau_print.specs.Written.{Printed, printed_as, in_parentheses, guarded, gap, pieces, spaced, nested, rest_texts, comma_texts}
use Rattle.mau_print.specs.Printed.{Pairs, variable_name, name_of, unambiguous, over, layout_at, is_clash, printed, all_printed}
use Rattle.mau_print.specs.Layouts.{form_words, head_text, owned_texts, is_shared, first_sort_name, first_name, as_constant, layout_by, layout_of}
use Rattle.mau_print.specs.Words.{Phrase, phrase, enclosed_words, guarded_words, woven_words}
use Rattle.mau_print.specs.Worded.{Source, printer_for, kind_name, comma_names, kind_words, variable_words, unambiguous_words, constant_words, rest_words, nested_words, form_parts, words_by, words_over, worded, all_worded}
use Rattle.mau_print.specs.Readable.{IsPlain, IsFormWord, IsVariableName, HasWords, NameKind, HaveNames, IsWritable}
use Rattle.mau_print.proofs.Joined.{IsJoined, no_words, after_space, mark_first, plain_first, is_end, spaced_end, joined_end, joined_word, one_word, joined_words, joined_enclosed, joined_in_parentheses}
use Rattle.mau_print.proofs.PlainWords.{dotted, dot_alone, coloned}
use Rattle.mau_print.proofs.VariablesHere.{name_of-sort, name_of-kind}
use Rattle.mau_print.proofs.Numerals.{decimal-plain}
use Rattle.mau_print.proofs.Small.{AreSmall, AllSmall, slice_get-map}

-- ---- a term as its text and as its words

pub record IsWrittenAs (x : Printed) (y : Phrase) : Type 0 where
  pub level : x.level ≡ y.level
  pub text : IsJoined y.words x.text

abbrev pub AreWrittenAs : List Printed → List Phrase → Type 0
AreWrittenAs [] [] = Unit {0}
AreWrittenAs [] (y ∷ ys) = ⊥
AreWrittenAs (x ∷ xs) [] = ⊥
AreWrittenAs (x ∷ xs) (y ∷ ys) = IsWrittenAs x y × AreWrittenAs xs ys

guarded_as : (upto : ℕ) (x : Printed) (y : Phrase) → IsWrittenAs x y → IsJoined (guarded_words upto y) (guarded upto x)
guarded_as upto x y w = subst (λ q. IsJoined (cond (nat_le q upto) y.words (enclosed_words y.words)) (guarded upto x)) w.level (by (nat_le x.level upto))
  where
    by : (b : Bool) → IsJoined (cond b y.words (enclosed_words y.words)) (cond b x.text (in_parentheses x.text))
    by true = w.text
    by false = joined_in_parentheses y.words x.text w.text

-- ---- forms with arguments at their places

-- the words among the parts
abbrev pub AreFormParts : List Part → Type 0
AreFormParts [] = Unit {0}
AreFormParts (Word w ∷ ps) = IsFormWord w × AreFormParts ps
AreFormParts (Place h ∷ ps) = AreFormParts ps

behind_gap : (b : Bool) (ws : List (List ℕ)) (bs : List ℕ) → IsJoined ws bs → IsJoined ws (gap b ++ bs)
behind_gap true ws bs j = j
behind_gap false ws bs j = after_space j

spaced_as : (b : Bool) (ps : List Part) (xs : List Printed) (ys : List Phrase) → AreFormParts ps → AreWrittenAs xs ys → IsJoined (woven_words ps ys) (spaced b (pieces ps xs))
spaced_as b [] [] [] f w = no_words
spaced_as b [] [] (y ∷ ys) f w = absurd w
spaced_as b [] (x ∷ xs) ys f w = no_words
spaced_as b (Word v ∷ ps) xs ys f w =
    behind_gap b (v ∷ woven_words ps ys) (v ++ spaced false (pieces ps xs))
    (joined_word v (woven_words ps ys) (spaced false (pieces ps xs)) f.0 (spaced_end (pieces ps xs)) (spaced_as false ps xs ys f.1 w))
spaced_as b (Place h ∷ ps) [] [] f w = spaced_as b ps [] [] f w
spaced_as b (Place h ∷ ps) [] (y ∷ ys) f w = absurd w
spaced_as b (Place h ∷ ps) (x ∷ xs) [] f w = absurd w
spaced_as b (Place h ∷ ps) (x ∷ xs) (y ∷ ys) f w =
    behind_gap b (guarded_words h.upto y ++ woven_words ps ys) (guarded h.upto x ++ spaced false (pieces ps xs))
    (joined_end (guarded_words h.upto y) (woven_words ps ys) (guarded h.upto x) (spaced false (pieces ps xs)) (guarded_as h.upto x y w.0) (spaced_as false ps xs ys f w.1) (spaced_end (pieces ps xs)))

nested_as : (q : ℕ) (ps : List Part) (xs : List Printed) (ys : List Phrase) → AreFormParts ps → AreWrittenAs xs ys → IsJoined (nested_words q ps ys) (nested q ps xs)
nested_as q ps [] [] f w = spaced_as true ps [] [] f w
nested_as q ps [] (y ∷ ys) f w = absurd w
nested_as q ps (x ∷ xs) [] f w = absurd w
nested_as q ps (x ∷ []) (y ∷ []) f w = spaced_as true ps (x ∷ []) (y ∷ []) f w
nested_as q ps (x ∷ []) (y ∷ v ∷ ys) f w = absurd w.1
nested_as q ps (x ∷ u ∷ xs) (y ∷ []) f w = absurd w.1
nested_as q ps (x ∷ u ∷ []) (y ∷ v ∷ []) f w = spaced_as true ps (x ∷ u ∷ []) (y ∷ v ∷ []) f w
nested_as q ps (x ∷ u ∷ []) (y ∷ v ∷ z ∷ ys) f w = absurd w.1.1
nested_as q ps (x ∷ u ∷ z ∷ xs) (y ∷ v ∷ []) f w = absurd w.1.1
nested_as q ps (x ∷ u ∷ r ∷ xs) (y ∷ v ∷ z ∷ ys) f w =
    spaced_as true ps (x ∷ printed_as q (nested q ps (u ∷ r ∷ xs)) ∷ []) (y ∷ phrase q (nested_words q ps (v ∷ z ∷ ys)) ∷ []) f
    (w.0, (record { level = refl; text = nested_as q ps (u ∷ r ∷ xs) (v ∷ z ∷ ys) f w.1 }, tt))

-- the words of a form are those of its parts
parts_fit : (d : Decl) (ks : List ℕ) (form : List Piece) (n : ℕ) → All IsFormWord (form_words form) → AreFormParts (parts_from d ks form n)
parts_fit d ks [] n all = tt
parts_fit d ks (Hole ∷ ps) n all = parts_fit d ks ps (n + 1) all
parts_fit d ks (Letters w ∷ ps) n all = (all 0 [] (omega arith), parts_fit d ks ps n (All-tail IsFormWord w (form_words ps) all))

-- ---- arguments in parentheses

comma_as : (xs : List Printed) (ys : List Phrase) → AreWrittenAs xs ys → IsJoined (rest_words true ys) (comma_texts xs)
comma_as [] [] w = no_words
comma_as [] (y ∷ ys) w = absurd w
comma_as (x ∷ xs) [] w = absurd w
comma_as (x ∷ xs) (y ∷ ys) w = joined_end y.words (rest_words false ys) x.text (rest_texts false xs) w.0.text (behind xs ys w.1) (end xs)
  where
    end : (xs : List Printed) → is_end (rest_texts false xs) ≡ true
    end [] = refl
    end (x ∷ xs) = refl

    behind : (xs : List Printed) (ys : List Phrase) → AreWrittenAs xs ys → IsJoined (rest_words false ys) (rest_texts false xs)
    behind [] [] w = no_words
    behind [] (y ∷ ys) w = absurd w
    behind (x ∷ xs) [] w = absurd w
    behind (x ∷ xs) (y ∷ ys) w = mark_first (codes ",") refl (after_space (joined_end y.words (rest_words false ys) x.text (rest_texts false xs) w.0.text (behind xs ys w.1) (end xs)))

prefix_as : (d : Decl) (xs : List Printed) (ys : List Phrase) → All IsFormWord (form_words d.form) → AreWrittenAs xs ys → IsJoined (form_words d.form ++ enclosed_words (rest_words true ys)) (head_text d ++ in_parentheses (comma_texts xs))
prefix_as d xs ys all w =
    joined_end (form_words d.form) (enclosed_words (rest_words true ys)) (head_text d) (in_parentheses (comma_texts xs)) (joined_words (form_words d.form) all)
    (joined_in_parentheses (rest_words true ys) (comma_texts xs) (comma_as xs ys w)) refl

-- ---- with a sort

unambiguous_as : (b : Bool) (sort w : List ℕ) (ws : List (List ℕ)) → IsPlain (codes "." ++ sort) → IsJoined ws w → IsWrittenAs (unambiguous b sort w) (unambiguous_words b sort ws)
unambiguous_as true sort w ws p j = record { level = refl; text = joined_enclosed ws ((codes "." ++ sort) ∷ []) w (codes "." ++ sort) j (one_word (codes "." ++ sort) (inr p)) }
unambiguous_as false sort w ws p j = record { level = refl; text = j }

dotted_first : (h : Hierarchy) (a : ℕ) (names : List (List ℕ)) (k : ℕ) → All IsPlain names → IsPlain (codes "." ++ first_sort_name (sort_names h a names) k)
dotted_first h a [] k all = dot_alone
dotted_first h a (w ∷ names) k all = by (kind_of h a == k) (dotted_first h (a + 1) names k (All-tail IsPlain w names all))
  where
    by : (b : Bool) → IsPlain (codes "." ++ first_sort_name (sort_names h (a + 1) names) k) → IsPlain (codes "." ++ option_map_or (λ v. v) (cond b (Some w) (first_name (sort_names h (a + 1) names) k)) [])
    by true p = dotted w (all 0 [] (omega arith))
    by false p = p

-- ---- kinds

named_plain : (h : Hierarchy) (a : ℕ) (names : List (List ℕ)) (w : List ℕ) (r : ℕ × ℕ) → All IsPlain names → sort_from (sort_names h a names) a w ≡ Some r → IsPlain w
named_plain h a [] w r all e = absurd (none-some r e)
named_plain h a (v ∷ names) w r all e = by (bytes_eq v w) refl e (λ f. named_plain h (a + 1) names w r (All-tail IsPlain v names all) f)
  where
    by : (b : Bool) → bytes_eq v w ≡ b → cond b (Some (a, kind_of h a)) (sort_from (sort_names h (a + 1) names) (a + 1) w) ≡ Some r
        → (sort_from (sort_names h (a + 1) names) (a + 1) w ≡ Some r → IsPlain w) → IsPlain w
    by true q f ih = subst IsPlain ((bytes_eq-Decides v w).0 q) (all 0 [] (omega arith))
    by false q f ih = ih f

kind_as : (ws : List (List ℕ)) → All IsPlain ws → IsJoined (kind_words ws) (comma_names ws ++ codes "]")
kind_as [] all = mark_first (codes "]") refl no_words
kind_as (w ∷ []) all = plain_first w (all 0 [] (omega arith)) refl (mark_first (codes "]") refl no_words)
kind_as (w ∷ v ∷ vs) all =
    subst (IsJoined (w ∷ codes "," ∷ kind_words (v ∷ vs))) (sym (append_assoc w (codes "," ++ comma_names (v ∷ vs)) (codes "]")))
    (plain_first w (all 0 [] (omega arith)) refl (mark_first (codes ",") refl (kind_as (v ∷ vs) (All-tail IsPlain w (v ∷ vs) all))))

module _ (x : Source) (names : List (List ℕ)) (aliases : List Alias) (wr : IsWritable x names aliases) where
  first_sorts : (k : ℕ) → IsPlain (codes "." ++ first_sort_name x.grammar.sorts k)
  first_sorts k = subst (λ ss. IsPlain (codes "." ++ first_sort_name ss k)) (sym (ap (λ (f : GrammarOf). f.sorts) wr.grammar.made)) (dotted_first x.signature.hierarchy 0 names k wr.sorts)

  kind_plain : (j : ℕ) (ws : List (List ℕ)) → slice_get x.kind_sorts j ≡ Some ws → All IsPlain ws
  kind_plain j ws e =
      let low : j < kinds x.signature.hierarchy = omega (arith, slice_get_within x.kind_sorts j ws e, wr.all_kinds) in
      let own : NameKind x.grammar (x.signature.hierarchy.sorts + j) ws = subst (NameKind x.grammar (x.signature.hierarchy.sorts + j)) (get_or_from_slice_get x.kind_sorts j ws [] e) (wr.kinds j low) in
      λ i d l.
      let s = own.sorts i d l in
      named_plain x.signature.hierarchy 0 names (get_or ws i d) (s.0, x.signature.hierarchy.sorts + j) wr.sorts
      (ap (λ ss. sort_named ss (get_or ws i d)) (sym (ap (λ (f : GrammarOf). f.sorts) wr.grammar.made)) ∙ s.1)

  variable_as : (name : List ℕ) (s : ℕ) → IsVariableName name → IsJoined (variable_words x name s) (name ++ (codes ":" ++ name_of (printer_for x) s))
  variable_as name s v = by (cases_lt s x.signature.hierarchy.sorts)
    where
      of_kind : (o : Option (List (List ℕ))) → slice_get x.kind_sorts (s - x.signature.hierarchy.sorts) ≡ o
          → IsJoined (option_map_or (λ ws. (name ++ codes ":") ∷ codes "[" ∷ kind_words ws) o ((name ++ codes ":") ∷ [])) (name ++ (codes ":" ++ option_map_or kind_name o []))
      of_kind None e = one_word (name ++ codes ":") (inr v.plain)
      of_kind (Some ws) e =
          subst (IsJoined ((name ++ codes ":") ∷ codes "[" ∷ kind_words ws)) (append_assoc name (codes ":") (kind_name ws))
          (plain_first (name ++ codes ":") v.plain refl (mark_first (codes "[") refl (kind_as ws (kind_plain (s - x.signature.hierarchy.sorts) ws e))))

      words : Bool → List (List ℕ)
      words b = if b then (name ++ (codes ":" ++ name_of (printer_for x) s)) ∷ [] else option_map_or (λ ws. (name ++ codes ":") ∷ codes "[" ∷ kind_words ws) (slice_get x.kind_sorts (s - x.signature.hierarchy.sorts)) ((name ++ codes ":") ∷ [])

      by : (s < x.signature.hierarchy.sorts) ⊎ (x.signature.hierarchy.sorts ≤ s) → IsJoined (variable_words x name s) (name ++ (codes ":" ++ name_of (printer_for x) s))
      by (inl l) =
          let sort : IsPlain (name_of (printer_for x) s) = subst IsPlain (sym (name_of-sort x names aliases wr s l)) (wr.sorts s [] (omega (arith, wr.grammar.named))) in
          subst (λ ws. IsJoined ws (name ++ (codes ":" ++ name_of (printer_for x) s))) (sym (ap words (lt-ltb s x.signature.hierarchy.sorts l)))
          (one_word (name ++ (codes ":" ++ name_of (printer_for x) s)) (inr (coloned name (name_of (printer_for x) s) v.some v.plain sort)))
      by (inr l) =
          subst (λ ws. IsJoined ws (name ++ (codes ":" ++ name_of (printer_for x) s))) (sym (ap words (le-ltb s x.signature.hierarchy.sorts l)))
          (subst (λ n. IsJoined (words false) (name ++ (codes ":" ++ n))) (sym (name_of-kind x names aliases wr s l)) (of_kind (slice_get x.kind_sorts (s - x.signature.hierarchy.sorts)) refl))

  numeral_dotted : (o : Option ℕ) → IsPlain (codes "." ++ option_map_or (first_sort_name x.grammar.sorts) o [])
  numeral_dotted None = dot_alone
  numeral_dotted (Some k) = first_sorts k

  -- ---- operators

  operator_as : (d : Decl) (xs : List Printed) (ys : List Phrase) → HasWords d → AreWrittenAs xs ys → IsWrittenAs (over (layout_by x.signature.hierarchy x.grammar (owned_texts x.signature x.grammar) d) xs) (words_by x d ys)
  operator_as d xs ys hw w = by (length d.args == 0) (holes d.form == 0) d.attrs.assoc
    where
      q : ℕ
      q = level d

      by : (a b c : Bool) → IsWrittenAs
          (over (cond a (as_constant (unambiguous (is_shared x.grammar (owned_texts x.signature x.grammar) (head_text d)) (first_sort_name x.grammar.sorts (kind_of x.signature.hierarchy d.result)) (head_text d)))
          (cond b (Prefix (head_text d)) (cond c (Chain (level d) (form_parts x d)) (Form (level d) (form_parts x d))))) xs)
          (cond a (constant_words x d) (cond b (phrase 1 (form_words d.form ++ enclosed_words (rest_words true ys))) (cond c (phrase (level d) (nested_words (level d) (form_parts x d) ys)) (phrase (level d) (woven_words (form_parts x d) ys)))))
      by true b c = unambiguous_as (is_shared x.grammar (owned_texts x.signature x.grammar) (head_text d)) (first_sort_name x.grammar.sorts (kind_of x.signature.hierarchy d.result)) (head_text d) (form_words d.form) (first_sorts (kind_of x.signature.hierarchy d.result)) (joined_words (form_words d.form) hw.words)
      by false true c = record { level = refl; text = prefix_as d xs ys hw.words w }
      by false false true = record { level = refl; text = nested_as (level d) (form_parts x d) xs ys (parts_fit d (argument_kinds x.signature.hierarchy d) d.form 0 hw.words) w }
      by false false false = record { level = refl; text = spaced_as true (form_parts x d) xs ys (parts_fit d (argument_kinds x.signature.hierarchy d) d.form 0 hw.words) w }

  declared_as : (ds : List Decl) (xs : List Printed) (ys : List Phrase) → All HasWords ds → AreWrittenAs xs ys → IsWrittenAs (over (layout_of x.signature.hierarchy x.grammar (owned_texts x.signature x.grammar) ds) xs) (words_over x ds ys)
  declared_as [] xs ys all w = record { level = refl; text = no_words }
  declared_as (d ∷ ds) xs ys all w = operator_as d xs ys (all 0 d (omega arith)) w

  applied_as : (f : ℕ) (xs : List Printed) (ys : List Phrase) → AreWrittenAs xs ys → IsWrittenAs (option_map_or (λ l. over l xs) (layout_at (printer_for x) f) (printed_as 1 [])) (words_over x (declarations_at x.signature f) ys)
  applied_as f xs ys w = by (cases_lt (f - 1) (length x.signature.declarations))
    where
      make : List Decl → Layout
      make = layout_of x.signature.hierarchy x.grammar (owned_texts x.signature x.grammar)

      by : ((f - 1) < length x.signature.declarations) ⊎ (length x.signature.declarations ≤ (f - 1)) → IsWrittenAs (option_map_or (λ l. over l xs) (slice_get (map (layout_of x.signature.hierarchy x.grammar (owned_texts x.signature x.grammar)) x.signature.declarations) (f - 1)) (printed_as 1 [])) (words_over x (get_or x.signature.declarations (f - 1) []) ys)
      by (inl l) =
          let ds = get_or x.signature.declarations (f - 1) [] in
          let there : slice_get (map (layout_of x.signature.hierarchy x.grammar (owned_texts x.signature x.grammar)) x.signature.declarations) (f - 1) ≡ Some (layout_of x.signature.hierarchy x.grammar (owned_texts x.signature x.grammar) ds) =
          slice_get-map make x.signature.declarations (f - 1) [] l in
          subst (λ o. IsWrittenAs (option_map_or (λ l. over l xs) o (printed_as 1 [])) (words_over x ds ys)) (sym there) (declared_as ds xs ys (wr.operators (f - 1) [] l) w)
      by (inr l) =
          let none : slice_get (map (layout_of x.signature.hierarchy x.grammar (owned_texts x.signature x.grammar)) x.signature.declarations) (f - 1) ≡ None = slice_get_past _ (f - 1) (omega (arith, length-map x.signature.declarations make)) in
          let past : get_or x.signature.declarations (f - 1) [] ≡ [] = get_or_past x.signature.declarations (f - 1) [] l in
          subst (λ o. IsWrittenAs (option_map_or (λ l. over l xs) o (printed_as 1 [])) (words_over x (get_or x.signature.declarations (f - 1) []) ys)) (sym none)
          (subst (λ ds. IsWrittenAs (printed_as 1 []) (words_over x ds ys)) (sym past) (record { level = refl; text = no_words }))

  -- ---- terms

  module _ (ns : Pairs) (have : HaveNames ns) where
    pub given_name : (i s : ℕ) (name : List ℕ) → slice_get ns i ≡ Some (name, s) → variable_name ns i s ≡ name
    given_name i s name e = ap (λ o. option_map_or (λ p. if nat_eq p.1 s then p.0 else []) o []) e ∙ ap (λ b. cond b name []) (eq-eqb s s refl)

    pub name_can : (i s : ℕ) (name : List ℕ) → slice_get ns i ≡ Some (name, s) → IsVariableName name
    name_can i s name e = subst (λ (p : List ℕ × ℕ). IsVariableName p.0) (get_or_from_slice_get ns i (name, s) ([], 0) e) (have.1 i ([], 0) (slice_get_within ns i (name, s) e))

    mutual
      pub term_as : (t : Tree) → AreGiven ns t → AreSmall t → IsWrittenAs (printed (printer_for x) ns t) (worded x ns t)
      term_as (variable i s) g m =
          record { level = refl; text = variable_as (variable_name ns i s) s (subst IsVariableName (sym (given_name i s g.0 g.1)) (name_can i s g.0 g.1)) }
      term_as (numeral n) g m = unambiguous_as (is_clash (printer_for x) n) (printer_for x).numeral_sort (decimal n) (decimal n ∷ []) (numeral_dotted x.grammar.numerals) (one_word (decimal n) (inr (decimal-plain n (omega (arith, m)))))
      term_as (apply f ts) g m = applied_as f (all_printed (printer_for x) ns ts) (all_worded x ns ts) (terms_as ts g m)

      pub terms_as : (ts : Trees) → AllGiven ns ts → AllSmall ts → AreWrittenAs (all_printed (printer_for x) ns ts) (all_worded x ns ts)
      terms_as no_trees g m = tt
      terms_as (tree t ts) g m = (term_as t g.0 m.0, terms_as ts g.1 m.1)
