-- The tokens of a text as names, and the names of its variables.
use Rattle.std.proofs.Common.{◌≡◌, ◌≢◌, ℕ, zero, suc, ◌+◌, ◌-◌, ◌<◌, ◌≤◌, ◌==◌, ◌⊎◌, inl, inr, List, [], ◌∷◌, ◌++◌, Bool, true, false, cond, not, ◌&&◌, ◌||◌, Option, Some, None, Ok, All, length, map, filter, take, drop, get_or, codes, bytes_eq, nat_lt, if◌then◌else◌, refl, sym, ap, ap₂, ◌∙◌, subst, arith, eqb-true, length-append}
use Rattle.std.specs.Prelude.{Contains}
use Rattle.std.specs.List.{list_any}
use Rattle.std.proofs.lemmas.Bool.{cases_lt, false≢true, and_parts, or_cases, ltb-true, both_ways}
use Rattle.std.proofs.lemmas.Grind.{common_steps}
use Rattle.std.proofs.lemmas.List.{get_or-append-add, get_or_append_left, get_or-take, length-take-le, get_or_past}
use Rattle.std.proofs.lemmas.List.Elements.{All-contains, All-filter, All-push}
use Rattle.std.proofs.lemmas.Option.{slice_get_within, get_or_from_slice_get}
use Rattle.std.proofs.lemmas.Slice.Eq.{bytes_eq-Decides}
use Rattle.mau_terms.specs.Vars.{same_pair, with_pair}
use Rattle.mau_terms.proofs.Pairs.{AreDistinct-with_pair}
use Rattle.mau_tokens.specs.declared.token.Token.{Token}
use Rattle.mau_tokens.specs.Lexeme.{Lexeme, separator, line_comment, block_comment, string, special, word, is_token, is_separator, is_special as is_special_byte, is_comment_sign, byte_at, lexeme_of, lexeme_at}
use Rattle.mau_tokens.specs.Ending.{parts_word, IsPiece}
use Rattle.mau_tokens.specs.Laws.{text_of, token_alone}
use Rattle.mau_tokens.specs.TokensOf.{TokensOf}
use Rattle.mau_tokens.proofs.Alone.{tokens_stand_alone}
use Rattle.mau_tokens.proofs.SpansLemmas.{IsSpan, each_is_span, utf8_of}
use Rattle.mau_grammar.specs.declared.sorts.SortName.{SortName}
use Rattle.mau_grammar.specs.declared.aliases.Variable.{Variable}
use Rattle.mau_grammar.specs.Grammar.{GrammarOf}
use Rattle.mau_grammar.specs.Parts.{is_special}
use Rattle.mau_grammar.specs.Leaves.{VariableReading, is_string, is_cut, as_alias, aliases_at, sort_named, with_sort, cut_at, cuts_to, kind_list, with_kind, kind_variable, readings_from, readings_at, pairs_of}
use Rattle.mau_parse.specs.Words.{texts_of}
use Rattle.mau_parse.specs.Terms.{pairs_in, added}
use Rattle.mau_parse.specs.Laws.{AreSeenAt}
use Rattle.mau_parse.proofs.LeavesListed.{IsIn, in_none, in_one, in_parts, in_mapped}
use Rattle.mau_parse.proofs.VariablesSeen.{variables_are_in_order}
use Rattle.mau_print.specs.Printed.{Pairs}
use Rattle.mau_print.specs.Readable.{IsPlain, IsVariableName, HaveNames}
use Rattle.mau_print.specs.Laws.{TokensAreNames, PartsOfTokensAreWords, ReadersKeepNames}
use Rattle.mau_print.proofs.Cut.{mark_of}
use Rattle.mau_print.proofs.PlainWords.{IsNoSign, plain_of, begins_again, sign_back}

-- ---- what begins like a string or a special character

begins_string : (gap sign block quote mark : Bool) → cond gap separator (cond sign (cond block block_comment line_comment) (cond quote string (cond mark special word))) ≡ string → quote ≡ true
begins_string true sign block quote mark e = absurd (cc)
begins_string false true true quote mark e = absurd (cc)
begins_string false true false quote mark e = absurd (cc)
begins_string false false block true mark e = refl
begins_string false false block false true e = absurd (cc)
begins_string false false block false false e = absurd (cc)

begins_special : (gap sign block quote mark : Bool) → cond gap separator (cond sign (cond block block_comment line_comment) (cond quote string (cond mark special word))) ≡ special → mark ≡ true
begins_special true sign block quote mark e = absurd (cc)
begins_special false true true quote mark e = absurd (cc)
begins_special false true false quote mark e = absurd (cc)
begins_special false false block true mark e = absurd (cc)
begins_special false false block false true e = refl
begins_special false false block false false e = absurd (cc)

-- one such byte is a special character
single : (b : ℕ) (cs : List ℕ) → All (λ c. is_special (c ∷ []) ≡ true) cs → list_any (λ c. b == c) cs ≡ true → is_special (b ∷ []) ≡ true
single b [] all e = absurd (false≢true e)
single b (c ∷ cs) all e = by (or_cases (b == c) (list_any (λ d. b == d) cs) e) (λ q. single b cs (λ k d l. all (suc k) d (omega arith)) q)
  where
    by : (b == c ≡ true) ⊎ (list_any (λ d. b == d) cs ≡ true) → (list_any (λ d. b == d) cs ≡ true → is_special (b ∷ []) ≡ true) → is_special (b ∷ []) ≡ true
    by (inl q) ih = subst (λ d. is_special (d ∷ []) ≡ true) (sym (eqb-true b c q)) (all 0 0 (omega arith))
    by (inr q) ih = ih q

marks_single : All (λ c. is_special (c ∷ []) ≡ true) (codes "()[]{},")
marks_single zero d l = refl
marks_single (suc zero) d l = refl
marks_single (suc (suc zero)) d l = refl
marks_single (suc (suc (suc zero))) d l = refl
marks_single (suc (suc (suc (suc zero)))) d l = refl
marks_single (suc (suc (suc (suc (suc zero))))) d l = refl
marks_single (suc (suc (suc (suc (suc (suc zero)))))) d l = refl
marks_single (suc (suc (suc (suc (suc (suc (suc k))))))) d l = absurd (omega arith)

-- a special token is one such byte
special_is : (w : List ℕ) → IsPiece w special 0 (length w) → is_special w ≡ true
special_is [] p = absurd (omega (arith, p.there))
special_is (b ∷ []) p = single b (codes "()[]{},") marks_single (begins_special (is_separator b) (is_comment_sign b 0 0) false (b == 34) (is_special_byte b) p.begins)
special_is (b ∷ c ∷ cs) p = absurd (false≢true (sym (p.first 1 (omega arith) (omega arith))))

-- ---- tokens

-- a token, alone, that is no string and no special character
word_token : (w : List ℕ) (l : Lexeme) → is_token l ≡ true → IsPiece w l 0 (length w) → is_string w ≡ false → is_special w ≡ false → IsPiece w word 0 (length w)
word_token w separator t p s m = absurd (false≢true t)
word_token w line_comment t p s m = absurd (false≢true t)
word_token w block_comment t p s m = absurd (false≢true t)
word_token w string t p s m =
    absurd (both_ways _ s (begins_string (is_separator (byte_at w 0)) (is_comment_sign (byte_at w 0) (byte_at w 1) (byte_at w 2)) (byte_at w 3 == 40) (byte_at w 0 == 34) (is_special_byte (byte_at w 0)) p.begins))
word_token w special t p s m = absurd (both_ways _ m (special_is w p))
word_token w word t p s m = p

length-slice : (bs : List ℕ) (t : Token) → t.end ≤ length bs → length (text_of bs t) ≡ t.end - t.start
length-slice bs t h = grind (arith, common_steps)

pub token_piece : (text : List ℕ) (ts : List Token) (t : Token) → TokensOf text (Ok ts) → Contains ts t → is_string (text_of text t) ≡ false → is_special (text_of text t) ≡ false → IsPiece (text_of text t) word 0 (length (text_of text t))
token_piece text ts t of among s m =
    let w = text_of text t in
    let known = utf8_of text (Ok ts) of in
    let span = All-contains (IsSpan 1024 text) ts t (each_is_span text ts known.0 known.1) among in
    let size = length-slice text t span.piece.within in
    let u = token_alone t in
    let alone = utf8_of w (Ok (u ∷ [])) (tokens_stand_alone text ts t of among) in
    let own : IsSpan 1024 w u = each_is_span w (u ∷ []) alone.0 alone.1 0 u (omega arith) in
    let piece : IsPiece w own.lexeme 0 (length w) = subst (IsPiece w own.lexeme 0) (sym size) own.piece in
    word_token w own.lexeme own.token piece s m

or_false : (a b : Bool) → (a || b) ≡ false → b ≡ false
or_false true b e = absurd (cc)
or_false false b e = e

plain_token : (w : List ℕ) → IsPiece w word 0 (length w) → byte_at w (length w - 1) ≢ 96 → IsPlain w
plain_token w p last = record { word = p; last = last }

-- ---- names before a colon

-- the first bytes of a word, and a colon
module _ (u name : List ℕ) (p : IsPiece u word 0 (length u)) (some : 1 ≤ length name) (short : length name ≤ length u) (same : (k : ℕ) → k < length name → byte_at name k ≡ byte_at u k) where
  abbrev named : List ℕ
  named = name ++ codes ":"

  named_size : length (name ++ codes ":") ≡ length name + 1
  named_size = length-append name (codes ":")

  agree : (k : ℕ) → k < length name → byte_at (name ++ codes ":") k ≡ byte_at u k
  agree k low = get_or_append_left name (codes ":") 0 k low ∙ same k low

  colon : byte_at (name ++ codes ":") (length name) ≡ 58
  colon = (let e : length name ≡ length name + 0 = omega arith in ap (byte_at (name ++ codes ":")) e) ∙ get_or-append-add name (codes ":") 0 0

  named_begins : lexeme_at (name ++ codes ":") 0 ≡ word
  named_begins =
      let v = name ++ codes ":" in
      let stop : IsNoSign (byte_at v (length name)) = ((λ e. absurd (omega (arith, e, colon))), (λ e. absurd (omega (arith, e, colon)))) in
      ap (λ c. lexeme_of c (byte_at v 1) (byte_at v 2) (byte_at v 3)) (agree 0 some)
      ∙ begins_again (byte_at u 0) (byte_at u 1) (byte_at u 2) (byte_at u 3) (byte_at v 1) (byte_at v 2) (byte_at v 3) p.begins
      (λ e. sign_back u v (length name) some agree stop (ap (λ c. is_comment_sign c (byte_at v 1) (byte_at v 2)) (agree 0 some) ∙ e))

  named_inner : (m : ℕ) → 1 ≤ m → m < length (name ++ codes ":") → parts_word (byte_at (name ++ codes ":") (m - 1)) (byte_at (name ++ codes ":") m) ≡ false
  named_inner m low high = elim (cases_lt m (length name)) [
    | inl l ↦ ap₂ parts_word (agree (m - 1) (omega arith)) (agree m l) ∙ or_false (m == length u) _ (p.first m low (omega arith))
    | inr l ↦ let e : m ≡ length name = omega (arith, l, high, named_size) in ap (λ b. parts_word (byte_at (name ++ codes ":") (m - 1)) b) (ap (byte_at (name ++ codes ":")) e ∙ colon)
  ]

  pub named_plain : IsPlain (name ++ codes ":")
  named_plain = plain_of (name ++ codes ":") (record {
    some = omega (arith, named_size);
    begins = named_begins;
    inner = named_inner;
    last = λ e. let at : length (name ++ codes ":") - 1 ≡ length name = omega (arith, named_size) in absurd (omega (arith, sym (ap (byte_at (name ++ codes ":")) at ∙ colon) ∙ e));
  })

some_name : (w : List ℕ) → 1 ≤ length w → w ≢ []
some_name [] h e = omega (arith, h)
some_name (b ∷ w) h e = cc

pub tokens_are_names : TokensAreNames
tokens_are_names text ts t of among s m =
    let w = text_of text t in
    let p = token_piece text ts t of among s m in (
      (λ last. plain_token w p last),
      (λ other. record { some = some_name w p.there; plain = named_plain w w p p.there (omega arith) (λ k low. refl); no_hole = other }),
    )

-- ---- parts of tokens

part_some : (part : List ℕ) → part ≢ [] → 0 < length part
part_some [] h = absurd (h refl)
part_some (b ∷ part) h = omega arith

pub parts_of_tokens_are_words : PartsOfTokensAreWords
parts_of_tokens_are_words text ts t of among s m front part back split some begins last =
    let w = text_of text t in
    let p = token_piece text ts t of among s m in
    let size : length w ≡ length front + (length part + length back) = omega (arith, ap length split, length-append front (part ++ back), length-append part back) in
    let at : (k : ℕ) → k < length part → byte_at part k ≡ byte_at w (length front + k) =
    λ k low. sym (get_or_append_left part back 0 k low) ∙ sym (get_or-append-add front (part ++ back) k 0) ∙ sym (ap (λ bs. byte_at bs (length front + k)) split) in
    plain_of part (record {
      some = part_some part some;
      begins = begins;
      inner = λ k low high.
          let before : length front + (k - 1) ≡ length front + k - 1 = omega arith in
          ap₂ parts_word (at (k - 1) (omega arith) ∙ ap (byte_at w) before) (at k high) ∙ or_false (length front + k == length w) _ (p.first (length front + k) (omega arith) (omega (arith, size)));
      last = last;
    })

-- ---- variables

-- the first bytes before a cut
cut_name : (w : List ℕ) (k : ℕ) → (is_string w ≡ false → is_special w ≡ false → IsPiece w word 0 (length w)) → is_cut w k ≡ true → IsVariableName (take k w)
cut_name w k token e =
    let two = and_parts (get_or w k 0 == 58 && nat_lt 0 k) (not (get_or w 0 0 == 34) && not (bytes_eq (take k w) (codes "HOLE"))) e in
    let place = and_parts (get_or w k 0 == 58) (nat_lt 0 k) two.0 in
    let other = and_parts (not (get_or w 0 0 == 34)) (not (bytes_eq (take k w) (codes "HOLE"))) two.1 in
    let colon : get_or w k 0 ≡ 58 = eqb-true (get_or w k 0) 58 place.0 in
    let some : 0 < k = ltb-true 0 k place.1 in
    let within : k < length w = elim (cases_lt k (length w)) [ inl l ↦ l | inr l ↦ absurd (omega (arith, colon, get_or_past w k 0 l)) ] in
    let p = token (not_true (get_or w 0 0 == 34) other.0) (long_word w (omega arith)) in
    let size : length (take k w) ≡ k = length-take-le k w (omega arith) in
    record {
      some = some_name (take k w) (omega (arith, size));
      plain = named_plain w (take k w) p (omega (arith, size)) (omega (arith, size)) (λ j low. get_or-take k w j 0 (omega (arith, low, size)));
      no_hole = λ q. both_ways _ (not_true (bytes_eq (take k w) (codes "HOLE")) other.1) ((bytes_eq-Decides (take k w) (codes "HOLE")).1 q);
    }
  where
    not_true : (b : Bool) → not b ≡ true → b ≡ false
    not_true true q = absurd (cc)
    not_true false q = refl

    long_word : (v : List ℕ) → 2 ≤ length v → is_special v ≡ false
    long_word v h = by (is_special v) refl
      where
        by : (b : Bool) → is_special v ≡ b → b ≡ false
        by true q = let m = mark_of v q in absurd (omega (arith, h, ap length m.only))
        by false q = refl

-- w is a word of a text
record IsToken (w : List ℕ) : Type 0 where
  piece : is_string w ≡ false → is_special w ≡ false → IsPiece w word 0 (length w)

name_at_cut : (ss : List SortName) (w : List ℕ) (i k : ℕ) (r : VariableReading) → IsToken w → IsIn (cut_at ss w i k) r → IsVariableName r.name
name_at_cut ss w i k r t x = by (is_cut w k) (sort_named ss (drop (k + 1) w)) refl x
  where
    by : (b : Bool) (o : Option (ℕ × ℕ)) → is_cut w k ≡ b → IsIn (if b then with_sort (take k w) (i + 1) o else []) r → IsVariableName r.name
    by true None e y = absurd (in_none r y)
    by true (Some s) e y = subst (λ (q : VariableReading). IsVariableName q.name) (in_one _ r y) (cut_name w k t.piece e)
    by false o e y = absurd (in_none r y)

name_in_cuts : (ss : List SortName) (w : List ℕ) (i n : ℕ) (r : VariableReading) → IsToken w → IsIn (cuts_to ss w i n) r → IsVariableName r.name
name_in_cuts ss w i zero r t x = absurd (in_none r x)
name_in_cuts ss w i (suc n) r t x = by (in_parts (cuts_to ss w i n) (cut_at ss w i n) r x) (λ y. name_in_cuts ss w i n r t y)
  where
    by : IsIn (cuts_to ss w i n) r ⊎ IsIn (cut_at ss w i n) r → (IsIn (cuts_to ss w i n) r → IsVariableName r.name) → IsVariableName r.name
    by (inl y) ih = ih y
    by (inr y) ih = name_at_cut ss w i n r t y

name_of_kind : (ss : List SortName) (w : List ℕ) (i : ℕ) (us : List (List ℕ)) (r : VariableReading) → IsToken w → IsIn (kind_variable ss w i us) r → IsVariableName r.name
name_of_kind ss w i [] r t x = absurd (in_none r x)
name_of_kind ss w i (m ∷ us) r t x = by (is_cut w (length w - 1)) (bytes_eq m (codes "[")) (kind_list ss us (i + 2)) refl x
  where
    by : (b c : Bool) (o : Option (ℕ × ℕ)) → is_cut w (length w - 1) ≡ b → IsIn (if b && c then with_kind (take (length w - 1) w) o else []) r → IsVariableName r.name
    by true true None e y = absurd (in_none r y)
    by true true (Some s) e y = subst (λ (q : VariableReading). IsVariableName q.name) (in_one _ r y) (cut_name w (length w - 1) t.piece e)
    by true false o e y = absurd (in_none r y)
    by false c o e y = absurd (in_none r y)

name_of_alias : (vs : List Variable) (w : List ℕ) (i : ℕ) (r : VariableReading) → All (λ v. IsVariableName v.name) vs → IsIn (aliases_at vs w i) r → IsVariableName r.name
name_of_alias vs w i r all x =
    let y = in_mapped (as_alias i) (filter (λ v. bytes_eq v.name w) vs) r x in
    let kept = All-filter (λ (v : Variable). bytes_eq v.name w) (λ (v : Variable). IsVariableName v.name) vs all in
    let within = slice_get_within (filter (λ (v : Variable). bytes_eq v.name w) vs) y.1.0 y.0 y.1.1 in
    let own : IsVariableName y.0.name = subst (λ (v : Variable). IsVariableName v.name) (get_or_from_slice_get (filter (λ (v : Variable). bytes_eq v.name w) vs) y.1.0 y.0 y.0 y.1.1) (kept y.1.0 y.0 within) in
    subst (λ (q : VariableReading). IsVariableName q.name) y.2 own

-- ---- the tokens from a place on

first_token : (text : List ℕ) (ts : List Token) (i : ℕ) (w : List ℕ) (us : List (List ℕ)) → drop i (map (text_of text) ts) ≡ w ∷ us → (t : Token) × Contains ts t × (text_of text t ≡ w)
first_token text [] zero w us e = absurd (cc)
first_token text [] (suc i) w us e = absurd (cc)
first_token text (t ∷ ts) zero w us e = let same : text_of text t ≡ w = cc in (t, (0, omega arith, refl), same)
first_token text (t ∷ ts) (suc i) w us e = let r = first_token text ts i w us e in (r.0, (suc r.1.0, omega (arith, r.1.1), r.1.2), r.2)

readings_named : (g : GrammarOf) (text : List ℕ) (ts : List Token) → TokensOf text (Ok ts) → All (λ v. IsVariableName v.name) g.aliases → (i : ℕ) (r : VariableReading) → IsIn (readings_at g (texts_of text ts) i) r → IsVariableName r.name
readings_named g text ts of all i r x = by (drop i (texts_of text ts)) refl x
  where
    by : (us : List (List ℕ)) → drop i (texts_of text ts) ≡ us → IsIn (readings_from g us i) r → IsVariableName r.name
    by [] e y = absurd (in_none r y)
    by (w ∷ us) e y =
        let t = first_token text ts i w us e in
        let token : IsToken w = subst IsToken t.2 (record { piece = token_piece text ts t.0 of t.1 }) in
        elim (in_parts (aliases_at g.aliases w i) (cuts_to g.sorts w i (length w) ++ kind_variable g.sorts w i us) r y) [
          | inl z ↦ name_of_alias g.aliases w i r all z
          | inr q ↦ elim (in_parts (cuts_to g.sorts w i (length w)) (kind_variable g.sorts w i us) r q) [
            | inl z ↦ name_in_cuts g.sorts w i (length w) r token z
            | inr z ↦ name_of_kind g.sorts w i us r token z
          ]
        ]

-- ---- the variables of an item

-- each of these pairs has a name
abbrev AreNamed : Pairs → Type 0
AreNamed [] = Unit {0}
AreNamed (y ∷ ys) = IsVariableName y.0 × AreNamed ys

named_push : (xs : Pairs) (y : List ℕ × ℕ) → All (λ p. IsVariableName p.0) xs → IsVariableName y.0 → All (λ p. IsVariableName p.0) (with_pair xs y)
named_push xs y all n = by (list_any (same_pair y) xs)
  where
    by : (b : Bool) → All (λ p. IsVariableName p.0) (if b then xs else xs ++ y ∷ [])
    by true = all
    by false = All-push (λ (p : List ℕ × ℕ). IsVariableName p.0) xs y all n

added_named : (xs ys : Pairs) → HaveNames xs → AreNamed ys → HaveNames (added xs ys)
added_named xs [] h a = h
added_named xs (y ∷ ys) h a = added_named (with_pair xs y) ys (AreDistinct-with_pair xs y h.0, named_push xs y h.1 a.0) a.1

seen_named : (g : GrammarOf) (text : List ℕ) (ts : List Token) → TokensOf text (Ok ts) → All (λ v. IsVariableName v.name) g.aliases → (is : List ℕ) (ys : Pairs) → AreSeenAt g (texts_of text ts) is ys → AreNamed ys
seen_named g text ts of all [] [] a = tt
seen_named g text ts of all [] (y ∷ ys) a = absurd a
seen_named g text ts of all (i ∷ is) [] a = absurd a
seen_named g text ts of all (i ∷ is) (y ∷ ys) a =
    let first = a.0 in
    let name : IsVariableName first.1.name = readings_named g text ts of all i first.1 (first.0, first.2) in
    (subst (λ (p : List ℕ × ℕ). IsVariableName p.0) first.3 name, seen_named g text ts of all is ys a.1)

pub readers_keep_names : ReadersKeepNames
readers_keep_names g text ts of all goal old new b have parsed =
    let ordered = variables_are_in_order g (texts_of text ts) goal parsed.tree parsed.only.tree in
    let named = seen_named g text ts of all ordered.0 (pairs_in (pairs_of g (texts_of text ts)) parsed.tree) ordered.2 in
    subst HaveNames (sym parsed.term.vars) (added_named old (pairs_in (pairs_of g (texts_of text ts)) parsed.tree) have named)
