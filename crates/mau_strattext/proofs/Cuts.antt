-- How fragments are cut.
use Rattle.std.proofs.Common.{◌≡◌, ◌<◌, ◌≤◌, ℕ, List, [], ◌∷◌, Bool, true, false, Some, Ok, Err, drop, length, map, ◌&&◌, refl, sym, ap, ◌∙◌}
use Rattle.std.specs.Prelude.{if◌then◌else◌}
use Rattle.std.specs.Option.{option_map_or}
use Rattle.std.proofs.lemmas.List.{drop_more, drop_all}
use Rattle.std.proofs.lemmas.Option.{slice_get-get_or}
use Rattle.mau_modtext.specs.Word.{Word}
use Rattle.mau_modtext.specs.Words.{place}
use Rattle.mau_modtext.specs.Sides.{place_or, is_allowed, fragment_by, fragment_of, sides_at, unexpected}
use Rattle.mau_modtext.specs.Faults.{and_then}
use Rattle.mau_modtext.specs.declared.fault.Fault.TheVariants.{Unexpected}
use Rattle.mau_modtext.specs.declared.raw.FragmentKind.{FragmentKind}
use Rattle.std.specs.Prelude.{bytes_eq}
use Rattle.mau_tokens.specs.declared.token.Token.{Token}
use Rattle.mau_tokens.specs.Laws.{text_of}
use Rattle.mau_modtext.specs.Words.{words_of}
use Rattle.mau_modtext.specs.Faults.{OrFault}
use Rattle.mau_modtext.specs.Brackets.{begins}
use Rattle.mau_modtext.specs.Sides.{fragment, fragment_sign}
use Rattle.mau_modtext.specs.declared.raw.RawFragment.{RawFragment}
use Rattle.mau_strattext.specs.Fragments.{is_pair, is_sort, inside, cut_words}
use Rattle.mau_declare.specs.Words.{place_at, text_at}
use Rattle.mau_strattext.proofs.Bracketed.{blank}

pub placed : (ws : List Word) (i b : ℕ) → i < length ws → place_or b (drop i ws) ≡ place_at ws i
placed ws i b l = ap (place_or b) (drop_more ws i blank l) ∙ sym (ap (λ o. option_map_or place o 0) (slice_get-get_or ws i blank l))

pub not_allowed : (ws : List Word) (i b at : ℕ) (k : FragmentKind) → i < length ws → is_allowed false k ≡ false → at ≡ place_at ws i
    → fragment_by false b ws (Some (k, i)) ≡ Err (Unexpected at)
not_allowed ws i b at k l a e =
    ap (λ (c : Bool). if c then and_then (sides_at b ws i) (λ sides. Ok (fragment_of k sides)) else unexpected (place_or b (drop i ws))) a
    ∙ ap (λ n. Err (Unexpected n)) (placed ws i b l ∙ sym e)

-- ---- words of a part, by their tokens and texts

abbrev head_of : List ℕ → List (List ℕ) → List ℕ
head_of d [] = d
head_of d (x ∷ xs) = x

abbrev tail_of : List (List ℕ) → List (List ℕ)
tail_of [] = []
tail_of (x ∷ xs) = xs

same_by_texts : (bs : List ℕ) (ws : List Word) → map (text_of bs) (map (λ w. w.token) ws) ≡ map (λ w. w.text) ws → words_of bs (map (λ w. w.token) ws) ≡ ws
same_by_texts bs [] e = refl
same_by_texts bs (w ∷ ws) e =
    let first : text_of bs w.token ≡ w.text = ap (head_of []) e in
    let one : Word → List Word → List Word = λ v vs. v ∷ vs in
    ap (λ (x : List ℕ). one (record { text = x; token = w.token }) (words_of bs (map (λ w. w.token) ws))) first ∙ ap (λ zs. w ∷ zs) (same_by_texts bs ws (ap tail_of e))

pub same_words : (bs : List ℕ) (ts : List Token) (ws : List Word) → ts ≡ map (λ w. w.token) ws → map (text_of bs) ts ≡ map (λ w. w.text) ws → words_of bs ts ≡ ws
same_words bs ts ws e h = ap (words_of bs) e ∙ same_by_texts bs ws (ap (map (text_of bs)) (sym e) ∙ h)

-- ---- pairs of parentheses

both_true : (a b : Bool) → a ≡ true → b ≡ true → (a && b) ≡ true
both_true a b e h = ap (λ (c : Bool). c && b) e ∙ h

second_false : (a b : Bool) → b ≡ false → (a && b) ≡ false
second_false true b e = e
second_false false b e = refl

pub in_pair : (last b : ℕ) (ws inner : List Word) (r : OrFault RawFragment) → is_pair ws ≡ true → inner ≡ inside ws → is_sort (fragment_sign inner) ≡ true → r ≡ fragment false last inner
    → r ≡ cut_words last b ws
in_pair last b ws inner r p e t h =
    h ∙ ap (fragment false last) e ∙ sym (ap (λ (c : Bool). if c then fragment false last (inside ws) else fragment false b ws) (both_true (is_pair ws) (is_sort (fragment_sign (inside ws))) p (ap (λ zs. is_sort (fragment_sign zs)) (sym e) ∙ t)))

pub not_in_pair : (last b : ℕ) (ws inner : List Word) (r : OrFault RawFragment) → inner ≡ inside ws → is_sort (fragment_sign inner) ≡ false → r ≡ fragment false b ws → r ≡ cut_words last b ws
not_in_pair last b ws inner r e t h =
    h ∙ sym (ap (λ (c : Bool). if c then fragment false last (inside ws) else fragment false b ws) (second_false (is_pair ws) (is_sort (fragment_sign (inside ws))) (ap (λ zs. is_sort (fragment_sign zs)) (sym e) ∙ t)))

pub no_pair : (last b : ℕ) (ws : List Word) (r : OrFault RawFragment) → is_pair ws ≡ false → r ≡ fragment false b ws → r ≡ cut_words last b ws
no_pair last b ws r p h =
    h ∙ sym (ap (λ (c : Bool). if c then fragment false last (inside ws) else fragment false b ws) (ap (λ (c : Bool). c && is_sort (fragment_sign (inside ws))) p))

pub begins_there : (ws : List Word) (i : ℕ) (sign : List ℕ) → i < length ws → bytes_eq (text_at ws i) sign ≡ begins sign (drop i ws)
begins_there ws i sign l =
    ap (λ o. bytes_eq (option_map_or (λ w. w.text) o []) sign) (slice_get-get_or ws i blank l) ∙ sym (ap (begins sign) (drop_more ws i blank l))

pub begins_behind : (ws : List Word) (i : ℕ) (sign : List ℕ) → length ws ≤ i → false ≡ begins sign (drop i ws)
begins_behind ws i sign l = sym (ap (begins sign) (drop_all i ws l))
