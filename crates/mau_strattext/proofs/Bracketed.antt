-- Places outside brackets, one word further.
use Rattle.std.proofs.Common.{◌≡◌, ◌<◌, ◌≤◌, ◌-◌, ◌==◌, ◌&&◌, ℕ, suc, ◌+◌, List, [], ◌∷◌, Bool, true, false, Option, Some, None, option_map, drop, length, get_or, refl, sym, ap, ◌∙◌, subst, arith}
use Rattle.std.specs.Prelude.{if◌then◌else◌, bytes_eq}
use Rattle.mau_tokens.specs.declared.token.Token.{Token}
use Rattle.std.specs.Option.{option_map_or}
use Rattle.std.proofs.lemmas.List.{drop_more}
use Rattle.std.proofs.lemmas.Option.{slice_get-get_or}
use Rattle.mau_modtext.specs.Word.{Word}
use Rattle.mau_modtext.specs.Brackets.{opens, closes, begins, first_from, closing_from, depth_behind}
use Rattle.mau_modtext.proofs.Outside.{shifted}
use Rattle.mau_declare.specs.Words.{text_at}

-- the word at a place, with those behind it
pub record IsWordAt (ws : List Word) (i : ℕ) (text : List ℕ) (w : Word) : Type 0 where
  pub reads : text ≡ w.text
  pub rest : drop i ws ≡ w ∷ drop (i + 1) ws

-- what stands past the end
pub blank : Word
blank = record { text = []; token = record { start = 0; end = 0 } }

pub word_there : (ws : List Word) (i : ℕ) (text : List ℕ) (d : Word) → i < length ws → text ≡ text_at ws i → IsWordAt ws i text (get_or ws i d)
word_there ws i text d l e = record {
  reads = e ∙ ap (λ o. option_map_or (λ w. w.text) o []) (slice_get-get_or ws i d l);
  rest = drop_more ws i d l;
}

next : (i : ℕ) (o : Option ℕ) → shifted i (option_map suc o) ≡ shifted (i + 1) o
next i None = refl
next i (Some n) = ap (λ m. Some m) (omega arith)

module _ (test : List Word → Bool) where
  here : (d : ℕ) (w : Word) (ws : List Word) → (d == 0 && test (w ∷ ws)) ≡ true → first_from d test (w ∷ ws) ≡ Some 0
  here d w ws e = ap (λ (b : Bool). if b then Some 0 else option_map suc (first_from (depth_behind d w) test ws)) e

  not_here : (d : ℕ) (w : Word) (ws : List Word) → (d == 0 && test (w ∷ ws)) ≡ false → first_from d test (w ∷ ws) ≡ option_map suc (first_from (depth_behind d w) test ws)
  not_here d w ws e = ap (λ (b : Bool). if b then Some 0 else option_map suc (first_from (depth_behind d w) test ws)) e

  pub first_here : (ws rest : List Word) (i d : ℕ) (w : Word) → first_from 0 test ws ≡ shifted i (first_from d test rest) → rest ≡ w ∷ drop (i + 1) ws
      → (d == 0 && test (w ∷ drop (i + 1) ws)) ≡ true → Some i ≡ first_from 0 test ws
  first_here ws rest i d w inv e t = sym (inv ∙ ap (λ zs. shifted i (first_from d test zs)) e ∙ ap (shifted i) (here d w (drop (i + 1) ws) t) ∙ ap (λ m. Some m) (omega arith))

  pub first_on : (ws rest : List Word) (i d d' : ℕ) (w : Word) → first_from 0 test ws ≡ shifted i (first_from d test rest) → rest ≡ w ∷ drop (i + 1) ws
      → (d == 0 && test (w ∷ drop (i + 1) ws)) ≡ false → d' ≡ depth_behind d w → first_from 0 test ws ≡ shifted (i + 1) (first_from d' test (drop (i + 1) ws))
  first_on ws rest i d d' w inv e t h =
      inv ∙ ap (λ zs. shifted i (first_from d test zs)) e ∙ ap (shifted i) (not_here d w (drop (i + 1) ws) t) ∙ next i (first_from (depth_behind d w) test (drop (i + 1) ws))
      ∙ ap (λ n. shifted (i + 1) (first_from n test (drop (i + 1) ws))) (sym h)

closed_here : (d : ℕ) (w : Word) (ws : List Word) → (depth_behind d w == 0) ≡ true → closing_from d (w ∷ ws) ≡ Some 0
closed_here d w ws e = ap (λ (b : Bool). if b then Some 0 else option_map suc (closing_from (depth_behind d w) ws)) e

closed_later : (d : ℕ) (w : Word) (ws : List Word) → (depth_behind d w == 0) ≡ false → closing_from d (w ∷ ws) ≡ option_map suc (closing_from (depth_behind d w) ws)
closed_later d w ws e = ap (λ (b : Bool). if b then Some 0 else option_map suc (closing_from (depth_behind d w) ws)) e

pub closing_here : (ws rest : List Word) (i d d' : ℕ) (w : Word) → closing_from 0 ws ≡ shifted i (closing_from d rest) → rest ≡ w ∷ drop (i + 1) ws → d' ≡ depth_behind d w
    → (d' == 0) ≡ true → Some i ≡ closing_from 0 ws
closing_here ws rest i d d' w inv e h t =
    sym (inv ∙ ap (λ zs. shifted i (closing_from d zs)) e ∙ ap (shifted i) (closed_here d w (drop (i + 1) ws) (ap (λ n. n == 0) (sym h) ∙ t)) ∙ ap (λ m. Some m) (omega arith))

pub closing_on : (ws rest : List Word) (i d d' : ℕ) (w : Word) → closing_from 0 ws ≡ shifted i (closing_from d rest) → rest ≡ w ∷ drop (i + 1) ws → d' ≡ depth_behind d w
    → (d' == 0) ≡ false → closing_from 0 ws ≡ shifted (i + 1) (closing_from d' (drop (i + 1) ws))
closing_on ws rest i d d' w inv e h t =
    inv ∙ ap (λ zs. shifted i (closing_from d zs)) e ∙ ap (shifted i) (closed_later d w (drop (i + 1) ws) (ap (λ n. n == 0) (sym h) ∙ t))
    ∙ next i (closing_from (depth_behind d w) (drop (i + 1) ws)) ∙ ap (λ n. shifted (i + 1) (closing_from n (drop (i + 1) ws))) (sym h)

-- how deep it is behind a word, by its text
pub depth_by_text : (d d' : ℕ) (text : List ℕ) (w : Word) → text ≡ w.text → ((t : Token) → d' ≡ depth_behind d (record { text = text; token = t })) → d' ≡ depth_behind d w
depth_by_text d d' text w e h = h w.token ∙ ap (λ x. depth_behind d (record { text = x; token = w.token })) e

pub stands_by_text : (d : ℕ) (text sign : List ℕ) (w : Word) (ws : List Word) (r b : Bool) → text ≡ w.text → r ≡ (d == 0 && bytes_eq text sign) → r ≡ b
    → (d == 0 && begins sign (w ∷ ws)) ≡ b
stands_by_text d text sign w ws r b e h k = ap (λ x. d == 0 && bytes_eq x sign) (sym e) ∙ sym h ∙ k

if_small : (a b : Bool) (d n : ℕ) → d ≤ n → (if a then d + 1 else (if b then d - 1 else d)) ≤ n + 1
if_small true b d n h = omega arith
if_small false true d n h = omega arith
if_small false false d n h = omega arith

pub small_behind : (d d' i : ℕ) (w : Word) → d' ≡ depth_behind d w → d ≤ i → d' ≤ i + 1
small_behind d d' i w e h = subst (λ n. n ≤ i + 1) (sym e) (if_small (opens w) (closes w) d i h)
