-- Texts that are made of words, with spaces between some of them.
use Rattle.std.proofs.Common.{◌≡◌, ℕ, inl, inr, List, [], ◌∷◌, ◌++◌, Bool, true, false, ◌||◌, All, codes, refl, sym, ap, subst, append_assoc, arith}
use Rattle.std.proofs.lemmas.List.{append-nil}
use Rattle.std.proofs.lemmas.List.Elements.{All-tail}
use Rattle.mau_tokens.specs.Lexeme.{is_separator, is_special as is_special_byte}
use Rattle.mau_grammar.specs.Parts.{is_special}
use Rattle.mau_print.specs.Written.{in_parentheses, spaced}
use Rattle.mau_print.specs.Words.{enclosed_words}
use Rattle.mau_print.specs.Readable.{IsPlain, IsFormWord}

-- a word that goes before this text ends there
abbrev pub is_end : List ℕ → Bool
is_end [] = true
is_end (b ∷ bs) = is_separator b || is_special_byte b

-- the text is made of these words, and each of them is one token in it
pub data IsJoined : List (List ℕ) → List ℕ → Type 0 where
  no_words : IsJoined [] []
  after_space : {ws : List (List ℕ)} {bs : List ℕ} → IsJoined ws bs → IsJoined ws (32 ∷ bs)
  mark_first : {ws : List (List ℕ)} {bs : List ℕ} (w : List ℕ) → is_special w ≡ true → IsJoined ws bs → IsJoined (w ∷ ws) (w ++ bs)
  plain_first : {ws : List (List ℕ)} {bs : List ℕ} (w : List ℕ) → IsPlain w → is_end bs ≡ true → IsJoined ws bs → IsJoined (w ∷ ws) (w ++ bs)

still_end : (a b : List ℕ) → is_end a ≡ true → is_end b ≡ true → is_end (a ++ b) ≡ true
still_end [] b e f = f
still_end (x ∷ a) b e f = e

-- one behind the other, where the second ends a word
pub joined_end : (us vs : List (List ℕ)) (a b : List ℕ) → IsJoined us a → IsJoined vs b → is_end b ≡ true → IsJoined (us ++ vs) (a ++ b)
joined_end us vs a b no_words q e = q
joined_end us vs a b (after_space {ws = ws} {bs = bs} r) q e = after_space (joined_end ws vs bs b r q e)
joined_end us vs a b (mark_first {ws = ws} {bs = bs} w s r) q e = subst (IsJoined (w ∷ (ws ++ vs))) (sym (append_assoc w bs b)) (mark_first w s (joined_end ws vs bs b r q e))
joined_end us vs a b (plain_first {ws = ws} {bs = bs} w s f r) q e =
    subst (IsJoined (w ∷ (ws ++ vs))) (sym (append_assoc w bs b)) (plain_first w s (still_end bs b f e) (joined_end ws vs bs b r q e))

-- ---- words

pub joined_word : (w : List ℕ) (ws : List (List ℕ)) (bs : List ℕ) → IsFormWord w → is_end bs ≡ true → IsJoined ws bs → IsJoined (w ∷ ws) (w ++ bs)
joined_word w ws bs (inl s) e r = mark_first w s r
joined_word w ws bs (inr p) e r = plain_first w p e r

pub one_word : (w : List ℕ) → IsFormWord w → IsJoined (w ∷ []) w
one_word w f = subst (IsJoined (w ∷ [])) (append-nil w) (joined_word w [] [] f refl no_words)

pub spaced_end : (ws : List (List ℕ)) → is_end (spaced false ws) ≡ true
spaced_end [] = refl
spaced_end (w ∷ ws) = refl

-- words that are parted by one space
pub joined_words : (ws : List (List ℕ)) → All IsFormWord ws → IsJoined ws (spaced true ws)
joined_words [] all = no_words
joined_words (w ∷ ws) all = joined_word w ws (spaced false ws) (all 0 [] (omega arith)) (spaced_end ws) (behind ws (All-tail IsFormWord w ws all))
  where
    behind : (vs : List (List ℕ)) → All IsFormWord vs → IsJoined vs (spaced false vs)
    behind [] all = no_words
    behind (v ∷ vs) all = after_space (joined_word v vs (spaced false vs) (all 0 [] (omega arith)) (spaced_end vs) (behind vs (All-tail IsFormWord v vs all)))

-- ---- in parentheses

pub joined_enclosed : (ws vs : List (List ℕ)) (a b : List ℕ) → IsJoined ws a → IsJoined vs b → IsJoined (enclosed_words ws ++ vs) (in_parentheses a ++ b)
joined_enclosed ws vs a b p q =
    let close : IsJoined (codes ")" ∷ vs) (codes ")" ++ b) = mark_first (codes ")") refl q in
    let inner : IsJoined (ws ++ codes ")" ∷ vs) (a ++ (codes ")" ++ b)) = joined_end ws (codes ")" ∷ vs) a (codes ")" ++ b) p close refl in
    let all : IsJoined (codes "(" ∷ (ws ++ codes ")" ∷ vs)) (codes "(" ++ (a ++ (codes ")" ++ b))) = mark_first (codes "(") refl inner in
    subst (λ us. IsJoined us (in_parentheses a ++ b)) (ap (λ us. codes "(" ∷ us) (sym (append_assoc ws (codes ")" ∷ []) vs)))
    (subst (IsJoined (codes "(" ∷ (ws ++ codes ")" ∷ vs))) (ap (λ us. codes "(" ++ us) (sym (append_assoc a (codes ")") b))) all)

pub joined_in_parentheses : (ws : List (List ℕ)) (a : List ℕ) → IsJoined ws a → IsJoined (enclosed_words ws) (in_parentheses a)
joined_in_parentheses ws a p = subst (λ us. IsJoined us (in_parentheses a)) (append-nil (enclosed_words ws)) (subst (IsJoined (enclosed_words ws ++ [])) (append-nil (in_parentheses a)) (joined_enclosed ws [] a [] p no_words))
