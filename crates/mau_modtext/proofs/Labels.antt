-- Looking for the name that an attribute gives: one attribute further.
use Rattle.std.proofs.Common.{◌≡◌, ℕ, suc, ◌+◌, ◌<◌, ◌≤◌, List, [], ◌∷◌, length, drop, get_or, true, false, cond, Some, None, refl, sym, ap, ◌∙◌, arith, drop-cons, length-drop, codes}
use Rattle.mau_modtext.specs.Word.{Word}
use Rattle.mau_modtext.specs.Words.{is_word}
use Rattle.mau_modtext.specs.Statements.{label_given}

-- the words from i on, where two are left
two_words : (ws : List Word) (i : ℕ) (w : Word) → i + 1 < length ws → w ≡ get_or ws i w → drop i ws ≡ w ∷ get_or ws (suc i) w ∷ drop (i + 2) ws
two_words ws i w h e =
    let n : suc (suc i) ≡ i + 2 = omega arith in
    drop-cons ws i w (omega arith) ∙ ap (λ x. x ∷ drop (suc i) ws) (sym e) ∙ ap (λ r. w ∷ r) (drop-cons ws (suc i) w (omega arith)) ∙ ap (λ k. w ∷ get_or ws (suc i) w ∷ drop k ws) n

one_word : (ws : List Word) (i : ℕ) (w : Word) → i + 1 < length ws → get_or ws (suc i) w ∷ drop (i + 2) ws ≡ drop (i + 1) ws
one_word ws i w h =
    let n : suc (suc i) ≡ i + 2 = omega arith in
    let m : suc i ≡ i + 1 = omega arith in
    sym (drop-cons ws (suc i) w (omega arith) ∙ ap (λ k. get_or ws (suc i) w ∷ drop k ws) n) ∙ ap (λ k. drop k ws) m

-- behind an attribute of two words
pub behind_two : (ws : List Word) (i : ℕ) (w : Word) → i + 1 < length ws → w ≡ get_or ws i w → is_word (codes "label") w ≡ false → is_word (codes "metadata") w ≡ true
    → label_given (drop i ws) ≡ label_given (drop (i + 2) ws)
behind_two ws i w h e l m =
    ap label_given (two_words ws i w h e)
    ∙ ap (λ b. cond b (Some (get_or ws (suc i) w).token) (cond (is_word (codes "metadata") w) (label_given (drop (i + 2) ws)) (label_given (get_or ws (suc i) w ∷ drop (i + 2) ws)))) l
    ∙ ap (λ b. cond b (label_given (drop (i + 2) ws)) (label_given (get_or ws (suc i) w ∷ drop (i + 2) ws))) m

-- behind one of one word
pub behind_one : (ws : List Word) (i : ℕ) (w : Word) → i + 1 < length ws → w ≡ get_or ws i w → is_word (codes "label") w ≡ false → is_word (codes "metadata") w ≡ false
    → label_given (drop i ws) ≡ label_given (drop (i + 1) ws)
behind_one ws i w h e l m =
    ap label_given (two_words ws i w h e)
    ∙ ap (λ b. cond b (Some (get_or ws (suc i) w).token) (cond (is_word (codes "metadata") w) (label_given (drop (i + 2) ws)) (label_given (get_or ws (suc i) w ∷ drop (i + 2) ws)))) l
    ∙ ap (λ b. cond b (label_given (drop (i + 2) ws)) (label_given (get_or ws (suc i) w ∷ drop (i + 2) ws))) m
    ∙ ap label_given (one_word ws i w h)

at_most_one : (ws : List Word) → length ws ≤ 1 → label_given ws ≡ None
at_most_one [] h = refl
at_most_one (w ∷ []) h = refl
at_most_one (w ∷ v ∷ ws) h = absurd (omega arith)

-- the last word gives no name
pub none_left : (ws : List Word) (i : ℕ) → length ws ≤ i + 1 → label_given (drop i ws) ≡ None
none_left ws i h = at_most_one (drop i ws) (omega (arith, length-drop i ws))
