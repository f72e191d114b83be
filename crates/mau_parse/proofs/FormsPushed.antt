-- The parts of a production, one more at the end; the number of a word.
use Rattle.std.proofs.Common.{◌≡◌, ℕ, zero, suc, ◌+◌, ◌<◌, List, [], ◌∷◌, ◌++◌, length, get_or, drop, true, false, refl, ◌∙◌, ap, arith, bytes_eq, if◌then◌else◌}
use Rattle.mau_grammar.specs.declared.production.Part.{Part}
use Rattle.mau_chart.specs.declared.grammar.Piece.{Piece}
use Rattle.mau_parse.specs.Charted.{word_number, IsPieceOf, ArePiecesOf}

pub pieces_more : (ws : List (List ℕ)) (ps : List Part) (cs : List Piece) (p : Part) (c : Piece) → ArePiecesOf ws ps cs → IsPieceOf ws p c → ArePiecesOf ws (ps ++ p ∷ []) (cs ++ c ∷ [])
pieces_more ws [] [] p c a x = (x, tt)
pieces_more ws [] (d ∷ cs) p c a x = absurd a
pieces_more ws (q ∷ ps) [] p c a x = absurd a
pieces_more ws (q ∷ ps) (d ∷ cs) p c a x = (a.0, pieces_more ws ps cs p c a.1 x)

-- the first words are others
pub number_on : (v : List ℕ) (ws : List (List ℕ)) (w : List ℕ) → bytes_eq v w ≡ false → word_number (v ∷ ws) w ≡ word_number ws w + 1
number_on v ws w e = ap (λ b. if b then 0 else word_number ws w + 1) e

pub number_here : (v : List ℕ) (ws : List (List ℕ)) (w : List ℕ) → bytes_eq v w ≡ true → word_number (v ∷ ws) w ≡ 0
number_here v ws w e = ap (λ b. if b then 0 else word_number ws w + 1) e

drop_step : (ws : List (List ℕ)) (i : ℕ) → i < length ws → drop i ws ≡ get_or ws i [] ∷ drop (suc i) ws
drop_step [] i h = absurd (omega arith)
drop_step (v ∷ ws) zero h = refl
drop_step (v ∷ ws) (suc i) h = drop_step ws i (omega arith)

-- the word at i is the one that is looked for, or another
pub found_at : (ws : List (List ℕ)) (w : List ℕ) (i n : ℕ) → i < length ws → bytes_eq (get_or ws i []) w ≡ true → i + word_number (drop i ws) w ≡ n → i ≡ n
found_at ws w i n h e p = omega (arith, p, ap (λ us. word_number us w) (drop_step ws i h) ∙ number_here (get_or ws i []) (drop (suc i) ws) w e)

pub passed_at : (ws : List (List ℕ)) (w : List ℕ) (i j n : ℕ) → j ≡ i + 1 → i < length ws → bytes_eq (get_or ws i []) w ≡ false → i + word_number (drop i ws) w ≡ n → j + word_number (drop j ws) w ≡ n
passed_at ws w i j n ej h e p =
    let x = ap (λ us. word_number us w) (drop_step ws i h) ∙ number_on (get_or ws i []) (drop (suc i) ws) w e in
    let q : suc i ≡ j = omega (arith, ej) in
    let y : word_number (drop (suc i) ws) w ≡ word_number (drop j ws) w = ap (λ k. word_number (drop k ws) w) q in
    omega (arith, p, x, y, ej)
