-- Cuts at a colon, and lists of sorts from a place on.
use Rattle.std.proofs.Common.{◌≡◌, ℕ, suc, ◌+◌, ◌≤◌, ◌<◌, List, [], ◌∷◌, length, drop, get_or, Bool, true, false, ◌&&◌, if◌then◌else◌, Option, Some, None, codes, bytes_eq, refl, sym, ◌∙◌, ap, eqb-true, arith}
use Rattle.std.proofs.Math.Seq.{drop-cons}
use Rattle.std.proofs.lemmas.List.{length-drop}
use Rattle.mau_grammar.specs.declared.sorts.SortName.{SortName}
use Rattle.mau_grammar.specs.Leaves.{is_cut, sort_named, kind_list, kind_with, if_kind}

first_true : (a b : Bool) → (a && b) ≡ true → a ≡ true
first_true true b e = refl
first_true false b e = cc

pub cut_colon : (w : List ℕ) (k : ℕ) → is_cut w k ≡ true → get_or w k 0 ≡ 58
cut_colon w k e = eqb-true (get_or w k 0) 58 (first_true _ _ (first_true _ _ e))

short : (ss : List SortName) (ws : List (List ℕ)) (i : ℕ) → length ws ≤ 1 → kind_list ss ws i ≡ None
short ss [] i h = refl
short ss (w ∷ []) i h = refl
short ss (w ∷ m ∷ ws) i h = absurd (omega arith)

pub kinds_short : (ss : List SortName) (ws : List (List ℕ)) (i : ℕ) → length ws ≤ i + 1 → kind_list ss (drop i ws) i ≡ None
kinds_short ss ws i h = short ss (drop i ws) i (omega (arith, length-drop i ws))

kinds_here : (ss : List SortName) (ws : List (List ℕ)) (i : ℕ) → i + 1 < length ws
    → kind_list ss (drop i ws) i ≡ kind_with (sort_named ss (get_or ws i [])) (get_or ws (i + 1) []) i (kind_list ss (drop (i + 2) ws) (i + 2))
kinds_here ss ws i h =
    let one : suc i ≡ i + 1 = omega arith in
    let two : suc (suc i) ≡ i + 2 = omega arith in
    let first : i < length ws = omega arith in
    let second : suc i < length ws = omega arith in
    ap (λ us. kind_list ss us i) (drop-cons ws i [] first ∙ ap (λ us. get_or ws i [] ∷ us) (drop-cons ws (suc i) [] second))
    ∙ ap (λ n. kind_with (sort_named ss (get_or ws i [])) (get_or ws n []) i (kind_list ss (drop (suc (suc i)) ws) (i + 2))) one
    ∙ ap (λ n. kind_with (sort_named ss (get_or ws i [])) (get_or ws (i + 1) []) i (kind_list ss (drop n ws) (i + 2))) two

-- behind `,` the rest counts
comma : (s : ℕ × ℕ) (m : List ℕ) (i : ℕ) (rest : Option (ℕ × ℕ)) → bytes_eq m (codes "]") ≡ false → bytes_eq m (codes ",") ≡ true → kind_with (Some s) m i rest ≡ if_kind s.1 rest
comma s m i rest e h = ap (λ b. if b then Some (s.1, i + 2) else (if bytes_eq m (codes ",") then if_kind s.1 rest else None)) e ∙ ap (λ b. if b then if_kind s.1 rest else None) h

pub kinds_next : (ss : List SortName) (ws : List (List ℕ)) (i : ℕ) (s : ℕ × ℕ) (m : List ℕ) (r : Option (ℕ × ℕ)) → i + 1 < length ws → sort_named ss (get_or ws i []) ≡ Some s → m ≡ get_or ws (i + 1) []
    → bytes_eq m (codes "]") ≡ false → bytes_eq m (codes ",") ≡ true → kind_list ss (drop (i + 2) ws) (i + 2) ≡ r → kind_list ss (drop i ws) i ≡ if_kind s.1 r
kinds_next ss ws i s m r l e h p q k =
    kinds_here ss ws i l
    ∙ ap (λ o. kind_with o (get_or ws (i + 1) []) i (kind_list ss (drop (i + 2) ws) (i + 2))) e
    ∙ ap (λ v. kind_with (Some s) v i (kind_list ss (drop (i + 2) ws) (i + 2))) (sym h)
    ∙ ap (kind_with (Some s) m i) k
    ∙ comma s m i r p q
