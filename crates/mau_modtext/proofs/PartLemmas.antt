-- Parts one after another: one part further.
use Rattle.std.proofs.Common.{◌≡◌, ℕ, zero, suc, ◌-◌, ◌<◌, List, [], ◌∷◌, ◌++◌, length, drop, Ok, Err, refl, sym, ap, ◌∙◌, arith, append_assoc}
use Rattle.mau_modtext.specs.Word.{Word}
use Rattle.mau_modtext.specs.Faults.{OrFault}
use Rattle.mau_modtext.specs.Parts.{parts_from, before_parts, with_part}

-- parts behind those that were read
abbrev pub behind_parts : {X : Type 0} → List X → OrFault (List X) → OrFault (List X)
behind_parts xs (Ok ys) = Ok (xs ++ ys)
behind_parts xs (Err f) = Err f

-- the words of a part before are left out
pub skipped : {X : Type 0} (part : List Word → OrFault (X × ℕ)) (n : ℕ) (ws : List Word) → parts_from part n ws ≡ parts_from part 0 (drop n ws)
skipped part zero ws = refl
skipped part (suc n) [] = refl
skipped part (suc n) (w ∷ ws) = skipped part n ws

-- a part, and the parts behind it
pub part_then : {X : Type 0} (part : List Word → OrFault (X × ℕ)) (x : X) (n : ℕ) (ws : List Word) → part ws ≡ Ok (x, n) → 0 < n → 0 < length ws
    → parts_from part 0 ws ≡ before_parts x (parts_from part 0 (drop n ws))
part_then part x n [] e h l = absurd (omega arith)
part_then part x zero (w ∷ ws) e h l = absurd (omega arith)
part_then part x (suc n) (w ∷ ws) e h l =
    let m : suc n - 1 ≡ n = omega arith in
    ap (λ r. with_part r (λ n. parts_from part (n - 1) ws)) e ∙ ap (λ k. before_parts x (parts_from part k ws)) m ∙ ap (before_parts x) (skipped part n ws)

pub one_more : {X : Type 0} (xs : List X) (x : X) (r : OrFault (List X)) → behind_parts xs (before_parts x r) ≡ behind_parts (xs ++ x ∷ []) r
one_more xs x (Ok ys) = ap Ok (sym (append_assoc xs (x ∷ []) ys))
one_more xs x (Err f) = refl
