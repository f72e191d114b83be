-- Subsort pairs in the numbers of a table.
use Rattle.std.proofs.Common.{◌≡◌, ◌<◌, ℕ, List, length, get_or, map, sym, ap, ap₂, subst, ◌∙◌}
use Rattle.std.specs.Prelude.{All}
use Rattle.mau_module.specs.Numbering.{number_in, sort_to, pair_to}
use Rattle.mau_module.proofs.Numbers.{in_table}

pub pair_in_table : (olds news : List (List ℕ)) (t : List ℕ) (p : ℕ × ℕ) → t ≡ map (number_in news) olds → p.0 < length olds → p.1 < length olds
    → (get_or t p.0 0, get_or t p.1 0) ≡ pair_to olds news p
pair_in_table olds news t p e l m =
    let one : get_or t p.0 0 ≡ sort_to olds news p.0 = ap (λ xs. get_or xs p.0 0) e ∙ in_table olds news p.0 l in
    let two : get_or t p.1 0 ≡ sort_to olds news p.1 = ap (λ xs. get_or xs p.1 0) e ∙ in_table olds news p.1 m in
    let both : ℕ → ℕ → ℕ × ℕ = λ a b. (a, b) in ap₂ both one two

pub pair_within : (n : ℕ) (t : List ℕ) (p q : ℕ × ℕ) → All (λ s. s < n) t → p.0 < length t → p.1 < length t → q ≡ (get_or t p.0 0, get_or t p.1 0)
    → (q.0 < n) × (q.1 < n)
pair_within n t p q all l m e = subst (λ (r : ℕ × ℕ). (r.0 < n) × (r.1 < n)) (sym e) (all p.0 0 l, all p.1 0 m)
