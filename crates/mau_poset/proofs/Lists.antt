-- Lists of neighbours, one neighbour more.
use Rattle.std.proofs.Common.{◌≡◌, ℕ, ◌<◌, ◌++◌, ◌∷◌, [], List, length, get_or, set, All, ⊎_elim, sym, subst, Vec}
use Rattle.std.proofs.lemmas.Bool.{cases_eq}
use Rattle.std.proofs.lemmas.List.{get_or-set_same, get_or-set_other, length-set}
use Rattle.std.proofs.lemmas.List.Elements.{All-push}
use Rattle.mau_poset.specs.Order.{Leads}
use Rattle.mau_poset.specs.Graph.{AreUppers}

-- a list of uppers with one upper more
pub AreUppers-set : {Z : Type 0} (pairs : List (ℕ × ℕ)) (lists : List (Vec ℕ Z)) (a b : ℕ) (had has : Vec ℕ Z) → a < length lists → had ≡ get_or lists a had → has.items ≡ had.items ++ b ∷ [] → Leads pairs a b → AreUppers pairs lists → AreUppers pairs (set lists a has)
AreUppers-set pairs lists a b had has within read more leads so_far i d lt =
    let lt' : i < length lists = rw length-set at lt in
    ⊎_elim
    (λ (e : i ≡ a).
    let old : All (Leads pairs a) had.items = subst (λ v. All (Leads pairs a) v.items) (sym read) (so_far a had within) in
    rw (e, get_or-set_same lists a has d within, more) (All-push (Leads pairs a) had.items b old leads))
    (λ (ne : i ≡ a → ⊥). rw (get_or-set_other lists a i has d ne) (so_far i d lt'))
    (cases_eq i a)
