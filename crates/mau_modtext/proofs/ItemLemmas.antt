-- Each part of a text is an item.
use Rattle.std.proofs.Common.{◌≡◌, ℕ, zero, suc, ◌-◌, List, [], ◌∷◌, Ok, refl, ap}
use Rattle.mau_modtext.specs.Word.{Word}
use Rattle.mau_modtext.specs.Parts.{parts_from, before_parts}
use Rattle.mau_modtext.specs.Items.{item_part, item_by, keyword_of}
use Rattle.mau_modtext.specs.Laws.{EveryTextHasItems}
use Rattle.mau_modtext.specs.declared.raw.RawItem.{RawItem}

items_from : (n : ℕ) (ws : List Word) → (items : List RawItem) × (parts_from item_part n ws ≡ Ok items)
items_from n [] = ([], refl)
items_from (suc n) (w ∷ ws) = items_from n ws
items_from zero (w ∷ ws) =
    let p = item_by (keyword_of w) (w ∷ ws) in
    let more = items_from (p.1 - 1) ws in
    (p.0 ∷ more.0, ap (before_parts p.0) more.1)

pub every_text_has_items_lem : EveryTextHasItems
every_text_has_items_lem ws = items_from 0 ws
