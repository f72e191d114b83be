-- What holds of the items of every text.
use Rattle.std.specs.Prelude.{List}
use Rattle.mau_modtext.specs.Word.{Word}
use Rattle.mau_modtext.specs.Items.{AreItems}
use Rattle.mau_modtext.specs.declared.raw.RawItem.{RawItem}

-- words of any kind have items
abbrev pub EveryTextHasItems : Type 0
EveryTextHasItems = (ws : List Word) → (items : List RawItem) × AreItems ws items
