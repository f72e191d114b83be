use Rattle.mau_modtext.proofs.ItemLemmas.{every_text_has_items_lem}
use Rattle.mau_modtext.proofs.laws.every_text_has_items.Goals as goal

pub returns : goal.returns
returns c = every_text_has_items_lem
