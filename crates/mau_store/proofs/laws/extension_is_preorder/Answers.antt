use Rattle.mau_store.proofs.Growth.{extension_is_preorder}
use Rattle.mau_store.proofs.laws.extension_is_preorder.Goals as goal

pub returns : goal.returns
returns c = extension_is_preorder
