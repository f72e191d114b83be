use Rattle.mau_logic.proofs.AxiomsAlone.{axioms_alone_hold}
use Rattle.mau_logic.proofs.laws.axioms_alone_hold.Goals as goal

pub returns : goal.returns
returns c = axioms_alone_hold
