use Rattle.std.proofs.Common.{List, take}
use Rattle.mau_signature.specs.Signature.{SignatureOf}
use Rattle.mau_store.specs.Node.{Node}
use Rattle.mau_logic.specs.Says.{Says}
use Rattle.mau_check.specs.Said.{AreSaid}
use Rattle.mau_check.proofs.Saids.{AreFound}
use Rattle.mau_check.proofs.said.said_all.Given as goal

abbrev pub invariant-loop-number : goal.invariant-loop-number
invariant-loop-number l = (s : SignatureOf) (nodes : List Node) (before : List Says) → AreSaid s nodes l.said before → AreFound s nodes before (take l.number-index l.numbers) l.all.items
