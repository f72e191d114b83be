use Rattle.std.proofs.Common.{List, take}
use Rattle.std.specs.Prelude.{Option}
use Rattle.mau_terms.specs.Tree.{Tree}
use Rattle.mau_signature.specs.Signature.{SignatureOf}
use Rattle.mau_store.specs.Node.{Node}
use Rattle.mau_check.specs.Kept.{AreKept}
use Rattle.mau_check.proofs.Numbers.{ArePicked}
use Rattle.mau_check.proofs.kept.kept_all.Given as goal

abbrev pub invariant-loop-number : goal.invariant-loop-number
invariant-loop-number l = (s : SignatureOf) (nodes : List Node) (terms : List (Option Tree)) → AreKept s nodes l.kept terms → ArePicked s nodes terms (take l.number-index l.numbers) l.all.items
