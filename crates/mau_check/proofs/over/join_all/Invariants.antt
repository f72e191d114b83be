use Rattle.std.proofs.Common.{List, take}
use Rattle.mau_terms.specs.Tree.{Tree, trees_of}
use Rattle.mau_signature.specs.Signature.{SignatureOf}
use Rattle.mau_store.specs.Node.{Node}
use Rattle.mau_api.specs.Terms.{holes_in}
use Rattle.mau_check.specs.Kept.{AreHoles, AreKeptFor}
use Rattle.mau_check.proofs.over.join_all.Given as goal

abbrev pub invariant-loop-arg : goal.invariant-loop-arg
invariant-loop-arg l = (s : SignatureOf) (nodes : List Node) (ts : List Tree) → AreKeptFor s nodes l.args ts → AreHoles l.holes (holes_in (trees_of (take l.arg-index ts)))
