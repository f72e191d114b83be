use Rattle.std.proofs.Common.{sym}
use Rattle.mau_signature.proofs.KindLemmas.{other_kind-first}
use Rattle.mau_signature.proofs.judge.has_other_kind.Goals as goal

pub returns-in-Some : goal.returns-in-Some
returns-in-Some c = other_kind-first c.args.poset.now c.args.decls.now c.in-Some.first.now c.args.kind c.kind_of.result c.requires.one_kind (sym c.in-Some.ensures.value) c.kind_of.ensures.value
