use Rattle.mau_signature.specs.Signature.{declarations_at}
use Rattle.mau_signature.proofs.Lows.{declared-some}
use Rattle.mau_signature.proofs.signature.Signature.declared.Goals as goal

pub returns-in-Some : goal.returns-in-Some
returns-in-Some c = record {
  value = declared-some c.args.self.now.hierarchy c.poset.result.now (declarations_at c.args.self.now c.args.op.0) c.declarations-decls.result.now c.args.sorts.now c.in-Some.result
      c.poset.ensures.value c.declarations-decls.ensures.value c.in-Some.ensures.poset c.in-Some.ensures.lowest c.requires.accepted;
}
