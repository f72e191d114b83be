use Rattle.std.proofs.Common.{refl}
use Rattle.mau_signature.proofs.Alike.{read_alike}
use Rattle.mau_signature.proofs.signature.Signature.declarations.Goals as goal

pub returns-clause-alike : goal.returns-clause-alike
returns-clause-alike c = (read_alike _ c.args.self.now c.self.inside.entries.items c.args.op.0 c.index.result.now c.deref.result.now c.self.view_is refl c.requires c.self.invariant.alike c.index.ensures c.deref.ensures.value).0

pub returns-clause-arity : goal.returns-clause-arity
returns-clause-arity c = (read_alike _ c.args.self.now c.self.inside.entries.items c.args.op.0 c.index.result.now c.deref.result.now c.self.view_is refl c.requires c.self.invariant.alike c.index.ensures c.deref.ensures.value).1
