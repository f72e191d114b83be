use Rattle.mau_module.proofs.Signatures.{known_in}
use Rattle.mau_module.proofs.signing.pairs_in.Goals as goal

pub pairs_of-requires-clause-known : goal.pairs_of-requires-clause-known
pairs_of-requires-clause-known c = known_in c.args.library.now c.args.frame.now _ c.deref.result.now c.frame.view_is c.deref.ensures.value c.requires.known
