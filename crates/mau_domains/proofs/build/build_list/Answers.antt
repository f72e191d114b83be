use Rattle.std.proofs.Common.{◌≡◌, sym, ◌∙◌}
use Rattle.mau_signature.specs.Signature.{theory_at}
use Rattle.mau_store.specs.Trees.{trees_at}
use Rattle.mau_store.specs.View.{numbers}
use Rattle.mau_canon.specs.declared.fault.BuildFault.TheVariants.{TooDeep, Overflow, NoMemory}
use Rattle.mau_domains.proofs.Limits.{norm_of_pieces, only_memory}
use Rattle.mau_domains.proofs.build.build_list.Goals as goal

pub unreachable-requires : goal.unreachable-requires
unreachable-requires c =
    let e = only_memory (theory_at c.args.sig.now) c.args.op.0 (trees_at c.args.store.now (numbers c.args.items.now)) c.requires.items.pieces c.requires.items.within c.in-Err.fault c.in-Err.ensures.refused in
    let k : TooDeep ≡ NoMemory = sym c.in-TooDeep.is ∙ e in
    cc

pub unreachable-requires-in-Overflow : goal.unreachable-requires-in-Overflow
unreachable-requires-in-Overflow c =
    let e = only_memory (theory_at c.args.sig.now) c.args.op.0 (trees_at c.args.store.now (numbers c.args.items.now)) c.requires.items.pieces c.requires.items.within c.in-Err.fault c.in-Err.ensures.refused in
    let k : Overflow ≡ NoMemory = sym c.in-Overflow.is ∙ e in
    cc

pub returns-in-Ok-clause-ok : goal.returns-in-Ok-clause-ok
returns-in-Ok-clause-ok c =
    c.in-Ok.ensures.ok ∙ norm_of_pieces (theory_at c.args.sig.now) c.args.op.0 (trees_at c.args.store.now (numbers c.args.items.now)) c.requires.items.pieces
