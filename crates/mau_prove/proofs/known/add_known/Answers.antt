use Rattle.std.proofs.Common.{sym, subst}
use Rattle.mau_prove.specs.Making.{AreSomeKept}
use Rattle.mau_prove.proofs.Standing.{some_grown, pushed}
use Rattle.mau_prove.proofs.known.add_known.Goals as goal

pub kept_node-requires : goal.kept_node-requires
kept_node-requires c = record { kept = subst (AreSomeKept c.args.program.now.sig c.args.store.now) (sym c.deref.ensures.value) c.requires.kept }

pub returns-in_err-found-clause-kept : goal.returns-in_err-found-clause-kept
returns-in_err-found-clause-kept c = some_grown c.args.program.now.sig c.args.store.now c.kept_node.new.store c.kept_node.ensures.extends c.args.kept.now.items c.requires.kept

pub returns-clause-kept : goal.returns-clause-kept
returns-clause-kept c =
    let s = c.args.program.now.sig in
    let new = c.kept_node.new.store in
    let grown = some_grown s c.args.store.now new c.kept_node.ensures.extends c.args.kept.now.items c.requires.kept in
    pushed s new c.args.kept.now.items c.push_kept.new.kept.items c.own.result c.push_kept.result c.push_kept.ensures.added c.push_kept.ensures.unchanged grown (c.own.ensures s new c.in_ok-found.ensures.one)
