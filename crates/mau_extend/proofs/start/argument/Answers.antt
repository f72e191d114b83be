use Rattle.mau_store.specs.Trees.{tree_at}
use Rattle.mau_match.proofs.Searching.{grows_nodes}
use Rattle.mau_extend.proofs.Growing.{settled_grows}
use Rattle.mau_extend.proofs.start.argument.Goals as goal

pub returns-in_err-settle_value-in-Ok-clause-grows : goal.returns-in_err-settle_value-in-Ok-clause-grows
returns-in_err-settle_value-in-Ok-clause-grows c =
    let e = c.settle_value.ensures in
    settled_grows c.args.sig.now c.args.store.now c.from_list.new.store c.args.sorts.now c.settle_value.new.sorts c.args.subject.0 c.requires.subject c.requires.over c.from_list.ensures.extends e.entries e.kept e.over e.table e.closed

pub returns-then-branch-clause-grows : goal.returns-then-branch-clause-grows
returns-then-branch-clause-grows c =
    let e = c.settle_value.ensures in
    settled_grows c.args.sig.now c.args.store.now c.from_list.new.store c.args.sorts.now c.settle_value.new.sorts c.args.subject.0 c.requires.subject c.requires.over c.from_list.ensures.extends e.entries e.kept e.over e.table e.closed

pub returns-else-branch-clause-grows : goal.returns-else-branch-clause-grows
returns-else-branch-clause-grows c =
    let e = c.settle_value.ensures in
    settled_grows c.args.sig.now c.args.store.now c.from_list.new.store c.args.sorts.now c.settle_value.new.sorts c.args.subject.0 c.requires.subject c.requires.over c.from_list.ensures.extends e.entries e.kept e.over e.table e.closed

pub returns-in-Err-NoMemory-clause-grows : goal.returns-in-Err-NoMemory-clause-grows
returns-in-Err-NoMemory-clause-grows c = grows_nodes c.args.sig.now (tree_at c.args.store.now c.args.subject.0) c.args.store.now c.from_list.new.store c.args.sorts.now c.requires.over c.from_list.ensures.extends

pub returns-in-Err-TooDeep-clause-grows : goal.returns-in-Err-TooDeep-clause-grows
returns-in-Err-TooDeep-clause-grows c = grows_nodes c.args.sig.now (tree_at c.args.store.now c.args.subject.0) c.args.store.now c.from_list.new.store c.args.sorts.now c.requires.over c.from_list.ensures.extends

pub returns-in-Err-Overflow-clause-grows : goal.returns-in-Err-Overflow-clause-grows
returns-in-Err-Overflow-clause-grows c = grows_nodes c.args.sig.now (tree_at c.args.store.now c.args.subject.0) c.args.store.now c.from_list.new.store c.args.sorts.now c.requires.over c.from_list.ensures.extends
