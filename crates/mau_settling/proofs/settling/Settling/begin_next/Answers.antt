use Rattle.std.proofs.Common.{◌<◌, ◌≤◌, ◌+◌, length, drop, subst, arith}
use Rattle.std.proofs.lemmas.Grind.{common_steps}
use Rattle.mau_store.specs.View.{numbers}
use Rattle.mau_settling.specs.Settlings.{AreLeft, left_of}
use Rattle.mau_settling.proofs.Due.{places_stay}
use Rattle.mau_settling.proofs.Roots.{left_past, none_left}
use Rattle.mau_settling.proofs.Begun.{first_can_begin}
use Rattle.mau_settling.proofs.States.{root_at, root_term, path_in, path_of, due_of, settling_stays, current_begun, is_first, is_end, no_places, current_is, all_settled}
use Rattle.mau_settling.proofs.settling.Settling.begin_next.Goals as goal

pub first_unsettled-requires-clause-root : goal.first_unsettled-requires-clause-root
first_unsettled-requires-clause-root g c =
    let roots = c.args.self.now.roots.items in
    let at = c.args.self.now.at in
    let low : at < length roots = grind (arith, common_steps, c.len.ensures, c.if-self-len.true) in
    (root_term c.args.program.now.sig c.args.store.now roots at c.index-root.result.now low c.index-root.ensures c.requires.settling.roots).within.there

pub first_unsettled-requires-clause-path : goal.first_unsettled-requires-clause-path
first_unsettled-requires-clause-path g c =
    let s = c.args.program.now.sig in
    let roots = c.args.self.now.roots.items in
    let at = c.args.self.now.at in
    let root = c.index-root.result.now in
    let low : at < length roots = grind (arith, common_steps, c.len.ensures, c.if-self-len.true) in
    let first = root_at roots at root low c.index-root.ensures in
    path_in c.args.store.now c.args.table.now (left_of c.args.self.now) root.0 (drop (at + 1) (numbers roots)) first c.args.self.now.path.items c.requires.settling.path

pub begin_one-requires-clause-begins : goal.begin_one-requires-clause-begins
begin_one-requires-clause-begins g c =
    let s = c.args.program.now.sig in
    let roots = c.args.self.now.roots.items in
    let at = c.args.self.now.at in
    let root = c.index-root.result.now in
    let low : at < length roots = grind (arith, common_steps, c.len.ensures, c.if-self-len.true) in
    let first = root_at roots at root low c.index-root.ensures in
    let term = root_term s c.args.store.now roots at root low c.index-root.ensures c.requires.settling.roots in
    first_can_begin s c.requires.signature c.args.store.now c.has_nodes.ensures c.args.table.now c.args.self.now.term.0 root.0 (drop (at + 1) (numbers roots)) c.in-Some.id.0 term c.requires.settling.over c.requires.settling.closed
    (subst (AreLeft s c.args.store.now c.args.table.now c.args.self.now.term.0) first c.requires.settling.left)
    (is_first c.args.store.now c.args.table.now root.0 c.in_ok-id.field-0 c.in-Some.id c.in-Some.is c.in_ok-id.ensures.first)

pub returns-in_ok-self-in-Some-clause-settling : goal.returns-in_ok-self-in-Some-clause-settling
returns-in_ok-self-in-Some-clause-settling g c =
    let s = c.args.program.now.sig in
    let roots = c.args.self.now.roots.items in
    let at = c.args.self.now.at in
    let root = c.index-root.result.now in
    let low : at < length roots = grind (arith, common_steps, c.len.ensures, c.if-self-len.true) in
    let first = root_at roots at root low c.index-root.ensures in
    let left = left_of c.args.self.now in
    let later = c.begin_one.ensures.later in
    let h = settling_stays c.args.program.now c.args.store.now c.begin_one.new.store later.extends c.args.table.now c.begin_one.new.table later.kept later.over later.closed c.args.self.now c.requires.settling in
    let due = (is_first c.args.store.now c.args.table.now root.0 c.in_ok-id.field-0 c.in-Some.id c.in-Some.is c.in_ok-id.ensures.first).due in
    record {
      over = h.over;
      closed = h.closed;
      term = h.term;
      roots = h.roots;
      left = h.left;
      path = places_stay c.args.store.now c.begin_one.new.store later.extends c.args.table.now c.begin_one.new.table later.kept left c.first_unsettled.new.path.items
          (path_of c.args.store.now c.args.table.now left root.0 (drop (at + 1) (numbers roots)) first c.first_unsettled.new.path.items c.in_ok-id.ensures.path);
      current = current_begun c.args.program.now c.args.store.now c.begin_one.new.store later.extends c.args.table.now c.begin_one.new.table later.kept later.over left c.in-Some.id
          (due_of c.args.store.now c.args.table.now left root.0 (drop (at + 1) (numbers roots)) first c.in-Some.id.0 due) c.in_ok-self-in-Some.field-0 c.in_ok-self-in-Some.ensures.stands c.in_ok-self-in-Some.ensures.term;
    }

pub returns-in-None-clause-settling : goal.returns-in-None-clause-settling
returns-in-None-clause-settling g c =
    let s = c.args.program.now.sig in
    let roots = c.args.self.now.roots.items in
    let at = c.args.self.now.at in
    let root = c.index-root.result.now in
    let low : at < length roots = grind (arith, common_steps, c.len.ensures, c.if-self-len.true) in
    let first = root_at roots at root low c.index-root.ensures in
    let term = root_term s c.args.store.now roots at root low c.index-root.ensures c.requires.settling.roots in
    let end = is_end c.args.store.now c.args.table.now root.0 c.in_ok-id.field-0 c.first_unsettled.new.path.items c.in-None.is c.in_ok-id.ensures.none c.in_ok-id.ensures.end in
    record {
      over = c.requires.settling.over;
      closed = c.requires.settling.closed;
      term = c.requires.settling.term;
      roots = c.requires.settling.roots;
      left = left_past s c.args.store.now c.args.table.now c.args.self.now.term.0 root.0 (drop (at + 1) (numbers roots))
          (subst (AreLeft s c.args.store.now c.args.table.now c.args.self.now.term.0) first c.requires.settling.left) term.within.there end.0;
      path = no_places c.args.store.now c.args.table.now (drop (at + 1) (numbers roots)) c.first_unsettled.new.path.items end.1;
      current = current_is _ c.args.self.now.current c.requires.none;
    }

pub returns-clause-stage : goal.returns-clause-stage
returns-clause-stage g c =
    let roots = c.args.self.now.roots.items in
    let at = c.args.self.now.at in
    let past : length roots ≤ at = grind (arith, common_steps, c.len.ensures, c.if-self-len.false) in
    all_settled c.args.program.now.sig c.args.store.now c.has_nodes.ensures c.args.table.now c.requires.settling.closed c.args.self.now.term.0 (left_of c.args.self.now) (none_left roots at past) c.requires.settling.left
